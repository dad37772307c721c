-- Chains: zero or more steps of a relation, one behind another. Every graph's chains are these.
use Rattle.std.specs.Prelude.{◌≡◌, ℕ, Bool, true}

pub data Chain (E : ℕ → ℕ → Type 0) : ℕ → ℕ → Type 0 where
  here : {x : ℕ} → Chain E x x
  step : {x y z : ℕ} → Chain E x y → E y z → Chain E x z

-- a relation that is told by a test
abbrev pub Edge : (ℕ → ℕ → Bool) → ℕ → ℕ → Type 0
Edge test x y = test x y ≡ true

-- chains join
abbrev pub Transitive : Type 0
Transitive = (g : ℕ → ℕ → Bool) (x y z : ℕ) → Chain (Edge g) x y → Chain (Edge g) y z → Chain (Edge g) x z

-- a step may also come first
abbrev pub StepFirst : Type 0
StepFirst = (g : ℕ → ℕ → Bool) (x y z : ℕ) → Edge g x y → Chain (Edge g) y z → Chain (Edge g) x z

-- more edges have all the chains
abbrev pub Monotone : Type 0
Monotone =
    (g more : ℕ → ℕ → Bool) → ((x y : ℕ) → Edge g x y → Edge more x y)
    → (x y : ℕ) → Chain (Edge g) x y → Chain (Edge more) x y

-- where edges lead both ways, chains do
abbrev pub Reversible : Type 0
Reversible =
    (g : ℕ → ℕ → Bool) → ((x y : ℕ) → Edge g x y → Edge g y x) → (x y : ℕ) → Chain (Edge g) x y → Chain (Edge g) y x

-- a set that no edge leaves keeps every chain that begins in it
abbrev pub Closed : Type 0
Closed =
    (g : ℕ → ℕ → Bool) (inside : ℕ → Bool) → ((x y : ℕ) → inside x ≡ true → Edge g x y → inside y ≡ true)
    → (x y : ℕ) → inside x ≡ true → Chain (Edge g) x y → inside y ≡ true
