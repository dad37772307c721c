-- Sets of triples (holder, target, rights), as tests, and how many members one has.
use Rattle.std.specs.Prelude.{◌≡◌, ℕ, zero, suc, ◌+◌, Bool, true, false, cond, not, ◌&&◌, ◌||◌, ◌⊎◌, ◌==◌}

abbrev pub Triples : Type 0
Triples = ℕ → ℕ → ℕ → Bool

abbrev pub none : Triples
none h t r = false

-- the two triples are one
abbrev pub same : ℕ → ℕ → ℕ → Triples
same x y z h t r = h == x && (t == y && r == z)

abbrev pub added : ℕ → ℕ → ℕ → Triples → Triples
added x y z set h t r = same x y z h t r || set h t r

abbrev pub removed : ℕ → ℕ → ℕ → Triples → Triples
removed x y z set h t r = set h t r && not (same x y z h t r)

-- without all triples of one holder
abbrev pub dropped : ℕ → Triples → Triples
dropped x set h t r = set h t r && not (h == x)

unfoldable pub total : (ℕ → ℕ) → ℕ → ℕ
total f zero = 0
total f (suc n) = total f n + f n

-- how many capabilities of h over t are in the set
abbrev pub over : Triples → ℕ → ℕ → ℕ
over set h t = total (λ r. cond (set h t r) 1 0) 32

-- how many of h over entities below the size
abbrev pub held_by : ℕ → Triples → ℕ → ℕ
held_by size set h = total (over set h) size

-- how many triples of entities below the size are in the set
unfoldable pub members : ℕ → Triples → ℕ
members size set = total (λ h. total (λ t. total (λ r. cond (set h t r) 1 0) 32) size) size

-- a store of this size and limit can take the triple: it is full only with as many members as its limit
abbrev pub HasRoom : ℕ → ℕ → Triples → ℕ → ℕ → ℕ → Type 0
HasRoom size limit set h t r = (set h t r ≡ true) ⊎ (members size set ≡ limit → ⊥)
