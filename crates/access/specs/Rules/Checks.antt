-- Checks: what a call needs, in the order in which it is judged.
use Rattle.std.specs.Prelude.{◌≡◌, ◌⊎◌, List, [], ◌∷◌, Ok, Err}
use Rattle.refusal.specs.declared.Refusal.{Refusal}
use Rattle.access.specs.History.Calls.{Answer}

pub record Check : Type 1 where
  pub need : Type 0
  pub refusal : Refusal

infix 1 ◌otherwise◌
abbrev pub ◌otherwise◌ : Type 0 → Refusal → Check
need otherwise refusal = record { need = need; refusal = refusal }

-- the first need that is not met gives the answer; a call whose needs are all met is accepted
abbrev pub Answered : List Check → Answer → Type 0
Answered [] answer = answer ≡ Ok tt
Answered (check ∷ rest) answer =
    (check.need × Answered rest answer) ⊎ ((check.need → ⊥) × (answer ≡ Err check.refusal))
