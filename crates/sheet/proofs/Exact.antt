-- The outcome that bytes call for is the only one, and a fault is the want of a record.
use Rattle.std.proofs.Common.{◌≡◌, ℕ, ◌<◌, Bool, true, false, ◌↔◌, List, [], ◌∷◌, length, sym, refl, ap, ◌∙◌, subst, arith}
use Rattle.std.proofs.lemmas.Bool.{false≢true}
use Rattle.sheet.specs.declared.fault.Flaw.{Flaw}
use Rattle.sheet.specs.Outcomes.{Outcome, entry, end, broken, Shows, NoRecord}
use Rattle.sheet.proofs.Decoding.{one_outcome}

pub exact : (rest : List ℕ) (o : Outcome) → Shows rest o → (o' : Outcome) → (o ≡ o') ↔ Shows rest o'
exact rest o h o' = (λ e. subst (Shows rest) e h, λ h'. one_outcome rest o o' h h')

abbrev pub is_broken : Outcome → Bool
is_broken (entry said) = false
is_broken end = false
is_broken (broken flaw) = true

-- bytes with a flaw are neither the end nor a record
flawed : (rest : List ℕ) (flaw : Flaw) → Shows rest (broken flaw) → NoRecord rest
flawed rest flaw h = (some rest h, λ said stands. absurd (apart rest (entry said) h stands refl))
  where
    apart : (rest : List ℕ) (o : Outcome) → Shows rest (broken flaw) → Shows rest o → is_broken o ≡ false → ⊥
    apart rest o h h' e = false≢true (sym e ∙ ap is_broken (sym (one_outcome rest (broken flaw) o h h')))

    some : (rest : List ℕ) → Shows rest (broken flaw) → 0 < length rest
    some [] h = absurd (apart [] end h refl refl)
    some (b ∷ rest) h = omega arith

pub refusing : (rest : List ℕ) (o : Outcome) → Shows rest o → (is_broken o ≡ true) ↔ NoRecord rest
refusing rest end h = (λ e. absurd (false≢true e), λ n. absurd (omega (arith, n.0, ap length h)))
refusing rest (entry said) h = (λ e. absurd (false≢true e), λ n. absurd (n.1 said h))
refusing rest (broken flaw) h = (λ _. flawed rest flaw h, λ _. refl)
