-- How lists of checks decide.
use Rattle.std.proofs.Common.{◌≡◌, List, [], ◌∷◌, Ok, sym, ◌∙◌, inl, inr}
use Rattle.access.specs.History.Calls.{Answer}
use Rattle.access.specs.Rules.Checks.{Check, Answered}
use Rattle.access.proofs.Facts.{ok_err}

pub one_answer : (list : List Check) (a b : Answer) → Answered list a → Answered list b → a ≡ b
one_answer [] a b p q = p ∙ sym q
one_answer (check ∷ rest) a b (inl (_, p)) (inl (_, q)) = one_answer rest a b p q
one_answer (check ∷ rest) a b (inl (met, _)) (inr (unmet, _)) = absurd (unmet met)
one_answer (check ∷ rest) a b (inr (unmet, _)) (inl (met, _)) = absurd (unmet met)
one_answer (check ∷ rest) a b (inr (_, p)) (inr (_, q)) = p ∙ sym q

-- every check's need
abbrev pub AllMet : List Check → Type 0
AllMet [] = Unit {0}
AllMet (check ∷ rest) = check.need × AllMet rest

-- an accepted call has all its needs met
pub all_met : (list : List Check) (a : Answer) → a ≡ Ok tt → Answered list a → AllMet list
all_met [] a ok p = tt
all_met (check ∷ rest) a ok (inl (met, p)) = (met, all_met rest a ok p)
all_met (check ∷ rest) a ok (inr (_, e)) = absurd (ok_err tt check.refusal (sym ok ∙ e))

-- a call with all its needs met is accepted
pub accepted : (list : List Check) (a : Answer) → AllMet list → Answered list a → a ≡ Ok tt
accepted [] a needs p = p
accepted (check ∷ rest) a (_, needs) (inl (_, p)) = accepted rest a needs p
accepted (check ∷ rest) a (met, _) (inr (unmet, _)) = absurd (unmet met)
