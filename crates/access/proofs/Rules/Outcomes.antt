-- No call has two outcomes.
use Rattle.std.proofs.Common.{◌≡◌, ℕ, List, [], ◌∷◌, refl, arith}
use Rattle.access.specs.History.Calls.{Call, Answer}
use Rattle.access.specs.Rules.Views.{View, ◌≗◌}
use Rattle.access.specs.Rules.Changes.{Becomes, Does}
use Rattle.access.specs.Rules.Sequences.{Yields}
use Rattle.access.proofs.Rules.Judging.{one_answer}

becomes_alike : (v : View) (call : Call) (answer : Answer) (w u : View) → Becomes v call answer w
    → Becomes v call answer u → w ≗ u
becomes_alike = grind arith

pub one_outcome : (v : View) (call : Call) (one other : Answer) (w u : View) → Does v call one w → Does v call other u
    → (one ≡ other) × (w ≗ u)
one_outcome = grind (arith, becomes_alike, one_answer)

-- views that are alike are the same
same_view : (v w : View) → v ≗ w → v ≡ w
same_view v w is = grind arith

pub one_run : (v : View) (calls : List Call) (numbers others : List ℕ) → Yields v calls numbers → Yields v calls others
    → numbers ≡ others
one_run v [] [] [] p q = refl
one_run v [] [] (n ∷ ns) p q = absurd q
one_run v [] (n ∷ ns) others p q = absurd p
one_run v (call ∷ calls) [] others p q = absurd p
one_run v (call ∷ calls) (n ∷ ns) [] p q = absurd q
one_run v (call ∷ calls) (n ∷ ns) (m ∷ ms) (a, w, is, does, p) (b, u, is', does', q) = grind (arith, one_run w calls ns ms p, one_outcome, same_view)
