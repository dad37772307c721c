-- How the seven service calls are judged.
use Rattle.std.specs.Prelude.{◌≡◌, ℕ, true, List, [], ◌∷◌, ◌≢◌}
use Rattle.refusal.specs.declared.Refusal.TheVariants as refuse
use Rattle.access.specs.declared.right.Right.TheVariants.{Read, Write, Grant, Create, Store}
use Rattle.access.specs.Rights.{all_rights, In, common}
use Rattle.access.specs.Model.Operations.{Operation, read, write, create, grant, remove, revoke, delete}
use Rattle.access.specs.Rules.Views.{service, View, Room}
use Rattle.access.specs.Rules.Checks.{Check, ◌otherwise◌}
use Rattle.access.specs.Rules.Needs.{Here, Uses, EntityNumber, RightsSet, CapabilityNumbers, LongEnough}

-- its numbers are in range
abbrev pub InRange : View → Operation → Type 0
InRange v (read e c) = EntityNumber v e × CapabilityNumbers v c
InRange v (write e c) = EntityNumber v e × CapabilityNumbers v c
InRange v (create e n c1 c2) = EntityNumber v e × EntityNumber v n × CapabilityNumbers v c1 × CapabilityNumbers v c2
InRange v (grant e c1 c2 R c3) =
    EntityNumber v e × CapabilityNumbers v c1 × CapabilityNumbers v c2 × RightsSet R × CapabilityNumbers v c3
InRange v (remove e c1 c2) = EntityNumber v e × CapabilityNumbers v c1 × CapabilityNumbers v c2
InRange v (revoke e c) = EntityNumber v e × CapabilityNumbers v c
InRange v (delete e) = EntityNumber v e

-- it has the marks that it searches with; delete does not search
abbrev pub Lent : ℕ → Operation → Type 0
Lent marks (read e c) = LongEnough marks
Lent marks (write e c) = LongEnough marks
Lent marks (create e n c1 c2) = LongEnough marks
Lent marks (grant e c1 c2 R c3) = LongEnough marks
Lent marks (remove e c1 c2) = LongEnough marks
Lent marks (revoke e c) = LongEnough marks
Lent marks (delete e) = Unit {0}

-- it is legal, and the store has room
abbrev pub legal_checks : View → Operation → List Check
legal_checks v (read e c) =
    (Here v e otherwise refuse.Absent)
    ∷ (Uses v e c otherwise refuse.Unreachable)
    ∷ (In Read c.rights otherwise refuse.MissingRight)
    ∷ []
legal_checks v (write e c) =
    (Here v e otherwise refuse.Absent)
    ∷ (Uses v e c otherwise refuse.Unreachable)
    ∷ (In Write c.rights otherwise refuse.MissingRight)
    ∷ []
legal_checks v (create e n c1 c2) =
    (Here v e otherwise refuse.Absent)
    ∷ ((Here v n → ⊥) otherwise refuse.Present)
    ∷ ((Uses v e c1 × Uses v e c2) otherwise refuse.Unreachable)
    ∷ ((In Create c1.rights × In Write c2.rights × In Store c2.rights) otherwise refuse.MissingRight)
    ∷ (Room v c2.target n all_rights otherwise refuse.Full)
    ∷ []
legal_checks v (grant e c1 c2 R c3) =
    (Here v e otherwise refuse.Absent)
    ∷ ((Uses v e c1 × Uses v e c2 × Uses v c1.target c3) otherwise refuse.Unreachable)
    ∷ ((In Grant c1.rights × In Store c3.rights) otherwise refuse.MissingRight)
    ∷ (Room v c3.target c2.target (common c2.rights R) otherwise refuse.Full)
    ∷ []
legal_checks v (remove e c1 c2) = (Here v e otherwise refuse.Absent) ∷ (Uses v e c1 otherwise refuse.Unreachable) ∷ []
legal_checks v (revoke e c) = (Here v e otherwise refuse.Absent) ∷ (Uses v e c otherwise refuse.Unreachable) ∷ []
legal_checks v (delete e) =
    (Here v e otherwise refuse.Absent)
    ∷ (((h r : ℕ) → v.holds h e r ≢ true) otherwise refuse.Held)
    ∷ []

abbrev pub service_checks : View → ℕ → Operation → List Check
service_checks v marks op =
    (v.phase ≡ service otherwise refuse.WrongPhase)
    ∷ (InRange v op otherwise refuse.OutOfRange)
    ∷ (Lent marks op otherwise refuse.ShortBuffer)
    ∷ legal_checks v op
