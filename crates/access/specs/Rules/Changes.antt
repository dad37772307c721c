-- The view after each call.
use Rattle.std.specs.Prelude.{◌≡◌, ℕ, true, cond, ◌↔◌, None, Ok, Err}
use Rattle.access.specs.declared.capability.Capability.{Capability}
use Rattle.access.specs.Rights.{all_rights, common}
use Rattle.access.specs.Model.Layouts.{state}
use Rattle.access.specs.Model.Operations.{Operation, read, write, create, grant, remove, revoke, delete, Revoked}
use Rattle.access.specs.Model.Operated.{home_after}
use Rattle.access.specs.History.Calls.{Call, fill, load, accept, ask, serve, Answer}
use Rattle.access.specs.History.Accounts.{wrong_phase}
use Rattle.access.specs.Rules.Sets.{Triples, added, removed, dropped}
use Rattle.access.specs.Rules.Views.{service, View, layout, emptied, in_phase, with_homes, with_triples, ◌≗◌}
use Rattle.access.specs.Rules.Filled.{filled, loaded}
use Rattle.access.specs.Rules.Due.{Due}

-- a set without the triples that fall to e's revoking c
abbrev pub Left : View → ℕ → Capability → Triples → Type 0
Left v e c left =
    (h t r : ℕ) → (left h t r ≡ true) ↔ ((v.holds h t r ≡ true) × (Revoked (state (layout v)) e c h t r → ⊥))

-- w is v after an operation: entities are where they are in the layout after it, and the store has been told to put, take
-- or drop
abbrev pub Served : View → Operation → View → Type 0
Served v (read e c) w = w ≗ v
Served v (write e c) w = w ≗ v
Served v (create e n c1 c2) w =
    w ≗ with_triples (with_homes v (home_after (layout v) (create e n c1 c2))) (added c2.target n all_rights v.holds)
Served v (grant e c1 c2 R c3) w = w ≗ with_triples v (added c3.target c2.target (common c2.rights R) v.holds)
Served v (remove e c1 c2) w = w ≗ with_triples v (removed c1.target c2.target c2.rights v.holds)
Served v (revoke e c) w = (w ≗ with_triples v w.holds) × Left v e c w.holds
Served v (delete e) w = w ≗ with_triples (with_homes v (home_after (layout v) (delete e))) (dropped e v.holds)

abbrev pub Becomes : View → Call → Answer → View → Type 0
Becomes v (fill f) (Ok _) w = w ≗ filled v None f
Becomes v (fill f) (Err _) w = w ≗ v
Becomes v (load said ending) (Ok _) w = w ≗ loaded (emptied v) 0 said
Becomes v (load said ending) (Err refusal) w = w ≗ cond (wrong_phase refusal) v (emptied v)
Becomes v (accept marks) (Ok _) w = w ≗ in_phase v service
Becomes v (accept marks) (Err _) w = w ≗ v
Becomes v (ask q) _ w = w ≗ v
Becomes v (serve op marks) (Ok _) w = Served v op w
Becomes v (serve op marks) (Err _) w = w ≗ v

-- a call in v gets this answer and makes v into w
abbrev pub Does : View → Call → Answer → View → Type 0
Does v call answer w = Due v call answer × Becomes v call answer w
