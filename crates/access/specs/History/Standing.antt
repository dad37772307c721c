-- Which triples stand, told by a history.
use Rattle.std.specs.Prelude.{◌≡◌, ℕ, false, ◌⊎◌, ◌↔◌, List, [], ◌∷◌, ◌++◌, Ok, Err}
use Rattle.sheet.specs.Entries.{capability}
use Rattle.access.specs.Rights.{all_rights, common}
use Rattle.access.specs.Model.States.{State}
use Rattle.access.specs.Model.Layouts.{state}
use Rattle.access.specs.Model.Operations.{Operation, read, write, create, grant, remove, revoke, delete, Is, Revoked}
use Rattle.access.specs.History.Calls.{
  Fill,
  declare,
  place_entity,
  place_capability,
  draw_arrow,
  Call,
  fill,
  load,
  accept,
  ask,
  serve,
  Answer,
  Event,
}
use Rattle.access.specs.History.Accounts.{wrong_phase, account}

abbrev pub Among : {X : Type 0} → X → List X → Type 0
Among x [] = ⊥
Among x (y ∷ ys) = (x ≡ y) ⊎ Among x ys

abbrev pub PutsFill : Fill → ℕ → ℕ → ℕ → Type 0
PutsFill (declare name) h t r = ⊥
PutsFill (place_entity e A) h t r = ⊥
PutsFill (place_capability holder c) h t r = Is holder c.target c.rights h t r
PutsFill (draw_arrow A B) h t r = ⊥

abbrev pub PutsOp : Operation → ℕ → ℕ → ℕ → Type 0
PutsOp (read e c) h t r = ⊥
PutsOp (write e c) h t r = ⊥
PutsOp (create e n c1 c2) h t r = Is c2.target n all_rights h t r
PutsOp (grant e c1 c2 R c3) h t r = Is c3.target c2.target (common c2.rights R) h t r
PutsOp (remove e c1 c2) h t r = ⊥
PutsOp (revoke e c) h t r = ⊥
PutsOp (delete e) h t r = ⊥

-- a call with this answer puts the triple (h, t, r) there
abbrev pub Puts : Call → Answer → ℕ → ℕ → ℕ → Type 0
Puts (fill f) (Ok _) h t r = PutsFill f h t r
Puts (fill f) (Err _) h t r = ⊥
Puts (load said ending) (Ok _) h t r = Among (capability h t r) said
Puts (load said ending) (Err _) h t r = ⊥
Puts (accept marks) _ h t r = ⊥
Puts (ask q) _ h t r = ⊥
Puts (serve op marks) (Ok _) h t r = PutsOp op h t r
Puts (serve op marks) (Err _) h t r = ⊥

-- an accepted service call, made in this state, takes (h, t, r) away, if it stood; a created entity begins with nothing
abbrev pub TakesOp : State → Operation → ℕ → ℕ → ℕ → Type 0
TakesOp s (read e c) h t r = ⊥
TakesOp s (write e c) h t r = ⊥
TakesOp s (create e n c1 c2) h t r = h ≡ n
TakesOp s (grant e c1 c2 R c3) h t r = ⊥
TakesOp s (remove e c1 c2) h t r = Is c1.target c2.target c2.rights h t r
TakesOp s (revoke e c) h t r = Revoked s e c h t r
TakesOp s (delete e) h t r = h ≡ e

-- a call with this answer, after this past, takes the triple (h, t, r) away, if it stood; every load that is not refused for
-- the phase begins with nothing
abbrev pub Takes : List Event → Call → Answer → ℕ → ℕ → ℕ → Type 0
Takes past (fill f) _ h t r = ⊥
Takes past (load said ending) (Ok _) h t r = Unit {0}
Takes past (load said ending) (Err refusal) h t r = wrong_phase refusal ≡ false
Takes past (accept marks) _ h t r = ⊥
Takes past (ask q) _ h t r = ⊥
Takes past (serve op marks) (Ok _) h t r = TakesOp (state (account past).layout) op h t r
Takes past (serve op marks) (Err _) h t r = ⊥

-- none of the later events, with what was past for each, takes the triple away
abbrev pub Untaken : List Event → List Event → ℕ → ℕ → ℕ → Type 0
Untaken later past h t r =
    (after : List Event) (event : Event) (before : List Event) → later ≡ after ++ event ∷ before
    → Takes (before ++ past) event.call event.answer h t r → ⊥

-- some event of the history put the triple there, and no later one took it away
abbrev pub Stands : List Event → ℕ → ℕ → ℕ → Type 0
Stands history h t r =
    (later : List Event) × (event : Event) × (earlier : List Event) × (history ≡ later ++ event ∷ earlier)
    × Puts event.call event.answer h t r × Untaken later (event ∷ earlier) h t r

-- the account has exactly the triples that stand by the history
abbrev pub Standing : Type 0
Standing = (history : List Event) (h t r : ℕ) → (account history).layout.holds h t r ↔ Stands history h t r
