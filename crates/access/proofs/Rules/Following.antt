-- The view and the account after a legal operation are in the state that the model says.
use Rattle.std.proofs.Common.{◌≡◌, ℕ, ◌⊎◌, ◌↔◌, arith}
use Rattle.access.specs.Rights.{all_rights, common}
use Rattle.access.specs.Model.States.{State, Sane}
use Rattle.access.specs.Model.Layouts.{Layout, Present, state}
use Rattle.access.specs.Model.Operations.{Operation, read, write, create, grant, remove, revoke, delete, Legal, effect}
use Rattle.access.specs.History.Standing.{PutsOp}
use Rattle.access.specs.Model.Operated.{operated}
use Rattle.access.specs.Rules.Views.{View, layout, ◌≗◌}
use Rattle.access.specs.Rules.Changes.{Served}
use Rattle.access.specs.Rules.Agreement.{Alike}
use Rattle.access.proofs.Facts.{onward}
use Rattle.access.proofs.Rules.Membership.{added_is, removed_is, dropped_is}

either_way : {P : Type 0} → P ↔ P
either_way = grind arith

-- who is present after an operation
pub present_after : (l : Layout) (op : Operation) → Legal (state l) op → (x : ℕ)
    → Present (operated l op) x ↔ (effect (state l) op).present x
present_after = grind arith

-- in a sane state an absent entity holds nothing, so that nothing is lost in creating it
nothing_held : (l : Layout) (n h t r : ℕ) {P : Type 0} → Sane (state l) → (Present l n → ⊥)
    → (P ⊎ l.holds h t r) ↔ (P ⊎ (l.holds h t r × (h ≡ n → ⊥)))
nothing_held = grind arith

-- a view like another is in a state like its own
seen : (w u : View) (s : State) → w ≗ u → Alike (state (layout u)) s → Alike (state (layout w)) s
seen w u s is like = grind arith

pub serves_model : (v : View) (op : Operation) (w : View) → Sane (state (layout v)) → Legal (state (layout v)) op
    → Served v op w
    → Alike (state (layout w)) (effect (state (layout v)) op)
serves_model v (read e c) w sane legal is =
    seen w v _ is (record { present = λ x. either_way; holds = λ h t r. either_way })
serves_model v (write e c) w sane legal is =
    seen w v _ is (record { present = λ x. either_way; holds = λ h t r. either_way })
serves_model v (create e n c1 c2) w sane legal is = seen w _ _ is (record {
  present = present_after (layout v) (create e n c1 c2) legal;
  holds =
      λ h t r. onward (added_is c2.target n all_rights h t r v.holds) (nothing_held (layout v) n h t r sane legal.1);
})
serves_model v (grant e c1 c2 R c3) w sane legal is = seen w _ _ is (record {
  present = λ x. either_way;
  holds = λ h t r. added_is c3.target c2.target (common c2.rights R) h t r v.holds;
})
serves_model v (remove e c1 c2) w sane legal is = seen w _ _ is (record {
  present = λ x. either_way;
  holds = λ h t r. removed_is c1.target c2.target c2.rights h t r v.holds;
})
serves_model v (revoke e c) w sane legal (is, left) = seen w _ _ is (record { present = λ x. either_way; holds = left })
serves_model v (delete e) w sane legal is = seen w _ _ is (record {
  present = present_after (layout v) (delete e) legal;
  holds = λ h t r. dropped_is e h t r v.holds;
})

pub gainers_present : (v : View) (op : Operation) (h t r : ℕ) → Sane (state (layout v)) → Legal (state (layout v)) op
    → PutsOp op h t r
    → Present (layout v) h
gainers_present = grind arith
