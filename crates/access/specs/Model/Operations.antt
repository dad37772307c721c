-- The access model: seven operations, when each is legal, and what it does.
use Rattle.std.specs.Prelude.{◌≡◌, ℕ, ◌⊎◌, ◌≢◌}
use Rattle.access.specs.declared.capability.Capability.{Capability}
use Rattle.access.specs.declared.right.Right.TheVariants.{Read, Write, Grant, Create, Store}
use Rattle.access.specs.Rights.{all_rights, In, Within, common}
use Rattle.access.specs.Model.States.{State, Reaches, MayUse}

pub data Operation : Type 0 where
  read : (e : ℕ) (c : Capability) → Operation
  write : (e : ℕ) (c : Capability) → Operation
  create : (e n : ℕ) (c1 c2 : Capability) → Operation
  grant : (e : ℕ) (c1 c2 : Capability) (R : ℕ) (c3 : Capability) → Operation
  remove : (e : ℕ) (c1 c2 : Capability) → Operation
  revoke : (e : ℕ) (c : Capability) → Operation
  delete : (e : ℕ) → Operation

abbrev pub Legal : State → Operation → Type 0
Legal s (read e c) = s.present e × MayUse s e c × In Read c.rights
Legal s (write e c) = s.present e × MayUse s e c × In Write c.rights
Legal s (create e n c1 c2) =
    s.present e × (s.present n → ⊥) × MayUse s e c1 × MayUse s e c2
    × In Create c1.rights × In Write c2.rights × In Store c2.rights
Legal s (grant e c1 c2 R c3) =
    s.present e × MayUse s e c1 × MayUse s e c2 × MayUse s c1.target c3
    × In Grant c1.rights × In Store c3.rights
Legal s (remove e c1 c2) = s.present e × MayUse s e c1
Legal s (revoke e c) = s.present e × MayUse s e c
Legal s (delete e) = s.present e × ((h r : ℕ) → s.holds h e r → ⊥)

-- (h, t, r) is the triple in which x holds (y, z)
abbrev pub Is : ℕ → ℕ → ℕ → ℕ → ℕ → ℕ → Type 0
Is x y z h t r = (h ≡ x) × (t ≡ y) × (r ≡ z)

-- (h, t, r) falls to e's revoking c: it is over c's target, its rights are all in c, and e does not reach h
abbrev pub Revoked : State → ℕ → Capability → ℕ → ℕ → ℕ → Type 0
Revoked s e c h t r = (t ≡ c.target) × Within r c.rights × (Reaches s e h → ⊥)

abbrev pub effect : State → Operation → State
effect s (read e c) = s
effect s (write e c) = s
effect s (create e n c1 c2) = record {
  present = λ x. (x ≡ n) ⊎ s.present x;
  holds = λ h t r. Is c2.target n all_rights h t r ⊎ (s.holds h t r × (h ≢ n));
}
effect s (grant e c1 c2 R c3) = record {
  present = s.present;
  holds = λ h t r. Is c3.target c2.target (common c2.rights R) h t r ⊎ s.holds h t r;
}
effect s (remove e c1 c2) = record {
  present = s.present;
  holds = λ h t r. s.holds h t r × (Is c1.target c2.target c2.rights h t r → ⊥);
}
effect s (revoke e c) = record {
  present = s.present;
  holds = λ h t r. s.holds h t r × (Revoked s e c h t r → ⊥);
}
effect s (delete e) = record {
  present = λ x. s.present x × (x ≢ e);
  holds = λ h t r. s.holds h t r × (h ≢ e);
}
