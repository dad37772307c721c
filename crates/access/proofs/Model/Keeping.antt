-- Every legal operation keeps a layout sane and each of its capabilities fitting.
use Rattle.std.proofs.Common.{◌≡◌, ℕ, ◌⊎◌, refl, inl, inr, arith, rules}
use Rattle.access.specs.declared.capability.Capability.{Capability}
use Rattle.access.specs.declared.right.Right.TheVariants.{Read, Write, Grant, Store}
use Rattle.access.specs.Rights.{all_rights, In, Within, common}
use Rattle.access.specs.Model.States.{MayUse, Sane}
use Rattle.access.specs.Model.Layouts.{Layout, Lives, Present, state}
use Rattle.access.specs.Model.Confinement.{Fitting, Local}
use Rattle.access.specs.Model.Operations.{Operation, read, write, create, grant, remove, revoke, delete, Legal}
use Rattle.access.specs.Model.Operated.{operated}
use Rattle.access.proofs.Facts.{changed_elsewhere, changed_there, at_triple}
use Rattle.access.proofs.Model.Local.{use_home}
use Rattle.access.proofs.RightsSets.{common_within}

-- fewer rights fit where more do
fewer : (arrow : ℕ → ℕ → Type 0) (A B r more : ℕ) → Within r more → Fitting arrow A B more → Fitting arrow A B r
fewer arrow A B r more within fits = record {
  tied = λ some. fits.tied (either some);
  writes = λ writing. fits.writes (within Write writing);
  reads = λ reading. fits.reads (within Read reading);
}
  where
    either : In Grant r ⊎ In Store r → In Grant more ⊎ In Store more
    either (inl granting) = inl (within Grant granting)
    either (inr storing) = inr (within Store storing)

-- any rights fit within a compartment
inside : (arrow : ℕ → ℕ → Type 0) (A r : ℕ) → Fitting arrow A A r
inside arrow A r = grind arith

-- a triple that stood before, between entities that stay where they were
abbrev Old : Layout → Layout → ℕ → ℕ → ℕ → Type 0
Old l l' h t r = l.holds h t r × (l'.home h ≡ l.home h) × (l'.home t ≡ l.home t)

-- a triple that fits between present entities
abbrev New : Layout → ℕ → ℕ → ℕ → Type 0
New l h t r = (A : ℕ) × Lives l h A × (B : ℕ) × Lives l t B × Fitting l.arrow A B r

abbrev pub Good : Layout → Type 0
Good l = Sane (state l) × Local l

-- where every triple is old or new, all is well
module _ (l : Layout) (good : Good l) (op : Operation)
    (sorts : (h t r : ℕ) → (operated l op).holds h t r → Old l (operated l op) h t r ⊎ New (operated l op) h t r) where
  target : (h t r : ℕ) → Old l (operated l op) h t r ⊎ New (operated l op) h t r → Present (operated l op) t
  target = grind arith

  fitting : (h t r A B : ℕ) → Old l (operated l op) h t r ⊎ New (operated l op) h t r → Lives (operated l op) h A
      → Lives (operated l op) t B
      → Fitting l.arrow A B r
  fitting = grind arith

  sorted : Good (operated l op)
  sorted = grind arith

module _ (l : Layout) (good : Good l) where
  -- the target of a capability with Grant or Store that one may use is in one's own compartment
  target_home : (x A : ℕ) (c : Capability) → Lives l x A → MayUse (state l) x c
      → In Grant c.rights ⊎ In Store c.rights
      → Lives l c.target A
  target_home x A c lives may right =
      let (z, at_z, held) = use_home l good.0 good.1 x A c lives may in
      let (B, at) = good.0.target z c.target c.rights held in
      let same : A ≡ B = (good.1 z c.target c.rights A B held at_z at).tied right in
      rw same at

  -- the capability that a grant makes fits, since the one that it is made from does
  granted : (e R : ℕ) (c1 c2 c3 : Capability) → Legal (state l) (grant e c1 c2 R c3)
      → New (operated l (grant e c1 c2 R c3)) c3.target c2.target (common c2.rights R)
  granted e R c1 c2 c3 ((A, at_e), may1, may2, may3, granting, storing) =
      let at_1 = target_home e A c1 at_e may1 (inl granting) in
      let at_3 = target_home c1.target A c3 at_1 may3 (inr storing) in
      let (z, at_z, held) = use_home l good.0 good.1 e A c2 at_e may2 in
      let (B, at_2) = good.0.target z c2.target c2.rights held in
      let fits = good.1 z c2.target c2.rights A B held at_z at_2 in
      (A, at_3, B, at_2, fewer l.arrow A B (common c2.rights R) c2.rights (common_within c2.rights R) fits)

  -- the capability that a creation makes stays within the actor's compartment
  created : (e n : ℕ) (c1 c2 : Capability) → Legal (state l) (create e n c1 c2)
      → New (operated l (create e n c1 c2)) c2.target n all_rights
  created = search (rules, changed_elsewhere, changed_there, inside, target, target_home)

  sorts : (op : Operation) → Legal (state l) op → (h t r : ℕ) → (operated l op).holds h t r
      → Old l (operated l op) h t r ⊎ New (operated l op) h t r
  sorts (read e c) legal h t r held = inl (held, refl, refl)
  sorts (write e c) legal h t r held = inl (held, refl, refl)
  sorts (create e n c1 c2) legal h t r (inl is) =
      inr (at_triple (New (operated l (create e n c1 c2))) c2.target n all_rights h t r is (created e n c1 c2 legal))
  sorts (create e n c1 c2) legal h t r (inr (held, other)) = grind (arith, changed_elsewhere, target)
  sorts (grant e c1 c2 R c3) legal h t r (inl is) =
      inr (at_triple (New (operated l (grant e c1 c2 R c3))) c3.target c2.target (common c2.rights R) h t r is
      (granted e R c1 c2 c3 legal))
  sorts (grant e c1 c2 R c3) legal h t r (inr held) = inl (held, refl, refl)
  sorts (remove e c1 c2) legal h t r (held, _) = inl (held, refl, refl)
  sorts (revoke e c) legal h t r (held, _) = inl (held, refl, refl)
  sorts (delete e) legal h t r (held, other) = grind (arith, changed_elsewhere)

  pub good_after : (op : Operation) → Legal (state l) op → Good (operated l op)
  good_after op legal = sorted l good op (sorts op legal)
