-- Separation and flow are a matter of each capability alone.
use Rattle.std.proofs.Common.{◌≡◌, ℕ, ◌⊎◌, sym, ◌∙◌, subst, inl, inr, ⊎_elim, arith}
use Rattle.std.proofs.lemmas.Bool.{cases_eq}
use Rattle.access.specs.declared.capability.Capability.{Capability}
use Rattle.access.specs.declared.right.Right.TheVariants.{Read, Write, Grant, Store}
use Rattle.access.specs.Rights.{In}
use Rattle.access.specs.Chains.{Chain, here, step}
use Rattle.access.specs.Model.States.{Reaches, MayUse, Leaks, Connected, Sane}
use Rattle.access.specs.Model.Layouts.{Layout, Lives, Present, state, Passes}
use Rattle.access.specs.Model.Confinement.{Separate, Separation, Flow, Local}
use Rattle.access.proofs.Facts.{one_some}

module _ (l : Layout) (sane : Sane (state l)) where
  module _ (local : Local l) where
    -- reach stays at home
    pub reach_home : (x z A : ℕ) → Lives l x A → Reaches (state l) x z → Lives l z A
    reach_home x z A lives here = lives
    reach_home x z A lives (step {y = y} c (r, held, store)) =
        let (B, at) = sane.target y z r held in
        let same : A ≡ B = (local y z r A B held (reach_home x y A lives c) at).tied (inr store) in
        rw same at

    -- what one may use is held at home
    pub use_home : (x A : ℕ) (c : Capability) → Lives l x A → MayUse (state l) x c
        → (z : ℕ) × Lives l z A × l.holds z c.target c.rights
    use_home x A c lives (z, reach, held) = (z, reach_home x z A lives reach, held)

    leaks_home : (x y A B : ℕ) → Lives l x A → Lives l y B → Leaks (state l) x y → A ≡ B
    leaks_home x y A B p q (inl (r, (z, reach, held), grant)) =
        (local z y r A B held (reach_home x z A p reach) q).tied (inl grant)
    leaks_home x y A B p q (inr (z, from_x, from_y)) =
        one_some (l.home z) A B (reach_home x z A p from_x) (reach_home y z B q from_y)

    pub separate : Separate l
    separate = grind (arith, leaks_home)

    pub flow : Flow l
    flow A B (apart, x, y, p, q, inl (r, (z, reach, held), write)) =
        (local z y r A B held (reach_home x z A p reach) q).writes write apart
    flow A B (apart, x, y, p, q, inr (r, (z, reach, held), read)) =
        (local z x r B A held (reach_home y z B q reach) p).reads read (λ e. apart (sym e))

  pub to_local : Separate l → Flow l → Local l
  to_local apart flows h t r A B held p q = record { tied = tied; writes = writes; reads = reads }
    where
      tied : In Grant r ⊎ In Store r → A ≡ B
      tied (inl grant) = apart h t A B p q (inl (inl (r, (h, here, held), grant)))
      tied (inr store) = apart h t A B p q (inl (inr (t, step here (r, held, store), here)))

      writes : In Write r → (A ≡ B → ⊥) → l.arrow A B
      writes write differ = flows A B (differ, h, t, p, q, inl (r, (h, here, held), write))

      reads : In Read r → (A ≡ B → ⊥) → l.arrow B A
      reads read differ = flows B A (λ e. differ (sym e), t, h, q, p, inr (r, (h, here, held), read))

  reaching_present : (x z : ℕ) → Reaches (state l) x z → Present l z → Present l x
  reaching_present x z here p = p
  reaching_present x z (step {y = y} c (r, held, store)) p = reaching_present x y c (sane.holder y z r held)

  -- connections of a present entity are with present ones
  connected_present : (x y : ℕ) → Connected (state l) x y → Present l x → Present l y
  connected_present = grind (arith, reaching_present)

  chained_present : (x y : ℕ) → Chain (Connected (state l)) x y → Present l x → Present l y
  chained_present x y here p = p
  chained_present x y (step {y = m} c e) p = connected_present m y e (chained_present x m c p)

  pub separation : Separate l → Separation l
  separation apart x y A B p q here = one_some (l.home x) A B p q
  separation apart x y A B p q (step {y = m} c e) =
      let (M, at) = chained_present x m c (A, p) in
      separation apart x m A M p at c ∙ apart m y M B at q e

  pub from_separation : Separation l → Separate l
  from_separation apart x y A B p q e = apart x y A B p q (step here e)

  -- what passes between groups follows an arrow or stays in a compartment
  pub groups_flow : Separation l → Flow l → (x x' y y' A B : ℕ) → Lives l x A → Lives l y B
      → Chain (Connected (state l)) x x'
      → Chain (Connected (state l)) y y' → Passes l x' y' → (A ≡ B) ⊎ l.arrow A B
  groups_flow apart flows x x' y y' A B at_x at_y to_x' to_y' passes =
      ⊎_elim inl (λ differ. inr (across differ)) (cases_eq A B)
    where
      same_x : Lives l x' A
      same_x =
          let (M, at) = chained_present x x' to_x' (A, at_x) in subst (Lives l x') (sym (apart x x' A M at_x at to_x')) at

      same_y : Lives l y' B
      same_y =
          let (M, at) = chained_present y y' to_y' (B, at_y) in subst (Lives l y') (sym (apart y y' B M at_y at to_y')) at

      across : (A ≡ B → ⊥) → l.arrow A B
      across differ = flows A B (differ, x', y', same_x, same_y, passes)
