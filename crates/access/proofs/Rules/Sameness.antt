-- Layouts with the same entities, arrows and triples.
use Rattle.std.proofs.Common.{◌≡◌, ℕ, ◌↔◌, sym, ◌∙◌, arith}
use Rattle.access.specs.declared.capability.Capability.{Capability}
use Rattle.access.specs.Model.States.{Reaches, MayUse, Sane}
use Rattle.access.specs.Model.Layouts.{Layout, state}
use Rattle.access.specs.Model.Confinement.{Local}
use Rattle.access.specs.Model.Operations.{Operation, Legal, effect}
use Rattle.access.specs.Model.Operated.{operated}
use Rattle.access.proofs.Chaining.{widened}
use Rattle.access.proofs.Model.Keeping.{Good}

pub record Same (l l' : Layout) : Type 0 where
  pub home : (e : ℕ) → l.home e ≡ l'.home e
  pub arrow : (A B : ℕ) → l.arrow A B ↔ l'.arrow A B
  pub holds : (h t r : ℕ) → l.holds h t r ↔ l'.holds h t r

pub turned : {l l' : Layout} → Same l l' → Same l' l
turned same = record {
  home = λ e. sym (same.home e);
  arrow = λ A B. ((same.arrow A B).1, (same.arrow A B).0);
  holds = λ h t r. ((same.holds h t r).1, (same.holds h t r).0);
}

pub through : {l l' l'' : Layout} → Same l l' → Same l' l'' → Same l l''
through p q = grind arith

module _ (l l' : Layout) (same : Same l l') where
  pub sane_same : Sane (state l) → Sane (state l')
  sane_same sane = grind arith

  pub good_same : Good l → Good l'
  good_same (sane, local) = (sane_same sane, fits)
    where
      fits : Local l'
      fits h t r A B held at_h at_t =
          let fit = local h t r A B ((same.holds h t r).1 held) (same.home h ∙ at_h) (same.home t ∙ at_t) in
          record {
            tied = fit.tied;
            writes = λ writing differ. (same.arrow A B).0 (fit.writes writing differ);
            reads = λ reading differ. (same.arrow B A).0 (fit.reads reading differ);
          }

  reaches_same : (x y : ℕ) → Reaches (state l) x y → Reaches (state l') x y
  reaches_same x y = widened (λ x y (r, held, storing). (r, (same.holds x y r).0 held, storing))

module _ (l l' : Layout) (same : Same l l') where
  effect_same : (op : Operation) (h t r : ℕ) → (effect (state l) op).holds h t r → (effect (state l') op).holds h t r
  effect_same = grind (arith, reaches_same)

pub operated_same : (l l' : Layout) (op : Operation) → Same l l' → Same (operated l op) (operated l' op)
operated_same l l' op same = grind (arith, effect_same, turned)

module _ (l l' : Layout) (same : Same l l') where
  uses_same : (e : ℕ) (c : Capability) → MayUse (state l) e c → MayUse (state l') e c
  uses_same = grind (arith, reaches_same)

  pub legal_same : (op : Operation) → Legal (state l) op → Legal (state l') op
  legal_same = grind (arith, uses_same)
