-- The laws of chains, for every relation.
use Rattle.std.proofs.Common.{ℕ}
use Rattle.access.specs.Chains.{Chain, here, step}

module _ {E : ℕ → ℕ → Type 0} where
  pub joined : {x y z : ℕ} → Chain E x y → Chain E y z → Chain E x z
  joined c here = c
  joined c (step d e) = step (joined c d) e

  pub first : {x y z : ℕ} → E x y → Chain E y z → Chain E x z
  first e c = joined (step here e) c

  pub turned : ((x y : ℕ) → E x y → E y x) → {x y : ℕ} → Chain E x y → Chain E y x
  turned both here = here
  turned both (step {y = y} {z = z} c e) = first (both y z e) (turned both c)

  -- what no step leaves, no chain leaves
  pub kept : (P : ℕ → Type 0) → ((x y : ℕ) → P x → E x y → P y) → {x y : ℕ} → P x → Chain E x y → P y
  kept P stays p here = p
  kept P stays p (step {y = y} {z = z} c e) = stays y z (kept P stays p c) e

pub widened : {E F : ℕ → ℕ → Type 0} → ((x y : ℕ) → E x y → F x y) → {x y : ℕ} → Chain E x y → Chain F x y
widened more here = here
widened more (step {y = y} {z = z} c e) = step (widened more c) (more y z e)
