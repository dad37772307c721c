-- The triples that a store of some size could hold.
use Rattle.std.specs.Prelude.{◌≡◌, ℕ, ◌<◌, ◌≤◌, true, ◌&&◌, nat_le, nat_lt}
use Rattle.std.proofs.lemmas.Bool.{and_parts, leb-true, ltb-true}
use Rattle.access.specs.Rights.{all_rights}
use Rattle.access.specs.Rules.Sets.{Triples}
use Rattle.store.specs.declared.triple.Triple.{Triple}

-- what is said of three numbers, said of a triple's
abbrev pub at {ℓ} : {X : Type ℓ} → Triple → (ℕ → ℕ → ℕ → X) → X
at triple said = said triple.holder triple.target triple.rights

-- the sizes that a store can be set up with
abbrev pub LawfulSize : ℕ → Type 0
LawfulSize size = (1 ≤ size) × (size ≤ 128)

-- both are entities of a store of this size
abbrev pub AreEntities : ℕ → ℕ → ℕ → Type 0
AreEntities size h t = (h < size) × (t < size)

-- holder and target are below the size, and the rights are a set of rights
abbrev pub InRange : ℕ → ℕ → ℕ → ℕ → Type 0
InRange size h t r = (h < size) × (t < size) × (r ≤ all_rights)

-- the set of all triples in range
abbrev pub inside : ℕ → Triples
inside size h t r = nat_lt h size && (nat_lt t size && nat_le r all_rights)

-- what is inside is in range
pub inside_ranged : (size h t r : ℕ) → inside size h t r ≡ true → InRange size h t r
inside_ranged size h t r is =
    let (p, more) = and_parts _ _ is in
    let (q, s) = and_parts _ _ more in
    (ltb-true h size p, ltb-true t size q, leb-true r 31 s)
