-- Sets of triples that are given as lists.
use Rattle.std.proofs.Common.{◌≡◌, ℕ, Bool, true, ◌&&◌, List, [], ◌∷◌, sym, ⊎_elim}
use Rattle.std.proofs.lemmas.Bool.{and_parts, or_cases, true≢false}
use Rattle.access.specs.Rules.Sets.{Triples, none, same, added}
use Rattle.access.proofs.Rules.Membership.{at_same}

abbrev pub among : List (ℕ × ℕ × ℕ) → Triples
among [] = none
among ((x, y, z) ∷ rest) = added x y z (among rest)

abbrev pub every : Triples → List (ℕ × ℕ × ℕ) → Bool
every test [] = true
every test ((x, y, z) ∷ rest) = test x y z && every test rest

-- a test that every triple of the list passes is passed by every member of the set
pub each : (test : Triples) (list : List (ℕ × ℕ × ℕ)) → every test list ≡ true
    → (h t r : ℕ) → among list h t r ≡ true → test h t r ≡ true
each test [] all h t r held = absurd (true≢false (sym held))
each test ((x, y, z) ∷ rest) all h t r held =
    let (this, others) = and_parts (test x y z) (every test rest) all in
    ⊎_elim (λ is. at_same (λ h t r. test h t r ≡ true) x y z h t r is this) (each test rest others h t r)
    (or_cases (same x y z h t r) (among rest h t r) held)
