-- The view after a fill call or a record of a sheet that is accepted.
use Rattle.std.specs.Prelude.{ℕ, ◌+◌, cond, not, ◌&&◌, ◌||◌, List, [], ◌∷◌, ◌++◌, length, Some, None, Option, ◌==◌}
use Rattle.sheet.specs.Entries.{Entry, bytes}
use Rattle.access.specs.History.Calls.{Fill, declare, place_entity, place_capability, draw_arrow}
use Rattle.access.specs.History.Names.{stands_for}
use Rattle.access.specs.Rules.Sets.{added}
use Rattle.access.specs.Rules.Views.{View, names, with_compartments, with_arrows, with_homes, with_triples}

-- `met` is where the name of a compartment was met in a sheet; an arrow that would end where it begins is not kept
abbrev pub filled : View → Option ℕ → Fill → View
filled v met (declare name) = with_compartments v (v.compartments ++ record { name = name; met = met } ∷ [])
filled v met (place_entity e A) = with_homes v (λ x. cond (x == e) (Some A) (v.home x))
filled v met (place_capability h c) = with_triples v (added h c.target c.rights v.holds)
filled v met (draw_arrow A B) = with_arrows v (λ C D. (C == A && (D == B && not (A == B))) || v.arrow C D)

abbrev pub filled_if : View → Option ℕ → Option Fill → View
filled_if v met None = v
filled_if v met (Some f) = filled v met f

-- a record at this place of a sheet has its first name two bytes on, behind the map and the name's length
abbrev pub recorded : View → ℕ → Entry → View
recorded v at said = filled_if v (Some (at + 2)) (stands_for (names v) said)

abbrev pub loaded : View → ℕ → List Entry → View
loaded v at [] = v
loaded v at (said ∷ more) = loaded (recorded v at said) (at + length (bytes said)) more
