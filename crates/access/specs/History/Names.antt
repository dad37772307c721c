-- Compartments by name: the number of a compartment is the place of its name among all that were declared.
use Rattle.std.specs.Prelude.{◌≡◌, ℕ, suc, ◌≤◌, cond, ◌↔◌, List, [], ◌∷◌, Some, None, Option, ◌≢◌}
use Rattle.std.specs.List.{slice_get}
use Rattle.std.specs.Str.{bytes_eq}
use Rattle.sheet.specs.Entries.{Entry, compartment, entity, capability, arrow}
use Rattle.access.specs.Model.States.{cap}
use Rattle.access.specs.History.Calls.{Fill, declare, place_entity, place_capability, draw_arrow}

abbrev pub next : Option ℕ → Option ℕ
next None = None
next (Some n) = Some (suc n)

-- the number of the compartment with this name; names are one if they agree in every byte
abbrev pub numbered : List ℕ → List (List ℕ) → Option ℕ
numbered name [] = None
numbered name (other ∷ names) = cond (bytes_eq name other) (Some 0) (next (numbered name names))

abbrev pub placed_in : ℕ → Option ℕ → Option Fill
placed_in number None = None
placed_in number (Some A) = Some (place_entity number A)

abbrev pub drawn : Option ℕ → Option ℕ → Option Fill
drawn None B = None
drawn (Some A) None = None
drawn (Some A) (Some B) = Some (draw_arrow A B)

-- the fill call that a record stands for; none if it has a name that is not declared
abbrev pub stands_for : List (List ℕ) → Entry → Option Fill
stands_for names (compartment name) = Some (declare name)
stands_for names (entity home number) = placed_in number (numbered home names)
stands_for names (capability holder target rights) = Some (place_capability holder (cap target rights))
stands_for names (arrow from to) = drawn (numbered from names) (numbered to names)

-- a name is found exactly where it stands whole, the first time
pub record FoundWhole : Type 0 where
  pub found : (name : List ℕ) (names : List (List ℕ)) (n : ℕ) → numbered name names ≡ Some n
      → (slice_get names n ≡ Some name) × ((k : ℕ) → slice_get names k ≡ Some name → n ≤ k)
  pub missing : (name : List ℕ) (names : List (List ℕ))
      → (numbered name names ≡ None) ↔ ((k : ℕ) → slice_get names k ≢ Some name)
