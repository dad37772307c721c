-- A sheet shows the names of the compartments that were loaded from it.
use Rattle.std.proofs.Common.{◌≡◌, ℕ, zero, suc, ◌+◌, ◌<◌, ◌≤◌, List, [], ◌∷◌, ◌++◌, length, take, drop, Some, None, Option, sym, refl, ap, ◌∙◌, subst, ⊎_elim, arith, length-append, take_at, drop_at}
use Rattle.std.specs.List.{slice_get}
use Rattle.std.proofs.lemmas.List.{append_assoc}
use Rattle.std.proofs.lemmas.Bool.{cases_lt}
use Rattle.sheet.specs.Entries.{Entry, compartment, entity, capability, arrow, compartment_map, bytes, written}
use Rattle.access.specs.History.Names.{numbered, placed_in, drawn}
use Rattle.access.specs.Rules.Views.{Compartment, View, names, declared, emptied}
use Rattle.access.specs.Rules.Filled.{filled_if, recorded, loaded}
use Rattle.access.specs.Rules.Questions.{Shown}

-- the names of the compartments in this list stand in the sheet where they were met
abbrev ShownIn : List Compartment → ℕ → List ℕ → Type 0
ShownIn list A sheet =
    (c : Compartment) × (at : ℕ) × (slice_get list A ≡ Some c) × (c.met ≡ Some at) × (take (length c.name) (drop at sheet) ≡ c.name)

nth_before : (list more : List Compartment) (A : ℕ) → A < length list → slice_get (list ++ more) A ≡ slice_get list A
nth_before [] more A less = absurd (omega arith)
nth_before (c ∷ list) more zero less = refl
nth_before (c ∷ list) more (suc A) less = nth_before list more A (omega arith)

nth_last : (list : List Compartment) (c : Compartment) (A : ℕ) → A < length (list ++ c ∷ []) → (A < length list → ⊥)
    → slice_get (list ++ c ∷ []) A ≡ Some c
nth_last [] c zero less past = refl
nth_last [] c (suc A) less past = absurd (omega arith)
nth_last (d ∷ list) c zero less past = absurd (past (omega arith))
nth_last (d ∷ list) c (suc A) less past = nth_last list c A (omega arith) (λ l. past (omega arith))

-- a name behind a map and its length
name_stands : (before name rest : List ℕ) (map : ℕ)
    → take (length name) (drop (length before + 2) (before ++ map ∷ length name ∷ (name ++ rest))) ≡ name
name_stands before name rest map =
    ap (take (length name))
    (ap (drop (length before + 2)) (sym (append_assoc before (map ∷ length name ∷ []) (name ++ rest)))
    ∙ drop_at (before ++ map ∷ length name ∷ []) (name ++ rest) (length before + 2) (length-append before (map ∷ length name ∷ [])))
    ∙ take_at name rest (length name) refl

-- the sheet is these bytes before the place, then the record and the rest
module _ (before rest sheet : List ℕ) (at : ℕ) (place : length before ≡ at) where
  name_shown : (v : View) (name : List ℕ) → sheet ≡ before ++ (bytes (compartment name) ++ rest)
      → ((A : ℕ) → A < declared v → ShownIn v.compartments A sheet)
      → (A : ℕ) → A < declared (recorded v at (compartment name)) → ShownIn (recorded v at (compartment name)).compartments A sheet
  name_shown v name is shown A less = ⊎_elim earlier last (cases_lt A (declared v))
    where
      new : Compartment
      new = record { name = name; met = Some (at + 2) }

      stands : take (length name) (drop (at + 2) sheet) ≡ name
      stands =
          subst (λ (k : ℕ). take (length name) (drop (k + 2) sheet) ≡ name) place
          (subst (λ (l : List ℕ). take (length name) (drop (length before + 2) l) ≡ name) (sym is) (name_stands before name rest compartment_map))

      earlier : A < declared v → ShownIn (v.compartments ++ new ∷ []) A sheet
      earlier l =
          let (c, met_at, named, met, is_there) = shown A l in (c, met_at, nth_before v.compartments (new ∷ []) A l ∙ named, met, is_there)

      last : declared v ≤ A → ShownIn (v.compartments ++ new ∷ []) A sheet
      last l = (new, at + 2, nth_last v.compartments new A less (λ m. omega arith), refl, stands)

  one_more : (v : View) (said : Entry) → sheet ≡ before ++ (bytes said ++ rest)
      → ((A : ℕ) → A < declared v → ShownIn v.compartments A sheet)
      → (A : ℕ) → A < declared (recorded v at said) → ShownIn (recorded v at said).compartments A sheet
  one_more v (compartment name) is shown A less = name_shown v name is shown A less
  one_more v (entity home number) is shown A less = by_number (numbered home (names v)) less
    where
      by_number : (o : Option ℕ) → A < declared (filled_if v (Some (at + 2)) (placed_in number o))
          → ShownIn (filled_if v (Some (at + 2)) (placed_in number o)).compartments A sheet
      by_number None l = shown A l
      by_number (Some B) l = shown A l
  one_more v (capability holder target rights) is shown A less = shown A less
  one_more v (arrow from to) is shown A less = by_numbers (numbered from (names v)) (numbered to (names v)) less
    where
      by_numbers : (o p : Option ℕ) → A < declared (filled_if v (Some (at + 2)) (drawn o p))
          → ShownIn (filled_if v (Some (at + 2)) (drawn o p)).compartments A sheet
      by_numbers None p l = shown A l
      by_numbers (Some B) None l = shown A l
      by_numbers (Some B) (Some C) l = shown A l

all_shown : (v : View) (before sheet : List ℕ) (at : ℕ) (said : List Entry) → length before ≡ at
    → sheet ≡ before ++ written said
    → ((A : ℕ) → A < declared v → ShownIn v.compartments A sheet)
    → (A : ℕ) → A < declared (loaded v at said) → ShownIn (loaded v at said).compartments A sheet
all_shown v before sheet at [] place is shown A less = shown A less
all_shown v before sheet at (said ∷ more) place is shown A less =
    all_shown (recorded v at said) (before ++ bytes said) sheet (at + length (bytes said)) more
    (length-append before (bytes said) ∙ ap (λ (k : ℕ). k + length (bytes said)) place)
    (is ∙ sym (append_assoc before (bytes said) (written more)))
    (one_more before (written more) sheet at place v said is shown) A less

pub load_shows : (v : View) (said : List Entry) (A : ℕ) → A < declared (loaded (emptied v) 0 said)
    → Shown (loaded (emptied v) 0 said) A (written said)
load_shows v said = all_shown (emptied v) [] (written said) 0 said refl refl (λ A less. absurd (omega arith))
