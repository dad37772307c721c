-- What goes wrong with a field goes wrong with its record.
use Rattle.std.proofs.Common.{◌≡◌, ℕ, ◌<◌, List, [], ◌∷◌, ◌++◌, length, sym, refl, ap, ◌∙◌, arith, lit<, lit≤, length-append}
use Rattle.std.proofs.lemmas.List.{append_assoc, append-nil}
use Rattle.sheet.specs.declared.fault.Flaw.{Flaw}
use Rattle.sheet.specs.declared.fault.Flaw.TheVariants.{UnknownMap, Cut, BadLength, BadCharacter}
use Rattle.sheet.specs.Names.{LawfulName}
use Rattle.sheet.specs.Entries.{Entry, compartment, entity, capability, arrow, Lawful, bytes, spelled, compartment_map, entity_map, capability_map, arrow_map}
use Rattle.sheet.specs.Flaws.{NameFlaw, Flawed, Short, BeforeName, declaring, placing, drawing, leading}

a_name : List ℕ
a_name = 97 ∷ []

a_name_lawful : LawfulName a_name
unfolding a_name
a_name_lawful = ((lit≤ tt, lit≤ tt), (refl, tt))

longer : (name tail more end : List ℕ) → spelled name ≡ tail ++ more → spelled name ++ end ≡ tail ++ (more ++ end)
longer name tail more end e = ap (λ l. l ++ end) e ∙ append_assoc tail more end

-- a record with a cut name is cut
cut_in : {front : List ℕ} (tail name : List ℕ) → BeforeName front → LawfulName name → Short tail (spelled name)
    → (entry : Entry) × Lawful entry × Short (front ++ tail) (bytes entry)
cut_in tail name declaring l (more, some, e) = (compartment name, l, (more, some, ap (λ l. compartment_map ∷ l) e))
cut_in tail name placing l (more, some, e) =
    (entity name 0, l, (more ++ 0 ∷ [], omega (arith, length-append more (0 ∷ [])), ap (λ l. entity_map ∷ l) (longer name tail more (0 ∷ []) e)))
cut_in tail name drawing l (more, some, e) =
    (arrow name a_name, (l, a_name_lawful), (more ++ spelled a_name, omega (arith, length-append more (spelled a_name)), ap (λ l. arrow_map ∷ l) (longer name tail more (spelled a_name) e)))
cut_in tail name (leading {from} k) l (more, some, e) =
    (arrow from name, (k, l), (more, some, ap (λ l. arrow_map ∷ (spelled from ++ l)) e ∙ ap (λ l. arrow_map ∷ l) (sym (append_assoc (spelled from) tail more))))

front_some : {front : List ℕ} → BeforeName front → 0 < length front
front_some declaring = lit< tt
front_some placing = lit< tt
front_some drawing = lit< tt
front_some (leading k) = omega arith

pub bad_in : {front : List ℕ} (tail : List ℕ) → BeforeName front → (flaw : Flaw) → NameFlaw flaw tail → Flawed flaw (front ++ tail)
bad_in tail before UnknownMap h = absurd h
bad_in {front} tail before Cut (name, l, short) =
    (omega (arith, length-append front tail, front_some before), cut_in tail name before l short)
bad_in {front} tail before BadLength h = (front, tail, before, refl, h)
bad_in {front} tail before BadCharacter h = (front, tail, before, refl, h)

-- a record that ends before one of its bytes is cut
pub cut_off : (entry : Entry) (front more : List ℕ) {flaw : Flaw} {tail whole : List ℕ} → Lawful entry → bytes entry ≡ front ++ more
    → 0 < length more → 0 < length front → whole ≡ front ++ tail → flaw ≡ Cut → tail ≡ [] → Flawed flaw whole
cut_off entry front more l e some begun is cut none =
    rw (cut, is ∙ ap (λ l. front ++ l) none ∙ append-nil front) (begun, (entry, l, (more, some, e)))

pub cut_capability : (front : List ℕ) {flaw : Flaw} {tail rest : List ℕ} → length front < 3 → rest ≡ front ++ tail → flaw ≡ Cut → tail ≡ []
    → Flawed flaw (capability_map ∷ rest)
cut_capability [] h e = cut_off (capability 0 0 0) (capability_map ∷ []) (0 ∷ 0 ∷ 0 ∷ []) tt refl (lit< tt) (lit< tt) (ap (λ l. capability_map ∷ l) e)
cut_capability (h ∷ []) _ e = cut_off (capability h 0 0) (capability_map ∷ h ∷ []) (0 ∷ 0 ∷ []) tt refl (lit< tt) (lit< tt) (ap (λ l. capability_map ∷ l) e)
cut_capability (h ∷ t ∷ []) _ e = cut_off (capability h t 0) (capability_map ∷ h ∷ t ∷ []) (0 ∷ []) tt refl (lit< tt) (lit< tt) (ap (λ l. capability_map ∷ l) e)
cut_capability (h ∷ t ∷ r ∷ more) short e = absurd (omega arith)
