-- Every list of bytes calls for one outcome at most: the one that a decoder gives.
use Rattle.std.proofs.Common.{◌≡◌, ℕ, zero, suc, ◌<◌, true, false, if◌then◌else◌, ◌&&◌, ◌==◌, leb, ◌⊎◌, List, [], ◌∷◌, ◌++◌, length, sym, refl, ap, ◌∙◌, subst, inl, inr, ⊎_elim, arith, length-append}
use Rattle.std.proofs.lemmas.List.{append_assoc, nil_from_length}
use Rattle.std.proofs.lemmas.Bool.{le-leb, leb-true, ne_eqb, and_parts, cases_Bool}
use Rattle.sheet.specs.declared.fault.Flaw.{Flaw}
use Rattle.sheet.specs.declared.fault.Flaw.TheVariants.{UnknownMap, Cut, BadLength, BadCharacter}
use Rattle.sheet.specs.Names.{name_byte, NameBytes, LawfulLength, LawfulName}
use Rattle.sheet.specs.Entries.{Entry, compartment, entity, capability, arrow, Lawful, bytes, spelled, compartment_map, entity_map, capability_map, arrow_map}
use Rattle.sheet.specs.Flaws.{NameFlaw, Short, BeforeName, declaring, placing, drawing, leading, NoMap}
use Rattle.sheet.specs.Outcomes.{Outcome, entry, end, broken, Shows}

-- a name and what stands behind it, or what is wrong with it
data Spelling : Type 0 where
  got : (name more : List ℕ) → Spelling
  bad : Flaw → Spelling

abbrev push : ℕ → Spelling → Spelling
push b (got name more) = got (b ∷ name) more
push b (bad flaw) = bad flaw

-- as many bytes as a name still lacks
abbrev letters : ℕ → List ℕ → Spelling
letters zero bs = got [] bs
letters (suc n) [] = bad Cut
letters (suc n) (b ∷ bs) = if name_byte b then push b (letters n bs) else bad BadCharacter

abbrev name_at : List ℕ → Spelling
name_at [] = bad Cut
name_at (len ∷ bs) = if leb 1 len && leb len 32 then letters len bs else bad BadLength

-- a name, and then what a kind of record goes on with
abbrev after : Spelling → (List ℕ → List ℕ → Outcome) → Outcome
after (got name more) next = next name more
after (bad flaw) next = broken flaw

abbrev placed : List ℕ → List ℕ → Outcome
placed home [] = broken Cut
placed home (number ∷ more) = entry (entity home number)

abbrev held : List ℕ → Outcome
held [] = broken Cut
held (h ∷ []) = broken Cut
held (h ∷ t ∷ []) = broken Cut
held (h ∷ t ∷ r ∷ more) = entry (capability h t r)

abbrev drawn : List ℕ → List ℕ → Outcome
drawn from more = after (name_at more) (λ to _. entry (arrow from to))

abbrev decoded : List ℕ → Outcome
decoded [] = end
decoded (map ∷ rest) =
    if map == compartment_map then after (name_at rest) (λ name _. entry (compartment name))
    else (if map == entity_map then after (name_at rest) placed
    else (if map == capability_map then held rest
    else (if map == arrow_map then after (name_at rest) drawn
    else broken UnknownMap)))

-- a whole name, and what is left of it to read
letters_whole : (name more : List ℕ) → NameBytes name → letters (length name) (name ++ more) ≡ got name more
letters_whole [] more g = refl
letters_whole (b ∷ name) more (good, g) = rw good (ap (push b) (letters_whole name more g))

letters_bad : (n : ℕ) (good more : List ℕ) (b : ℕ) → length good < n → NameBytes good → name_byte b ≡ false
    → letters n (good ++ b ∷ more) ≡ bad BadCharacter
letters_bad zero good more b h g no_name = absurd (omega arith)
letters_bad (suc n) [] more b h g no_name = rw no_name
letters_bad (suc n) (x ∷ good) more b h (is, g) no_name = rw is (ap (push x) (letters_bad n good more b (omega arith) g no_name))

letters_cut : (front more : List ℕ) → 0 < length more → NameBytes (front ++ more) → letters (length (front ++ more)) front ≡ bad Cut
letters_cut [] [] h g = absurd (omega arith)
letters_cut [] (b ∷ more) h g = refl
letters_cut (b ∷ front) more h (is, g) = rw is (ap (push b) (letters_cut front more h g))

in_range : (len : ℕ) → LawfulLength len → (leb 1 len && leb len 32) ≡ true
in_range len (low, high) = rw (le-leb 1 len low, le-leb len 32 high)

out_of_range : (len : ℕ) → (LawfulLength len → ⊥) → (leb 1 len && leb len 32) ≡ false
out_of_range len h =
    ⊎_elim (λ t. let p = and_parts _ _ t in absurd (h (leb-true 1 len p.0, leb-true len 32 p.1))) (λ f. f) (cases_Bool (leb 1 len && leb len 32))

name_whole : (name more : List ℕ) → LawfulName name → name_at (spelled name ++ more) ≡ got name more
name_whole name more (l, g) = rw (in_range (length name) l) (letters_whole name more g)

name_cut : (front name more : List ℕ) → 0 < length more → LawfulName name → spelled name ≡ front ++ more → name_at front ≡ bad Cut
name_cut [] name more some l e = refl
name_cut (len ∷ bs) name more some (l, g) e =
    let long : length name ≡ len = cc in
    let is : name ≡ bs ++ more = cc in
    rw (← long, in_range (length name) l, is) (letters_cut bs more some (subst NameBytes is g))

name_flaw : (rest : List ℕ) (flaw : Flaw) → NameFlaw flaw rest → name_at rest ≡ bad flaw
name_flaw rest UnknownMap h = absurd h
name_flaw rest Cut (name, l, (more, some, e)) = name_cut rest name more some l e
name_flaw rest BadLength (len, more, e, out) = rw (e, out_of_range len out) refl
name_flaw rest BadCharacter (len, good, b, more, e, l, short, g, none) = rw (e, in_range len l) (letters_bad len good more b short g none)

bad_after : {front : List ℕ} → BeforeName front → (tail : List ℕ) (flaw : Flaw) → name_at tail ≡ bad flaw → decoded (front ++ tail) ≡ broken flaw
bad_after declaring tail flaw h = rw h
bad_after placing tail flaw h = rw h
bad_after drawing tail flaw h = rw h
bad_after (leading {from} l) tail flaw h = rw (name_whole from tail l, h)

-- where two lists are cut once more, the cut falls into the first or behind it
split : (xs ys front more : List ℕ) → 0 < length more → xs ++ ys ≡ front ++ more
    → Short front xs ⊎ ((back : List ℕ) × (front ≡ xs ++ back) × (ys ≡ back ++ more))
split [] ys front more some e = inr (front, refl, e)
split (x ∷ xs) ys [] more some e = inl (x ∷ xs, omega arith, refl)
split (x ∷ xs) ys (y ∷ front) more some e =
    let same : x ≡ y = cc in
    let rest : xs ++ ys ≡ front ++ more = cc in
    elim (split xs ys front more some rest) [
      | inl s ↦ inl (s.0, s.1, (cc s.2))
      | inr s ↦ inr (s.0, (cc s.1), s.2)
    ]

cut_held : (h t r : ℕ) (front more : List ℕ) → 0 < length more → h ∷ t ∷ r ∷ [] ≡ front ++ more → held front ≡ broken Cut
cut_held h t r [] more some e = refl
cut_held h t r (a ∷ []) more some e = refl
cut_held h t r (a ∷ b ∷ []) more some e = refl
cut_held h t r (a ∷ b ∷ c ∷ front) more some e = absurd (omega (arith, ap length e, length-append front more))

-- a record that is cut behind its map
cut_behind : (said : Entry) (map : ℕ) (front more : List ℕ) → 0 < length more → Lawful said → bytes said ≡ map ∷ (front ++ more)
    → decoded (map ∷ front) ≡ broken Cut
cut_behind (compartment name) map front more some l e =
    let is : compartment_map ≡ map = cc in
    let tail : spelled name ≡ front ++ more = cc in
    rw (← is, name_cut front name more some l tail)
cut_behind (entity home number) map front more some l e =
    let is : entity_map ≡ map = cc in
    let tail : spelled home ++ number ∷ [] ≡ front ++ more = cc in
    rw (← is) (elim (split (spelled home) (number ∷ []) front more some tail) [
      | inl s ↦ rw (name_cut front home s.0 s.1 l s.2)
      | inr s ↦
          let none : s.0 ≡ [] = nil_from_length s.0 (omega (arith, ap length s.2, length-append s.0 more)) in
          rw (s.1 ∙ ap (λ b. spelled home ++ b) none, name_whole home [] l)
    ])
cut_behind (capability h t r) map front more some l e =
    let is : capability_map ≡ map = cc in
    rw (← is) (cut_held h t r front more some (cc))
cut_behind (arrow from to) map front more some l e =
    let is : arrow_map ≡ map = cc in
    let tail : spelled from ++ spelled to ≡ front ++ more = cc in
    rw (← is) (elim (split (spelled from) (spelled to) front more some tail) [
      | inl s ↦ rw (name_cut front from s.0 s.1 l.0 s.2)
      | inr s ↦ rw (s.1, name_whole from s.0 l.0, name_cut s.0 to more some l.1 s.2)
    ])

cut_short : (said : Entry) (rest more : List ℕ) → 0 < length rest → 0 < length more → Lawful said → bytes said ≡ rest ++ more
    → decoded rest ≡ broken Cut
cut_short said [] more begun some l e = absurd (omega arith)
cut_short said (map ∷ front) more begun some l e = cut_behind said map front more some l e

whole : (said : Entry) (more : List ℕ) → Lawful said → decoded (bytes said ++ more) ≡ entry said
whole (compartment name) more l = rw (name_whole name more l)
whole (entity home number) more l = rw (append_assoc home (number ∷ []) more, name_whole home (number ∷ more) l)
whole (capability h t r) more l = refl
whole (arrow from to) more l =
    rw (append_assoc from (spelled to) more, name_whole from (spelled to ++ more) l.0, name_whole to more l.1)

no_map : (map : ℕ) (more : List ℕ) → NoMap map → decoded (map ∷ more) ≡ broken UnknownMap
no_map map more (a, b, c, d) = rw (ne_eqb map _ a, ne_eqb map _ b, ne_eqb map _ c, ne_eqb map _ d)

decodes : (rest : List ℕ) (o : Outcome) → Shows rest o → decoded rest ≡ o
decodes rest (entry said) (l, (more, e)) = rw e (whole said more l)
decodes rest end e = rw e
decodes rest (broken UnknownMap) (map, more, e, none) = rw e (no_map map more none)
decodes rest (broken Cut) (begun, (said, l, (more, some, e))) = cut_short said rest more begun some l e
decodes rest (broken BadLength) (front, tail, before, e, h) = rw e (bad_after before tail BadLength (name_flaw tail BadLength h))
decodes rest (broken BadCharacter) (front, tail, before, e, h) = rw e (bad_after before tail BadCharacter (name_flaw tail BadCharacter h))

-- no bytes call for two outcomes
pub one_outcome : (rest : List ℕ) (o o' : Outcome) → Shows rest o → Shows rest o' → o ≡ o'
one_outcome rest o o' h h' = sym (decodes rest o h) ∙ decodes rest o' h'
