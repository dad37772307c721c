-- How the bytes behind a name's length come out: bad, cut or whole.
use Rattle.std.proofs.Common.{◌≡◌, ℕ, zero, suc, ◌+◌, ◌-◌, ◌<◌, ◌≤◌, true, false, List, [], ◌∷◌, ◌++◌, length, take, drop, replicate, Bor, None, Some, MatchOption, Option, sym, refl, ap, ◌∙◌, subst, ap₂, ◌⊎◌, inl, inr, ⊎_elim, arith, lit<, lit≤, length-append, length-drop, take-append-drop}
use lib.ListN.{length-replicate}
use Rattle.std.specs.List.{list_all, slice_range}
use Rattle.std.specs.Option.{ok_or}
use Rattle.std.proofs.ByRecursion.{All-append, All-from_get_or}
use Rattle.std.proofs.lemmas.Bool.{and_parts, cases_Bool}
use Rattle.std.proofs.lemmas.List.{drop-drop, get_or-replicate, take_all}
use Rattle.sheet.specs.declared.fault.Flaw.{Flaw}
use Rattle.sheet.specs.declared.fault.Flaw.TheVariants.{Cut, BadCharacter}
use Rattle.sheet.specs.Names.{name_byte, NameBytes, LawfulLength}
use Rattle.sheet.specs.Entries.{spelled}
use Rattle.sheet.specs.Flaws.{NameFlaw}
use Rattle.sheet.specs.Steps.{NameBytesRead}

all_good : (bs : List ℕ) → list_all name_byte bs ≡ true → NameBytes bs
all_good [] h = tt
all_good (b ∷ bs) h = let (first, rest) = and_parts _ _ h in (first, all_good bs rest)

-- where not all of the first n bytes may stand in a name, one of them is the first that may not
FirstBad : List ℕ → ℕ → Type 0
FirstBad bs n =
    (good : List ℕ) × (bad : ℕ) × (more : List ℕ) × (bs ≡ good ++ bad ∷ more) × (length good < n) × NameBytes good × (name_byte bad ≡ false)

first_bad : (bs : List ℕ) (n : ℕ) → list_all name_byte (take n bs) ≡ false → FirstBad bs n
unfolding FirstBad
first_bad bs zero h = absurd (cc h)
first_bad [] (suc n) h = absurd (cc h)
first_bad (b ∷ bs) (suc n) h = elim (cases_Bool (name_byte b)) [
  | inl is ↦
      let (good, bad, more, e, short, g, none) = first_bad bs n (rw is at h) in
      (b ∷ good, bad, more, ap (λ l. b ∷ l) e, omega arith, (is, g), none)
  | inr none ↦ ([], b, bs, refl, omega arith, tt, none)
]

-- what a cut name may go on with
letters : ℕ → List ℕ
letters n = replicate n 97

length_letters : (n : ℕ) → length (letters n) ≡ n
unfolding letters
length_letters n = length-replicate n _

letters_good : (n : ℕ) → NameBytes (letters n)
unfolding letters
letters_good n = All-from_get_or _ (letters n) 97 (λ i h. ap name_byte (get_or-replicate n i 97 97 (omega (arith, length_letters n))))

-- a name of a lawful length is to be the front of these bytes
module _ (bs : List ℕ) (len : ℕ) (lawful : LawfulLength len) where
  pub bad_name : list_all name_byte (take len bs) ≡ false → NameFlaw BadCharacter (len ∷ bs)
  unfolding FirstBad
  bad_name h =
      let (good, bad, more, e, short, g, none) = first_bad bs len h in
      (len, good, bad, more, ap (λ l. len ∷ l) e, lawful, short, g, none)

  cut : NameBytes bs → length bs < len → NameFlaw Cut (len ∷ bs)
  cut g h =
      let more = letters (len - length bs) in
      let long : length (bs ++ more) ≡ len = omega (arith, length-append bs more, length_letters (len - length bs)) in
      let good = All-append _ bs more g (letters_good (len - length bs)) in
      (bs ++ more, (subst LawfulLength (sym long) lawful, good), (more, omega (arith, length_letters (len - length bs)), ap (λ l. l ∷ (bs ++ more)) long))

  pub name_read : (r : Option (Bor (List ℕ))) → list_all name_byte (take len bs) ≡ true
      → MatchOption r ((len < 0) ⊎ (length bs < len)) (λ name. (0 ≤ len) × (len ≤ length bs) × (name.now ≡ slice_range bs 0 len) × (length name.now + 0 ≡ len))
      → NameBytesRead bs len (ok_or r Cut)
  name_read None h short =
      let lack : length bs < len = ⊎_elim (λ none. absurd (omega arith)) (λ lack. lack) short in
      cut (subst NameBytes (take_all len bs (omega arith)) (all_good _ h)) lack
  name_read (Some name) h (_, _, is, long) =
      let front : name.now ≡ take len bs = is ∙ ap (λ n. take n bs) (omega arith) in
      (front, omega arith, (subst LawfulLength (sym (omega arith)) lawful, rw front (all_good _ h)))

-- where nothing is left, a name is cut too
pub no_name : {flaw : Flaw} {rest : List ℕ} → flaw ≡ Cut → rest ≡ [] → NameFlaw flaw rest
no_name e nil = rw (e, nil) (97 ∷ [], ((lit≤ tt, lit≤ tt), (refl, tt)), (1 ∷ 97 ∷ [], lit< tt, refl))

-- a name that is read is the front of what stood behind its length
module _ (sheet bs : List ℕ) (at len : ℕ) (front : bs ≡ take len (take (length sheet - at) (drop at sheet))) (long : length bs ≡ len) where
  behind : bs ≡ take len (drop at sheet)
  behind = front ∙ ap (take len) (take_all _ (drop at sheet) (omega (arith, length-drop at sheet)))

  pub name_moves : len ∷ drop at sheet ≡ spelled bs ++ drop (at + len) sheet
  name_moves =
      let whole : drop at sheet ≡ bs ++ drop (at + len) sheet =
      sym (take-append-drop len (drop at sheet)) ∙ ap₂ ◌++◌ (sym behind) (drop-drop len at sheet) in
      ap₂ ◌∷◌ (sym long) whole

  pub name_stands : {old : List ℕ} {place : ℕ} → sheet ≡ old → at ≡ place → bs ≡ take (length bs) (drop place old)
  name_stands same e = behind ∙ ap (λ n. take n (drop at sheet)) (sym long) ∙ ap₂ (λ i s. take (length bs) (drop i s)) e same
