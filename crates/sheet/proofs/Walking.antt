-- A walk through a sheet, record by record.
use Rattle.std.proofs.Common.{◌≡◌, ℕ, ◌+◌, ◌≤◌, List, [], ◌∷◌, ◌++◌, length, drop, Ok, Err, Result, sym, refl, ap, ◌∙◌, subst, ap₂, subst₂, arith, lit<, length-append}
use Rattle.std.specs.List.{AllByRecursion}
use Rattle.std.proofs.ByRecursion.{All-push}
use Rattle.std.proofs.lemmas.List.{append_assoc, append_cancel_left, append-nil, drop_at, drop-drop, flat_map_more, length_push}
use Rattle.sheet.specs.declared.fault.Fault.{Fault}
use Rattle.sheet.specs.declared.reader.Reader.{Reader}
use Rattle.sheet.specs.Entries.{Entry, compartment, entity, capability, arrow, bytes, Lawful, written}
use Rattle.sheet.specs.Flaws.{Flawed}
use Rattle.sheet.specs.Readers.{rest, sheet_of}
use Rattle.sheet.specs.Outcomes.{Outcome, entry, end, broken, Stands, Shows, width}
use Rattle.sheet.specs.Sheets.{BrokenAt, Counted, Reads, Unambiguous, ReadBack, OneReading}
use Rattle.sheet.proofs.Decoding.{one_outcome}

bytes_some : (said : Entry) → 1 ≤ length (bytes said)
bytes_some (compartment name) = omega arith
bytes_some (entity home number) = omega arith
bytes_some (capability h t r) = lit< tt
bytes_some (arrow from to) = omega arith

-- the reader has gone past so many lawful records of the sheet
pub record Sofar (sheet : List ℕ) (reader : Reader) (count : ℕ) : Type 0 where
  pub said : List Entry
  pub lawful : AllByRecursion Lawful said
  pub same : sheet_of reader ≡ sheet
  pub front : sheet ≡ written said ++ rest reader
  pub at : reader.at ≡ length (written said)
  pub counted : length said ≡ count
  pub few : count ≤ reader.at

pub step : {sheet : List ℕ} {old new : Reader} {count : ℕ} {o : Outcome} (said : Entry) → Sofar sheet old count → o ≡ entry said
    → Stands said (rest old) → sheet_of new ≡ sheet_of old → new.at ≡ old.at + width o → Sofar sheet new (count + 1)
step {sheet} {old} {new} {count} said h is (lawful, (more, e)) same moves =
    let moved : new.at ≡ old.at + length (bytes said) = moves ∙ ap (λ o. old.at + width o) is in
    let behind : rest new ≡ more =
    ap₂ drop moved same ∙ sym (drop-drop (length (bytes said)) old.at (sheet_of old)) ∙ ap (drop (length (bytes said))) e ∙ drop_at (bytes said) more _ refl in
    let joins : written h.said ++ bytes said ≡ written (h.said ++ said ∷ []) = flat_map_more bytes [] h.said said in
    record {
      said = h.said ++ said ∷ [];
      lawful = All-push Lawful h.said said h.lawful lawful;
      same = same ∙ h.same;
      front = h.front ∙ ap (λ l. written h.said ++ l) (e ∙ ap (λ l. bytes said ++ l) (sym behind))
          ∙ sym (append_assoc (written h.said) (bytes said) (rest new)) ∙ ap (λ l. l ++ rest new) joins;
      at = omega (arith, moved, h.at, length-append (written h.said) (bytes said), ap length joins);
      counted = length_push h.said said ∙ ap (λ n. n + 1) h.counted;
      few = omega (arith, moved, h.few, bytes_some said);
    }

-- a walk stops at the end or at a flaw
abbrev Stop : Outcome → Type 0
Stop (entry said) = ⊥
Stop end = Unit {0}
Stop (broken flaw) = Unit {0}

stands_first : (said : Entry) (more : List Entry) (rest : List ℕ) → Lawful said → Stands said (written (said ∷ more) ++ rest)
stands_first said more rest l = (l, (written more ++ rest, append_assoc (bytes said) (written more) rest))

-- there is one walk through a sheet
one_walk : (a b : List Entry) (rest rest' : List ℕ) (o o' : Outcome) → AllByRecursion Lawful a → AllByRecursion Lawful b → Stop o → Stop o'
    → Shows rest o → Shows rest' o' → written a ++ rest ≡ written b ++ rest' → (a ≡ b) × (o ≡ o')
one_walk [] [] rest rest' o o' la lb s s' h h' e = (refl, one_outcome rest o o' h (rw e h'))
one_walk [] (y ∷ b) rest rest' o o' la lb s s' h h' e =
    absurd (subst Stop (one_outcome rest o (entry y) h (rw e (stands_first y b rest' lb.0))) s)
one_walk (x ∷ a) [] rest rest' o o' la lb s s' h h' e =
    absurd (subst Stop (one_outcome rest' o' (entry x) h' (rw (sym e) (stands_first x a rest la.0))) s')
one_walk (x ∷ a) (y ∷ b) rest rest' o o' la lb s s' h h' e =
    let first = one_outcome (written (x ∷ a) ++ rest) (entry x) (entry y) (stands_first x a rest la.0) (rw e (stands_first y b rest' lb.0)) in
    let same : x ≡ y = cc in
    let whole : bytes x ++ (written a ++ rest) ≡ bytes x ++ (written b ++ rest') =
    sym (append_assoc (bytes x) (written a) rest) ∙ e ∙ append_assoc (bytes y) (written b) rest'
    ∙ ap (λ z. bytes z ++ (written b ++ rest')) (sym same) in
    let more = one_walk a b rest rest' o o' la.1 lb.1 s s' h h' (append_cancel_left (bytes x) _ _ whole) in
    (ap₂ ◌∷◌ same more.0, more.1)

pub unambiguous : Unambiguous
unambiguous rest a b h h' = let e = one_outcome rest (entry a) (entry b) h h' in cc

pub one_reading : OneReading
one_reading a b la lb e = (one_walk a b [] [] end end la lb tt tt refl refl (ap (λ l. l ++ []) e)).0

reads_on : (front : List ℕ) (said : List Entry) → AllByRecursion Lawful said → Reads (front ++ written said) (length front) said
reads_on front [] l = drop_at front [] _ refl
reads_on front (x ∷ said) l = (
  rw (drop_at front (written (x ∷ said)) _ refl) (l.0, (written said, refl)),
  subst₂ (λ s n. Reads s n said) (append_assoc front (bytes x) (written said)) (length-append front (bytes x)) (reads_on (front ++ bytes x) said l.1),
)

pub read_back : ReadBack
read_back said l = reads_on [] said l

-- the reader's walk, once it stops, is the only one through the sheet
module _ {sheet : List ℕ} {reader : Reader} {count : ℕ} (h : Sofar sheet reader count) (o : Outcome) (stop : Stop o) (shows : Shows (rest reader) o) where
  as_formed : (n : ℕ) → Counted sheet (Ok n) → (n ≡ count) × (o ≡ end)
  as_formed n (said, (lawful, e), counted) =
      let same = one_walk h.said said (rest reader) [] o end h.lawful lawful stop tt shows refl (sym h.front ∙ e ∙ sym (append-nil (written said))) in
      (sym counted ∙ ap length (sym same.0) ∙ h.counted, same.1)

  as_broken : (fault : Fault) → BrokenAt sheet fault → (fault.place ≡ reader.at) × (o ≡ broken fault.flaw)
  as_broken fault (said, rest', lawful, e, place, flawed) =
      let same = one_walk h.said said (rest reader) rest' o (broken fault.flaw) h.lawful lawful stop tt shows flawed (sym h.front ∙ e) in
      (sym place ∙ ap (λ l. length (written l)) (sym same.0) ∙ sym h.at, same.1)

-- this answer fits the sheet, and no other does; and what is true of the format
abbrev pub Answered : List ℕ → Result ℕ Fault → Type 0
Answered sheet r = record {
  counts : Counted sheet r;
  alone : (other : Result ℕ Fault) → Counted sheet other → other ≡ r;
  unambiguous : Unambiguous;
  read_back : ReadBack;
  one_reading : OneReading;
}

answered : (sheet : List ℕ) (r : Result ℕ Fault) → Counted sheet r → ((other : Result ℕ Fault) → Counted sheet other → other ≡ r) → Answered sheet r
answered sheet r counts alone =
    record { counts = counts; alone = alone; unambiguous = unambiguous; read_back = read_back; one_reading = one_reading }

module _ {sheet : List ℕ} {reader : Reader} {count : ℕ} (h : Sofar sheet reader count) where
  pub whole_sheet : rest reader ≡ [] → Answered sheet (Ok count)
  whole_sheet none = answered sheet _ (h.said, (h.lawful, h.front ∙ ap (λ l. written h.said ++ l) none ∙ append-nil (written h.said)), h.counted) only
    where
      only : (other : Result ℕ Fault) → Counted sheet other → other ≡ Ok count
      only (Ok n) formed = ap Ok (as_formed h end tt none n formed).0
      only (Err fault) b = absurd (cc ((as_broken h end tt none fault b).1))

  pub broken_sheet : (fault : Fault) → fault.place ≡ reader.at → Flawed fault.flaw (rest reader) → Answered sheet (Err fault)
  broken_sheet fault at flawed = answered sheet _ (h.said, rest reader, h.lawful, h.front, sym h.at ∙ sym at, flawed) only
    where
      only : (other : Result ℕ Fault) → Counted sheet other → other ≡ Err fault
      only (Ok n) formed = absurd (cc ((as_formed h (broken fault.flaw) tt flawed n formed).1))
      only (Err fault') b =
          let same = as_broken h (broken fault.flaw) tt flawed fault' b in
          let flaw : fault'.flaw ≡ fault.flaw = cc in
          ap Err (λ i. record { place = (same.0 ∙ sym at) i; flaw = flaw i })
