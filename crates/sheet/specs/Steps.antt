-- What the reader's own steps do, for the proofs of its public calls.
use Rattle.std.specs.Prelude.{◌≡◌, ℕ, ◌+◌, List, [], ◌∷◌, ◌++◌, length, take, Ok, Err, Result}
use Rattle.std.specs.Borrow.{Bor}
use Rattle.sheet.specs.declared.fault.Flaw.{Flaw}
use Rattle.sheet.specs.declared.fault.Flaw.TheVariants.{Cut}
use Rattle.sheet.specs.declared.reader.Reader.{Reader}
use Rattle.sheet.specs.declared.record.Name.{Name}
use Rattle.sheet.specs.declared.record.Content.{Content}
use Rattle.sheet.specs.declared.record.Record.{Record}
use Rattle.sheet.specs.Names.{LawfulName}
use Rattle.sheet.specs.Entries.{Lawful, bytes, spelled}
use Rattle.sheet.specs.Flaws.{NameFlaw, Flawed}
use Rattle.sheet.specs.Readers.{sheet_of, position, rest}
use Rattle.sheet.specs.Records.{text, entry_of, said, PartAt, NamesAt, Located}

-- the reader moves past these bytes of the same sheet
abbrev pub Past : Reader → List ℕ → Reader → Type 0
Past old front new =
    (sheet_of new ≡ sheet_of old) × (rest old ≡ front ++ rest new) × (position new ≡ position old + length front)

abbrev pub ByteRead : Reader → Result ℕ Flaw → Reader → Type 0
ByteRead old (Ok b) new = Past old (b ∷ []) new
ByteRead old (Err flaw) new = (flaw ≡ Cut) × (rest old ≡ [])

-- a name of this length is the front of these bytes
abbrev pub NameBytesRead : List ℕ → ℕ → Result (Bor (List ℕ)) Flaw → Type 0
NameBytesRead bs len (Ok name) = (name.now ≡ take len bs) × (length name.now ≡ len) × LawfulName name.now
NameBytesRead bs len (Err flaw) = NameFlaw flaw (len ∷ bs)

abbrev pub NameRead : Reader → Result Name Flaw → Reader → Type 0
NameRead old (Ok name) new =
    LawfulName (text name) × Past old (spelled (text name)) new × PartAt (sheet_of old) (position old + 1) name
NameRead old (Err flaw) new = NameFlaw flaw (rest old)

-- what stands behind a map is read as the fields that it tells of, and the names among them tell their places
abbrev pub ContentRead : ℕ → Reader → Result Content Flaw → Reader → Type 0
ContentRead map old (Ok found) new =
    Lawful (entry_of found) × (map ∷ rest old ≡ bytes (entry_of found) ++ rest new) × (sheet_of new ≡ sheet_of old)
    × (position new + 1 ≡ position old + length (bytes (entry_of found)))
    × ((at : ℕ) → position old ≡ at + 1 → NamesAt (sheet_of old) at found)
ContentRead map old (Err flaw) new = Flawed flaw (map ∷ rest old)

abbrev pub RecordRead : Reader → Result Record Flaw → Reader → Type 0
RecordRead old (Ok found) new =
    Lawful (said found) × Past old (bytes (said found)) new × Located (sheet_of old) (position old) found
RecordRead old (Err flaw) new = Flawed flaw (rest old)
