-- What a reader has before it.
use Rattle.std.specs.Prelude.{ℕ, List, drop}
use Rattle.sheet.specs.declared.reader.Reader.{Reader}

-- the sheet that it goes through
abbrev pub sheet_of : Reader → List ℕ
sheet_of reader = reader.sheet.now

-- the index of the first byte that it has not read
abbrev pub position : Reader → ℕ
position reader = reader.at

-- the bytes that it has yet to read
abbrev pub rest : Reader → List ℕ
rest reader = drop (position reader) (sheet_of reader)
