-- The lines that are printed, byte by byte.
use Rattle.std.specs.Prelude.{ℕ, List, [], ◌∷◌, ◌++◌, codes, decimal}
use Rattle.protocol.specs.declared.line.Line.{Line}

abbrev pub text : Line → List ℕ
text line = line.text.bytes

-- the byte that ends a line
abbrev pub newline : List ℕ
newline = 10 ∷ []

abbrev pub sheet_line : ℕ → List ℕ
sheet_line answer = codes "sheet " ++ decimal answer ++ newline

abbrev pub call_line : ℕ → ℕ → List ℕ
call_line position answer = decimal position ++ codes " " ++ decimal answer ++ newline
