-- The program's input, byte by byte: the size, the limit (two bytes), the sheet's length (two bytes), the sheet, the calls.
use Rattle.std.specs.Prelude.{◌≡◌, ℕ, ◌+◌, ◌*◌, ◌/◌, ◌%◌, ◌<◌, ◌≤◌, ◌⊎◌, ◌↔◌, List, ◌∷◌, ◌++◌, length, take, drop, Ok, Err, Result, slice_index}
use Rattle.std.specs.List.{AllByRecursion}
use Rattle.refusal.specs.declared.Refusal.{Refusal}
use Rattle.refusal.specs.declared.Refusal.TheVariants.{Broken, OutOfRange}
use Rattle.protocol.specs.declared.input.Input.{Input}

-- the number that two bytes write, the high byte first
abbrev pub two_bytes : ℕ → ℕ → ℕ
two_bytes high low = high * 256 + low

-- the header's three fields, at their places; a byte that is missing counts as 0
abbrev pub size_of : List ℕ → ℕ
size_of bytes = slice_index bytes 0

abbrev pub limit_of : List ℕ → ℕ
limit_of bytes = two_bytes (slice_index bytes 1) (slice_index bytes 2)

abbrev pub sheet_length : List ℕ → ℕ
sheet_length bytes = two_bytes (slice_index bytes 3) (slice_index bytes 4)

-- the sheet follows the header's five bytes
abbrev pub sheet_of : List ℕ → List ℕ
sheet_of bytes = take (sheet_length bytes) (drop 5 bytes)

-- of the bytes after the sheet, the first 60,000 count
unfoldable pub cut_calls : List ℕ → List ℕ
cut_calls rest = take 60000 rest

abbrev pub calls_of : List ℕ → List ℕ
calls_of bytes = cut_calls (drop (sheet_length bytes) (drop 5 bytes))

-- the input ends before its sheet does
abbrev pub Cut : List ℕ → Type 0
Cut bytes = length bytes < 5 + sheet_length bytes

abbrev pub InRange : ℕ → ℕ → Type 0
InRange size limit = (1 ≤ size) × (size ≤ 128) × (1 ≤ limit) × (limit ≤ 4096)

-- the whole sheet is there, and the size and the limit are such as a table can have
abbrev pub Framed : List ℕ → Type 0
Framed bytes = (Cut bytes → ⊥) × InRange (size_of bytes) (limit_of bytes)

-- the whole sheet is there, and the size or the limit is not such
abbrev pub Outside : List ℕ → Type 0
Outside bytes = (Cut bytes → ⊥) × (InRange (size_of bytes) (limit_of bytes) → ⊥)

-- an input taken apart has these four
abbrev pub HasParts : ℕ → ℕ → List ℕ → List ℕ → Input → Type 0
HasParts size limit sheet calls i =
    (i.size ≡ size) × (i.limit ≡ limit) × (i.sheet.now ≡ sheet) × (i.calls.now ≡ calls)

-- it has what the bytes say
abbrev pub HasPartsOf : List ℕ → Input → Type 0
HasPartsOf bytes = HasParts (size_of bytes) (limit_of bytes) (sheet_of bytes) (calls_of bytes)

-- the answer is Ok, with an input of which P holds
abbrev pub Accepts : Result Input Refusal → (Input → Type 0) → Type 0
Accepts (Ok i) P = P i
Accepts (Err _) P = ⊥

-- how an input comes apart: one of these is true of any bytes, and no two are
abbrev pub Split : List ℕ → Result Input Refusal → Type 0
Split bytes (Ok i) = Framed bytes × HasPartsOf bytes i
Split bytes (Err refusal) = ((refusal ≡ Broken) × Cut bytes) ⊎ ((refusal ≡ OutOfRange) × Outside bytes)

-- two inputs that come apart alike
abbrev pub Alike : List ℕ → List ℕ → Type 0
Alike one other =
    (Cut one ↔ Cut other) × (size_of one ≡ size_of other) × (limit_of one ≡ limit_of other) × (sheet_of one ≡ sheet_of other)
    × (calls_of one ≡ calls_of other)

-- the bytes that can count: a header, the longest sheet and the calls
abbrev pub readable : ℕ
readable = 5 + 65535 + 60000

-- whatever stands behind the first n bytes, the input comes apart as if it ended there
abbrev pub Enough : ℕ → Type 0
Enough n = (bytes : List ℕ) → AllByRecursion (λ b. b < 256) bytes → Alike (take n bytes) bytes

-- what a writer of an input writes
abbrev pub framed : ℕ → ℕ → List ℕ → List ℕ → List ℕ
framed size limit sheet rest =
    size ∷ limit / 256 ∷ limit % 256 ∷ length sheet / 256 ∷ length sheet % 256 ∷ sheet ++ rest

-- where the bytes were written so, of parts in range, the answer has those parts again, the calls as far as they count
abbrev pub ReadsBack : List ℕ → Result Input Refusal → Type 0
ReadsBack bytes r =
    (size limit : ℕ) (sheet rest : List ℕ) → InRange size limit → length sheet < 65536
    → bytes ≡ framed size limit sheet rest → Accepts r (HasParts size limit sheet (cut_calls rest))
