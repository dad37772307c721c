-- The names of compartments.
use Rattle.std.specs.Prelude.{◌≡◌, ℕ, ◌≤◌, Bool, true, ◌||◌, List, length, ◌==◌}
use Rattle.std.specs.Char.{is_ascii_alphanumeric}
use Rattle.std.specs.List.{AllByRecursion}

-- a letter or a digit of ASCII, a hyphen, an underscore or a dot
abbrev pub name_byte : ℕ → Bool
name_byte b = is_ascii_alphanumeric b || (b == 45 || (b == 95 || b == 46))

abbrev pub NameBytes : List ℕ → Type 0
NameBytes bs = AllByRecursion (λ b. name_byte b ≡ true) bs

abbrev pub LawfulLength : ℕ → Type 0
LawfulLength n = (1 ≤ n) × (n ≤ 32)

abbrev pub LawfulName : List ℕ → Type 0
LawfulName name = LawfulLength (length name) × NameBytes name
