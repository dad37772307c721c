-- What a board means.
use Rattle.std.specs.Prelude.{◌≡◌, ℕ, ◌+◌, ◌*◌, ◌<◌, true, false, ◌&&◌, List, slice_index, slice_set}
use Rattle.access.specs.Rights.{bit}
use Rattle.access.specs.Rules.Sets.{Triples}
use Rattle.board.specs.declared.Board.{Board}
use Rattle.store.specs.declared.triple.Triple.{Triple}
use Rattle.store.specs.Contents.{Contents}
use Rattle.store.specs.Ranges.{inside, LawfulSize}

-- the memory that it lies in
abbrev pub memory_of : Board → List ℕ
memory_of board = board.words.now

-- where the word of a holder and a target lies
abbrev pub place_of : ℕ → ℕ → ℕ → ℕ
place_of size h t = h * size + t

-- the triples in range whose bit stands in the word of their row and column
abbrev pub marked : ℕ → List ℕ → Triples
marked size words h t r = inside size h t r && bit (slice_index words (place_of size h t)) r

-- its members are what its words mark, and every triple in range has a bit
abbrev pub contents_of : Board → Contents
contents_of board =
    record { size = board.size; limit = board.size * board.size * 32; holds = marked board.size (memory_of board) }

-- a size that a store can be set up with, and as many words as a board of that size wants
abbrev pub Suits : ℕ → ℕ → Type 0
Suits size words = LawfulSize size × (words ≡ size * size)

-- what tells a full word from one that has room
abbrev pub AllBits : ℕ → Type 0
AllBits word = (r : ℕ) → r < 32 → bit word r ≡ true

abbrev pub MissingBit : ℕ → Type 0
MissingBit word = (r : ℕ) × (r < 32) × (bit word r ≡ false)

-- the word that has a triple's bit
abbrev pub word_of : Board → Triple → ℕ
word_of board triple = slice_index (memory_of board) (place_of board.size triple.holder triple.target)

-- in its place stands a word such as this, and all others are as before
pub record Rewritten (old new : Board) (triple : Triple) (Such : ℕ → Type 0) : Type 0 where
  pub word : ℕ
  pub such : Such word
  pub written : memory_of new ≡ slice_set (memory_of old) (place_of old.size triple.holder triple.target) word
