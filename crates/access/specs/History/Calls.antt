-- The calls of a table, and histories of them.
use Rattle.std.specs.Prelude.{ℕ, List, Result}
use Rattle.refusal.specs.declared.Refusal.{Refusal}
use Rattle.sheet.specs.Entries.{Entry}
use Rattle.access.specs.declared.capability.Capability.{Capability}
use Rattle.access.specs.Model.Operations.{Operation}

pub data Fill : Type 0 where
  declare : (name : List ℕ) → Fill
  place_entity : (e A : ℕ) → Fill
  place_capability : (h : ℕ) (c : Capability) → Fill
  draw_arrow : (A B : ℕ) → Fill

-- `marks` and `groups` are the lengths of the buffers that the caller lends
pub data Question : Type 0 where
  connections : (marks groups : ℕ) → Question
  sharings : (marks groups : ℕ) → Question
  steps : (A marks : ℕ) → Question
  arrows : (A marks : ℕ) → Question
  spare : Question
  name_of : (A : ℕ) (sheet : List ℕ) → Question

-- whether a sheet's records go to its end, or a broken one follows them
pub data Ending : Type 0 where
  whole : Ending
  broken : Ending

pub data Call : Type 0 where
  fill : (f : Fill) → Call
  -- the records that the sheet says, up to its end or its first flaw
  load : (said : List Entry) (ending : Ending) → Call
  accept : (marks : ℕ) → Call
  ask : (q : Question) → Call
  -- delete takes no marks, and nothing is asked of their length then
  serve : (op : Operation) (marks : ℕ) → Call

-- why a call is refused, if it is
abbrev pub Answer : Type 0
Answer = Result (Unit {0}) Refusal

-- a call and what it was answered; a history has its newest event first
pub record Event : Type 0 where
  pub call : Call
  pub answer : Answer
