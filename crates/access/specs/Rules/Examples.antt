-- An example for each refusal but 10 and 11, most of them on the worked sheet, and the edges of the numbers in the rules.
use Rattle.std.specs.Prelude.{ℕ, zero, suc, ◌+◌, List, [], ◌∷◌, ◌++◌, Ok, Err}
use Rattle.refusal.specs.declared.Refusal.TheVariants as refuse
use Rattle.sheet.specs.Entries.{Entry, compartment}
use Rattle.access.specs.Model.States.{cap}
use Rattle.access.specs.Model.Operations.{read, write, create, delete}
use Rattle.access.specs.History.Calls.{declare, broken, load, fill, serve}
use Rattle.access.specs.Rules.Views.{service, View, fresh, in_phase}
use Rattle.access.specs.Rules.Filled.{loaded}
use Rattle.access.specs.Rules.Due.{Due}
use Rattle.access.specs.Rules.Worked.{worked, empty}

-- the worked sheet in service
abbrev pub opened : View
opened = in_phase (loaded empty 0 worked) service

abbrev pub opened_at_five : View
opened_at_five = in_phase (loaded (fresh 8 5) 0 worked) service

-- this many compartments, named by the letters from a on
abbrev pub lettered : ℕ → List Entry
lettered zero = []
lettered (suc n) = lettered n ++ compartment ((97 + n) ∷ []) ∷ []

pub record Examples : Type 0 where
  pub filling_yet : Due (loaded empty 0 worked) (serve (read 0 (cap 2 2)) 128) (Err refuse.WrongPhase)
  pub entity_8 : Due opened (serve (read 8 (cap 2 2)) 128) (Err refuse.OutOfRange)
  pub rights_32 : Due opened (serve (read 0 (cap 1 32)) 128) (Err refuse.OutOfRange)
  pub rights_31 : Due opened (serve (read 0 (cap 1 31)) 128) (Err refuse.Unreachable)
  pub marks_127 : Due opened (serve (read 0 (cap 2 2)) 127) (Err refuse.ShortBuffer)
  pub absent_5 : Due opened (serve (read 5 (cap 2 2)) 128) (Err refuse.Absent)
  pub present_3 : Due opened (serve (create 0 3 (cap 0 8) (cap 1 18)) 128) (Err refuse.Present)
  pub unreachable : Due opened (serve (write 2 (cap 2 2)) 128) (Err refuse.Unreachable)
  pub missing_right : Due opened (serve (read 0 (cap 2 2)) 128) (Err refuse.MissingRight)
  pub limit_5 : Due opened_at_five (serve (create 0 4 (cap 0 8) (cap 1 18)) 128) (Err refuse.Full)
  pub limit_6 : Due opened (serve (create 0 4 (cap 0 8) (cap 1 18)) 128) (Ok tt)
  pub held_3 : Due opened (serve (delete 3) 0) (Err refuse.Held)
  pub broken_end : Due empty (load worked broken) (Err refuse.Broken)
  pub sixteenth : Due (loaded empty 0 (lettered 15)) (fill (declare (112 ∷ []))) (Ok tt)
  pub seventeenth : Due (loaded empty 0 (lettered 16)) (fill (declare (113 ∷ []))) (Err refuse.Full)
