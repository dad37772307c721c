-- The worked sheet, ten calls on it, and two sheets that are refused.
use Rattle.std.specs.Prelude.{◌≡◌, ℕ, List, [], ◌∷◌, ◌++◌, length, Ok, Err}
use Rattle.std.specs.List.{AllByRecursion}
use Rattle.refusal.specs.declared.Refusal.{Refusal}
use Rattle.refusal.specs.Numbers.{number}
use Rattle.sheet.specs.Entries.{Entry, compartment, entity, capability, arrow, Lawful, written}
use Rattle.access.specs.Model.States.{cap}
use Rattle.access.specs.Model.Operations.{read, write, create, grant, remove, delete}
use Rattle.access.specs.History.Calls.{whole, Call, load, accept, serve}
use Rattle.access.specs.Rules.Views.{View, fresh}
use Rattle.access.specs.Rules.Due.{Due}
use Rattle.access.specs.Rules.Changes.{Does}
use Rattle.access.specs.Rules.Telling.{FirstStray, FirstUnarrowed}
use Rattle.access.specs.Rules.Sequences.{Yields}

-- "gauge" and "solver" in ASCII
abbrev pub gauge : List ℕ
gauge = 103 ∷ 97 ∷ 117 ∷ 103 ∷ 101 ∷ []

abbrev pub solver : List ℕ
solver = 115 ∷ 111 ∷ 108 ∷ 118 ∷ 101 ∷ 114 ∷ []

abbrev pub without_arrow : List Entry
without_arrow =
    compartment gauge
    ∷ compartment solver
    ∷ entity gauge 0
    ∷ entity gauge 1
    ∷ entity solver 2
    ∷ entity solver 3
    ∷ capability 0 1 18
    ∷ capability 0 0 8
    ∷ capability 1 2 2
    ∷ capability 2 3 20
    ∷ capability 3 3 16
    ∷ []

abbrev pub worked : List Entry
worked = without_arrow ++ arrow gauge solver ∷ []

abbrev pub calls : List Call
calls =
    serve (write 0 (cap 2 2)) 128
    ∷ serve (write 2 (cap 2 2)) 128
    ∷ serve (read 0 (cap 2 2)) 128
    ∷ serve (create 0 4 (cap 0 8) (cap 1 18)) 128
    ∷ serve (create 0 4 (cap 0 8) (cap 1 18)) 128
    ∷ serve (grant 2 (cap 3 20) (cap 3 20) 4 (cap 3 16)) 128
    ∷ serve (delete 4) 0
    ∷ serve (remove 0 (cap 1 18) (cap 4 31)) 128
    ∷ serve (delete 4) 0
    ∷ serve (grant 2 (cap 3 20) (cap 3 20) 4 (cap 3 16)) 128
    ∷ []

abbrev pub answers : List ℕ
answers = 0 ∷ 6 ∷ 7 ∷ 0 ∷ 5 ∷ 8 ∷ 9 ∷ 0 ∷ 0 ∷ 0 ∷ []

abbrev pub empty : View
empty = fresh 8 6

-- the records load, and accept refuses them with this number and tells this of the table
abbrev pub Rejected : List Entry → ℕ → (View → Type 0) → Type 0
Rejected said reason tells =
    (v : View) × (refusal : Refusal) × Does empty (load said whole) (Ok tt) v
    × Due v (accept 128) (Err refusal) × (number refusal ≡ reason) × tells v

pub record WorkedExample : Type 0 where
  -- the records are lawful, and 83 bytes long in this order
  pub lawful : AllByRecursion Lawful worked
  pub bytes : length (written worked) ≡ 83
  -- the sheet is accepted, and ten calls follow
  pub answered : Yields empty (load worked whole ∷ accept 128 ∷ calls) (0 ∷ 0 ∷ answers)
  -- let 1 hold (3, 16) as well: 2 is connected to the other compartment
  pub connected : Rejected (worked ++ capability 1 3 16 ∷ []) 10 (λ v. FirstStray v 2)
  -- without the arrow, what 1 writes would step from compartment 0 to 1
  pub uncharted : Rejected without_arrow 11 (λ v. FirstUnarrowed v 0 1)
