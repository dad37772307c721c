-- How a store answers a call that would change it, and what its members are then.
use Rattle.std.specs.Prelude.{Ok, Err, Result}
use Rattle.access.specs.Rules.Sets.{Triples}
use Rattle.store.specs.declared.fault.Outside.{Outside}
use Rattle.store.specs.declared.fault.StoreFault.{StoreFault}
use Rattle.store.specs.declared.fault.StoreFault.TheVariants.{OutOfRange, Full}
use Rattle.store.specs.Contents.{Contents, NowHolds}

abbrev pub Answer : Type 0
Answer = Result (Unit {0}) StoreFault

-- it is refused as out of range exactly if its numbers are not in range, and this comes before all else
abbrev pub OutOfRangeUnless : Type 0 → Answer → Type 0
OutOfRangeUnless ranged (Ok _) = ranged
OutOfRangeUnless ranged (Err OutOfRange) = ranged → ⊥
OutOfRangeUnless ranged (Err Full) = ranged

-- being in range, it is refused as full exactly if there is no room
abbrev pub FullUnless : Type 0 → Answer → Type 0
FullUnless room (Ok _) = room
FullUnless room (Err OutOfRange) = Unit {0}
FullUnless room (Err Full) = room → ⊥

-- a call that has no other way to fail is refused exactly if its numbers are not in range
abbrev pub RefusedUnless : Type 0 → Result (Unit {0}) Outside → Type 0
RefusedUnless ranged (Ok _) = ranged
RefusedUnless ranged (Err _) = ranged → ⊥

-- the members after a call: changed if it is accepted, as before if it is refused; size and limit never change
abbrev pub Becomes : {E : Type 0} → Result (Unit {0}) E → (Triples → Triples) → (before after : Contents) → Type 0
Becomes (Ok _) changed before after = NowHolds before after (changed before.holds)
Becomes (Err _) changed before after = NowHolds before after before.holds
