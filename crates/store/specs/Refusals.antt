-- The refusal that each fault of a store is; its number is that of the refusal.
use Rattle.refusal.specs.declared.Refusal.{Refusal}
use Rattle.refusal.specs.declared.Refusal.TheVariants as refuse
use Rattle.store.specs.declared.fault.StoreFault.{StoreFault}
use Rattle.store.specs.declared.fault.StoreFault.TheVariants.{OutOfRange, Full}

abbrev pub refusal : StoreFault → Refusal
refusal OutOfRange = refuse.OutOfRange
refusal Full = refuse.Full
