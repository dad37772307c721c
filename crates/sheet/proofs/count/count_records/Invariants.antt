use Rattle.std.proofs.Common.{◌-◌, length}
use Rattle.sheet.proofs.Walking.{Sofar}
use Rattle.sheet.proofs.count.count_records.Given as goal

abbrev pub invariant-loop-record : goal.invariant-loop-record
invariant-loop-record l = Sofar l.sheet l.reader l.records

abbrev pub decreases-loop-record : goal.decreases-loop-record
decreases-loop-record l = length l.sheet - l.reader.at
