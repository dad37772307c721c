use Rattle.std.proofs.Common.{◌≡◌}
use Rattle.roll.proofs.Moving.{Moving}
use Rattle.roll.proofs.Roll.free_all.Given as goal

abbrev pub invariant-loop-place : goal.invariant-loop-place
invariant-loop-place l =
    (l.self.size ≡ l.initial.self.size)
    × (l.self.limit ≡ l.initial.self.limit)
    × Moving l.holder l.initial.self.records.now l.self.records.now l.self.len l.place
