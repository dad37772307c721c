use Rattle.std.proofs.Common.{ℕ, ◌+◌, ◌<◌, length, get_or, take, set, sym, subst, arith, rules}
use Rattle.access.proofs.Rules.Counting.{members_none}
use Rattle.roll.specs.Lists.{Apart, blank}
use Rattle.roll.proofs.Moving.{apart_moving, listed_moved, moves_other, passes_own}
use Rattle.roll.proofs.Roll.free_all.Goals as goal
use Rattle.roll.proofs.Roll.free_all.Goals.{then-record-holder, else-record-holder}

pub invariant_of-self : goal.invariant_of-self
invariant_of-self c = search (rules, members_none)

pub invariant_of-self-then-record-holder : goal.invariant_of-self-then-record-holder
invariant_of-self-then-record-holder c =
    let old = c.args.self.now in
    let roll = c.loop-place.self in
    let place = c.loop-place.place in
    let (size, limit, moving) = c.loop-place.invariant in
    let more =
    moves_other c.args.holder old.records.now roll.records.now roll.len place moving (omega arith)
    c.if-record-holder.true in
    let apart =
    subst (λ (n : ℕ). Apart n (take (roll.len + 1) (set roll.records.now roll.len (get_or roll.records.now place blank)))) (sym size)
    (apart_moving old.size c.args.holder old.len (place + 1) (roll.len + 1) old.records.now
    (set roll.records.now roll.len (get_or roll.records.now place blank)) old.apart (omega arith) more) in
    search rules

pub loop-place-preserved : goal.loop-place-preserved
loop-place-preserved c =
    let old = c.args.self.now in
    let roll = c.loop-place.self in
    let place = c.loop-place.place in
    let (size, limit, moving) = c.loop-place.invariant in
    let below : place < length roll.records.now = omega arith in
    elim c.if-record-holder.branch [
      | then-record-holder w ↦ rw w.self-is
          (size, limit, moves_other c.args.holder old.records.now roll.records.now roll.len place moving below w.if-record-holder.true)
      | else-record-holder w ↦ rw w.self-is
          (size, limit, passes_own c.args.holder old.records.now roll.records.now roll.len place moving below w.if-record-holder.false)
    ]

pub returns : goal.returns
returns c =
    let old = c.args.self.now in
    let roll = c.loop-place.self in
    let (size, limit, moving) = c.loop-place.invariant in
    record {
      size = size;
      limit = limit;
      holds = listed_moved c.args.holder old.len c.loop-place.place roll.len old.records.now roll.records.now (omega arith) moving;
    }
