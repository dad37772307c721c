use Rattle.std.proofs.Common.{Ok, refl, ap}
use Rattle.std.proofs.lemmas.Result.{err_from_is_err_and}
use Rattle.sheet.specs.Outcomes.{entry, end, broken, outcome}
use Rattle.sheet.specs.Records.{said}
use Rattle.sheet.proofs.Walking.{step, whole_sheet, broken_sheet}
use Rattle.sheet.proofs.count.count_records.Goals as goal

pub returns-in_err-_record : goal.returns-in_err-_record
returns-in_err-_record c =
    let next = c.in_err-_record.ensures in
    let fault = c.in_err-_record.field-0.0 in
    let (other, is, same) = err_from_is_err_and c.from_residual.result c.from_residual.ensures.1 in
    rw (is, same) (broken_sheet c.loop-record.invariant fault next.places ((next.exactly (broken fault.flaw)).0 refl))

pub loop-record-preserved : goal.loop-record-preserved
loop-record-preserved c =
    let next = c.in_ok-_record.ensures in
    let found = said c.in-Some._record in
    let is = ap (λ x. outcome (Ok x)) c.in-Some.is in
    step found c.loop-record.invariant is ((next.exactly (entry found)).0 is) next.same next.moves

pub returns : goal.returns
returns c =
    let next = c.in_ok-_record.ensures in
    whole_sheet c.loop-record.invariant ((next.exactly end).0 (ap (λ x. outcome (Ok x)) c.in_default.is))
