use Rattle.std.proofs.Common.{rules}
use Rattle.std.proofs.lemmas.Result.{err_from_is_err_and}
use Rattle.sheet.specs.Outcomes.{entry, broken}
use Rattle.sheet.specs.Records.{said}
use Rattle.sheet.proofs.Exact.{exact, refusing}
use Rattle.sheet.proofs.reader.Reader.next.Goals as goal

pub returns-in_err-record-clause-exactly : goal.returns-in_err-record-clause-exactly
returns-in_err-record-clause-exactly c =
    let (fault, is, same) = err_from_is_err_and c.from_residual.result c.from_residual.ensures.1 in
    rw (is, same) (exact _ (broken _) (search rules))

pub returns-in_err-record-clause-refuses : goal.returns-in_err-record-clause-refuses
returns-in_err-record-clause-refuses c =
    let (fault, is, same) = err_from_is_err_and c.from_residual.result c.from_residual.ensures.1 in
    rw is (refusing _ (broken c.in_err-record.field-0.0.flaw) (search rules))

pub returns-clause-exactly : goal.returns-clause-exactly
returns-clause-exactly c = exact _ (entry (said c.in_ok-record.record)) (search rules)
