use Rattle.std.proofs.Common.{refl, rules}
use Rattle.sheet.proofs.reader.Reader.record.Goals as goal

pub returns : goal.returns
returns c =
    let (same, first, moved) = c.in_ok-byte.ensures in
    let names = c.in_ok-content.ensures.4 in
    (search rules, search rules, (refl, rw (← same) (names _ moved)))
