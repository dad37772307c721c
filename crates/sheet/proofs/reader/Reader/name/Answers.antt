use Rattle.std.proofs.Common.{◌∷◌, ap, sym, ◌∙◌, rules}
use Rattle.std.proofs.lemmas.Result.{err_from_is_err_and}
use Rattle.sheet.specs.Readers.{rest}
use Rattle.sheet.proofs.NameCases.{no_name, name_moves, name_stands}
use Rattle.sheet.proofs.reader.Reader.name.Goals as goal

pub returns-in_err-byte : goal.returns-in_err-byte
returns-in_err-byte c =
    let (flaw, is, same) = err_from_is_err_and c.from_residual.result c.from_residual.ensures.1 in
    let (cut, none) = c.in_err-byte.ensures in
    rw (is, same) (no_name cut none)

pub returns : goal.returns
returns c =
    let (same, first, moved) = c.in_ok-byte.ensures in
    let (front, long, lawful) = c.in_ok-bytes.ensures in
    let mid = c.byte.new.self in
    let length_byte = ap (λ len. len ∷ rest mid) (sym c.from-len.ensures) in (
      lawful,
      (same, first ∙ length_byte ∙ name_moves mid.sheet.now _ mid.at _ front long, search rules),
      (moved, name_stands mid.sheet.now _ mid.at _ front long same moved),
    )
