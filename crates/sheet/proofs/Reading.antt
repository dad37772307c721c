-- The way out of a `?` in a record.
use Rattle.std.proofs.Common.{◌≡◌, ◌∷◌, IsErrAnd, Result}
use Rattle.std.proofs.lemmas.Result.{err_from_is_err_and}
use Rattle.sheet.specs.declared.fault.Flaw.{Flaw}
use Rattle.sheet.specs.declared.reader.Reader.{Reader}
use Rattle.sheet.specs.declared.reader.kind.Kind.{Kind}
use Rattle.sheet.specs.declared.record.Content.{Content}
use Rattle.sheet.specs.Flaws.{Flawed}
use Rattle.sheet.specs.Kinds.{map_of}
use Rattle.sheet.specs.Readers.{rest}
use Rattle.sheet.specs.Steps.{ContentRead}

pub leaves : {kind is : Kind} (old new : Reader) (r : Result Content Flaw) (flaw : Flaw) → kind ≡ is → IsErrAnd r (λ t. t ≡ flaw)
    → Flawed flaw (map_of is ∷ rest old) → ContentRead (map_of kind) old r new
leaves old new r flaw e by h = let p = err_from_is_err_and r by in rw (e, p.1, p.2) h
