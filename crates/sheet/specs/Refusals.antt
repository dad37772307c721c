-- The refusal that each flaw of a sheet is.
use Rattle.refusal.specs.declared.Refusal.{Refusal}
use Rattle.refusal.specs.declared.Refusal.TheVariants.{Broken}
use Rattle.sheet.specs.declared.fault.Flaw.{Flaw}
use Rattle.sheet.specs.declared.fault.Flaw.TheVariants.{UnknownMap, Cut, BadLength, BadCharacter}

abbrev pub refusal : Flaw → Refusal
refusal UnknownMap = Broken
refusal Cut = Broken
refusal BadLength = Broken
refusal BadCharacter = Broken
