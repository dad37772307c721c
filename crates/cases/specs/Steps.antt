-- What a store answers to one step of a test, and what it holds then.
use Rattle.std.specs.Prelude.{◌<◌}
use Rattle.access.specs.Rules.Sets.{added, removed, dropped}
use Rattle.store.specs.Answers.{Answer, OutOfRangeUnless, FullUnless, Becomes}
use Rattle.store.specs.Contents.{Contents, RoomFor}
use Rattle.store.specs.Ranges.{InRange}
use Rattle.cases.specs.declared.step.Step.{Step}
use Rattle.cases.specs.declared.step.Step.TheVariants.{Put, Take, Drop}

-- only put is ever refused as full
abbrev pub Asked : Step → Answer → (before after : Contents) → Type 0
Asked (Put h t r) answer before after =
    OutOfRangeUnless (InRange before.size h t r) answer × FullUnless (RoomFor before h t r) answer
    × Becomes answer (added h t r) before after
Asked (Take h t r) answer before after =
    OutOfRangeUnless (InRange before.size h t r) answer × FullUnless (Unit {0}) answer × Becomes answer (removed h t r) before after
Asked (Drop h) answer before after =
    OutOfRangeUnless (h < before.size) answer × FullUnless (Unit {0}) answer × Becomes answer (dropped h) before after
