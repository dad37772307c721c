use Rattle.std.proofs.Common.{[], ◌∷◌, refl, sym, ap, subst, ◌∙◌, arith, lit<}
use Rattle.sheet.specs.Entries.{arrow_map, entity_map, entity, spelled}
use Rattle.sheet.specs.Flaws.{declaring, placing, drawing, leading, Flawed}
use Rattle.sheet.specs.Records.{text}
use Rattle.sheet.proofs.Broken.{bad_in, cut_off, cut_capability}
use Rattle.sheet.proofs.Reading.{leaves}
use Rattle.sheet.proofs.reader.Reader.content.Goals as goal

pub returns-in_err-name-in-Compartment : goal.returns-in_err-name-in-Compartment
returns-in_err-name-in-Compartment c =
    leaves c.args.self.now c.name.new.self _ _ c.in-Compartment.is c.from_residual.ensures.1 (bad_in _ declaring _ c.in_err-name-in-Compartment.ensures)

pub returns-in_err-name-in-Entity : goal.returns-in_err-name-in-Entity
returns-in_err-name-in-Entity c =
    leaves c.args.self.now c.name-in-Entity.new.self _ _ c.in-Entity.is c.from_residual-in_err-name-in-Entity.ensures.1 (bad_in _ placing _ c.in_err-name-in-Entity.ensures)

pub returns-in_err-byte-in-Entity : goal.returns-in_err-byte-in-Entity
returns-in_err-byte-in-Entity c =
    let home = text c.in_ok-name-in-Entity.field-0 in
    let read = c.in_ok-name-in-Entity.ensures in
    let none = c.in_err-byte-in-Entity.ensures in
    leaves c.args.self.now c.byte.new.self _ _ c.in-Entity.is c.from_residual-in_err-byte-in-Entity.ensures.1
    (cut_off (entity home 0) (entity_map ∷ spelled home) (0 ∷ []) read.0 refl (lit< tt) (omega arith) (ap (λ l. entity_map ∷ l) read.1.1) none.0 none.1)

pub returns-in_err-byte-in-Capability : goal.returns-in_err-byte-in-Capability
returns-in_err-byte-in-Capability c =
    let none = c.in_err-byte-in-Capability.ensures in
    leaves c.args.self.now c.byte-in-Capability.new.self _ _ c.in-Capability.is c.from_residual-in_err-byte-in-Capability.ensures.1 (cut_capability [] (lit< tt) refl none.0 none.1)

pub returns-in_err-byte-in-Capability-2 : goal.returns-in_err-byte-in-Capability-2
returns-in_err-byte-in-Capability-2 c =
    let none = c.in_err-byte-in-Capability-2.ensures in
    let holder = c.in_ok-byte-in-Capability.field-0 in
    let read = c.in_ok-byte-in-Capability.ensures in
    leaves c.args.self.now c.byte-in-Capability-2.new.self _ _ c.in-Capability.is c.from_residual-in_err-byte-in-Capability-2.ensures.1
    (cut_capability (holder ∷ []) (lit< tt) read.1 none.0 none.1)

pub returns-in_err-byte-in-Capability-3 : goal.returns-in_err-byte-in-Capability-3
returns-in_err-byte-in-Capability-3 c =
    let none = c.in_err-byte-in-Capability-3.ensures in
    let holder = c.in_ok-byte-in-Capability.field-0 in
    let target = c.in_ok-byte-in-Capability-2.field-0 in
    let read = c.in_ok-byte-in-Capability.ensures in
    let read' = c.in_ok-byte-in-Capability-2.ensures in
    leaves c.args.self.now c.byte-in-Capability-3.new.self _ _ c.in-Capability.is c.from_residual-in_err-byte-in-Capability-3.ensures.1
    (cut_capability (holder ∷ target ∷ []) (lit< tt) (read.1 ∙ ap (λ l. holder ∷ l) read'.1) none.0 none.1)

pub returns-in_err-name-in-Arrow : goal.returns-in_err-name-in-Arrow
returns-in_err-name-in-Arrow c =
    leaves c.args.self.now c.name-in-Arrow.new.self _ _ c.in-Arrow.is c.from_residual-in_err-name-in-Arrow.ensures.1 (bad_in _ drawing _ c.in_err-name-in-Arrow.ensures)

pub returns-in_err-name-in-Arrow-2 : goal.returns-in_err-name-in-Arrow-2
returns-in_err-name-in-Arrow-2 c =
    let read = c.in_ok-name-in-Arrow.ensures in
    leaves c.args.self.now c.name-in-Arrow-2.new.self _ _ c.in-Arrow.is c.from_residual-in_err-name-in-Arrow-2.ensures.1
    (subst (Flawed _) (ap (λ l. arrow_map ∷ l) (sym read.1.1)) (bad_in _ (leading read.0) _ c.in_err-name-in-Arrow-2.ensures))
