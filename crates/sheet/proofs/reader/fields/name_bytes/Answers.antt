use Rattle.std.proofs.Common.{◌≡◌, take, sym, ◌∙◌, rules, tests}
use Rattle.std.specs.List.{list_all}
use Rattle.std.proofs.lemmas.Iterator.{YieldsList-from_slice, YieldsList-from_take}
use Rattle.std.proofs.lemmas.Iterator.Search.{all_from_yields_List}
use Rattle.sheet.specs.Names.{name_byte}
use Rattle.sheet.proofs.NameCases.{bad_name, name_read}
use Rattle.sheet.proofs.reader.fields.name_bytes.Goals as goal

pub returns-then-not-all : goal.returns-then-not-all
returns-then-not-all c =
    let all : c.all.result ≡ list_all name_byte (take c.args.len c.args.bytes.now) =
    all_from_yields_List name_byte _ _ _ c.all.ensures.ran (YieldsList-from_take _ (YieldsList-from_slice c.args.bytes.now cc) cc) (λ x b q k. search (rules, tests)) in
    bad_name _ _ (c.is_name_length.ensures.0 c.if-not-is_name_length.false) (sym all ∙ c.if-not-all.true)

pub returns : goal.returns
returns c =
    let all : c.all.result ≡ list_all name_byte (take c.args.len c.args.bytes.now) =
    all_from_yields_List name_byte _ _ _ c.all.ensures.ran (YieldsList-from_take _ (YieldsList-from_slice c.args.bytes.now cc) cc) (λ x b q k. search (rules, tests)) in
    rw c.ok_or.ensures.value (name_read _ _ (c.is_name_length.ensures.0 c.if-not-is_name_length.false) _ (sym all ∙ c.if-not-all.false) c.get.ensures.lookup.0)
