use Rattle.std.proofs.Common.{◌≡◌, ◌∙◌, ◌<◌, List, [], length, map, get_or, is_some, Some, None, true, false, sym, arith, rules}
use Rattle.std.proofs.lemmas.List.{length-map}
use Rattle.std.specs.Option.{option_copied}
use Rattle.just_names.specs.Name.{text_of_name}
use Rattle.just_names.specs.Texts.{Text}
use Rattle.just_table.specs.Entries.{find}
use Rattle.just_justfile.specs.Walks.{module_named}
use Rattle.just_justfile.specs.loops.Walks.{absent_there}
use Rattle.just_justfile.proofs.Leading.{named_ordered}
use Rattle.just_justfile.proofs.Walking.{entered, lost, missed, name_read}
use Rattle.just_justfile.proofs.resolution.walk.Goals as goal

pub returns-then-is_absent : goal.returns-then-is_absent
returns-then-is_absent c =
    let names : List Text = map text_of_name c.args.front.now in
    let many : length names ≡ length c.args.front.now = length-map c.args.front.now text_of_name in
    let more : c.loop-at.at < length names = omega (arith, many, c.loop-at-test.true) in
    let is : get_or names c.loop-at.at [] ≡ c.lexeme-name.result.now = name_read c.args.front.now c.loop-at.at c.index-front-at.result c.loop-at-test.true c.index-front-at.is ∙ sym c.lexeme-name.ensures in
    let e : module_named c.lexeme-name.result.now c.loop-at.modules.now ≡ None = search rules in
    let h : is_some (find c.lexeme-name.result.now (absent_there c.args.absent.now (option_copied c.loop-at.inside))) ≡ true = search rules in
    (omega (arith, more), c.loop-at.invariant.goes_on ∙ missed names c.loop-at.at more (absent_there c.args.absent.now (option_copied c.loop-at.inside)) c.loop-at.modules.now (option_copied c.loop-at.inside) c.lexeme-name.result.now is e h)

pub returns-in-None : goal.returns-in-None
returns-in-None c =
    let names : List Text = map text_of_name c.args.front.now in
    let many : length names ≡ length c.args.front.now = length-map c.args.front.now text_of_name in
    let more : c.loop-at.at < length names = omega (arith, many, c.loop-at-test.true) in
    let is : get_or names c.loop-at.at [] ≡ c.lexeme-name.result.now = name_read c.args.front.now c.loop-at.at c.index-front-at.result c.loop-at-test.true c.index-front-at.is ∙ sym c.lexeme-name.ensures in
    let e : module_named c.lexeme-name.result.now c.loop-at.modules.now ≡ None = search rules in
    let h : is_some (find c.lexeme-name.result.now (absent_there c.args.absent.now (option_copied c.loop-at.inside))) ≡ false = search rules in
    c.loop-at.invariant.goes_on ∙ lost names c.loop-at.at more (absent_there c.args.absent.now (option_copied c.loop-at.inside)) c.loop-at.modules.now (option_copied c.loop-at.inside) c.lexeme-name.result.now is e h

pub loop-at-preserved : goal.loop-at-preserved
loop-at-preserved c =
    let names : List Text = map text_of_name c.args.front.now in
    let many : length names ≡ length c.args.front.now = length-map c.args.front.now text_of_name in
    let more : c.loop-at.at < length names = omega (arith, many, c.loop-at-test.true) in
    let is : get_or names c.loop-at.at [] ≡ c.lexeme-name.result.now = name_read c.args.front.now c.loop-at.at c.index-front-at.result c.loop-at-test.true c.index-front-at.is ∙ sym c.lexeme-name.ensures in
    let e : module_named c.lexeme-name.result.now c.loop-at.modules.now ≡ Some c.in-Some.module.now = search rules in
    record {
      goes_on = c.loop-at.invariant.goes_on ∙ entered names c.loop-at.at more (absent_there c.args.absent.now (option_copied c.loop-at.inside)) c.loop-at.modules.now (option_copied c.loop-at.inside) c.lexeme-name.result.now is c.in-Some.module.now c.as_slice-modules.result.now e (search rules);
      ordered = rw c.as_slice-modules.ensures (named_ordered c.lexeme-name.result.now c.loop-at.modules.now c.in-Some.module.now c.loop-at.invariant.ordered e);
    }
