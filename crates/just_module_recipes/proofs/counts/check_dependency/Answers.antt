use Rattle.std.proofs.lemmas.Result.{IfErr-weaker, on_ok_weaker}
use Rattle.just_errors.proofs.Lifts.{reports_by}
use Rattle.just_errors.specs.Causes.{Reports}
use Rattle.just_module_contents.specs.Definitions.{recipes_in}
use Rattle.just_module_recipes.specs.Given.{Misgiven}
use Rattle.just_module_recipes.specs.Links.{BreaksLinks}
use Rattle.just_module_recipes.specs.loops.Rows.{around_by}
use Rattle.just_module_recipes.proofs.Counted.{is_given, misgiven_told}
use Rattle.just_module_recipes.proofs.counts.check_dependency.Goals as goal

pub returns-clause-given : goal.returns-clause-given
returns-clause-given c =
    let rs = recipes_in c.args.kept.now in
    let it = around_by c.args.it.now in
    let lists = c.args.settings.now.lists in
    let d = c.args.dependency.now in
    let range = c.range_of-range.result in
    on_ok_weaker c.check_arguments.result
    (is_given lists rs it d c.args.target.now c.requires.target c.requires.there c.requires.different range.min range.max c.range_of-range.ensures.least c.range_of-range.ensures.most) c.check_arguments.ensures.kept

pub returns-clause-named : goal.returns-clause-named
returns-clause-named c =
    let rs = recipes_in c.args.kept.now in
    let it = around_by c.args.it.now in
    let lists = c.args.settings.now.lists in
    let d = c.args.dependency.now in
    let range = c.range_of-range.result in
    let misgiven = Misgiven lists d range.min range.max in
    IfErr-weaker c.check_arguments.result (Reports misgiven) (Reports (BreaksLinks lists rs it))
    (λ e h. reports_by misgiven (BreaksLinks lists rs it) (misgiven_told lists rs it d c.args.target.now c.requires.target c.requires.there c.requires.stands range.min range.max c.range_of-range.ensures.least c.range_of-range.ensures.most) e h) c.check_arguments.ensures.named
