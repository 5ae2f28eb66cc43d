use Rattle.std.proofs.Common.{false, rules, subst, sym}
use Rattle.std.proofs.lemmas.Result.{IfErr-weaker, on_ok_weaker}
use Rattle.just_errors.specs.Causes.{Keeps, Reports}
use Rattle.just_errors.proofs.Lifts.{reports_by}
use Rattle.just_module_contents.specs.Contents.{defined_in, function_texts}
use Rattle.just_module_contents.specs.Definitions.{contents_in, lists_in, recipes_in}
use Rattle.just_module_contents.specs.Rules.{BreaksBodies, BreaksLists, BreaksRedefinition, of_defined, of_lists, of_shells}
use Rattle.just_module_contents.specs.Shells.{BreaksShells}
use Rattle.just_module_contents.proofs.Defining.{bodies_kept}
use Rattle.just_module_contents.proofs.Leave.{lists_on}
use Rattle.just_module_bodies.proofs.bodies.check_bodies.Goals.{then-not-settings+in_ok-check_uses, else-not-settings}
use Rattle.just_module_bodies.proofs.bodies.check_bodies.Goals as goal

pub returns-in_err-check_uses-clause-named : goal.returns-in_err-check_uses-clause-named
returns-in_err-check_uses-clause-named g c =
    let names = function_texts (contents_in c.args.definitions.now) in
    let uses = lists_in c.args.definitions.now in
    IfErr-weaker c.from_residual.result (Reports (BreaksLists false names uses)) _
    (λ e h. reports_by (BreaksLists false names uses) (BreaksBodies _ _ _) (λ x k. of_lists (subst (λ b. BreaksLists b names uses x) (sym c.if-not-settings.true) k)) e h) (search rules)

pub returns-clause-kept : goal.returns-clause-kept
returns-clause-kept g c =
    let names = function_texts (contents_in c.args.definitions.now) in
    let uses = lists_in c.args.definitions.now in
    let lists : Keeps (BreaksLists c.args.settings.now.lists names uses) = elim c.if-not-settings.branch [
      | then-not-settings+in_ok-check_uses w ↦ subst (λ b. Keeps (BreaksLists b names uses)) (sym w.if-not-settings.true) w.in_ok-check_uses.ensures.kept
      | else-not-settings w ↦ lists_on names uses c.args.settings.now.lists w.if-not-settings.false
    ] in
    on_ok_weaker c.check_shells.result (λ shells. bodies_kept (g.S.Syntax.answers c.args.syntax.now) c.args.settings.now (contents_in c.args.definitions.now) lists c.in_ok-check_defined.ensures.kept shells) c.check_shells.ensures.kept

pub returns-in_err-check_defined-clause-named : goal.returns-in_err-check_defined-clause-named
returns-in_err-check_defined-clause-named g c =
    IfErr-weaker c.from_residual-in_err-check_defined.result (Reports (BreaksRedefinition c.args.settings.now.allow_duplicate_recipes (defined_in (contents_in c.args.definitions.now)))) _
    (λ e h. reports_by (BreaksRedefinition _ _) (BreaksBodies _ _ _) (λ x k. of_defined k) e h) (search rules)

pub returns-clause-named : goal.returns-clause-named
returns-clause-named g c =
    IfErr-weaker c.check_shells.result (Reports (BreaksShells (g.S.Syntax.answers c.args.syntax.now) c.args.settings.now (recipes_in c.args.definitions.now))) _
    (λ e h. reports_by (BreaksShells _ _ _) (BreaksBodies _ _ _) (λ x k. of_shells k) e h) c.check_shells.ensures.named
