use Rattle.std.proofs.Common.{ap, subst, sym}
use Rattle.std.proofs.lemmas.Result.{IfErr-weaker, IfOk-weaker}
use Rattle.just_module_contents.specs.Recipes.{lent}
use Rattle.just_recipe_resolution.specs.Basis.{Basis, IsRecipeCovered}
use Rattle.just_recipe_resolver.proofs.Along.{GivenRightly, OneKept, OneMade, OneTold, along_basis}
use Rattle.just_recipe_resolver.proofs.unresolved_recipe.resolve.Goals as goal

pub resolve_over-requires-clause-covered : goal.resolve_over-requires-clause-covered
resolve_over-requires-clause-covered g c = subst (λ (b : Basis). IsRecipeCovered b c.args.recipe) (sym c.resolving_by-resolving.ensures.basis) c.requires.covered

pub returns-clause-given : goal.returns-clause-given
returns-clause-given g c =
    let by = c.resolving_by-resolving in
    IfOk-weaker c.resolve_over.result _ _
    (λ made h. along_basis (GivenRightly c.args.recipe.dependencies (lent c.args.resolved.items)) (ap g.S.Syntax.answers by.ensures.syntax) (ap g.E.ConstantEvaluation.answers by.ensures.evaluation) by.ensures.basis h) c.resolve_over.ensures.given

pub returns-clause-own : goal.returns-clause-own
returns-clause-own g c =
    let by = c.resolving_by-resolving in
    IfOk-weaker c.resolve_over.result _ _
    (λ made h. along_basis (OneKept c.args.recipe) (ap g.S.Syntax.answers by.ensures.syntax) (ap g.E.ConstantEvaluation.answers by.ensures.evaluation) by.ensures.basis h) c.resolve_over.ensures.own

pub returns-clause-made : goal.returns-clause-made
returns-clause-made g c =
    let by = c.resolving_by-resolving in
    IfOk-weaker c.resolve_over.result _ _
    (λ made h. along_basis (OneMade c.args.module_path.now c.args.recipe (lent c.args.resolved.items) made) (ap g.S.Syntax.answers by.ensures.syntax) (ap g.E.ConstantEvaluation.answers by.ensures.evaluation) by.ensures.basis h) c.resolve_over.ensures.made

pub returns-clause-named : goal.returns-clause-named
returns-clause-named g c =
    let by = c.resolving_by-resolving in
    IfErr-weaker c.resolve_over.result _ _
    (λ e h. along_basis (OneTold c.args.recipe (lent c.args.resolved.items) e) (ap g.S.Syntax.answers by.ensures.syntax) (ap g.E.ConstantEvaluation.answers by.ensures.evaluation) by.ensures.basis h) c.resolve_over.ensures.named
