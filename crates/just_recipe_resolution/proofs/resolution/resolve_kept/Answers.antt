use Rattle.std.proofs.Common.{◌∙◌, List, ap, length, subst, sym}
use Rattle.std.proofs.lemmas.Result.{IfOk-weaker}
use Rattle.just_module_contents.specs.Definitions.{recipes_in}
use Rattle.just_module_contents.proofs.RecipePlaces.{length-lent}
use Rattle.just_module_recipes.specs.Links.{around_recipes}
use Rattle.just_names.specs.declared.number.Number.{Number}
use Rattle.just_recipe_needs.specs.Needed.{HaveReferences}
use Rattle.just_recipe_resolution.specs.Basis.{basis_of, completion_on}
use Rattle.just_recipe_resolution.proofs.Needed.{adds_so}
use Rattle.just_recipe_resolution.proofs.resolution.resolve_kept.Goals as goal

pub link-requires-clause-references : goal.link-requires-clause-references
link-requires-clause-references g c =
    ap (λ (xs : List (List Number)). length xs) c.as_slice.ensures.value ∙ (c.in_ok-references.ensures.count ∙ length-lent c.args.kept.now.recipes.items)

pub returns-clause-linked : goal.returns-clause-linked
returns-clause-linked g c =
    let by = c.args.resolving in
    let rs = recipes_in c.args.kept.now in
    let completed = completion_on (g.S.Syntax.answers by.meanings.syntax.now) (g.E.ConstantEvaluation.answers by.among.evaluation.now) (basis_of by) in
    let have : HaveReferences completed.Needs rs c.as_slice.result.now = subst (HaveReferences completed.Needs rs) (sym c.as_slice.ensures.value) c.in_ok-references.ensures in
    let it = around_recipes c.args.absent.now c.args.modules.now c.args.recipes in
    IfOk-weaker c.link.result _ _ (λ made adds. adds_so completed.Needs rs c.as_slice.result.now have completed.by by.meanings.settings.now.lists it c.args.module_path.now made.all adds) c.link.ensures.linked
