use Rattle.std.proofs.Common.{◌∙◌, arith, subst, sym}
use Rattle.just_ast_definitions.specs.Parameter.{least_arguments}
use Rattle.just_errors.specs.declared.invocation_error.InvocationError.TheVariants as invocation
use Rattle.just_recipe.specs.Recipes.{CannotBeDefault, requires_arguments}
use Rattle.just_recipe.proofs.recipe.Recipe.check_can_be_default_recipe.Goals as goal

pub returns-clause-cannot : goal.returns-clause-cannot
returns-clause-cannot g c =
    subst (λ name. CannotBeDefault c.args.self.now (invocation.DefaultRecipeRequiresArguments name c.min_arguments-min_arguments.result)) (sym (c.new.ensures ∙ c.lexeme.ensures))
    (requires_arguments (sym c.min_arguments-min_arguments.ensures) (omega (arith, c.if-min_arguments-eq0.false)))
