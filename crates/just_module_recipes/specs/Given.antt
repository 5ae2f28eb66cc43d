-- The rules of the arguments that a dependency gives.
use Rattle.std.specs.Prelude.{◌≡◌, ℕ, Bool, true, false, length}
use Rattle.just_errors.specs.Causes.{Broken, Cause}
use Rattle.just_errors.specs.declared.compile_error.CompileErrorKind.TheVariants as kind
use Rattle.just_module_contents.specs.Rules.{IsOutside}
use Rattle.just_recipe.specs.Starred.{has_star}
use Rattle.just_recipe.specs.declared.dependency.UnresolvedDependency.{UnresolvedDependency}

-- A dependency on a recipe that takes so many arguments, at least and at most, gives it a starred one where values are no lists, or too few or too many.
pub data Misgiven (lists : Bool) (d : UnresolvedDependency) (least most : ℕ) : Cause → Type 0 where
  of_star : lists ≡ false → has_star d.arguments ≡ true → Misgiven lists d least most (Broken d.recipe.last.token kind.MappedDependencyWithoutListsSetting)
  of_count : IsOutside (length d.arguments) least most → Misgiven lists d least most (Broken d.recipe.last.token (kind.DependencyArgumentCountMismatch d.recipe (length d.arguments) least most))
