-- What the evaluation asks of a compilation's root.
use Rattle.std.specs.Prelude.{List}
use Rattle.just_justfile.specs.Closed.{itself}
use Rattle.just_justfile.specs.Running.{CanRun}
use Rattle.just_justfile.specs.declared.justfile.Justfile.{Justfile}
use Rattle.just_parts.specs.Syntax.{SyntaxAnswers}
use Rattle.just_recipe.specs.declared.dependency.Dependency.{Dependency}
use Rattle.just_recipe.specs.declared.recipe.Recipe.{Recipe}
use Rattle.just_examples_values.specs.Bound.{IsInOrder, TellApart}

module _ {answers : SyntaxAnswers} {root : Justfile} {recipes : List (Recipe Dependency)} (can : CanRun answers root recipes) where
  -- its variables are in order
  pub in_order : IsInOrder root
  in_order = can.ordered root itself

  -- its numbers tell them apart
  pub apart : TellApart root
  apart = λ x y a b first second same. (can.numbers root root x y a b itself itself first second same).1
