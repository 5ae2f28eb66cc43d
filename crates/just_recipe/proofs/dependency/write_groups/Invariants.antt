use Rattle.std.proofs.Common.{map, take}
use Rattle.std.specs.Fmt.{HasWritten, IsPlainFormatter}
use Rattle.just_recipe.specs.Grouping.{concatenated}
use Rattle.just_recipe.specs.RecipeTexts.{blanked, dependency_argument_text}
use Rattle.just_recipe.proofs.dependency.write_groups.Given as goal

abbrev pub invariant-loop-group : goal.invariant-loop-group
invariant-loop-group g l =
    IsPlainFormatter l.initial.f → HasWritten g.W.Write.write_str_gives l.initial.f (blanked (map dependency_argument_text (concatenated (take l.group-index l.groups)))) l.f
