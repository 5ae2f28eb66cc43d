use Rattle.std.proofs.Common.{take}
use Rattle.std.specs.Fmt.{HasWritten, IsPlainFormatter}
use Rattle.just_recipe.specs.RecipeTexts.{words_text}
use Rattle.just_recipe.proofs.recipe_signature.write_words.Given as goal

abbrev pub invariant-loop-parameter : goal.invariant-loop-parameter
invariant-loop-parameter g l =
    IsPlainFormatter l.initial.f → HasWritten g.W.Write.write_str_gives l.initial.f (words_text (take l.parameter-index l.parameters)) l.f
