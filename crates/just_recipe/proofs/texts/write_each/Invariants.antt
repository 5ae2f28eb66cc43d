use Rattle.std.proofs.Common.{take}
use Rattle.just_recipe.proofs.Writing.{Put, each_text}
use Rattle.just_recipe.proofs.texts.write_each.Given as goal

abbrev pub invariant-loop-item : goal.invariant-loop-item
invariant-loop-item g l = Put g.W.Write.write_str_gives l.initial.f (each_text l.before g.T.Display.output (take l.item-index l.items)) l.f
