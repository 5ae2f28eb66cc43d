use Rattle.std.proofs.Common.{◌≡◌, ◌++◌, take}
use Rattle.just_module_contents.specs.Contents.{texts_of_named}
use Rattle.just_module_contents.specs.Definitions.{recipes_in}
use Rattle.just_module_contents.specs.Recipes.{names_of}
use Rattle.just_module_bodies.proofs.bodies.defined_names.Given as goal

abbrev pub invariant-loop-place : goal.invariant-loop-place
invariant-loop-place l = l.names.items ≡ texts_of_named l.definitions.named.items ++ names_of (take l.place (recipes_in l.definitions))
