-- What private functions say beside `Preorder.antt`.
use Rattle.std.specs.Prelude.{ℕ, Bool, List, map, reverse, Some}
use Rattle.just_justfile.specs.declared.justfile.Justfile.{Justfile}
use Rattle.just_scopes.specs.declared.modules.PlacedModule.{PlacedModule}
use Rattle.just_scopes.specs.Preorder.{Placed, one, placed_under}

-- for the private functions: a module as data; those that wait, the last of which is taken next; and the modules of the one at a place
abbrev pub placed : PlacedModule → Placed
placed m = record { justfile = m.justfile.now; parent = m.parent; lazy = m.is_lazy }

abbrev pub waiting : List PlacedModule → List Placed
waiting modules = reverse (map placed modules)

abbrev pub inner_modules : ℕ → Bool → List Justfile → List Placed
inner_modules place above = map (placed_under (Some place) above)
