-- The rules of all modules, group by group.
use Rattle.std.specs.Prelude.{◌≢◌, [], ◌∷◌}
use Rattle.just_errors.specs.Causes.{Cause}
use Rattle.just_parts.specs.Layers.{Given, layers_at}
use Rattle.just_module_contents.specs.Groups.{Breaks, Group, KeepsBefore, KeepsContents, Links, rank}
use Rattle.just_module_headers.specs.Reading.{Reading}
use Rattle.just_module_tree.specs.Modules.{Module, Heading, Forest, Empty, Tree, AreModules, HasModule, IsHeading, contents_of, path_of}
use Rattle.just_module_tree.specs.Standing.{links_in}

-- all groups of a module with those in it are kept
abbrev pub KeepsGroups : Given → Module → Forest → Type 0
KeepsGroups given m inside = KeepsContents (layers_at given (path_of m)) (links_in m inside) (contents_of m)

-- so they are in each module of a forest
abbrev pub KeepsModules : Given → Forest → Type 0
KeepsModules given f = (m : Module) (inside : Forest) → HasModule f m inside → KeepsGroups given m inside

-- The ground of a group in a module: the groups before it are kept there, and where it is not the first, all groups in the modules inside.
pub record HasGround (given : Given) (g : Group) (m : Module) (inside : Forest) : Type 0 where
  pub earlier : KeepsBefore (layers_at given (path_of m)) (links_in m inside) g (contents_of m)
  pub below : rank g ≢ 0 → KeepsModules given inside

-- What is broken in a module that is reached from the root's, or what else is told there of its last groups.
pub data BreaksModules (told : Module → Forest → Links) (given : Given) (R : Reading) (root : Heading) : Cause → Type 0 where
  in_module : {c : Cause} {h : Heading} {m : Module} {inside : Forest} (g : Group) → IsHeading R root h → AreModules R (h ∷ []) (Tree m inside Empty)
      → HasGround given g m inside → Breaks (layers_at given (path_of m)) (told m inside) g (contents_of m) c → BreaksModules told given R root c
