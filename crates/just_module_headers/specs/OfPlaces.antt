-- What is said of the modules whose own files stand at places.
use Rattle.std.specs.Prelude.{◌<◌, ℕ, Bool, List, length, slice_index}
use Rattle.std.specs.List.{All}
use Rattle.just_graph.specs.Graph.{targets}
use Rattle.just_errors.specs.Causes.{Cause}
use Rattle.just_parts.specs.Items.{Item}
use Rattle.just_module_contents.specs.Contents.{texts_of_named}
use Rattle.just_module_contents.specs.declared.definitions.Naming.{Naming}
use Rattle.just_names.specs.Index.{AreDifferent}
use Rattle.just_module_headers.specs.Files.{asts_in}
use Rattle.just_module_contents.specs.Named.{naming_by, said_from}
use Rattle.just_module_contents.specs.Rules.{BreaksNamings}
use Rattle.just_module_headers.specs.declared.files.Files.{Files}
use Rattle.just_module_headers.specs.declared.join.Joined.{Joined}

-- what is defined in it under a name beside recipes
abbrev pub namings_of_place : (Item → Bool) → Files → Joined → ℕ → List Naming
namings_of_place enabled files joined p = said_from naming_by enabled (asts_in files) (targets joined.files.items p)

-- Two modules and aliases have one name in the module at a place of an order.
pub record RepeatsNames (enabled : Item → Bool) (files : Files) (joined : Joined) (order : List ℕ) (c : Cause) : Type 0 where
  pub at : ℕ
  pub there : at < length order
  pub broken : BreaksNamings (namings_of_place enabled files joined (slice_index order at)) c

-- the files of each module of an order have places
abbrev pub HaveFiles : Files → Joined → List ℕ → Type 0
HaveFiles files joined order = (k : ℕ) → k < length order → All (λ q. q < length files.asts.items) (targets joined.files.items (slice_index order k))

-- the modules and the aliases in each module of an order have different names
abbrev pub NamesDiffer : (Item → Bool) → Files → Joined → List ℕ → Type 0
NamesDiffer enabled files joined order = (k : ℕ) → k < length order → AreDifferent (texts_of_named (namings_of_place enabled files joined (slice_index order k)))
