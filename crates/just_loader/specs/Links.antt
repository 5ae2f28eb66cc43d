-- What the items of a file lead to.
use Rattle.std.specs.Prelude.{◌==◌, Bool, List, [], ◌∷◌, ◌++◌, map, is_some, Option, None, Some, codes, if◌then◌else◌}
use Rattle.std.specs.Option.{option_map}
use Rattle.just_parts.specs.Bare.{bare_item}
use Rattle.just_ast_items.specs.Edge.{Edge, Imports, Declares, edge_of}
use Rattle.just_table.specs.Entries.{find}
use Rattle.just_paths.specs.Join.{clean_join}
use Rattle.just_names.specs.Name.{text_of_name}
use Rattle.just_parts.specs.Syntax.{SyntaxAnswers}
use Rattle.just_names.specs.Token.{Place}
use Rattle.just_names.specs.Texts.{Text}
use Rattle.just_names.specs.declared.name.Name.{Name}
use Rattle.just_parts.specs.Items.{Item}
use Rattle.just_ast_expressions.specs.declared.string_literal.StringLiteral.{StringLiteral}
use Rattle.just_parts.specs.declared.layers.config.Config.{Config}
use Rattle.just_loader.specs.ModuleFile.{after, candidates, relative}
use Rattle.just_errors.specs.Causes.{Cause, NoHome, NoImport, NoModule, SeveralFiles}
use Rattle.just_loader.specs.Sources.{Files}

-- nowhere, to a path, or a fault
pub data Link : Type 0 where
  Unlinked : Link
  To : Text → Link
  AtFault : Cause → Link

-- a text after its leading slashes
abbrev pub without_slashes : Text → Text
without_slashes [] = []
without_slashes (b ∷ bs) = if b == 47 then without_slashes bs else b ∷ bs

-- what follows `~/`, from the home folder
abbrev pub from_home : Option Text → Text → Option Text
from_home None rest = None
from_home (Some home) rest = Some (home ++ 47 ∷ without_slashes rest)

-- a text, or what it has after `~/` from the home folder
abbrev pub or_same : Option Text → Text → Option Text → Option Text
or_same home text None = Some text
or_same home text (Some rest) = from_home home rest

-- a text with the home folder in place of the `~` of a leading `~/`; none where no home folder is known
abbrev pub expanded : Option Text → Text → Option Text
expanded home text = or_same home text (after (codes "~/") text)

-- the path that may be given for a module, expanded; none where that is a fault
abbrev pub given_path : Option Text → Option StringLiteral → Option (Option Text)
given_path home None = Some None
given_path home (Some literal) = option_map Some (expanded home literal.cooked)

-- an optional item leads nowhere, another is at fault
abbrev pub unless : Bool → Cause → Link
unless optional cause = if optional then Unlinked else AtFault cause

-- an import from a folder, by its expanded text
abbrev pub import_link : Files → Text → Place → Bool → Option Text → Link
import_link files folder token optional None = AtFault NoHome
import_link files folder token optional (Some text) = if is_some (find (clean_join folder text) files) then To (clean_join folder text) else unless optional (NoImport token)

-- a module by the files that it can have
abbrev pub choice : Text → Name → Bool → List Text → Link
choice folder name optional [] = unless optional (NoModule name)
choice folder name optional (path ∷ []) = To path
choice folder name optional (path ∷ next ∷ more) = AtFault (SeveralFiles name (map (relative folder) (path ∷ next ∷ more)))

-- a module from a folder, by the path that may be given for it
abbrev pub module_link : Files → Text → Name → Bool → Option (Option Text) → Link
module_link files folder name optional None = AtFault NoHome
module_link files folder name optional (Some path) = choice folder name optional (candidates files folder (text_of_name name) path)

-- what leads to a file leads to from its own folder
abbrev pub edge_link : Files → Option Text → Text → Option Edge → Link
edge_link files home folder None = Unlinked
edge_link files home folder (Some (Imports literal optional)) = import_link files folder literal.token optional (expanded home literal.cooked)
edge_link files home folder (Some (Declares name literal optional)) = module_link files folder name optional (given_path home literal)

-- the same of an item, where it is enabled
abbrev pub link_in : Files → Option Text → (Item → Bool) → Text → Item → Link
link_in files home enabled folder i = if enabled (bare_item i) then edge_link files home folder (edge_of i) else Unlinked

-- the same, by what is configured and what the syntax layer answers
abbrev pub link_by : Files → Config → SyntaxAnswers → Text → Item → Link
link_by files config answers = link_in files config.home answers.enabled

-- a path that may be there
abbrev pub linked : Option Text → Link
linked None = Unlinked
linked (Some path) = To path
