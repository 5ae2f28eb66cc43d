-- Lines on which stands what an error tells of.
use Rattle.std.specs.Prelude.{◌≡◌, ℕ, Option, None, Some}
use Rattle.std.specs.List.{All}
use Rattle.std.specs.Map.{keys_of}
use Rattle.just_ast_expressions.specs.declared.string_literal.StringLiteral.{StringLiteral}
use Rattle.just_ast_items.specs.Edge.{Edge, Imports, Declares, edge_of}
use Rattle.just_bench_bundle.specs.declared.places.FileLine.{FileLine}
use Rattle.just_errors.specs.Causes.{NoHome}
use Rattle.just_errors.specs.declared.error.Error.{Error}
use Rattle.just_errors.specs.declared.error.Error.TheVariants as error
use Rattle.just_errors.specs.declared.load_error.LoadError.TheVariants as load
use Rattle.just_loader.specs.Links.{Link, To, AtFault}
use Rattle.just_loader.specs.Reached.{World, HasItem, IsReachedFile, link}
use Rattle.just_names.specs.Texts.{Text}
use Rattle.just_names.specs.declared.name.Name.{Name}
use Rattle.just_parts.specs.Items.{Item}
use Rattle.just_paths.specs.Clean.{IsClean, folder_of}

-- the line of a module, which counts from 0: that of its quoted path, or without one that of its name
abbrev pub module_line : Name → Option StringLiteral → ℕ
module_line name None = name.token.line
module_line name (Some literal) = literal.token.line

-- the line of what leads to a file; of an import that of its quoted path
abbrev pub edge_line : Option Edge → Option ℕ
edge_line None = None
edge_line (Some (Imports literal optional)) = Some literal.token.line
edge_line (Some (Declares name literal optional)) = Some (module_line name literal)

abbrev pub item_line : Item → Option ℕ
item_line item = edge_line (edge_of item)

-- an item leads to this, and stands on the line
abbrev pub IsOnLine : (Item → Link) → Link → Item → ℕ → Type 0
IsOnLine leads to item line = (leads item ≡ to) × (item_line item ≡ Some line)

-- one of some items leads to this, and stands on the line
pub record StandsOn (IsOne : Item → Type 0) (leads : Item → Link) (to : Link) (line : ℕ) : Type 0 where
  pub item : Item
  pub one : IsOne item
  pub on : IsOnLine leads to item line

-- an item of the file at a path does so
abbrev pub LinkStandsIn : World → Text → Link → ℕ → Type 0
LinkStandsIn w path = StandsOn (HasItem w path) (link w (folder_of path))

-- On this line stands what an error tells of: of a circle of files the item of the one that leads to the other, and where no home folder is known an item
-- that wants one, in a file that is reached.
abbrev pub IsLineOf : World → Error → FileLine → Type 0
IsLineOf w (error.Load (load.CircularImport current import)) it = (it.path ≡ current) × LinkStandsIn w current (To import) it.line
IsLineOf w (error.Load load.Homedir) it = IsReachedFile w it.path × LinkStandsIn w it.path (AtFault NoHome) it.line
IsLineOf w _ it = ⊥

-- the line of an error is told, or there is none, where the paths of the files are clean
abbrev pub TellsLine : World → Error → Option FileLine → Type 0
TellsLine w e (Some it) = IsLineOf w e it
TellsLine w e None = All IsClean (keys_of w.files) → (it : FileLine) → IsLineOf w e it → ⊥
