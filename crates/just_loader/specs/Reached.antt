-- The files that are reached from a root, and what is at fault with them.
use Rattle.std.specs.Prelude.{◌≡◌, ◌^◌, ◌<◌, List, Option, None, Some}
use Rattle.std.specs.List.{Contains}
use Rattle.std.specs.Option.{option_and_then, option_map}
use Rattle.just_paths.specs.Clean.{folder_of}
use Rattle.just_parts.specs.Syntax.{SyntaxAnswers}
use Rattle.just_names.specs.Texts.{Text}
use Rattle.just_names.specs.Token.{Place}
use Rattle.just_parts.specs.Items.{Ast, Item}
use Rattle.just_parts.specs.declared.layers.config.Config.{Config}
use Rattle.just_errors.specs.declared.compile_error.CompileErrorKind.TheVariants as kind
use Rattle.just_loader.specs.Links.{Link, To, AtFault, link_in}
use Rattle.just_loader.specs.ModuleFile.{relative}
use Rattle.just_errors.specs.Causes.{Cause, Broken, NoNumber}
use Rattle.just_loader.specs.Sources.{Files, text_at}

-- What a compilation reads: the files, the home folder, where it is known, what the syntax layer answers, and the path of the root.
pub record World : Type 0 where
  pub files : Files
  pub home : Option Text
  pub answers : SyntaxAnswers
  pub root : Text

abbrev pub world_of : Files → Config → SyntaxAnswers → Text → World
world_of files config answers root = record { files = files; home = config.home; answers = answers; root = root }

-- a path from the root's folder, where it lies below it
abbrev pub relative_to_root : World → Text → Text
relative_to_root w path = relative (folder_of w.root) path

-- what the file at a path says, bare
abbrev pub ast_of : World → Text → Option Ast
ast_of w path = option_and_then (w.answers.parsed (relative_to_root w path)) (text_at w.files path)

-- the items of what a text says
abbrev pub items_said : Option Ast → Option (List Item)
items_said = option_map (λ (ast : Ast). ast.items)

-- the items of the file at a path
abbrev pub items_of_file : World → Text → Option (List Item)
items_of_file w path = items_said (ast_of w path)

-- what an item leads to from its file's folder
abbrev pub link : World → Text → Item → Link
link w folder item = link_in w.files w.home w.answers.enabled folder item

-- the file at f has the item
abbrev pub HasItem : World → Text → Item → Type 0
HasItem w f item = (items : List Item) × (items_of_file w f ≡ Some items) × Contains items item

-- an item of f leads to g
pub record FileLeadsTo (w : World) (f g : Text) : Type 0 where
  pub item : Item
  pub has : HasItem w f item
  pub leads : link w (folder_of f) item ≡ To g

-- the root, and what reached files lead to
pub data IsReachedFile (w : World) : Text → Type 0 where
  from_root : IsReachedFile w w.root
  from_file : {f g : Text} → IsReachedFile w f → FileLeadsTo w f g → IsReachedFile w g

-- a place in the text of the file at a path
pub record IsInText (w : World) (path text : Text) (place : Place) : Type 0 where
  pub path_is : place.path ≡ relative_to_root w path
  pub src_is : place.src ≡ text

-- The text of a file does not follow the grammar, which is told in that file, or takes more numbers than there are, or an item is at fault.
pub data BreaksAt (w : World) (path : Text) : Cause → Type 0 where
  no_grammar : {place : Place} (text : Text) → text_at w.files path ≡ Some text → w.answers.parsed (relative_to_root w path) text ≡ None → IsInText w path text place
      → BreaksAt w path (Broken place kind.Syntax)
  out_of_numbers : (text : Text) → text_at w.files path ≡ Some text → 2 ^ 64 < w.answers.spends (relative_to_root w path) text → BreaksAt w path NoNumber
  in_item : {c : Cause} (item : Item) → HasItem w path item → link w (folder_of path) item ≡ AtFault c → BreaksAt w path c

-- What is at fault with a reached file.
pub record BreaksInScan (w : World) (c : Cause) : Type 0 where
  pub path : Text
  pub reached : IsReachedFile w path
  pub at_fault : BreaksAt w path c
