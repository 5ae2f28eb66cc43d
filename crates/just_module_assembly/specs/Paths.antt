-- The paths that are shown of files.
use Rattle.std.specs.Prelude.{◌≡◌, Option, Some, IsSome}
use Rattle.just_paths.specs.Clean.{folder_of}
use Rattle.just_names.specs.Texts.{Text}
use Rattle.just_parts.specs.Asts.{AstKey}
use Rattle.just_parts.specs.Items.{Ast}
use Rattle.just_loader.specs.ModuleFile.{relative}

-- a table of paths leads from the file of each key to its path from the folder of the root, where it lies below it
abbrev pub AreRelative : Text → (AstKey → Option Ast) → (Text → Option Text) → Type 0
AreRelative root asts paths = (k : AstKey) → IsSome (asts k) → paths k.1 ≡ Some (relative (folder_of root) k.1)
