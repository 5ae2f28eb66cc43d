-- What the files of a source map say, as the modules that they belong to see it.
use Rattle.std.specs.BTreeMap.{BTreeMap}
use Rattle.std.specs.Prelude.{◌≡◌, false, ℕ, List, [], map, None, Some}
use Rattle.just_module_contents.specs.Named.{lists_by}
use Rattle.just_parts.specs.Asts.{root_ast_key}
use Rattle.just_paths.specs.Clean.{folder_of}
use Rattle.just_names.specs.Texts.{Text}
use Rattle.just_parts.specs.Evaluator.{Evaluator}
use Rattle.just_parts.specs.Layers.{Given, override_at}
use Rattle.just_parts.specs.Located.{with_depth}
use Rattle.just_parts.specs.Items.{Item}
use Rattle.just_ast_expressions.specs.declared.list_use.ListUse.{ListUse}
use Rattle.just_loader.specs.Keys.{FileKey, IsLeastFileDepth, ast_key, items_at}
use Rattle.just_loader.specs.Loaded.{with_path}
use Rattle.just_loader.specs.Reached.{World, ast_of}
use Rattle.just_module_tree.specs.Modules.{Heading, heading, label}
use Rattle.just_module_tree.specs.Overrides.{OverrideKey}
use Rattle.just_module_headers.specs.Reading.{Reading, ast_of_both, enabled_items}

-- the items of a file that count, at a depth, with the paths of the files to which they lead
abbrev pub items_read : World → FileKey → ℕ → List Item
items_read w k depth = map (λ i. with_depth depth (with_path w (folder_of k.node) i)) (enabled_items w.answers.enabled (items_at w k.node))

-- where the file at a path needs lists
abbrev pub lists_at : World → Text → List ListUse
lists_at w f = lists_by (ast_of w f)

-- Each file is read under the path of its module and its own, at the least depth of that key.
abbrev pub IsReadingOf : World → Reading → Type 0
IsReadingOf w R = (k : FileKey) (depth : ℕ) → IsLeastFileDepth w k depth → R (ast_key k) ≡ Some (ast_of_both (items_read w k depth) (lists_at w k.node))

-- the root's module, which no item declares
abbrev pub root_heading : World → Heading
root_heading w = heading (root_ast_key w.root) (label None None [] false)

-- the values that override variables, under keys: the path of the module and the name of the variable
abbrev pub Overrides : Type 0
Overrides = BTreeMap OverrideKey Text

-- what is given to the analysis
abbrev pub given_in : Evaluator → Overrides → World → Given
given_in evaluator overrides w = record { syntax = w.answers; evaluator = evaluator; overrides = override_at overrides }
