-- The table of what the texts of nodes say, and the paths of their files.
use Rattle.std.specs.Prelude.{◌≡◌, ◌<◌, ℕ, List, [], Option, Some, map, length, get_or, slice_get}
use Rattle.just_graph.specs.declared.unfolding.Unfolded.{Unfolded}
use Rattle.just_parts.specs.Items.{Ast}
use Rattle.just_parts.specs.Asts.{AstKey}
use Rattle.just_loader.specs.loops.Placed.{key_at}
use Rattle.just_loader.specs.declared.scan_result.Scan.{Scan}
use Rattle.just_loader.specs.declared.scan_result.ScannedFile.{ScannedFile}

-- the key of a node, in texts
abbrev pub text_key : Scan → Unfolded → AstKey
text_key scan u = key_at scan u.path.items u.node

-- each node's key is its own, and what its text says has the path of it
pub record AreKeyed (scan : Scan) (nodes : List Unfolded) (asts : List Ast) : Type 0 where
  pub count : length asts ≡ length nodes
  pub within : (k : ℕ) (u : Unfolded) → slice_get nodes k ≡ Some u → u.node < length scan.files.items
  pub apart : (i j : ℕ) (u v : Unfolded) → slice_get nodes i ≡ Some u → slice_get nodes j ≡ Some v → text_key scan u ≡ text_key scan v → i ≡ j
  pub paths : (k : ℕ) (u : Unfolded) (ast : Ast) → slice_get nodes k ≡ Some u → slice_get asts k ≡ Some ast → ast.module_path ≡ (text_key scan u).0

-- a table has what each node's text says under the node's key, and nothing else
pub record AreHeld (scan : Scan) (nodes : List Unfolded) (asts : List Ast) (table : AstKey → Option Ast) : Type 0 where
  pub found : (k : ℕ) (u : Unfolded) (ast : Ast) → slice_get nodes k ≡ Some u → slice_get asts k ≡ Some ast → table (text_key scan u) ≡ Some ast
  pub only : (key : AstKey) (ast : Ast) → table key ≡ Some ast → (k : ℕ) × (u : Unfolded) × (slice_get nodes k ≡ Some u) × (slice_get asts k ≡ Some ast) × (text_key scan u ≡ key)

-- the relative path of the file at a place
abbrev pub relative_at : Scan → ℕ → List ℕ
relative_at scan place = get_or (map (λ (f : ScannedFile). f.relative) scan.files.items) place []
