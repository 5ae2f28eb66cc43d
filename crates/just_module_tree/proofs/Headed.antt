-- The headings of the modules that are reached.
use Rattle.std.proofs.Common.{◌≡◌, ◌<◌, ℕ, Bool, List, [], ◌∷◌, length, get_or, Some, sym, ap, ◌∙◌, inl, inr}
use Rattle.std.specs.Map.{keys_of, lookup}
use Rattle.just_graph.specs.Graph.{HasEdge}
use Rattle.just_graph.specs.Steps.{Reached, from_member, from_start}
use Rattle.just_graph.proofs.Index.{got_in}
use Rattle.just_graph.proofs.Members.{is_in}
use Rattle.just_parts.specs.Asts.{AstKey, same_ast_key}
use Rattle.just_parts.specs.Items.{Ast, Item}
use Rattle.just_module_headers.specs.Files.{ArePlaced, AreRows}
use Rattle.just_module_headers.specs.Joined.{IsJoined}
use Rattle.just_module_tree.specs.Modules.{Heading, IsHeading, heading_of, of_module, of_root}
use Rattle.just_module_headers.specs.Reading.{Reading, reading_of}
use Rattle.just_module_headers.specs.declared.files.Files.{Files}
use Rattle.just_module_headers.specs.declared.files.Rows.{Rows}
use Rattle.just_module_headers.specs.declared.join.Joined.{Joined}
use Rattle.just_module_tree.proofs.ModulePaths.{entered, subs_at}
use Rattle.just_module_tree.proofs.ModulePlaces.{is_module}

module _ (enabled : Item → Bool) (entries : List (AstKey × Ast)) (d : AstKey) (files : Files) (placed : ArePlaced entries files) (rows : Rows) (are : AreRows enabled files rows)
    (paths : (k : AstKey) (a : Ast) → lookup (same_ast_key k) entries ≡ Some a → a.module_path ≡ k.0) (joined : Joined) (root : ℕ)
    (stands : (p : ℕ) → Reached (HasEdge joined.modules.items) (root ∷ []) [] p → (p < length (keys_of entries)) × IsJoined rows joined p) (top : Heading) (is_top : top.key ≡ get_or (keys_of entries) root d) where
  abbrev R : Reading
  R = reading_of enabled (λ k. lookup (same_ast_key k) entries)

  -- each place that is reached has a heading
  pub heading_at : {p : ℕ} → Reached (HasEdge joined.modules.items) (root ∷ []) [] p → (h : Heading) × IsHeading R top h × (h.key ≡ get_or (keys_of entries) p d)
  heading_at (from_start {a} c) = elim (is_in a (root ∷ []) c) [ inl e ↦ (top, of_root, is_top ∙ ap (λ q. get_or (keys_of entries) q d) (sym e)) | inr wrong ↦ absurd wrong ]
  heading_at (from_member {a} {b} r on e) =
      let outer = heading_at r in
      let s = stands a r in
      let x = entered enabled entries d files placed rows are paths joined a s.0 s.1 b e in
      (heading_of x.sub, of_module outer.1 (is_module enabled entries d files placed rows are paths joined a s.0 s.1 outer.0 outer.2) (got_in (subs_at enabled entries d files placed rows are paths joined a) x.at x.sub x.subs), x.key)
