-- The keys of what is loaded, and what each of them holds.
use Rattle.std.proofs.Common.{◌≡◌, ℕ, suc, false, List, [], ◌∷◌, ◌++◌, map, Option, None, Some, inl, inr, refl, sym, ap, subst, ◌∙◌}
use Rattle.std.specs.Prelude.{unwrap_or}
use Rattle.std.specs.List.{Contains}
use Rattle.std.proofs.lemmas.List.Elements.{All-contains}
use Rattle.just_graph.specs.Unfolding.{key_of, key_child_of, path_after, stay}
use Rattle.just_graph.proofs.KeySteps.{steps_more}
use Rattle.just_graph.proofs.Members.{In, contained, from_map, in_flat, in_map, is_in}
use Rattle.just_parts.specs.Asts.{AstKey, root_ast_key}
use Rattle.just_parts.specs.Bare.{bare_item, bare_assignment, bare_recipe}
use Rattle.just_paths.specs.Clean.{folder_of}
use Rattle.just_ast_items.specs.Edge.{absolute_of, edge_of}
use Rattle.just_parts.specs.Located.{located_item, with_depth}
use Rattle.just_names.specs.Texts.{Text}
use Rattle.just_names.specs.Name.{text_of_name}
use Rattle.just_parts.specs.Syntax.{ItemCameBy}
use Rattle.just_parts.specs.Items.{Ast, Item}
use Rattle.just_ast_items.specs.declared.item.Item.TheVariants as item
use Rattle.just_paths.specs.declared.modulepath.Modulepath.{Modulepath}
use Rattle.just_source.specs.declared.source.Source.{Source}
use Rattle.just_loader.specs.Keys.{FileKey, FileNode, FileStep, IsKey, IsLeastFileDepth, ast_key, end_of_link, items_at, root_file_key, steps_by, steps_of_file}
use Rattle.just_loader.specs.loops.Keys.{key_of_ast}
use Rattle.just_loader.specs.Links.{Link, Unlinked, To, AtFault}
use Rattle.just_loader.specs.Loaded.{IsAstOf, IsLoaded, path_of_link, with_path}
use Rattle.just_loader.specs.Reached.{World, items_said, link}
use Rattle.just_loader.proofs.Numberings.{none_some, some_same}

-- the module of the file to which an item of a module leads
abbrev pub path_led : Modulepath → Item → Modulepath
path_led m (item.Module name relative absolute attributes doc optional) = record { components = m.components ++ text_of_name name ∷ []; spaced = m.spaced }
path_led m _ = m

-- an item as it came in, by its bare form
located_one : (w : World) (folder : Text) (source : Source) (i : Item) → ItemCameBy source i
    → located_item (with_path w folder i) ≡ with_depth source.file_depth (with_path w folder (bare_item i))
located_one w folder source (item.Recipe r) h = ap (λ d. item.Recipe (record (bare_recipe r) { file_depth = d })) h.depth
located_one w folder source (item.Assignment a) h = ap (λ d. item.Assignment (record (bare_assignment a) { file_depth = d })) h
located_one w folder source _ h = refl

located_all : (w : World) (folder : Text) (source : Source) (is : List Item) → ((i : Item) → In i is → ItemCameBy source i)
    → map located_item (map (with_path w folder) is) ≡ map (λ i. with_depth source.file_depth (with_path w folder i)) (map bare_item is)
located_all w folder source [] all = refl
located_all w folder source (i ∷ is) all = λ j. located_one w folder source i (all i (inl refl)) j ∷ located_all w folder source is (λ x h. all x (inr h)) j

end_is : (l : Link) (path : Text) → path_of_link l ≡ Some path → end_of_link l ≡ path ∷ []
end_is Unlinked path e = absurd (none_some e)
end_is (To p) path e = ap (λ x. x ∷ []) (some_same e)
end_is (AtFault c) path e = absurd (none_some e)

-- the step of an item that leads to a path
record Led (w : World) (folder : Text) (m : Modulepath) (i : Item) (path : Text) : Type 0 where
  step : FileStep
  has : In step (steps_by (edge_of (bare_item i)) (link w folder (bare_item i)))
  leads : step.to ≡ path
  enters : let next : Modulepath = record { components = path_after m.components step.enters; spaced = m.spaced } in next ≡ path_led m (with_path w folder i)

led : (w : World) (folder : Text) (m : Modulepath) (i : Item) (path : Text) → absolute_of (with_path w folder i) ≡ Some path → Led w folder m i path
led w folder m (item.Import relative absolute optional) path e =
    let s : FileStep = record { to = path; offset = relative.token.offset; enters = None; name = None } in
    record {
      step = s;
      has = subst (λ ps. In s (map (λ p. let x : FileStep = record { to = p; offset = relative.token.offset; enters = None; name = None } in x) ps)) (sym (end_is (link w folder (item.Import relative None optional)) path e)) (inl refl);
      leads = refl;
      enters = refl;
    }
led w folder m (item.Module name relative absolute attributes doc optional) path e =
    let s : FileStep = record { to = path; offset = 0; enters = Some (text_of_name name); name = Some name } in
    record {
      step = s;
      has = subst (λ ps. In s (map (λ p. let x : FileStep = record { to = p; offset = 0; enters = Some (text_of_name name); name = Some name } in x) ps)) (sym (end_is (link w folder (item.Module name relative None attributes doc optional)) path e)) (inl refl);
      leads = refl;
      enters = refl;
    }
led w folder m _ path e = absurd (none_some e)

-- a node says what the key holds, and the key is its own
record HeldNode (w : World) (k : AstKey) (ast : Ast) : Type 0 where
  node : FileNode
  of : IsAstOf w node ast
  key_is : ast_key (key_of node) ≡ k

module _ (w : World) (asts : AstKey → Option Ast) (loaded : List Text) (is : IsLoaded w asts loaded) where
  held_node : (k : AstKey) (ast : Ast) → asts k ≡ Some ast → HeldNode w k ast
  held_node k ast e =
      let n = is.only k ast e in
      let h = is.held n.0 n.1 in
      let same : h.0 ≡ ast = some_same (sym h.1 ∙ ap asts n.2 ∙ e) in
      record { node = n.0; of = subst (IsAstOf w n.0) same h.2; key_is = n.2 }

  -- each key of files holds something, and what holds something is the key of a file
  pub key_held : (k : FileKey) → IsKey w k → (ast : Ast) × (asts (ast_key k) ≡ Some ast)
  key_held k r =
      let n = is.keys k r in
      let h = is.held n.0 n.1 in
      (h.0, ap (λ (x : FileKey). asts (ast_key x)) (sym n.2) ∙ h.1)

  pub held_key : (k : AstKey) (ast : Ast) → asts k ≡ Some ast → (f : FileKey) × IsKey w f × (ast_key f ≡ k)
  held_key k ast e = let h = held_node k ast e in (key_of h.node, (h.of.source.file_depth, h.of.came.depth.0), h.key_is)

  -- the root's key
  pub root_held : (ast : Ast) × (asts (root_ast_key w.root) ≡ Some ast)
  root_held = key_held (root_file_key w) (0, stay)

  -- what is held has the path of its key
  pub held_path : (k : AstKey) (ast : Ast) → asts k ≡ Some ast → ast.module_path ≡ k.0
  held_path k ast e =
      let h = held_node k ast e in
      let texts : h.of.parsed.module_path.components ≡ h.node.path = h.of.from.components ∙ h.of.came.components in
      let own : h.of.parsed.module_path ≡ record { components = h.node.path; spaced = false } = λ j. record { components = texts j; spaced = h.of.from.spaced j } in
      ap (λ (a : Ast). a.module_path) h.of.rest ∙ own ∙ ap (λ (x : AstKey). x.0) h.key_is

  -- What is held is what the file's text says, with the least depth of the key, and the paths of what it leads to.
  pub said : (k : AstKey) (ast : Ast) → asts k ≡ Some ast
      → (d : ℕ) × IsLeastFileDepth w (key_of_ast k) d × (map located_item ast.items ≡ map (λ i. with_depth d (with_path w (folder_of k.1) i)) (items_at w k.1))
  said k ast e =
      let h = held_node k ast e in
      let d : ℕ = h.of.source.file_depth in
      let f : Text = h.node.node in
      let bare : items_at w f ≡ map bare_item h.of.parsed.items = ap (λ o. unwrap_or (items_said o) []) h.of.said in
      let here : map located_item ast.items ≡ map (λ i. with_depth d (with_path w (folder_of f) i)) (items_at w f) =
      ap (map located_item) h.of.items
      ∙ located_all w (folder_of f) h.of.source h.of.parsed.items (λ i m. All-contains (ItemCameBy h.of.source) h.of.parsed.items i h.of.from.items (contained i h.of.parsed.items m))
      ∙ ap (map (λ i. with_depth d (with_path w (folder_of f) i))) (sym bare) in (
        d,
        subst (λ (x : AstKey). IsLeastFileDepth w (key_of_ast x) d) h.key_is h.of.came.depth,
        subst (λ (x : AstKey). map located_item ast.items ≡ map (λ i. with_depth d (with_path w (folder_of x.1) i)) (items_at w x.1)) h.key_is here,
      )

  -- what an item leads to is held
  pub closed : (k : AstKey) (ast : Ast) (i : Item) (path : Text) → asts k ≡ Some ast → Contains ast.items i → absolute_of i ≡ Some path
      → (next : Ast) × (asts (path_led k.0 i, path) ≡ Some next)
  closed k ast i path e c there =
      let h = held_node k ast e in
      let f : Text = h.node.node in
      let own : Modulepath = record { components = h.node.path; spaced = false } in
      let bare : items_at w f ≡ map bare_item h.of.parsed.items = ap (λ o. unwrap_or (items_said o) []) h.of.said in
      let j = from_map (with_path w (folder_of f)) i h.of.parsed.items (subst (In i) h.of.items (is_in i ast.items c)) in
      let l : Led w (folder_of f) own j.0 path = led w (folder_of f) own j.0 path (ap absolute_of (sym j.2) ∙ there) in
      let item_in : In (bare_item j.0) (items_at w f) = subst (In (bare_item j.0)) (sym bare) (in_map bare_item j.0 h.of.parsed.items j.1) in
      let step_in : In l.step (steps_of_file w f) = in_flat (λ x. steps_by (edge_of x) (link w (folder_of f) x)) l.step (bare_item j.0) (items_at w f) item_in l.has in
      let child : FileKey = key_child_of (λ (s : FileStep). s.to) (λ (s : FileStep). s.enters) (key_of h.node) l.step in
      let next = key_held child (suc h.of.source.file_depth, steps_more h.of.came.depth.0 l.step (contained l.step (steps_of_file w f) step_in)) in
      let from : (path_led k.0 i, path) ≡ (path_led own (with_path w (folder_of f) j.0), path) = λ x. (path_led ((sym h.key_is x).0) (j.2 x), path) in
      let to : (path_led own (with_path w (folder_of f) j.0), path) ≡ ast_key child = λ x. (sym l.enters x, sym l.leads x) in
      (next.0, ap asts (from ∙ to) ∙ next.1)
