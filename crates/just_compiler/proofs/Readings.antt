-- What is loaded is a reading of the source map, and can be analyzed.
use Rattle.std.proofs.Common.{◌≡◌, ◌≤◌, ℕ, Bool, true, false, List, [], ◌∷◌, map, Option, None, Some, IsSome, inl, inr, refl, sym, ap, subst, ◌∙◌, arith}
use Rattle.std.specs.Prelude.{if◌then◌else◌}
use Rattle.std.specs.List.{Contains}
use Rattle.std.specs.Option.{option_map}
use Rattle.std.proofs.lemmas.Bool.{false_from_ne_true}
use Rattle.just_graph.specs.Steps.{IsOnce}
use Rattle.just_graph.proofs.Leveling.{is_once}
use Rattle.just_graph.proofs.Index.{some_same}
use Rattle.just_graph.proofs.Members.{In, contained, is_in}
use Rattle.just_parts.specs.Asts.{AstKey, same_ast_key}
use Rattle.just_parts.specs.Bare.{bare_item}
use Rattle.just_paths.specs.Clean.{folder_of}
use Rattle.just_ast_items.specs.Edge.{absolute_of}
use Rattle.just_parts.specs.Located.{located_item, with_depth}
use Rattle.just_names.specs.Texts.{Text}
use Rattle.just_parts.specs.Syntax.{numbers_of_items}
use Rattle.just_parts.specs.Items.{Ast, Item}
use Rattle.just_ast_items.specs.declared.item.Item.TheVariants as item
use Rattle.just_paths.specs.declared.modulepath.Modulepath.{Modulepath}
use Rattle.just_parts.proofs.AstKeys.{key_same}
use Rattle.just_parts.proofs.Edges.{bare_twice}
use Rattle.just_loader.specs.Keys.{IsLeastFileDepth, ast_key, items_at}
use Rattle.just_loader.specs.loops.Keys.{key_of_ast}
use Rattle.just_loader.specs.Loaded.{IsLoaded, with_path}
use Rattle.just_loader.specs.Reached.{World}
use Rattle.just_loader.proofs.HeldKeys.{closed, held_key, held_path, key_held, path_led, said}
use Rattle.just_module_headers.specs.Analyzable.{AreAnalyzable, assignment_numbers}
use Rattle.just_module_contents.specs.Named.{variable_by, lists_by}
use Rattle.just_module_contents.specs.Said.{said as said_of}
use Rattle.just_module_headers.specs.Files.{keys_led_to}
use Rattle.just_module_contents.specs.Recipes.{recipes_of}
use Rattle.just_module_headers.specs.Reading.{Reading, ast_of_both, enabled_items, located_ast, reading_of}
use Rattle.just_module_contents.specs.Resolved.{unresolved_numbers}
use Rattle.just_module_tree.proofs.Agreeing.{Holds}
use Rattle.just_compiler.specs.Readings.{IsReadingOf, items_read, lists_at}
use Rattle.just_compiler.proofs.Numbers.{once_recipes, once_variables, recipe_number_in, recipe_priors, variable_number_in}

-- an item that leads to a key has the path of its file
led_by_path : (inside : Bool) (m : Modulepath) (i : Item) (l : AstKey) → In l (keys_led_to inside m i) → (path : Text) × (absolute_of i ≡ Some path) × ((path_led m i, path) ≡ l)
led_by_path true m (item.Module name relative None attributes doc optional) l h = absurd h
led_by_path true m (item.Module name relative (Some file) attributes doc optional) l (inl e) = (file, refl, sym e)
led_by_path true m (item.Module name relative (Some file) attributes doc optional) l (inr h) = absurd h
led_by_path true m _ l h = absurd h
led_by_path false m (item.Import relative None optional) l h = absurd h
led_by_path false m (item.Import relative (Some file) optional) l (inl e) = (file, refl, sym e)
led_by_path false m (item.Import relative (Some file) optional) l (inr h) = absurd h
led_by_path false m _ l h = absurd h

-- items that count, along maps that change nothing of what is bare
module _ (enabled : Item → Bool) (f g : Item → Item) (f_bare : (i : Item) → bare_item (f i) ≡ bare_item i) (g_bare : (i : Item) → bare_item (g i) ≡ bare_item i) where
  pick : (a b : Bool) (x y : Item) (xs ys : List Item) → a ≡ b → f x ≡ g y → map f xs ≡ map g ys → map f (if a then x ∷ xs else xs) ≡ map g (if b then y ∷ ys else ys)
  pick a true x y xs ys e h r = rw e (λ i. h i ∷ r i)
  pick a false x y xs ys e h r = rw e r

  counted_alike : (xs ys : List Item) → map f xs ≡ map g ys → map f (enabled_items enabled xs) ≡ map g (enabled_items enabled ys)
  counted_alike [] [] e = refl
  counted_alike [] (y ∷ ys) e = cc
  counted_alike (x ∷ xs) [] e = cc
  counted_alike (x ∷ xs) (y ∷ ys) e =
      let head : f x ≡ g y = cc in
      let rest : map f xs ≡ map g ys = cc in
      pick (enabled (bare_item x)) (enabled (bare_item y)) x y (enabled_items enabled xs) (enabled_items enabled ys) (ap enabled (sym (f_bare x) ∙ ap bare_item head ∙ g_bare y)) head (counted_alike xs ys rest)

located_bare : (i : Item) → bare_item (located_item i) ≡ bare_item i
located_bare (item.Recipe r) = bare_twice (item.Recipe r)
located_bare (item.Function f) = bare_twice (item.Function f)
located_bare _ = refl

read_bare : (w : World) (folder : Text) (depth : ℕ) (i : Item) → bare_item (with_depth depth (with_path w folder i)) ≡ bare_item i
read_bare w folder depth (item.Recipe r) = refl
read_bare w folder depth _ = refl

module _ (w : World) (asts : AstKey → Option Ast) (loaded : List Text) (is : IsLoaded w asts loaded) where
  abbrev enabled : Item → Bool
  enabled = w.answers.enabled

  can_close : (k : AstKey) (ast : Ast) (i : Item) (inside : Bool) (l : AstKey) → asts k ≡ Some ast → Contains ast.items i → Contains (keys_led_to inside ast.module_path i) l → IsSome (asts l)
  can_close k ast i inside l e c d =
      let p = led_by_path inside ast.module_path i l (is_in l (keys_led_to inside ast.module_path i) d) in
      let next = closed w asts loaded is k ast i p.0 e c p.1 in
      let key : (path_led k.0 i, p.0) ≡ l = ap (λ m. (path_led m i, p.0)) (sym (held_path w asts loaded is k ast e)) ∙ p.2 in
      subst (λ o. IsSome o) (sym (ap asts (sym key) ∙ next.1)) refl

  once : (k : AstKey) (ast : Ast) → asts k ≡ Some ast → IsOnce (unresolved_numbers (recipes_of enabled ast.items))
  once k ast e = let r = is.numbers.rising k ast e in is_once (unresolved_numbers (recipes_of enabled ast.items)) (once_recipes enabled r.0 ast.items r.1 r.2)

  apart : (k l : AstKey) (a b : Ast) (m : ℕ) → asts k ≡ Some a → asts l ≡ Some b → (k ≡ l → ⊥) → Contains (unresolved_numbers (recipes_of enabled a.items)) m → Contains (unresolved_numbers (recipes_of enabled b.items)) m → ⊥
  apart k l a b m held_a held_b other in_a in_b =
      is.numbers.apart k l a b m held_a held_b (false_from_ne_true (same_ast_key k l) (λ t. other ((key_same k l).0 t)))
      (contained m (numbers_of_items a.items) (recipe_number_in enabled m a.items (is_in m (unresolved_numbers (recipes_of enabled a.items)) in_a)))
      (contained m (numbers_of_items b.items) (recipe_number_in enabled m b.items (is_in m (unresolved_numbers (recipes_of enabled b.items)) in_b)))

  variables_once : (k : AstKey) (ast : Ast) → asts k ≡ Some ast → IsOnce (assignment_numbers (said_of variable_by enabled ast.items))
  variables_once k ast e = let r = is.numbers.rising k ast e in is_once (assignment_numbers (said_of variable_by enabled ast.items)) (once_variables enabled r.0 ast.items r.1 r.2)

  variables_apart : (k l : AstKey) (a b : Ast) (m : ℕ) → asts k ≡ Some a → asts l ≡ Some b → (k ≡ l → ⊥) → Contains (assignment_numbers (said_of variable_by enabled a.items)) m → Contains (assignment_numbers (said_of variable_by enabled b.items)) m → ⊥
  variables_apart k l a b m held_a held_b other in_a in_b =
      is.numbers.apart k l a b m held_a held_b (false_from_ne_true (same_ast_key k l) (λ t. other ((key_same k l).0 t)))
      (contained m (numbers_of_items a.items) (variable_number_in enabled m a.items (is_in m (assignment_numbers (said_of variable_by enabled a.items)) in_a)))
      (contained m (numbers_of_items b.items) (variable_number_in enabled m b.items (is_in m (assignment_numbers (said_of variable_by enabled b.items)) in_b)))

  pub are_analyzable : AreAnalyzable enabled asts
  are_analyzable = record {
    closed = λ k ast i inside l e c on d. can_close k ast i inside l e c d;
    paths = held_path w asts loaded is;
    once = once;
    apart = apart;
    priors = λ k ast e. recipe_priors enabled ast.items (is.priors k ast e);
    variables_once = variables_once;
    variables_apart = variables_apart;
  }

  -- where what is held needs lists
  lists_said : (k : AstKey) (ast : Ast) → asts k ≡ Some ast → ast.list_features ≡ lists_at w k.1
  lists_said k ast e =
      let n = is.only k ast e in
      let h = is.held n.0 n.1 in
      let same : h.0 ≡ ast = some_same (sym h.1 ∙ ap asts n.2 ∙ e) in
      ap (λ (a : Ast). a.list_features) (sym same ∙ h.2.rest) ∙ sym (ap lists_by h.2.said) ∙ ap (λ (x : AstKey). lists_at w x.1) n.2

  pub is_reading : IsReadingOf w (reading_of enabled asts)
  is_reading k depth least =
      let a = key_held w asts loaded is k (depth, least.0) in
      let s = said w asts loaded is (ast_key k) a.0 a.1 in
      let below : depth ≤ s.0 = least.1 s.0 s.1.0 in
      let above : s.0 ≤ depth = s.1.1 depth least.0 in
      let same : s.0 ≡ depth = omega (arith, below, above) in
      let items : map located_item (enabled_items enabled a.0.items) ≡ items_read w k s.0 =
      counted_alike enabled located_item (λ i. with_depth s.0 (with_path w (folder_of k.node) i)) located_bare (read_bare w (folder_of k.node) s.0) a.0.items (items_at w k.node) s.2 in
      let lists : a.0.list_features ≡ lists_at w k.node = lists_said (ast_key k) a.0 a.1 in
      ap (option_map (located_ast enabled)) a.1 ∙ (λ i. Some (ast_of_both (items i) (lists i))) ∙ ap (λ d. Some (ast_of_both (items_read w k d) (lists_at w k.node))) same

  -- each reading says the same where something is held
  pub readings_agree : (R : Reading) → IsReadingOf w R → (k : AstKey) → Holds enabled asts are_analyzable k → R k ≡ reading_of enabled asts k
  readings_agree R reads k held =
      let f = held_key w asts loaded is k held.0 held.1 in
      let s = said w asts loaded is k held.0 held.1 in
      let least : IsLeastFileDepth w f.0 s.0 = subst (λ x. IsLeastFileDepth w (key_of_ast x) s.0) (sym f.2) s.1 in
      ap R (sym f.2) ∙ reads f.0 s.0 least ∙ sym (is_reading f.0 s.0 least) ∙ ap (reading_of enabled asts) f.2
