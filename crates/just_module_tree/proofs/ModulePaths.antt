-- The paths of modules: each is one name longer than that of the module which declares it, and leads to one module.
use Rattle.std.proofs.Common.{◌≡◌, ◌<◌, ◌≤◌, ℕ, nat_eq, Bool, List, [], ◌∷◌, ◌++◌, map, length, get_or, slice_index, Some, None, refl, sym, ap, subst, ◌∙◌, arith, inl, inr}
use Rattle.std.specs.Prelude.{flat_map, slice_get}
use Rattle.std.specs.List.{Contains}
use Rattle.std.specs.Map.{keys_of, lookup}
use Rattle.std.proofs.lemmas.Bool.{cases_lt}
use Rattle.std.proofs.lemmas.List.{length-append}
use Rattle.std.proofs.lemmas.Option.{get_or_from_slice_get, slice_get-get_or, slice_get_read, slice_get_within}
use Rattle.just_graph.specs.Graph.{HasEdge, targets}
use Rattle.just_graph.specs.Steps.{IsOnce, Reached, from_member, from_start}
use Rattle.just_graph.proofs.Index.{get_map, got_in, map_get, some_same}
use Rattle.just_graph.proofs.Mapped.{every_level}
use Rattle.just_graph.proofs.Members.{In, contained, from_flat, from_map, in_map, is_in}
use Rattle.just_parts.specs.Asts.{AstKey, same_ast_key}
use Rattle.just_names.specs.Texts.{Text}
use Rattle.just_names.specs.Name.{text_of_name}
use Rattle.just_parts.specs.Items.{Ast, Item}
use Rattle.just_ast_items.specs.declared.item.Item.TheVariants as item
use Rattle.just_paths.specs.declared.modulepath.Modulepath.{Modulepath}
use Rattle.just_names.specs.Index.{texts_of_names, AreDifferent, name_at}
use Rattle.just_module_headers.specs.Files.{ArePlaced, AreRows}
use Rattle.just_module_headers.specs.Joined.{IsJoined}
use Rattle.just_module_headers.specs.Reading.{Reading, Submodule, declared, imported, imports_of, items_in, reading_of, submodules_of}
use Rattle.just_module_contents.specs.Resolved.{path_to}
use Rattle.just_module_headers.specs.declared.files.Files.{Files}
use Rattle.just_module_headers.specs.declared.files.Rows.{Rows}
use Rattle.just_module_headers.specs.declared.join.Joined.{Joined}
use Rattle.just_module_headers.proofs.FilePlaces.{import_inside, imports_here}
use Rattle.just_module_headers.proofs.Joining.{in_row}
use Rattle.just_module_tree.proofs.ModulePlaces.{agree, along, inner_keys}

-- an import stays in its module
import_path : (path : Modulepath) (k : AstKey) (i : Item) → In k (imported path i) → k.0 ≡ path
import_path path k (item.Import relative None optional) h = absurd h
import_path path k (item.Import relative (Some file) optional) (inl e) = ap (λ (x : AstKey). x.0) e
import_path path k (item.Import relative (Some file) optional) (inr h) = absurd h
import_path path k _ h = absurd h

-- a module is one name further
module_path : (path : Modulepath) (s : Submodule) (i : Item) → In s (declared path i) → s.key.0 ≡ path_to path (text_of_name s.name)
module_path path s (item.Module name relative None attributes doc optional) h = absurd h
module_path path s (item.Module name relative (Some file) attributes doc optional) (inl e) = ap (λ (x : Submodule). x.key.0) e ∙ ap (λ (x : Submodule). path_to path (text_of_name x.name)) (sym e)
module_path path s (item.Module name relative (Some file) attributes doc optional) (inr h) = absurd h
module_path path s _ h = absurd h

pub ends_same : (xs ys : List Text) (x y : Text) → xs ++ x ∷ [] ≡ ys ++ y ∷ [] → (xs ≡ ys) × (x ≡ y)
ends_same [] [] x y e = (refl, cc)
ends_same [] (b ∷ ys) x y e = let l = ap length e in absurd (omega (arith, l, length-append ys (y ∷ [])))
ends_same (a ∷ xs) [] x y e = let l = ap length e in absurd (omega (arith, l, length-append xs (x ∷ [])))
ends_same (a ∷ xs) (b ∷ ys) x y e =
    let head : a ≡ b = cc in
    let rest : xs ++ x ∷ [] ≡ ys ++ y ∷ [] = cc in
    let more = ends_same xs ys x y rest in
    ((λ i. head i ∷ more.0 i), more.1)

-- a path that leads one name on tells the path and the name
pub path_parts : (p q : Modulepath) (x y : Text) → path_to p x ≡ path_to q y → (p ≡ q) × (x ≡ y)
path_parts p q x y e =
    let parts = ends_same p.components q.components x y (ap (λ (m : Modulepath). m.components) e) in
    let spaced = ap (λ (m : Modulepath). m.spaced) e in
    ((λ i. record { components = parts.0 i; spaced = spaced i }), parts.1)

one_name : (names : List Text) → AreDifferent names → (i j : ℕ) (x : Text) → slice_get names i ≡ Some x → slice_get names j ≡ Some x → i ≡ j
one_name names different i j x a b =
    let same : name_at names i ≡ name_at names j = get_or_from_slice_get names i x [] a ∙ sym (get_or_from_slice_get names j x [] b) in
    elim (cases_lt i j) [
      | inl l ↦ absurd (different i j l (slice_get_within names j x b) same)
      | inr l ↦ elim (cases_lt j i) [
        | inl m ↦ absurd (different j i m (slice_get_within names i x a) (sym same))
        | inr m ↦ omega arith
      ]
    ]

module _ (enabled : Item → Bool) (entries : List (AstKey × Ast)) (d : AstKey) (files : Files) (placed : ArePlaced entries files) (rows : Rows) (are : AreRows enabled files rows)
    (paths : (k : AstKey) (a : Ast) → lookup (same_ast_key k) entries ≡ Some a → a.module_path ≡ k.0) (joined : Joined) where
  abbrev R : Reading
  R = reading_of enabled (λ k. lookup (same_ast_key k) entries)

  abbrev n : ℕ
  n = length (keys_of entries)

  abbrev key_at : ℕ → AstKey
  key_at p = get_or (keys_of entries) p d

  abbrev path_at : ℕ → Modulepath
  path_at p = (key_at p).0

  abbrev pub subs_at : ℕ → List Submodule
  subs_at p = flat_map (submodules_of R) (map key_at (targets joined.files.items p))

  import_at : (a b : ℕ) → a < n → In b (targets rows.imports.items a) → path_at b ≡ path_at a
  import_at a b h i =
      let k : In (key_at b) (imports_of R (key_at a)) = subst (In (key_at b)) (imports_here enabled entries d files placed rows are paths a h) (in_map key_at b (targets rows.imports.items a) i) in
      let x = from_flat (imported (path_at a)) (key_at b) (items_in (R (key_at a))) k in
      import_path (path_at a) (key_at b) x.0 x.2

  module _ (p : ℕ) (inside : p < n) (j : IsJoined rows joined p) where
    -- the files of a module have its path
    pub file_path : (q : ℕ) → In q (targets joined.files.items p) → (q < n) × (path_at q ≡ path_at p)
    file_path = every_level nat_eq same_ast_key key_at (λ q. (q < n) × (path_at q ≡ path_at p)) (targets rows.imports.items) (imports_of R)
        (λ a b x y. agree enabled entries d files placed rows are paths joined a b x.0 y.0) (λ a x. along enabled entries d files placed rows are paths joined a x.0)
        (λ a b x i. (in_row (λ q. q < n) (targets rows.imports.items a) b (import_inside enabled entries d files placed rows are paths a) (contained b (targets rows.imports.items a) i), import_at a b x.0 i ∙ x.1))
        p (targets joined.files.items p) (inside, refl) j.files

    sub_path : (s : Submodule) → In s (subs_at p) → s.key.0 ≡ path_to (path_at p) (text_of_name s.name)
    sub_path s h =
        let x = from_flat (submodules_of R) s (map key_at (targets joined.files.items p)) h in
        let q = from_map key_at x.0 (targets joined.files.items p) x.1 in
        let y = from_flat (declared x.0.0) s (items_in (R x.0)) x.2 in
        module_path x.0.0 s y.0 y.2 ∙ ap (λ m. path_to m (text_of_name s.name)) (ap (λ (k : AstKey). k.0) q.2 ∙ (file_path q.0 q.1).1)

    -- the module at a place of the row
    pub entered_at : (i b : ℕ) → slice_get (targets joined.modules.items p) i ≡ Some b → (s : Submodule) × (slice_get (subs_at p) i ≡ Some s) × (s.key ≡ key_at b) × (path_at b ≡ path_to (path_at p) (text_of_name s.name))
    entered_at i b at =
        let key : slice_get (map (λ (s : Submodule). s.key) (subs_at p)) i ≡ Some (key_at b) =
        ap (λ ks. slice_get ks i) (inner_keys enabled entries d files placed rows are paths joined p inside j) ∙ map_get key_at (targets joined.modules.items p) i b at in
        let sub = get_map (λ (s : Submodule). s.key) (subs_at p) i (key_at b) key in
        (sub.0, sub.1, sym sub.2, ap (λ (k : AstKey). k.0) sub.2 ∙ sub_path sub.0 (is_in sub.0 (subs_at p) (got_in (subs_at p) i sub.0 sub.1)))

    -- A module is declared under a name, at a place of the row.
    pub record Entered (b : ℕ) : Type 0 where
      pub at : ℕ
      pub sub : Submodule
      pub row : slice_get (targets joined.modules.items p) at ≡ Some b
      pub subs : slice_get (subs_at p) at ≡ Some sub
      pub key : sub.key ≡ key_at b
      pub path : path_at b ≡ path_to (path_at p) (text_of_name sub.name)

    pub entered : (b : ℕ) → HasEdge joined.modules.items p b → Entered b
    entered b e =
        let row = targets joined.modules.items p in
        let at : slice_get row e.0 ≡ Some b = slice_get_read row (length row) e.0 b refl e.1 (sym e.2) in
        let x = entered_at e.0 b at in
        record { at = e.0; sub = x.0; row = at; subs = x.1; key = x.2; path = x.3 }

    names_at : (i : ℕ) (s : Submodule) → slice_get (subs_at p) i ≡ Some s → slice_get (texts_of_names (map (λ (s : Submodule). s.name) (subs_at p))) i ≡ Some (text_of_name s.name)
    names_at i s e = map_get text_of_name (map (λ (s : Submodule). s.name) (subs_at p)) i s.name (map_get (λ (s : Submodule). s.name) (subs_at p) i s e)

    -- where the names are different, the modules are
    pub row_once : AreDifferent (texts_of_names (map (λ (s : Submodule). s.name) (subs_at p))) → IsOnce (targets joined.modules.items p)
    row_once different i k l h same =
        let row = targets joined.modules.items p in
        let at_i : slice_get row i ≡ Some (slice_index row i) = slice_get-get_or row i 0 (omega (arith, l, h)) in
        let at_k : slice_get row k ≡ Some (slice_index row k) = slice_get-get_or row k 0 h in
        let x = entered_at i (slice_index row i) at_i in
        let y = entered_at k (slice_index row k) at_k in
        let text = (path_parts (path_at p) (path_at p) (text_of_name x.0.name) (text_of_name y.0.name) (sym x.3 ∙ ap path_at same ∙ y.3)).1 in
        let one = one_name (texts_of_names (map (λ (s : Submodule). s.name) (subs_at p))) different i k (text_of_name x.0.name) (names_at i x.0 x.1) (names_at k y.0 y.1 ∙ ap Some (sym text)) in
        omega (arith, l, one)

    -- a name leads to one place
    pub one_entered : AreDifferent (texts_of_names (map (λ (s : Submodule). s.name) (subs_at p))) → (b c : ℕ) (x : Entered b) (y : Entered c) → text_of_name x.sub.name ≡ text_of_name y.sub.name → b ≡ c
    one_entered different b c x y same =
        let names = texts_of_names (map (λ (s : Submodule). s.name) (subs_at p)) in
        let read : (i : ℕ) (s : Submodule) → slice_get (subs_at p) i ≡ Some s → slice_get names i ≡ Some (text_of_name s.name) =
        λ i s e. map_get text_of_name (map (λ (s : Submodule). s.name) (subs_at p)) i s.name (map_get (λ (s : Submodule). s.name) (subs_at p) i s e) in
        let at = one_name names different x.at y.at (text_of_name x.sub.name) (read x.at x.sub x.subs) (read y.at y.sub y.subs ∙ ap Some (sym same)) in
        some_same (sym x.row ∙ ap (slice_get (targets joined.modules.items p)) at ∙ y.row)

  abbrev pub depth : ℕ → ℕ
  depth p = length (path_at p).components

  module _ (inside : (a b : ℕ) → HasEdge joined.modules.items a b → (a < n) × IsJoined rows joined a) where
    -- modules in a module lie deeper
    pub deeper : (a b : ℕ) → HasEdge joined.modules.items a b → depth a < depth b
    deeper a b e =
        let i = inside a b e in
        let x = entered a i.0 i.1 b e in
        let is : depth b ≡ length ((path_at a).components ++ text_of_name x.sub.name ∷ []) = ap (λ (m : Modulepath). length m.components) x.path in
        omega (arith, is, length-append (path_at a).components (text_of_name x.sub.name ∷ []))

    module _ (root : ℕ) where
      abbrev IsReached : ℕ → Type 0
      IsReached = Reached (HasEdge joined.modules.items) (root ∷ []) []

      from_root : {p : ℕ} → Contains (root ∷ []) p → p ≡ root
      from_root {p} c = elim (is_in p (root ∷ []) c) [ inl e ↦ e | inr wrong ↦ absurd wrong ]

      pub below_root : {p : ℕ} → IsReached p → depth root ≤ depth p
      below_root (from_start {a} c) = omega (arith, ap depth (from_root c))
      below_root (from_member {a} {b} r on e) = omega (arith, below_root r, deeper a b e)

      pub not_root : {a b : ℕ} → IsReached a → HasEdge joined.modules.items a b → path_at root ≡ path_at b → ⊥
      not_root {a} {b} r e same = omega (arith, below_root r, deeper a b e, ap (λ (m : Modulepath). length m.components) same)

      module _ (different : (a : ℕ) → IsReached a → AreDifferent (texts_of_names (map (λ (s : Submodule). s.name) (subs_at a)))) where
        same_child : (a b f g : ℕ) → IsReached a → HasEdge joined.modules.items a b → HasEdge joined.modules.items f g → (path_at a ≡ path_at f → a ≡ f) → path_at b ≡ path_at g → b ≡ g
        same_child a b f g r e h parents same =
            let i = inside a b e in
            let k = inside f g h in
            let x = entered a i.0 i.1 b e in
            let y = entered f k.0 k.1 g h in
            let parent : a ≡ f = parents (path_parts (path_at a) (path_at f) (text_of_name x.sub.name) (text_of_name y.sub.name) (sym x.path ∙ same ∙ y.path)).0 in
            let z = entered a i.0 i.1 g (subst (λ c. HasEdge joined.modules.items c g) (sym parent) h) in
            one_entered a i.0 i.1 (different a r) b g x z (path_parts (path_at a) (path_at a) (text_of_name x.sub.name) (text_of_name z.sub.name) (sym x.path ∙ same ∙ z.path)).1

        -- a path leads to one place
        pub one_path : {p q : ℕ} → IsReached p → IsReached q → path_at p ≡ path_at q → p ≡ q
        one_path (from_start c) (from_start e) same = from_root c ∙ sym (from_root e)
        one_path (from_start c) (from_member {a} {b} r on e) same = absurd (not_root r e (ap path_at (sym (from_root c)) ∙ same))
        one_path (from_member {a} {b} r on e) (from_start c) same = absurd (not_root r e (ap path_at (sym (from_root c)) ∙ sym same))
        one_path (from_member r on e) (from_member s off h) same = same_child _ _ _ _ r e h (one_path r s) same

        -- a module stands in one module
        pub one_outer : (a f b : ℕ) → IsReached a → IsReached f → HasEdge joined.modules.items a b → HasEdge joined.modules.items f b → a ≡ f
        one_outer a f b r s e h =
            let i = inside a b e in
            let k = inside f b h in
            let x = entered a i.0 i.1 b e in
            let y = entered f k.0 k.1 b h in
            one_path r s (path_parts (path_at a) (path_at f) (text_of_name x.sub.name) (text_of_name y.sub.name) (sym x.path ∙ y.path)).0
