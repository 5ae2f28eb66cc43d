-- The module whose own file stands at a place.
use Rattle.std.proofs.Common.{◌≡◌, ◌<◌, ℕ, zero, suc, nat_eq, Bool, List, [], ◌∷◌, ◌++◌, map, take, length, get_or, slice_index, Some, refl, sym, ap, subst, ◌∙◌, arith, inl, inr}
use Rattle.std.specs.Prelude.{flat_map}
use Rattle.std.specs.List.{Contains}
use Rattle.std.specs.Map.{keys_of, lookup}
use Rattle.std.specs.Option.{option_map, unwrap_or}
use Rattle.std.proofs.lemmas.Bool.{eq-eqb, eqb-true}
use Rattle.std.proofs.lemmas.List.{map-append}
use Rattle.std.specs.Cmp.{both_ways}
use Rattle.just_graph.specs.Graph.{HasEdge, targets}
use Rattle.just_graph.specs.Levels.{AreLevels}
use Rattle.just_graph.specs.Steps.{ListsStepsFirst, in_take}
use Rattle.just_graph.proofs.Mapped.{every_level, levels_mapped}
use Rattle.just_graph.proofs.Members.{In, contained}
use Rattle.just_parts.specs.Asts.{AstKey, same_ast_key}
use Rattle.just_parts.specs.Bare.{ast_of_items}
use Rattle.just_parts.specs.Items.{Ast, Item}
use Rattle.just_parts.proofs.AstKeys.{key_same}
use Rattle.just_module_headers.specs.Files.{ArePlaced, AreRows}
use Rattle.just_module_headers.specs.Joined.{IsJoined}
use Rattle.just_module_tree.specs.Modules.{AreModules, Forest, Empty, Tree, HasModule, Heading, IsModule, Module, a_module, after_it, first, heading_of, headings_in, in_it, no_module}
use Rattle.just_module_headers.specs.Reading.{Reading, Submodule, imports_of, located_ast, reading_of, submodules_of}
use Rattle.just_module_headers.specs.declared.files.Files.{Files}
use Rattle.just_module_headers.specs.declared.files.Rows.{Rows}
use Rattle.just_module_headers.specs.declared.join.Joined.{Joined}
use Rattle.just_module_headers.proofs.FilePlaces.{import_inside, imports_here, modules_here, one_place, says}
use Rattle.just_module_headers.proofs.Joining.{in_row}

-- lists that are mapped, part by part
flat_keys : {A B C : Type 0} (f : ℕ → C) (g : B → C) (T : ℕ → List ℕ) (S : A → List B) (h : ℕ → A) (xs : List ℕ) → ((x : ℕ) → In x xs → map f (T x) ≡ map g (S (h x))) → map f (flat_map T xs) ≡ map g (flat_map S (map h xs))
flat_keys f g T S h [] each = refl
flat_keys f g T S h (x ∷ xs) each =
    map-append f (T x) (flat_map T xs) ∙ (λ i. each x (inl refl) i ++ flat_keys f g T S h xs (λ y k. each y (inr k)) i) ∙ sym (map-append g (S (h x)) (flat_map S (map h xs)))

abbrev pub no_ast : Ast
no_ast = ast_of_items []

all_read : (R : Reading) (f : ℕ → AstKey) (xs : List ℕ) → ((x : ℕ) → In x xs → (a : Ast) × (R (f x) ≡ Some a)) → map Some (map (λ k. unwrap_or (R k) no_ast) (map f xs)) ≡ map R (map f xs)
all_read R f [] each = refl
all_read R f (x ∷ xs) each =
    let a = each x (inl refl) in
    (λ i. (ap (λ o. Some (unwrap_or o no_ast)) a.1 ∙ sym a.1) i ∷ all_read R f xs (λ y h. each y (inr h)) i)

-- the place of an element among the first
listed_at : (xs : List ℕ) (k q : ℕ) → k < length xs → Contains (take k xs) q → (i : ℕ) × ((i < k) × (i < length xs)) × (slice_index xs i ≡ q)
listed_at xs k q h c = let i = in_take xs k q (omega (arith, h)) c in (i.0, (i.1, omega (arith, i.1, h)), i.2)

-- lists that are one, by their parts
both : {A : Type 0} (x y : A) (xs ys : List A) → x ∷ xs ≡ y ∷ ys → (x ≡ y) × (xs ≡ ys)
both x y xs ys e = (cc, cc)

none_some : {A : Type 0} (x : A) (xs : List A) → [] ≡ x ∷ xs → ⊥
none_some x xs e = cc

some_none : {A : Type 0} (x : A) (xs : List A) → x ∷ xs ≡ [] → ⊥
some_none x xs e = cc

heading_keys : (subs : List Submodule) → map (λ (h : Heading). h.key) (map heading_of subs) ≡ map (λ (s : Submodule). s.key) subs
heading_keys [] = refl
heading_keys (s ∷ subs) = ap (λ ks. s.key ∷ ks) (heading_keys subs)

pub nobody : {f : Forest} {x : Module} {inside : Forest} → HasModule f x inside → f ≡ Empty → ⊥
nobody first e = cc
nobody (in_it i) e = cc
nobody (after_it i) e = cc

module _ (enabled : Item → Bool) (entries : List (AstKey × Ast)) (d : AstKey) (files : Files) (placed : ArePlaced entries files) (rows : Rows) (are : AreRows enabled files rows)
    (paths : (k : AstKey) (a : Ast) → lookup (same_ast_key k) entries ≡ Some a → a.module_path ≡ k.0) (joined : Joined) where
  abbrev R : Reading
  R = reading_of enabled (λ k. lookup (same_ast_key k) entries)

  abbrev n : ℕ
  n = length (keys_of entries)

  abbrev key_at : ℕ → AstKey
  key_at p = get_or (keys_of entries) p d

  pub agree : (a b : ℕ) → a < n → b < n → same_ast_key (key_at a) (key_at b) ≡ nat_eq a b
  agree a b h l = both_ways (same_ast_key (key_at a) (key_at b)) (nat_eq a b)
      (λ t. eq-eqb a b (one_place enabled entries d files placed rows are paths a b h l ((key_same (key_at a) (key_at b)).0 t)))
      (λ t. (key_same (key_at a) (key_at b)).1 (ap key_at (eqb-true a b t)))

  pub along : (a : ℕ) → a < n → map key_at (targets rows.imports.items a) ≡ imports_of R (key_at a)
  along = imports_here enabled entries d files placed rows are paths

  closed : (a b : ℕ) → a < n → In b (targets rows.imports.items a) → b < n
  closed a b h i = in_row (λ q. q < n) (targets rows.imports.items a) b (import_inside enabled entries d files placed rows are paths a) (contained b (targets rows.imports.items a) i)

  abbrev files_of : ℕ → List ℕ
  files_of p = targets joined.files.items p

  module _ (p : ℕ) (inside : p < n) (j : IsJoined rows joined p) where
    pub join_at : AreLevels same_ast_key (imports_of R) (key_at p) (map key_at (files_of p))
    join_at = levels_mapped nat_eq same_ast_key key_at (λ q. q < n) (targets rows.imports.items) (imports_of R) agree along closed p (files_of p) inside j.files

    pub file_inside : (q : ℕ) → In q (files_of p) → q < n
    file_inside = every_level nat_eq same_ast_key key_at (λ q. q < n) (targets rows.imports.items) (imports_of R) agree along closed p (files_of p) inside j.files

    -- the own files of the modules that are declared
    pub inner_keys : map (λ (s : Submodule). s.key) (flat_map (submodules_of R) (map key_at (files_of p))) ≡ map key_at (targets joined.modules.items p)
    inner_keys = sym (ap (map key_at) j.modules
        ∙ flat_keys key_at (λ (s : Submodule). s.key) (targets rows.modules.items) (submodules_of R) key_at (files_of p) (λ q h. modules_here enabled entries d files placed rows are paths q (file_inside q h)))

    -- the module of a heading there
    abbrev pub module_at : Heading → Module
    module_at h = record {
      heading = h;
      files = map key_at (files_of p);
      asts = map (λ k. unwrap_or (R k) no_ast) (map key_at (files_of p));
      modules = flat_map (submodules_of R) (map key_at (files_of p));
    }

    pub is_module : (h : Heading) → h.key ≡ key_at p → IsModule R h (module_at h)
    is_module h e = record {
      heading = refl;
      files = subst (λ k. AreLevels same_ast_key (imports_of R) k (map key_at (files_of p))) (sym e) join_at;
      asts = all_read R key_at (files_of p) (λ q i. let s = says enabled entries d files placed rows are paths q (file_inside q i) in (located_ast enabled s.ast, ap (λ o. option_map (located_ast enabled) o) s.said));
      modules = refl;
    }

  module _ (order : List ℕ) (below : (k : ℕ) → k < length order → slice_index order k < n) (joins : (k : ℕ) → k < length order → IsJoined rows joined (slice_index order k))
      (lists_first : ListsStepsFirst (HasEdge joined.modules.items) order) where
    abbrev pub module_of : (k : ℕ) → k < length order → Heading → Module
    module_of k l h = module_at (slice_index order k) (below k l) (joins k l) h

    -- a module whose own file is listed before a place
    pub record IsListed (k : ℕ) (x : Module) : Type 0 where
      pub at : ℕ
      pub before : at < k
      pub there : at < length order
      pub h : Heading
      pub key : h.key ≡ key_at (slice_index order at)
      pub is : x ≡ module_of at there h

    later : {j k : ℕ} {x : Module} → j < k → IsListed j x → IsListed k x
    later {j} {k} b i = record { at = i.at; before = omega (arith, b, i.before); there = i.there; h = i.h; key = i.key; is = i.is }

    -- of which something holds that holds of a tree where it holds of what is in it and after it
    module _ (C : Forest → List Heading → List ℕ → Type 0) (c_none : C Empty [] [])
        (c_more : (k : ℕ) (l : k < length order) (h : Heading) (inside after : Forest) (hs : List Heading) (row : List ℕ) → h.key ≡ key_at (slice_index order k) → C inside (headings_in (module_of k l h)) (targets joined.modules.items (slice_index order k)) → C after hs row
        → C (Tree (module_of k l h) inside after) (h ∷ hs) (slice_index order k ∷ row)) where
      -- the modules of headings at places, all of which are listed before a place
      pub record TreesAt (k : ℕ) (hs : List Heading) (row : List ℕ) : Type 0 where
        pub forest : Forest
        pub are_modules : AreModules R hs forest
        pub known : (x : Module) (inside : Forest) → HasModule forest x inside → IsListed k x
        pub holds : C forest hs row

      -- the module of a heading at a listed place, and those in it
      pub record TreeAt (k : ℕ) (l : k < length order) (h : Heading) : Type 0 where
        pub inside : Forest
        pub are_modules : AreModules R (headings_in (module_of k l h)) inside
        pub is : IsModule R h (module_of k l h)
        pub known : (x : Module) (below : Forest) → HasModule inside x below → IsListed k x
        pub holds : C inside (headings_in (module_of k l h)) (targets joined.modules.items (slice_index order k))

      -- what a tree and those after it have
      known_more : {k j : ℕ} {l : j < length order} {h : Heading} {hs : List Heading} {row : List ℕ} → j < k → h.key ≡ key_at (slice_index order j) → (t : TreeAt j l h) (ts : TreesAt k hs row)
          → (x : Module) (inside : Forest) → HasModule (Tree (module_of j l h) t.inside ts.forest) x inside → IsListed k x
      known_more {k} {j} {l} {h} b e t ts x inside first = record { at = j; before = b; there = l; h = h; key = e; is = refl }
      known_more b e t ts x inside (in_it i) = later b (t.known x inside i)
      known_more b e t ts x inside (after_it i) = ts.known x inside i

      together : {k j : ℕ} {l : j < length order} {h : Heading} {hs : List Heading} {row : List ℕ} → j < k → h.key ≡ key_at (slice_index order j) → TreeAt j l h → TreesAt k hs row → TreesAt k (h ∷ hs) (slice_index order j ∷ row)
      together {k} {j} {l} {h} {hs} {row} b e t ts = record {
        forest = Tree (module_of j l h) t.inside ts.forest;
        are_modules = a_module t.is t.are_modules ts.are_modules;
        known = known_more b e t ts;
        holds = c_more j l h t.inside ts.forest hs row e t.holds ts.holds;
      }

      no_trees : {k : ℕ} → TreesAt k [] []
      no_trees = record { forest = Empty; are_modules = no_module; known = λ x inside i. absurd (nobody i refl); holds = c_none }

      -- the tree of a heading at a place that is listed before another
      record HasTree (k q : ℕ) (h : Heading) : Type 0 where
        j : ℕ
        before : j < k
        there : j < length order
        at : slice_index order j ≡ q
        tree : TreeAt j there h

      -- before those of other headings
      more_trees : {k : ℕ} (q : ℕ) (h : Heading) (hs : List Heading) (row : List ℕ) → h.key ≡ key_at q → HasTree k q h → TreesAt k hs row → TreesAt k (h ∷ hs) (q ∷ row)
      more_trees {k} q h hs row e t ts = subst (λ r. TreesAt k (h ∷ hs) (r ∷ row)) t.at (together {k = k} {j = t.j} {l = t.there} {h = h} {hs = hs} {row = row} t.before (e ∙ ap key_at (sym t.at)) t.tree ts)

      -- modules by the places of their own files
      trees_of : (k : ℕ) (hs : List Heading) (row : List ℕ) → map (λ (h : Heading). h.key) hs ≡ map key_at row → ((q : ℕ) → In q row → (h : Heading) → h.key ≡ key_at q → HasTree k q h) → TreesAt k hs row
      trees_of k [] [] e each = no_trees
      trees_of k [] (q ∷ row) e each = absurd (none_some (key_at q) (map key_at row) e)
      trees_of k (h ∷ hs) [] e each = absurd (some_none h.key (map (λ (g : Heading). g.key) hs) e)
      trees_of k (h ∷ hs) (q ∷ row) e each =
          let parts = both h.key (key_at q) (map (λ (g : Heading). g.key) hs) (map key_at row) e in
          more_trees q h hs row parts.0 (each q (inl refl) h parts.0) (trees_of k hs row parts.1 (λ r i. each r (inr i)))

      trees_below : (m k : ℕ) → k < m → (l : k < length order) → (h : Heading) → h.key ≡ key_at (slice_index order k) → TreeAt k l h
      trees_below zero k b l h e = absurd (omega arith)
      trees_below (suc m) k b l h e =
          let p = slice_index order k in
          let j = joins k l in
          let inner = trees_of k (headings_in (module_of k l h)) (targets joined.modules.items p) (heading_keys (module_of k l h).modules ∙ inner_keys p (below k l) j) (λ q i g same.
          let listed = lists_first k q l (contained q (targets joined.modules.items p) i) in
          let at = listed_at order k q l listed in
          record { j = at.0; before = at.1.0; there = at.1.1; at = at.2; tree = trees_below m at.0 (omega (arith, at.1.0, b)) at.1.1 g (same ∙ ap key_at (sym at.2)) }) in
          record { inside = inner.forest; are_modules = inner.are_modules; is = is_module p (below k l) j h e; known = inner.known; holds = inner.holds }

      -- each listed place has its modules
      pub tree_at : (k : ℕ) (l : k < length order) (h : Heading) → h.key ≡ key_at (slice_index order k) → TreeAt k l h
      tree_at k l = trees_below (suc k) k (omega arith) l
