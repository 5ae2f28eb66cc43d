-- What the files at places lead to, by their keys.
use Rattle.std.proofs.Common.{◌≡◌, ◌<◌, ℕ, zero, suc, Bool, true, false, cond, List, [], ◌∷◌, ◌++◌, map, length, get_or, Option, Some, None, refl, sym, ap, subst, ◌∙◌, arith, inl, inr}
use Rattle.std.specs.Prelude.{flat_map, slice_get, MatchOption}
use Rattle.std.specs.HashMap.{get}
use Rattle.std.specs.Borrow.{Bor}
use Rattle.std.specs.List.{All, AllByRecursion, IsDistinct}
use Rattle.std.specs.Option.{option_map}
use Rattle.std.proofs.lemmas.Bool.{cases_lt, false≢true}
use Rattle.std.specs.Map.{keys_of, lookup, values_of}
use Rattle.std.proofs.lemmas.List.{length-map, map-append}
use Rattle.std.proofs.lemmas.Map.Entries.{length-keys_of, length-values_of, lookup_from_place}
use Rattle.std.proofs.lemmas.Option.{get_or_from_slice_get, slice_get-get_or, slice_get_within}
use Rattle.just_graph.specs.Building.{targets_past}
use Rattle.just_graph.specs.Graph.{targets}
use Rattle.just_graph.proofs.Index.{map_get, none_some, some_same}
use Rattle.just_parts.specs.Asts.{AstKey, same_ast_key}
use Rattle.just_parts.specs.Bare.{bare_item}
use Rattle.just_parts.specs.Located.{located_item}
use Rattle.just_parts.specs.Items.{Ast, Item}
use Rattle.just_ast_items.specs.declared.item.Item.TheVariants as item
use Rattle.just_paths.specs.declared.modulepath.Modulepath.{Modulepath}
use Rattle.just_parts.proofs.AstKeys.{key_same, keys_equivalent}
use Rattle.just_module_headers.specs.Files.{ArePlaced, AreKeyPlaces, AreRows, HasPlaces, all_led, asts_in, keys_led_to, led_from, led_in}
use Rattle.just_module_headers.specs.Reading.{Reading, Submodule, declared, enabled_items, imports_of, items_in, located_ast, reading_of, submodules_of}
use Rattle.just_module_headers.specs.Joined.{AreGraphs}
use Rattle.just_module_headers.proofs.Joining.{in_row}
use Rattle.just_module_headers.specs.declared.files.Files.{Files}
use Rattle.just_module_headers.specs.declared.files.Rows.{Rows}

-- where a located item leads
led_located : (inside : Bool) (path : Modulepath) (i : Item) → keys_led_to inside path (located_item i) ≡ keys_led_to inside path i
led_located true path (item.Module name relative None attributes doc optional) = refl
led_located true path (item.Module name relative (Some file) attributes doc optional) = refl
led_located true path _ = refl
led_located false path (item.Import relative None optional) = refl
led_located false path (item.Import relative (Some file) optional) = refl
led_located false path _ = refl

module _ (inside : Bool) (enabled : Item → Bool) (path : Modulepath) where
  abbrev counted : List Item → List Item
  counted items = map located_item (enabled_items enabled items)

  one_led : (b : Bool) (i : Item) (items : List Item) → flat_map (keys_led_to inside path) (map located_item (cond b (i ∷ enabled_items enabled items) (enabled_items enabled items))) ≡ cond b (keys_led_to inside path i) [] ++ flat_map (keys_led_to inside path) (counted items)
  one_led true i items = ap (λ ks. ks ++ flat_map (keys_led_to inside path) (counted items)) (led_located inside path i)
  one_led false i items = refl

  -- the items that count lead to the same
  pub led_counted : (items : List Item) → flat_map (keys_led_to inside path) (counted items) ≡ all_led inside enabled path items
  led_counted [] = refl
  led_counted (i ∷ items) = one_led (enabled (bare_item i)) i items ∙ ap (λ ks. cond (enabled (bare_item i)) (keys_led_to inside path i) [] ++ ks) (led_counted items)

inside_more : {n : ℕ} (p : ℕ) (row : List ℕ) → p < n → All (λ q. q < n) row → All (λ q. q < n) (p ∷ row)
inside_more p row h all zero d l = h
inside_more p row h all (suc k) d l = all k d (omega (arith, l))

-- a table's places lead back to the keys
module _ (keys : List AstKey) (d : AstKey) (table : AstKey → Option ℕ) (leads : HasPlaces keys table) where
  back : (k : AstKey) (p : ℕ) (o : Option ℕ) → table k ≡ o → o ≡ Some p → MatchOption o ((q : ℕ) → slice_get keys q ≡ Some k → ⊥) (λ q. slice_get keys q ≡ Some k) → slice_get keys p ≡ Some k
  back k p None e h m = cc
  back k p (Some q) e h m = subst (λ r. slice_get keys r ≡ Some k) (some_same h) m

  pub place_back : (k : AstKey) (p : ℕ) → table k ≡ Some p → slice_get keys p ≡ Some k
  place_back k p e = back k p (table k) refl e (leads k)

  pub places_back : (found : List AstKey) (row : List ℕ) → AreKeyPlaces table found row → map (λ p. get_or keys p d) row ≡ found
  places_back [] [] e = refl
  places_back [] (p ∷ row) e = cc
  places_back (k ∷ found) [] e = cc
  places_back (k ∷ found) (p ∷ row) e =
      let head : table k ≡ Some p = cc in
      let rest : map table found ≡ map Some row = cc in
      (λ i. get_or_from_slice_get keys p k d (place_back k p head) i ∷ places_back found row rest i)

  pub places_inside : (found : List AstKey) (row : List ℕ) → AreKeyPlaces table found row → All (λ p. p < length keys) row
  places_inside [] [] e = λ n x l. absurd (omega (arith, l))
  places_inside [] (p ∷ row) e = cc
  places_inside (k ∷ found) [] e = cc
  places_inside (k ∷ found) (p ∷ row) e =
      let head : table k ≡ Some p = cc in
      let rest : map table found ≡ map Some row = cc in
      inside_more p row (slice_get_within keys p k (place_back k p head)) (places_inside found row rest)

-- the own files of the modules that items declare
pub keys_flat : (path : Modulepath) (items : List Item) → map (λ (s : Submodule). s.key) (flat_map (declared path) items) ≡ flat_map (keys_led_to true path) items
keys_flat path [] = refl
keys_flat path (i ∷ items) = map-append (λ (s : Submodule). s.key) (declared path i) (flat_map (declared path) items) ∙ ap (λ ks. keys_led_to true path i ++ ks) (keys_flat path items)

-- the entry at a place, by its key and its value
entry_at : (es : List (AstKey × Ast)) (p : ℕ) → p < length (keys_of es) → (e : AstKey × Ast) × (slice_get es p ≡ Some e)
entry_at [] p h = absurd (omega arith)
entry_at (e ∷ es) zero h = (e, refl)
entry_at (e ∷ es) (suc p) h = entry_at es p (omega arith)

key_of_entry : (es : List (AstKey × Ast)) (p : ℕ) (k : AstKey) (a : Ast) → slice_get es p ≡ Some (k, a) → slice_get (keys_of es) p ≡ Some k
key_of_entry es p k a e = map_get (λ (x : AstKey × Ast). x.0) es p (k, a) e

value_of_entry : (es : List (AstKey × Ast)) (p : ℕ) (k : AstKey) (a : Ast) → slice_get es p ≡ Some (k, a) → slice_get (values_of es) p ≡ Some a
value_of_entry es p k a e = map_get (λ (x : AstKey × Ast). x.1) es p (k, a) e

pub holds_at : (P : AstKey → Type 0) (ks : List AstKey) (q : ℕ) (k : AstKey) → AllByRecursion P ks → slice_get ks q ≡ Some k → P k
holds_at P [] q k all e = absurd (none_some e)
holds_at P (x ∷ ks) zero k all e = subst P (some_same e) all.0
holds_at P (x ∷ ks) (suc q) k all e = holds_at P ks q k all.1 e

not_again : (x k : AstKey) (ks : List AstKey) (q : ℕ) → AllByRecursion (λ y. same_ast_key x y ≡ false) ks → x ≡ k → slice_get ks q ≡ Some k → ⊥
not_again x k ks q all e at = false≢true (sym (holds_at (λ y. same_ast_key x y ≡ false) ks q k all at) ∙ (key_same x k).1 e)

distinct_places : (ks : List AstKey) → IsDistinct same_ast_key ks → (p q : ℕ) (k : AstKey) → slice_get ks p ≡ Some k → slice_get ks q ≡ Some k → p ≡ q
unfolding IsDistinct
distinct_places [] distinct p q k a b = absurd (none_some a)
distinct_places (x ∷ ks) distinct zero zero k a b = refl
distinct_places (x ∷ ks) distinct zero (suc q) k a b = absurd (not_again x k ks q distinct.0 (some_same a) b)
distinct_places (x ∷ ks) distinct (suc p) zero k a b = absurd (not_again x k ks p distinct.0 (some_same b) a)
distinct_places (x ∷ ks) distinct (suc p) (suc q) k a b = ap suc (distinct_places ks distinct.1 p q k a b)

module _ (enabled : Item → Bool) (entries : List (AstKey × Ast)) (d : AstKey) (files : Files) (placed : ArePlaced entries files) (rows : Rows) (are : AreRows enabled files rows)
    (paths : (k : AstKey) (a : Ast) → lookup (same_ast_key k) entries ≡ Some a → a.module_path ≡ k.0) where
  abbrev asts : AstKey → Option Ast
  asts k = lookup (same_ast_key k) entries

  abbrev R : Reading
  R = reading_of enabled asts

  abbrev keys : List AstKey
  keys = keys_of entries

  abbrev key_at : ℕ → AstKey
  key_at p = get_or keys p d

  -- what the file at a place says
  pub record Says (p : ℕ) : Type 0 where
    pub ast : Ast
    pub at : slice_get entries p ≡ Some (key_at p, ast)
    pub said : asts (key_at p) ≡ Some ast
    pub listed : slice_get (asts_in files) p ≡ Some ast
    pub path : ast.module_path ≡ (key_at p).0

  pub says : (p : ℕ) → p < length keys → Says p
  says p h =
      let e = entry_at entries p h in
      let key : slice_get keys p ≡ Some e.0.0 = key_of_entry entries p e.0.0 e.0.1 e.1 in
      let same : key_at p ≡ e.0.0 = get_or_from_slice_get keys p e.0.0 d key in
      let at : slice_get entries p ≡ Some (key_at p, e.0.1) = e.1 ∙ ap (λ k. Some (k, e.0.1)) (sym same) in
      let said : asts (key_at p) ≡ Some e.0.1 = lookup_from_place keys_equivalent entries p (key_at p) e.0.1 placed.distinct at in
      record {
        ast = e.0.1;
        at = at;
        said = said;
        listed = ap (λ xs. slice_get xs p) placed.asts ∙ value_of_entry entries p e.0.0 e.0.1 e.1;
        path = paths (key_at p) e.0.1 said;
      }

  pub count : length files.asts.items ≡ length keys
  count = sym (length-map files.asts.items (λ (a : Bor Ast). a.now)) ∙ ap length placed.asts ∙ length-values_of entries ∙ sym (length-keys_of entries)

  pub key_count : length files.keys.items ≡ length files.asts.items
  key_count = sym (length-map files.keys.items (λ (k : Bor AstKey). k.now)) ∙ ap length placed.keys ∙ sym count

  -- the keys to which the items of the file at a place lead
  led_here : (inside : Bool) (p : ℕ) → p < length keys → led_from inside enabled (asts_in files) p ≡ flat_map (keys_led_to inside (key_at p).0) (items_in (R (key_at p)))
  led_here inside p h =
      let s = says p h in
      ap (led_in inside enabled) s.listed ∙ ap (λ path. all_led inside enabled path s.ast.items) s.path ∙ sym (led_counted inside enabled (key_at p).0 s.ast.items)
      ∙ ap (λ o. flat_map (keys_led_to inside (key_at p).0) (items_in (option_map (located_ast enabled) o))) (sym s.said)

  pub imports_here : (p : ℕ) → p < length keys → map key_at (targets rows.imports.items p) ≡ imports_of R (key_at p)
  imports_here p h =
      places_back keys d (get same_ast_key files.places) placed.places _ (targets rows.imports.items p) (are.imports.rows p (omega (arith, h, count))) ∙ led_here false p h

  pub modules_here : (p : ℕ) → p < length keys → map key_at (targets rows.modules.items p) ≡ map (λ (s : Submodule). s.key) (submodules_of R (key_at p))
  modules_here p h =
      places_back keys d (get same_ast_key files.places) placed.places _ (targets rows.modules.items p) (are.modules.rows p (omega (arith, h, count))) ∙ led_here true p h
      ∙ sym (keys_flat (key_at p).0 (items_in (R (key_at p))))

  -- rows lead to places
  pub import_inside : (p : ℕ) → All (λ q. q < length keys) (targets rows.imports.items p)
  import_inside p = elim (cases_lt p (length files.asts.items)) [
    | inl h ↦ places_inside keys d (get same_ast_key files.places) placed.places _ (targets rows.imports.items p) (are.imports.rows p h)
    | inr h ↦ subst (λ xs. All (λ q. q < length keys) xs) (sym (targets_past rows.imports.items p (omega (arith, h, are.imports.count)))) (λ k x l. absurd (omega (arith, l)))
  ]

  pub module_inside : (p : ℕ) → All (λ q. q < length keys) (targets rows.modules.items p)
  module_inside p = elim (cases_lt p (length files.asts.items)) [
    | inl h ↦ places_inside keys d (get same_ast_key files.places) placed.places _ (targets rows.modules.items p) (are.modules.rows p h)
    | inr h ↦ subst (λ xs. All (λ q. q < length keys) xs) (sym (targets_past rows.modules.items p (omega (arith, h, are.modules.count)))) (λ k x l. absurd (omega (arith, l)))
  ]

  pub are_graphs : AreGraphs rows (length keys)
  are_graphs = record {
    imports = are.imports.count ∙ count;
    modules = are.modules.count ∙ count;
    import_graph = λ a b e. omega (arith, in_row (λ q. q < length keys) (targets rows.imports.items a) b (import_inside a) e, are.imports.count, count);
    module_graph = λ a b e. omega (arith, in_row (λ q. q < length keys) (targets rows.modules.items a) b (module_inside a) e, are.modules.count, count);
  }

  -- two places have two keys
  pub one_place : (p q : ℕ) → p < length keys → q < length keys → key_at p ≡ key_at q → p ≡ q
  one_place p q h l same = distinct_places keys placed.distinct p q (key_at p) (slice_get-get_or keys p d h) (slice_get-get_or keys q d l ∙ ap Some (sym same))
