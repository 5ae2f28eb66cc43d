-- Two readings that agree on what is reached have the same modules.
use Rattle.std.proofs.Common.{◌≡◌, Bool, true, false, List, [], ◌∷◌, ◌++◌, map, Option, Some, inl, inr, refl, sym, ap, subst, ◌∙◌}
use Rattle.std.specs.Prelude.{flat_map}
use Rattle.std.specs.List.{Contains}
use Rattle.std.specs.Option.{option_map}
use Rattle.just_graph.specs.Levels.{AreLevels}
use Rattle.just_graph.proofs.Ended.{one_list}
use Rattle.just_graph.proofs.Mapped.{every_level, levels_mapped}
use Rattle.just_graph.proofs.Members.{In, contained, from_flat, from_map, in_map, is_in}
use Rattle.just_parts.specs.Asts.{AstKey, same_ast_key}
use Rattle.just_errors.specs.Causes.{Keeps}
use Rattle.just_parts.specs.Items.{Ast, Item}
use Rattle.just_parts.specs.Bare.{bare_item}
use Rattle.just_module_headers.specs.Analyzable.{AreAnalyzable}
use Rattle.just_module_headers.specs.Files.{all_led, keys_led_to, led_by}
use Rattle.just_module_contents.specs.Groups.{Breaks}
use Rattle.just_module_tree.specs.Groups.{KeepsModules, BreaksModules, in_module}
use Rattle.just_module_tree.specs.Modules.{AreModules, Empty, Forest, HasModule, Heading, IsHeading, IsModule, Module, Tree, a_module, after_it, contents_of, first, heading_of, headings_in, in_it, no_module, of_module, of_root, path_of}
use Rattle.just_module_tree.specs.Standing.{links_in}
use Rattle.just_module_headers.specs.Reading.{Reading, Submodule, declared, imported, imports_of, items_in, located_ast, reading_of, submodules_of}
use Rattle.just_module_headers.proofs.FilePlaces.{keys_flat, led_counted}
use Rattle.just_module_headers.proofs.Holding.{led_counts, some_value}
use Rattle.just_parts.specs.Layers.{Given, layers_at}

-- lists of values are one where they are found alike
all_same : {A : Type 0} (xs ys : List A) → map Some xs ≡ map Some ys → xs ≡ ys
all_same [] [] e = refl
all_same [] (y ∷ ys) e = cc
all_same (x ∷ xs) [] e = cc
all_same (x ∷ xs) (y ∷ ys) e =
    let head : x ≡ y = cc in
    let rest : map Some xs ≡ map Some ys = cc in
    (λ i. head i ∷ all_same xs ys rest i)

map_same : {A B : Type 0} (f g : A → B) (xs : List A) → ((x : A) → In x xs → f x ≡ g x) → map f xs ≡ map g xs
map_same f g [] each = refl
map_same f g (x ∷ xs) each = λ i. each x (inl refl) i ∷ map_same f g xs (λ y h. each y (inr h)) i

flat_same : {A B : Type 0} (f g : A → List B) (xs : List A) → ((x : A) → In x xs → f x ≡ g x) → flat_map f xs ≡ flat_map g xs
flat_same f g [] each = refl
flat_same f g (x ∷ xs) each = λ i. each x (inl refl) i ++ flat_same f g xs (λ y h. each y (inr h)) i

map_itself : {A : Type 0} (xs : List A) → map (λ x. x) xs ≡ xs
map_itself [] = refl
map_itself (x ∷ xs) = ap (λ ys. x ∷ ys) (map_itself xs)

-- a module of a module is one of the whole
inside_it : {f : Forest} {m n : Module} {inside below : Forest} → HasModule f m inside → HasModule inside n below → HasModule f n below
inside_it first i = in_it i
inside_it (in_it h) i = in_it (inside_it h i)
inside_it (after_it h) i = after_it (inside_it h i)

module _ (S : Reading) where
  one_module : (h : Heading) (m n : Module) → IsModule S h m → IsModule S h n → m ≡ n
  one_module h m n a b =
      let heading : m.heading ≡ n.heading = a.heading ∙ sym b.heading in
      let files : m.files ≡ n.files = one_list same_ast_key (imports_of S) h.key m.files n.files a.files b.files in
      let asts : m.asts ≡ n.asts = all_same m.asts n.asts (a.asts ∙ ap (map S) files ∙ sym b.asts) in
      let modules : m.modules ≡ n.modules = a.modules ∙ ap (flat_map (submodules_of S)) files ∙ sym b.modules in
      λ j. record { heading = heading j; files = files j; asts = asts j; modules = modules j }

  none_is : {hs : List Heading} {g : Forest} → AreModules S hs g → hs ≡ [] → Empty ≡ g
  none_is no_module e = refl
  none_is (a_module is a b) e = cc

  -- the forest of headings, cut
  record Cut (h : Heading) (hs : List Heading) (g : Forest) : Type 0 where
    m : Module
    inside : Forest
    after : Forest
    is : IsModule S h m
    within : AreModules S (headings_in m) inside
    others : AreModules S hs after
    same : g ≡ Tree m inside after

  cut : {xs : List Heading} {f : Forest} → AreModules S xs f → (g : Heading) (gs : List Heading) → xs ≡ g ∷ gs → Cut g gs f
  cut no_module g gs e = cc
  cut (a_module {h} {hs} {m} {inside} {after} is a b) g gs e =
      let head : h ≡ g = cc in
      let rest : hs ≡ gs = cc in
      record { m = m; inside = inside; after = after; is = subst (λ x. IsModule S x m) head is; within = a; others = subst (λ xs. AreModules S xs after) rest b; same = refl }

  -- headings have one forest
  pub one_forest : {hs : List Heading} {f g : Forest} → AreModules S hs f → AreModules S hs g → f ≡ g
  one_forest no_module g = none_is g refl
  one_forest (a_module {h} {hs} {m} is a b) g =
      let c = cut g h hs refl in
      let same : m ≡ c.m = one_module h m c.m is c.is in
      let inner = one_forest a (subst (λ x. AreModules S (headings_in x) c.inside) (sym same) c.within) in
      let rest = one_forest b c.others in
      (λ j. Tree (same j) (inner j) (rest j)) ∙ sym c.same

  -- the module of a heading in a forest
  pub record Found (f : Forest) (h : Heading) : Type 0 where
    pub m : Module
    pub inside : Forest
    pub has : HasModule f m inside
    pub is : IsModule S h m
    pub within : AreModules S (headings_in m) inside

  find : {hs : List Heading} {f : Forest} → AreModules S hs f → (g : Heading) → In g hs → Found f g
  find no_module g i = absurd i
  find (a_module {h} {hs} {m} {inside} is a b) g (inl e) = record { m = m; inside = inside; has = first; is = subst (λ x. IsModule S x m) (sym e) is; within = a }
  find (a_module is a b) g (inr i) = let r = find b g i in record { m = r.m; inside = r.inside; has = after_it r.has; is = r.is; within = r.within }

  -- each heading that is reached has its module in the forest
  pub find_reached : {root h : Heading} {f : Forest} → AreModules S (root ∷ []) f → IsHeading S root h → Found f h
  find_reached {root} are of_root = find are root (inl refl)
  find_reached are (of_module {h} {m} {s} r is c) =
      let up = find_reached are r in
      let same : m ≡ up.m = one_module h m up.m is up.is in
      let there : In (heading_of s) (headings_in up.m) = subst (λ x. In (heading_of s) (headings_in x)) same (in_map heading_of s m.modules (is_in s m.modules c)) in
      let down = find up.within (heading_of s) there in
      record { m = down.m; inside = down.inside; has = inside_it up.has down.has; is = down.is; within = down.within }

module _ (R S : Reading) (Q : AstKey → Type 0) (agree : (k : AstKey) → Q k → R k ≡ S k) (imports_known : (k l : AstKey) → Q k → In l (imports_of S k) → Q l)
    (modules_known : (k : AstKey) (s : Submodule) → Q k → In s (submodules_of S k) → Q s.key) where
  imports_same : (k : AstKey) → Q k → imports_of R k ≡ imports_of S k
  imports_same k q = ap (λ o. flat_map (imported k.0) (items_in o)) (agree k q)

  submodules_same : (k : AstKey) → Q k → submodules_of R k ≡ submodules_of S k
  submodules_same k q = ap (λ o. flat_map (declared k.0) (items_in o)) (agree k q)

  module _ (k : AstKey) (xs : List AstKey) (q : Q k) (join : AreLevels same_ast_key (imports_of R) k xs) where
    same_levels : AreLevels same_ast_key (imports_of S) k xs
    same_levels =
        subst (AreLevels same_ast_key (imports_of S) k) (map_itself xs)
        (levels_mapped same_ast_key same_ast_key (λ x. x) Q (imports_of R) (imports_of S) (λ a b p r. refl) (λ a p. map_itself (imports_of R a) ∙ imports_same a p) (λ a b p i. imports_known a b p (subst (In b) (imports_same a p) i)) k xs q join)

    all_known : (x : AstKey) → In x xs → Q x
    all_known = every_level same_ast_key same_ast_key (λ x. x) Q (imports_of R) (imports_of S) (λ a b p r. refl) (λ a p. map_itself (imports_of R a) ∙ imports_same a p) (λ a b p i. imports_known a b p (subst (In b) (imports_same a p) i)) k xs q join

  module _ (h : Heading) (m : Module) (q : Q h.key) (is : IsModule R h m) where
    same_module : IsModule S h m
    same_module = record {
      heading = is.heading;
      files = same_levels h.key m.files q is.files;
      asts = is.asts ∙ map_same R S m.files (λ x i. agree x (all_known h.key m.files q is.files x i));
      modules = is.modules ∙ flat_same (submodules_of R) (submodules_of S) m.files (λ x i. submodules_same x (all_known h.key m.files q is.files x i));
    }

    inner_known : (s : Submodule) → In s m.modules → Q s.key
    inner_known s i =
        let x = from_flat (submodules_of R) s m.files (subst (In s) is.modules i) in
        let p = all_known h.key m.files q is.files x.0 x.1 in
        modules_known x.0 s p (subst (In s) (submodules_same x.0 p) x.2)

    heading_known : (g : Heading) → In g (headings_in m) → Q g.key
    heading_known g i = let s = from_map heading_of g m.modules i in subst (λ (x : Heading). Q x.key) (sym s.2) (inner_known s.0 s.1)

  same_forest : {hs : List Heading} {f : Forest} → ((h : Heading) → In h hs → Q h.key) → AreModules R hs f → AreModules S hs f
  same_forest q no_module = no_module
  same_forest q (a_module {h} {hs} {m} is a b) =
      a_module (same_module h m (q h (inl refl)) is) (same_forest (heading_known h m (q h (inl refl)) is) a) (same_forest (λ g i. q g (inr i)) b)

  same_heading : {root h : Heading} → Q root.key → IsHeading R root h → IsHeading S root h × Q h.key
  same_heading q of_root = (of_root, q)
  same_heading q (of_module {h} {m} {s} r is c) =
      let up = same_heading q r in
      (of_module up.0 (same_module h m up.1 is) c, inner_known h m up.1 is s (is_in s m.modules c))

  module _ (given : Given) (root : Heading) (q : Q root.key) (f : Forest) (are : AreModules S (root ∷ []) f) (kept : KeepsModules given f) where
    root_known : (h : Heading) → In h (root ∷ []) → Q h.key
    root_known h (inl e) = subst (λ (x : Heading). Q x.key) (sym e) q
    root_known h (inr i) = absurd i

    -- they have one forest
    pub same_forests : (g : Forest) → AreModules R (root ∷ []) g → f ≡ g
    same_forests g b = one_forest S are (same_forest root_known b)

    -- what is kept over one reading is kept over the other
    pub same_kept : (g : Forest) → AreModules R (root ∷ []) g → KeepsModules given g
    same_kept g b = subst (KeepsModules given) (same_forests g b) kept

    pub same_unnamed : Keeps (BreaksModules links_in given R root)
    same_unnamed named (in_module {c} {h} {m} {inside} g r modules ground breaks) =
        let up = same_heading q r in
        let t = cut R modules h [] refl in
        let of_m : t.m ≡ m = cc in
        let of_inside : t.inside ≡ inside = cc in
        let x = find_reached S are up.0 in
        let here : x.m ≡ t.m = one_module S h x.m t.m x.is (same_module h t.m up.1 t.is) in
        let below : x.inside ≡ t.inside = one_forest S (subst (λ y. AreModules S (headings_in y) x.inside) here x.within) (same_forest (heading_known h t.m up.1 t.is) t.within) in
        kept x.m x.inside x.has g c
        (subst (λ y. Breaks (layers_at given (path_of y)) (links_in y x.inside) g (contents_of y) c) (sym (here ∙ of_m)) (subst (λ k. Breaks (layers_at given (path_of m)) (links_in m k) g (contents_of m) c) (sym (below ∙ of_inside)) breaks))

-- What asts hold leads to what they hold.
module _ (enabled : Item → Bool) (asts : AstKey → Option Ast) (can : AreAnalyzable enabled asts) where
  abbrev pub Holds : AstKey → Type 0
  Holds k = (a : Ast) × (asts k ≡ Some a)

  abbrev S : Reading
  S = reading_of enabled asts

  led_held : (inside : Bool) (k l : AstKey) → Holds k → In l (flat_map (keys_led_to inside k.0) (items_in (S k))) → Holds l
  led_held inside k l held h =
      let a : Ast = held.0 in
      let all : In l (all_led inside enabled k.0 a.items) =
      subst (In l) (ap (λ o. flat_map (keys_led_to inside k.0) (items_in (option_map (located_ast enabled) o))) held.1 ∙ led_counted inside enabled k.0 a.items) h in
      let i = from_flat (led_by inside enabled k.0) l a.items all in
      let counts = led_counts (enabled (bare_item i.0)) l (keys_led_to inside k.0 i.0) i.2 in
      let there : Contains (keys_led_to inside a.module_path i.0) l = subst (λ m. Contains (keys_led_to inside m i.0) l) (sym (can.paths k a held.1)) (contained l (keys_led_to inside k.0 i.0) counts.1) in
      some_value (asts l) (can.closed k a i.0 inside l held.1 (contained i.0 a.items i.1) counts.0 there)

  modules_held : (k : AstKey) (s : Submodule) → Holds k → In s (submodules_of S k) → Holds s.key
  modules_held k s held h = led_held true k s.key held (subst (In s.key) (keys_flat k.0 (items_in (S k))) (in_map (λ (x : Submodule). x.key) s (submodules_of S k) h))

  module _ (given : Given) (R : Reading) (agree : (k : AstKey) → Holds k → R k ≡ S k) (root : Heading) (held : Holds root.key) (f : Forest) (are : AreModules S (root ∷ []) f) (kept : KeepsModules given f) where
    -- a reading that agrees with what asts hold keeps what they keep
    pub agreeing_kept : (g : Forest) → AreModules R (root ∷ []) g → KeepsModules given g
    agreeing_kept = same_kept R S Holds agree (led_held false) modules_held given root held f are kept

    pub agreeing_unnamed : Keeps (BreaksModules links_in given R root)
    agreeing_unnamed = same_unnamed R S Holds agree (led_held false) modules_held given root held f are kept

    -- the forest is theirs
    pub agreeing_forests : (g : Forest) → AreModules R (root ∷ []) g → f ≡ g
    agreeing_forests = same_forests R S Holds agree (led_held false) modules_held given root held f are kept
