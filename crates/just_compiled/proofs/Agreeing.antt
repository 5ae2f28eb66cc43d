-- Paths lead alike over modules and over what they are compiled to.
use Rattle.std.proofs.Common.{◌≡◌, ◌≢◌, ◌↔◌, ◌⊎◌, ◌∙◌, ℕ, ◌<◌, Bool, true, false, cond, List, [], ◌∷◌, ◌++◌, map, length, Option, None, Some, inl, inr, refl, sym, ap, subst}
use Rattle.std.specs.List.{Contains, list_any}
use Rattle.std.specs.Option.{option_map}
use Rattle.std.specs.Prelude.{if◌then◌else◌, is_some}
use Rattle.std.specs.Str.{bytes_eq}
use Rattle.std.proofs.lemmas.List.{get_or_default}
use Rattle.just_graph.proofs.Members.{In, contained, from_map, in_map, is_in}
use Rattle.just_justfile.specs.Module.{module_name}
use Rattle.just_justfile.specs.Walks as walks
use Rattle.just_justfile.specs.Walks.{End, end_of_names, module_named, only, path_along, recipe_under as found_at, recipe_by}
use Rattle.just_justfile.specs.declared.disabled.Disabled.{Disabled}
use Rattle.just_justfile.specs.declared.justfile.Justfile.{Justfile, out-Justfile}
use Rattle.just_justfile.specs.declared.justfile.RecipeKey.{RecipeKey}
use Rattle.just_justfile.specs.declared.resolution.Resolution.{Resolution}
use Rattle.just_justfile.specs.declared.resolution.Resolution.TheVariants as resolution
use Rattle.just_module_contents.specs.Recipes.{name_of_recipe, names_of, no_recipe, recipe_at}
use Rattle.just_module_headers.proofs.Alike.{same_names}
use Rattle.just_module_recipes.specs.Linked.{name_of_disabled}
use Rattle.just_module_recipes.specs.Links.{Around, found_by}
use Rattle.just_module_tree.specs.Modules.{Forest, HasModule, Module, after_it, first, in_it}
use Rattle.just_module_tree.specs.Standing as trees
use Rattle.just_module_tree.specs.Standing.{DisabledBy, EndsWell, WalkEnd, StandsInTree, absent_in, find_inner, follow, kept_in, leads, name_in}
use Rattle.just_names.specs.Index.{AreDifferent}
use Rattle.just_names.specs.Name.{text_of_name}
use Rattle.just_names.specs.Texts.{Text}
use Rattle.just_names.specs.declared.name.Name.{Name}
use Rattle.just_names.specs.declared.name.Namepath.{Namepath}
use Rattle.just_names.specs.declared.number.Number.{Number}
use Rattle.just_parts.specs.Asts.{AstKey}
use Rattle.just_parts.specs.Items.{Ast}
use Rattle.just_parts.specs.Layers.{Given}
use Rattle.just_paths.specs.declared.modulepath.Modulepath.{Modulepath}
use Rattle.just_recipe.specs.declared.dependency.Dependency.{Dependency}
use Rattle.just_recipe.specs.declared.dependency.UnresolvedDependency.{UnresolvedDependency}
use Rattle.just_recipe.specs.declared.recipe.Recipe.{Recipe}
use Rattle.just_table.specs.Entries.{find, put_all}
use Rattle.just_compiled.specs.Analysis.{recipe_key_of, name_of_key}
use Rattle.just_compiled.specs.Justfiles.{AreCompiled, Built, IsCompiled, Made, kept_by, none, notes_said, one, recipes_of_all}
use Rattle.just_compiled.specs.Labelled.{by_name}
use Rattle.just_compiled.proofs.NamedModules.{absent_told, found_sorted}
use Rattle.just_compiled.proofs.RecipeKeys.{found_among, key_found, not_found}
use Rattle.just_compiled.proofs.Saying.{Says}
use Rattle.just_compiled.proofs.StandingRecipes.{disabled_or, from_disabled, from_standing, into_standing}

-- a table has exactly the names of a module's absent modules
abbrev pub HasAbsent : List (Text × Text) → Module → Type 0
HasAbsent table m = (name : Text) → is_some (find name table) ≡ list_any (λ absent. bytes_eq absent name) (absent_in m)

-- each module of a forest says what its files say
abbrev pub SayAll : Given → (AstKey → Option Ast) → Forest → Type 0
SayAll given asts f = (n : Module) (below : Forest) → HasModule f n below → Says given asts n

-- the table of what is noted of a module's files has the names of its absent modules
pub absent_noted : (given : Given) (asts : AstKey → Option Ast) (m : Module) (table : List (Text × Text)) → Says given asts m → table ≡ (notes_said given.syntax.enabled asts m.files).absent_modules → HasAbsent table m
absent_noted given asts m table says e name = ap (λ t. is_some (find name t)) (e ∙ ap (put_all (λ t. t) []) says.absent) ∙ absent_told name (absent_in m)

module _ (given : Given) (asts : AstKey → Option Ast) (loaded : List Text) (built : List Built) where
  -- a module with those in it is compiled to a justfile, and says what its files say
  pub record Shows (n : Module) (below : Forest) (c : Justfile) : Type 0 where
    pub made : Made
    pub inner : List Justfile
    pub compiled : AreCompiled given asts loaded built below inner
    pub is : IsCompiled given asts loaded (recipes_of_all built) n below inner made c
    pub says : Says given asts n
    pub inner_says : SayAll given asts below

  -- The modules in a module are compiled to those that are around its recipes, and what is held of these begins all recipes.
  pub record Meets (m : Module) (inside : Forest) (it : Around) : Type 0 where
    pub inner : List Justfile
    pub compiled : AreCompiled given asts loaded built inside inner
    pub modules : it.modules ≡ by_name inner
    pub different : AreDifferent (map module_name inner)
    pub rest : List (Recipe Dependency)
    pub held : recipes_of_all built ≡ it.held ++ rest
    pub absent : HasAbsent it.absent m
    pub says : Says given asts m
    pub inner_says : SayAll given asts inside

  -- what is found under one name
  pub data FoundAs : Option (Module × Forest) → Option Justfile → Type 0 where
    both : {n : Module} {below : Forest} {c : Justfile} → Shows n below c → FoundAs (Some (n, below)) (Some c)
    neither : FoundAs None None

  found_one : (m : Module) (inside : Forest) (c : Justfile) (o : Option (Module × Forest)) (q : Option Justfile) (b : Bool) → Shows m inside c → FoundAs o q → FoundAs (cond b (Some (m, inside)) o) (cond b (Some c) q)
  found_one m inside c o q true shows f = both shows
  found_one m inside c o q false shows f = f

  pub found : (x : Text) {f : Forest} {js : List Justfile} → AreCompiled given asts loaded built f js → SayAll given asts f → FoundAs (find_inner x f) (module_named x js)
  found x none says = neither
  found x (one {m} {inside} {after} {inner} {js} {j} made there below is aliased rest) says =
      let shows : Shows m inside j = record { made = made; inner = inner; compiled = below; is = is; says = says m inside first; inner_says = λ n under has. says n under (in_it has) } in
      subst (λ y. FoundAs (cond (bytes_eq (name_in m) x) (Some (m, inside)) (find_inner x after)) (cond (bytes_eq y x) (Some j) (module_named x js))) (sym is.name)
      (found_one m inside j (find_inner x after) (module_named x js) (bytes_eq (name_in m) x) shows (found x rest (λ n under has. says n under (after_it has))))

  -- places and ends of walks
  pub data Agree : WalkEnd → End → Type 0 where
    both_inside : {n : Module} {below : Forest} {c : Justfile} → Shows n below c → Agree (trees.InModule n below) (walks.Inside c)
    both_absent : {names : List Text} → Agree (trees.Missing names) (walks.Absent names)
    both_nowhere : Agree trees.Nowhere walks.Nowhere

  -- both lead nowhere, or neither does
  pub nowhere_end : {p : WalkEnd} {e : End} → Agree p e → p ≡ trees.Nowhere → e ≡ walks.Nowhere
  nowhere_end (both_inside shows) q = cc
  nowhere_end both_absent q = cc
  nowhere_end both_nowhere q = refl

  pub nowhere_place : {p : WalkEnd} {e : End} → Agree p e → e ≡ walks.Nowhere → p ≡ trees.Nowhere
  nowhere_place (both_inside shows) q = cc
  nowhere_place both_absent q = cc
  nowhere_place both_nowhere q = refl

  agree_beyond : (x : Text) (c : Justfile) {p : WalkEnd} {e : End} → Agree p e → Agree (trees.walk_beyond x p) (walks.beyond x c e)
  agree_beyond x c (both_inside shows) = both_inside shows
  agree_beyond x c both_absent = both_absent
  agree_beyond x c both_nowhere = both_nowhere

  agree_cond : (b : Bool) (names : List Text) → Agree (cond b (trees.Missing names) trees.Nowhere) (cond b (walks.Absent names) walks.Nowhere)
  agree_cond true names = both_absent
  agree_cond false names = both_nowhere

  agree_found : (xs : List Text) (x : Text) (own : List Text) (absent : List (Text × Text)) → is_some (find x absent) ≡ list_any (λ a. bytes_eq a x) own → {o : Option (Module × Forest)} {q : Option Justfile} → FoundAs o q
      → ((n : Module) (below : Forest) (c : Justfile) → Shows n below c → Agree (trees.walk_beyond x (follow xs n below)) (walks.beyond x c (end_of_names (out-Justfile c).absent_modules (out-Justfile c).modules xs)))
      → Agree (elim o as (λ _. WalkEnd) [ Some n ↦ trees.walk_beyond x (follow xs n.0 n.1) | None ↦ if list_any (λ a. bytes_eq a x) own then trees.Missing (x ∷ []) else trees.Nowhere ])
      (elim q as (λ _. End) [ Some j ↦ walks.beyond x j (end_of_names (out-Justfile j).absent_modules (out-Justfile j).modules xs) | None ↦ if is_some (find x absent) then walks.Absent (x ∷ []) else walks.Nowhere ])
  agree_found xs x own absent e (both {n} {below} {c} shows) next = next n below c shows
  agree_found xs x own absent e neither next =
      subst (λ b. Agree (cond (list_any (λ a. bytes_eq a x) own) (trees.Missing (x ∷ [])) trees.Nowhere) (cond b (walks.Absent (x ∷ [])) walks.Nowhere)) (sym e) (agree_cond (list_any (λ a. bytes_eq a x) own) (x ∷ []))

  -- a compiled module has the absent modules of its own
  pub has_absent : (n : Module) (below : Forest) (c : Justfile) → Shows n below c → HasAbsent (out-Justfile c).absent_modules n
  has_absent n below c shows = absent_noted given asts n (out-Justfile c).absent_modules shows.says (ap (λ notes. notes.absent_modules) shows.is.notes)

  pub agree : (xs : List Text) (x : Text) (m : Module) (inside : Forest) (absent : List (Text × Text)) (modules js : List Justfile) → HasAbsent absent m → ((name : Text) → module_named name modules ≡ module_named name js)
      → AreCompiled given asts loaded built inside js → SayAll given asts inside → Agree (follow (x ∷ xs) m inside) (end_of_names absent modules (x ∷ xs))
  agree [] x m inside absent modules js exact named compiled says =
      agree_found [] x (absent_in m) absent (exact x) (subst (FoundAs (find_inner x inside)) (sym (named x)) (found x compiled says)) (λ n below c shows. both_inside shows)
  agree (y ∷ ys) x m inside absent modules js exact named compiled says =
      agree_found (y ∷ ys) x (absent_in m) absent (exact x) (subst (FoundAs (find_inner x inside)) (sym (named x)) (found x compiled says))
      (λ n below c shows. agree_beyond x c
      (agree ys y n below (out-Justfile c).absent_modules (out-Justfile c).modules shows.inner (has_absent n below c shows)
      (λ name. ap (module_named name) shows.is.modules ∙ found_sorted name shows.inner shows.is.different) shows.compiled shows.inner_says))

  -- through a place a recipe is disabled by the module without a file at a path
  abbrev pub Through : WalkEnd → Text → Modulepath → Type 0
  Through place last path = ((names : List Text) × (place ≡ trees.Missing names) × (path ≡ path_along names)) ⊎ ((n : Module) × (below : Forest) × (place ≡ trees.InModule n below) × DisabledBy n below last path)

  -- a number is that of the recipe of a name, which stands in the module at a place
  pub record IsNumbered (place : WalkEnd) (last : Text) (number : Number) : Type 0 where
    pub n : Module
    pub below : Forest
    pub c : Justfile
    pub leads_in : place ≡ trees.InModule n below
    pub shows : Shows n below c
    pub i : ℕ
    pub there : i < length (kept_by given asts n)
    pub named : name_of_recipe (recipe_at (kept_by given asts n) i) ≡ last
    pub number_is : (recipe_at (kept_by given asts n) i).number ≡ number
    pub stands : StandsInTree n below last

  -- these paths are those of the modules without a file that disable what a name means at a place
  pub record IsBarred (place : WalkEnd) (last : Text) (paths : List Modulepath) : Type 0 where
    pub some : paths ≢ []
    pub ends : EndsWell place last
    pub each : (path : Modulepath) → Contains paths path ↔ Through place last path

  -- what the look-up at the end of a walk means
  abbrev pub Resolves : WalkEnd → Text → Option (Resolution Number) → Type 0
  Resolves place last (Some (resolution.Resolved number)) = IsNumbered place last number
  Resolves place last (Some (resolution.Disabled set)) = IsBarred place last set.keys
  Resolves place last None = EndsWell place last → ⊥

  -- a recipe that a module's files keep is one that it keeps, by its name
  kept_named : (n : Module) → Says given asts n → (r : Recipe UnresolvedDependency) → In r (kept_by given asts n) → Contains (names_of (kept_in n)) (name_of_recipe r)
  kept_named n says r i =
      contained (name_of_recipe r) (names_of (kept_in n)) (subst (In (name_of_recipe r)) (same_names (kept_by given asts n) (kept_in n) says.kept) (in_map name_of_recipe r (kept_by given asts n) i))

  abbrev answer : Option RecipeKey → Option Disabled → Option (Resolution Number)
  answer o q = elim o as (λ _. Option (Resolution Number)) [
    | Some key ↦ Some (resolution.Resolved key.number)
    | None ↦ option_map (λ (it : Disabled). resolution.Disabled it.modules) q
  ]

  pub looked : (n : Module) (below : Forest) (c : Justfile) → Shows n below c → (last : Text) (o : Option RecipeKey) (q : Option Disabled) → find last (out-Justfile c).recipes ≡ o → find last (out-Justfile c).disabled_recipes ≡ q → Resolves (trees.InModule n below) last (answer o q)
  looked n below c shows last (Some key) q f g =
      let is = shows.is in
      let k = key_found is.standing last key (ap (find last) (sym is.fields.recipes_are) ∙ f) in
      let s = from_standing (StandsInTree n below) is.stand k.0 k.1 in
      let at = contained k.0 (kept_by given asts n) s.0 in
      let read : recipe_at (kept_by given asts n) at.0 ≡ k.0 = get_or_default (kept_by given asts n) at.0 no_recipe k.0 at.1 ∙ at.2 in
      record {
        n = n;
        below = below;
        c = c;
        leads_in = refl;
        shows = shows;
        i = at.0;
        there = at.1;
        named = ap (λ (r : Recipe UnresolvedDependency). name_of_recipe r) read ∙ k.3;
        number_is = ap (λ (r : Recipe UnresolvedDependency). r.number) read ∙ ap (λ (x : RecipeKey). x.number) (sym k.2);
        stands = subst (StandsInTree n below) k.3 s.1;
      }
  looked n below c shows last None (Some d) f g =
      let is = shows.is in
      elim (found_among name_of_disabled last d [] is.disabled.0 (ap (find last) (sym is.disabled.2) ∙ g)) [
        | inr wrong ↦ absurd (cc)
        | inl k ↦ (
            let r = from_disabled (DisabledBy n below) is.disabled.1 d k.0 in
            let name : name_of_recipe r.0 ≡ last = sym r.2.name ∙ k.1 in
            record {
              some = r.2.some;
              ends = subst (Contains (names_of (kept_in n))) name (kept_named n shows.says r.0 r.1);
              each = λ path. (
                (λ (c : Contains d.modules.keys path). inr (n, below, refl, subst (λ t. DisabledBy n below t path) name ((r.2.each path).0 c))),
                (λ (h : Through (trees.InModule n below) last path). elim h [
                  | inl (names, e, is) ↦ absurd (cc)
                  | inr (k, b, e, d) ↦ (
                      let en : k ≡ n = cc in
                      let eb : b ≡ below = cc in
                      (r.2.each path).1 (subst (λ t. DisabledBy n below t path) (sym name) (subst (λ z. DisabledBy n z last path) eb (subst (λ z. DisabledBy z b last path) en d))))
                ]),
              );
            })
      ]
  looked n below c shows last None None f g = λ ends.
      let is = shows.is in
      let r = from_map name_of_recipe last (kept_by given asts n) (is_in last (names_of (kept_by given asts n)) (subst (λ ns. Contains ns last) (sym (same_names (kept_by given asts n) (kept_in n) shows.says.kept)) ends)) in
      elim (disabled_or (DisabledBy n below) is.disabled.1 r.0 r.1) [
        | inl stands ↦
            not_found name_of_key last [] (map recipe_key_of is.standing) (ap (find last) (sym is.fields.recipes_are) ∙ f) (recipe_key_of r.0) (in_map recipe_key_of r.0 is.standing (into_standing (StandsInTree n below) is.stand r.0 r.1 stands)) (sym r.2)
        | inr d ↦ not_found name_of_disabled last [] is.disabled.0 (ap (find last) (sym is.disabled.2) ∙ g) d.0 d.1 (d.2 ∙ sym r.2)
      ]

  pub resolves : {place : WalkEnd} {end : End} → Agree place end → (last : Text) → Resolves place last (recipe_by end [] [] last)
  resolves (both_inside {n} {below} {c} shows) last = looked n below c shows last (find last (out-Justfile c).recipes) (find last (out-Justfile c).disabled_recipes) refl refl
  resolves (both_absent {names = own}) last = record {
    some = λ e. cc;
    ends = tt;
    each = λ path. (
      (λ (m : Contains (path_along own ∷ []) path). elim (is_in path (path_along own ∷ []) m) [ inl e ↦ inl (own, refl, e) | inr h ↦ absurd h ]),
      (λ (h : Through (trees.Missing own) last path). elim h [
        | inl (names, e, is) ↦ (let same : own ≡ names = cc in contained path (path_along own ∷ []) (inl (is ∙ ap path_along (sym same))))
        | inr (k, b, e, d) ↦ absurd (cc)
      ]),
    );
  }
  resolves both_nowhere last = λ h. h

  module _ (m : Module) (inside : Forest) (it : Around) (meets : Meets m inside it) where
    front_cases : (front : List Name) (last : Text) → (front ≡ []) ⊎ Resolves (follow (map text_of_name front) m inside) last (recipe_by (end_of_names it.absent it.modules (map text_of_name front)) [] [] last)
    front_cases [] last = inl refl
    front_cases (x ∷ xs) last =
        inr (resolves (agree (map text_of_name xs) (text_of_name x) m inside it.absent it.modules meets.inner meets.absent (λ name. ap (module_named name) meets.modules ∙ found_sorted name meets.inner meets.different) meets.compiled meets.inner_says) last)

    -- a path is one name, or its look-up means where it leads
    pub far_or : (d : Namepath) → (d.front ≡ []) ⊎ Resolves (leads m inside d) (text_of_name d.last) (found_by it d)
    far_or d = front_cases d.front (text_of_name d.last)

-- one name leads nowhere else
pub stays : (m : Module) (inside : Forest) (d : Namepath) → d.front ≡ [] → leads m inside d ≡ trees.InModule m inside
stays m inside d e = ap (λ front. follow (map text_of_name front) m inside) e
