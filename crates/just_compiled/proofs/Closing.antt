-- What is compiled is closed.
use Rattle.std.proofs.Common.{◌≡◌, ◌<◌, ℕ, zero, suc, Bool, true, List, [], ◌∷◌, ◌++◌, map, length, Option, None, Some, IsSome, refl, sym, ap, subst, ◌∙◌, ◌⊎◌, inl, inr, arith}
use Rattle.std.specs.Cmp.Lexicographic.{slice_cmp}
use Rattle.std.specs.Prelude.{slice_get}
use Rattle.std.specs.List.{All, Contains}
use Rattle.std.specs.List.Sorted.{IsStrictlySortedBy}
use Rattle.std.specs.Ordering.{nat_cmp}
use Rattle.std.proofs.lemmas.Option.{slice_get_read}
use Rattle.just_ast_definitions.specs.declared.alias.Alias.{Alias}
use Rattle.just_names.specs.Name.{text_of_name}
use Rattle.std.specs.Map.{values_of}
use Rattle.std.proofs.lemmas.List.{get_or_default, length-map}
use Rattle.just_graph.specs.Levels.{AreLevels, before, level}
use Rattle.just_graph.proofs.Members.{In, contained, in_cases, in_left, in_right, is_in}
use Rattle.just_parts.specs.Asts.{AstKey}
use Rattle.just_table.specs.Entries.{find, put}
use Rattle.just_names.specs.Texts.{Text}
use Rattle.just_recipe.specs.declared.dependency.Dependency.{Dependency}
use Rattle.just_parts.specs.Items.{Ast}
use Rattle.just_recipe.specs.declared.dependency.UnresolvedDependency.{UnresolvedDependency}
use Rattle.just_names.specs.declared.number.Number.{Number}
use Rattle.just_recipe.specs.declared.recipe.Recipe.{Recipe}
use Rattle.just_justfile.specs.Closed.{AreClosed, HasRecipe, IsClosedModule, StandsIn, all_closed, inside as stands_inside, itself, path_on, recipe_of_alias, recipe_of_key, recipe_of_number}
use Rattle.just_recipe.specs.Recipes.{IsResolved, find_number}
use Rattle.just_justfile.specs.Module.{module_name}
use Rattle.just_justfile.specs.declared.justfile.Justfile.{Justfile, out-Justfile}
use Rattle.just_justfile.specs.declared.justfile.RecipeKey.{RecipeKey}
use Rattle.just_module_contents.specs.Defaults.{IsDefaultAmong, IsDefaultOf}
use Rattle.just_compiled.specs.Variables.{HasTables}
use Rattle.just_compiled.specs.Labelled.{by_name, held_by_name}
use Rattle.just_compiled.specs.Justfiles.{AreCompiled, Built, Made, IsCompiled, kept_by, none, one, recipes_of_all}
use Rattle.just_module_headers.specs.Reading.{Reading}
use Rattle.just_module_tree.specs.Modules.{AreModules, Forest, Heading, Module, a_module, after_it, first, in_it, no_module, path_of}
use Rattle.just_graph.proofs.Index.{some_same}
use Rattle.std.specs.Option.{option_map}
use Rattle.just_module_aliases.proofs.Later.{marked_or_none}
use Rattle.just_module_contents.specs.Recipes.{name_of_recipe, no_recipe, recipe_at, recipes_of}
use Rattle.just_module_contents.proofs.RecipePlaces.{number_read, recipe_read}
use Rattle.just_module_tree.specs.Standing.{StandsInTree as Stands}
use Rattle.just_compiled.proofs.StandingRecipes.{from_standing}
use Rattle.just_module_contents.specs.Resolved.{number_at, path_to, unresolved_numbers}
use Rattle.just_compiled.proofs.Agreeing.{SayAll, Shows}
use Rattle.just_compiled.proofs.Aliasing.{alias_held, alias_path}
use Rattle.just_compiled.proofs.ByName.{names_sorted, paths_inside}
use Rattle.just_compiled.proofs.Placing.{inner_names}
use Rattle.just_compiled.proofs.RecipeKeys.{key_found}
use Rattle.just_compiled.proofs.TableValues.{put_cases}
use Rattle.just_parts.specs.Layers.{Given}

-- the start stands in what is joined
module _ {X : Type 0} (same : X → X → Bool) (itself : (x : X) → same x x ≡ true) where
  start_in : (next : X → List X) (start : X) (n : ℕ) → In start (before same next start (suc n))
  unfolding level before
  start_in next start zero = inl refl
  start_in next start (suc n) = in_left start (before same next start (suc n)) (level same next start (suc n)) (start_in next start n)

  some_start : (next : X → List X) (start : X) (count : ℕ) → level same next start count ≡ [] → In start (before same next start count)
  unfolding level before
  some_start next start zero e = cc
  some_start next start (suc n) e = start_in next start n

  pub own_joined : (next : X → List X) (start : X) (found : List X) → AreLevels same next start found → Contains found start
  own_joined next start found join = contained start found (subst (λ xs. In start xs) (sym join.listed) (some_start next start join.count join.ended))

-- the modules that are held are those that were put in
held_cases : (held : List (Text × Justfile)) (js : List Justfile) (j : Justfile) → In j (values_of (held_by_name held js)) → In j (values_of held ++ js)
held_cases held [] j h = in_left j (values_of held) [] h
held_cases held (k ∷ js) j h =
    elim (in_cases j (values_of (put (module_name k) k held)) js (held_cases (put (module_name k) k held) js j h)) [
      | inl i ↦ elim (put_cases (module_name k) k held j (contained j (values_of (put (module_name k) k held)) i)) [
        | inl e ↦ in_right j (values_of held) (k ∷ js) (inl e)
        | inr c ↦ in_left j (values_of held) (k ∷ js) (is_in j (values_of held) c)
      ]
      | inr i ↦ in_right j (values_of held) (k ∷ js) (inr i)
    ]

pub named_in : (js : List Justfile) (j : Justfile) → In j (by_name js) → In j js
named_in js j h = held_cases [] js j h

-- a module that stands in one is that one, or stands in a module of it
pub stands_cases : {root j : Justfile} → StandsIn root j → (root ≡ j) ⊎ ((inner : Justfile) × Contains (out-Justfile root).modules inner × StandsIn inner j)
stands_cases itself = inl refl
stands_cases (stands_inside {inner = inner} c s) = inr (inner, c, s)

-- the place of a number
number_in : (rs : List (Recipe UnresolvedDependency)) (n : ℕ) → In n (unresolved_numbers rs) → (place : ℕ) × (place < length rs) × (number_at rs place ≡ n)
number_in rs n h =
    let c : Contains (unresolved_numbers rs) n = contained n (unresolved_numbers rs) h in
    (c.0, omega (arith, c.1, length-map rs (λ (r : Recipe UnresolvedDependency). r.number.0)), get_or_default (unresolved_numbers rs) c.0 0 n c.1 ∙ c.2)

module _ (R : Reading) (given : Given) (asts : AstKey → Option Ast) (paths : (k : AstKey) (a : Ast) → asts k ≡ Some a → a.module_path ≡ k.0) (loaded : List Text) (built : List Built)
    (recipes : List (Recipe Dependency)) (all : recipes ≡ recipes_of_all built) (resolved : All IsResolved recipes) where
  module _ {m : Module} {below : Forest} {inner : List Justfile} {made : Made} {j : Justfile} (is : IsCompiled given asts loaded (recipes_of_all built) m below inner made j) where
    abbrev rs : List (Recipe UnresolvedDependency)
    rs = kept_by given asts m

    abbrev own_rs : List (Recipe UnresolvedDependency)
    own_rs = recipes_of given.syntax.enabled is.own.items

    -- the recipe that is made of one of those that stand
    made_held : (r : Recipe UnresolvedDependency) → In r is.standing → (x : Recipe Dependency) × (find_number recipes r.number.0 ≡ Some x) × (x.name ≡ r.name) × (x.module_path ≡ Some (path_of m)) × (x.recipe_path ≡ Some (path_to (path_of m) (name_of_recipe r)))
    made_held r i =
        let s = from_standing (Stands m below) is.stand r i in
        let c : Contains rs r = contained r rs s.0 in
        let read : slice_get rs c.0 ≡ Some r = slice_get_read rs (length rs) c.0 r refl c.1 (sym c.2) in
        let same : r ≡ recipe_at rs c.0 = recipe_read rs c.0 r read in
        let x = is.linked.each c.0 c.1 (subst (λ (q : Recipe UnresolvedDependency). Stands m below (name_of_recipe q)) same s.1) in
        let to = x.2.made_of.resolved in (
          x.0,
          ap (find_number recipes) (sym (number_read rs c.0 r read)) ∙ ap (λ qs. find_number qs (number_at rs c.0)) all ∙ x.1,
          to.name ∙ ap (λ (q : Recipe UnresolvedDependency). q.name) (sym same),
          to.module_path,
          to.recipe_path ∙ ap (λ (q : Recipe UnresolvedDependency). Some (path_to (path_of m) (name_of_recipe q))) (sym same),
        )

    place_held : (place : ℕ) → place < length is.standing → IsSome (find_number recipes (number_at is.standing place))
    place_held place h =
        let r : Recipe UnresolvedDependency = recipe_at is.standing place in
        let read : slice_get is.standing place ≡ Some r = slice_get_read is.standing (length is.standing) place r refl h (get_or_default is.standing place no_recipe r h) in
        let x = made_held r (is_in r is.standing (place, h, get_or_default is.standing place r no_recipe h)) in
        subst (λ o. IsSome o) (sym (ap (find_number recipes) (number_read is.standing place r read) ∙ x.1)) refl

    path_same : (out-Justfile j).module_path ≡ path_of m
    path_same = is.path

    key_held : (name : Text) (o : Option RecipeKey) → find name (out-Justfile j).recipes ≡ o → IsSome o → HasRecipe j recipes name
    key_held name None f some = cc
    key_held name (Some key) f some =
        let k = key_found is.standing name key (ap (find name) (sym is.fields.recipes_are) ∙ f) in
        let x = made_held k.0 k.1 in (
          x.0,
          ap (recipe_of_key recipes) f ∙ ap (λ (k : RecipeKey). find_number recipes k.number.0) k.2 ∙ x.1,
          record {
            named = ap text_of_name x.2 ∙ k.3;
            module_path = x.3 ∙ ap Some (sym path_same);
            recipe_path = x.4 ∙ (λ i. Some (path_on (sym path_same i) (k.3 i)));
          },
        )

    own_held : (o : Option Number) → IsDefaultOf (unresolved_numbers is.standing) own_rs o → IsSome o → IsSome (recipe_of_number recipes o)
    own_held None d some = some
    own_held (Some number) d some =
        let p = number_in is.standing (number_at own_rs d.0) (is_in (number_at own_rs d.0) (unresolved_numbers is.standing) d.1.is_resolved) in
        subst (λ n. IsSome (find_number recipes n)) (p.2 ∙ d.2) (place_held p.0 p.1)

    marked_held : (o : Option Number) (k : ℕ) → k < length is.standing → option_map (λ (n : Number). n.0) o ≡ Some (number_at is.standing k) → IsSome (recipe_of_number recipes o)
    marked_held None k h e = cc
    marked_held (Some number) k h e = subst (λ n. IsSome (find_number recipes n)) (sym (some_same e)) (place_held k h)

    default_held : (o : Option Number) → IsDefaultAmong is.standing own_rs o → IsSome o → IsSome (recipe_of_number recipes o)
    default_held o d some = elim (marked_or_none is.standing) [
      | inl there ↦ marked_held o there.0 there.1 (d.marked there.0 there.1 there.2)
      | inr unmarked ↦ own_held o (d.unmarked unmarked) some
    ]

    alias_known : (shows : Shows given asts loaded built m below j) (name : Text) (o : Option (Alias Number)) → find name (out-Justfile j).aliases.recipes ≡ o → IsSome o → IsSome (recipe_of_alias recipes o)
    alias_known shows name None f some = some
    alias_known shows name (Some alias) f some =
        let x = alias_held given asts loaded built m below j shows name alias f in
        subst (λ o. IsSome o) (sym (ap (λ qs. find_number qs alias.target.0) all ∙ x.1)) refl

    module_closed : Shows given asts loaded built m below j → IsClosedModule j recipes
    module_closed shows = record {
      named = λ name some. key_held name (find name (out-Justfile j).recipes) refl some;
      default = default_held (out-Justfile j).default is.default;
      aliases = λ name some. alias_known shows name (find name (out-Justfile j).aliases.recipes) refl some;
      modules = alias_path given asts loaded built m below j shows;
      resolved = resolved;
    }

  -- the modules of a forest, with those in them
  pub forest_closed : {hs : List Heading} {f : Forest} {js : List Justfile} → AreModules R hs f → AreCompiled given asts loaded built f js → SayAll given asts f → (j : Justfile) → In j js → AreClosed recipes j
  forest_closed no_module none says j h = absurd h
  forest_closed (a_module {h = heading} {m = m} i inside more) (one {inside = forest} {inner = inner} {j = top} made there below is aliased after) says j (inl e) =
      let named : (k : Justfile) → Contains (out-Justfile top).modules k → In k inner = λ k c. named_in inner k (subst (In k) is.modules (is_in k _ c)) in
      let path = is.fields.module_path ∙ paths m.heading.key is.own is.own_said ∙ ap (λ (g : Heading). g.key.0) i.heading in
      subst (AreClosed recipes) (sym e) (all_closed (module_closed is (record { made = made; inner = inner; compiled = below; is = is; says = says m forest first; inner_says = λ n under has. says n under (in_it has) }))
      (record {
        names = subst (λ ms. IsStrictlySortedBy (slice_cmp nat_cmp) (map module_name ms)) (sym is.modules) (names_sorted inner);
        paths = λ k c. paths_inside R given asts paths loaded built heading m i inner inside below (inner_names _ m.modules inner is.evaluated.documented) k (named k c) ∙ ap (λ p. path_on p (module_name k)) (sym path);
      })
      (λ k c. forest_closed inside below (λ n under has. says n under (in_it has)) k (named k c)))
  forest_closed (a_module i inside more) (one made there below is aliased after) says j (inr h) = forest_closed more after (λ n under has. says n under (after_it has)) j h

  -- and so it is of their tables
  pub forest_tables : {f : Forest} {js : List Justfile} → AreCompiled given asts loaded built f js → (j : Justfile) → In j js → (k : Justfile) → StandsIn j k → HasTables k
  forest_tables none j h k s = absurd h
  forest_tables (one made there below is aliased after) j (inl e) k s = elim (stands_cases s) [
    | inl same ↦ subst HasTables (sym e ∙ same) is.tables
    | inr deeper ↦
        forest_tables below deeper.0
        (named_in _ deeper.0 (subst (In deeper.0) is.modules (is_in deeper.0 _ (subst (λ (x : Justfile). Contains (out-Justfile x).modules deeper.0) e deeper.1)))) k deeper.2
  ]
  forest_tables (one made there below is aliased after) j (inr h) k s = forest_tables after j h k s
