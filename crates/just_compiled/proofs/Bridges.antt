-- What is disabled, broken and found over compiled modules is what is so over the modules.
use Rattle.std.proofs.Common.{◌≡◌, ◌≢◌, ◌∙◌, ℕ, ◌<◌, ◌==◌, Bool, true, false, cond, List, [], ◌∷◌, ◌++◌, map, length, Option, None, Some, IsSome, inl, inr, refl, sym, ap, subst, subst₂}
use Rattle.std.specs.BTreeSet.{BTreeSet}
use Rattle.std.specs.List.{Contains, slice_get}
use Rattle.std.proofs.lemmas.List.{append-nil, get_or_default}
use Rattle.std.proofs.lemmas.Option.{slice_get_read}
use Rattle.just_graph.proofs.Index.{some_same}
use Rattle.just_graph.proofs.Members.{In, contained, from_map, in_map, is_in}
use Rattle.just_ast_definitions.specs.declared.alias.Alias.{Alias}
use Rattle.just_ast_definitions.specs.Parameter.{least_arguments, most_arguments}
use Rattle.just_ast_definitions.specs.declared.parameter.Parameter.{Parameter}
use Rattle.just_errors.specs.Causes.{Cause}
use Rattle.just_justfile.specs.declared.justfile.Justfile.{out-Justfile}
use Rattle.just_justfile.specs.Walks.{end_of_names, module_named, path_along, recipe_by}
use Rattle.just_justfile.specs.declared.resolution.Resolution.{Resolution}
use Rattle.just_justfile.specs.declared.resolution.Resolution.TheVariants as resolution
use Rattle.just_module_contents.specs.Constants.{Evaluated}
use Rattle.just_module_contents.specs.Contents.{Contents}
use Rattle.just_module_contents.specs.Groups.{Group, OfAliases, OfBodies, OfConstants, OfDependencies, OfExpressions, OfHeaders, OfNames, OfRecipes}
use Rattle.just_module_contents.specs.Known.{known_of}
use Rattle.just_module_contents.specs.RecipeValues.{BreaksRecipe, IsPastLimits}
use Rattle.just_module_contents.specs.Standing.{InOne, of_standing}
use Rattle.just_module_contents.specs.Recipes.{DependsOnRecipe, dependency_paths, least_of, most_of, name_of_recipe, named_paths, names_of, no_recipe, recipe_at}
use Rattle.just_module_contents.specs.Resolved.{number_at}
use Rattle.just_module_contents.specs.Rules.{DependsBy, StandsWith, unknown_target}
use Rattle.just_module_contents.proofs.Keeping.{kept_different}
use Rattle.just_module_contents.proofs.RecipePlaces.{number_read, one_place}
use Rattle.just_module_headers.proofs.Holding.{some_value}
use Rattle.just_module_headers.proofs.Alike.{Outline, at as outline_at, defaults_alike, dependencies_alike, depends_by_alike, limits_alike, many, name as name_at, rules_alike, same_names}
use Rattle.just_module_recipes.specs.Linked.{AreSettled, HasNumber, of_far as far_number, of_near as near_number}
use Rattle.just_module_recipes.specs.Links as links
use Rattle.just_module_recipes.specs.Links.{Around, BreaksLinks, Disables, HasParameters, PathLeadsTo, IsNameOf, Stands, Takes, by_recipe, by_walk, far, found_by, near, of_far, of_near}
use Rattle.just_module_recipes.specs.loops.Links.{links_by, told_by}
use Rattle.just_module_tree.specs.Modules.{Forest, Module, contents_of}
use Rattle.just_module_tree.specs.Standing as trees
use Rattle.just_module_tree.specs.Standing.{BreaksDependencies, DisabledBy, EndsWell, HasTargetInTree, LeadsSomewhere, WalkEnd, StandsInTree, TakesIn, by_disabled, follow, kept_in, leads, links_in, through_absent, to_module, to_recipe, told_in}
use Rattle.just_names.specs.Name.{text_of_name, texts_of_path}
use Rattle.just_names.specs.Texts.{Text}
use Rattle.just_names.specs.declared.name.Name.{Name}
use Rattle.just_names.specs.declared.name.Namepath.{Namepath}
use Rattle.just_names.specs.declared.number.Number.{Number}
use Rattle.just_parts.specs.Asts.{AstKey}
use Rattle.just_parts.specs.Items.{Ast}
use Rattle.just_parts.specs.Known.{Known}
use Rattle.just_ast_expressions.specs.declared.expression.Expression.{Expression}
use Rattle.just_ast_references.specs.Numbers.{bare}
use Rattle.just_parts.specs.Evaluator.{functions_by_name}
use Rattle.just_parts.specs.Layers.{Given, Layers}
use Rattle.just_paths.specs.declared.modulepath.Modulepath.{Modulepath}
use Rattle.just_recipe.specs.Recipes.{find_number}
use Rattle.just_recipe.specs.declared.dependency.Dependency.{Dependency}
use Rattle.just_recipe.specs.declared.dependency.UnresolvedDependency.{UnresolvedDependency}
use Rattle.just_recipe.specs.declared.recipe.Recipe.{Recipe}
use Rattle.just_module_variables.specs.Variables.{variable_number}
use Rattle.just_recipe_names.specs.Numbered.{numbered_recipe}
use Rattle.just_recipe_values.specs.Valued.{with_values}
use Rattle.just_compiled.proofs.ArgumentsAlike.{least_completed, most_completed}
use Rattle.just_compiled.specs.Justfiles.{Built, HasNumberIn, contents_read, kept_by, recipes_of_all, value_by}
use Rattle.just_compiled.proofs.Agreeing.{Agree, IsBarred, IsNumbered, Meets, Resolves, Through, agree, far_or, nowhere_end, nowhere_place, stays}
use Rattle.just_compiled.proofs.Meanings.{module_somewhere, somewhere_or}
use Rattle.just_compiled.proofs.NamedModules.{found_sorted}
use Rattle.just_compiled.proofs.Saying.{Says}
use Rattle.just_compiled.proofs.StandingRecipes.{standing_alike}

one_more : (b : Bool) (r x : Recipe Dependency) (o q : Option (Recipe Dependency)) → (o ≡ Some x → q ≡ Some x) → cond b (Some r) o ≡ Some x → cond b (Some r) q ≡ Some x
one_more true r x o q rest e = e
one_more false r x o q rest e = rest e

-- a recipe that is found by its number is found where there are more behind
pub found_more : (rs more : List (Recipe Dependency)) (n : ℕ) (x : Recipe Dependency) → find_number rs n ≡ Some x → find_number (rs ++ more) n ≡ Some x
found_more [] more n x e = cc
found_more (r ∷ rs) more n x e = one_more (r.number.0 == n) r x (find_number rs n) (find_number (rs ++ more) n) (found_more rs more n x) e

-- a path of one name
pub one_text : (front : List Name) (last : Name) (t : Text) → map text_of_name (front ++ last ∷ []) ≡ t ∷ [] → (front ≡ []) × (text_of_name last ≡ t)
one_text [] last t e = (refl, cc)
one_text (x ∷ []) last t e = cc
one_text (x ∷ y ∷ front) last t e = cc

pub texts_one : (d : Namepath) → d.front ≡ [] → texts_of_path d ≡ text_of_name d.last ∷ []
texts_one d e = ap (λ front. map text_of_name (front ++ d.last ∷ [])) e

-- paths of dependencies, and their texts
paths_read : (ds : List UnresolvedDependency) → map (λ (d : UnresolvedDependency). texts_of_path d.recipe) ds ≡ map texts_of_path (map (λ (d : UnresolvedDependency). d.recipe) ds)
paths_read [] = refl
paths_read (d ∷ ds) = ap (λ ps. texts_of_path d.recipe ∷ ps) (paths_read ds)

module _ (rs : List (Recipe UnresolvedDependency)) where
  -- a recipe of a name has a place
  place_named : (name : Text) → Contains (names_of rs) name → (i : ℕ) × (i < length rs) × (name_of_recipe (recipe_at rs i) ≡ name)
  place_named name c =
      let r = from_map name_of_recipe name rs (is_in name (names_of rs) c) in
      let at = contained r.0 rs r.1 in
      (at.0, at.1, ap (λ (x : Recipe UnresolvedDependency). name_of_recipe x) (get_or_default rs at.0 no_recipe r.0 at.1 ∙ at.2) ∙ sym r.2)

  name_there : (i : ℕ) → i < length rs → Contains (names_of rs) (name_of_recipe (recipe_at rs i))
  name_there i h =
      let r = recipe_at rs i in
      contained (name_of_recipe r) (names_of rs) (in_map name_of_recipe r rs (is_in r rs (i, h, get_or_default rs i r no_recipe h)))

  -- what depends on a path of one name depends on that
  on_name : (name : Text) (d : Namepath) → d.front ≡ [] → DependsBy rs name d → Contains (names_of rs) (text_of_name d.last) → DependsOnRecipe rs name (text_of_name d.last)
  on_name name d one by c =
      let to = place_named (text_of_name d.last) c in
      let r = recipe_at rs by.from in
      let i : In (texts_of_path d) (dependency_paths r) = subst (In (texts_of_path d)) (sym (paths_read r.dependencies)) (in_map texts_of_path d (named_paths r) (is_in d (named_paths r) by.depends)) in
      record {
        from = by.from;
        to = to.0;
        step = record {
          dependent = by.there;
          there = to.1;
          names = contained (name_of_recipe (recipe_at rs to.0) ∷ []) (dependency_paths r) (subst (λ t. In t (dependency_paths r)) (texts_one d one ∙ ap (λ t. t ∷ []) (sym to.2)) i);
        };
        dependent_is = by.name_is;
        name_is = to.2;
      }

  -- and what depends on a name depends on a path of one name
  by_name_of : (name other : Text) → DependsOnRecipe rs name other → (d : Namepath) × DependsBy rs name d × (d.front ≡ []) × (text_of_name d.last ≡ other)
  by_name_of name other on =
      let r = recipe_at rs on.from in
      let names = subst (In (name_of_recipe (recipe_at rs on.to) ∷ [])) (paths_read r.dependencies) (is_in (name_of_recipe (recipe_at rs on.to) ∷ []) (dependency_paths r) on.step.names) in
      let d = from_map texts_of_path (name_of_recipe (recipe_at rs on.to) ∷ []) (named_paths r) names in
      let one = one_text d.0.front d.0.last (name_of_recipe (recipe_at rs on.to)) (sym d.2) in
      (d.0, record { from = on.from; there = on.step.dependent; name_is = on.dependent_is; depends = contained d.0 (named_paths r) d.1 }, one.0, one.1 ∙ on.name_is)

-- what is disabled is kept
pub disabled_named : {n : Module} {below : Forest} {name : Text} {path : Modulepath} → DisabledBy n below name path → Contains (names_of (kept_in n)) name
disabled_named {n} (through_absent d names by f) = subst (Contains (names_of (kept_in n))) by.name_is (name_there (kept_in n) by.from by.there)
disabled_named {n} (by_disabled d k b by f rest) = subst (Contains (names_of (kept_in n))) by.name_is (name_there (kept_in n) by.from by.there)

some_path : (paths : List Modulepath) → paths ≢ [] → (path : Modulepath) × In path paths
some_path [] ne = absurd (ne refl)
some_path (path ∷ paths) ne = (path, inl refl)

-- a recipe that is made takes as many arguments as the one of the source
abbrev TakesAsMany : Recipe Dependency → Recipe UnresolvedDependency → Type 0
TakesAsMany made source = (least_arguments made.parameters ≡ least_of source) × ((lists : Bool) → most_arguments lists made.parameters ≡ most_of lists source)

module _ (given : Given) (asts : AstKey → Option Ast) (loaded : List Text) (built : List Built) where
  abbrev kept : Module → List (Recipe UnresolvedDependency)
  kept m = kept_by given asts m

  -- what its files say, and the aliases among that
  abbrev said : Module → Contents
  said m = contents_read given.syntax.enabled asts m.files

  abbrev aliases_by : Module → List (Alias Namepath)
  aliases_by m = (said m).aliases

  -- what disables through a place is among the paths of the look-up
  barred_of : (place : WalkEnd) (last : Text) (path : Modulepath) (r : Option (Resolution Number)) → Resolves given asts loaded built place last r → Through given asts loaded built place last path
      → (set : BTreeSet Modulepath) × (r ≡ Some (resolution.Disabled set)) × Contains set.keys path
  barred_of place last path (Some (resolution.Resolved number)) r (inl (names, e, is)) = let f : trees.InModule r.n r.below ≡ trees.Missing names = sym r.leads_in ∙ e in absurd (cc)
  barred_of place last path (Some (resolution.Resolved number)) r (inr (k, b, e, d)) =
      let f : trees.InModule k b ≡ trees.InModule r.n r.below = sym e ∙ r.leads_in in
      let en : k ≡ r.n = cc in
      let eb : b ≡ r.below = cc in
      absurd (r.stands path (subst (λ z. DisabledBy r.n z last path) eb (subst (λ z. DisabledBy z b last path) en d)))
  barred_of place last path (Some (resolution.Disabled set)) r t = (set, refl, (r.each path).1 t)
  barred_of place last path None r (inl (names, e, is)) = absurd (r (subst (λ p. EndsWell p last) (sym e) tt))
  barred_of place last path None r (inr (k, b, e, d)) = absurd (r (subst (λ p. EndsWell p last) (sym e) (disabled_named d)))

  ends_of : (place : WalkEnd) (last : Text) (r : Option (Resolution Number)) → Resolves given asts loaded built place last r → r ≢ None → EndsWell place last
  ends_of place last (Some (resolution.Resolved number)) r ne =
      subst (λ p. EndsWell p last) (sym r.leads_in)
      (subst (λ ns. Contains ns last) (same_names (kept r.n) (kept_in r.n) r.shows.says.kept) (subst (Contains (names_of (kept r.n))) r.named (name_there (kept r.n) r.i r.there)))
  ends_of place last (Some (resolution.Disabled set)) r ne = r.ends
  ends_of place last None r ne = absurd (ne refl)

  -- what the module's recipes depend on, as its files say them and as the tree has them
  by_files : (m : Module) → Says given asts m → (name : Text) (d : Namepath) → DependsBy (kept_in m) name d → DependsBy (kept m) name d
  by_files m says name d = depends_by_alike (kept_in m) (kept m) (sym says.kept) name d

  by_tree : (m : Module) → Says given asts m → (name : Text) (d : Namepath) → DependsBy (kept m) name d → DependsBy (kept_in m) name d
  by_tree m says name d = depends_by_alike (kept m) (kept_in m) says.kept name d

  -- what is disabled in the tree is disabled over the compiled modules
  pub from_tree : {m : Module} {inside : Forest} {name : Text} {path : Modulepath} → DisabledBy m inside name path → (it : Around) → Meets given asts loaded built m inside it → Disables (kept m) it name path
  from_tree {m} {inside} {name} (through_absent d names by f) it meets = elim (far_or given asts loaded built m inside it meets d) [
    | inl z ↦ (let g : trees.InModule m inside ≡ trees.Missing names = sym (stays m inside d z) ∙ f in absurd (cc))
    | inr r ↦ (
        let b = barred_of (leads m inside d) (text_of_name d.last) (path_along names) (found_by it d) r (inl (names, f, refl)) in
        by_walk d b.0 (by_files m meets.says name d by) b.1 b.2)
  ]
  from_tree {m} {inside} {name} {path} (by_disabled d n below by f rest) it meets = elim (far_or given asts loaded built m inside it meets d) [
    | inl z ↦ (
        let g : trees.InModule m inside ≡ trees.InModule n below = sym (stays m inside d z) ∙ f in
        let en : n ≡ m = cc in
        let eb : below ≡ inside = cc in
        let there : Meets given asts loaded built n below it = subst (λ k. Meets given asts loaded built k below it) (sym en) (subst (λ b. Meets given asts loaded built m b it) (sym eb) meets) in
        let k : Disables (kept n) it (text_of_name d.last) path = from_tree rest it there in
        let c : Contains (names_of (kept_in m)) (text_of_name d.last) = subst (λ (x : Module). Contains (names_of (kept_in x)) (text_of_name d.last)) en (disabled_named rest) in
        let named : Contains (names_of (kept m)) (text_of_name d.last) = subst (λ ns. Contains ns (text_of_name d.last)) (sym (same_names (kept m) (kept_in m) meets.says.kept)) c in
        by_recipe (text_of_name d.last) (on_name (kept m) name d z (by_files m meets.says name d by) named) (subst (λ (x : Module). Disables (kept x) it (text_of_name d.last) path) en k))
    | inr r ↦ (
        let b = barred_of (leads m inside d) (text_of_name d.last) path (found_by it d) r (inr (n, below, f, rest)) in
        by_walk d b.0 (by_files m meets.says name d by) b.1 b.2)
  ]

  -- the recipe that is made of one that a number means
  module _ (place : WalkEnd) (last : Text) (number : Number) (r : IsNumbered given asts loaded built place last number) where
    pub made_there : (x : Recipe Dependency) × (find_number (recipes_of_all built) number.0 ≡ Some x) × TakesAsMany x (recipe_at (kept r.n) r.i)
    made_there =
        let x = r.shows.is.linked.each r.i r.there (subst (StandsInTree r.n r.below) (sym r.named) r.stands) in
        let read : slice_get (kept r.n) r.i ≡ Some (recipe_at (kept r.n) r.i) = slice_get_read (kept r.n) (length (kept r.n)) r.i (recipe_at (kept r.n) r.i) refl r.there (get_or_default (kept r.n) r.i no_recipe (recipe_at (kept r.n) r.i) r.there) in
        let same : number_at (kept r.n) r.i ≡ number.0 = number_read (kept r.n) r.i (recipe_at (kept r.n) r.i) read ∙ ap (λ (k : Number). k.0) r.number_is in
        let value = value_by given asts r.n r.shows.is.evaluated.it in
        let variable = variable_number (out-Justfile r.c).assignments in
        let source = recipe_at (kept r.n) r.i in
        let are : x.0.parameters ≡ (with_values value (numbered_recipe variable given.syntax (out-Justfile r.c).settings source)).parameters = x.2.made_of.resolved.parameters in (
          x.0,
          ap (find_number (recipes_of_all built)) (sym same) ∙ x.1,
          (
            ap least_arguments are ∙ least_completed value variable given.syntax (out-Justfile r.c).settings source,
            λ lists. ap (most_arguments lists) are ∙ most_completed value variable given.syntax (out-Justfile r.c).settings source lists,
          ),
        )

  module _ (m : Module) (inside : Forest) (it : Around) (meets : Meets given asts loaded built m inside it) where
    -- names lead alike
    around_agree : (xs : List Text) (x : Text) → Agree given asts loaded built (follow (x ∷ xs) m inside) (end_of_names it.absent it.modules (x ∷ xs))
    around_agree xs x = agree given asts loaded built xs x m inside it.absent it.modules meets.inner meets.absent (λ name. ap (module_named name) meets.modules ∙ found_sorted name meets.inner meets.different) meets.compiled meets.inner_says

    -- a path of one name leads through no module
    nothing_far : (d : Namepath) → d.front ≡ [] → found_by it d ≡ None
    nothing_far d e = ap (λ front. recipe_by (end_of_names it.absent it.modules (map text_of_name front)) [] [] (text_of_name d.last)) e

    -- what a look-up that finds something means
    means : (d : Namepath) (r : Option (Resolution Number)) → found_by it d ≡ r → r ≢ None → Resolves given asts loaded built (leads m inside d) (text_of_name d.last) r
    means d r e ne = elim (far_or given asts loaded built m inside it meets d) [
      | inl z ↦ absurd (ne (sym e ∙ nothing_far d z))
      | inr k ↦ subst (Resolves given asts loaded built (leads m inside d) (text_of_name d.last)) e k
    ]

    -- what is disabled over the compiled modules is disabled in the tree
    pub to_tree : {name : Text} {path : Modulepath} → Disables (kept m) it name path → DisabledBy m inside name path
    to_tree {name} {path} (by_walk d set by f mem) =
        let r : IsBarred given asts loaded built (leads m inside d) (text_of_name d.last) set.keys = means d (Some (resolution.Disabled set)) f (λ g. cc) in
        elim ((r.each path).0 mem) [
          | inl (names, g, is) ↦ subst (DisabledBy m inside name) (sym is) (through_absent d names (by_tree m meets.says name d by) g)
          | inr (n, below, g, rest) ↦ by_disabled d n below (by_tree m meets.says name d by) g rest
        ]
    to_tree {name} {path} (by_recipe other on rest) =
        let d = by_name_of (kept m) name other on in
        by_disabled d.0 m inside (by_tree m meets.says name d.0 d.1) (stays m inside d.0 d.2) (subst (λ t. DisabledBy m inside t path) (sym d.3) (to_tree rest))

    -- so the same recipes stand
    pub stands_on : (name : Text) → Stands (kept m) it name → StandsInTree m inside name
    stands_on name stands path d = stands path (from_tree d it meets)

    -- and the other way
    pub stands_back : (name : Text) → StandsInTree m inside name → Stands (kept m) it name
    stands_back name stands path d = stands path (to_tree d)

    named_on : (name : Text) → Contains (names_of (kept m)) name → Contains (names_of (kept_in m)) name
    named_on name c = subst (λ ns. Contains ns name) (same_names (kept m) (kept_in m) meets.says.kept) c

    named_back : (name : Text) → Contains (names_of (kept_in m)) name → Contains (names_of (kept m)) name
    named_back name c = subst (λ ns. Contains ns name) (sym (same_names (kept m) (kept_in m) meets.says.kept)) c

    leads_on : (d : Namepath) → PathLeadsTo (kept m) it d → LeadsSomewhere m inside d
    leads_on d (near j names) =
        let one = one_text d.front d.last (name_of_recipe (recipe_at (kept m) j)) names.named in
        subst (λ p. EndsWell p (text_of_name d.last)) (sym (stays m inside d one.0)) (named_on (text_of_name d.last) (subst (Contains (names_of (kept m))) (sym one.1) (name_there (kept m) j names.there)))
    leads_on d (far ne) = ends_of (leads m inside d) (text_of_name d.last) (found_by it d) (means d (found_by it d) refl ne) ne

    leads_back : (d : Namepath) → LeadsSomewhere m inside d → PathLeadsTo (kept m) it d
    leads_back d l = elim (far_or given asts loaded built m inside it meets d) [
      | inl z ↦ (
          let at = place_named (kept m) (text_of_name d.last) (named_back (text_of_name d.last) (subst (λ p. EndsWell p (text_of_name d.last)) (stays m inside d z) l)) in
          near at.0 (record { there = at.1; named = texts_one d z ∙ ap (λ t. t ∷ []) (sym at.2) }))
      | inr r ↦ far (λ e. let lost : (LeadsSomewhere m inside d → ⊥) = subst (Resolves given asts loaded built (leads m inside d) (text_of_name d.last)) e r in lost l)
    ]

    -- what is held under the number of a recipe that it means has its parameters
    module _ (place : WalkEnd) (last : Text) (number : Number) (r : IsNumbered given asts loaded built place last number) where
      made_held : (q : Recipe Dependency) → find_number it.held number.0 ≡ Some q → TakesAsMany q (recipe_at (kept r.n) r.i)
      made_held q e =
          let x = made_there place last number r in
          let all : find_number (recipes_of_all built) number.0 ≡ Some q = ap (λ qs. find_number qs number.0) meets.held ∙ found_more it.held meets.rest number.0 q e in
          let same : q ≡ x.0 = some_same (sym all ∙ x.1) in
          (ap (λ (k : Recipe Dependency). least_arguments k.parameters) same ∙ x.2.0, λ lists. ap (λ (k : Recipe Dependency). most_arguments lists k.parameters) same ∙ x.2.1 lists)

    -- how many arguments a recipe takes, as the files say it and as the tree has it
    least_same : (n : Module) → Says given asts n → (i : ℕ) → least_of (recipe_at (kept n) i) ≡ least_of (recipe_at (kept_in n) i)
    least_same n says i = ap (λ (o : Outline). o.least) (outline_at (kept n) (kept_in n) says.kept i)

    most_same : (lists : Bool) (n : Module) → Says given asts n → (i : ℕ) → most_of lists (recipe_at (kept n) i) ≡ most_of lists (recipe_at (kept_in n) i)
    most_same lists n says i = ap (λ (o : Outline). o.most lists) (outline_at (kept n) (kept_in n) says.kept i)

    takes_on : (lists : Bool) (d : Namepath) (least most : ℕ) → Takes lists (kept m) it d least most → TakesIn lists m inside d least most
    takes_on lists d least most t = by_parameters t.parameters t.has t.least_is t.most_is
      where
        by_parameters : (ps : List Parameter) → HasParameters (kept m) it d ps → least_arguments ps ≡ least → most_arguments lists ps ≡ most → TakesIn lists m inside d least most
        by_parameters ps (of_near j names has) low high =
            let one = one_text d.front d.last (name_of_recipe (recipe_at (kept m) j)) names.named in
            record {
              n = m;
              below = inside;
              leads_in = stays m inside d one.0;
              j = j;
              there = subst (λ k. j < k) (many (kept m) (kept_in m) meets.says.kept) names.there;
              named = sym (name_at (kept m) (kept_in m) meets.says.kept j) ∙ sym one.1;
              least_is = sym (least_same m meets.says j) ∙ ap least_arguments has ∙ low;
              most_is = sym (most_same lists m meets.says j) ∙ ap (most_arguments lists) has ∙ high;
            }
        by_parameters ps (of_far n q f held has) low high =
            let r : IsNumbered given asts loaded built (leads m inside d) (text_of_name d.last) n = means d (Some (resolution.Resolved n)) f (λ g. cc) in
            let takes : TakesAsMany q (recipe_at (kept r.n) r.i) = made_held (leads m inside d) (text_of_name d.last) n r q held in
            record {
              n = r.n;
              below = r.below;
              leads_in = r.leads_in;
              j = r.i;
              there = subst (λ k. r.i < k) (many (kept r.n) (kept_in r.n) r.shows.says.kept) r.there;
              named = sym (name_at (kept r.n) (kept_in r.n) r.shows.says.kept r.i) ∙ r.named;
              least_is = sym (least_same r.n r.shows.says r.i) ∙ sym takes.0 ∙ ap least_arguments has ∙ low;
              most_is = sym (most_same lists r.n r.shows.says r.i) ∙ sym (takes.1 lists) ∙ ap (most_arguments lists) has ∙ high;
            }

    -- what is broken of dependencies over the compiled modules is broken in the tree
    pub dependencies_on : (lists : Bool) (c : Cause) → BreaksLinks lists (kept m) it c → BreaksDependencies lists m inside c
    dependencies_on lists =
        dependencies_alike (kept m) (kept_in m) meets.says.kept (PathLeadsTo (kept m) it) (LeadsSomewhere m inside) (Stands (kept m) it) (StandsInTree m inside) (Takes lists (kept m) it) (TakesIn lists m inside) leads_back stands_on (λ d s. takes_on lists d.recipe) lists

    -- all names of a path lead alike
    names_agree : (front : List Name) (last : Name) → Agree given asts loaded built (follow (map text_of_name (front ++ last ∷ [])) m inside) (end_of_names it.absent it.modules (map text_of_name (front ++ last ∷ [])))
    names_agree [] last = around_agree [] (text_of_name last)
    names_agree (x ∷ front) last = around_agree (map text_of_name (front ++ last ∷ [])) (text_of_name x)

    -- the target of an alias leads to what it leads to in the tree
    target_on : (d : Namepath) → links.HasTarget (kept m) it d → HasTargetInTree m inside d
    target_on d (links.to_module some) = to_module (λ p. module_somewhere d it.absent it.modules some (nowhere_end given asts loaded built (names_agree d.front d.last) p))
    target_on d (links.to_recipe l) = to_recipe (leads_on d l)

    target_back : (d : Namepath) → HasTargetInTree m inside d → links.HasTarget (kept m) it d
    target_back d (to_module some) = elim (somewhere_or d it.absent it.modules (λ e. some (nowhere_place given asts loaded built (names_agree d.front d.last) e))) [
      | inl some_module ↦ links.to_module some_module
      | inr beyond ↦ links.to_recipe (far beyond)
    ]
    target_back d (to_recipe l) = links.to_recipe (leads_back d l)

    -- so is what is broken of aliases and of defaults
    pub aliases_on : (c : Cause) → links.BreaksAliases (kept m) (aliases_by m) it c → trees.BreaksAliasesInTree m inside c
    aliases_on _ (links.of_targets (unknown_target {alias} there lost)) =
        trees.of_targets (unknown_target (subst (λ xs. Contains xs alias) meets.says.aliases there) (λ h. lost (target_back alias.target h)))
    aliases_on _ (links.of_defaults {c} ss are b) =
        let k = standing_alike (Stands (kept m) it) (StandsInTree m inside) stands_on stands_back are (kept_in m) meets.says.kept in
        trees.of_defaults k.0 k.1 (defaults_alike ss k.0 k.2 c b)

    -- and the other way
    pub aliases_back : (c : Cause) → trees.BreaksAliasesInTree m inside c → links.BreaksAliases (kept m) (aliases_by m) it c
    aliases_back _ (trees.of_targets (unknown_target {alias} there lost)) =
        links.of_targets (unknown_target (subst (λ xs. Contains xs alias) (sym meets.says.aliases) there) (λ h. lost (target_on alias.target h)))
    aliases_back _ (trees.of_defaults {c} ss are b) =
        let k = standing_alike (StandsInTree m inside) (Stands (kept m) it) stands_back stands_on are (kept m) (sym meets.says.kept) in
        links.of_defaults k.0 k.1 (defaults_alike ss k.0 k.2 c b)

    -- the same values are those of expressions, by what its files say and by the tree
    value_same : (layers : Layers) (e : Evaluated) → links.value_by_layers layers e (said m) ≡ trees.constant_in layers e m
    value_same layers e = λ i x. layers.evaluator.value (functions_by_name (meets.says.known layers.syntax i).functions) e.constants (bare x)

    -- the same rules of one recipe are broken by those that stand
    abbrev rule_at : Layers → Evaluated → (Expression → Option (List Text)) → Known → Recipe UnresolvedDependency → Cause → Type 0
    rule_at layers e value known = BreaksRecipe value layers.syntax known e.settings

    own_on : (layers : Layers) (e : Evaluated) (c : Cause) → links.BreaksStanding layers e (said m) it c → trees.BreaksStandingInTree layers e m inside c
    own_on layers e c (of_standing ss are b) =
        let k = standing_alike (Stands (kept m) it) (StandsInTree m inside) stands_on stands_back are (kept_in m) meets.says.kept in
        of_standing k.0 k.1 (subst₂ (λ value known. InOne (rule_at layers e value known) k.0 c) (value_same layers e) (meets.says.known layers.syntax)
        (rules_alike ss k.0 k.2 (links.value_by_layers layers e (said m)) layers.syntax (known_of layers.syntax (said m)) e.settings c b))

    own_back : (layers : Layers) (e : Evaluated) (c : Cause) → trees.BreaksStandingInTree layers e m inside c → links.BreaksStanding layers e (said m) it c
    own_back layers e c (of_standing ss are b) =
        let k = standing_alike (StandsInTree m inside) (Stands (kept m) it) stands_back stands_on are (kept m) (sym meets.says.kept) in
        of_standing k.0 k.1 (subst₂ (λ value known. InOne (rule_at layers e value known) k.0 c) (sym (value_same layers e)) (sym (meets.says.known layers.syntax))
        (rules_alike ss k.0 k.2 (trees.constant_in layers e m) layers.syntax (known_of layers.syntax (contents_of m)) e.settings c b))

    -- and the same patterns are past their limits
    limits_on : (layers : Layers) (e : Evaluated) (c : Cause) → links.IsPastLimitsBy layers e (said m) it c → trees.IsPastLimitsIn layers e m inside c
    limits_on layers e c (of_standing ss are b) =
        let k = standing_alike (Stands (kept m) it) (StandsInTree m inside) stands_on stands_back are (kept_in m) meets.says.kept in
        of_standing k.0 k.1 (subst (λ value. InOne (IsPastLimits value) k.0 c) (value_same layers e) (limits_alike ss k.0 k.2 (links.value_by_layers layers e (said m)) c b))

    -- so an error may tell the same of the last groups
    pub told_on : (layers : Layers) (e : Evaluated) (g : Group) (c : Cause) → told_by (said m) it layers e g c → told_in m inside layers e g c
    told_on layers e OfHeaders c b = b
    told_on layers e OfNames c b = b
    told_on layers e OfExpressions c b = b
    told_on layers e OfConstants c b = b
    told_on layers e OfBodies c b = b
    told_on layers e OfDependencies c b = dependencies_on e.settings.lists c b
    told_on layers e OfRecipes c (inl b) = inl (own_on layers e c b)
    told_on layers e OfRecipes c (inr b) = inr (limits_on layers e c b)
    told_on layers e OfAliases c b = aliases_on c b

    -- the number that a path leads to is that of the tree
    pub number_on : (d : Namepath) (n : Number) → HasNumber (kept m) it d n → HasNumberIn given asts m inside d n
    number_on d n (near_number j names number) =
        let one = one_text d.front d.last (name_of_recipe (recipe_at (kept m) j)) names.named in
        record { to = m; below = inside; leads_in = stays m inside d one.0; place = j; there = names.there; named = sym one.1; number_is = number }
    number_on d n (far_number f) =
        let r : IsNumbered given asts loaded built (leads m inside d) (text_of_name d.last) n = means d (Some (resolution.Resolved n)) f (λ g. cc) in
        record { to = r.n; below = r.below; leads_in = r.leads_in; place = r.i; there = r.there; named = r.named; number_is = r.number_is }

    -- where what is held is all that is built, the modules have said what they say of their recipes
    pub settled : meets.rest ≡ [] → AreSettled it
    settled none = record {
      held = λ d n e.
          let r : IsNumbered given asts loaded built (leads m inside d) (text_of_name d.last) n = means d (Some (resolution.Resolved n)) e (λ g. cc) in
          let x = made_there (leads m inside d) (text_of_name d.last) n r in
          let all : recipes_of_all built ≡ it.held = meets.held ∙ ap (λ qs. it.held ++ qs) none ∙ append-nil it.held in
          subst (λ o. IsSome o) (sym (ap (λ qs. find_number qs n.0) (sym all) ∙ x.1)) refl;
      disabled = λ d set e.
          let r : IsBarred given asts loaded built (leads m inside d) (text_of_name d.last) set.keys = means d (Some (resolution.Disabled set)) e (λ g. cc) in
          r.some;
    }

    -- so where they have, what is broken in the tree is broken over them
    module _ (are_settled : AreSettled it) where
      -- what a recipe that stands depends on stands, and is found
      far_takes : (lists : Bool) (d : UnresolvedDependency) → StandsWith (StandsInTree m inside) (kept_in m) d → (least most : ℕ) → TakesIn lists m inside d.recipe least most → (r : Option (Resolution Number)) → found_by it d.recipe ≡ r
          → Resolves given asts loaded built (leads m inside d.recipe) (text_of_name d.recipe.last) r → Takes lists (kept m) it d.recipe least most
      far_takes lists d s least most t None e r =
          absurd (r (subst (λ p. EndsWell p (text_of_name d.recipe.last)) (sym t.leads_in) (subst (Contains (names_of (kept_in t.n))) t.named (name_there (kept_in t.n) t.j t.there))))
      far_takes lists d s least most t (Some (resolution.Disabled set)) e r =
          let p = some_path set.keys r.some in
          elim ((r.each p.0).0 (contained p.0 set.keys p.1)) [
            | inl (names, g, is) ↦ (let f : trees.InModule t.n t.below ≡ trees.Missing names = sym t.leads_in ∙ g in absurd (cc))
            | inr (k, b, g, rest) ↦ absurd (s.stands p.0 (by_disabled d.recipe k b (record {
              from = s.from;
              there = s.there;
              name_is = refl;
              depends = contained d.recipe (named_paths (recipe_at (kept_in m) s.from)) (in_map (λ (x : UnresolvedDependency). x.recipe) d (recipe_at (kept_in m) s.from).dependencies (is_in d (recipe_at (kept_in m) s.from).dependencies s.depends));
            }) g rest))
          ]
      far_takes lists d s least most t (Some (resolution.Resolved number)) e r =
          let q = some_value (find_number it.held number.0) (are_settled.held d.recipe number e) in
          let f : trees.InModule t.n t.below ≡ trees.InModule r.n r.below = sym t.leads_in ∙ r.leads_in in
          let en : t.n ≡ r.n = cc in
          let in_tree : r.i < length (kept_in r.n) = subst (λ k. r.i < k) (many (kept r.n) (kept_in r.n) r.shows.says.kept) r.there in
          let there : t.j < length (kept_in r.n) = subst (λ (x : Module). t.j < length (kept_in x)) en t.there in
          let named : name_of_recipe (recipe_at (kept_in r.n) t.j) ≡ text_of_name d.recipe.last = subst (λ (x : Module). name_of_recipe (recipe_at (kept_in x) t.j) ≡ text_of_name d.recipe.last) en t.named in
          let name : name_of_recipe (recipe_at (kept_in r.n) r.i) ≡ text_of_name d.recipe.last = sym (name_at (kept r.n) (kept_in r.n) r.shows.says.kept r.i) ∙ r.named in
          let same : r.i ≡ t.j = one_place (kept_in r.n) (kept_different (contents_of r.n).recipes) r.i t.j in_tree there (name ∙ sym named) in
          let takes : TakesAsMany q.0 (recipe_at (kept r.n) r.i) = made_held (leads m inside d.recipe) (text_of_name d.recipe.last) number r q.0 q.1 in
          record {
            parameters = q.0.parameters;
            has = of_far number q.0 e q.1 refl;
            least_is = takes.0 ∙ least_same r.n r.shows.says r.i ∙ (λ i. least_of (recipe_at (kept_in (sym en i)) (same i))) ∙ t.least_is;
            most_is = takes.1 lists ∙ most_same lists r.n r.shows.says r.i ∙ (λ i. most_of lists (recipe_at (kept_in (sym en i)) (same i))) ∙ t.most_is;
          }

      takes_back : (lists : Bool) (d : UnresolvedDependency) → StandsWith (StandsInTree m inside) (kept_in m) d → (least most : ℕ) → TakesIn lists m inside d.recipe least most → Takes lists (kept m) it d.recipe least most
      takes_back lists d s least most t = elim (far_or given asts loaded built m inside it meets d.recipe) [
        | inr r ↦ far_takes lists d s least most t (found_by it d.recipe) refl r
        | inl z ↦ (
            let f : trees.InModule t.n t.below ≡ trees.InModule m inside = sym t.leads_in ∙ stays m inside d.recipe z in
            let en : t.n ≡ m = cc in
            let in_tree : t.j < length (kept_in m) = subst (λ (x : Module). t.j < length (kept_in x)) en t.there in
            let named : name_of_recipe (recipe_at (kept_in m) t.j) ≡ text_of_name d.recipe.last = subst (λ (x : Module). name_of_recipe (recipe_at (kept_in x) t.j) ≡ text_of_name d.recipe.last) en t.named in
            record {
              parameters = (recipe_at (kept m) t.j).parameters;
              has = of_near t.j (record {
                there = subst (λ k. t.j < k) (sym (many (kept m) (kept_in m) meets.says.kept)) in_tree;
                named = texts_one d.recipe z ∙ ap (λ x. x ∷ []) (sym (name_at (kept m) (kept_in m) meets.says.kept t.j ∙ named));
              }) refl;
              least_is = least_same m meets.says t.j ∙ ap (λ (x : Module). least_of (recipe_at (kept_in x) t.j)) (sym en) ∙ t.least_is;
              most_is = most_same lists m meets.says t.j ∙ ap (λ (x : Module). most_of lists (recipe_at (kept_in x) t.j)) (sym en) ∙ t.most_is;
            })
      ]

      -- what is broken of dependencies in the tree is broken over the compiled modules
      pub dependencies_back : (lists : Bool) (c : Cause) → BreaksDependencies lists m inside c → BreaksLinks lists (kept m) it c
      dependencies_back lists =
          dependencies_alike (kept_in m) (kept m) (sym meets.says.kept) (LeadsSomewhere m inside) (PathLeadsTo (kept m) it) (StandsInTree m inside) (Stands (kept m) it) (TakesIn lists m inside) (Takes lists (kept m) it) leads_on stands_back (takes_back lists) lists

      -- so is what is broken of the last groups
      pub links_back : (layers : Layers) (e : Evaluated) (g : Group) (c : Cause) → links_in m inside layers e g c → links_by (said m) it layers e g c
      links_back layers e OfHeaders c b = b
      links_back layers e OfNames c b = b
      links_back layers e OfExpressions c b = b
      links_back layers e OfConstants c b = b
      links_back layers e OfBodies c b = b
      links_back layers e OfDependencies c b = dependencies_back e.settings.lists c b
      links_back layers e OfRecipes c b = own_back layers e c b
      links_back layers e OfAliases c b = aliases_back c b
