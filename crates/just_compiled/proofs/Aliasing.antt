-- What the aliases of a compiled module mean is what they mean in the tree.
use Rattle.std.proofs.Common.{◌≡◌, ◌≢◌, ◌∙◌, Bool, List, [], ◌∷◌, ◌++◌, map, Option, None, Some, if◌then◌else◌, inl, inr, refl, sym, ap, subst}
use Rattle.std.specs.List.{Contains, list_any}
use Rattle.std.specs.Str.{bytes_eq}
use Rattle.just_graph.proofs.Index.{some_same}
use Rattle.just_graph.proofs.Members.{In, from_flat}
use Rattle.just_ast_definitions.specs.declared.alias.Alias.{Alias}
use Rattle.just_justfile.specs.Closed.{IsPathIn}
use Rattle.just_justfile.specs.Walks as walks
use Rattle.just_justfile.specs.Walks.{End, end_of_names, module_named, recipe_by, recipe_from}
use Rattle.just_justfile.specs.declared.aliases.Aliases.{Aliases}
use Rattle.just_justfile.specs.declared.justfile.Justfile.{Justfile, out-Justfile}
use Rattle.just_justfile.specs.declared.resolution.Resolution.{Resolution}
use Rattle.just_justfile.specs.declared.resolution.Resolution.TheVariants as resolution
use Rattle.just_justfile.proofs.Leading.{stands_along, walk_along}
use Rattle.just_module_aliases.specs.Aliased.{Targets, aliases_onto, as_module_alias, as_recipe, as_recipe_alias, alias_meant, modules_among, name_of_alias, recipes_among, targets_of, with_meaning}
use Rattle.just_module_aliases.specs.declared.aliases.AliasMeaning.{AliasMeaning}
use Rattle.just_module_aliases.specs.declared.aliases.AliasMeaning.TheVariants as meaning
use Rattle.just_module_aliases.proofs.Aliasing.{one_added}
use Rattle.just_module_tree.specs.Modules.{Forest, Module}
use Rattle.just_module_tree.specs.Standing as trees
use Rattle.just_module_tree.specs.Standing.{DisabledBy, EndsWell, HasTargetInTree, WalkEnd, absent_in, find_inner, follow, kept_in, leads, to_module, to_recipe}
use Rattle.just_names.specs.Name.{text_of_name, texts_of_path}
use Rattle.just_names.specs.Texts.{Text}
use Rattle.just_names.specs.declared.name.Name.{Name}
use Rattle.just_names.specs.declared.name.Namepath.{Namepath}
use Rattle.just_names.specs.declared.number.Number.{Number}
use Rattle.just_parts.specs.Asts.{AstKey}
use Rattle.just_parts.specs.Items.{Ast}
use Rattle.just_parts.specs.Layers.{Given}
use Rattle.just_paths.specs.declared.modulepath.Modulepath.{Modulepath}
use Rattle.just_recipe.specs.Recipes.{find_number}
use Rattle.just_recipe.specs.declared.dependency.Dependency.{Dependency}
use Rattle.just_recipe.specs.declared.recipe.Recipe.{Recipe}
use Rattle.just_table.specs.Entries.{find}
use Rattle.just_compiled.specs.Justfiles.{AddAliases, Built, MeansIn, a_disabled, a_module, a_recipe, missing, no_more, one_more, recipes_of_all}
use Rattle.just_compiled.proofs.Agreeing.{Agree, IsNumbered, Resolves, Shows, agree, both_absent, both_inside, both_nowhere, has_absent, looked, resolves}
use Rattle.just_compiled.proofs.Bridges.{made_there}
use Rattle.just_compiled.proofs.Meanings.{meaning_at, meant_by, texts_are}
use Rattle.just_compiled.proofs.NamedModules.{found_sorted}
use Rattle.just_compiled.proofs.RecipeKeys.{found_among}

-- where names lead, by the module of the first
abbrev next_place : List Text → Text → Bool → Option (Module × Forest) → WalkEnd
next_place names x absent found = elim found as (λ _. WalkEnd) [
  | Some n ↦ trees.walk_beyond x (follow names n.0 n.1)
  | None ↦ if absent then trees.Missing (x ∷ []) else trees.Nowhere
]

beyond_missing : (x : Text) (names : List Text) (p q : WalkEnd) → ((ns : List Text) → p ≡ trees.Missing ns → q ≡ trees.Missing ns) → trees.walk_beyond x p ≡ trees.Missing names → trees.walk_beyond x q ≡ trees.Missing names
beyond_missing x names (trees.InModule n below) q ih e = cc
beyond_missing x names (trees.Missing ns) q ih e = ap (trees.walk_beyond x) (ih ns refl) ∙ e
beyond_missing x names trees.Nowhere q ih e = cc

-- where names lead to a module without a file, so do these and more
still_missing : (front : List Text) (last : Text) (m : Module) (inside : Forest) (names : List Text) → follow front m inside ≡ trees.Missing names → follow (front ++ last ∷ []) m inside ≡ trees.Missing names
still_missing [] last m inside names e = cc
still_missing (x ∷ front) last m inside names e = go (λ n. still_missing front last n.0 n.1) (list_any (λ absent. bytes_eq absent x) (absent_in m)) (find_inner x inside) e
  where
    go : ((n : Module × Forest) (ns : List Text) → follow front n.0 n.1 ≡ trees.Missing ns → follow (front ++ last ∷ []) n.0 n.1 ≡ trees.Missing ns)
        → (absent : Bool) (found : Option (Module × Forest)) → next_place front x absent found ≡ trees.Missing names → next_place (front ++ last ∷ []) x absent found ≡ trees.Missing names
    go inner absent (Some n) e = beyond_missing x names (follow front n.0 n.1) (follow (front ++ last ∷ []) n.0 n.1) (inner n) e
    go inner absent None e = e

-- aliases that mean something are in the tables of their meanings
pub all_aliased : (t : Targets) (Means : Namepath → AliasMeaning → Type 0) → ((path : Namepath) (it : AliasMeaning) → alias_meant t path ≡ Some it → Means path it)
    → (aliases : List (Alias Namepath)) (before : Aliases) → ((alias : Alias Namepath) → In alias aliases → alias_meant t alias.target ≢ None) → AddAliases Means before aliases (aliases_onto t before aliases)
all_aliased t Means means [] before some = no_more
all_aliased t Means means (alias ∷ aliases) before some = go (λ after. all_aliased t Means means aliases after (λ other i. some other (inr i))) (alias_meant t alias.target) refl
  where
    go : ((after : Aliases) → AddAliases Means after aliases (aliases_onto t after aliases)) → (o : Option AliasMeaning) → alias_meant t alias.target ≡ o → AddAliases Means before (alias ∷ aliases) (aliases_onto t before (alias ∷ aliases))
    go rest None e = absurd (some alias (inl refl) e)
    go rest (Some it) e =
        one_more (means alias.target it e)
        (subst (AddAliases Means (with_meaning before alias it) aliases) (sym (one_added t before (with_meaning before alias it) alias aliases (record { it = it; means = e; is = refl })))
        (rest (with_meaning before alias it)))

-- an alias of a recipe or of a module means that
of_recipe_alias : (a : Alias Namepath) (made : Alias Number) (o : Option AliasMeaning) → In made (as_recipe_alias a o) → o ≡ Some (meaning.Recipe made.target)
of_recipe_alias a made None i = absurd i
of_recipe_alias a made (Some (meaning.Disabled set)) i = absurd i
of_recipe_alias a made (Some (meaning.Module path)) i = absurd i
of_recipe_alias a made (Some (meaning.Recipe number)) (inl e) = ap (λ (x : Alias Number). Some (meaning.Recipe x.target)) (sym e)
of_recipe_alias a made (Some (meaning.Recipe number)) (inr i) = absurd i

pub of_module_alias : (a : Alias Namepath) (made : Alias Modulepath) (o : Option AliasMeaning) → In made (as_module_alias a o) → o ≡ Some (meaning.Module made.target)
of_module_alias a made None i = absurd i
of_module_alias a made (Some (meaning.Disabled set)) i = absurd i
of_module_alias a made (Some (meaning.Module path)) (inl e) = ap (λ (x : Alias Modulepath). Some (meaning.Module x.target)) (sym e)
of_module_alias a made (Some (meaning.Module path)) (inr i) = absurd i
of_module_alias a made (Some (meaning.Recipe number)) i = absurd i

-- a meaning that is a recipe is that of the look-up
number_looked : (r : Option (Resolution Number)) (number : Number) → as_recipe r ≡ Some (meaning.Recipe number) → r ≡ Some (resolution.Resolved number)
number_looked None number f = cc
number_looked (Some (resolution.Disabled set)) number f = cc
number_looked (Some (resolution.Resolved n)) number f = let same : n ≡ number = cc in ap (λ (x : Number). Some (resolution.Resolved x)) same

recipe_looked : (e : End) (r : Option (Resolution Number)) (number : Number) → meaning_at e (as_recipe r) ≡ Some (meaning.Recipe number) → r ≡ Some (resolution.Resolved number)
recipe_looked walks.Here r number f = number_looked r number f
recipe_looked (walks.Inside j) r number f = cc
recipe_looked (walks.Absent names) r number f = cc
recipe_looked walks.Nowhere r number f = number_looked r number f

not_module : (r : Option (Resolution Number)) (path : Modulepath) → as_recipe r ≡ Some (meaning.Module path) → ⊥
not_module None path f = cc
not_module (Some (resolution.Disabled set)) path f = cc
not_module (Some (resolution.Resolved n)) path f = cc

-- and one that is a module is that to which all names lead
pub module_led : (e : End) (r : Option (Resolution Number)) (path : Modulepath) → meaning_at e (as_recipe r) ≡ Some (meaning.Module path) → (j : Justfile) × (e ≡ walks.Inside j) × (path ≡ (out-Justfile j).module_path)
module_led walks.Here r path f = absurd (not_module r path f)
module_led (walks.Inside j) r path f = (j, refl, let same : (out-Justfile j).module_path ≡ path = cc in sym same)
module_led (walks.Absent names) r path f = cc
module_led walks.Nowhere r path f = absurd (not_module r path f)

module _ (given : Given) (asts : AstKey → Option Ast) (loaded : List Text) (built : List Built) where
  -- what the look-up at the end of a walk means, whatever the tables are where it began
  by_tables : {place : WalkEnd} {end : End} → Agree given asts loaded built place end → (last : Text) (j : Justfile) → Resolves given asts loaded built place last (recipe_by end (out-Justfile j).recipes (out-Justfile j).disabled_recipes last)
  by_tables (both_inside shows) last j = resolves given asts loaded built (both_inside shows) last
  by_tables (both_absent {names}) last j = resolves given asts loaded built (both_absent {names = names}) last
  by_tables both_nowhere last j = resolves given asts loaded built both_nowhere last

  module _ (m : Module) (inside : Forest) (j : Justfile) (shows : Shows given asts loaded built m inside j) where
    abbrev own_end : List Text → End
    own_end names = end_of_names (out-Justfile j).absent_modules (out-Justfile j).modules names

    own_agree : (xs : List Text) (x : Text) → Agree given asts loaded built (follow (x ∷ xs) m inside) (own_end (x ∷ xs))
    own_agree xs x =
        agree given asts loaded built xs x m inside (out-Justfile j).absent_modules (out-Justfile j).modules shows.inner (has_absent given asts loaded built m inside j shows)
        (λ name. ap (module_named name) shows.is.modules ∙ found_sorted name shows.inner shows.is.different) shows.compiled shows.inner_says

    -- all names of a path lead alike
    pub all_agree : (front : List Name) (last : Name) → Agree given asts loaded built (follow (map text_of_name (front ++ last ∷ [])) m inside) (own_end (map text_of_name (front ++ last ∷ [])))
    all_agree [] last = own_agree [] (text_of_name last)
    all_agree (x ∷ front) last = own_agree (map text_of_name (front ++ last ∷ [])) (text_of_name x)

    -- the look-up of a path means where it leads
    looks_up : (front : List Name) (last : Name)
        → Resolves given asts loaded built (follow (map text_of_name front) m inside) (text_of_name last) (recipe_by (own_end (map text_of_name front)) (out-Justfile j).recipes (out-Justfile j).disabled_recipes (text_of_name last))
    looks_up [] last = looked given asts loaded built m inside j shows (text_of_name last) (find (text_of_name last) (out-Justfile j).recipes) (find (text_of_name last) (out-Justfile j).disabled_recipes) refl refl
    looks_up (x ∷ front) last = by_tables (own_agree (map text_of_name front) (text_of_name x)) (text_of_name last) j

    module _ (path : Namepath) where
      abbrev last : Text
      last = text_of_name path.last

      abbrev Means : AliasMeaning → Type 0
      Means = MeansIn given asts m inside path

      -- what is disabled is so in the module to which the names before the last lead
      barred : (place : WalkEnd) (it : AliasMeaning) (r : Option (Resolution Number)) → leads m inside path ≡ place → follow (texts_of_path path) m inside ≡ trees.Nowhere → Resolves given asts loaded built place last r → as_recipe r ≡ Some it → Means it
      barred place it None p nowhere res f = cc
      barred place it (Some (resolution.Resolved number)) p nowhere res f =
          let same : meaning.Recipe number ≡ it = some_same f in
          subst Means same (a_recipe (record { to = res.n; below = res.below; leads_in = p ∙ res.leads_in; place = res.i; there = res.there; named = res.named; number_is = res.number_is }) nowhere res.stands)
      barred (trees.InModule n below) it (Some (resolution.Disabled set)) p nowhere res f =
          let same : meaning.Disabled set ≡ it = some_same f in
          subst Means same (a_disabled n below nowhere p res.some (λ by. (
            (λ (c : Contains set.keys by). elim ((res.each by).0 c) [
              | inl (names, e, is) ↦ absurd (cc)
              | inr (k, b, e, d) ↦ (
                  let en : k ≡ n = cc in
                  let eb : b ≡ below = cc in
                  subst (λ z. DisabledBy n z last by) eb (subst (λ z. DisabledBy z b last by) en d))
            ]),
            (λ (d : DisabledBy n below last by). (res.each by).1 (inr (n, below, refl, d))),
          )))
      barred (trees.Missing names) it (Some (resolution.Disabled set)) p nowhere res f =
          let there : follow (texts_of_path path) m inside ≡ trees.Missing names = ap (λ ns. follow ns m inside) (texts_are path) ∙ still_missing (map text_of_name path.front) last m inside names p in
          let wrong : trees.Missing names ≡ trees.Nowhere = sym there ∙ nowhere in
          absurd (cc)
      barred trees.Nowhere it (Some (resolution.Disabled set)) p nowhere res f = absurd res.ends

      by_agree : {place : WalkEnd} {end : End} → Agree given asts loaded built place end → follow (texts_of_path path) m inside ≡ place → (it : AliasMeaning) → meaning_at end (as_recipe (recipe_from j path)) ≡ Some it → Means it
      by_agree (both_inside {n} {below} {c} there) p it f = subst Means (some_same f) (subst (λ x. Means (meaning.Module x)) (sym there.is.path) (a_module n below p))
      by_agree (both_absent {names}) p it f = subst Means (some_same f) (missing names p)
      by_agree both_nowhere p it f = barred (leads m inside path) it (recipe_from j path) refl p (looks_up path.front path.last) f

      -- what the path means over the tables it means in the tree
      pub means_in : (it : AliasMeaning) → alias_meant (targets_of j) path ≡ Some it → Means it
      means_in it e = by_agree (all_agree path.front path.last) refl it (sym (meant_by (targets_of j) path) ∙ e)

      lost_recipe : (r : Option (Resolution Number)) → Resolves given asts loaded built (leads m inside path) last r → as_recipe r ≡ None → EndsWell (leads m inside path) last → ⊥
      lost_recipe None res f = res
      lost_recipe (Some (resolution.Resolved number)) res f = cc
      lost_recipe (Some (resolution.Disabled set)) res f = cc

      lost_by : {place : WalkEnd} {end : End} → Agree given asts loaded built place end → follow (texts_of_path path) m inside ≡ place → meaning_at end (as_recipe (recipe_from j path)) ≡ None → HasTargetInTree m inside path → ⊥
      lost_by (both_inside there) p f target = cc
      lost_by both_absent p f target = cc
      lost_by both_nowhere p f (to_module some) = some p
      lost_by both_nowhere p f (to_recipe l) = lost_recipe (recipe_from j path) (looks_up path.front path.last) f l

      -- and where it means nothing it leads nowhere
      pub means_nothing : alias_meant (targets_of j) path ≡ None → HasTargetInTree m inside path → ⊥
      means_nothing e = lost_by (all_agree path.front path.last) refl (sym (meant_by (targets_of j) path) ∙ e)

    -- an alias of a recipe stands for one that is held
    pub alias_held : (name : Text) (alias : Alias Number) → find name (out-Justfile j).aliases.recipes ≡ Some alias → (x : Recipe Dependency) × (find_number (recipes_of_all built) alias.target.0 ≡ Some x)
    alias_held name alias f =
        let t = targets_of j in
        elim (found_among name_of_alias name alias [] (recipes_among t _) (ap (λ (it : Aliases). find name it.recipes) (sym shows.is.fields.aliases_are) ∙ f)) [
          | inr wrong ↦ absurd (cc)
          | inl k ↦ (
              let a = from_flat (λ (a : Alias Namepath). as_recipe_alias a (alias_meant t a.target)) alias _ k.0 in
              let is = of_recipe_alias a.0 alias (alias_meant t a.0.target) a.2 in
              let r = recipe_looked (own_end (texts_of_path a.0.target)) (recipe_from j a.0.target) alias.target (sym (meant_by t a.0.target) ∙ is) in
              let number : IsNumbered given asts loaded built (leads m inside a.0.target) (text_of_name a.0.target.last) alias.target = subst (Resolves given asts loaded built (leads m inside a.0.target) (text_of_name a.0.target.last)) r (looks_up a.0.target.front a.0.target.last) in
              let x = made_there given asts loaded built (leads m inside a.0.target) (text_of_name a.0.target.last) alias.target number in
              (x.0, x.1))
        ]

    -- an alias of a module has the path of one that stands in this one
    pub alias_path : (name : Text) (alias : Alias Modulepath) → find name (out-Justfile j).aliases.modules ≡ Some alias → IsPathIn j alias.target
    alias_path name alias f =
        let t = targets_of j in
        elim (found_among name_of_alias name alias [] (modules_among t _) (ap (λ (it : Aliases). find name it.modules) (sym shows.is.fields.aliases_are) ∙ f)) [
          | inr wrong ↦ absurd (cc)
          | inl k ↦ (
              let a = from_flat (λ (a : Alias Namepath). as_module_alias a (alias_meant t a.target)) alias _ k.0 in
              let is = of_module_alias a.0 alias (alias_meant t a.0.target) a.2 in
              let led = module_led (own_end (texts_of_path a.0.target)) (recipe_from j a.0.target) alias.target (sym (meant_by t a.0.target) ∙ is) in
              (led.0, stands_along j led.0 (texts_of_path a.0.target) (walk_along j led.0 (texts_of_path a.0.target) led.1), led.2))
        ]
