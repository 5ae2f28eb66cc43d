-- What paths lead to.
use Rattle.std.proofs.Common.{◌≡◌, ◌≢◌, ℕ, ◌<◌, List, [], ◌∷◌, ◌++◌, length, map, get_or, Option, Some, None, refl, sym, ◌∙◌, ap, subst, arith}
use Rattle.std.specs.BTreeSet.{BTreeSet}
use Rattle.std.specs.List.{Contains, slice_get}
use Rattle.just_paths.specs.declared.modulepath.Modulepath.{Modulepath}
use Rattle.std.proofs.lemmas.List.{get_or_default, length-map}
use Rattle.std.proofs.lemmas.Option.{slice_get_read}
use Rattle.just_errors.specs.Causes.{Broken}
use Rattle.just_errors.specs.declared.compile_error.CompileErrorKind.TheVariants as kind
use Rattle.just_graph.proofs.Index.{got_in}
use Rattle.just_graph.proofs.Members.{contained, is_in, in_map}
use Rattle.just_justfile.specs.declared.resolution.Resolution.{Resolution}
use Rattle.just_justfile.specs.declared.resolution.Resolution.TheVariants as resolution
use Rattle.just_justfile.specs.Walks.{end_of_names, recipe_by}
use Rattle.just_module_contents.proofs.RecipePlaces.{name_at_place, one_place}
use Rattle.just_module_contents.specs.Recipes.{name_of_recipe, named_paths, names_of, no_recipe, recipe_at}
use Rattle.just_module_contents.specs.Rules.{DependsBy}
use Rattle.just_module_recipes.specs.Links.{Around, PathLeadsTo, IsNameOf, far, found_by, near}
use Rattle.just_module_recipes.specs.loops.Rows.{IsTarget, IsTargetAt, IsTargetOf, Lost, far_of, lost, target_by}
use Rattle.just_module_recipes.specs.declared.targets.Target.{Target}
use Rattle.just_module_recipes.specs.declared.targets.Target.TheVariants.{Near, Far, Gone}
use Rattle.just_names.specs.Index.{AreDifferent, IsIndex, IsLast, name_at}
use Rattle.just_names.specs.loops.Index.{place_in}
use Rattle.just_names.specs.Name.{text_of_name, texts_of_path}
use Rattle.just_names.specs.Token.{Place}
use Rattle.just_names.specs.declared.name.Name.{Name}
use Rattle.just_names.specs.declared.name.Namepath.{Namepath}
use Rattle.just_names.specs.declared.number.Number.{Number}
use Rattle.just_recipe.specs.declared.dependency.UnresolvedDependency.{UnresolvedDependency}
use Rattle.just_recipe.specs.declared.recipe.Recipe.{Recipe}

last_some : (names : List (List ℕ)) (n j : ℕ) (name : List ℕ) (o : Option ℕ) → IsLast names n name o → o ≡ Some j → (j < n) × (name_at names j ≡ name)
last_some names n j name None s e = cc
last_some names n j name (Some k) s e = let at : k ≡ j = cc in (subst (λ m. m < n) at s.0, subst (λ m. name_at names m ≡ name) at s.1)

last_none : (names : List (List ℕ)) (n : ℕ) (name : List ℕ) (o : Option ℕ) → IsLast names n name o → o ≡ None → (k : ℕ) → k < n → name_at names k ≢ name
last_none names n name None s e = s
last_none names n name (Some k) s e = cc

place_in-found : (names : List (List ℕ)) (found : List ℕ → Option ℕ) (path : List (List ℕ)) (j : ℕ) → IsIndex names found → place_in found path ≡ Some j → (j < length names) × (path ≡ name_at names j ∷ [])
place_in-found names found [] j index e = cc
place_in-found names found (name ∷ []) j index e =
    let s = last_some names (length names) j name (found name) (index name) e in
    (s.0, ap (λ x. x ∷ []) (sym s.1))
place_in-found names found (name ∷ more ∷ rest) j index e = cc

place_in-missing : (names : List (List ℕ)) (found : List ℕ → Option ℕ) (path : List (List ℕ)) → IsIndex names found → place_in found path ≡ None → (j : ℕ) → j < length names → path ≢ name_at names j ∷ []
place_in-missing names found [] index e j h same = cc
place_in-missing names found (name ∷ []) index e j h same =
    let is : name ≡ name_at names j = cc in
    last_none names (length names) name (found name) (index name) e j h (sym is)
place_in-missing names found (name ∷ more ∷ rest) index e j h same = cc

-- a path of one name has no names before its last
no_front : (front : List Name) (last : Name) (name : List ℕ) → map text_of_name (front ++ last ∷ []) ≡ name ∷ [] → front ≡ []
no_front [] last name e = refl
no_front (x ∷ []) last name e = absurd (let l = ap (λ (xs : List (List ℕ)). length xs) e in omega arith)
no_front (x ∷ y ∷ front) last name e = absurd (let l = ap (λ (xs : List (List ℕ)). length xs) e in omega arith)

-- a path of one name leads through no module
pub nowhere : (it : Around) (path : Namepath) (name : List ℕ) → texts_of_path path ≡ name ∷ [] → found_by it path ≡ None
nowhere it path name e = ap (λ (front : List Name). recipe_by (end_of_names it.absent it.modules (map text_of_name front)) [] [] (text_of_name path.last)) (no_front path.front path.last name e)

module _ (rs : List (Recipe UnresolvedDependency)) (it : Around) where
  far_target : (path : Namepath) (o : Option (Resolution Number)) (t : Target) → found_by it path ≡ o → far_of o ≡ Some t → IsTarget rs it path t
  far_target path None t e f = absurd (cc)
  far_target path (Some (resolution.Resolved n)) t e f = let same : Far n ≡ t = cc in subst (IsTarget rs it path) same e
  far_target path (Some (resolution.Disabled set)) t e f = let same : Gone set ≡ t = cc in subst (IsTarget rs it path) same e

  far_none : (o : Option (Resolution Number)) → far_of o ≡ None → o ≡ None
  far_none None e = refl
  far_none (Some (resolution.Resolved n)) e = absurd (cc)
  far_none (Some (resolution.Disabled set)) e = absurd (cc)

  module _ (found : List ℕ → Option ℕ) (index : IsIndex (names_of rs) found) where
    count : length (names_of rs) ≡ length rs
    count = length-map rs name_of_recipe

    recipe_found : (path : Namepath) (j : ℕ) → place_in found (texts_of_path path) ≡ Some j → IsNameOf rs path j
    recipe_found path j e =
        let s = place_in-found (names_of rs) found (texts_of_path path) j index e in
        let h : j < length rs = omega (arith, s.0, count) in
        record { there = h; named = s.1 ∙ ap (λ x. x ∷ []) (name_at_place rs j h) }

    recipe_missing : (path : Namepath) → place_in found (texts_of_path path) ≡ None → (j : ℕ) → IsNameOf rs path j → ⊥
    recipe_missing path e j n =
        place_in-missing (names_of rs) found (texts_of_path path) index e j (omega (arith, count, n.there)) (n.named ∙ ap (λ x. x ∷ []) (sym (name_at_place rs j n.there)))

    found_target : (path : Namepath) (o : Option ℕ) (t : Target) → place_in found (texts_of_path path) ≡ o → target_by o (found_by it path) ≡ Some t → IsTarget rs it path t
    found_target path (Some j) t e f = let same : Near j ≡ t = cc in subst (IsTarget rs it path) same (recipe_found path j e)
    found_target path None t e f = far_target path (found_by it path) t refl f

    -- what is found is what the path leads to
    pub is_target : (path : Namepath) (t : Target) → target_by (place_in found (texts_of_path path)) (found_by it path) ≡ Some t → IsTarget rs it path t
    is_target path t e = found_target path (place_in found (texts_of_path path)) t refl e

    missing_target : (path : Namepath) (o : Option ℕ) → place_in found (texts_of_path path) ≡ o → target_by o (found_by it path) ≡ None → PathLeadsTo rs it path → ⊥
    missing_target path (Some j) e f l = absurd (cc)
    missing_target path None e f (near j n) = recipe_missing path e j n
    missing_target path None e f (far some) = some (far_none (found_by it path) f)

    -- where nothing is found the path leads nowhere
    pub is_lost : (path : Namepath) → target_by (place_in found (texts_of_path path)) (found_by it path) ≡ None → PathLeadsTo rs it path → ⊥
    is_lost path e = missing_target path (place_in found (texts_of_path path)) refl e

  -- what has a target leads somewhere
  pub leads : (path : Namepath) (t : Target) → IsTarget rs it path t → PathLeadsTo rs it path
  leads path (Near j) n = near j n
  leads path (Far n) e = far (λ f. let wrong : Some (resolution.Resolved n) ≡ None = sym e ∙ f in cc)
  leads path (Gone set) e = far (λ f. let wrong : Some (resolution.Disabled set) ≡ None = sym e ∙ f in cc)

  -- a path that names the recipe at a place leads to that
  pub near_only : AreDifferent (names_of rs) → (path : Namepath) (t : Target) (b : ℕ) → IsTarget rs it path t → IsNameOf rs path b → t ≡ Near b
  near_only different path (Near j) b n m =
      let e = sym n.named ∙ m.named in
      let name : name_of_recipe (recipe_at rs j) ≡ name_of_recipe (recipe_at rs b) = cc in
      ap Near (one_place rs different j b n.there m.there name)
  near_only different path (Far n) b e m = let wrong : Some (resolution.Resolved n) ≡ None = sym e ∙ nowhere it path (name_of_recipe (recipe_at rs b)) m.named in absurd (cc)
  near_only different path (Gone set) b e m = let wrong : Some (resolution.Disabled set) ≡ None = sym e ∙ nowhere it path (name_of_recipe (recipe_at rs b)) m.named in absurd (cc)

  -- what a walk finds that is disabled is gone
  pub gone_only : (path : Namepath) (t : Target) (set : BTreeSet Modulepath) → IsTarget rs it path t → found_by it path ≡ Some (resolution.Disabled set) → t ≡ Gone set
  gone_only path (Near j) set n e = let wrong : Some (resolution.Disabled set) ≡ None = sym e ∙ nowhere it path (name_of_recipe (recipe_at rs j)) n.named in absurd (cc)
  gone_only path (Far m) set f e = let wrong = sym f ∙ e in absurd (cc)
  gone_only path (Gone other) set f e = let is = sym f ∙ e in let same : other ≡ set = cc in ap Gone same

  -- the path of a dependency is one of the recipe's
  pub path_there : (r : Recipe UnresolvedDependency) (d : UnresolvedDependency) → Contains r.dependencies d → Contains (named_paths r) d.recipe
  path_there r d c = contained d.recipe (named_paths r) (in_map (λ (x : UnresolvedDependency). x.recipe) d r.dependencies (is_in d r.dependencies c))

  -- a dependency that leads nowhere
  pub is_unknown : (i : ℕ) (r : Recipe UnresolvedDependency) (d : UnresolvedDependency) (name : List ℕ) (unknown : Namepath) (place : Place) → i < length rs → r ≡ recipe_at rs i → Contains r.dependencies d → name ≡ name_of_recipe r → unknown ≡ d.recipe → place ≡ d.recipe.last.token
      → (PathLeadsTo rs it d.recipe → ⊥) → Lost rs it (Broken place (kind.UnknownDependency name unknown))
  is_unknown i r d name unknown place h is c named copied told none =
      let by : DependsBy rs name unknown = record {
        from = i;
        there = h;
        name_is = sym (named ∙ ap name_of_recipe is);
        depends = subst (Contains (named_paths (recipe_at rs i))) (sym copied) (subst (λ (x : Recipe UnresolvedDependency). Contains (named_paths x) d.recipe) is (path_there r d c));
      } in
      subst (λ x. Lost rs it (Broken x (kind.UnknownDependency name unknown))) (ap (λ (p : Namepath). p.last.token) copied ∙ sym told)
      (lost by (λ l. none (subst (PathLeadsTo rs it) copied l)))

-- a member that is read
pub read_there : (ds all : List UnresolvedDependency) (at : ℕ) (d : UnresolvedDependency) → ds ≡ all → at < length ds → d ≡ get_or ds at d → slice_get all at ≡ Some d
read_there ds all at d e h read = subst (λ (xs : List UnresolvedDependency). slice_get xs at ≡ Some d) e (slice_get_read ds (length ds) at d refl h read)

pub read_member : (ds all : List UnresolvedDependency) (at : ℕ) (d : UnresolvedDependency) → ds ≡ all → at < length ds → d ≡ get_or ds at d → Contains all d
read_member ds all at d e h read = got_in all at d (read_there ds all at d e h read)

-- what is found for the dependency that is read is what it leads to
pub target_at : (rs : List (Recipe UnresolvedDependency)) (it : Around) (found : List ℕ → Option ℕ) (index : IsIndex (names_of rs) found) (ds all : List UnresolvedDependency) (at : ℕ) (d : UnresolvedDependency) (t : Target) → ds ≡ all → at < length ds → d ≡ get_or ds at d
    → target_by (place_in found (texts_of_path d.recipe)) (found_by it d.recipe) ≡ Some t → IsTargetAt rs it all at t
target_at rs it found index ds all at d t e h read so x there =
    let both : Some d ≡ Some x = sym (read_there ds all at d e h read) ∙ there in
    let same : d ≡ x = cc in
    subst (λ (y : UnresolvedDependency). IsTarget rs it y.recipe t) same (is_target rs it found index d.recipe t so)

-- the target of the next dependency, which is read by its place
pub target_of_next : (rs : List (Recipe UnresolvedDependency)) (it : Around) (ds : List UnresolvedDependency) (at : ℕ) (t : Target) (d : UnresolvedDependency) → at < length ds → IsTargetAt rs it ds at t → IsTargetOf rs it (get_or ds at d) t
target_of_next rs it ds at t d h so = so (get_or ds at d) (slice_get_read ds (length ds) at (get_or ds at d) refl h (get_or_default ds at d (get_or ds at d) h))

-- what is read where there is no dependency
pub no_dependency : UnresolvedDependency
no_dependency = record { arguments = []; recipe = record { front = []; last = no_recipe.name } }
