-- The recipes that are made are what is linked.
use Rattle.std.proofs.Common.{◌≡◌, ℕ, ◌<◌, ◌≤◌, Bool, List, [], ◌∷◌, ◌++◌, length, get_or, slice_index, Some, refl, sym, ◌∙◌, ap, subst, arith, inl, inr, ◌↔◌}
use Rattle.std.specs.BTreeSet.{BTreeSet}
use Rattle.std.specs.List.{All, AllZip, Contains}
use Rattle.std.proofs.lemmas.List.{get_or_default}
use Rattle.std.proofs.lemmas.List.Elements.{All-contains, All-get_or}
use Rattle.just_graph.proofs.Members.{In, all_in, contained, is_in}
use Rattle.just_graph.specs.Steps.{IsOnce}
use Rattle.just_ast_definitions.specs.Parameter.{most_arguments}
use Rattle.just_module_contents.specs.Recipes.{name_of_recipe, names_of, no_recipe, recipe_at}
use Rattle.just_module_contents.specs.Resolved.{AreNew, HasPriors, path_to, unresolved_numbers}
use Rattle.just_module_recipes.specs.Completing.{StandBeside, completion}
use Rattle.just_module_recipes.specs.loops.Completing.{IsCompleting}
use Rattle.just_module_recipes.specs.Linked.{AddsLinked, AreSettled, HasNumber, IsLinked, IsMadeAt, IsMadeOf, of_far, of_near}
use Rattle.just_errors.specs.Causes.{Keeps}
use Rattle.just_module_recipes.specs.Links.{Around, BreaksLinks, Stands, by_recipe}
use Rattle.just_module_recipes.specs.loops.Making.{AreAllThere, AreExact, IsThere, link_of, links_of, made, parameters_in, parameters_of}
use Rattle.just_module_recipes.specs.Rows.{keys_at}
use Rattle.just_module_recipes.specs.loops.Rows.{AreRecipeRows, Bars, IsOrderOf, IsTarget, IsTargetOf, itself}
use Rattle.just_module_recipes.specs.declared.targets.Target.{Target}
use Rattle.just_module_recipes.specs.declared.targets.Target.TheVariants.{Near, Far, Gone}
use Rattle.just_module_recipes.proofs.Barred.{bars_disables, disables_bars}
use Rattle.just_module_recipes.proofs.Counted.{fits_target}
use Rattle.just_module_recipes.proofs.Held.{empty_or, held_some, none_in, number_more, number_of_place}
use Rattle.just_module_recipes.proofs.Made.{at_place, found_made, from_made, links_length}
use Rattle.just_module_recipes.proofs.Nearby.{near_has}
use Rattle.just_module_recipes.proofs.Steps.{row_steps}
use Rattle.just_module_recipes.proofs.Zipped.{zip_back, zip_counts, zip_length, zip_paths}
use Rattle.just_names.specs.Index.{AreDifferent}
use Rattle.just_names.specs.Name.{text_of_name}
use Rattle.just_names.specs.declared.name.Name.{Name}
use Rattle.just_names.specs.declared.number.Number.{Number}
use Rattle.just_paths.specs.declared.modulepath.Modulepath.{Modulepath}
use Rattle.just_recipe.proofs.GroupLemmas.{whole_grouped}
use Rattle.just_recipe.specs.Grouping.{grouped}
use Rattle.just_recipe.specs.Recipes.{IsResolved, find_number}
use Rattle.just_recipe.specs.declared.dependency.Dependency.{Dependency}
use Rattle.just_recipe.specs.declared.dependency.UnresolvedDependency.{UnresolvedDependency}
use Rattle.just_recipe.specs.declared.recipe.Recipe.{Recipe}

module _ (rs : List (Recipe UnresolvedDependency)) (it : Around) (sets : List (BTreeSet Modulepath)) (exact : AreExact rs it sets) where
  pub empty_stands : (i : ℕ) → i < length rs → keys_at sets i ≡ [] → Stands rs it (name_of_recipe (recipe_at rs i))
  empty_stands i h e p d = none_in (keys_at sets i) p e ((exact.exact i h p).1 d)

  pub stands_empty : (i : ℕ) → i < length rs → Stands rs it (name_of_recipe (recipe_at rs i)) → keys_at sets i ≡ []
  stands_empty i h s = elim (empty_or (keys_at sets i)) [ inl f ↦ f | inr (p, m) ↦ absurd (s p ((exact.exact i h p).0 m)) ]

  module _ (different : AreDifferent (names_of rs)) (rows : List (List Target)) (are : AreRecipeRows rs it (length rs) rows) where
    -- the sets are exactly what bars
    pub exact_bars : (i : ℕ) → i < length rows → (p : Modulepath) → Contains (keys_at sets i) p ↔ Bars rows i p
    exact_bars i h p =
        let l : i < length rs = omega (arith, are.count) in (
          (λ (c : Contains (keys_at sets i) p). disables_bars rs different it rows are (name_of_recipe (recipe_at rs i)) p ((exact.exact i l p).0 c) i l refl),
          (λ (b : Bars rows i p). (exact.exact i l p).1 (bars_disables rs different it rows are i p l b)),
        )

    near_empty : (i j : ℕ) → i < length rs → keys_at sets i ≡ [] → Contains (get_or rows i []) (Near j) → keys_at sets j ≡ []
    near_empty i j h e c =
        let s = row_steps rs different it rows are i j h (near_has (get_or rows i []) j c) in
        stands_empty j s.there (λ p d. empty_stands i h e p (by_recipe (name_of_recipe (recipe_at rs j)) (record { from = i; to = j; step = s; dependent_is = refl; name_is = refl }) d))

    module _ (settled : AreSettled it) where
      is_there : (i : ℕ) → i < length rs → keys_at sets i ≡ [] → (t : Target) → Contains (get_or rows i []) t → IsThere rs it.held t
      is_there i h e (Near j) c = let s = row_steps rs different it rows are i j h (near_has (get_or rows i []) j c) in s.there
      is_there i h e (Far n) c =
          let d = zip_back (IsTargetOf rs it) (recipe_at rs i).dependencies (get_or rows i []) (Far n) (are.each i h) (is_in (Far n) (get_or rows i []) c) in
          settled.held d.0.recipe n d.2
      is_there i h e (Gone set) c =
          let d = zip_back (IsTargetOf rs it) (recipe_at rs i).dependencies (get_or rows i []) (Gone set) (are.each i h) (is_in (Gone set) (get_or rows i []) c) in
          elim (empty_or set.keys) [
            | inl f ↦ settled.disabled d.0.recipe set d.2 f
            | inr (p, m) ↦ empty_stands i h e p (bars_disables rs different it rows are i p h (itself set c m))
          ]

      pub are_all_there : AreAllThere rs it.held rows sets
      are_all_there k h e = all_in (IsThere rs it.held) (get_or rows k []) (λ t c. is_there k (omega (arith, are.count)) e t (contained t (get_or rows k []) c))

    module _ (by : Recipe UnresolvedDependency → Recipe UnresolvedDependency) (completes : IsCompleting by) (needed : List (List Number)) (lists : Bool) (path : Modulepath) (once : IsOnce (unresolved_numbers rs)) (priors : All HasPriors rs) (apart : AreNew it.held rs) (order : List ℕ) (o : IsOrderOf rows order) (there : AreAllThere rs it.held rows sets) (kept : Keeps (BreaksLinks lists rs it)) where
      abbrev all : List (Recipe Dependency)
      all = it.held ++ made by needed lists rs it.held path rows sets order

      -- a parameter of the target takes each of so many arguments
      abbrev Fits : ℕ → Target → Type 0
      Fits n t = n ≤ most_arguments lists (parameters_of rs it.held t)

      is_linked : (d : UnresolvedDependency) (t : Target) → IsTarget rs it d.recipe t → IsThere rs it.held t → ((j : ℕ) → t ≡ Near j → keys_at sets j ≡ []) → Fits (length d.arguments) t → IsLinked (Stands rs it) (HasNumber rs it) (completion by (StandBeside rs needed)) lists all d (link_of lists rs it.held d t)
      is_linked d (Near j) n h e fits = record {
        path = refl;
        number = of_near j n refl;
        target = at_place by completes needed lists rs path rows sets it.held j;
        held = found_made by completes needed lists rs path rows sets it.held once apart order o are.count j h (e j refl);
        arguments = sym (completes.grouping lists (recipe_at rs j) d.arguments);
        whole = whole_grouped lists (parameters_of rs it.held (Near j)) d.arguments fits;
      }
      is_linked d (Far n) f h e fits =
          let x = held_some it.held n.0 h in
          record {
            path = refl;
            number = of_far f;
            target = x.0;
            held = number_more it.held (made by needed lists rs it.held path rows sets order) n.0 x.0 x.1;
            arguments = ap (λ r. grouped lists (parameters_in r) d.arguments) x.1;
            whole = whole_grouped lists (parameters_of rs it.held (Far n)) d.arguments fits;
          }
      is_linked d (Gone set) f h e fits = absurd h

      are_linked : (ds : List UnresolvedDependency) (ts : List Target) → AllZip (IsTargetOf rs it) ds ts → ((t : Target) → In t ts → IsThere rs it.held t) → ((j : ℕ) → In (Near j) ts → keys_at sets j ≡ []) → AllZip (λ (d : UnresolvedDependency) t. Fits (length d.arguments) t) ds ts → AllZip (IsLinked (Stands rs it) (HasNumber rs it) (completion by (StandBeside rs needed)) lists all) ds (links_of lists rs it.held ds ts)
      are_linked [] ts a h e fits = nothing ts a
        where
          nothing : (ts : List Target) → AllZip (IsTargetOf rs it) [] ts → AllZip (IsLinked (Stands rs it) (HasNumber rs it) (completion by (StandBeside rs needed)) lists all) [] (links_of lists rs it.held [] ts)
          nothing [] a = tt
          nothing (t ∷ ts) a = absurd a
      are_linked (d ∷ ds) [] a h e fits = absurd a
      are_linked (d ∷ ds) (t ∷ ts) a h e fits = (is_linked d t a.0 (h t (inl refl)) (λ j s. e j (inl (sym s))) fits.0, are_linked ds ts a.1 (λ u k. h u (inr k)) (λ j k. e j (inr k)) fits.1)

      -- the rows are those of the recipes that are completed too
      rows_of : (i : ℕ) → i < length rs → AllZip (IsTargetOf rs it) (by (recipe_at rs i)).dependencies (get_or rows i [])
      rows_of i h = zip_paths (IsTarget rs it) (recipe_at rs i).dependencies (by (recipe_at rs i)).dependencies (get_or rows i []) (sym (completes.paths (recipe_at rs i))) (are.each i h)

      -- the targets of one that stands take all arguments
      row_fits : (i : ℕ) → i < length rs → keys_at sets i ≡ [] → (ds : List UnresolvedDependency) (ts : List Target) → ((d : UnresolvedDependency) → In d ds → Contains (recipe_at rs i).dependencies d) → AllZip (IsTargetOf rs it) ds ts
          → ((t : Target) → In t ts → IsThere rs it.held t) → AllZip (λ (d : UnresolvedDependency) t. Fits (length d.arguments) t) ds ts
      row_fits i h e [] [] among a th = tt
      row_fits i h e [] (t ∷ ts) among a th = absurd a
      row_fits i h e (d ∷ ds) [] among a th = absurd a
      row_fits i h e (d ∷ ds) (t ∷ ts) among a th = (
        fits_target lists rs it d t a.0 (th t (inl refl)) (record { from = i; there = h; depends = among d (inl refl); stands = empty_stands i h e }) kept,
        row_fits i h e ds ts (λ x k. among x (inr k)) a.1 (λ u k. th u (inr k)),
      )

      all_there : (i : ℕ) → i < length rs → keys_at sets i ≡ [] → (t : Target) → In t (get_or rows i []) → IsThere rs it.held t
      all_there i h e t k = All-contains (IsThere rs it.held) (get_or rows i []) t (there i (omega (arith, are.count)) e) (contained t (get_or rows i []) k)

      fits_of : (i : ℕ) → i < length rs → keys_at sets i ≡ [] → AllZip (λ (d : UnresolvedDependency) t. Fits (length d.arguments) t) (by (recipe_at rs i)).dependencies (get_or rows i [])
      fits_of i h e =
          let ds = (recipe_at rs i).dependencies in
          zip_counts Fits ds (by (recipe_at rs i)).dependencies (get_or rows i []) (sym (completes.counts (recipe_at rs i)))
          (row_fits i h e ds (get_or rows i []) (λ d k. contained d ds k) (are.each i h) (all_there i h e))

      -- what is made of a recipe that stands
      is_made : (i : ℕ) → i < length rs → keys_at sets i ≡ [] → IsMadeOf (Stands rs it) (HasNumber rs it) (completion by (StandBeside rs needed)) lists all path (recipe_at rs i) (at_place by completes needed lists rs path rows sets it.held i)
      is_made i h e = record {
        resolved = record {
          name = refl;
          number = refl;
          parameters = refl;
          priors = refl;
          private = refl;
          attributes = refl;
          body = refl;
          doc = refl;
          quiet = refl;
          shebang = refl;
          file_depth = refl;
          import_offsets = refl;
          module_path = refl;
          recipe_path = ap (λ (n : Name). Some (path_to path (text_of_name n))) (sym (completes.name (recipe_at rs i)));
        };
        references = record { place = i; there = h; recipe_is = refl; numbers_are = refl };
        dependencies = are_linked (by (recipe_at rs i)).dependencies (get_or rows i []) (rows_of i h)
            (all_there i h e)
            (λ j k. near_empty i j h e (contained (Near j) (get_or rows i []) k))
            (fits_of i h e);
      }

      is_made_at : (i : ℕ) → i < length rs → keys_at sets i ≡ [] → IsMadeAt (Stands rs it) (HasNumber rs it) (completion by (StandBeside rs needed)) lists all rs path i (at_place by completes needed lists rs path rows sets it.held i)
      is_made_at i h e = record { there = h; stands = empty_stands i h e; made_of = is_made i h e }

      place_below : (i : ℕ) → In i order → i < length rs
      place_below i h =
          let c = contained i order h in
          let b = o.below c.0 c.1 in
          let is : slice_index order c.0 ≡ i = get_or_default order c.0 0 i c.1 ∙ c.2 in
          omega (arith, are.count)

      is_resolved : (i : ℕ) → i < length rs → IsResolved (at_place by completes needed lists rs path rows sets it.held i)
      is_resolved i h = record {
        path = refl;
        priors =
            let few : HasPriors (recipe_at rs i) = All-get_or HasPriors rs i no_recipe h priors in
            let many = zip_length (IsTargetOf rs it) (recipe_at rs i).dependencies (get_or rows i []) (are.each i h) in
            let row = zip_length (IsTargetOf rs it) (by (recipe_at rs i)).dependencies (get_or rows i []) (rows_of i h) in
            omega (arith, few, many, row, completes.priors (recipe_at rs i), links_length lists rs it.held (by (recipe_at rs i)).dependencies (get_or rows i []) row);
      }

      pub adds_linked : (new : List (Recipe Dependency)) → new ≡ all → AddsLinked (completion by (StandBeside rs needed)) lists rs it path new
      adds_linked new e = subst (AddsLinked (completion by (StandBeside rs needed)) lists rs it path) (sym e) (record {
        added = made by needed lists rs it.held path rows sets order;
        appended = refl;
        linked = record {
          each = λ i h s.
              let f = stands_empty i h s in
              (at_place by completes needed lists rs path rows sets it.held i, ap (find_number all) (number_of_place rs i h) ∙ found_made by completes needed lists rs path rows sets it.held once apart order o are.count i h f, is_made_at i h f);
          only = λ x c.
              let f = from_made by completes needed lists rs path rows sets it.held order x (is_in x (made by needed lists rs it.held path rows sets order) c) in
              (f.0, subst (IsMadeAt (Stands rs it) (HasNumber rs it) (completion by (StandBeside rs needed)) lists all rs path f.0) (sym f.3) (is_made_at f.0 (place_below f.0 f.1) f.2));
          resolved = all_in IsResolved (made by needed lists rs it.held path rows sets order) (λ x m.
              let f = from_made by completes needed lists rs path rows sets it.held order x m in
              subst IsResolved (sym f.3) (is_resolved f.0 (place_below f.0 f.1)));
        };
      })
