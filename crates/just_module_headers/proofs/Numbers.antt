-- Numbers of recipes, each once.
use Rattle.std.proofs.Common.{nat_eq, ◌≡◌, ◌<◌, ℕ, zero, suc, Bool, List, [], ◌∷◌, ◌++◌, length, get_or, refl, sym, subst, arith, inl, inr}
use Rattle.std.specs.Prelude.{slice_get}
use Rattle.std.specs.List.{All, Contains}
use Rattle.std.specs.Map.{keys_of, lookup}
use Rattle.std.proofs.lemmas.List.{map-append}
use Rattle.std.proofs.lemmas.List.Elements.{All-append}
use Rattle.just_graph.specs.Levels.{AreLevels, before, level, unlisted_targets}
use Rattle.just_graph.specs.Steps.{IsOnce}
use Rattle.just_graph.proofs.Least.{before_level, one_level}
use Rattle.just_graph.proofs.Leveling.{Once, once_append, once_at_last, is_once}
use Rattle.just_graph.proofs.Members.{In, contained, in_cases, is_in}
use Rattle.just_parts.specs.Asts.{AstKey, same_ast_key}
use Rattle.just_parts.specs.Items.{Ast, Item}
use Rattle.just_recipe.specs.declared.dependency.UnresolvedDependency.{UnresolvedDependency}
use Rattle.just_recipe.specs.declared.recipe.Recipe.{Recipe}
use Rattle.just_module_headers.specs.Analyzable.{AreAnalyzable}
use Rattle.just_module_headers.specs.Files.{ArePlaced, AreRows, asts_in}
use Rattle.just_module_contents.specs.Named.{recipes_by, recipes_from}
use Rattle.just_module_contents.specs.Recipes.{recipes_of}
use Rattle.just_module_contents.specs.Resolved.{HasPriors, unresolved_numbers}
use Rattle.just_module_headers.specs.declared.files.Files.{Files}
use Rattle.just_module_headers.specs.declared.files.Rows.{Rows}
use Rattle.just_module_contents.proofs.Once.{from_once}
use Rattle.just_module_headers.proofs.FilePlaces.{one_place, says}

-- levels have no number twice
once_level : (next : ℕ → List ℕ) (start m : ℕ) → Once (level nat_eq next start m)
unfolding level
once_level next start zero = (λ h. h, tt)
once_level next start (suc m) = once_at_last (unlisted_targets nat_eq next (before nat_eq next start m ++ level nat_eq next start m) (level nat_eq next start m))

once_before : (next : ℕ → List ℕ) (start m : ℕ) → Once (before nat_eq next start m)
unfolding before
once_before next start zero = tt
once_before next start (suc m) = once_append (before nat_eq next start m) (level nat_eq next start m) (once_before next start m) (once_level next start m) (λ g i j.
    let r = before_level next start m g i in
    let same : r.0 ≡ m = one_level next start r.0 m g r.2 j in
    absurd (omega (arith, r.1, same)))

pub levels_once : (next : ℕ → List ℕ) (start : ℕ) (found : List ℕ) → AreLevels nat_eq next start found → Once found
levels_once next start found j = subst Once (sym j.listed) (once_before next start j.count)

module _ (enabled : Item → Bool) (entries : List (AstKey × Ast)) (d : AstKey) (files : Files) (placed : ArePlaced entries files) (rows : Rows) (are : AreRows enabled files rows)
    (can : AreAnalyzable enabled (λ k. lookup (same_ast_key k) entries)) where
  abbrev n : ℕ
  n = length (keys_of entries)

  abbrev key_at : ℕ → AstKey
  key_at p = get_or (keys_of entries) p d

  abbrev numbers_at : ℕ → List ℕ
  numbers_at q = unresolved_numbers (recipes_by enabled (slice_get (asts_in files) q))

  once_at : (q : ℕ) → q < n → Once (numbers_at q)
  once_at q h =
      let s = says enabled entries d files placed rows are can.paths q h in
      subst (λ o. Once (unresolved_numbers (recipes_by enabled o))) (sym s.listed) (from_once (unresolved_numbers (recipes_of enabled s.ast.items)) (can.once (key_at q) s.ast s.said))

  apart_at : (p q : ℕ) → p < n → q < n → (p ≡ q → ⊥) → (m : ℕ) → In m (numbers_at p) → In m (numbers_at q) → ⊥
  apart_at p q h l ne m i k =
      let s = says enabled entries d files placed rows are can.paths p h in
      let t = says enabled entries d files placed rows are can.paths q l in
      can.apart (key_at p) (key_at q) s.ast t.ast m s.said t.said (λ e. ne (one_place enabled entries d files placed rows are can.paths p q h l e))
      (contained m (unresolved_numbers (recipes_of enabled s.ast.items)) (subst (λ o. In m (unresolved_numbers (recipes_by enabled o))) s.listed i))
      (contained m (unresolved_numbers (recipes_of enabled t.ast.items)) (subst (λ o. In m (unresolved_numbers (recipes_by enabled o))) t.listed k))

  -- a number of files' recipes is one of a file's
  pub number_from : (m : ℕ) (xs : List ℕ) → In m (unresolved_numbers (recipes_from enabled (asts_in files) xs)) → (q : ℕ) × In q xs × In m (numbers_at q)
  number_from m [] h = absurd h
  number_from m (x ∷ xs) h =
      elim (in_cases m (numbers_at x) (unresolved_numbers (recipes_from enabled (asts_in files) xs)) (subst (In m) (map-append (λ (r : Recipe UnresolvedDependency). r.number.0) (recipes_by enabled (slice_get (asts_in files) x)) (recipes_from enabled (asts_in files) xs)) h)) [
        | inl i ↦ (x, inl refl, i)
        | inr i ↦ (let r = number_from m xs i in (r.0, inr r.1, r.2))
      ]

  once_from : (xs : List ℕ) → Once xs → ((q : ℕ) → In q xs → q < n) → Once (unresolved_numbers (recipes_from enabled (asts_in files) xs))
  once_from [] once inside = tt
  once_from (x ∷ xs) once inside =
      subst Once (sym (map-append (λ (r : Recipe UnresolvedDependency). r.number.0) (recipes_by enabled (slice_get (asts_in files) x)) (recipes_from enabled (asts_in files) xs)))
      (once_append (numbers_at x) (unresolved_numbers (recipes_from enabled (asts_in files) xs)) (once_at x (inside x (inl refl))) (once_from xs once.1 (λ q h. inside q (inr h))) (λ m i k.
      let r = number_from m xs k in
      apart_at x r.0 (inside x (inl refl)) (inside r.0 (inr r.1)) (λ e. once.0 (subst (λ y. In y xs) (sym e) r.1)) m i r.2))

  pub numbers_once : (xs : List ℕ) → Once xs → ((q : ℕ) → In q xs → q < n) → IsOnce (unresolved_numbers (recipes_from enabled (asts_in files) xs))
  numbers_once xs once inside = is_once (unresolved_numbers (recipes_from enabled (asts_in files) xs)) (once_from xs once inside)

  -- no number is in files of two lists that have no file in common
  pub numbers_apart : (xs ys : List ℕ) → ((q : ℕ) → In q xs → q < n) → ((q : ℕ) → In q ys → q < n) → ((q : ℕ) → In q xs → In q ys → ⊥) → (m : ℕ)
      → Contains (unresolved_numbers (recipes_from enabled (asts_in files) xs)) m → Contains (unresolved_numbers (recipes_from enabled (asts_in files) ys)) m → ⊥
  numbers_apart xs ys in_x in_y apart m a b =
      let x = number_from m xs (is_in m (unresolved_numbers (recipes_from enabled (asts_in files) xs)) a) in
      let y = number_from m ys (is_in m (unresolved_numbers (recipes_from enabled (asts_in files) ys)) b) in
      apart_at x.0 y.0 (in_x x.0 x.1) (in_y y.0 y.1) (λ e. apart x.0 x.1 (subst (λ q. In q ys) (sym e) y.1)) m x.2 y.2

  pub have_priors : (xs : List ℕ) → ((q : ℕ) → In q xs → q < n) → All HasPriors (recipes_from enabled (asts_in files) xs)
  have_priors [] inside = λ k x l. absurd (omega (arith, l))
  have_priors (q ∷ xs) inside =
      let s = says enabled entries d files placed rows are can.paths q (inside q (inl refl)) in
      All-append HasPriors (recipes_by enabled (slice_get (asts_in files) q)) (recipes_from enabled (asts_in files) xs)
      (subst (λ o. All HasPriors (recipes_by enabled o)) (sym s.listed) (can.priors (key_at q) s.ast s.said)) (have_priors xs (λ r h. inside r (inr h)))
