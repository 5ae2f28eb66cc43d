-- Numbers of variables, each once.
use Rattle.std.proofs.Common.{◌≡◌, ◌<◌, ℕ, Bool, List, [], ◌∷◌, length, get_or, refl, sym, subst, inl, inr}
use Rattle.std.specs.Prelude.{slice_get}
use Rattle.std.specs.Map.{keys_of, lookup}
use Rattle.std.proofs.lemmas.List.{map-append}
use Rattle.just_graph.specs.Steps.{IsOnce}
use Rattle.just_graph.proofs.Leveling.{Once, once_append, is_once}
use Rattle.just_graph.proofs.Members.{In, contained, in_cases}
use Rattle.just_parts.specs.Asts.{AstKey, same_ast_key}
use Rattle.just_parts.specs.Items.{Ast, Item}
use Rattle.just_ast_definitions.specs.declared.assignment.Assignment.{Assignment}
use Rattle.just_module_headers.specs.Analyzable.{AreAnalyzable, assignment_numbers}
use Rattle.just_module_headers.specs.Files.{ArePlaced, AreRows, asts_in}
use Rattle.just_module_contents.specs.Named.{said_from, variable_by}
use Rattle.just_module_headers.specs.declared.files.Files.{Files}
use Rattle.just_module_headers.specs.declared.files.Rows.{Rows}
use Rattle.just_module_headers.proofs.FilePlaces.{one_place, says}
use Rattle.just_module_contents.proofs.Once.{from_once}
use Rattle.just_module_contents.specs.Said.{said, said_in}

module _ (enabled : Item → Bool) (entries : List (AstKey × Ast)) (d : AstKey) (files : Files) (placed : ArePlaced entries files) (rows : Rows) (are : AreRows enabled files rows)
    (can : AreAnalyzable enabled (λ k. lookup (same_ast_key k) entries)) where
  abbrev n : ℕ
  n = length (keys_of entries)

  abbrev key_at : ℕ → AstKey
  key_at p = get_or (keys_of entries) p d

  abbrev number_of : Assignment → ℕ
  number_of a = a.number.0

  abbrev numbers_at : ℕ → List ℕ
  numbers_at q = assignment_numbers (said_in variable_by enabled (slice_get (asts_in files) q))

  abbrev numbers_from : List ℕ → List ℕ
  numbers_from xs = assignment_numbers (said_from variable_by enabled (asts_in files) xs)

  once_at : (q : ℕ) → q < n → Once (numbers_at q)
  once_at q h =
      let s = says enabled entries d files placed rows are can.paths q h in
      subst (λ o. Once (assignment_numbers (said_in variable_by enabled o))) (sym s.listed) (from_once (assignment_numbers (said variable_by enabled s.ast.items)) (can.variables_once (key_at q) s.ast s.said))

  apart_at : (p q : ℕ) → p < n → q < n → (p ≡ q → ⊥) → (m : ℕ) → In m (numbers_at p) → In m (numbers_at q) → ⊥
  apart_at p q h l ne m i k =
      let s = says enabled entries d files placed rows are can.paths p h in
      let t = says enabled entries d files placed rows are can.paths q l in
      can.variables_apart (key_at p) (key_at q) s.ast t.ast m s.said t.said (λ e. ne (one_place enabled entries d files placed rows are can.paths p q h l e))
      (contained m (assignment_numbers (said variable_by enabled s.ast.items)) (subst (λ o. In m (assignment_numbers (said_in variable_by enabled o))) s.listed i))
      (contained m (assignment_numbers (said variable_by enabled t.ast.items)) (subst (λ o. In m (assignment_numbers (said_in variable_by enabled o))) t.listed k))

  -- a number of files' variables is one of a file's
  number_from : (m : ℕ) (xs : List ℕ) → In m (numbers_from xs) → (q : ℕ) × In q xs × In m (numbers_at q)
  number_from m [] h = absurd h
  number_from m (x ∷ xs) h =
      elim (in_cases m (numbers_at x) (numbers_from xs) (subst (In m) (map-append number_of (said_in variable_by enabled (slice_get (asts_in files) x)) (said_from variable_by enabled (asts_in files) xs)) h)) [
        | inl i ↦ (x, inl refl, i)
        | inr i ↦ (let r = number_from m xs i in (r.0, inr r.1, r.2))
      ]

  once_from : (xs : List ℕ) → Once xs → ((q : ℕ) → In q xs → q < n) → Once (numbers_from xs)
  once_from [] once inside = tt
  once_from (x ∷ xs) once inside =
      subst Once (sym (map-append number_of (said_in variable_by enabled (slice_get (asts_in files) x)) (said_from variable_by enabled (asts_in files) xs)))
      (once_append (numbers_at x) (numbers_from xs) (once_at x (inside x (inl refl))) (once_from xs once.1 (λ q h. inside q (inr h))) (λ m i k.
      let r = number_from m xs k in
      apart_at x r.0 (inside x (inl refl)) (inside r.0 (inr r.1)) (λ e. once.0 (subst (λ y. In y xs) (sym e) r.1)) m i r.2))

  pub variables_once : (xs : List ℕ) → Once xs → ((q : ℕ) → In q xs → q < n) → IsOnce (numbers_from xs)
  variables_once xs once inside = is_once (numbers_from xs) (once_from xs once inside)
