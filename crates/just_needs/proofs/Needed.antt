-- Sets of what a run needs.
use Rattle.std.proofs.Common.{◌≡◌, ◌⊎◌, ◌↔◌, ℕ, Bool, true, List, length, Option, Some, refl, ap, ap₂, ◌∙◌, inl, inr}
use Rattle.std.proofs.Math.Path.{fun_ext}
use Rattle.std.proofs.lemmas.Bool.Decides.{same_from_decides}
use Rattle.std.proofs.lemmas.Option.{slice_get_within}
use Rattle.std.specs.List.{slice_get}
use Rattle.just_ast_definitions.specs.declared.assignment.Assignment.{Assignment}
use Rattle.just_tasks.specs.Leading.{LeadTo}
use Rattle.just_tasks.specs.declared.task.Task.{Task}
use Rattle.just_graph.proofs.Members.{In, contained, is_in}
use Rattle.just_justfile.specs.Closed.{StandsIn}
use Rattle.just_justfile.specs.Running.{IsReadBy, known_by_tables}
use Rattle.just_recipe.specs.Recipes.{arguments_of}
use Rattle.just_justfile.specs.declared.justfile.Justfile.{Justfile, out-Justfile}
use Rattle.just_names.specs.Texts.{Text}
use Rattle.just_names.specs.declared.number.Number.{Number}
use Rattle.just_parts.specs.Needs.{IsNumberIn, has_number, overridden_by}
use Rattle.just_parts.specs.Reading.{Reads}
use Rattle.just_parts.specs.Scopes.{Scoped, scopes_of}
use Rattle.just_parts.specs.Syntax.{SyntaxAnswers}
use Rattle.just_paths.specs.declared.modulepath.Modulepath.{Modulepath}
use Rattle.just_recipe.specs.declared.dependency.Dependency.{Dependency}
use Rattle.just_recipe.specs.declared.recipe.Recipe.{Recipe}
use Rattle.just_scopes.specs.Need.{AreNeeds, AreNeedsFrom, IsFound, IsNeededAtOnce, IsNeededVariable, NeedsAtOnce, NumberSets, chosen, is_chosen, is_start, read}
use Rattle.just_table.specs.Entries.{find}
use Rattle.just_needs.proofs.Decisions.{dec-and, dec-by, dec-found, dec-is, dec-list, dec-or, dec-some, dec-text}
use Rattle.just_needs.proofs.Leads.{below, dec-leads-to, in-below}
use Rattle.just_needs.proofs.Readers.{dec-reads}
use Rattle.just_needs.proofs.Sets.{some-set}

-- whether two paths of modules are one
dec-path : (a b : Modulepath) → Dec (a ≡ b)
dec-path a b = dec-by {A = (a.components ≡ b.components) × (a.spaced ≡ b.spaced)}
    (λ e. let made : List Text → Bool → Modulepath = λ names spaced. record { components = names; spaced = spaced } in ap₂ made e.0 e.1)
    (λ e. (ap (λ (p : Modulepath). p.components) e, ap (λ (p : Modulepath). p.spaced) e))
    (dec-and (dec-list dec-text a.components b.components) (dec-is a.spaced b.spaced))

dec-path-is : (o : Option Modulepath) (path : Modulepath) → Dec (o ≡ Some path)
dec-path-is o path = dec-by {A = (p : Modulepath) × (o ≡ Some p) × (p ≡ path)}
    (λ h. h.1 ∙ ap (λ p. Some p) h.2) (λ e. (path, e, refl)) (dec-found (λ p. p ≡ path) (λ p. dec-path p path) o)

module _ (answers : SyntaxAnswers) (j : Justfile) where
  -- a recipe reads a variable
  dec-read-by : (r : Recipe Dependency) (name : Text) → Dec (IsReadBy answers j r name)
  dec-read-by r name =
      let scopes : List Scoped = scopes_of arguments_of answers (out-Justfile j).settings r in
      let has : Scoped → Type 0 = λ s. Reads (known_by_tables j) s.hidden s.expression name in
      dec-by {A = (s : Scoped) × In s scopes × has s}
      (λ h. record { from = h.0; there = contained h.0 scopes h.1; reads = h.2 })
      (λ b. (b.from, is_in b.from scopes b.there, b.reads))
      (dec-some has (λ s. dec-reads (known_by_tables j) name s.hidden s.expression) scopes)

  module _ (recipes : List (Recipe Dependency)) (tops : List Task) where
    -- a variable is evaluated anyhow, or read by a recipe that stands at a place
    abbrev IsChosenAt : Text → Type 0
    IsChosenAt name = (a : Assignment) × (find name (out-Justfile j).assignments ≡ Some a) × (is_chosen (out-Justfile j).settings a ≡ true)

    abbrev IsReadAt : Text → ℕ → Type 0
    IsReadAt name place = (r : Recipe Dependency) × (slice_get recipes place ≡ Some r) × (LeadTo recipes tops place × ((r.module_path ≡ Some (out-Justfile j).module_path) × IsReadBy answers j r name))

    dec-read-at : (name : Text) (place : ℕ) → Dec (IsReadAt name place)
    dec-read-at name place = dec-found _ (λ r. dec-and (dec-leads-to recipes tops place) (dec-and (dec-path-is r.module_path (out-Justfile j).module_path) (dec-read-by r name))) (slice_get recipes place)

    either-at-once : (name : Text) → IsChosenAt name ⊎ ((place : ℕ) × In place (below (length recipes)) × IsReadAt name place) → NeedsAtOnce answers recipes tops j name
    either-at-once name (inl (a, is, c)) = chosen a is c
    either-at-once name (inr (place, i, (r, at, h))) = read place r (record { led = h.0; there = at; path = h.1.0 }) h.1.1

    at-once-either : (name : Text) → NeedsAtOnce answers recipes tops j name → IsChosenAt name ⊎ ((place : ℕ) × In place (below (length recipes)) × IsReadAt name place)
    at-once-either name (chosen a is c) = inl (a, is, c)
    at-once-either name (read place r runs reads) = inr (place, in-below (length recipes) place (slice_get_within recipes place r runs.there), (r, runs.there, (runs.led, (runs.path, reads))))

    -- a variable is needed at once
    dec-at-once : (name : Text) → Dec (NeedsAtOnce answers recipes tops j name)
    dec-at-once name = dec-by (either-at-once name) (at-once-either name) (dec-or
        (dec-found (λ a. is_chosen (out-Justfile j).settings a ≡ true) (λ a. dec-is (is_chosen (out-Justfile j).settings a) true) (find name (out-Justfile j).assignments))
        (dec-some (IsReadAt name) (dec-read-at name) (below (length recipes))))

    -- so a set has the numbers of exactly what is needed
    needed-set : (set : Number → Bool) × ((n : Number) → (set n ≡ true) ↔ IsNumberIn (known_by_tables j) (IsNeededVariable answers recipes tops j) n)
    needed-set = some-set (known_by_tables j) (overridden_by (has_number (out-Justfile j).overridden) (known_by_tables j)) (NeedsAtOnce answers recipes tops j) dec-at-once

-- there are sets of what is needed, and they are one in each module
pub some-sets : (answers : SyntaxAnswers) (root : Justfile) (recipes : List (Recipe Dependency)) (tops : List Task) → (sets : NumberSets) × AreNeeds answers root recipes tops sets
some-sets answers root recipes tops = (λ j. (needed-set answers j recipes tops).0, λ j stands. (needed-set answers j recipes tops).1)

pub one-set : (answers : SyntaxAnswers) (root : Justfile) (recipes : List (Recipe Dependency)) (tops : List Task) (sets others : NumberSets) →
    AreNeeds answers root recipes tops sets → AreNeeds answers root recipes tops others → (j : Justfile) → StandsIn root j → sets j ≡ others j
one-set answers root recipes tops sets others are are-too j stands = fun_ext (λ n. same_from_decides (sets j n) (others j n) (are j stands n) (are-too j stands n))

-- so there are of what is needed from some numbers
dec-from : (used : Number → Bool) (j : Justfile) (name : Text) → Dec (IsNeededAtOnce used j name)
dec-from used j name = dec-by (λ h. record { assigned = h.0; is = h.1; starts = h.2 }) (λ s. (s.assigned, s.is, s.starts))
    (dec-found (λ a. is_start used (out-Justfile j).settings a ≡ true) (λ a. dec-is (is_start used (out-Justfile j).settings a) true) (find name (out-Justfile j).assignments))

found-set : (used : Number → Bool) (j : Justfile) → (set : Number → Bool) × IsFound used j set
found-set used j = some-set (known_by_tables j) (overridden_by (has_number (out-Justfile j).overridden) (known_by_tables j)) (IsNeededAtOnce used j) (dec-from used j)

pub some-from : (used : Number → Bool) (root : Justfile) → (sets : NumberSets) × AreNeedsFrom used root sets
some-from used root = (λ j. (found-set used j).0, λ j stands. (found-set used j).1)
