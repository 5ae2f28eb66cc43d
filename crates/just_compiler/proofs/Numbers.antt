-- The numbers of recipes and of variables in a text.
use Rattle.std.proofs.Common.{◌≡◌, ℕ, ◌+◌, ◌≤◌, Bool, true, false, List, [], ◌∷◌, ◌++◌, ◌⊎◌, inl, inr, refl, sym, ap, subst, arith}
use Rattle.std.specs.Prelude.{if◌then◌else◌}
use Rattle.std.specs.List.{All}
use Rattle.std.proofs.lemmas.List.Elements.{All-contains}
use Rattle.just_graph.proofs.Leveling.{Once}
use Rattle.just_graph.proofs.Members.{In, contained, from_flat, from_map, in_flat, all_in}
use Rattle.just_parts.specs.Bare.{bare_item}
use Rattle.just_parts.specs.Syntax.{AreRising, PriorsAreDependencies, item_numbers, numbers_of_items, function_numbers, parameter_numbers}
use Rattle.just_parts.specs.Items.{Item}
use Rattle.just_ast_items.specs.declared.item.Item.TheVariants as item
use Rattle.just_recipe.specs.declared.dependency.UnresolvedDependency.{UnresolvedDependency}
use Rattle.just_recipe.specs.declared.recipe.Recipe.{Recipe}
use Rattle.just_ast_definitions.specs.declared.assignment.Assignment.{Assignment}
use Rattle.just_module_contents.specs.Said.{said}
use Rattle.just_module_headers.specs.Analyzable.{assignment_numbers}
use Rattle.just_module_contents.specs.Named.{variable_by}
use Rattle.just_module_contents.specs.Recipes.{recipes_of}
use Rattle.just_module_contents.specs.Resolved.{HasPriors, unresolved_numbers}

from_if : (b : Bool) (q r : Recipe UnresolvedDependency) (rs : List (Recipe UnresolvedDependency)) → In r (if b then q ∷ rs else rs) → (r ≡ q) ⊎ In r rs
from_if true q r rs h = h
from_if false q r rs h = inr h

-- a recipe of items is one of them
recipe_item : (enabled : Item → Bool) (r : Recipe UnresolvedDependency) (is : List Item) → In r (recipes_of enabled is) → In (item.Recipe r) is
recipe_item enabled r [] h = absurd h
recipe_item enabled r (item.Recipe q ∷ is) h = elim (from_if (enabled (bare_item (item.Recipe q))) q r (recipes_of enabled is) h) [ inl e ↦ inl (ap item.Recipe e) | inr i ↦ inr (recipe_item enabled r is i) ]
recipe_item enabled r (_ ∷ is) h = inr (recipe_item enabled r is h)

-- its number is one of theirs
pub recipe_number_in : (enabled : Item → Bool) (x : ℕ) (is : List Item) → In x (unresolved_numbers (recipes_of enabled is)) → In x (numbers_of_items is)
recipe_number_in enabled x is h =
    let r = from_map (λ (r : Recipe UnresolvedDependency). r.number.0) x (recipes_of enabled is) h in
    subst (λ n. In n (numbers_of_items is)) (sym r.2) (in_flat item_numbers r.0.number.0 (item.Recipe r.0) is (recipe_item enabled r.0 is r.1) (inl refl))

-- rising numbers are at least the first bound
rising_from : (low : ℕ) (ns : List ℕ) (high x : ℕ) → AreRising low ns high → In x ns → low ≤ x
rising_from low [] high x r h = absurd h
rising_from low (n ∷ ns) high x r (inl e) = omega (arith, r.0, e)
rising_from low (n ∷ ns) high x r (inr h) = let l : n + 1 ≤ x = rising_from (n + 1) ns high x r.1 h in omega (arith, r.0, l)

-- those after some of them rise from there
rising_after : (low : ℕ) (ns ms : List ℕ) (high : ℕ) → AreRising low (ns ++ ms) high → (mid : ℕ) × (low ≤ mid) × AreRising mid ms high
rising_after low [] ms high r = (low, omega arith, r)
rising_after low (n ∷ ns) ms high r = let m = rising_after (n + 1) ns ms high r.1 in (m.0, omega (arith, r.0, m.1), m.2)

once_if : (b : Bool) (r : Recipe UnresolvedDependency) (rs : List (Recipe UnresolvedDependency)) → (In r.number.0 (unresolved_numbers rs) → ⊥) → Once (unresolved_numbers rs) → Once (unresolved_numbers (if b then r ∷ rs else rs))
once_if true r rs fresh once = (fresh, once)
once_if false r rs fresh once = once

-- recipes of rising items have no number twice
pub once_recipes : (enabled : Item → Bool) (low : ℕ) (is : List Item) (high : ℕ) → AreRising low (numbers_of_items is) high → Once (unresolved_numbers (recipes_of enabled is))
once_recipes enabled low [] high r = tt
once_recipes enabled low (item.Recipe q ∷ is) high r =
    let after = rising_after (q.number.0 + 1) (parameter_numbers q.parameters) (numbers_of_items is) high r.1 in
    once_if (enabled (bare_item (item.Recipe q))) q (recipes_of enabled is)
    (λ h. let l : after.0 ≤ q.number.0 = rising_from after.0 (numbers_of_items is) high q.number.0 after.2 (recipe_number_in enabled q.number.0 is h) in absurd (omega (arith, l, after.1)))
    (once_recipes enabled after.0 is high after.2)
once_recipes enabled low (item.Assignment a ∷ is) high r = once_recipes enabled (a.number.0 + 1) is high r.1
once_recipes enabled low (item.Function f ∷ is) high r =
    let after = rising_after low (function_numbers f) (numbers_of_items is) high r in once_recipes enabled after.0 is high after.2
once_recipes enabled low (_ ∷ is) high r = once_recipes enabled low is high r

-- recipes have no more priors than dependencies, where items have
pub recipe_priors : (enabled : Item → Bool) (is : List Item) → All PriorsAreDependencies is → All HasPriors (recipes_of enabled is)
recipe_priors enabled is all = all_in HasPriors (recipes_of enabled is) (λ r h. All-contains PriorsAreDependencies is (item.Recipe r) all (contained (item.Recipe r) is (recipe_item enabled r is h)))

variable_if : (b : Bool) (i : Item) (a : Assignment) → In a (if b then variable_by i else []) → i ≡ item.Assignment a
variable_if true (item.Assignment v) a (inl e) = ap item.Assignment (sym e)
variable_if true (item.Assignment v) a (inr h) = absurd h
variable_if true _ a h = absurd h
variable_if false i a h = absurd h

-- the number of a variable of items is one of theirs
pub variable_number_in : (enabled : Item → Bool) (x : ℕ) (is : List Item) → In x (assignment_numbers (said variable_by enabled is)) → In x (numbers_of_items is)
variable_number_in enabled x is h =
    let a = from_map (λ (a : Assignment). a.number.0) x (said variable_by enabled is) h in
    let i = from_flat (λ (i : Item). if enabled (bare_item i) then variable_by i else []) a.0 is a.1 in
    let e = variable_if (enabled (bare_item i.0)) i.0 a.0 i.2 in
    subst (λ n. In n (numbers_of_items is)) (sym a.2) (in_flat item_numbers a.0.number.0 (item.Assignment a.0) is (subst (λ (j : Item). In j is) e i.1) (inl refl))

once_variable : (b : Bool) (a : Assignment) (vs : List Assignment) → (In a.number.0 (assignment_numbers vs) → ⊥) → Once (assignment_numbers vs) → Once (assignment_numbers ((if b then a ∷ [] else []) ++ vs))
once_variable true a vs fresh once = (fresh, once)
once_variable false a vs fresh once = once

no_variable : (b : Bool) (i : Item) (vs : List Assignment) → variable_by i ≡ [] → Once (assignment_numbers vs) → Once (assignment_numbers ((if b then variable_by i else []) ++ vs))
no_variable true i vs none once = subst (λ xs. Once (assignment_numbers (xs ++ vs))) (sym none) once
no_variable false i vs none once = once

-- variables of rising items have no number twice
pub once_variables : (enabled : Item → Bool) (low : ℕ) (is : List Item) (high : ℕ) → AreRising low (numbers_of_items is) high → Once (assignment_numbers (said variable_by enabled is))
once_variables enabled low [] high r = tt
once_variables enabled low (item.Assignment a ∷ is) high r =
    once_variable (enabled (bare_item (item.Assignment a))) a (said variable_by enabled is)
    (λ h. let l : a.number.0 + 1 ≤ a.number.0 = rising_from (a.number.0 + 1) (numbers_of_items is) high a.number.0 r.1 (variable_number_in enabled a.number.0 is h) in absurd (omega (arith, l)))
    (once_variables enabled (a.number.0 + 1) is high r.1)
once_variables enabled low (item.Recipe q ∷ is) high r =
    let after = rising_after (q.number.0 + 1) (parameter_numbers q.parameters) (numbers_of_items is) high r.1 in
    no_variable (enabled (bare_item (item.Recipe q))) (item.Recipe q) (said variable_by enabled is) refl (once_variables enabled after.0 is high after.2)
once_variables enabled low (item.Function f ∷ is) high r =
    let after = rising_after low (function_numbers f) (numbers_of_items is) high r in no_variable (enabled (bare_item (item.Function f))) (item.Function f) (said variable_by enabled is) refl (once_variables enabled after.0 is high after.2)
once_variables enabled low (i ∷ is) high r = no_variable (enabled (bare_item i)) i (said variable_by enabled is) refl (once_variables enabled low is high r)
