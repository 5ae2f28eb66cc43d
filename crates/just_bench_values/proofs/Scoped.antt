-- A table of constants as a scope.
use Rattle.std.proofs.Common.{◌≡◌, refl, sym, ◌∙◌, ap, subst, ℕ, zero, suc, ◌<◌, arith, Bool, true, false, cond, List, [], ◌∷◌, length, get_or, map, Option, Some}
use Rattle.std.specs.Prelude.{if◌then◌else◌}
use Rattle.std.specs.Cmp.Lexicographic.{nat_list_eq_equiv}
use Rattle.std.specs.List.{Contains, slice_get}
use Rattle.std.specs.Map.{keys_of, values_of}
use Rattle.std.specs.Option.{option_map}
use Rattle.std.specs.Str.{bytes_eq}
use Rattle.std.proofs.lemmas.List.Elements.{All-head, All-tail}
use Rattle.just_names.specs.Index.{AreDifferent}
use Rattle.just_names.specs.Texts.{Text}
use Rattle.just_names.specs.Name.{text_of_name}
use Rattle.just_parts.specs.Evaluator.{value_in}
use Rattle.just_ast_expressions.specs.declared.scope.Binding.{Binding}
use Rattle.just_table.specs.Entries.{IsKeyed, IsSorted, find}
use Rattle.just_bench_values.specs.Lookup.{constant_name, table_values}
use Rattle.just_bench_values.specs.declared.lookup.Constant.{Constant}
use Rattle.just_name_resolution.proofs.Placed.{different, entry_at}

abbrev pub bindings_of : List (Text × Constant) → List Binding
bindings_of es = map (λ (c : Constant). c.binding) (values_of es)

abbrev pub binding_names : List Binding → List Text
binding_names = map (λ (b : Binding). text_of_name b.name)

abbrev IsNamed : (Text × Constant) → Type 0
IsNamed e = constant_name e.1 ≡ e.0

first_same : (b d : Bool) (c : Constant) (o : Option (List Text)) (p : Option Constant) → b ≡ d → o ≡ option_map (λ (x : Constant). x.binding.value) p →
    (if b then Some c.binding.value else o) ≡ option_map (λ (x : Constant). x.binding.value) (cond d (Some c) p)
first_same true true c o p is rest = refl
first_same false false c o p is rest = rest
first_same true false c o p is rest = cc
first_same false true c o p is rest = cc

-- the scope has the values of the table
pub values_of_scope : (es : List (Text × Constant)) → IsKeyed constant_name es → (name : Text) → value_in (bindings_of es) name ≡ table_values es name
values_of_scope [] keyed name = refl
values_of_scope (e ∷ es) keyed name =
    first_same (bytes_eq (constant_name e.1) name) (bytes_eq name e.0) e.1 _ (find name es)
    (ap (λ t. bytes_eq t name) (All-head IsNamed e es keyed) ∙ nat_list_eq_equiv.symm e.0 name)
    (values_of_scope es (All-tail IsNamed e es keyed) name)

names_are : (es : List (Text × Constant)) → IsKeyed constant_name es → binding_names (bindings_of es) ≡ keys_of es
names_are [] keyed = refl
names_are (e ∷ es) keyed = λ i. All-head IsNamed e es keyed i ∷ names_are es (All-tail IsNamed e es keyed) i

-- each name once
pub scope_once : (es : List (Text × Constant)) → IsKeyed constant_name es → IsSorted es → AreDifferent (binding_names (bindings_of es))
scope_once es keyed sorted = subst AreDifferent (sym (names_are es keyed)) (different es sorted)

-- a binding is that of a constant
entry_of : (es : List (Text × Constant)) → IsKeyed constant_name es → (k : ℕ) (b : Binding) → k < length (bindings_of es) → get_or (bindings_of es) k b ≡ b →
    (c : Constant) × (slice_get es k ≡ Some (text_of_name b.name, c)) × (c.binding ≡ b)
entry_of [] keyed k b inside is = absurd (omega arith)
entry_of (e ∷ es) keyed zero b inside is =
    (e.1, ap (λ t. Some (t, e.1)) (sym (All-head IsNamed e es keyed) ∙ ap (λ (x : Binding). text_of_name x.name) is), is)
entry_of (e ∷ es) keyed (suc k) b inside is = entry_of es (All-tail IsNamed e es keyed) k b (omega arith) is

pub scope_each : (es : List (Text × Constant)) → IsKeyed constant_name es → IsSorted es → (b : Binding) → Contains (bindings_of es) b →
    (c : Constant) × (find (text_of_name b.name) es ≡ Some c) × (c.binding ≡ b)
scope_each es keyed sorted b there =
    let entry = entry_of es keyed there.0 b there.1 there.2 in
    (entry.0, entry_at es (different es sorted) there.0 (text_of_name b.name) entry.0 entry.1, entry.2)
