-- The modules in a module and its absent modules, as they are found by their names.
use Rattle.std.proofs.Common.{◌≡◌, ◌≢◌, ◌∙◌, Bool, true, false, cond, ◌||◌, List, [], ◌∷◌, map, Option, None, Some, refl, sym, ap, inl, inr}
use Rattle.std.specs.List.{list_any}
use Rattle.std.specs.Map.{values_of}
use Rattle.std.specs.Option.{option_or}
use Rattle.std.specs.Prelude.{is_some}
use Rattle.std.specs.Str.{bytes_eq}
use Rattle.std.proofs.lemmas.Bool.{cases_Bool, false_from_ne_true}
use Rattle.std.proofs.lemmas.List.Elements.{All-head, All-nil, All-tail}
use Rattle.std.proofs.lemmas.Slice.Eq.{bytes_eq-Decides}
use Rattle.just_graph.proofs.Members.{In, in_map}
use Rattle.just_justfile.specs.Module.{module_name}
use Rattle.just_justfile.specs.Walks.{module_named}
use Rattle.just_justfile.specs.declared.justfile.Justfile.{Justfile}
use Rattle.just_names.specs.Index.{AreDifferent}
use Rattle.just_names.specs.Texts.{Text}
use Rattle.just_table.specs.Entries.{IsKeyed, find, put, put_all}
use Rattle.just_table.proofs.Puts.{find_put}
use Rattle.just_compiled.specs.Labelled.{by_name, held_by_name}
use Rattle.just_compiled.proofs.ByName.{held_keyed}
use Rattle.just_compiled.proofs.Placing.{head_differs, tail_differs}

-- texts are compared either way
pub bytes_turned : (x y : Text) → bytes_eq x y ≡ bytes_eq y x
bytes_turned x y = elim (cases_Bool (bytes_eq x y)) [
  | inl t ↦ t ∙ sym ((bytes_eq-Decides y x).1 (sym ((bytes_eq-Decides x y).0 t)))
  | inr f ↦ f ∙ sym (false_from_ne_true (bytes_eq y x) (λ t. let g : bytes_eq x y ≡ true = (bytes_eq-Decides x y).1 (sym ((bytes_eq-Decides y x).0 t)) in let wrong : true ≡ false = sym g ∙ f in cc))
]

-- no module has the name
none_named : (name : Text) (js : List Justfile) → ((j : Justfile) → In j js → module_name j ≢ name) → module_named name js ≡ None
none_named name [] apart = refl
none_named name (k ∷ js) apart = elim (cases_Bool (bytes_eq (module_name k) name)) [
  | inl t ↦ absurd (apart k (inl refl) ((bytes_eq-Decides (module_name k) name).0 t))
  | inr f ↦ ap (λ b. cond b (Some k) (module_named name js)) f ∙ none_named name js (λ j i. apart j (inr i))
]

first_of : (b : Bool) (j : Justfile) (first later : Option Justfile) → (b ≡ true → first ≡ None) → option_or first (cond b (Some j) later) ≡ option_or (cond b (Some j) first) later
first_of true j first later none = ap (λ o. option_or o (Some j)) (none refl)
first_of false j first later none = refl

-- of modules with different names the one of a name is held under it
first_held : (name : Text) (js : List Justfile) (held : List (Text × Justfile)) → AreDifferent (map module_name js) → find name (held_by_name held js) ≡ option_or (module_named name js) (find name held)
first_held name [] held different = refl
first_held name (k ∷ js) held different =
    let same : bytes_eq name (module_name k) ≡ bytes_eq (module_name k) name = bytes_turned name (module_name k) in
    let alone : (bytes_eq (module_name k) name ≡ true → module_named name js ≡ None) = (λ t. none_named name js
    (λ j i e. head_differs (module_name k) (map module_name js) different (module_name j) (in_map module_name j js i) ((bytes_eq-Decides (module_name k) name).0 t ∙ sym e))) in
    first_held name js (put (module_name k) k held) (tail_differs (module_name k) (map module_name js) different)
    ∙ ap (option_or (module_named name js)) (find_put name (module_name k) k held ∙ ap (λ b. cond b (Some k) (find name held)) same)
    ∙ first_of (bytes_eq (module_name k) name) k (module_named name js) (find name held) alone

abbrev Fits : Text × Justfile → Type 0
Fits e = module_name e.1 ≡ e.0

named_values : (name : Text) (es : List (Text × Justfile)) → IsKeyed module_name es → module_named name (values_of es) ≡ find name es
named_values name [] keyed = refl
named_values name (e ∷ es) keyed =
    ap (λ b. cond b (Some e.1) (module_named name (values_of es))) (ap (λ k. bytes_eq k name) (All-head Fits e es keyed) ∙ bytes_turned e.0 name)
    ∙ ap (cond (bytes_eq name e.0) (Some e.1)) (named_values name es (All-tail Fits e es keyed))

or_none : (o : Option Justfile) → option_or o None ≡ o
or_none None = refl
or_none (Some j) = refl

-- so it is found in byte order of the names as it is in the order of the list
pub found_sorted : (name : Text) (js : List Justfile) → AreDifferent (map module_name js) → module_named name (by_name js) ≡ module_named name js
found_sorted name js different =
    named_values name (held_by_name [] js) (held_keyed [] js (All-nil Fits)) ∙ first_held name js [] different ∙ or_none (module_named name js)

either : (a b c : Bool) → (b || (a || c)) ≡ ((a || b) || c)
either true true c = refl
either true false c = refl
either false b c = refl

some_if : (b : Bool) (v : Text) (o : Option Text) → is_some (cond b (Some v) o) ≡ (b || is_some o)
some_if true v o = refl
some_if false v o = refl

absent_among : (name : Text) (es : List (Text × Text)) (names : List Text) → is_some (find name (put_all (λ t. t) es names)) ≡ (list_any (λ absent. bytes_eq absent name) names || is_some (find name es))
absent_among name es [] = refl
absent_among name es (x ∷ names) =
    absent_among name (put x x es) names
    ∙ ap (λ b. list_any (λ absent. bytes_eq absent name) names || b) (ap is_some (find_put name x x es) ∙ some_if (bytes_eq name x) x (find name es) ∙ ap (λ b. b || is_some (find name es)) (bytes_turned name x))
    ∙ either (bytes_eq x name) (list_any (λ absent. bytes_eq absent name) names) (is_some (find name es))

or_false : (b : Bool) → (b || false) ≡ b
or_false true = refl
or_false false = refl

-- a table of names has exactly these
pub absent_told : (name : Text) (names : List Text) → is_some (find name (put_all (λ t. t) [] names)) ≡ list_any (λ absent. bytes_eq absent name) names
absent_told name names = absent_among name [] names ∙ or_false (list_any (λ absent. bytes_eq absent name) names)
