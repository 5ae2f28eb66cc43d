-- What a walk over a recipe notes, and what the recipe reads by it.
use Rattle.std.proofs.Common.{◌≡◌, ◌∙◌, ap, sym, refl, subst, inl, inr, ℕ, Bool, true, false, not, List, [], ◌∷◌, ◌++◌, if◌then◌else◌}
use Rattle.std.specs.Prelude.{◌&&◌, ◌||◌, flat_map, is_some, IsSome}
use Rattle.std.specs.List.{Contains, list_any}
use Rattle.std.specs.Str.{bytes_eq}
use Rattle.std.proofs.lemmas.Bool.{false≢true}
use Rattle.std.proofs.lemmas.Grind.{flat_map-append}
use Rattle.std.proofs.lemmas.List.{append_assoc, append-nil}
use Rattle.std.proofs.lemmas.List.Elements.{Contains-append_cases, Contains-append_left, Contains-append_right, Contains-push}
use Rattle.just_ast_definitions.specs.declared.parameter.Parameter.{Parameter}
use Rattle.just_ast_expressions.specs.declared.expression.Expression.{Expression}
use Rattle.just_ast_references.specs.Mentions.{Calls, Mention, Names}
use Rattle.just_name_resolution.proofs.Looking.{not_in_none}
use Rattle.just_name_resolution.proofs.Starts.{number_more}
use Rattle.just_names.specs.Name.{text_of_name}
use Rattle.just_names.specs.Texts.{Text}
use Rattle.just_names.specs.declared.number.Number.{Number}
use Rattle.just_parts.specs.Known.{Known, none_hidden}
use Rattle.just_parts.specs.Needs.{overridden_by}
use Rattle.just_parts.specs.Reading.{Reads, at_once, mentions, through}
use Rattle.just_parts.specs.Scopes.{Scoped, is_parameter, scoped}
use Rattle.just_recipe_names.specs.Steps.{Event, Hides, Reads as Read, scopes_from}
use Rattle.just_recipe_needs.proofs.Noting.{the_one}
use Rattle.just_recipe_needs.specs.Collected.{IsStart}
use Rattle.just_recipe_needs.specs.loops.Direct.{AreDirect, AreNames, GainsNames, Notes, function_of, functions_in, functions_of, mentioned_variable, variables_in, variables_of}
use Rattle.just_recipe_needs.specs.Needed.{AreNumbersOf, HasReferences, IsReadInScopes}
use Rattle.just_recipe_needs.specs.declared.direct_names.DirectNames.{DirectNames}
use Rattle.just_table.specs.Entries.{find}

or_turned : (a b c : Bool) → (a || (b || c)) ≡ (b || (a || c))
or_turned true true c = refl
or_turned true false c = refl
or_turned false b c = refl

-- one more parameter hides its name
hides_more : (ps : List Parameter) (p : Parameter) (name : Text) → is_parameter (ps ++ p ∷ []) name ≡ (bytes_eq (text_of_name p.name) name || is_parameter ps name)
hides_more [] p name = refl
hides_more (q ∷ ps) p name =
    ap (λ r. bytes_eq (text_of_name q.name) name || r) (hides_more ps p name)
    ∙ or_turned (bytes_eq (text_of_name q.name) name) (bytes_eq (text_of_name p.name) name) (is_parameter ps name)

-- names that gain others
named_more : (listed more old new : List Text) → AreNames listed old → GainsNames more old new → AreNames (listed ++ more) new
named_more listed more old new are gains name = (
  λ c. elim ((gains name).0 c) [
    | inl was ↦ Contains-append_left listed more name ((are name).0 was)
    | inr x ↦ Contains-append_right listed more name x
  ],
  λ c. elim (Contains-append_cases listed more name c) [
    | inl x ↦ (gains name).1 (inl ((are name).1 x))
    | inr x ↦ (gains name).1 (inr x)
  ],
)

module _ (m : Known) where
  abbrev own_variables : Scoped → List Text
  own_variables s = variables_of m s.hidden (mentions s.expression)

  abbrev own_functions : Scoped → List Text
  own_functions s = functions_of m (mentions s.expression)

  direct_more : (done : List Scoped) (s : Scoped) (old new : DirectNames) → AreDirect m done old → Notes m s.hidden (mentions s.expression) old new → AreDirect m (done ++ s ∷ []) new
  direct_more done s old new are notes = record {
    variables = subst (λ names. AreNames names new.variables.keys)
        (ap (λ names. variables_in m done ++ names) (sym (append-nil (own_variables s))) ∙ sym (flat_map-append own_variables done (s ∷ [])))
        (named_more (variables_in m done) (own_variables s) old.variables.keys new.variables.keys are.variables notes.variables);
    functions = subst (λ names. AreNames names new.functions.keys)
        (ap (λ names. functions_in m done ++ names) (sym (append-nil (own_functions s))) ∙ sym (flat_map-append own_functions done (s ∷ [])))
        (named_more (functions_in m done) (own_functions s) old.functions.keys new.functions.keys are.functions notes.functions);
  }

  -- How far a walk has come: the scopes before it, whose names are noted, and the parameters that hide names in what is left.
  pub record NamedSoFar (all : List Scoped) (hidden : Text → Bool) (left : List Event) (names : DirectNames) : Type 0 where
    pub before : List Parameter
    pub done : List Scoped
    pub hides : hidden ≡ is_parameter before
    pub whole : done ++ scopes_from before left ≡ all
    pub direct : AreDirect m done names

  pub walk_begins : (all : List Scoped) (hidden : Text → Bool) (left : List Event) (names : DirectNames) → hidden ≡ none_hidden → scopes_from [] left ≡ all → names.variables.keys ≡ []
      → names.functions.keys ≡ [] → NamedSoFar all hidden left names
  walk_begins all hidden left names none is variables functions = record {
    before = [];
    done = [];
    hides = none;
    whole = is;
    direct = record {
      variables = λ name. (λ c. subst (λ ks. Contains ks name) variables c, λ c. absurd (not_in_none name c));
      functions = λ name. (λ c. subst (λ ks. Contains ks name) functions c, λ c. absurd (not_in_none name c));
    };
  }

  module _ (all : List Scoped) (hidden : Text → Bool) (left rest : List Event) (names : DirectNames) (so : NamedSoFar all hidden left names) where
    pub walk_reads : (e : Expression) (new : DirectNames) → left ≡ Read e ∷ rest → Notes m hidden (mentions e) names new → NamedSoFar all hidden rest new
    walk_reads e new is notes = record {
      before = so.before;
      done = so.done ++ scoped hidden e ∷ [];
      hides = so.hides;
      whole =
          append_assoc so.done (scoped hidden e ∷ []) (scopes_from so.before rest)
          ∙ (λ i. so.done ++ (scoped (so.hides i) e ∷ scopes_from so.before rest))
          ∙ ap (λ l. so.done ++ scopes_from so.before l) (sym is)
          ∙ so.whole;
      direct = direct_more so.done (scoped hidden e) names new so.direct notes;
    }

    pub walk_hides : (p : Parameter) (more : Text → Bool) → left ≡ Hides p ∷ rest → ((name : Text) → more name ≡ (bytes_eq (text_of_name p.name) name || hidden name))
        → NamedSoFar all more rest names
    walk_hides p more is hides = record {
      before = so.before ++ p ∷ [];
      done = so.done;
      hides = λ i name. (hides name ∙ ap (λ h. bytes_eq (text_of_name p.name) name || h name) so.hides ∙ sym (hides_more so.before p name)) i;
      whole = ap (λ l. so.done ++ scopes_from so.before l) (sym is) ∙ so.whole;
      direct = so.direct;
    }

  pub walk_ends : (all : List Scoped) (hidden : Text → Bool) (left : List Event) (names : DirectNames) → left ≡ [] → NamedSoFar all hidden left names → AreDirect m all names
  walk_ends all hidden left names is so =
      subst (λ (l : List Scoped). AreDirect m l names) (sym (append-nil so.done) ∙ ap (λ l. so.done ++ scopes_from so.before l) (sym is) ∙ so.whole) so.direct

-- a set of no names hides none
pub nothing_hides : (names : List Text) → names ≡ [] → (λ (name : Text). list_any (bytes_eq name) names) ≡ none_hidden
nothing_hides names empty = λ i name. list_any (bytes_eq name) (empty i)

-- what elements of a list give
module _ {A : Type 0} (f : A → List Text) where
  given : (xs : List A) (x : A) (name : Text) → Contains xs x → Contains (f x) name → Contains (flat_map f xs) name
  given [] x name there c = absurd (not_in_none x there)
  given (y ∷ ys) x name there c = elim (Contains-append_cases (y ∷ []) ys x there) [
    | inl it ↦ Contains-append_left (f y) (flat_map f ys) name (subst (λ z. Contains (f z) name) (sym (the_one y x it)) c)
    | inr on ↦ Contains-append_right (f y) (flat_map f ys) name (given ys x name on c)
  ]

  giver : (xs : List A) (name : Text) → Contains (flat_map f xs) name → (x : A) × Contains xs x × Contains (f x) name
  giver [] name c = absurd (not_in_none name c)
  giver (y ∷ ys) name c = elim (Contains-append_cases (f y) (flat_map f ys) name c) [
    | inl own ↦ (y, Contains-append_left (y ∷ []) ys y (Contains-push [] y), own)
    | inr on ↦ let x = giver ys name on in (x.0, Contains-append_right (y ∷ []) ys x.0 x.1, x.2)
  ]

chosen : (b : Bool) (x name : Text) → Contains (if b then x ∷ [] else []) name → (b ≡ true) × (x ≡ name)
chosen true x name c = (refl, the_one x name c)
chosen false x name c = absurd (not_in_none name c)

both_true : (a b : Bool) → (a && not b) ≡ true → (a ≡ true) × (b ≡ false)
both_true true true e = absurd (false≢true e)
both_true true false e = (refl, refl)
both_true false b e = absurd (false≢true e)

module _ (m : Known) where
  -- what a mention names
  named_by : (hidden : Text → Bool) (mention : Mention) (name : Text) → Contains (mentioned_variable m hidden mention) name → (mention ≡ Names name) × (hidden name ≡ false) × IsSome (find name m.assignments)
  named_by hidden (Calls x arguments) name c = absurd (not_in_none name c)
  named_by hidden (Names x) name c =
      let is = chosen (is_some (find x m.assignments) && not (hidden x)) x name c in
      let both = both_true (is_some (find x m.assignments)) (hidden x) is.0 in
      (ap Names is.1, subst (λ y. hidden y ≡ false) is.1 both.1, subst (λ y. is_some (find y m.assignments) ≡ true) is.1 both.0)

  called_by : (mention : Mention) (name : Text) → Contains (function_of m mention) name → (arguments : ℕ) × (mention ≡ Calls name arguments)
  called_by (Calls x arguments) name c = (arguments, ap (λ y. Calls y arguments) (chosen (is_some (find x m.functions)) x name c).1)
  called_by (Names x) name c = absurd (not_in_none name c)

  name_said : (hidden : Text → Bool) (name : Text) → hidden name ≡ false → IsSome (find name m.assignments) → Contains (mentioned_variable m hidden (Names name)) name
  name_said hidden name shown is =
      subst (λ b. Contains (if b then name ∷ [] else []) name) (sym (ap (λ b. b && not (hidden name)) is ∙ ap not shown)) (Contains-push [] name)

  call_said : (name : Text) (arguments : ℕ) → IsSome (find name m.functions) → Contains (function_of m (Calls name arguments)) name
  call_said name arguments is = subst (λ b. Contains (if b then name ∷ [] else []) name) (sym is) (Contains-push [] name)

  module _ (scopes : List Scoped) (names : DirectNames) (direct : AreDirect m scopes names) where
    from_reading : (s : Scoped) → Contains scopes s → {hidden : Text → Bool} {e : Expression} → s.hidden ≡ hidden → s.expression ≡ e → (name : Text) → Reads m hidden e name
        → IsStart m names.variables.keys names.functions.keys name
    from_reading s there h x name (at_once among shown is) =
        let said = subst (λ e. Contains (mentions e) (Names name)) (sym x) among in
        let own = given (mentioned_variable m s.hidden) (mentions s.expression) (Names name) name said (name_said s.hidden name (ap (λ hides. hides name) h ∙ shown) is) in
        inl (record { from = name; there = (direct.variables name).1 (given (own_variables m) scopes s name there own); leads_there = refl })
    from_reading s there h x name (through {function = function} {f = f} arguments among is r) =
        let said = subst (λ e. Contains (mentions e) (Calls function arguments)) (sym x) among in
        let own = given (function_of m) (mentions s.expression) (Calls function arguments) function said (call_said function arguments (ap is_some is)) in
        inr (record { from = function; there = (direct.functions function).1 (given (own_functions m) scopes s function there own); leads_there = record { definition = f; is = is; reads = r } })

    to_start : (name : Text) → IsReadInScopes m scopes name → IsStart m names.variables.keys names.functions.keys name
    to_start name r = from_reading r.from r.there refl refl name r.reads

    from_start : (name : Text) → IsStart m names.variables.keys names.functions.keys name → IsReadInScopes m scopes name
    from_start name (inl v) =
        let s = giver (own_variables m) scopes v.from ((direct.variables v.from).0 v.there) in
        let said = giver (mentioned_variable m s.0.hidden) (mentions s.0.expression) v.from s.2 in
        let by = named_by s.0.hidden said.0 v.from said.2 in
        subst (IsReadInScopes m scopes) (sym v.leads_there)
        (record { from = s.0; there = s.1; reads = at_once (subst (Contains (mentions s.0.expression)) by.0 said.1) by.1 by.2 })
    from_start name (inr f) =
        let s = giver (own_functions m) scopes f.from ((direct.functions f.from).0 f.there) in
        let said = giver (function_of m) (mentions s.0.expression) f.from s.2 in
        let by = called_by said.0 f.from said.2 in
        record { from = s.0; there = s.1; reads = through by.0 (subst (Contains (mentions s.0.expression)) by.1 said.1) f.leads_there.is f.leads_there.reads }

    -- numbers that are right for the names are right for the recipe
    pub right_for : (overridden : Number → Bool) (numbers : List Number) → AreNumbersOf m overridden (IsStart m names.variables.keys names.functions.keys) numbers → HasReferences m overridden scopes numbers
    right_for overridden numbers right = record {
      once = right.once;
      needed = λ apart n. (
        λ c. number_more m (overridden_by overridden m) (IsStart m names.variables.keys names.functions.keys) (IsReadInScopes m scopes) from_start n ((right.needed apart n).0 c),
        λ i. (right.needed apart n).1 (number_more m (overridden_by overridden m) (IsReadInScopes m scopes) (IsStart m names.variables.keys names.functions.keys) to_start n i),
      );
    }
