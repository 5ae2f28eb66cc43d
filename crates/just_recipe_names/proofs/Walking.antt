-- What a walk over a recipe comes to, and the scopes that it makes.
use Rattle.std.proofs.Common.{◌≡◌, ◌∙◌, ap, sym, refl, subst, ℕ, suc, ◌+◌, ◌<◌, Bool, true, false, ◌||◌, List, [], ◌∷◌, ◌++◌, add-one, drop, drop-cons, get_or, length, map}
use Rattle.std.specs.List.{Contains, flat_map, list_any}
use Rattle.std.specs.Str.{bytes_eq}
use Rattle.std.proofs.lemmas.List.{append_assoc, append-nil, map-append}
use Rattle.std.proofs.lemmas.List.Elements.{Contains-append_left, Contains-push}
use Rattle.just_names.specs.Name.{text_of_name}
use Rattle.just_names.specs.Texts.{Text}
use Rattle.just_ast_definitions.specs.declared.parameter.Parameter.{Parameter}
use Rattle.just_ast_expressions.specs.declared.expression.Expression.{Expression}
use Rattle.just_parts.specs.Known.{none_hidden}
use Rattle.just_parts.specs.Scopes.{Scoped, is_parameter, parameter_expressions, parameter_scopes, scoped}
use Rattle.just_recipe_names.specs.Steps.{Event, Hides, Reads, scopes_from}
use Rattle.just_recipe_names.specs.loops.Steps.{parameter_events, readings}

-- what each element of a list gives is read, element after element
pub one_read : {A : Type 0} (given : A → List Expression) (all : List Event) (xs : List A) (i : ℕ) (x : A) (old new : List Event)
    → all ≡ old ++ readings (flat_map given (drop i xs)) → i < length xs → x ≡ get_or xs i x → new ≡ old ++ readings (given x)
    → all ≡ new ++ readings (flat_map given (drop (i + 1) xs))
one_read given all xs i x old new so inside is more =
    let rest = flat_map given (drop (i + 1) xs) in
    so
    ∙ ap (λ ys. old ++ readings (flat_map given ys)) (drop-cons xs i x inside ∙ (λ k. sym is k ∷ drop (sym (add-one i) k) xs))
    ∙ ap (λ es. old ++ es) (map-append Reads (given x) rest)
    ∙ sym (append_assoc old (readings (given x)) (readings rest))
    ∙ ap (λ es. es ++ readings rest) (sym more)

-- expressions that are read, one after another, are under the same parameters
pub scopes_readings : (before : List Parameter) (es : List Expression) (rest : List Event)
    → scopes_from before (readings es ++ rest) ≡ map (scoped (is_parameter before)) es ++ scopes_from before rest
scopes_readings before [] rest = refl
scopes_readings before (e ∷ es) rest = ap (λ s. scoped (is_parameter before) e ∷ s) (scopes_readings before es rest)

-- the defaults and values of parameters are each under the parameters before
pub scopes_parameters : (before ps : List Parameter) (rest : List Event)
    → scopes_from before (parameter_events parameter_expressions ps ++ rest) ≡ parameter_scopes before ps ++ scopes_from (before ++ ps) rest
scopes_parameters before [] rest = ap (λ b. scopes_from b rest) (sym (append-nil before))
scopes_parameters before (p ∷ ps) rest =
    let own = map (scoped (is_parameter before)) (parameter_expressions p) in
    let onward = before ++ p ∷ [] in
    ap (scopes_from before) (append_assoc (readings (parameter_expressions p)) (Hides p ∷ parameter_events parameter_expressions ps) rest)
    ∙ scopes_readings before (parameter_expressions p) (Hides p ∷ (parameter_events parameter_expressions ps ++ rest))
    ∙ ap (λ s. own ++ s) (scopes_parameters onward ps rest)
    ∙ sym (append_assoc own (parameter_scopes onward ps) (scopes_from (onward ++ ps) rest))
    ∙ ap (λ b. (own ++ parameter_scopes onward ps) ++ scopes_from b rest) (append_assoc before (p ∷ []) ps)

-- what the walk comes to from first to last
module _ (outer around : List Expression) (ps : List Parameter) (attributes lines arguments : List Expression) where
  abbrev inner : List Expression
  inner = attributes ++ (lines ++ arguments)

  all_readings : (readings attributes ++ readings lines) ++ readings arguments ≡ readings inner
  all_readings =
      append_assoc (readings attributes) (readings lines) (readings arguments)
      ∙ ap (λ es. readings attributes ++ es) (sym (map-append Reads lines arguments))
      ∙ sym (map-append Reads attributes (lines ++ arguments))

  abbrev whole_walk : List Event
  whole_walk = readings (outer ++ around) ++ (parameter_events parameter_expressions ps ++ readings inner)

  whole_scopes : scopes_from [] whole_walk ≡ map (scoped none_hidden) (outer ++ around) ++ (parameter_scopes [] ps ++ map (scoped (is_parameter ps)) inner)
  whole_scopes =
      let out = map (scoped none_hidden) (outer ++ around) in
      let within = map (scoped (is_parameter ps)) inner in
      scopes_readings [] (outer ++ around) (parameter_events parameter_expressions ps ++ readings inner)
      ∙ ap (λ s. out ++ s) (scopes_parameters [] ps (readings inner))
      ∙ ap (λ es. out ++ (parameter_scopes [] ps ++ scopes_from ps es)) (sym (append-nil (readings inner)))
      ∙ ap (λ s. out ++ (parameter_scopes [] ps ++ s)) (scopes_readings ps inner [])
      ∙ ap (λ s. out ++ (parameter_scopes [] ps ++ s)) (append-nil within)

  pub walked : (all e1 e2 e3 e4 e5 : List Event) → e1 ≡ readings outer → e2 ≡ e1 ++ readings around → e3 ≡ e2 ++ parameter_events parameter_expressions ps
      → e4 ≡ e3 ++ readings attributes → e5 ≡ e4 ++ readings lines → all ≡ e5 ++ readings arguments
      → scopes_from [] all ≡ map (scoped none_hidden) (outer ++ around) ++ (parameter_scopes [] ps ++ map (scoped (is_parameter ps)) inner)
  walked all e1 e2 e3 e4 e5 i1 i2 i3 i4 i5 i6 =
      let middle = parameter_events parameter_expressions ps in
      let together : all ≡ whole_walk =
      i6
      ∙ ap (λ l. l ++ readings arguments) (i5 ∙ ap (λ l. l ++ readings lines) i4 ∙ append_assoc e3 (readings attributes) (readings lines))
      ∙ append_assoc e3 (readings attributes ++ readings lines) (readings arguments)
      ∙ ap (λ l. l ++ ((readings attributes ++ readings lines) ++ readings arguments)) i3
      ∙ append_assoc e2 middle ((readings attributes ++ readings lines) ++ readings arguments)
      ∙ (λ i. (i2 ∙ ap (λ l. l ++ readings around) i1 ∙ sym (map-append Reads outer around)) i ++ (middle ++ all_readings i)) in
      ap (scopes_from []) together ∙ whole_scopes

or_turned : (a b c : Bool) → (a || (b || c)) ≡ (b || (a || c))
or_turned true true c = refl
or_turned true false c = refl
or_turned false b c = refl

-- one more parameter hides its name
pub hides_more : (ps : List Parameter) (p : Parameter) (name : Text) → is_parameter (ps ++ p ∷ []) name ≡ (bytes_eq (text_of_name p.name) name || is_parameter ps name)
hides_more [] p name = refl
hides_more (q ∷ ps) p name =
    ap (λ r. bytes_eq (text_of_name q.name) name || r) (hides_more ps p name)
    ∙ or_turned (bytes_eq (text_of_name q.name) name) (bytes_eq (text_of_name p.name) name) (is_parameter ps name)

-- Where a walk stands: the scopes before it, and the parameters that hide names in what is left.
pub record Stands (all : List Scoped) (hidden : Text → Bool) (left : List Event) : Type 0 where
  pub before : List Parameter
  pub done : List Scoped
  pub hides : hidden ≡ is_parameter before
  pub whole : done ++ scopes_from before left ≡ all

module _ {all : List Scoped} {hidden : Text → Bool} {left : List Event} where
  -- an expression comes next
  abbrev pub next_read : (e : Expression) (rest : List Event) → left ≡ Reads e ∷ rest → Stands all hidden left → Stands all hidden rest
  next_read e rest is s = record {
    before = s.before;
    done = s.done ++ scoped hidden e ∷ [];
    hides = s.hides;
    whole =
        append_assoc s.done (scoped hidden e ∷ []) (scopes_from s.before rest)
        ∙ (λ i. s.done ++ (scoped (s.hides i) e ∷ scopes_from s.before rest))
        ∙ ap (λ l. s.done ++ scopes_from s.before l) (sym is)
        ∙ s.whole;
  }

  -- a parameter comes next
  abbrev pub next_hidden : (p : Parameter) (rest : List Event) (more : Text → Bool) → left ≡ Hides p ∷ rest
      → ((name : Text) → more name ≡ (bytes_eq (text_of_name p.name) name || hidden name)) → Stands all hidden left → Stands all more rest
  next_hidden p rest more is hides s = record {
    before = s.before ++ p ∷ [];
    done = s.done;
    hides = λ i name. (hides name ∙ ap (λ h. bytes_eq (text_of_name p.name) name || h name) s.hides ∙ sym (hides_more s.before p name)) i;
    whole = ap (λ l. s.done ++ scopes_from s.before l) (sym is) ∙ s.whole;
  }

  -- what is read next is among the scopes
  pub next_there : (e : Expression) (rest : List Event) → left ≡ Reads e ∷ rest → Stands all hidden left → Contains all (scoped hidden e)
  next_there e rest is s =
      let next = scoped hidden e in
      let other = next_read e rest is s in
      subst (λ (l : List Scoped). Contains l next) other.whole
      (Contains-append_left (s.done ++ next ∷ []) (scopes_from s.before rest) next (Contains-push s.done next))

  -- nothing is left: all scopes are done
  pub all_done : (s : Stands all hidden left) → left ≡ [] → s.done ≡ all
  all_done s is = sym (append-nil s.done) ∙ ap (λ l. s.done ++ scopes_from s.before l) (sym is) ∙ s.whole

-- a set of no names hides none
pub nothing_hides : (names : List Text) → names ≡ [] → (λ (name : Text). list_any (bytes_eq name) names) ≡ none_hidden
nothing_hides names empty = λ i name. list_any (bytes_eq name) (empty i)
