-- The value of an expression depends on nothing but the values of what it reads.
use Rattle.std.proofs.Common.{◌≡◌, refl, sym, ◌∙◌, ap, subst, ℕ, zero, suc, arith, Bool, true, false, List, length, Option, None, Some}
use Rattle.std.specs.Prelude.{◌==◌, if◌then◌else◌}
use Rattle.std.specs.List.{Contains}
use Rattle.std.specs.Option.{is_some, option_or}
use Rattle.just_names.specs.Texts.{Text}
use Rattle.just_parts.specs.Evaluator.{Functions, Values, functions_by_name}
use Rattle.just_parts.specs.Known.{Known, hides, sources}
use Rattle.just_parts.specs.Reading.{Reads, at_once, mentions, through}
use Rattle.just_ast_definitions.specs.declared.assignment.Assignment.{Assignment}
use Rattle.just_ast_expressions.specs.declared.expression.Expression.{Expression}
use Rattle.just_ast_definitions.specs.declared.function_definition.FunctionDefinition.{FunctionDefinition}
use Rattle.just_ast_references.specs.Mentions.{Calls, Mention, Names}
use Rattle.just_table.specs.Entries.{find}
use Rattle.just_bench_values.specs.loops.Tasks.{call_with}
use Rattle.just_bench_values.specs.Values.{Outcome, bound, hiding, value_with}
use Rattle.just_bench_values.proofs.Alike.{Agree, agreed_value}
use Rattle.just_bench_values.proofs.Branches.{with_is}
use Rattle.just_bench_values.proofs.Called.{bound_hides, call_none, call_of}

same_length : (m n : ℕ) → (m == n) ≡ true → m ≡ n
same_length m n e = grind arith

if_same : (b : Bool) {x y : Outcome} → (b ≡ true → x ≡ y) → (if b then x else None) ≡ (if b then y else None)
if_same true same = same refl
if_same false same = refl

hidden_same : (o : Outcome) {x y : Outcome} → (is_some o ≡ false → x ≡ y) → option_or o x ≡ option_or o y
hidden_same None same = same refl
hidden_same (Some v) same = refl

module _ (assignments : List (Text × Assignment)) (table : List (Text × FunctionDefinition)) (first second : Values)
    (others : (name : Text) → find name assignments ≡ None → first name ≡ second name) where
  abbrev m : Known
  m = sources assignments table

  abbrev functions : Functions
  functions = functions_by_name table

  -- the values of what is read are the same
  abbrev pub SameRead : (Text → Bool) → Expression → Type 0
  SameRead hidden e = (name : Text) → Reads m hidden e name → first name ≡ second name

  -- values under parameters that hide these names
  abbrev Alike : ℕ → Type 0
  Alike calls = (e : Expression) (parameters : Values) (hidden : Text → Bool) → ((name : Text) → is_some (parameters name) ≡ hidden name) → SameRead hidden e →
      value_with calls functions first parameters e ≡ value_with calls functions second parameters e

  module _ (e : Expression) (hidden : Text → Bool) (same : SameRead hidden e) where
    name_found : (name : Text) → Contains (mentions e) (Names name) → hidden name ≡ false → (o : Option Assignment) → find name assignments ≡ o → first name ≡ second name
    name_found name there shown None is = others name is
    name_found name there shown (Some a) is = same name (at_once there shown (ap is_some is))

    name_same : (parameters : Values) → ((name : Text) → is_some (parameters name) ≡ hidden name) → (name : Text) → Contains (mentions e) (Names name) →
        hiding parameters first name ≡ hiding parameters second name
    name_same parameters hide name there = hidden_same (parameters name) (λ shown. name_found name there (sym (hide name) ∙ shown) (find name assignments) refl)

    call_found : (calls : ℕ) → Alike calls → (name : Text) (count : ℕ) → Contains (mentions e) (Calls name count) → (arguments : List (List Text)) (o : Option FunctionDefinition) → find name table ≡ o →
        call_with (suc calls) functions first name arguments ≡ call_with (suc calls) functions second name arguments
    call_found calls alike name count there arguments None is = call_none table first name arguments (suc calls) is ∙ sym (call_none table second name arguments (suc calls) is)
    call_found calls alike name count there arguments (Some f) is =
        call_of table first name arguments calls f is
        ∙ if_same (length f.parameters == length arguments) (λ many. alike f.body (bound f.parameters arguments) (hides f.parameters)
        (bound_hides f.parameters arguments (same_length (length f.parameters) (length arguments) many)) (λ read r. same read (through count there is r)))
        ∙ sym (call_of table second name arguments calls f is)

    call_same : (calls : ℕ) → ((left : ℕ) → calls ≡ suc left → Alike left) → (name : Text) (count : ℕ) → Contains (mentions e) (Calls name count) → (arguments : List (List Text)) →
        call_with calls functions first name arguments ≡ call_with calls functions second name arguments
    call_same zero alike name count there arguments = refl
    call_same (suc calls) alike name count there arguments = call_found calls (alike calls refl) name count there arguments (find name table) refl

    mention_same : (calls : ℕ) → ((left : ℕ) → calls ≡ suc left → Alike left) → (parameters : Values) → ((name : Text) → is_some (parameters name) ≡ hidden name) →
        (x : Mention) → Contains (mentions e) x → Agree (λ name. None) (hiding parameters first) (hiding parameters second) (call_with calls functions first) (call_with calls functions second) x
    mention_same calls alike parameters hide (Calls name count) there = call_same calls alike name count there
    mention_same calls alike parameters hide (Names name) there = name_same parameters hide name there

  one_level : (calls : ℕ) → ((left : ℕ) → calls ≡ suc left → Alike left) → Alike calls
  one_level calls alike e parameters hidden hide same =
      with_is calls functions first parameters e
      ∙ agreed_value (hiding parameters first) (hiding parameters second) (call_with calls functions first) (call_with calls functions second) e (mention_same e hidden same calls alike parameters hide)
      ∙ sym (with_is calls functions second parameters e)

  pub same_values : (calls : ℕ) → Alike calls
  same_values zero = one_level zero (λ left e. absurd (omega (arith, e)))
  same_values (suc calls) = one_level (suc calls) (λ left e. subst Alike (omega (arith, e)) (same_values calls))
