-- No line is of two kinds: what stands at its first three places tells its kind.
use Rattle.std.proofs.Common.{◌≡◌, ℕ, ◌+◌, sym, ◌∙◌, ap, refl, inl, inr, ◌⊎◌, List, [], ◌∷◌, length, drop, Bool, true, false, arith, Option, Some, None}
use Rattle.std.specs.Prelude.{if◌then◌else◌, ◌==◌, codes}
use Rattle.std.specs.List.{slice_get}
use Rattle.std.specs.Option.{option_map}
use Rattle.std.specs.Str.{bytes_eq}
use Rattle.std.proofs.lemmas.Bool.{false≢true, cases_Bool}
use Rattle.std.proofs.lemmas.Bool.Decides.{Decides-eqb}
use Rattle.std.proofs.lemmas.Option.{none-some, same_Some, slice_get_within, slice_get_cases, slice_get_past}
use Rattle.std.proofs.lemmas.List.{drop_all}
use Rattle.std.proofs.lemmas.Slice.Eq.{bytes_eq-Decides}
use Rattle.just_names.specs.Token.{Place, lexeme}
use Rattle.just_names.specs.declared.name.Name.{Name}
use Rattle.just_names.specs.Name.{text_if_named}
use Rattle.just_ast_definitions.specs.declared.assignment.Assignment.{Assignment}
use Rattle.just_ast_expressions.specs.declared.expression.Expression.{Expression}
use Rattle.just_ast_definitions.specs.declared.function_definition.FunctionDefinition.{FunctionDefinition}
use Rattle.just_ast_expressions.specs.declared.interpreter.Interpreter.{Interpreter}
use Rattle.just_ast_definitions.specs.declared.parameter.Parameter.{Parameter}
use Rattle.just_ast_definitions.specs.declared.parameter.ParameterKind.TheVariants as parameter_kind
use Rattle.just_ast_definitions.specs.declared.setting.Set.{Set}
use Rattle.just_ast_definitions.specs.declared.setting.Setting.{Setting}
use Rattle.just_ast_definitions.specs.declared.setting.Setting.TheVariants as settings
use Rattle.just_ast_expressions.specs.declared.string_literal.StringLiteral.{StringLiteral}
use Rattle.just_bench_expressions.specs.declared.lexer.Kind.{Kind}
use Rattle.just_bench_expressions.specs.declared.lexer.Kind.TheVariants as kind
use Rattle.just_bench_expressions.specs.declared.lexer.Lexeme.{Lexeme}
use Rattle.just_bench_lines.specs.declared.alias.AliasLine.{AliasLine}
use Rattle.just_bench_lines.specs.declared.attributes.Mark.{Mark}
use Rattle.just_bench_lines.specs.declared.heading.Heading.{Heading}
use Rattle.just_bench_lines.specs.declared.meaning.Declaration.{Declaration}
use Rattle.just_bench_lines.specs.declared.meaning.Meaning.TheVariants as meanings
use Rattle.just_bench_lines.specs.declared.meaning.Statement.{Statement}
use Rattle.just_bench_lines.specs.declared.meaning.Statement.TheVariants as statements
use Rattle.just_bench_lines.specs.Alias.{alias_in_line, alias_line, with_target}
use Rattle.just_bench_lines.specs.Attributes.{attribute, attribute_of}
use Rattle.just_bench_lines.specs.Definitions as definitions
use Rattle.just_bench_lines.specs.Heading as heading
use Rattle.just_bench_lines.specs.Meaning as meaning
use Rattle.just_bench_lines.specs.Parts.{read_parts, parts_from}
use Rattle.just_bench_lines.specs.Path.{path}
use Rattle.just_bench_lines.specs.Places.{is_assign, is_at_sign, is_bracket_open, is_colon, is_equals, is_name_kind, is_paren_open, is_plus, is_question, is_quoted, is_star}
use Rattle.just_bench_lines.specs.Places.{adjoins, is_word, literal, literal_at, read_name_at, name_there, quoted_at, quoted_there, stands, stands_there, word_at}
use Rattle.just_bench_lines.proofs.Fronts.{Front, front}

-- the kinds of lines
pub data Sort : Type 0 where
  a_module : Sort
  a_mark : Sort
  an_alias : Sort
  an_import : Sort
  a_setting : Sort
  an_unexport : Sort
  a_variable : Sort
  a_function : Sort
  a_heading : Sort
  unknown : Sort

abbrev kind_of : Option Lexeme → Option Kind
kind_of None = None
kind_of (Some l) = Some l.kind

abbrev text_of : Option Lexeme → List ℕ
text_of None = []
text_of (Some l) = lexeme l.token

-- the rest of a heading begins so, before a parameter or at the `:`
abbrev starts : Kind → Bool
starts kind.Name = true
starts kind.Colon = true
starts kind.Star = true
starts kind.Plus = true
starts _ = false

-- it goes on so after the name of a parameter
abbrev goes_on : Option Kind → Bool
goes_on None = false
goes_on (Some k) = if is_equals k then true else starts k

-- by the first word
abbrev by_word : List ℕ → Sort
by_word w =
    if bytes_eq w (codes "mod") then a_module
    else (if bytes_eq w (codes "import") then an_import
    else (if bytes_eq w (codes "set") then a_setting
    else (if bytes_eq w (codes "unexport") then an_unexport
    else (if bytes_eq w (codes "alias") then an_alias
    else a_variable))))

-- by the second lexeme and the third
abbrev by_second : Option Kind → Option Kind → List ℕ → Sort
by_second None third w = unknown
by_second (Some kind.ParenOpen) third w = a_function
by_second (Some kind.Assign) third w = a_variable
by_second (Some kind.Colon) third w = a_heading
by_second (Some kind.Star) third w = a_heading
by_second (Some kind.Plus) third w = a_heading
by_second (Some kind.Name) third w = if goes_on third then a_heading else by_word w
by_second (Some _) third w = by_word w

-- by the first
abbrev by_first : Option Kind → Sort → Sort
by_first None named = unknown
by_first (Some kind.BracketOpen) named = a_mark
by_first (Some kind.At) named = a_heading
by_first (Some kind.Name) named = named
by_first (Some _) named = unknown

-- what a line is after a first name, and what it is
abbrev named_sort : List Lexeme → Sort
named_sort all = by_second (kind_of (slice_get all 1)) (kind_of (slice_get all 2)) (text_of (slice_get all 0))

abbrev sort : List Lexeme → Sort
sort all = by_first (kind_of (slice_get all 0)) (named_sort all)

name_is : (k : Kind) → is_name_kind k ≡ true → k ≡ kind.Name
name_is kind.Name h = refl
name_is _ h = absurd (false≢true h)

quoted_is : (k : Kind) → is_quoted k ≡ true → k ≡ kind.Quoted
quoted_is kind.Quoted h = refl
quoted_is _ h = absurd (false≢true h)

question_is : (k : Kind) → is_question k ≡ true → k ≡ kind.Question
question_is kind.Question h = refl
question_is _ h = absurd (false≢true h)

assign_is : (k : Kind) → is_assign k ≡ true → k ≡ kind.Assign
assign_is kind.Assign h = refl
assign_is _ h = absurd (false≢true h)

equals_is : (k : Kind) → is_equals k ≡ true → k ≡ kind.Equals
equals_is kind.Equals h = refl
equals_is _ h = absurd (false≢true h)

paren_is : (k : Kind) → is_paren_open k ≡ true → k ≡ kind.ParenOpen
paren_is kind.ParenOpen h = refl
paren_is _ h = absurd (false≢true h)

bracket_is : (k : Kind) → is_bracket_open k ≡ true → k ≡ kind.BracketOpen
bracket_is kind.BracketOpen h = refl
bracket_is _ h = absurd (false≢true h)

at_sign_is : (k : Kind) → is_at_sign k ≡ true → k ≡ kind.At
at_sign_is kind.At h = refl
at_sign_is _ h = absurd (false≢true h)

no_start : (k : Kind) → starts k ≡ false → (is_colon k ≡ false) × (is_star k ≡ false) × (is_plus k ≡ false) × (is_name_kind k ≡ false)
no_start kind.Name h = absurd (false≢true (sym h))
no_start kind.Colon h = absurd (false≢true (sym h))
no_start kind.Star h = absurd (false≢true (sym h))
no_start kind.Plus h = absurd (false≢true (sym h))
no_start _ h = (refl, refl, refl, refl)

-- what is chosen is there
chosen : {A : Type 0} (b : Bool) (o : Option A) (x : A) → (if b then o else None) ≡ Some x → (b ≡ true) × (o ≡ Some x)
chosen true o x h = (refl, h)
chosen false o x h = absurd (none-some x h)

mapped : {A B : Type 0} (f : A → B) (o : Option A) (y : B) → option_map f o ≡ Some y → (x : A) × (o ≡ Some x)
mapped f None y h = absurd (none-some y h)
mapped f (Some x) y h = (x, refl)

-- one of two is there
one_of : {A : Type 0} (o other : Option A) (x : A) → meaning.first_there o other ≡ Some x → (o ≡ Some x) ⊎ (other ≡ Some x)
one_of None other x h = inr h
one_of (Some it) other x h = inl h

-- what cannot be there is not
absent : {A : Type 0} (o : Option A) → ((x : A) → o ≡ Some x → ⊥) → o ≡ None
absent None h = refl
absent (Some x) h = absurd (h x refl)

either_true : (b c : Bool) → c ≡ true → (if b then true else c) ≡ true
either_true true c h = refl
either_true false c h = h

both : (b c : Bool) → (if b then c else false) ≡ true → b ≡ true
both true c h = refl
both false c h = h

-- what stands at a place
standing : (is : Kind → Bool) (k : Kind) → ((c : Kind) → is c ≡ true → c ≡ k) → (o : Option Lexeme) → stands_there is o ≡ true → kind_of o ≡ Some k
standing is k one None h = absurd (false≢true h)
standing is k one (Some l) h = ap (λ c. Some c) (one l.kind h)

named : (o : Option Lexeme) (name : Name) → name_there o ≡ Some name → (kind_of o ≡ Some kind.Name) × (text_of o ≡ lexeme name.token)
named None name h = absurd (none-some name h)
named (Some l) name h =
    let c = chosen (is_name_kind l.kind) (Some (record { token = l.token })) name h in
    (ap (λ k. Some k) (name_is l.kind c.0), ap text_if_named c.1)

quoted : (o : Option Lexeme) (place : Place) → quoted_there o ≡ Some place → kind_of o ≡ Some kind.Quoted
quoted None place h = absurd (none-some place h)
quoted (Some l) place h = ap (λ k. Some k) (quoted_is l.kind (chosen (is_quoted l.kind) (Some l.token) place h).0)

literal_is : (o : Option Lexeme) (q : Option Place) (p : StringLiteral) → quoted_there o ≡ q → option_map literal q ≡ Some p → kind_of o ≡ Some kind.Quoted
literal_is o None p is h = absurd (none-some p h)
literal_is o (Some place) p is h = quoted o place is

worded : (w : List ℕ) (o : Option Lexeme) (n : Option Name) → name_there o ≡ n → is_word w n ≡ true → (kind_of o ≡ Some kind.Name) × (text_of o ≡ w)
worded w o None is h = absurd (false≢true h)
worded w o (Some name) is h = let n = named o name is in (n.0, n.1 ∙ (bytes_eq-Decides (lexeme name.token) w).0 h)

-- at the end of a line nothing stands
ended : (all : List Lexeme) (at : ℕ) → (at == length all) ≡ true → kind_of (slice_get all at) ≡ None
ended all at h = ap kind_of (slice_get_past all at (omega (arith, (Decides-eqb at (length all)).0 h)))

optional_is : (all : List Lexeme) → meaning.is_optional all ≡ true → kind_of (slice_get all 1) ≡ Some kind.Question
optional_is [] h = absurd (false≢true h)
optional_is (word ∷ []) h = absurd (false≢true h)
optional_is (word ∷ l ∷ rest) h = ap (λ k. Some k) (question_is l.kind (both (is_question l.kind) (adjoins word l) h))

-- parameters up to a `:`
abbrev parameters_from : List Lexeme → ℕ → ℕ → List Lexeme → Option (List Parameter × ℕ)
parameters_from = parts_from false is_colon heading.parameter

-- the parameter that a name alone is
abbrev plain_parameter : Lexeme → Parameter
plain_parameter l = heading.made_of (record { token = l.token }) parameter_kind.Singular None

-- what the second lexeme tells
module _ (second third : Option Kind) (w : List ℕ) where
  by_question : second ≡ Some kind.Question → by_second second third w ≡ by_word w
  by_question h = rw h refl

  by_quoted : second ≡ Some kind.Quoted → by_second second third w ≡ by_word w
  by_quoted h = rw h refl

  by_assign : second ≡ Some kind.Assign → by_second second third w ≡ a_variable
  by_assign h = rw h refl

  by_paren : second ≡ Some kind.ParenOpen → by_second second third w ≡ a_function
  by_paren h = rw h refl

  by_start : (k : Kind) → second ≡ Some k → starts k ≡ true → (second ≡ Some kind.Name → goes_on third ≡ true) → by_second second third w ≡ a_heading
  by_start kind.Name h is g = rw (h, g h) refl
  by_start kind.Colon h is g = rw h refl
  by_start kind.Star h is g = rw h refl
  by_start kind.Plus h is g = rw h refl
  by_start _ h is g = absurd (false≢true is)

  by_name : (b : Bool) → second ≡ Some kind.Name → goes_on third ≡ b → by_second second third w ≡ (if b then a_heading else by_word w)
  by_name b h g = rw (h, g) refl

-- the line is told by its first word
by_text : (all : List Lexeme) (w : List ℕ) → is_word w (read_name_at all 0) ≡ true → named_sort all ≡ by_word (text_of (slice_get all 0)) → sort all ≡ by_word w
by_text all w h second =
    let first = worded w (slice_get all 0) (read_name_at all 0) refl h in
    ap (λ k. by_first k (named_sort all)) first.0 ∙ second ∙ ap by_word first.1

-- or by what stands after it
by_rest : (all : List Lexeme) (name : Name) (s : Sort) → read_name_at all 0 ≡ Some name → named_sort all ≡ s → sort all ≡ s
by_rest all name s h second = ap (λ k. by_first k (named_sort all)) (named (slice_get all 0) name h).0 ∙ second

module _ (all : List Lexeme) where
  abbrev second : Option Kind
  second = kind_of (slice_get all 1)

  abbrev third : Option Kind
  third = kind_of (slice_get all 2)

  abbrev word : List ℕ
  word = text_of (slice_get all 0)

  two_long : (length all == 2) ≡ true → third ≡ None
  two_long h = ap kind_of (slice_get_past all 2 (omega (arith, (Decides-eqb (length all) 2).0 h)))

  import_second : (b : Bool) (path : Option StringLiteral) (s : Statement) → meaning.is_optional all ≡ b → path ≡ literal_at all (meaning.after_word b)
      → meaning.import_of all b (meaning.after_word b) path ≡ Some s → named_sort all ≡ by_word word
  import_second b None s optional is h = absurd (none-some s h)
  import_second true (Some path) s optional is h = by_question second third word (optional_is all optional)
  import_second false (Some path) s optional is h = by_quoted second third word (literal_is (slice_get all 1) (quoted_at all 1) path refl (sym is))

  pub import_sort : (s : Statement) → meaning.import all ≡ Some s → sort all ≡ an_import
  import_sort s h =
      let optional = meaning.is_optional all in
      let path = literal_at all (meaning.after_word optional) in
      let c = chosen (word_at (codes "import") all 0) (meaning.import_of all optional (meaning.after_word optional) path) s h in
      by_text all (codes "import") c.0 (import_second optional path s refl refl c.1)

  module_third : (path : Option StringLiteral) → path ≡ literal_at all 2 → (meaning.after_path 2 path == length all) ≡ true → goes_on third ≡ false
  module_third None is h = ap goes_on (ended all 2 h)
  module_third (Some path) is h = ap goes_on (literal_is (slice_get all 2) (quoted_at all 2) path refl (sym is))

  module_end : (name : Name) (optional : Bool) (d : Declaration) → meaning.declared_module all name optional 2 ≡ Some d → goes_on third ≡ false
  unfolding meaning.declared_module
  module_end name optional d h =
      module_third (literal_at all 2) refl (chosen (meaning.after_path 2 (literal_at all 2) == length all) (Some (record { name = name; path = literal_at all 2; optional = optional })) d h).0

  module_second : (b : Bool) (name : Option Name) (d : Declaration) → meaning.is_optional all ≡ b → name ≡ read_name_at all (meaning.after_word b)
      → meaning.module_in_line all b (meaning.after_word b) name ≡ Some d → named_sort all ≡ by_word word
  module_second b None d optional is h = absurd (none-some d h)
  module_second true (Some name) d optional is h = by_question second third word (optional_is all optional)
  module_second false (Some name) d optional is h = by_name second third word false (named (slice_get all 1) name (sym is)).0 (module_end name false d h)

  pub module_sort : (d : Declaration) → meaning.module_line all ≡ Some d → sort all ≡ a_module
  module_sort d h =
      let optional = meaning.is_optional all in
      let name = read_name_at all (meaning.after_word optional) in
      let c = chosen (word_at (codes "mod") all 0) (meaning.module_in_line all optional (meaning.after_word optional) name) d h in
      by_text all (codes "mod") c.0 (module_second optional name d refl refl c.1)

  pub mark_sort : (m : Mark) → attribute all ≡ Some m → sort all ≡ a_mark
  unfolding attribute
  mark_sort m h =
      let c = chosen (stands is_bracket_open all 0) (attribute_of all (read_name_at all 1)) m h in
      ap (λ k. by_first k (named_sort all)) (standing is_bracket_open kind.BracketOpen bracket_is (slice_get all 0) c.0)

  alias_second : (name : Option Name) (a : AliasLine) → name ≡ read_name_at all 1 → alias_in_line all name ≡ Some a → named_sort all ≡ by_word word
  alias_second None a is h = absurd (none-some a h)
  alias_second (Some name) a is h =
      let c = chosen (stands is_assign all 2) (with_target all name (path all 3)) a h in
      by_name second third word false (named (slice_get all 1) name (sym is)).0 (ap goes_on (standing is_assign kind.Assign assign_is (slice_get all 2) c.0))

  pub alias_sort : (a : AliasLine) → alias_line all ≡ Some a → sort all ≡ an_alias
  alias_sort a h =
      let c = chosen (word_at (codes "alias") all 0) (alias_in_line all (read_name_at all 1)) a h in
      by_text all (codes "alias") c.0 (alias_second (read_name_at all 1) a refl c.1)

  set_third : (b c d : Bool) (t : Option Bool) (value : Bool) → (length all == 2) ≡ b → stands is_assign all 2 ≡ d
      → (if b then Some true else (if c then (if d then t else None) else None)) ≡ Some value → goes_on third ≡ false
  set_third true c d t value two assign h = ap goes_on (two_long two)
  set_third false false d t value two assign h = absurd (none-some value h)
  set_third false true false t value two assign h = absurd (none-some value h)
  set_third false true true t value two assign h = ap goes_on (standing is_assign kind.Assign assign_is (slice_get all 2) assign)

  switched_third : (value : Option Bool) (name : List ℕ) (s : Setting) → value ≡ definitions.set_to all → definitions.switched name value ≡ Some s → goes_on third ≡ false
  switched_third None name s is h = absurd (none-some s h)
  switched_third (Some value) name s is h = set_third (length all == 2) (length all == 4) (stands is_assign all 2) (definitions.truth_at all 3) value refl refl (sym is)

  program_third : (p : Interpreter Expression) → definitions.program all ≡ Some p → goes_on third ≡ false
  program_third p h = ap goes_on (standing is_assign kind.Assign assign_is (slice_get all 2) (chosen (stands is_assign all 2) (definitions.listed_by (definitions.whole_expression all 3)) p h).0)

  setting_third : (b c : Bool) (name : List ℕ) (s : Setting)
      → (if b then option_map settings.Shell (definitions.program all)
      else (if c then option_map settings.ScriptInterpreter (definitions.program all) else definitions.switched name (definitions.set_to all))) ≡ Some s
      → goes_on third ≡ false
  setting_third true c name s h = let found = mapped settings.Shell (definitions.program all) s h in program_third found.0 found.1
  setting_third false true name s h = let found = mapped settings.ScriptInterpreter (definitions.program all) s h in program_third found.0 found.1
  setting_third false false name s h = switched_third (definitions.set_to all) name s refl h

  set_value : (value : Option Setting) (name : Name) (s : Set) → value ≡ definitions.setting_by all (lexeme name.token) → definitions.named_set name value ≡ Some s → goes_on third ≡ false
  set_value None name s is h = absurd (none-some s h)
  set_value (Some value) name s is h =
      let text = lexeme name.token in
      setting_third (bytes_eq text (codes "shell")) (bytes_eq text (codes "script-interpreter")) text value (sym is)

  set_second : (name : Option Name) (s : Set) → name ≡ read_name_at all 1 → definitions.set_in_line all name ≡ Some s → named_sort all ≡ by_word word
  set_second None s is h = absurd (none-some s h)
  set_second (Some name) s is h = by_name second third word false (named (slice_get all 1) name (sym is)).0 (set_value (definitions.setting_by all (lexeme name.token)) name s refl h)

  pub set_sort : (s : Set) → definitions.set all ≡ Some s → sort all ≡ a_setting
  set_sort s h =
      let c = chosen (word_at (codes "set") all 0) (definitions.set_in_line all (read_name_at all 1)) s h in
      by_text all (codes "set") c.0 (set_second (read_name_at all 1) s refl c.1)

  pub unexport_sort : (name : Name) → definitions.unexport all ≡ Some name → sort all ≡ an_unexport
  unexport_sort name h =
      let c = chosen (length all == 2) (if word_at (codes "unexport") all 0 then read_name_at all 1 else None) name h in
      let d = chosen (word_at (codes "unexport") all 0) (read_name_at all 1) name c.1 in
      by_text all (codes "unexport") d.0 (by_name second third word false (named (slice_get all 1) name d.1).0 (ap goes_on (two_long c.0)))

  -- a variable whose name stands at a place
  assigned : (at : ℕ) (eager export : Bool) (name : Option Name) (a : Assignment) → definitions.assignment_in_line all at eager export name ≡ Some a
      → (n : Name) × (name ≡ Some n) × (stands is_assign all (at + 1) ≡ true)
  assigned at eager export None a h = absurd (none-some a h)
  assigned at eager export (Some name) a h = (name, refl, (chosen (stands is_assign all (at + 1)) (definitions.assigned name eager export (definitions.whole_expression all (at + 2))) a h).0)

  assigned_at : (at : ℕ) (eager export : Bool) (a : Assignment) → definitions.assignment_at all at eager export ≡ Some a
      → (n : Name) × (read_name_at all at ≡ Some n) × (stands is_assign all (at + 1) ≡ true)
  unfolding definitions.assignment_at
  assigned_at at eager export a h = assigned at eager export (read_name_at all at) a h

  -- after `export` or `eager`
  assigned_after : (w : List ℕ) (eager export : Bool) (a : Assignment) → is_word w (read_name_at all 0) ≡ true → definitions.assignment_at all 1 eager export ≡ Some a → sort all ≡ by_word w
  assigned_after w eager export a is h =
      let found = assigned_at 1 eager export a h in
      let assign = standing is_assign kind.Assign assign_is (slice_get all 2) found.2 in
      by_text all w is (by_name second third word false (named (slice_get all 1) found.0 found.1).0 (ap goes_on assign))

  assignment_by_word : (b c d : Bool) (a : Assignment) → stands is_assign all 1 ≡ b → word_at (codes "export") all 0 ≡ c → word_at (codes "eager") all 0 ≡ d
      → (if b then definitions.assignment_at all 0 false false
      else (if c then definitions.assignment_at all 1 false true else (if d then definitions.assignment_at all 1 true false else None))) ≡ Some a
      → sort all ≡ a_variable
  assignment_by_word true c d a assign export eager h =
      let found = assigned_at 0 false false a h in
      by_rest all found.0 a_variable found.1 (by_assign second third word (standing is_assign kind.Assign assign_is (slice_get all 1) assign))
  assignment_by_word false true d a assign export eager h = assigned_after (codes "export") false true a export h
  assignment_by_word false false true a assign export eager h = assigned_after (codes "eager") true false a eager h
  assignment_by_word false false false a assign export eager h = absurd (none-some a h)

  pub assignment_sort : (a : Assignment) → definitions.assignment all ≡ Some a → sort all ≡ a_variable
  assignment_sort a h = assignment_by_word (stands is_assign all 1) (word_at (codes "export") all 0) (word_at (codes "eager") all 0) a refl refl refl h

  function_second : (name : Option Name) (f : FunctionDefinition) → read_name_at all 0 ≡ name → definitions.function_in_line all name ≡ Some f → sort all ≡ a_function
  function_second None f is h = absurd (none-some f h)
  function_second (Some name) f is h =
      let c = chosen (stands is_paren_open all 1) (definitions.with_parameters all name (definitions.parameters all 2)) f h in
      by_rest all name a_function is (by_paren second third word (standing is_paren_open kind.ParenOpen paren_is (slice_get all 1) c.0))

  pub function_sort : (f : FunctionDefinition) → definitions.function all ≡ Some f → sort all ≡ a_function
  function_sort f h = function_second (read_name_at all 0) f refl h

  no_parameter : (at : ℕ) (l : Lexeme) → slice_get all at ≡ Some l → starts l.kind ≡ false → heading.parameter all at ≡ None
  unfolding heading.parameter heading.named_parameter
  no_parameter at l there h =
      let n = no_start l.kind h in
      rw (there, n.1, n.2, n.3) refl

  starting : (at : ℕ) (l : Lexeme) (rest : List Lexeme) (found : List Parameter × ℕ) → slice_get all at ≡ Some l → parameters_from all at 0 (l ∷ rest) ≡ Some found → starts l.kind ≡ true
  starting at l rest found there h = elim (cases_Bool (starts l.kind)) [
    | inl so ↦ so
    | inr other ↦
        let none : parameters_from all at 0 (l ∷ rest) ≡ None = rw ((no_start l.kind other).0, no_parameter at l there other) refl in
        absurd (none-some found (sym none ∙ h))
  ]

  -- what the parameters of a heading begin with
  parameters_begin : (at : ℕ) (found : List Parameter × ℕ) → heading.parameters all at ≡ Some found → (l : Lexeme) × (slice_get all at ≡ Some l) × (starts l.kind ≡ true)
  unfolding read_parts
  parameters_begin at found h = elim ((slice_get_cases all at).1) [
    | inl here ↦
        let f = front all at here.1 in
        (f.0, f.1.there, starting at f.0 (drop (at + 1) all) found f.1.there (sym (ap (parameters_from all at 0) f.1.dropped) ∙ h))
    | inr past ↦ absurd (none-some found (sym (ap (parameters_from all at 0) (drop_all at all past.0)) ∙ h))
  ]

  -- a name alone is a parameter
  alone : (l : Lexeme) → slice_get all 1 ≡ Some l → l.kind ≡ kind.Name → stands is_equals all 2 ≡ false
      → heading.parameter all 1 ≡ Some (plain_parameter l, 2)
  unfolding heading.parameter heading.named_parameter
  alone l there is other = rw (there, is, other) refl

  after_name : (l : Lexeme) → Front all 1 l → l.kind ≡ kind.Name → stands is_equals all 2 ≡ false
      → heading.parameters all 1 ≡ option_map {U = List Parameter × ℕ} (λ more. (plain_parameter l ∷ more.0, more.1)) (heading.parameters all 2)
  unfolding read_parts
  after_name l f is other = ap (parameters_from all 1 0) f.dropped ∙ rw (is, alone l f.there is other) refl

  parameters_go_on : (found : List Parameter × ℕ) → heading.parameters all 1 ≡ Some found → second ≡ Some kind.Name → goes_on third ≡ true
  parameters_go_on found h name = elim (cases_Bool (stands is_equals all 2)) [
    | inl equals ↦ ap goes_on (standing is_equals kind.Equals equals_is (slice_get all 2) equals)
    | inr other ↦
        let before = parameters_begin 1 found h in
        let f = front all 1 (slice_get_within all 1 before.0 before.1) in
        let is = same_Some f.0.kind kind.Name (sym (ap kind_of f.1.there) ∙ name) in
        let more = mapped _ (heading.parameters all 2) found (sym (after_name f.0 f.1 is other) ∙ h) in
        let next = parameters_begin 2 more.0 more.1 in
        ap goes_on (ap kind_of next.1) ∙ either_true (is_equals next.0.kind) (starts next.0.kind) next.2
  ]

  heading_second : (found : Option (List Parameter × ℕ)) (name : Name) (it : Heading) → found ≡ heading.parameters all 1
      → heading.with_parameters all false name found ≡ Some it → named_sort all ≡ a_heading
  heading_second None name it is h = absurd (none-some it h)
  heading_second (Some found) name it is h =
      let front = parameters_begin 1 found (sym is) in
      by_start second third word front.0.kind (ap kind_of front.1) front.2 (parameters_go_on found (sym is))

  heading_first : (name : Option Name) (it : Heading) → read_name_at all 0 ≡ name → heading.heading_at all false 0 name ≡ Some it → sort all ≡ a_heading
  unfolding heading.after_name
  heading_first None it is h = absurd (none-some it h)
  heading_first (Some name) it is h = by_rest all name a_heading is (heading_second (heading.parameters all 1) name it refl h)

  heading_from : (b : Bool) (it : Heading) → stands is_at_sign all 0 ≡ b
      → (if b then heading.heading_at all b 1 (read_name_at all 1) else heading.heading_at all b 0 (read_name_at all 0)) ≡ Some it → sort all ≡ a_heading
  heading_from true it is h = ap (λ k. by_first k (named_sort all)) (standing is_at_sign kind.At at_sign_is (slice_get all 0) is)
  heading_from false it is h = heading_first (read_name_at all 0) it refl h

  pub heading_sort : (it : Heading) → heading.heading_in_line all ≡ Some it → sort all ≡ a_heading
  unfolding heading.heading_in_line
  heading_sort it h = heading_from (stands is_at_sign all 0) it refl h

-- the kinds of items without attributes
abbrev is_item : Sort → Bool
is_item an_import = true
is_item a_setting = true
is_item an_unexport = true
is_item a_variable = true
is_item a_function = true
is_item _ = false

module _ (all : List Lexeme) where
  definition_item : (s : Statement) → meaning.definition all ≡ Some s → is_item (sort all) ≡ true
  definition_item s h = elim (one_of (option_map statements.Assigns (definitions.assignment all)) (option_map statements.Defines (definitions.function all)) s h) [
    | inl it ↦ let found = mapped _ (definitions.assignment all) s it in ap is_item (assignment_sort all found.0 found.1)
    | inr it ↦ let found = mapped _ (definitions.function all) s it in ap is_item (function_sort all found.0 found.1)
  ]

  abbrev from_unexport : Option Statement
  from_unexport = meaning.first_there (option_map statements.Unexports (definitions.unexport all)) (meaning.definition all)

  unexport_item : (s : Statement) → from_unexport ≡ Some s → is_item (sort all) ≡ true
  unexport_item s h = elim (one_of (option_map statements.Unexports (definitions.unexport all)) (meaning.definition all) s h) [
    | inl it ↦ let found = mapped _ (definitions.unexport all) s it in ap is_item (unexport_sort all found.0 found.1)
    | inr it ↦ definition_item s it
  ]

  abbrev from_set : Option Statement
  from_set = meaning.first_there (option_map statements.Sets (definitions.set all)) from_unexport

  set_item : (s : Statement) → from_set ≡ Some s → is_item (sort all) ≡ true
  set_item s h = elim (one_of (option_map statements.Sets (definitions.set all)) from_unexport s h) [
    | inl it ↦ let found = mapped _ (definitions.set all) s it in ap is_item (set_sort all found.0 found.1)
    | inr it ↦ unexport_item s it
  ]

  item_sort : (s : Statement) → meaning.statement all ≡ Some s → is_item (sort all) ≡ true
  unfolding meaning.statement
  item_sort s h = elim (one_of (meaning.import all) from_set s h) [
    | inl it ↦ ap is_item (import_sort all s it)
    | inr it ↦ set_item s it
  ]

  -- what a line of another kind is not
  no_module : (sort all ≡ a_module → ⊥) → meaning.module_line all ≡ None
  no_module other = absent (meaning.module_line all) (λ d is. other (module_sort all d is))

  no_mark : (sort all ≡ a_mark → ⊥) → attribute all ≡ None
  no_mark other = absent (attribute all) (λ m is. other (mark_sort all m is))

  no_alias : (sort all ≡ an_alias → ⊥) → alias_line all ≡ None
  no_alias other = absent (alias_line all) (λ a is. other (alias_sort all a is))

  no_item : is_item (sort all) ≡ false → meaning.statement all ≡ None
  no_item other = absent (meaning.statement all) (λ s is. false≢true (sym other ∙ item_sort s is))

  pub modules_told : (d : Declaration) → meaning.module_line all ≡ Some d → meaning.sorted all ≡ meanings.Declares d
  unfolding meaning.sorted
  modules_told d is = rw is refl

  pub marks_told : (m : Mark) → attribute all ≡ Some m → meaning.sorted all ≡ meanings.Marks m
  unfolding meaning.sorted
  marks_told m is =
      let told = mark_sort all m is in
      rw (no_module (λ other. cc), is) refl

  pub aliases_told : (a : AliasLine) → alias_line all ≡ Some a → meaning.sorted all ≡ meanings.Aliases a
  unfolding meaning.sorted
  aliases_told a is =
      let told = alias_sort all a is in
      rw (no_module (λ other. cc), no_mark (λ other. cc), is) refl

  pub statements_told : (s : Statement) → meaning.statement all ≡ Some s → meaning.sorted all ≡ meanings.States s
  unfolding meaning.sorted
  statements_told s is =
      let told = item_sort s is in
      let not : (k : Sort) → is_item k ≡ false → sort all ≡ k → ⊥ = λ k is other. false≢true (sym is ∙ sym (ap is_item other) ∙ told) in
      rw (no_module (not a_module refl), no_mark (not a_mark refl), no_alias (not an_alias refl), is) refl

  pub headings_told : (h : Heading) → heading.heading_in_line all ≡ Some h → meaning.sorted all ≡ meanings.Begins h
  unfolding meaning.sorted
  headings_told h is =
      let told = heading_sort all h is in
      rw (no_module (λ other. cc), no_mark (λ other. cc), no_alias (λ other. cc), no_item (ap is_item told), is) refl

  -- and within the items without attributes
  no_import : (sort all ≡ an_import → ⊥) → meaning.import all ≡ None
  no_import other = absent (meaning.import all) (λ s is. other (import_sort all s is))

  no_set : (sort all ≡ a_setting → ⊥) → definitions.set all ≡ None
  no_set other = absent (definitions.set all) (λ s is. other (set_sort all s is))

  no_unexport : (sort all ≡ an_unexport → ⊥) → definitions.unexport all ≡ None
  no_unexport other = absent (definitions.unexport all) (λ name is. other (unexport_sort all name is))

  no_assignment : (sort all ≡ a_variable → ⊥) → definitions.assignment all ≡ None
  no_assignment other = absent (definitions.assignment all) (λ a is. other (assignment_sort all a is))

  pub imports_stated : (s : Statement) → meaning.import all ≡ Some s → meaning.statement all ≡ Some s
  unfolding meaning.statement
  imports_stated s is = rw is refl

  pub sets_stated : (s : Set) → definitions.set all ≡ Some s → meaning.statement all ≡ Some (statements.Sets s)
  unfolding meaning.statement
  sets_stated s is =
      let told = set_sort all s is in
      rw (no_import (λ other. cc), is) refl

  pub unexports_stated : (name : Name) → definitions.unexport all ≡ Some name → meaning.statement all ≡ Some (statements.Unexports name)
  unfolding meaning.statement
  unexports_stated name is =
      let told = unexport_sort all name is in
      rw (no_import (λ other. cc), no_set (λ other. cc), is) refl

  pub assignments_stated : (a : Assignment) → definitions.assignment all ≡ Some a → meaning.statement all ≡ Some (statements.Assigns a)
  unfolding meaning.statement
  assignments_stated a is =
      let told = assignment_sort all a is in
      rw (no_import (λ other. cc), no_set (λ other. cc), no_unexport (λ other. cc), is) refl

  pub functions_stated : (f : FunctionDefinition) → definitions.function all ≡ Some f → meaning.statement all ≡ Some (statements.Defines f)
  unfolding meaning.statement
  functions_stated f is =
      let told = function_sort all f is in
      rw (no_import (λ other. cc), no_set (λ other. cc), no_unexport (λ other. cc), no_assignment (λ other. cc), is) refl
