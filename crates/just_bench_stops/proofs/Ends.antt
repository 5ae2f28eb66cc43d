-- What reads as a kind is read to its end as one: parts, and the kinds of lines that have few.
use Rattle.std.proofs.Common.{inl, inr, ◌≡◌, ℕ, ◌+◌, ◌<◌, sym, ◌∙◌, ap, refl, subst, List, length, Bool, true, false, arith, Option, Some, None, Result, Ok, Err}
use Rattle.std.specs.Prelude.{if◌then◌else◌, ◌==◌, ◌||◌, codes, is_some, is_ok}
use Rattle.std.specs.List.{slice_get}
use Rattle.std.specs.Option.{option_map}
use Rattle.std.specs.Str.{bytes_eq}
use Rattle.std.proofs.lemmas.Bool.{false≢true}
use Rattle.std.proofs.lemmas.Option.{slice_get_cases}
use Rattle.std.proofs.lemmas.Slice.Eq.{bytes_eq-Decides}
use Rattle.just_names.specs.Token.{Place, lexeme}
use Rattle.just_names.specs.declared.name.Name.{Name}
use Rattle.just_names.specs.declared.name.Namepath.{Namepath}
use Rattle.just_ast_expressions.specs.declared.expression.Expression.{Expression}
use Rattle.just_ast_expressions.specs.declared.string_literal.StringLiteral.{StringLiteral}
use Rattle.just_bench_expressions.specs.declared.expressions.Found.{Found}
use Rattle.just_bench_expressions.specs.declared.lexer.Kind.{Kind}
use Rattle.just_bench_expressions.specs.declared.lexer.Kind.TheVariants as kind
use Rattle.just_bench_expressions.specs.declared.lexer.Lexeme.{Lexeme}
use Rattle.just_bench_expressions.specs.Expressions.{EndsWith, expression, expression_end}
use Rattle.just_bench_expressions.proofs.Ending.{expression_agrees}
use Rattle.just_bench_lines.specs.declared.meaning.Statement.TheVariants as statements
use Rattle.just_bench_lines.specs.Alias.{alias_in_line, alias_line, with_target}
use Rattle.just_bench_lines.specs.Definitions.{assigned, assignment, assignment_at, assignment_in_line, ends_line, unexport, whole_expression}
use Rattle.just_bench_lines.specs.Meaning.{after_path, after_word, import, import_of, is_optional, module_in_line, module_line, declared_module}
use Rattle.just_bench_lines.specs.Path.{path, separated, separates}
use Rattle.just_bench_lines.specs.Places.{is_assign, is_name_kind, is_quoted, is_word, literal, literal_at, read_name_at, name_there, quoted_there, stands, stands_there, word_at}
use Rattle.just_bench_stops.specs.Definitions.{alias_end, assignment_end, import_end, module_end, prefixed_end, unexport_end, whole_end}
use Rattle.just_bench_stops.specs.Marks.{goes_on_from, line_end, mark_end, path_end, path_end_by}

-- what follows a test
pub chosen : {A : Type 0} (b : Bool) (o : Option A) (at end : ℕ) (more : ℕ → Result ℕ ℕ) → is_some o ≡ is_ok (more end) → is_some (if b then o else None) ≡ is_ok (goes_on_from (if b then Ok end else Err at) more)
chosen true o at end more same = same
chosen false o at end more same = refl

-- the end of the line
lined_by : {A : Type 0} (b : Bool) (at : ℕ) (x : A) → is_some (if b then Some x else None) ≡ is_ok {E = ℕ} (if b then Ok at else Err at)
lined_by true at x = refl
lined_by false at x = refl

pub lined : {A : Type 0} (all : List Lexeme) (at : ℕ) (x : A) → is_some (if at == length all then Some x else None) ≡ is_ok (line_end all at)
lined all at x = lined_by (at == length all) at x

-- a name
named_by : {A : Type 0} (b : Bool) (name : Name) (at : ℕ) (f : Option Name → Option A) (more : ℕ → Result ℕ ℕ) → f None ≡ None → ((n : Name) → is_some (f (Some n)) ≡ is_ok (more (at + 1)))
    → is_some (f (if b then Some name else None)) ≡ is_ok (goes_on_from (if b then Ok (at + 1) else Err at) more)
named_by true name at f more none same = same name
named_by false name at f more none same = ap is_some none

named_there : {A : Type 0} (o : Option Lexeme) (at : ℕ) (f : Option Name → Option A) (more : ℕ → Result ℕ ℕ) → f None ≡ None → ((n : Name) → is_some (f (Some n)) ≡ is_ok (more (at + 1)))
    → is_some (f (name_there o)) ≡ is_ok (goes_on_from (if stands_there is_name_kind o then Ok (at + 1) else Err at) more)
named_there None at f more none same = ap is_some none
named_there (Some l) at f more none same = named_by (is_name_kind l.kind) (record { token = l.token }) at f more none same

pub named : {A : Type 0} (all : List Lexeme) (at : ℕ) (f : Option Name → Option A) (more : ℕ → Result ℕ ℕ) → f None ≡ None → ((n : Name) → is_some (f (Some n)) ≡ is_ok (more (at + 1)))
    → is_some (f (read_name_at all at)) ≡ is_ok (goes_on_from (mark_end is_name_kind all at) more)
named all at f more none same = named_there (slice_get all at) at f more none same

-- a quoted text
quoted_by : {A : Type 0} (b : Bool) (token : Place) (at : ℕ) (f : Option StringLiteral → Option A) (more : ℕ → Result ℕ ℕ) → f None ≡ None → ((s : StringLiteral) → is_some (f (Some s)) ≡ is_ok (more (at + 1)))
    → is_some (f (option_map literal (if b then Some token else None))) ≡ is_ok (goes_on_from (if b then Ok (at + 1) else Err at) more)
quoted_by true token at f more none same = same (literal token)
quoted_by false token at f more none same = ap is_some none

quoted_in : {A : Type 0} (o : Option Lexeme) (at : ℕ) (f : Option StringLiteral → Option A) (more : ℕ → Result ℕ ℕ) → f None ≡ None → ((s : StringLiteral) → is_some (f (Some s)) ≡ is_ok (more (at + 1)))
    → is_some (f (option_map literal (quoted_there o))) ≡ is_ok (goes_on_from (if stands_there is_quoted o then Ok (at + 1) else Err at) more)
quoted_in None at f more none same = ap is_some none
quoted_in (Some l) at f more none same = quoted_by (is_quoted l.kind) l.token at f more none same

pub quoted : {A : Type 0} (all : List Lexeme) (at : ℕ) (f : Option StringLiteral → Option A) (more : ℕ → Result ℕ ℕ) → f None ≡ None → ((s : StringLiteral) → is_some (f (Some s)) ≡ is_ok (more (at + 1)))
    → is_some (f (literal_at all at)) ≡ is_ok (goes_on_from (mark_end is_quoted all at) more)
quoted all at f more none same = quoted_in (slice_get all at) at f more none same

-- an expression that ends the line
whole_by : {A : Type 0} (b : Bool) (at : ℕ) (e : Expression) (f : Option Expression → Option A) → f None ≡ None → is_some (f (Some e)) ≡ true → is_some (f (if b then Some e else None)) ≡ is_ok {E = ℕ} (if b then Ok at else Err at)
whole_by true at e f none some = some
whole_by false at e f none some = ap is_some none

whole_of : {A : Type 0} (all : List Lexeme) (found : Option Found) (end : Result ℕ ℕ) (f : Option Expression → Option A) → EndsWith found end → f None ≡ None → ((e : Expression) → is_some (f (Some e)) ≡ true)
    → is_some (f (ends_line all found)) ≡ is_ok (goes_on_from end (line_end all))
whole_of all None (Ok end) f ends none some = absurd ends
whole_of all None (Err at) f ends none some = ap is_some none
whole_of all (Some found) (Err at) f ends none some = absurd ends
whole_of all (Some found) (Ok end) f ends none some =
    subst (λ n. is_some (f (if found.end == length all then Some found.made else None)) ≡ is_ok (line_end all n)) ends (whole_by (found.end == length all) found.end found.made f none (some found.made))

pub whole : {A : Type 0} (all : List Lexeme) (at : ℕ) (f : Option Expression → Option A) → f None ≡ None → ((e : Expression) → is_some (f (Some e)) ≡ true) → is_some (f (whole_expression all at)) ≡ is_ok (whole_end all at)
unfolding whole_expression
whole all at f none some = whole_of all (expression true all at) (expression_end true all at) f (expression_agrees true all at) none some

-- imports
pub imports : (all : List Lexeme) → is_some (import all) ≡ is_ok (import_end all)
imports all =
    let at = after_word (is_optional all) in
    chosen (word_at (codes "import") all 0) (import_of all (is_optional all) at (literal_at all at)) 0 1 (λ _. goes_on_from (mark_end is_quoted all at) (line_end all))
    (quoted all at (import_of all (is_optional all) at) (line_end all) refl (λ path. lined all (at + 1) (statements.Imports path (is_optional all))))

-- modules
after_by : (b : Bool) (token : Place) (at : ℕ) → after_path at (option_map literal (if b then Some token else None)) ≡ (if b then at + 1 else at)
after_by true token at = refl
after_by false token at = refl

after_there : (o : Option Lexeme) (at : ℕ) → after_path at (option_map literal (quoted_there o)) ≡ (if stands_there is_quoted o then at + 1 else at)
after_there None at = refl
after_there (Some l) at = after_by (is_quoted l.kind) l.token at

module_ends : (all : List Lexeme) (name : Name) (optional : Bool) (at : ℕ) → is_some (declared_module all name optional at) ≡ is_ok (line_end all (if stands is_quoted all at then at + 1 else at))
unfolding declared_module
module_ends all name optional at =
    lined all (after_path at (literal_at all at)) (record { name = name; path = literal_at all at; optional = optional }) ∙ ap (λ n. is_ok (line_end all n)) (after_there (slice_get all at) at)

pub modules : (all : List Lexeme) → is_some (module_line all) ≡ is_ok (module_end all)
modules all =
    let at = after_word (is_optional all) in
    chosen (word_at (codes "mod") all 0) (module_in_line all (is_optional all) at (read_name_at all at)) 0 1
    (λ _. goes_on_from (mark_end is_name_kind all at) (λ at. line_end all (if stands is_quoted all at then at + 1 else at)))
    (named all at (module_in_line all (is_optional all) at) (λ at. line_end all (if stands is_quoted all at then at + 1 else at)) refl (λ name. module_ends all name (is_optional all) (at + 1)))

-- names that are not exported
swapped : (b c : Bool) (name : Option Name) → is_some (if b then (if c then name else None) else None) ≡ is_some (if c then (if b then name else None) else None)
swapped true c name = refl
swapped false true name = refl
swapped false false name = refl

none_either : {A : Type 0} (b : Bool) → ◌≡◌ {A = Option A} (if b then None else None) None
none_either true = refl
none_either false = refl

pub turned : (m n : ℕ) → (m == n) ≡ (n == m)
turned m n = grind arith

pub unexports : (all : List Lexeme) → is_some (unexport all) ≡ is_ok (unexport_end all)
unexports all =
    swapped (length all == 2) (word_at (codes "unexport") all 0) (read_name_at all 1)
    ∙ chosen (word_at (codes "unexport") all 0) (if length all == 2 then read_name_at all 1 else None) 0 1 (λ at. goes_on_from (mark_end is_name_kind all at) (line_end all))
    (named all 1 (λ name. if length all == 2 then name else None) (line_end all) (none_either (length all == 2))
    (λ name. ap (λ b. is_some (if b then Some name else None)) (turned (length all) 2) ∙ lined all 2 name))

-- aliases
pub separated_inside : (all : List Lexeme) (at : ℕ) → separated all at ≡ true → at < length all
separated_inside all at h = elim ((slice_get_cases all at).1) [
  | inl here ↦ here.1
  | inr past ↦ absurd (false≢true (sym (ap (λ o. separates o (slice_get all (at + 1))) past.1) ∙ h))
]

inside : (n at : ℕ) → at < n → (at == n) ≡ false
inside n at h = grind (arith, h)

target_by : {A : Type 0} (all : List Lexeme) (at : ℕ) (x : A) (b : Bool) → separated all at ≡ b → is_some (if at == length all then Some x else None) ≡ is_ok (goes_on_from (if b then Err (at + 2) else Ok at) (line_end all))
target_by all at x true is = ap (λ c. is_some (if c then Some x else None)) (inside (length all) at (separated_inside all at is))
target_by all at x false is = lined all at x

target_of : (all : List Lexeme) (name : Name) (at : ℕ) (found : Option (Namepath × ℕ)) → is_some (with_target all name found) ≡ is_ok (goes_on_from (path_end_by all at found) (line_end all))
target_of all name at None = refl
target_of all name at (Some found) = target_by all found.1 (record { name = name; target = found.0 }) (separated all found.1) refl

pub aliases : (all : List Lexeme) → is_some (alias_line all) ≡ is_ok (alias_end all)
aliases all =
    chosen (word_at (codes "alias") all 0) (alias_in_line all (read_name_at all 1)) 0 1 (λ at. goes_on_from (mark_end is_name_kind all at) (λ at. goes_on_from (mark_end is_assign all at) (λ at. goes_on_from (path_end all at) (line_end all))))
    (named all 1 (alias_in_line all) (λ at. goes_on_from (mark_end is_assign all at) (λ at. goes_on_from (path_end all at) (line_end all))) refl
    (λ name. chosen (stands is_assign all 2) (with_target all name (path all 3)) 2 3 (λ at. goes_on_from (path_end all at) (line_end all)) (target_of all name 3 (path all 3))))

-- variables
assigned_ends : (all : List Lexeme) (at : ℕ) (eager export : Bool) → is_some (assignment_at all at eager export) ≡ is_ok (assignment_end all at)
unfolding assignment_at
assigned_ends all at eager export =
    let two : at + 2 ≡ at + 1 + 1 = omega arith in
    named all at (assignment_in_line all at eager export) (λ at. goes_on_from (mark_end is_assign all at) (whole_end all)) refl
    (λ name. chosen (stands is_assign all (at + 1)) (assigned name eager export (whole_expression all (at + 2))) (at + 1) (at + 1 + 1) (whole_end all)
    (whole all (at + 2) (assigned name eager export) refl (λ e. refl) ∙ ap (λ n. is_ok (whole_end all n)) two))

assign_is_no_name : (k : Kind) → is_assign k ≡ true → is_name_kind k ≡ false
assign_is_no_name kind.Assign h = refl
assign_is_no_name _ h = absurd (false≢true h)

no_name_there : (o : Option Lexeme) → stands_there is_assign o ≡ true → stands_there is_name_kind o ≡ false
no_name_there None h = refl
no_name_there (Some l) h = assign_is_no_name l.kind h

-- with a word before it
prefixed_by : (b : Bool) (all : List Lexeme) (it : List ℕ) → word_at it all 0 ≡ b → is_ok (prefixed_end it all) ≡ (if b then is_ok (assignment_end all 1) else false)
prefixed_by true all it is = ap (λ c. is_ok (goes_on_from (if c then Ok 1 else Err 0) (assignment_end all))) is
prefixed_by false all it is = ap (λ c. is_ok (goes_on_from (if c then Ok 1 else Err 0) (assignment_end all))) is

no_second : (all : List Lexeme) → stands is_assign all 1 ≡ true → is_ok (assignment_end all 1) ≡ false
no_second all h = ap (λ b. is_ok (goes_on_from (if b then Ok 2 else Err 1) (λ at. goes_on_from (mark_end is_assign all at) (whole_end all)))) (no_name_there (slice_get all 1) h)

if_false : (b x : Bool) → x ≡ false → (if b then x else false) ≡ false
if_false true x h = h
if_false false x h = refl

no_prefix : (all : List Lexeme) (it : List ℕ) → stands is_assign all 1 ≡ true → is_ok (prefixed_end it all) ≡ false
no_prefix all it h = prefixed_by (word_at it all 0) all it refl ∙ if_false (word_at it all 0) (is_ok (assignment_end all 1)) (no_second all h)

no_assign_by : (b c : Bool) (all : List Lexeme) → c ≡ false → is_ok (goes_on_from (if b then Ok 1 else Err 0) (λ (at : ℕ). goes_on_from (if c then Ok 2 else Err 1) (whole_end all))) ≡ false
no_assign_by true true all h = absurd (false≢true (sym h))
no_assign_by true false all h = refl
no_assign_by false c all h = refl

name_only : (b : Bool) (r : Result ℕ ℕ) (more : ℕ → Result ℕ ℕ) → is_ok (more 1) ≡ false → is_ok (goes_on_from (if b then Ok 1 else Err 0) more) ≡ false
name_only true r more h = h
name_only false r more h = refl

no_first : (all : List Lexeme) → stands is_assign all 1 ≡ false → is_ok (assignment_end all 0) ≡ false
no_first all h =
    name_only (stands is_name_kind all 0) (Ok 1) (λ at. goes_on_from (mark_end is_assign all at) (whole_end all)) (ap (λ b. is_ok (goes_on_from (if b then Ok 2 else Err 1) (whole_end all))) h)

differs : (name : Option Name) → is_word (codes "export") name ≡ true → is_word (codes "eager") name ≡ false
differs None h = refl
differs (Some name) h = ap (λ t. bytes_eq t (codes "eager")) ((bytes_eq-Decides (lexeme name.token) (codes "export")).0 h)

-- the first of three, or another
first_of_three : (a b c x : Bool) → x ≡ a → b ≡ false → c ≡ false → x ≡ (a || (b || c))
first_of_three true b c x same second third = same
first_of_three false b c x same second third = same ∙ sym second ∙ either b c third
  where
    either : (b c : Bool) → c ≡ false → b ≡ (b || c)
    either true c h = refl
    either false c h = sym h

second_of_three : (a b c x : Bool) → x ≡ b → a ≡ false → c ≡ false → x ≡ (a || (b || c))
second_of_three a b c x same first third = same ∙ either b c third ∙ ap (λ o. o || (b || c)) (sym first)
  where
    either : (b c : Bool) → c ≡ false → b ≡ (b || c)
    either true c h = refl
    either false c h = sym h

third_of_three : (a b c x : Bool) → x ≡ c → a ≡ false → b ≡ false → x ≡ (a || (b || c))
third_of_three a b c x same first second = same ∙ ap (λ o. o || c) (sym second) ∙ ap (λ o. o || (b || c)) (sym first)

variable_by : (all : List Lexeme) (b c d : Bool) → stands is_assign all 1 ≡ b → word_at (codes "export") all 0 ≡ c → word_at (codes "eager") all 0 ≡ d
    → is_some (if b then assignment_at all 0 false false else (if c then assignment_at all 1 false true else (if d then assignment_at all 1 true false else None)))
    ≡ (is_ok (assignment_end all 0) || (is_ok (prefixed_end (codes "export") all) || is_ok (prefixed_end (codes "eager") all)))
variable_by all true c d assign export eager =
    first_of_three (is_ok (assignment_end all 0)) (is_ok (prefixed_end (codes "export") all)) (is_ok (prefixed_end (codes "eager") all)) (is_some (assignment_at all 0 false false))
    (assigned_ends all 0 false false) (no_prefix all (codes "export") assign) (no_prefix all (codes "eager") assign)
variable_by all false true d assign export eager =
    second_of_three (is_ok (assignment_end all 0)) (is_ok (prefixed_end (codes "export") all)) (is_ok (prefixed_end (codes "eager") all)) (is_some (assignment_at all 1 false true))
    (assigned_ends all 1 false true ∙ sym (prefixed_by true all (codes "export") export)) (no_first all assign)
    (prefixed_by false all (codes "eager") (differs (read_name_at all 0) export))
variable_by all false false true assign export eager =
    third_of_three (is_ok (assignment_end all 0)) (is_ok (prefixed_end (codes "export") all)) (is_ok (prefixed_end (codes "eager") all)) (is_some (assignment_at all 1 true false))
    (assigned_ends all 1 true false ∙ sym (prefixed_by true all (codes "eager") eager)) (no_first all assign) (prefixed_by false all (codes "export") export)
variable_by all false false false assign export eager =
    third_of_three (is_ok (assignment_end all 0)) (is_ok (prefixed_end (codes "export") all)) (is_ok (prefixed_end (codes "eager") all)) false
    (sym (prefixed_by false all (codes "eager") eager)) (no_first all assign) (prefixed_by false all (codes "export") export)

pub variables : (all : List Lexeme) → is_some (assignment all) ≡ (is_ok (assignment_end all 0) || (is_ok (prefixed_end (codes "export") all) || is_ok (prefixed_end (codes "eager") all)))
variables all = variable_by all (stands is_assign all 1) (word_at (codes "export") all 0) (word_at (codes "eager") all 0) refl refl refl
