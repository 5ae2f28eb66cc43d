-- A line is none of the grammar exactly where it is read to its end as none of its kinds.
use Rattle.std.proofs.Common.{suc, zero, ◌≡◌, ℕ, ◌+◌, ◌-◌, sym, ◌∙◌, refl, List, [], ◌∷◌, length, take, drop, Bool, true, false, arith, length-drop, length-take, Option, Some, None}
use Rattle.std.specs.Prelude.{if◌then◌else◌, ◌==◌, ◌||◌, ◌&&◌, not, codes, is_some, is_ok}
use Rattle.std.specs.Option.{option_map}
use Rattle.std.proofs.lemmas.Bool.{false≢true}
use Rattle.just_names.specs.Token.{Place}
use Rattle.just_bench_expressions.specs.declared.lexer.Kind.{Kind}
use Rattle.just_bench_expressions.specs.declared.lexer.Lexeme.{Lexeme}
use Rattle.just_bench_expressions.specs.declared.lines.TextLine.{TextLine}
use Rattle.just_bench_expressions.specs.Lexemes.{before, first, is_blank, lexed_from, lexed_to, lexemes, lexemes_from, past}
use Rattle.just_bench_lines.specs.declared.body.Part.{Part}
use Rattle.just_bench_lines.specs.declared.meaning.Meaning.TheVariants as meanings
use Rattle.just_bench_lines.specs.declared.meaning.Statement.{Statement}
use Rattle.just_bench_lines.specs.declared.meaning.Statement.TheVariants as statements
use Rattle.just_bench_lines.specs.Alias.{alias_line}
use Rattle.just_bench_lines.specs.Attributes.{attribute}
use Rattle.just_bench_lines.specs.Body.{before_others, body_line, interpolated, interpolation, interpolation_of, line_of_parts, part, parts_from}
use Rattle.just_bench_lines.specs.Definitions as definitions
use Rattle.just_bench_lines.specs.Heading.{heading_in_line}
use Rattle.just_bench_lines.specs.Meaning as meaning
use Rattle.just_bench_lines.proofs.Apart.{aliases_told, assignments_stated, functions_stated, headings_told, imports_stated, marks_told, modules_told, sets_stated, statements_told, unexports_stated}
use Rattle.just_bench_stops.specs.declared.stops.Form.{Form}
use Rattle.just_bench_stops.specs.declared.stops.Form.TheVariants as form
use Rattle.just_bench_stops.specs.Body.{bad_from, bad_part, or_later}
use Rattle.just_bench_stops.specs.Definitions.{assignment_end, prefixed_end, whole_end}
use Rattle.just_bench_stops.specs.Stops.{form_end}
use Rattle.just_bench_stops.specs.Tokens.{lexemes_between, or_nothing}
use Rattle.just_bench_stops.proofs.Bracketed.{attributes_agree}
use Rattle.just_bench_stops.proofs.Ends.{aliases, imports, modules, unexports, variables, whole}
use Rattle.just_bench_stops.proofs.Functions.{functions}
use Rattle.just_bench_stops.proofs.Headed.{headings_agree}
use Rattle.just_bench_stops.proofs.Settings.{settings_agree}

-- what cannot be there is not read
unread : {A : Type 0} (o : Option A) (b : Bool) → is_some o ≡ b → ((x : A) → o ≡ Some x → ⊥) → b ≡ false
unread None b is never = sym is
unread (Some x) b is never = absurd (never x refl)

either_false : (a b : Bool) → (a || b) ≡ false → (a ≡ false) × (b ≡ false)
either_false true b h = absurd (false≢true (sym h))
either_false false b h = (refl, h)

module _ (all : List Lexeme) (bad : meaning.sorted all ≡ meanings.Bad) where
  no_statement : (s : Statement) → meaning.statement all ≡ Some s → ⊥
  no_statement s is = let told = statements_told all s is in cc

  no_variable : (is_ok (assignment_end all 0) ≡ false) × ((is_ok (prefixed_end (codes "export") all) ≡ false) × (is_ok (prefixed_end (codes "eager") all) ≡ false))
  no_variable =
      let none = unread (definitions.assignment all) (is_ok (assignment_end all 0) || (is_ok (prefixed_end (codes "export") all) || is_ok (prefixed_end (codes "eager") all))) (variables all)
      (λ a is. no_statement (statements.Assigns a) (assignments_stated all a is)) in
      let parts = either_false (is_ok (assignment_end all 0)) (is_ok (prefixed_end (codes "export") all) || is_ok (prefixed_end (codes "eager") all)) none in
      (parts.0, either_false (is_ok (prefixed_end (codes "export") all)) (is_ok (prefixed_end (codes "eager") all)) parts.1)

  pub bad_unended : (it : Form) → is_ok (form_end it all) ≡ false
  unfolding form_end
  bad_unended form.Import = unread (meaning.import all) _ (imports all) (λ s is. no_statement s (imports_stated all s is))
  bad_unended form.Module = unread (meaning.module_line all) _ (modules all) (λ d is. let told = modules_told all d is in cc)
  bad_unended form.Setting = unread (definitions.set all) _ (settings_agree all) (λ s is. no_statement (statements.Sets s) (sets_stated all s is))
  bad_unended form.Unexport = unread (definitions.unexport all) _ (unexports all) (λ n is. no_statement (statements.Unexports n) (unexports_stated all n is))
  bad_unended form.Assignment = no_variable.0
  bad_unended form.Export = no_variable.1.0
  bad_unended form.Eager = no_variable.1.1
  bad_unended form.Function = unread (definitions.function all) _ (functions all) (λ f is. no_statement (statements.Defines f) (functions_stated all f is))
  bad_unended form.Alias = unread (alias_line all) _ (aliases all) (λ a is. let told = aliases_told all a is in cc)
  bad_unended form.Attribute = unread (attribute all) _ (attributes_agree all) (λ m is. let told = marks_told all m is in cc)
  bad_unended form.Heading = unread (heading_in_line all) _ (headings_agree all) (λ h is. let told = headings_told all h is in cc)

-- what is not read is not there
none_read : {A : Type 0} (o : Option A) → is_some o ≡ false → o ≡ None
none_read None h = refl
none_read (Some x) h = absurd (false≢true (sym h))

module _ (all : List Lexeme) (unended : (it : Form) → is_ok (form_end it all) ≡ false) where
  ends_not : (it : Form) {b : Bool} → is_ok (form_end it all) ≡ b → b ≡ false
  ends_not it is = sym is ∙ unended it

  no_import : meaning.import all ≡ None
  unfolding form_end
  no_import = none_read (meaning.import all) (imports all ∙ unended form.Import)

  no_module : meaning.module_line all ≡ None
  unfolding form_end
  no_module = none_read (meaning.module_line all) (modules all ∙ unended form.Module)

  no_set : definitions.set all ≡ None
  unfolding form_end
  no_set = none_read (definitions.set all) (settings_agree all ∙ unended form.Setting)

  no_unexport : definitions.unexport all ≡ None
  unfolding form_end
  no_unexport = none_read (definitions.unexport all) (unexports all ∙ unended form.Unexport)

  three : (a b c : Bool) → a ≡ false → b ≡ false → c ≡ false → (a || (b || c)) ≡ false
  three a b c first second third = rw (first, second) third

  no_assignment : definitions.assignment all ≡ None
  unfolding form_end
  no_assignment =
      none_read (definitions.assignment all)
      (variables all ∙ three (is_ok (assignment_end all 0)) (is_ok (prefixed_end (codes "export") all)) (is_ok (prefixed_end (codes "eager") all)) (unended form.Assignment) (unended form.Export) (unended form.Eager))

  no_function : definitions.function all ≡ None
  unfolding form_end
  no_function = none_read (definitions.function all) (functions all ∙ unended form.Function)

  no_alias : alias_line all ≡ None
  unfolding form_end
  no_alias = none_read (alias_line all) (aliases all ∙ unended form.Alias)

  no_attribute : attribute all ≡ None
  unfolding form_end
  no_attribute = none_read (attribute all) (attributes_agree all ∙ unended form.Attribute)

  no_heading : heading_in_line all ≡ None
  unfolding form_end
  no_heading = none_read (heading_in_line all) (headings_agree all ∙ unended form.Heading)

  none_stated : meaning.statement all ≡ None
  unfolding meaning.statement
  none_stated = rw (no_import, no_set, no_unexport, no_assignment, no_function) refl

  pub unended_bad : meaning.sorted all ≡ meanings.Bad
  unfolding meaning.sorted
  unended_bad = rw (no_module, no_attribute, no_alias, none_stated, no_heading) refl

-- The lexemes of a line go to its end exactly where each part is one.
mapped : {A B : Type 0} (f : A → B) (o : Option A) → is_some (option_map f o) ≡ is_some o
mapped f None = refl
mapped f (Some x) = refl

one_more : (m n : ℕ) → (m == n) ≡ (m + 1 == suc n)
one_more m n = grind arith

none_more : (n : ℕ) → false ≡ (0 == suc n)
none_more n = grind arith

either_reads : (b : Bool) (x y : Option (List Lexeme)) (m n k : ℕ) → is_some x ≡ (m == k) → is_some y ≡ (n == k) → is_some (if b then x else y) ≡ ((if b then m else n) == k)
either_reads true x y m n k h i = h
either_reads false x y m n k h i = i

before_reads : (token : ℕ → ℕ → Place) (at n : ℕ) (found : Option (Kind × ℕ)) (others : ℕ → Option (List Lexeme)) (more : ℕ → ℕ) → ((m : ℕ) → is_some (others m) ≡ (more m == n))
    → is_some (before token at found others) ≡ (past found more == suc n)
before_reads token at n None others more h = none_more n
before_reads token at n (Some found) others more h =
    mapped (λ ls. record { kind = found.0; token = token at found.1 } ∷ ls) (others (found.1 - 1)) ∙ h (found.1 - 1) ∙ one_more (more (found.1 - 1)) n

from_reads : (token : ℕ → ℕ → Place) (at skip : ℕ) (bytes : List ℕ) → is_some (lexemes_from token at skip bytes) ≡ (lexed_from skip bytes == length bytes)
from_reads token at skip [] = refl
from_reads token at (suc skip) (b ∷ rest) = from_reads token (at + 1) skip rest ∙ one_more (lexed_from skip rest) (length rest)
from_reads token at zero (b ∷ rest) =
    either_reads (is_blank b) (lexemes_from token (at + 1) 0 rest) (before token at (first (b ∷ rest)) (λ more. lexemes_from token (at + 1) more rest)) (lexed_from 0 rest + 1) (past (first (b ∷ rest)) (λ more. lexed_from more rest)) (suc (length rest))
    (from_reads token (at + 1) 0 rest ∙ one_more (lexed_from 0 rest) (length rest))
    (before_reads token at (length rest) (first (b ∷ rest)) (λ more. lexemes_from token (at + 1) more rest) (λ more. lexed_from more rest) (λ m. from_reads token (at + 1) m rest))

whole_text : (line : TextLine) → length (drop 0 (take (length line.text) line.text)) ≡ length line.text
whole_text line = omega (arith, length-drop 0 (take (length line.text) line.text), length-take (length line.text) line.text)

from_start : (m n k : ℕ) → n ≡ k → (m == n) ≡ (0 + m == k)
from_start m n k same = grind (arith, same)

pub lexemes_reach : (path text : List ℕ) (line : TextLine) → is_some (lexemes path text line 0 (length line.text)) ≡ (lexed_to line 0 (length line.text) == length line.text)
unfolding lexemes lexed_to
lexemes_reach path text line =
    let bytes = drop 0 (take (length line.text) line.text) in
    from_reads (λ column size. record { line = line.number; column = column; offset = line.offset + column; length = size; path = path; src = text }) 0 0 bytes
    ∙ from_start (lexed_from 0 bytes) (length bytes) (length line.text) (whole_text line)

-- A line of a body is one exactly where each part is one.
parted : (at : ℕ) (o : Option Part) (others : ℕ → Option (List Part)) (more : ℕ → Option ℕ) → ((n : ℕ) → is_some (others n) ≡ not (is_some (more n))) → is_some (before_others at o others) ≡ not (is_some (or_later at o more))
parted at None others more h = refl
parted at (Some found) others more h = mapped (λ ps. found ∷ ps) (others (found.end - (at + 1))) ∙ h (found.end - (at + 1))

parts_or_bad : (one : ℕ → Option Part) (at skip : ℕ) (bytes : List ℕ) → is_some (parts_from one at skip bytes) ≡ not (is_some (bad_from one at skip bytes))
parts_or_bad one at skip [] = refl
parts_or_bad one at (suc skip) (b ∷ rest) = parts_or_bad one (at + 1) skip rest
parts_or_bad one at zero (b ∷ rest) = parted at (one at) (λ n. parts_from one (at + 1) n rest) (λ n. bad_from one (at + 1) n rest) (λ n. parts_or_bad one (at + 1) n rest)

pub lines_or_bad : (path text : List ℕ) (line : TextLine) (start : ℕ) → is_some (body_line path text line start) ≡ not (is_some (bad_part path text line start))
unfolding body_line bad_part
lines_or_bad path text line start =
    mapped (line_of_parts line.number) (parts_from (part path text line) start 0 (drop start line.text)) ∙ parts_or_bad (part path text line) start 0 (drop start line.text)

-- An interpolation is one exactly where its parts are all lexemes and its expression goes to its end.
interpolation_by : (end : ℕ) (o : Option (List Lexeme)) → is_some (interpolation_of end o) ≡ (is_some o && is_ok (whole_end (or_nothing o) 0))
interpolation_by end None = refl
interpolation_by end (Some all) = whole all 0 (interpolated all end) refl (λ e. refl)

pub interpolations : (path text : List ℕ) (line : TextLine) (start end : ℕ)
    → is_some (interpolation path text line start end) ≡ (is_some (lexemes path text line start end) && is_ok (whole_end (lexemes_between path text line start end) 0))
interpolations path text line start end = interpolation_by end (lexemes path text line start end)
