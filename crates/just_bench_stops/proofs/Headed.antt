-- What reads as the heading of a recipe is read to its end as one.
use Rattle.std.proofs.Common.{inl, inr, ◌⊎◌, zero, suc, ◌≡◌, ℕ, ◌+◌, ◌*◌, ◌<◌, ◌≤◌, sym, ◌∙◌, ap, refl, subst, List, [], ◌∷◌, ◌++◌, length, drop, Bool, true, false, arith, length-drop, Option, Some, None, Result, Ok, Err}
use Rattle.std.specs.Prelude.{IfSome, if◌then◌else◌, ◌==◌, ◌||◌, not, is_some, is_ok}
use Rattle.std.specs.List.{slice_get}
use Rattle.std.proofs.lemmas.Bool.{cases_lt, false≢true}
use Rattle.std.proofs.lemmas.List.Folds.{list_any-append}
use Rattle.std.proofs.lemmas.Option.{slice_get_past, slice_get_within}
use Rattle.just_names.specs.declared.name.Name.{Name}
use Rattle.just_names.specs.declared.name.Namepath.{Namepath}
use Rattle.just_ast_definitions.specs.declared.parameter.Parameter.{Parameter}
use Rattle.just_ast_definitions.specs.declared.parameter.ParameterKind.{ParameterKind}
use Rattle.just_ast_definitions.specs.declared.parameter.ParameterKind.TheVariants as parameter_kind
use Rattle.just_recipe.specs.declared.dependency.DependencyArgument.{DependencyArgument}
use Rattle.just_recipe.specs.declared.dependency.UnresolvedDependency.{UnresolvedDependency}
use Rattle.just_recipe.specs.Starred.{has_star}
use Rattle.just_bench_expressions.specs.declared.expressions.Found.{Found}
use Rattle.just_bench_expressions.specs.declared.lexer.Kind.{Kind}
use Rattle.just_bench_expressions.specs.declared.lexer.Kind.TheVariants as kind
use Rattle.just_bench_expressions.specs.declared.lexer.Lexeme.{Lexeme}
use Rattle.just_bench_expressions.specs.Expressions as spec
use Rattle.just_bench_expressions.proofs.Ending.{expression_agrees}
use Rattle.just_bench_expressions.proofs.Reading.{expression_from, expression_within}
use Rattle.just_bench_lines.specs.Dependencies as lines
use Rattle.just_bench_lines.specs.Heading as heading
use Rattle.just_bench_lines.specs.Parts.{parts_from}
use Rattle.just_bench_lines.specs.Path.{and_names, joined_names, path, path_from, separated, separates}
use Rattle.just_bench_lines.specs.Places.{GoesOn, is_and, is_at_sign, is_colon, is_equals, is_name_kind, is_paren_close, is_paren_open, is_plus, is_star, read_name_at, name_there, stands, stands_there}
use Rattle.just_bench_lines.proofs.Fronts.{Front, front}
use Rattle.just_bench_lines.proofs.Parts as made
use Rattle.just_bench_stops.specs.declared.halt.Halt.TheVariants as halt
use Rattle.just_bench_stops.specs.declared.parts.Part.TheVariants as part_kind
use Rattle.just_bench_stops.specs.Heading as ends
use Rattle.just_bench_stops.specs.Marks.{goes_on_from, line_end, mark_end, path_end, path_end_by}
use Rattle.just_bench_stops.specs.Parts.{default_end, dependencies_end, dependency_end, given_end, part_end, parts_end, starred_end}
use Rattle.just_bench_stops.proofs.Alike.{Alike, Both, Stuck, parts_both}
use Rattle.just_bench_stops.proofs.Ends.{named, separated_inside}
use Rattle.just_bench_stops.proofs.Walks as gone

-- An expression does not begin with every lexeme.
abbrev begins : Kind → Bool
begins kind.Name = true
begins kind.Quoted = true
begins kind.ParenOpen = true
begins kind.BracketOpen = true
begins _ = false

no_begin_by : (k : Kind) (all : List Lexeme) (at end : ℕ) (l : Lexeme) (call : Bool) → begins k ≡ false → spec.begun_by k all at end spec.unread l call ≡ None
no_begin_by kind.Name all at end l call h = absurd (false≢true (sym h))
no_begin_by kind.Quoted all at end l call h = absurd (false≢true (sym h))
no_begin_by kind.ParenOpen all at end l call h = absurd (false≢true (sym h))
no_begin_by kind.BracketOpen all at end l call h = absurd (false≢true (sym h))
no_begin_by _ all at end l call h = refl

no_step : (all : List Lexeme) (at end : ℕ) (l : Lexeme) (call : Bool) → begins l.kind ≡ false → spec.read_step all at end spec.unread l call ≡ None
unfolding spec.read_step spec.begun_expression
no_step all at end l call h = no_begin_by l.kind all at end l call h

no_operand_at : (all : List Lexeme) (at : ℕ) (l : Lexeme) → Front all at l → begins l.kind ≡ false → spec.expression false all at ≡ None
unfolding spec.expression
no_operand_at all at l f h =
    ap (spec.read false all at spec.unread) f.dropped
    ∙ ap (λ o. spec.onward o (λ next. spec.read false all (at + 1) next (drop (at + 1) all))) (no_step all at (at + 1) l (spec.opens_call (drop (at + 1) all)) h)

-- a lexeme that stands at a place is of no other kind
pub only : (test is : Kind → Bool) (k : Kind) → ((c : Kind) → test c ≡ true → c ≡ k) → is k ≡ false → (o : Option Lexeme) → stands_there test o ≡ true → stands_there is o ≡ false
only test is k one other None h = refl
only test is k one other (Some l) h = ap is (one l.kind h) ∙ other

star_is : (k : Kind) → is_star k ≡ true → k ≡ kind.Star
star_is kind.Star h = refl
star_is _ h = absurd (false≢true h)

close_is : (k : Kind) → is_paren_close k ≡ true → k ≡ kind.ParenClose
close_is kind.ParenClose h = refl
close_is _ h = absurd (false≢true h)

colon_is : (k : Kind) → is_colon k ≡ true → k ≡ kind.Colon
colon_is kind.Colon h = refl
colon_is _ h = absurd (false≢true h)

and_is : (k : Kind) → is_and k ≡ true → k ≡ kind.And
and_is kind.And h = refl
and_is _ h = absurd (false≢true h)

no_operand_of : (all : List Lexeme) (at : ℕ) (o : Option Lexeme) → slice_get all at ≡ o → at < length all → stands_there begins o ≡ false → spec.expression false all at ≡ None
no_operand_of all at None is within h =
    let f = front all at within in
    let none : None ≡ Some f.0 = sym is ∙ f.1.there in
    cc
no_operand_of all at (Some l) is within h =
    let f = front all at within in
    let both : Some f.0 ≡ Some l = sym f.1.there ∙ is in
    let same : f.0 ≡ l = cc in
    no_operand_at all at f.0 f.1 (ap (λ (x : Lexeme). begins x.kind) same ∙ h)

-- where there is none, reading stops
ends_none : (r : Result ℕ ℕ) → spec.EndsWith None r → (e : ℕ) × (Err e ≡ r)
ends_none (Ok end) h = absurd h
ends_none (Err e) h = (e, refl)

no_end : (all : List Lexeme) (at : ℕ) → spec.expression false all at ≡ None → (e : ℕ) × (Err e ≡ spec.expression_end false all at)
no_end all at none = ends_none (spec.expression_end false all at) (subst (λ o. spec.EndsWith o (spec.expression_end false all at)) none (expression_agrees false all at))

-- Parameters.
module _ (all : List Lexeme) where
  abbrev Parameters : ℕ → Option (Parameter × ℕ) → Result ℕ ℕ → Type 0
  Parameters at = Alike is_colon heading.parameter all at

  default_found : (at n : ℕ) (name : Name) (k : ParameterKind) (found : Option Found) (end : Result ℕ ℕ) → at < n → spec.EndsWith found end → IfSome found (λ f. n ≤ f.end) → IfSome found (λ f. f.end ≤ length all)
      → Parameters at (heading.with_default name k found) end
  default_found at n name k None (Ok end) h e from within = absurd e
  default_found at n name k None (Err stop) h e from within = tt
  default_found at n name k (Some found) (Err stop) h e from within = absurd e
  default_found at n name k (Some found) (Ok end) h e from within = (e, record { onward = omega (arith, h, e, from); within = omega (arith, e, within) })

  default_by : (b : Bool) (at n : ℕ) (name : Name) (k : ParameterKind) → at ≤ n → n < length all
      → Parameters at (if b then heading.with_default name k (spec.expression false all (n + 2)) else Some (heading.made_of name k None, n + 1)) (if b then spec.expression_end false all (n + 1 + 1) else Ok (n + 1))
  default_by true at n name k h within =
      let two : n + 1 + 1 ≡ n + 2 = omega arith in
      subst (λ m. Parameters at (heading.with_default name k (spec.expression false all (n + 2))) (spec.expression_end false all m)) (sym two)
      (default_found at (n + 2 + 1) name k (spec.expression false all (n + 2)) (spec.expression_end false all (n + 2)) (omega (arith, h)) (expression_agrees false all (n + 2)) (expression_from false all (n + 2)) (expression_within false all (n + 2)))
  default_by false at n name k h within = (refl, record { onward = omega (arith, h); within = omega (arith, within) })

  name_by : (b : Bool) (at n : ℕ) (name : Name) (k : ParameterKind) → at ≤ n → n < length all
      → Parameters at (heading.parameter_by_name all n k (if b then Some name else None)) (goes_on_from (if b then Ok (n + 1) else Err n) (λ end. default_end all end))
  name_by true at n name k h within = default_by (stands is_equals all (n + 1)) at n name k h within
  name_by false at n name k h within = tt

  name_of : (at n : ℕ) (k : ParameterKind) (o : Option Lexeme) → slice_get all n ≡ o → at ≤ n
      → Parameters at (heading.parameter_by_name all n k (name_there o)) (goes_on_from (if stands_there is_name_kind o then Ok (n + 1) else Err n) (λ end. default_end all end))
  name_of at n k None is h = tt
  name_of at n k (Some l) is h = name_by (is_name_kind l.kind) at n (record { token = l.token }) k h (slice_get_within all n l is)

  named_alike : (at n : ℕ) (k : ParameterKind) → at ≤ n → Parameters at (heading.named_parameter all n k) (goes_on_from (mark_end is_name_kind all n) (λ end. default_end all end))
  unfolding heading.named_parameter
  named_alike at n k h = name_of at n k (slice_get all n) refl h

  sign_by : (s p : Bool) (at : ℕ)
      → Parameters at (if s then heading.named_parameter all (at + 1) parameter_kind.Star else (if p then heading.named_parameter all (at + 1) parameter_kind.Plus else heading.named_parameter all at parameter_kind.Singular))
      (goes_on_from (mark_end is_name_kind all (if s then at + 1 else (if p then at + 1 else at))) (λ end. default_end all end))
  sign_by true p at = named_alike at (at + 1) parameter_kind.Star (omega arith)
  sign_by false true at = named_alike at (at + 1) parameter_kind.Plus (omega arith)
  sign_by false false at = named_alike at at parameter_kind.Singular (omega arith)

  parameter_alike : (at : ℕ) → Parameters at (heading.parameter all at) (part_end part_kind.Parameter all at)
  unfolding heading.parameter part_end
  parameter_alike at = sign_by (stands is_star all at) (stands is_plus all at) at

  parameters_both : (at : ℕ) → Both false all at (heading.parameters all at) (parts_end false is_colon (part_end part_kind.Parameter) all at)
  parameters_both at = parts_both false is_colon heading.parameter (part_end part_kind.Parameter) all (λ n within sharp. parameter_alike n) at

  -- Arguments.
  abbrev Arguments : ℕ → Option (DependencyArgument × ℕ) → Result ℕ ℕ → Type 0
  Arguments at = Alike is_paren_close lines.argument all at

  argument_found : (at n : ℕ) (starred : Bool) (found : Option Found) (end : Result ℕ ℕ) → at < n → spec.EndsWith found end → IfSome found (λ f. n ≤ f.end) → IfSome found (λ f. f.end ≤ length all)
      → Arguments at (lines.argument_in_line starred found) end
  argument_found at n starred None (Ok end) h e from within = absurd e
  argument_found at n starred None (Err stop) h e from within = tt
  argument_found at n starred (Some found) (Err stop) h e from within = absurd e
  argument_found at n starred (Some found) (Ok end) h e from within = (e, record { onward = omega (arith, h, e, from); within = omega (arith, e, within) })

  operand_alike : (at n : ℕ) (starred : Bool) → at ≤ n → Arguments at (lines.argument_in_line starred (spec.expression false all n)) (spec.expression_end false all n)
  operand_alike at n starred h =
      argument_found at (n + 1) starred (spec.expression false all n) (spec.expression_end false all n) (omega (arith, h)) (expression_agrees false all n) (expression_from false all n) (expression_within false all n)

  star_by : (b : Bool) (at : ℕ) → Arguments at (if b then lines.argument_in_line true (spec.expression false all (at + 1)) else lines.argument_in_line false (spec.expression false all at))
      (if b then spec.expression_end false all (at + 1) else spec.expression_end false all at)
  star_by true at = operand_alike at (at + 1) true (omega arith)
  star_by false at = operand_alike at at false (omega arith)

  argument_alike : (at : ℕ) → Arguments at (lines.argument all at) (part_end part_kind.Argument all at)
  unfolding lines.argument part_end
  argument_alike at = star_by (stands is_star all at) at

  arguments_both : (at : ℕ) → Both false all at (lines.arguments all at) (parts_end false is_paren_close (part_end part_kind.Argument) all at)
  arguments_both at = parts_both false is_paren_close lines.argument (part_end part_kind.Argument) all (λ n within close. argument_alike n) at

  -- one without a star, and one with it
  plain_argument : (at : ℕ) → stands is_star all at ≡ false → lines.argument all at ≡ lines.argument_in_line false (spec.expression false all at)
  unfolding lines.argument
  plain_argument at h = ap (λ b. if b then lines.argument_in_line true (spec.expression false all (at + 1)) else lines.argument_in_line false (spec.expression false all at)) h

  starred_argument : (at : ℕ) → stands is_star all at ≡ true → lines.argument all at ≡ lines.argument_in_line true (spec.expression false all (at + 1))
  unfolding lines.argument
  starred_argument at h = ap (λ b. if b then lines.argument_in_line true (spec.expression false all (at + 1)) else lines.argument_in_line false (spec.expression false all at)) h

  abbrev Starred : Bool → Option (DependencyArgument × ℕ) → Type 0
  Starred b o = IfSome o (λ f. f.0.starred ≡ b)

  by_starred : (b : Bool) (found : Option Found) → Starred b (lines.argument_in_line b found)
  by_starred b None = tt
  by_starred b (Some found) = refl

  plain_is : (at : ℕ) → stands is_star all at ≡ false → Starred false (lines.argument all at)
  plain_is at h = subst (Starred false) (sym (plain_argument at h)) (by_starred false (spec.expression false all at))

  starred_is : (at : ℕ) → stands is_star all at ≡ true → Starred true (lines.argument all at)
  starred_is at h = subst (Starred true) (sym (starred_argument at h)) (by_starred true (spec.expression false all (at + 1)))

  -- an argument without a star ends as an operand
  operand_is : (at : ℕ) → stands is_star all at ≡ false → Arguments at (lines.argument all at) (part_end part_kind.Operand all at)
  unfolding part_end
  operand_is at h = subst (λ o. Arguments at o (spec.expression_end false all at)) (sym (plain_argument at h)) (operand_alike at at false (omega arith))

  -- no operand
  no_operand : (at : ℕ) → at < length all → stands begins all at ≡ false → (e : ℕ) × (Err e ≡ part_end part_kind.Operand all at)
  unfolding part_end
  no_operand at within h = no_end all at (no_operand_of all at (slice_get all at) refl within h)

  -- arguments of which one has a star
  or_true : (a b : Bool) → b ≡ true → (a || (b || false)) ≡ true
  or_true true b h = refl
  or_true false true h = refl
  or_true false false h = h

  or_false : (a b : Bool) → a ≡ false → b ≡ false → (a || (b || false)) ≡ false
  or_false true b h k = h
  or_false false true h k = k
  or_false false false h k = refl

  starred_more : (args : List DependencyArgument) (a : DependencyArgument) → has_star (args ++ a ∷ []) ≡ (has_star args || (a.starred || false))
  starred_more args a = list_any-append (λ (x : DependencyArgument). x.starred) args (a ∷ [])

  abbrev HasStar : Option (List DependencyArgument × ℕ) → Type 0
  HasStar o = IfSome o (λ f. has_star f.0 ≡ true)

  after_star : (args : List DependencyArgument) (o : Option (List DependencyArgument × ℕ)) → has_star args ≡ true → HasStar (made.after_those args o)
  after_star args None h = tt
  after_star args (Some more) h = list_any-append (λ (x : DependencyArgument). x.starred) args more.0 ∙ ap (λ b. b || has_star more.0) h

  abbrev Read : ℕ → List DependencyArgument → ℕ → Type 0
  Read start args at = made.Parts false is_paren_close lines.argument all start args at

  grown_star : (start at : ℕ) (args : List DependencyArgument) → Read start args at → has_star args ≡ true → HasStar (lines.arguments all start)
  grown_star start at args so_far h = subst HasStar (sym so_far.whole) (after_star args (parts_from false is_paren_close lines.argument all at 0 (drop at all)) h)

  argument_on : (at : ℕ) (o : Option (DependencyArgument × ℕ)) (r : Result ℕ ℕ) → Arguments at o r → IfSome o (λ f. GoesOn all at f.1)
  argument_on at None (Ok end) h = tt
  argument_on at None (Err e) h = tt
  argument_on at (Some found) (Ok end) h = subst (GoesOn all at) (sym h.0) h.1
  argument_on at (Some found) (Err e) h = h.0

  star_by_one : (start at : ℕ) (args : List DependencyArgument) (o : Option (DependencyArgument × ℕ)) → Read start args at → at < length all → stands is_paren_close all at ≡ false → o ≡ lines.argument all at → Starred true o
      → IfSome o (λ f. GoesOn all at f.1) → HasStar (lines.arguments all start)
  star_by_one start at args None so_far within sharp is star on = subst HasStar (made.parts_fail false is_paren_close lines.argument all start args at so_far within sharp is) tt
  star_by_one start at args (Some f) so_far within sharp is star on =
      grown_star start f.1 (args ++ f.0 ∷ []) (made.parts_push false is_paren_close lines.argument all start args at f.0 f.1 (args ++ f.0 ∷ []) so_far within sharp is on refl)
      (starred_more args f.0 ∙ or_true (has_star args) f.0.starred star)

  star_any : (start at : ℕ) (args : List DependencyArgument) → Read start args at → at < length all → stands is_paren_close all at ≡ false → stands is_star all at ≡ true → HasStar (lines.arguments all start)
  star_any start at args so_far within sharp star =
      star_by_one start at args (lines.argument all at) so_far within sharp refl (starred_is at star) (argument_on at (lines.argument all at) (part_end part_kind.Argument all at) (argument_alike at))

  -- without a star
  abbrev Plain : ℕ → Option (List DependencyArgument × ℕ) → Result ℕ ℕ → Type 0
  Plain start None (Ok end) = ⊥
  Plain start None (Err e) = Unit {0}
  Plain start (Some found) (Ok end) = (found.1 ≡ end) × (has_star found.0 ≡ false) × (start ≤ end) × (end < length all)
  Plain start (Some found) (Err e) = has_star found.0 ≡ true

  none_plain : (start : ℕ) (o : Option (List DependencyArgument × ℕ)) (r : Result ℕ ℕ) (e : ℕ) → None ≡ o → Err e ≡ r → Plain start o r
  none_plain start o r e none is = subst (λ (q : Option (List DependencyArgument × ℕ)). Plain start q r) none (subst (Plain start None) is tt)

  star_plain_at : (start e : ℕ) (o : Option (List DependencyArgument × ℕ)) → HasStar o → Plain start o (Err e)
  star_plain_at start e None h = tt
  star_plain_at start e (Some found) h = h

  star_plain : (start : ℕ) (o : Option (List DependencyArgument × ℕ)) (r : Result ℕ ℕ) (e : ℕ) → HasStar o → Err e ≡ r → Plain start o r
  star_plain start o r e h is = subst (Plain start o) is (star_plain_at start e o h)

  some_plain : (start : ℕ) (o : Option (List DependencyArgument × ℕ)) (r : Result ℕ ℕ) (args : List DependencyArgument) (at : ℕ) → Some (args, at) ≡ o → Ok at ≡ r → has_star args ≡ false → start ≤ at → at < length all → Plain start o r
  some_plain start o r args at some is none onward within =
      subst (λ (q : Option (List DependencyArgument × ℕ)). Plain start q r) some (subst (Plain start (Some (args, at))) is (refl, none, onward, within))

  abbrev operands : ℕ → Result ℕ ℕ
  operands start = parts_end false is_paren_close (part_end part_kind.Operand) all start

  abbrev Gone : ℕ → ℕ → Type 0
  Gone start at = gone.Walked false is_paren_close (part_end part_kind.Operand) all start at

  abbrev MorePlain : ℕ → ℕ → Type 0
  MorePlain start at = (next : ℕ) (args : List DependencyArgument) → at < next → Read start args next → Gone start next → has_star args ≡ false → Plain start (lines.arguments all start) (operands start)

  plain_one : (start at : ℕ) (args : List DependencyArgument) (o : Option (DependencyArgument × ℕ)) (r : Result ℕ ℕ) → at < length all → Read start args at → Gone start at → has_star args ≡ false → stands is_paren_close all at ≡ false
      → o ≡ lines.argument all at → r ≡ part_end part_kind.Operand all at → Arguments at o r → Starred false o → MorePlain start at → Plain start (lines.arguments all start) (operands start)
  plain_one start at args None (Ok e) within so_far on none sharp is to alike plain more = absurd alike
  plain_one start at args None (Err e) within so_far on none sharp is to alike plain more =
      none_plain start (lines.arguments all start) (operands start) e (made.parts_fail false is_paren_close lines.argument all start args at so_far within sharp is)
      (gone.parts_fail false is_paren_close (part_end part_kind.Operand) all start at (halt.At e) on within sharp to)
  plain_one start at args (Some f) (Ok e) within so_far on none sharp is to alike plain more =
      more e (args ++ f.0 ∷ []) alike.1.onward
      (made.parts_push false is_paren_close lines.argument all start args at f.0 e (args ++ f.0 ∷ []) so_far within sharp (ap (λ n. Some (f.0, n)) (sym alike.0) ∙ is) alike.1 refl)
      (gone.parts_push false is_paren_close (part_end part_kind.Operand) all start at e on within sharp to alike.1) (starred_more args f.0 ∙ or_false (has_star args) f.0.starred none plain)
  plain_one start at args (Some f) (Err e) within so_far on none sharp is to alike plain more =
      let pushed = made.parts_push false is_paren_close lines.argument all start args at f.0 f.1 (args ++ f.0 ∷ []) so_far within sharp is alike.0 refl in
      none_plain start (lines.arguments all start) (operands start) e (made.parts_fail false is_paren_close lines.argument all start (args ++ f.0 ∷ []) f.1 pushed alike.1.within alike.1.sharp alike.1.none)
      (gone.parts_fail false is_paren_close (part_end part_kind.Operand) all start at (halt.At e) on within sharp to)

  plain_at : (start at : ℕ) (args : List DependencyArgument) (close star : Bool) → at < length all → Read start args at → Gone start at → has_star args ≡ false → stands is_paren_close all at ≡ close → stands is_star all at ≡ star
      → MorePlain start at → Plain start (lines.arguments all start) (operands start)
  plain_at start at args true star within so_far on none close is more =
      some_plain start (lines.arguments all start) (operands start) args at (made.parts_stop false is_paren_close lines.argument all start args at so_far within close)
      (gone.parts_stop false is_paren_close (part_end part_kind.Operand) all start at on within close) none on.onward within
  plain_at start at args false true within so_far on none close is more =
      let stops = no_operand at within (only is_star begins kind.Star star_is refl (slice_get all at) is) in
      star_plain start (lines.arguments all start) (operands start) stops.0 (star_any start at args so_far within close is)
      (gone.parts_fail false is_paren_close (part_end part_kind.Operand) all start at (halt.At stops.0) on within close stops.1)
  plain_at start at args false false within so_far on none close is more =
      plain_one start at args (lines.argument all at) (part_end part_kind.Operand all at) within so_far on none close refl refl (operand_is at is) (plain_is at is) more

  plain_past : (start at : ℕ) (args : List DependencyArgument) → length all ≤ at → Read start args at → Gone start at → Plain start (lines.arguments all start) (operands start)
  plain_past start at args out so_far on =
      none_plain start (lines.arguments all start) (operands start) at (made.parts_cut is_paren_close lines.argument all start args at so_far out)
      (gone.parts_past false is_paren_close (part_end part_kind.Operand) all start at on out)

  plain_walk : (start n at : ℕ) (args : List DependencyArgument) → length all ≤ at + n → Read start args at → Gone start at → has_star args ≡ false → Plain start (lines.arguments all start) (operands start)
  plain_walk start zero at args h so_far on none = plain_past start at args (omega (arith, h)) so_far on
  plain_walk start (suc n) at args h so_far on none = elim (cases_lt at (length all)) [
    | inl within ↦ plain_at start at args (stands is_paren_close all at) (stands is_star all at) within so_far on none refl refl (λ next more less read go k. plain_walk start n next more (omega (arith, h, less)) read go k)
    | inr out ↦ plain_past start at args (omega (arith, out)) so_far on
  ]

  plain_both : (start : ℕ) → Plain start (lines.arguments all start) (operands start)
  plain_both start =
      plain_walk start (length all) start [] (omega arith) (made.parts_start false is_paren_close lines.argument all start [] refl) (gone.parts_start false is_paren_close (part_end part_kind.Operand) all start) refl

  -- with a star
  abbrev Stars : ℕ → Option (List DependencyArgument × ℕ) → Result ℕ ℕ → Type 0
  Stars start None (Ok end) = ⊥
  Stars start None (Err e) = Unit {0}
  Stars start (Some found) (Ok end) = (found.1 ≡ end) × (has_star found.0 ≡ true) × (start ≤ end) × (end < length all)
  Stars start (Some found) (Err e) = has_star found.0 ≡ false

  abbrev behind_star : ℕ → Result ℕ ℕ
  behind_star at = parts_end false is_paren_close (part_end part_kind.Argument) all at

  abbrev stars_end : ℕ → Result ℕ ℕ
  stars_end start = goes_on_from (parts_end false is_star (part_end part_kind.Operand) all start) (λ at. behind_star at)

  abbrev To : ℕ → ℕ → Type 0
  To start at = gone.Walked false is_star (part_end part_kind.Operand) all start at

  none_stars : (start : ℕ) (o : Option (List DependencyArgument × ℕ)) (r : Result ℕ ℕ) (e : ℕ) → None ≡ o → Err e ≡ r → Stars start o (goes_on_from r (λ at. behind_star at))
  none_stars start o r e none is = subst (λ (q : Option (List DependencyArgument × ℕ)). Stars start q (goes_on_from r (λ at. behind_star at))) none (subst (λ q. Stars start None (goes_on_from q (λ at. behind_star at))) is tt)

  unstarred : (start : ℕ) (o : Option (List DependencyArgument × ℕ)) (r : Result ℕ ℕ) (args : List DependencyArgument) (at e : ℕ) → Some (args, at) ≡ o → Err e ≡ r → has_star args ≡ false → Stars start o (goes_on_from r (λ at. behind_star at))
  unstarred start o r args at e some is none =
      subst (λ (q : Option (List DependencyArgument × ℕ)). Stars start q (goes_on_from r (λ at. behind_star at))) some (subst (λ q. Stars start (Some (args, at)) (goes_on_from q (λ at. behind_star at))) is none)

  -- from the first star on
  after_none : (o : Option (List DependencyArgument × ℕ)) → made.after_those [] o ≡ o
  after_none None = refl
  after_none (Some more) = refl

  tail_is : (start at : ℕ) (args : List DependencyArgument) → Read start args at → lines.arguments all start ≡ made.after_those args (lines.arguments all at)
  tail_is start at args so_far =
      let from = made.parts_start false is_paren_close lines.argument all at [] refl in
      so_far.whole ∙ ap (made.after_those args) (sym (after_none (parts_from false is_paren_close lines.argument all at 0 (drop at all))) ∙ sym from.whole)

  is_within : (e : ℕ) → (e < length all) ⊎ (false ≡ true) → e < length all
  is_within e (inl h) = h
  is_within e (inr h) = absurd (false≢true h)

  tail_stars : (start at : ℕ) (args : List DependencyArgument) (o : Option (List DependencyArgument × ℕ)) (r : Result ℕ ℕ) → start ≤ at → Both false all at o r → HasStar o → Stars start (made.after_those args o) r
  tail_stars start at args None (Ok end) h both star = absurd both
  tail_stars start at args None (Err e) h both star = tt
  tail_stars start at args (Some found) (Err e) h both star = absurd both
  tail_stars start at args (Some found) (Ok end) h both star =
      (both.0, list_any-append (λ (x : DependencyArgument). x.starred) args found.0 ∙ any_or (has_star args) (has_star found.0) star, omega (arith, h, both.1), is_within end both.2)
    where
      any_or : (a b : Bool) → b ≡ true → (a || b) ≡ true
      any_or true b h = refl
      any_or false b h = h

  at_star : (start at : ℕ) (args : List DependencyArgument) → at < length all → Read start args at → To start at → stands is_star all at ≡ true → Stars start (lines.arguments all start) (stars_end start)
  at_star start at args within so_far on star =
      let close = only is_star is_paren_close kind.Star star_is refl (slice_get all at) star in
      let tail = tail_stars start at args (lines.arguments all at) (behind_star at) on.onward (arguments_both at) (star_any at at [] (made.parts_start false is_paren_close lines.argument all at [] refl) within close star) in
      subst (λ (q : Option (List DependencyArgument × ℕ)). Stars start q (stars_end start)) (sym (tail_is start at args so_far))
      (subst (λ q. Stars start (made.after_those args (lines.arguments all at)) (goes_on_from q (λ n. behind_star n))) (gone.parts_stop false is_star (part_end part_kind.Operand) all start at on within star) tail)

  abbrev MoreStars : ℕ → ℕ → Type 0
  MoreStars start at = (next : ℕ) (args : List DependencyArgument) → at < next → Read start args next → To start next → has_star args ≡ false → Stars start (lines.arguments all start) (stars_end start)

  stars_one : (start at : ℕ) (args : List DependencyArgument) (o : Option (DependencyArgument × ℕ)) (r : Result ℕ ℕ) → at < length all → Read start args at → To start at → has_star args ≡ false → stands is_paren_close all at ≡ false → stands is_star all at ≡ false
      → o ≡ lines.argument all at → r ≡ part_end part_kind.Operand all at → Arguments at o r → Starred false o → MoreStars start at → Stars start (lines.arguments all start) (stars_end start)
  stars_one start at args None (Ok e) within so_far on none sharp other is to alike plain more = absurd alike
  stars_one start at args None (Err e) within so_far on none sharp other is to alike plain more =
      none_stars start (lines.arguments all start) (parts_end false is_star (part_end part_kind.Operand) all start) e (made.parts_fail false is_paren_close lines.argument all start args at so_far within sharp is)
      (gone.parts_fail false is_star (part_end part_kind.Operand) all start at (halt.At e) on within other to)
  stars_one start at args (Some f) (Ok e) within so_far on none sharp other is to alike plain more =
      more e (args ++ f.0 ∷ []) alike.1.onward
      (made.parts_push false is_paren_close lines.argument all start args at f.0 e (args ++ f.0 ∷ []) so_far within sharp (ap (λ n. Some (f.0, n)) (sym alike.0) ∙ is) alike.1 refl)
      (gone.parts_push false is_star (part_end part_kind.Operand) all start at e on within other to alike.1) (starred_more args f.0 ∙ or_false (has_star args) f.0.starred none plain)
  stars_one start at args (Some f) (Err e) within so_far on none sharp other is to alike plain more =
      let pushed = made.parts_push false is_paren_close lines.argument all start args at f.0 f.1 (args ++ f.0 ∷ []) so_far within sharp is alike.0 refl in
      none_stars start (lines.arguments all start) (parts_end false is_star (part_end part_kind.Operand) all start) e
      (made.parts_fail false is_paren_close lines.argument all start (args ++ f.0 ∷ []) f.1 pushed alike.1.within alike.1.sharp alike.1.none)
      (gone.parts_fail false is_star (part_end part_kind.Operand) all start at (halt.At e) on within other to)

  stars_at : (start at : ℕ) (args : List DependencyArgument) (star close : Bool) → at < length all → Read start args at → To start at → has_star args ≡ false → stands is_star all at ≡ star → stands is_paren_close all at ≡ close
      → MoreStars start at → Stars start (lines.arguments all start) (stars_end start)
  stars_at start at args true close within so_far on none is shut more = at_star start at args within so_far on is
  stars_at start at args false true within so_far on none is shut more =
      let stops = no_operand at within (only is_paren_close begins kind.ParenClose close_is refl (slice_get all at) shut) in
      unstarred start (lines.arguments all start) (parts_end false is_star (part_end part_kind.Operand) all start) args at stops.0 (made.parts_stop false is_paren_close lines.argument all start args at so_far within shut)
      (gone.parts_fail false is_star (part_end part_kind.Operand) all start at (halt.At stops.0) on within is stops.1) none
  stars_at start at args false false within so_far on none is shut more =
      stars_one start at args (lines.argument all at) (part_end part_kind.Operand all at) within so_far on none shut is refl refl (operand_is at is) (plain_is at is) more

  stars_past : (start at : ℕ) (args : List DependencyArgument) → length all ≤ at → Read start args at → To start at → Stars start (lines.arguments all start) (stars_end start)
  stars_past start at args out so_far on =
      none_stars start (lines.arguments all start) (parts_end false is_star (part_end part_kind.Operand) all start) at (made.parts_cut is_paren_close lines.argument all start args at so_far out)
      (gone.parts_past false is_star (part_end part_kind.Operand) all start at on out)

  stars_walk : (start n at : ℕ) (args : List DependencyArgument) → length all ≤ at + n → Read start args at → To start at → has_star args ≡ false → Stars start (lines.arguments all start) (stars_end start)
  stars_walk start zero at args h so_far on none = stars_past start at args (omega (arith, h)) so_far on
  stars_walk start (suc n) at args h so_far on none = elim (cases_lt at (length all)) [
    | inl within ↦ stars_at start at args (stands is_star all at) (stands is_paren_close all at) within so_far on none refl refl (λ next more less read go k. stars_walk start n next more (omega (arith, h, less)) read go k)
    | inr out ↦ stars_past start at args (omega (arith, out)) so_far on
  ]

  stars_both : (start : ℕ) → Stars start (lines.arguments all start) (stars_end start)
  stars_both start =
      stars_walk start (length all) start [] (omega arith) (made.parts_start false is_paren_close lines.argument all start [] refl) (gone.parts_start false is_star (part_end part_kind.Operand) all start) refl

  -- Paths.
  if_names : (b : Bool) (name : Option Name) (more : List Name) (n : ℕ) → 3 * length more ≤ n → 3 * length (if b then and_names name more else []) ≤ n + 3
  if_names true None more n h = omega arith
  if_names true (Some name) more n h = omega (arith, h)
  if_names false name more n h = omega arith

  names_fit : (ls : List Lexeme) → 3 * length (joined_names ls) ≤ length ls
  names_fit [] = omega arith
  names_fit (c ∷ []) = omega arith
  names_fit (c ∷ d ∷ []) = omega arith
  names_fit (c ∷ d ∷ l ∷ rest) = let more = if_names (separates (Some c) (Some d)) (name_there (Some l)) (joined_names rest) (length rest) (names_fit rest) in omega (arith, more)

  abbrev OnPath : ℕ → Option (Namepath × ℕ) → Type 0
  OnPath at o = IfSome o (λ f. GoesOn all at f.1)

  path_by : (b : Bool) (at : ℕ) (name : Name) → at < length all → OnPath at (path_from at (joined_names (drop (at + 1) all)) (if b then Some name else None))
  path_by true at name within =
      let fit = names_fit (drop (at + 1) all) in
      record { onward = omega arith; within = omega (arith, within, fit, length-drop (at + 1) all) }
  path_by false at name within = tt

  path_of : (at : ℕ) (o : Option Lexeme) → slice_get all at ≡ o → OnPath at (path_from at (joined_names (drop (at + 1) all)) (name_there o))
  path_of at None is = tt
  path_of at (Some l) is = path_by (is_name_kind l.kind) at (record { token = l.token }) (slice_get_within all at l is)

  path_on : (at : ℕ) → OnPath at (path all at)
  unfolding path
  path_on at = path_of at (slice_get all at) refl

  no_name_by : (b : Bool) (name : Name) → b ≡ false → ◌≡◌ {A = Option Name} (if b then Some name else None) None
  no_name_by true name h = absurd (false≢true (sym h))
  no_name_by false name h = refl

  no_name_of : (o : Option Lexeme) → stands_there is_name_kind o ≡ false → name_there o ≡ None
  no_name_of None h = refl
  no_name_of (Some l) h = no_name_by (is_name_kind l.kind) (record { token = l.token }) h

  no_path : (at : ℕ) → stands is_name_kind all at ≡ false → path all at ≡ None
  unfolding path
  no_path at h = ap (path_from at (joined_names (drop (at + 1) all))) (no_name_of (slice_get all at) h)

  front_by : (b c : Bool) → (if b then c else false) ≡ true → b ≡ true
  front_by true c h = refl
  front_by false c h = h

  separates_colon : (c d : Option Lexeme) → separates c d ≡ true → stands_there is_colon c ≡ true
  separates_colon None d h = h
  separates_colon (Some c) None h = absurd (false≢true h)
  separates_colon (Some c) (Some d) h = front_by (is_colon c.kind) _ h

  colon_at : (at : ℕ) → separated all at ≡ true → stands is_colon all at ≡ true
  colon_at at h = separates_colon (slice_get all at) (slice_get all (at + 1)) h

  -- Dependencies.
  abbrev Exact : ℕ → Option (UnresolvedDependency × ℕ) → Result ℕ ℕ → Type 0
  Exact at None (Ok end) = ⊥
  Exact at None (Err e) = Unit {0}
  Exact at (Some found) (Err e) = ⊥
  Exact at (Some found) (Ok end) = (found.1 ≡ end) × GoesOn all at end

  fit_by : (b : Bool) (at n e : ℕ) (d : UnresolvedDependency) → b ≡ true → n ≡ e → at < e → e < length all → Exact at (if b then Some (d, n + 1) else None) (Ok (e + 1))
  fit_by true at n e d is same h within = (ap (λ m. m + 1) same, record { onward = omega (arith, h); within = omega (arith, within) })
  fit_by false at n e d is same h within = absurd (false≢true is)

  misfit_by : (b : Bool) (at n e : ℕ) (d : UnresolvedDependency) → b ≡ false → Exact at (if b then Some (d, n + 1) else None) (Err e)
  misfit_by true at n e d is = absurd (false≢true (sym is))
  misfit_by false at n e d is = tt

  plain_exact : (at start : ℕ) (p : Namepath) (o : Option (List DependencyArgument × ℕ)) (r : Result ℕ ℕ) → at < start → Plain start o r → Exact at (lines.with_arguments false p o) (goes_on_from r (λ end. Ok (end + 1)))
  plain_exact at start p None (Ok end) h plain = absurd plain
  plain_exact at start p None (Err e) h plain = tt
  plain_exact at start p (Some found) (Err e) h plain = misfit_by (not (has_star found.0)) at found.1 e (record { arguments = found.0; recipe = p }) (ap not plain)
  plain_exact at start p (Some found) (Ok end) h plain = fit_by (not (has_star found.0)) at found.1 end (record { arguments = found.0; recipe = p }) (ap not plain.1) plain.0 (omega (arith, h, plain.2)) plain.3

  stars_exact : (at start : ℕ) (p : Namepath) (o : Option (List DependencyArgument × ℕ)) (r : Result ℕ ℕ) → at < start → Stars start o r → Exact at (lines.with_arguments true p o) (goes_on_from r (λ end. Ok (end + 1)))
  stars_exact at start p None (Ok end) h stars = absurd stars
  stars_exact at start p None (Err e) h stars = tt
  stars_exact at start p (Some found) (Err e) h stars = misfit_by (has_star found.0) at found.1 e (record { arguments = found.0; recipe = p }) stars
  stars_exact at start p (Some found) (Ok end) h stars = fit_by (has_star found.0) at found.1 end (record { arguments = found.0; recipe = p }) stars.1 stars.0 (omega (arith, h, stars.2)) stars.3

  -- no argument begins with `::`
  no_argument : (at : ℕ) → separated all at ≡ true → None ≡ lines.arguments all at
  no_argument at h =
      let colon = colon_at at h in
      let within = separated_inside all at h in
      let star = only is_colon is_star kind.Colon colon_is refl (slice_get all at) colon in
      let close = only is_colon is_paren_close kind.Colon colon_is refl (slice_get all at) colon in
      let none = no_operand_of all at (slice_get all at) refl within (only is_colon begins kind.Colon colon_is refl (slice_get all at) colon) in
      made.parts_fail false is_paren_close lines.argument all at [] at (made.parts_start false is_paren_close lines.argument all at [] refl) within close
      (sym (plain_argument at star ∙ ap (lines.argument_in_line false) none))

  -- a path and what stands behind it, where that reads alike
  pathed_by : (b star : Bool) (at : ℕ) (p : Namepath) (n : ℕ) (more : ℕ → Result ℕ ℕ) → separated all n ≡ b → Exact at (lines.with_arguments star p (lines.arguments all n)) (more n)
      → Exact at (lines.with_arguments star p (lines.arguments all n)) (goes_on_from (if b then Err (n + 2) else Ok n) more)
  pathed_by true star at p n more is h = subst (λ (q : Option (List DependencyArgument × ℕ)). Exact at (lines.with_arguments star p q) (Err (n + 2))) (no_argument n is) tt
  pathed_by false star at p n more is h = h

  pathed : (star : Bool) (at inner : ℕ) (o : Option (Namepath × ℕ)) (more : ℕ → Result ℕ ℕ) → IfSome o (λ f. Exact at (lines.with_arguments star f.0 (lines.arguments all f.1)) (more f.1))
      → Exact at (lines.in_parentheses all star o) (goes_on_from (path_end_by all inner o) more)
  pathed star at inner None more h = tt
  pathed star at inner (Some f) more h = pathed_by (separated all f.1) star at f.0 f.1 more refl h

  abbrev plain_more : ℕ → Result ℕ ℕ
  plain_more at = goes_on_from (operands at) (λ end. Ok (end + 1))

  abbrev stars_more : ℕ → Result ℕ ℕ
  stars_more at = goes_on_from (parts_end false is_star (part_end part_kind.Operand) all at) (λ at. goes_on_from (behind_star at) (λ end. Ok (end + 1)))

  regrouped : (r : Result ℕ ℕ) → goes_on_from (goes_on_from r (λ at. behind_star at)) (λ end. Ok (end + 1)) ≡ goes_on_from r (λ at. goes_on_from (behind_star at) (λ end. Ok (end + 1)))
  regrouped (Ok at) = refl
  regrouped (Err e) = refl

  each_plain : (at : ℕ) (o : Option (Namepath × ℕ)) → OnPath (at + 1) o → IfSome o (λ f. Exact at (lines.with_arguments false f.0 (lines.arguments all f.1)) (plain_more f.1))
  each_plain at None on = tt
  each_plain at (Some f) on = plain_exact at f.1 f.0 (lines.arguments all f.1) (operands f.1) (omega (arith, on.onward)) (plain_both f.1)

  each_stars : (at : ℕ) (o : Option (Namepath × ℕ)) → OnPath (at + 1) o → IfSome o (λ f. Exact at (lines.with_arguments true f.0 (lines.arguments all f.1)) (stars_more f.1))
  each_stars at None on = tt
  each_stars at (Some f) on =
      subst (Exact at (lines.with_arguments true f.0 (lines.arguments all f.1))) (regrouped (parts_end false is_star (part_end part_kind.Operand) all f.1))
      (stars_exact at f.1 f.0 (lines.arguments all f.1) (stars_end f.1) (omega (arith, on.onward)) (stars_both f.1))

  paren_by : (b : Bool) (at : ℕ) (o : Option (UnresolvedDependency × ℕ)) (more : ℕ → Result ℕ ℕ) → Exact at o (more (at + 1)) → Exact at (if b then o else None) (goes_on_from (if b then Ok (at + 1) else Err at) more)
  paren_by true at o more h = h
  paren_by false at o more h = tt

  given_plain : (at : ℕ) → Exact at (lines.parenthesized all false at) (given_end all at)
  unfolding lines.parenthesized
  given_plain at =
      paren_by (stands is_paren_open all at) at (lines.in_parentheses all false (path all (at + 1))) (λ at. goes_on_from (path_end all at) (λ at. plain_more at))
      (pathed false at (at + 1) (path all (at + 1)) (λ at. plain_more at) (each_plain at (path all (at + 1)) (path_on (at + 1))))

  given_stars : (at : ℕ) → Exact at (lines.parenthesized all true at) (starred_end all at)
  unfolding lines.parenthesized
  given_stars at =
      paren_by (stands is_paren_open all at) at (lines.in_parentheses all true (path all (at + 1))) (λ at. goes_on_from (path_end all at) (λ at. stars_more at))
      (pathed true at (at + 1) (path all (at + 1)) (λ at. stars_more at) (each_stars at (path all (at + 1)) (path_on (at + 1))))

  -- where none begins
  no_dependency : (at : ℕ) → stands is_star all at ≡ false → stands is_paren_open all at ≡ false → stands is_name_kind all at ≡ false → None ≡ lines.dependency all at
  unfolding lines.dependency
  no_dependency at star paren name =
      sym (ap (λ b. if b then lines.parenthesized all true (at + 1) else (if stands is_paren_open all at then lines.parenthesized all false at else lines.alone (path all at))) star
      ∙ ap (λ b. if b then lines.parenthesized all false at else lines.alone (path all at)) paren
      ∙ ap lines.alone (no_path at name))

  abbrev Dependencies : ℕ → Option (UnresolvedDependency × ℕ) → Result ℕ ℕ → Type 0
  Dependencies at = Alike is_and lines.dependency all at

  nearer : (at : ℕ) (o : Option (UnresolvedDependency × ℕ)) (r : Result ℕ ℕ) (n : ℕ) → at ≤ n → Exact n o r → Dependencies at o r
  nearer at None (Ok end) n h exact = absurd exact
  nearer at None (Err e) n h exact = tt
  nearer at (Some found) (Err e) n h exact = absurd exact
  nearer at (Some found) (Ok end) n h exact = (exact.0, record { onward = omega (arith, h, exact.1.onward); within = exact.1.within })

  stuck : (at : ℕ) → separated all at ≡ true → Stuck is_and lines.dependency all at
  stuck at h =
      let colon = colon_at at h in
      record {
        within = separated_inside all at h;
        sharp = only is_colon is_and kind.Colon colon_is refl (slice_get all at) colon;
        none = no_dependency at (only is_colon is_star kind.Colon colon_is refl (slice_get all at) colon) (only is_colon is_paren_open kind.Colon colon_is refl (slice_get all at) colon)
            (only is_colon is_name_kind kind.Colon colon_is refl (slice_get all at) colon);
      }

  alone_by : (b : Bool) (at : ℕ) (f : Namepath × ℕ) → separated all f.1 ≡ b → GoesOn all at f.1 → Dependencies at (lines.alone (Some f)) (if b then Err (f.1 + 2) else Ok f.1)
  alone_by true at f is on = (on, stuck f.1 is)
  alone_by false at f is on = (refl, on)

  alone_of : (at : ℕ) (o : Option (Namepath × ℕ)) → OnPath at o → Dependencies at (lines.alone o) (path_end_by all at o)
  alone_of at None on = tt
  alone_of at (Some f) on = alone_by (separated all f.1) at f refl on

  dependency_by : (s p : Bool) (at : ℕ)
      → Dependencies at (if s then lines.parenthesized all true (at + 1) else (if p then lines.parenthesized all false at else lines.alone (path all at))) (if s then starred_end all (at + 1) else (if p then given_end all at else path_end all at))
  dependency_by true p at = nearer at (lines.parenthesized all true (at + 1)) (starred_end all (at + 1)) (at + 1) (omega arith) (given_stars (at + 1))
  dependency_by false true at = nearer at (lines.parenthesized all false at) (given_end all at) at (omega arith) (given_plain at)
  dependency_by false false at = alone_of at (path all at) (path_on at)

  dependency_alike : (at : ℕ) → Dependencies at (lines.dependency all at) (dependency_end all at)
  unfolding lines.dependency dependency_end
  dependency_alike at = dependency_by (stands is_star all at) (stands is_paren_open all at) at

  dependencies_both : (at : ℕ) → Both true all at (lines.dependency_list all at) (dependencies_end all at)
  dependencies_both at = parts_both true is_and lines.dependency dependency_end all (λ n within sharp. dependency_alike n) at

  -- Those that run after a recipe.
  abbrev Listing : Type 0
  Listing = Option (List UnresolvedDependency × ℕ)

  abbrev after : List UnresolvedDependency → Listing → Bool
  after priors o = is_some (heading.with_subsequents all priors o)

  none_left : (b : Bool) (x : List UnresolvedDependency × List UnresolvedDependency) → is_some (if b then (if 0 == 0 then None else Some x) else None) ≡ false
  none_left true x = refl
  none_left false x = refl

  counted : (n : ℕ) → (suc n == 0) ≡ false
  counted n = grind arith

  some_left : (b : Bool) (n : ℕ) (x : List UnresolvedDependency × List UnresolvedDependency) → is_some (if b then Some x else None) ≡ is_ok {E = ℕ} (if b then Ok n else Err n)
  some_left true n x = refl
  some_left false n x = refl

  ends_alike : (at : ℕ) (r : Result ℕ ℕ) → Dependencies at None r → (more : ℕ → Result ℕ ℕ) → is_ok (goes_on_from r more) ≡ false
  ends_alike at (Ok end) h more = absurd h
  ends_alike at (Err e) h more = refl

  no_subsequent : (priors : List UnresolvedDependency) (at : ℕ) → Some ([], at) ≡ lines.dependency_list all at → None ≡ lines.dependency all at → after priors (lines.dependency_list all at) ≡ is_ok (ends.subsequents_end all at)
  no_subsequent priors at is none =
      ap (after priors) (sym is) ∙ none_left (at == length all) (priors, [])
      ∙ sym (ends_alike at (dependency_end all at) (subst (λ o. Dependencies at o (dependency_end all at)) (sym none) (dependency_alike at)) (λ n. goes_on_from (dependencies_end all n) (line_end all)))

  and_more : (priors : List UnresolvedDependency) (d : UnresolvedDependency) (o : Listing) (r : Result ℕ ℕ) (at : ℕ) → Both true all at o r → after priors (made.after_those (d ∷ []) o) ≡ is_ok (goes_on_from r (line_end all))
  and_more priors d None (Ok end) at both = absurd both
  and_more priors d None (Err e) at both = refl
  and_more priors d (Some found) (Err e) at both = absurd both
  and_more priors d (Some found) (Ok end) at both =
      subst (λ n. after priors (made.after_those (d ∷ []) (Some found)) ≡ is_ok (line_end all n)) both.0
      (let both : List UnresolvedDependency × List UnresolvedDependency = (priors, d ∷ found.0) in
      ap (λ c. is_some (if found.1 == length all then (if c then None else Some both) else None)) (counted (length found.0)) ∙ some_left (found.1 == length all) found.1 both)

  list_after : (start at : ℕ) (d : UnresolvedDependency) → made.Parts true is_and lines.dependency all start (d ∷ []) at → lines.dependency_list all start ≡ made.after_those (d ∷ []) (lines.dependency_list all at)
  list_after start at d so_far =
      let from = made.parts_start true is_and lines.dependency all at [] refl in
      so_far.whole ∙ ap (made.after_those (d ∷ [])) (sym (same (parts_from true is_and lines.dependency all at 0 (drop at all))) ∙ sym from.whole)
    where
      same : (o : Option (List UnresolvedDependency × ℕ)) → made.after_those [] o ≡ o
      same None = refl
      same (Some more) = refl

  one_subsequent : (priors : List UnresolvedDependency) (at : ℕ) (o : Option (UnresolvedDependency × ℕ)) (r : Result ℕ ℕ) → at < length all → stands is_and all at ≡ false → o ≡ lines.dependency all at → Dependencies at o r
      → after priors (lines.dependency_list all at) ≡ is_ok (goes_on_from r (λ n. goes_on_from (dependencies_end all n) (line_end all)))
  one_subsequent priors at None (Ok end) within sharp is alike = absurd alike
  one_subsequent priors at None (Err e) within sharp is alike =
      ap (after priors) (sym (made.parts_fail true is_and lines.dependency all at [] at (made.parts_start true is_and lines.dependency all at [] refl) within sharp is))
  one_subsequent priors at (Some f) (Err e) within sharp is alike =
      let pushed = made.parts_push true is_and lines.dependency all at [] at f.0 f.1 (f.0 ∷ []) (made.parts_start true is_and lines.dependency all at [] refl) within sharp is alike.0 refl in
      ap (after priors) (sym (made.parts_fail true is_and lines.dependency all at (f.0 ∷ []) f.1 pushed alike.1.within alike.1.sharp alike.1.none))
  one_subsequent priors at (Some f) (Ok end) within sharp is alike =
      let gone_to : Some (f.0, end) ≡ lines.dependency all at = ap (λ n. Some (f.0, n)) (sym alike.0) ∙ is in
      let pushed = made.parts_push true is_and lines.dependency all at [] at f.0 end (f.0 ∷ []) (made.parts_start true is_and lines.dependency all at [] refl) within sharp gone_to alike.1 refl in
      ap (after priors) (list_after at end f.0 pushed) ∙ and_more priors f.0 (lines.dependency_list all end) (dependencies_end all end) end (dependencies_both end)

  at_and : (priors : List UnresolvedDependency) (at : ℕ) (b : Bool) → at < length all → stands is_and all at ≡ b → after priors (lines.dependency_list all at) ≡ is_ok (ends.subsequents_end all at)
  at_and priors at true within is =
      no_subsequent priors at (made.parts_stop true is_and lines.dependency all at [] at (made.parts_start true is_and lines.dependency all at [] refl) within is)
      (no_dependency at (only is_and is_star kind.And and_is refl (slice_get all at) is) (only is_and is_paren_open kind.And and_is refl (slice_get all at) is) (only is_and is_name_kind kind.And and_is refl (slice_get all at) is))
  at_and priors at false within is = one_subsequent priors at (lines.dependency all at) (dependency_end all at) within is refl (dependency_alike at)

  subsequents_is : (priors : List UnresolvedDependency) (at : ℕ) → after priors (lines.dependency_list all at) ≡ is_ok (ends.subsequents_end all at)
  subsequents_is priors at = elim (cases_lt at (length all)) [
    | inl within ↦ at_and priors at (stands is_and all at) within refl
    | inr out ↦
        let none = slice_get_past all at (omega (arith, out)) in
        no_subsequent priors at (made.parts_past is_and lines.dependency all at [] at (made.parts_start true is_and lines.dependency all at [] refl) (omega (arith, out)))
        (no_dependency at (ap (stands_there is_star) none) (ap (stands_there is_paren_open) none) (ap (stands_there is_name_kind) none))
  ]

  -- Both sides.
  side_by : (b : Bool) (priors : List UnresolvedDependency) (at : ℕ)
      → is_some (if b then Some (priors, []) else heading.with_subsequents all priors (lines.dependency_list all (at + 1))) ≡ is_ok (if b then Ok at else ends.subsequents_end all (at + 1))
  side_by true priors at = refl
  side_by false priors at = subsequents_is priors (at + 1)

  sides_of : (at : ℕ) (o : Listing) (r : Result ℕ ℕ) → Both true all at o r → is_some (heading.with_priors all o) ≡ is_ok (goes_on_from r (λ end. if end == length all then Ok end else ends.subsequents_end all (end + 1)))
  sides_of at None (Ok end) both = absurd both
  sides_of at None (Err e) both = refl
  sides_of at (Some found) (Err e) both = absurd both
  sides_of at (Some found) (Ok end) both =
      subst (λ n. is_some (heading.with_priors all (Some found)) ≡ is_ok (if n == length all then Ok n else ends.subsequents_end all (n + 1))) both.0 (side_by (found.1 == length all) found.0 found.1)

  sides_is : (at : ℕ) → is_some (heading.dependencies all at) ≡ is_ok (ends.sides_end all at)
  unfolding heading.dependencies
  sides_is at = sides_of at (lines.dependency_list all at) (dependencies_end all at) (dependencies_both at)

  -- Behind the name.
  with_sides : (quiet : Bool) (name : Name) (ps : List Parameter) (o : Option (List UnresolvedDependency × List UnresolvedDependency)) → is_some (heading.with_dependencies quiet name ps o) ≡ is_some o
  with_sides quiet name ps None = refl
  with_sides quiet name ps (Some it) = refl

  after_by : (quiet : Bool) (name : Name) (at : ℕ) (o : Option (List Parameter × ℕ)) (r : Result ℕ ℕ) → Both false all at o r → is_some (heading.with_parameters all quiet name o) ≡ is_ok (goes_on_from r (λ colon. ends.sides_end all (colon + 1)))
  after_by quiet name at None (Ok end) both = absurd both
  after_by quiet name at None (Err e) both = refl
  after_by quiet name at (Some found) (Err e) both = absurd both
  after_by quiet name at (Some found) (Ok end) both =
      subst (λ n. is_some (heading.with_parameters all quiet name (Some found)) ≡ is_ok (ends.sides_end all (n + 1))) both.0
      (with_sides quiet name found.0 (heading.dependencies all (found.1 + 1)) ∙ sides_is (found.1 + 1))

  after_is : (quiet : Bool) (name : Name) (at : ℕ) → is_some (heading.after_name all quiet name at) ≡ is_ok (goes_on_from (parts_end false is_colon (part_end part_kind.Parameter) all at) (λ colon. ends.sides_end all (colon + 1)))
  unfolding heading.after_name
  after_is quiet name at = after_by quiet name at (heading.parameters all at) (parts_end false is_colon (part_end part_kind.Parameter) all at) (parameters_both at)

  headed : (quiet : Bool) (at : ℕ)
      → is_some (heading.heading_at all quiet at (read_name_at all at)) ≡ is_ok (goes_on_from (mark_end is_name_kind all at) (λ at. goes_on_from (parts_end false is_colon (part_end part_kind.Parameter) all at) (λ colon. ends.sides_end all (colon + 1))))
  headed quiet at =
      named all at (heading.heading_at all quiet at) (λ at. goes_on_from (parts_end false is_colon (part_end part_kind.Parameter) all at) (λ colon. ends.sides_end all (colon + 1))) refl (λ name. after_is quiet name (at + 1))

  head_by : (b quiet : Bool) → is_some (if b then heading.heading_at all quiet 1 (read_name_at all 1) else heading.heading_at all quiet 0 (read_name_at all 0))
      ≡ is_ok (goes_on_from (mark_end is_name_kind all (if b then 1 else 0)) (λ at. goes_on_from (parts_end false is_colon (part_end part_kind.Parameter) all at) (λ colon. ends.sides_end all (colon + 1))))
  head_by true quiet = headed quiet 1
  head_by false quiet = headed quiet 0

  pub headings_agree : is_some (heading.heading_in_line all) ≡ is_ok (ends.heading_end all)
  unfolding heading.heading_in_line ends.heading_end
  headings_agree = head_by (stands is_at_sign all 0) (stands is_at_sign all 0)
