-- What reads as a function is read to its end as one.
use Rattle.std.proofs.Common.{inl, inr, zero, suc, ◌≡◌, ℕ, ◌+◌, ◌<◌, ◌≤◌, sym, ◌∙◌, ap, refl, subst, List, [], ◌∷◌, ◌++◌, length, Bool, true, false, arith, Option, Some, None, Result, Ok, Err}
use Rattle.std.specs.Prelude.{if◌then◌else◌, is_some, is_ok}
use Rattle.std.specs.List.{slice_get}
use Rattle.std.proofs.lemmas.Bool.{cases_lt, false≢true}
use Rattle.std.proofs.lemmas.Option.{slice_get_cases, slice_get_past}
use Rattle.just_names.specs.declared.name.Name.{Name}
use Rattle.just_names.specs.Number.{no_number}
use Rattle.just_ast_definitions.specs.declared.function_definition.FunctionParameter.{FunctionParameter}
use Rattle.just_bench_expressions.specs.declared.lexer.Kind.{Kind}
use Rattle.just_bench_expressions.specs.declared.lexer.Kind.TheVariants as kind
use Rattle.just_bench_expressions.specs.declared.lexer.Lexeme.{Lexeme}
use Rattle.just_bench_lines.specs.Definitions.{after_part, function, function_in_line, parameters, whole_expression, with_body, with_parameters}
use Rattle.just_bench_lines.specs.Places.{is_assign, is_comma, is_name_kind, is_paren_close, is_paren_open, read_name_at, name_there, stands, stands_there}
use Rattle.just_bench_lines.proofs.Listed.{Listed, listed_end, listed_fail, listed_start, listed_step, listed_stuck}
use Rattle.just_bench_stops.specs.declared.halt.Halt.TheVariants as halt
use Rattle.just_bench_stops.specs.declared.parts.Part.TheVariants as part_kind
use Rattle.just_bench_stops.specs.Definitions.{function_end, whole_end}
use Rattle.just_bench_stops.specs.Marks.{goes_on_from, mark_end}
use Rattle.just_bench_stops.specs.Parts.{after_part_end, part_end, parts_end}
use Rattle.just_bench_stops.proofs.Ends.{chosen, named, whole}
use Rattle.just_bench_stops.proofs.Walks.{Walked, parts_fail, parts_past, parts_push, parts_start, parts_stop}

-- parameters end after the place of their `)`
abbrev Closes : Option (List FunctionParameter × ℕ) → Result ℕ ℕ → Type 0
Closes (Some found) (Ok close) = found.1 ≡ close + 1
Closes (Some found) (Err at) = ⊥
Closes None (Ok close) = ⊥
Closes None (Err at) = Unit {0}

abbrev one : List Lexeme → ℕ → Result ℕ ℕ
one = part_end part_kind.FunctionParameter

-- what stands behind a part
abbrev pub Follows : Option ℕ → Result ℕ ℕ → Type 0
Follows (Some next) r = Ok next ≡ r
Follows None r = (at : ℕ) × (Err at ≡ r)

follows_by : (b c d : Bool) (at : ℕ) → Follows (if b then (if d then None else Some (at + 1)) else (if c then Some at else None)) (if b then (if d then Err (at + 1) else Ok (at + 1)) else (if c then Ok at else Err at))
follows_by true c true at = (at + 1, refl)
follows_by true c false at = refl
follows_by false true d at = refl
follows_by false false d at = (at, refl)

pub follows : (all : List Lexeme) (at : ℕ) → Follows (after_part all at) (after_part_end all at)
follows all at = follows_by (stands is_comma all at) (stands is_paren_close all at) (stands is_paren_close all (at + 1)) at

-- a place is within where something stands at it, or before it
stands_within : (is : Kind → Bool) (all : List Lexeme) (at : ℕ) → stands is all at ≡ true → at < length all
stands_within is all at h = elim ((slice_get_cases all at).1) [
  | inl here ↦ here.1
  | inr past ↦ absurd (false≢true (sym (ap (stands_there is) past.1) ∙ h))
]

next_by : (all : List Lexeme) (b c d : Bool) (at next : ℕ) → stands is_comma all at ≡ b → stands is_paren_close all at ≡ c
    → ◌≡◌ {A = Result ℕ ℕ} (Ok next) (if b then (if d then Err (at + 1) else Ok (at + 1)) else (if c then Ok at else Err at)) → (at ≤ next) × (next ≤ length all)
next_by all true c true at next comma close is = absurd cc
next_by all true c false at next comma close is = let same : next ≡ at + 1 = cc in let w = stands_within is_comma all at comma in (omega arith, omega arith)
next_by all false true d at next comma close is = let same : next ≡ at = cc in let w = stands_within is_paren_close all at close in (omega arith, omega arith)
next_by all false false d at next comma close is = absurd cc

pub next_within : (all : List Lexeme) (at next : ℕ) → Ok next ≡ after_part_end all at → (at ≤ next) × (next ≤ length all)
next_within all at next is = next_by all (stands is_comma all at) (stands is_paren_close all at) (stands is_paren_close all (at + 1)) at next refl refl is

-- a name or none
name_is : (o : Option Lexeme) (name : Option Name) → name ≡ name_there o → stands_there is_name_kind o ≡ is_some name
name_is None name h = ap is_some (sym h)
name_is (Some l) name h = by (is_name_kind l.kind) (record { token = l.token }) ∙ ap is_some (sym h)
  where
    by : (b : Bool) (n : Name) → b ≡ is_some (if b then Some n else None)
    by true n = refl
    by false n = refl

close_is_no_name : (k : Kind) → is_paren_close k ≡ true → is_name_kind k ≡ false
close_is_no_name kind.ParenClose h = refl
close_is_no_name _ h = absurd (false≢true h)

none_by : (o : Option Lexeme) → stands_there is_paren_close o ≡ true → None ≡ name_there o
none_by None h = refl
none_by (Some l) h = ap (λ b. if b then Some (record { token = l.token }) else None) (sym (close_is_no_name l.kind h))

module _ (all : List Lexeme) (start : ℕ) where
  abbrev both : Type 0
  both = Closes (parameters all start) (parts_end false is_paren_close one all start)

  none_both : (p : Option (List FunctionParameter × ℕ)) (r : Result ℕ ℕ) (at : ℕ) → None ≡ p → Err at ≡ r → Closes p r
  none_both p r at none is = subst (λ q. Closes q r) none (subst (Closes None) is tt)

  some_both : (p : Option (List FunctionParameter × ℕ)) (r : Result ℕ ℕ) (found : List FunctionParameter × ℕ) (at : ℕ) → Some found ≡ p → Ok at ≡ r → found.1 ≡ at + 1 → Closes p r
  some_both p r found at some is same = subst (λ q. Closes q r) some (subst (Closes (Some found)) is same)

  -- a parameter, with what stands behind it
  one_is : (at : ℕ) (b : Bool) → stands is_name_kind all at ≡ b → one all at ≡ (if b then after_part_end all (at + 1) else Err at)
  unfolding part_end
  one_is at b is = ap (λ c. goes_on_from (if c then Ok (at + 1) else Err at) (λ end. after_part_end all end)) is ∙ same b
    where
      same : (b : Bool) → goes_on_from (if b then Ok (at + 1) else Err at) (λ end. after_part_end all end) ≡ (if b then after_part_end all (at + 1) else Err at)
      same true = refl
      same false = refl

  abbrev More : ℕ → Type 0
  More at = (next : ℕ) (made : List FunctionParameter) → at < next → Listed all start made next → Walked false is_paren_close one all start next → both

  -- behind a name
  behind : (at : ℕ) (made : List FunctionParameter) (name : Name) (next : Option ℕ) → at < length all → Listed all start made at → Walked false is_paren_close one all start at
      → stands is_paren_close all at ≡ false → Some name ≡ read_name_at all at → next ≡ after_part all (at + 1) → Follows next (after_part_end all (at + 1)) → More at → both
  behind at made name None within so_far walked sharp is goes follows more =
      none_both (parameters all start) (parts_end false is_paren_close one all start) follows.0 (listed_stuck all start made at name so_far is goes)
      (parts_fail false is_paren_close one all start at (halt.At follows.0) walked within sharp (follows.1 ∙ sym (one_is at true (name_is (slice_get all at) (Some name) is))))
  behind at made name (Some next) within so_far walked sharp is goes follows more =
      let w = next_within all (at + 1) next follows in
      more next (made ++ record { name = name; number = no_number } ∷ []) (omega (arith, w.0)) (listed_step all start made at name next (made ++ record { name = name; number = no_number } ∷ []) so_far is goes refl)
      (parts_push false is_paren_close one all start at next walked within sharp (follows ∙ sym (one_is at true (name_is (slice_get all at) (Some name) is))) (record { onward = omega (arith, w.0); within = w.1 }))

  at_name : (at : ℕ) (made : List FunctionParameter) (name : Option Name) → at < length all → Listed all start made at → Walked false is_paren_close one all start at
      → stands is_paren_close all at ≡ false → name ≡ read_name_at all at → More at → both
  at_name at made None within so_far walked sharp is more =
      none_both (parameters all start) (parts_end false is_paren_close one all start) at (listed_fail all start made at so_far is sharp)
      (parts_fail false is_paren_close one all start at (halt.At at) walked within sharp (sym (one_is at false (name_is (slice_get all at) None is))))
  at_name at made (Some name) within so_far walked sharp is more = behind at made name (after_part all (at + 1)) within so_far walked sharp is refl (follows all (at + 1)) more

  at_close : (at : ℕ) (made : List FunctionParameter) (b : Bool) → at < length all → Listed all start made at → Walked false is_paren_close one all start at → stands is_paren_close all at ≡ b → More at → both
  at_close at made true within so_far walked close more =
      some_both (parameters all start) (parts_end false is_paren_close one all start) (made, at + 1) at (listed_end all start made at so_far (none_by (slice_get all at) close) close)
      (parts_stop false is_paren_close one all start at walked within close) refl
  at_close at made false within so_far walked close more = at_name at made (read_name_at all at) within so_far walked close refl more

  past : (at : ℕ) (made : List FunctionParameter) → length all ≤ at → Listed all start made at → Walked false is_paren_close one all start at → both
  past at made out so_far walked =
      let none = slice_get_past all at out in
      none_both (parameters all start) (parts_end false is_paren_close one all start) at (listed_fail all start made at so_far (ap name_there (sym none)) (ap (stands_there is_paren_close) none))
      (parts_past false is_paren_close one all start at walked out)

  -- with so many lexemes left at most
  walk : (n at : ℕ) (made : List FunctionParameter) → length all ≤ at + n → Listed all start made at → Walked false is_paren_close one all start at → both
  walk zero at made h so_far walked = past at made (omega (arith, h)) so_far walked
  walk (suc n) at made h so_far walked = elim (cases_lt at (length all)) [
    | inl within ↦ at_close at made (stands is_paren_close all at) within so_far walked refl (λ next more less read on. walk n next more (omega (arith, h, less)) read on)
    | inr out ↦ past at made (omega (arith, out)) so_far walked
  ]

  agree : both
  agree = walk (length all) start [] (omega arith) (listed_start all start [] refl) (parts_start false is_paren_close one all start)

-- the body of a function
bodied : (all : List Lexeme) (name : Name) (found : Option (List FunctionParameter × ℕ)) (end : Result ℕ ℕ) → Closes found end
    → is_some (with_parameters all name found) ≡ is_ok (goes_on_from end (λ close. goes_on_from (mark_end is_assign all (close + 1)) (whole_end all)))
bodied all name None (Ok close) same = absurd same
bodied all name None (Err at) same = refl
bodied all name (Some found) (Err at) same = absurd same
bodied all name (Some found) (Ok close) same =
    subst (λ n. is_some (with_parameters all name (Some found)) ≡ is_ok (goes_on_from (mark_end is_assign all n) (whole_end all))) same
    (chosen (stands is_assign all found.1) (with_body name found.0 (whole_expression all (found.1 + 1))) found.1 (found.1 + 1) (whole_end all) (whole all (found.1 + 1) (with_body name found.0) refl (λ e. refl)))

pub functions : (all : List Lexeme) → is_some (function all) ≡ is_ok (function_end all)
functions all =
    named all 0 (function_in_line all)
    (λ at. goes_on_from (mark_end is_paren_open all at) (λ at. goes_on_from (parts_end false is_paren_close one all at) (λ close. goes_on_from (mark_end is_assign all (close + 1)) (whole_end all)))) refl
    (λ name. chosen (stands is_paren_open all 1) (with_parameters all name (parameters all 2)) 1 2 (λ at. goes_on_from (parts_end false is_paren_close one all at) (λ close. goes_on_from (mark_end is_assign all (close + 1)) (whole_end all)))
    (bodied all name (parameters all 2) (parts_end false is_paren_close one all 2) (agree all 2)))
