-- The parameters of a function, one after another.
use Rattle.std.proofs.Common.{inl, inr, ◌≡◌, ℕ, ◌+◌, ◌<◌, sym, ◌∙◌, ap, refl, List, [], ◌∷◌, ◌++◌, length, drop, Bool, true, false, arith, append_assoc, Option, Some, None}
use Rattle.std.specs.Prelude.{if◌then◌else◌}
use Rattle.std.specs.Option.{option_map}
use Rattle.std.proofs.lemmas.Bool.{false≢true}
use Rattle.std.proofs.lemmas.List.{append-nil, drop_all}
use Rattle.std.proofs.lemmas.Option.{none-some, same_Some, slice_get_cases}
use Rattle.just_names.specs.declared.name.Name.{Name}
use Rattle.just_names.specs.Number.{no_number}
use Rattle.just_ast_definitions.specs.declared.function_definition.FunctionParameter.{FunctionParameter}
use Rattle.just_bench_expressions.specs.declared.lexer.Kind.{Kind}
use Rattle.just_bench_expressions.specs.declared.lexer.Kind.TheVariants as kind
use Rattle.just_bench_expressions.specs.declared.lexer.Lexeme.{Lexeme}
use Rattle.just_bench_lines.specs.Definitions.{after_part, and_parameter, closes, function_parameter, parameters, parameters_from}
use Rattle.just_bench_lines.specs.Places.{is_comma, is_name_kind, is_paren_close, read_name_at, name_there, stands, stands_there}
use Rattle.just_bench_lines.proofs.Fronts.{front, stands_front}

-- those that were read before others
abbrev pub after_those : List FunctionParameter → Option (List FunctionParameter × ℕ) → Option (List FunctionParameter × ℕ)
after_those made = option_map {U = List FunctionParameter × ℕ} (λ more. (made ++ more.0, more.1))

-- what was read and what is left make the whole
pub record Listed (all : List Lexeme) (start : ℕ) (made : List FunctionParameter) (at : ℕ) : Type 0 where
  pub whole : parameters all start ≡ after_those made (parameters_from at (drop at all))

none_before : (o : Option (List FunctionParameter × ℕ)) → o ≡ after_those [] o
none_before None = refl
none_before (Some more) = refl

pub listed_start : (all : List Lexeme) (start : ℕ) (made : List FunctionParameter) → made ≡ [] → Listed all start made start
unfolding parameters
listed_start all start made none = rw none (record { whole = none_before (parameters_from start (drop start all)) })

grown : (made : List FunctionParameter) (l : Lexeme) (o : Option (List FunctionParameter × ℕ)) → after_those made (and_parameter l o) ≡ after_those (made ++ function_parameter l ∷ []) o
grown made l None = refl
grown made l (Some more) = ap (λ ps. Some (ps, more.1)) (sym (append_assoc made (function_parameter l ∷ []) more.0))

name_is_no_close : (k : Kind) → is_name_kind k ≡ true → is_paren_close k ≡ false
name_is_no_close kind.Name h = refl
name_is_no_close _ h = absurd (false≢true h)

close_is_no_name : (k : Kind) → is_paren_close k ≡ true → is_name_kind k ≡ false
close_is_no_name kind.ParenClose h = refl
close_is_no_name _ h = absurd (false≢true h)

-- a name, or none
abbrev name_of : Lexeme → Name
name_of l = record { token = l.token }

named : (l : Lexeme) (name : Name) (b : Bool) → is_name_kind l.kind ≡ b → Some name ≡ (if b then Some (name_of l) else None) → (is_name_kind l.kind ≡ true) × (record { name = name; number = no_number } ≡ function_parameter l)
named l name true is h = (is, ap (λ (n : Name). record { name = n; number = no_number }) (same_Some name (name_of l) h))
named l name false is h = absurd (none-some name (sym h))

unnamed : (l : Lexeme) (b : Bool) → is_name_kind l.kind ≡ b → None ≡ (if b then Some (name_of l) else None) → is_name_kind l.kind ≡ false
unnamed l true is h = absurd (none-some (name_of l) h)
unnamed l false is h = is

within_name : (all : List Lexeme) (at : ℕ) (name : Name) → Some name ≡ read_name_at all at → at < length all
within_name all at name h = elim ((slice_get_cases all at).1) [
  | inl here ↦ here.1
  | inr past ↦ absurd (none-some name (sym (h ∙ ap name_there past.1)))
]

-- what was read of a lexeme that is no name, and of one that is
no_name : (at : ℕ) (l : Lexeme) (rest : List Lexeme) → is_name_kind l.kind ≡ false → parameters_from at (l ∷ rest) ≡ (if is_paren_close l.kind then Some ([], at + 1) else None)
no_name at l [] h = refl
no_name at l (m ∷ rest) h = rw h refl

abbrev after_name : ℕ → Lexeme → List Lexeme → Option (List FunctionParameter × ℕ)
after_name at l [] = None
after_name at l (m ∷ rest) =
    if is_comma m.kind then (if closes rest then None else and_parameter l (parameters_from (at + 2) rest))
    else (if is_paren_close m.kind then Some (function_parameter l ∷ [], at + 2) else None)

a_name : (at : ℕ) (l : Lexeme) (rest : List Lexeme) → is_name_kind l.kind ≡ true → parameters_from at (l ∷ rest) ≡ after_name at l rest
a_name at l [] h = rw (name_is_no_close l.kind h) refl
a_name at l (m ∷ rest) h = rw h refl

-- what follows the name at a place
tail_at : (all : List Lexeme) (at : ℕ) (name : Name) → Some name ≡ read_name_at all at
    → (l : Lexeme) × (record { name = name; number = no_number } ≡ function_parameter l) × (parameters_from at (drop at all) ≡ after_name at l (drop (at + 1) all))
tail_at all at name h =
    let f = front all at (within_name all at name h) in
    let n = named f.0 name (is_name_kind f.0.kind) refl (h ∙ ap name_there f.1.there) in
    (f.0, n.1, ap (parameters_from at) f.1.dropped ∙ a_name at f.0 (drop (at + 1) all) n.0)

-- the place of a lexeme that stands there
within_stands : (is : Kind → Bool) (all : List Lexeme) (at : ℕ) → stands is all at ≡ true → at < length all
within_stands is all at h = elim ((slice_get_cases all at).1) [
  | inl here ↦ here.1
  | inr past ↦ absurd (false≢true (sym (ap (stands_there is) past.1) ∙ h))
]

-- whether a `)` stands at a place
closes_at : (all : List Lexeme) (at : ℕ) (b : Bool) → stands is_paren_close all at ≡ b → closes (drop at all) ≡ b
closes_at all at b h = elim ((slice_get_cases all at).1) [
  | inl here ↦ let f = front all at here.1 in ap closes f.1.dropped ∙ stands_front is_paren_close all at f.0 b f.1 h
  | inr past ↦ ap closes (drop_all at all past.0) ∙ sym (ap (stands_there is_paren_close) past.1) ∙ h
]

-- after a name stands a comma
comma_after : (all : List Lexeme) (at : ℕ) (l : Lexeme) (b : Bool) → stands is_comma all (at + 1) ≡ true → stands is_paren_close all (at + 1 + 1) ≡ b
    → after_name at l (drop (at + 1) all) ≡ (if b then None else and_parameter l (parameters_from (at + 2) (drop (at + 2) all)))
comma_after all at l b h close =
    let f = front all (at + 1) (within_stands is_comma all (at + 1) h) in
    let two : at + 1 + 1 ≡ at + 2 = omega arith in
    ap (after_name at l) f.1.dropped
    ∙ rw (stands_front is_comma all (at + 1) f.0 true f.1 h) refl
    ∙ ap (λ c. if c then None else and_parameter l (parameters_from (at + 2) (drop (at + 1 + 1) all))) (closes_at all (at + 1 + 1) b close)
    ∙ ap (λ n. if b then None else and_parameter l (parameters_from (at + 2) (drop n all))) two

-- or the `)`, which is what is read next
close_after : (all : List Lexeme) (at : ℕ) (l : Lexeme) → stands is_comma all (at + 1) ≡ false → stands is_paren_close all (at + 1) ≡ true
    → after_name at l (drop (at + 1) all) ≡ and_parameter l (parameters_from (at + 1) (drop (at + 1) all))
close_after all at l other h =
    let f = front all (at + 1) (within_stands is_paren_close all (at + 1) h) in
    let close = stands_front is_paren_close all (at + 1) f.0 true f.1 h in
    let two : at + 2 ≡ at + 1 + 1 = omega arith in
    let named : after_name at l (f.0 ∷ drop (at + 1 + 1) all) ≡ Some (function_parameter l ∷ [], at + 2) = rw (stands_front is_comma all (at + 1) f.0 false f.1 other, close) refl in
    let read : parameters_from (at + 1) (drop (at + 1) all) ≡ Some ([], at + 1 + 1) =
    ap (parameters_from (at + 1)) f.1.dropped ∙ no_name (at + 1) f.0 (drop (at + 1 + 1) all) (close_is_no_name f.0.kind close) ∙ ap (λ b. if b then Some ([], at + 1 + 1) else None) close in
    ap (after_name at l) f.1.dropped ∙ named ∙ ap (λ n. Some (function_parameter l ∷ [], n)) two ∙ ap (and_parameter l) (sym read)

goes_on : (all : List Lexeme) (at : ℕ) (l : Lexeme) (next : ℕ) (b c d : Bool) → stands is_comma all (at + 1) ≡ b → stands is_paren_close all (at + 1) ≡ c → stands is_paren_close all (at + 1 + 1) ≡ d
    → Some next ≡ (if b then (if d then None else Some (at + 1 + 1)) else (if c then Some (at + 1) else None)) → after_name at l (drop (at + 1) all) ≡ and_parameter l (parameters_from next (drop next all))
goes_on all at l next true c true p q r h = absurd (none-some next (sym h))
goes_on all at l next true c false p q r h =
    let two : at + 2 ≡ next = omega (arith, same_Some next (at + 1 + 1) h) in
    comma_after all at l false p r ∙ ap (λ n. and_parameter l (parameters_from n (drop n all))) two
goes_on all at l next false true d p q r h = close_after all at l p q ∙ ap (λ n. and_parameter l (parameters_from n (drop n all))) (sym (same_Some next (at + 1) h))
goes_on all at l next false false d p q r h = absurd (none-some next (sym h))

pub listed_step : (all : List Lexeme) (start : ℕ) (made : List FunctionParameter) (at : ℕ) (name : Name) (next : ℕ) (made' : List FunctionParameter) → Listed all start made at → Some name ≡ read_name_at all at
    → Some next ≡ after_part all (at + 1) → made' ≡ made ++ record { name = name; number = no_number } ∷ [] → Listed all start made' next
listed_step all start made at name next made' so_far is goes pushed =
    let t = tail_at all at name is in
    rw (pushed, t.1) (record {
      whole = so_far.whole ∙ ap (after_those made) (t.2 ∙ goes_on all at t.0 next (stands is_comma all (at + 1)) (stands is_paren_close all (at + 1)) (stands is_paren_close all (at + 1 + 1)) refl refl refl goes) ∙ grown made t.0 (parameters_from next (drop next all));
    })

no_name_at : (all : List Lexeme) (at : ℕ) (b : Bool) → None ≡ read_name_at all at → stands is_paren_close all at ≡ b → parameters_from at (drop at all) ≡ (if b then Some ([], at + 1) else None)
no_name_at all at b is close = elim ((slice_get_cases all at).1) [
  | inl here ↦
      let f = front all at here.1 in
      ap (parameters_from at) f.1.dropped ∙ no_name at f.0 (drop (at + 1) all) (unnamed f.0 (is_name_kind f.0.kind) refl (is ∙ ap name_there f.1.there)) ∙ rw (stands_front is_paren_close all at f.0 b f.1 close) refl
  | inr past ↦ ap (parameters_from at) (drop_all at all past.0) ∙ ap (λ c. if c then Some ([], at + 1) else None) (sym (ap (stands_there is_paren_close) past.1) ∙ close)
]

pub listed_end : (all : List Lexeme) (start : ℕ) (made : List FunctionParameter) (at : ℕ) → Listed all start made at → None ≡ read_name_at all at → stands is_paren_close all at ≡ true → Some (made, at + 1) ≡ parameters all start
listed_end all start made at so_far is close = sym (so_far.whole ∙ ap (after_those made) (no_name_at all at true is close) ∙ ap (λ ps. Some (ps, at + 1)) (append-nil made))

pub listed_fail : (all : List Lexeme) (start : ℕ) (made : List FunctionParameter) (at : ℕ) → Listed all start made at → None ≡ read_name_at all at → stands is_paren_close all at ≡ false → None ≡ parameters all start
listed_fail all start made at so_far is close = sym (so_far.whole ∙ ap (after_those made) (no_name_at all at false is close))

-- after a name stands neither, or a comma before the `)`
stuck : (all : List Lexeme) (at : ℕ) (l : Lexeme) (b c d : Bool) → stands is_comma all (at + 1) ≡ b → stands is_paren_close all (at + 1) ≡ c → stands is_paren_close all (at + 1 + 1) ≡ d
    → None ≡ (if b then (if d then None else Some (at + 1 + 1)) else (if c then Some (at + 1) else None)) → after_name at l (drop (at + 1) all) ≡ None
stuck all at l true c true p q r h = comma_after all at l true p r
stuck all at l true c false p q r h = absurd (none-some (at + 1 + 1) h)
stuck all at l false true d p q r h = absurd (none-some (at + 1) h)
stuck all at l false false d p q r h = elim ((slice_get_cases all (at + 1)).1) [
  | inl here ↦
      let f = front all (at + 1) here.1 in
      ap (after_name at l) f.1.dropped ∙ rw (stands_front is_comma all (at + 1) f.0 false f.1 p, stands_front is_paren_close all (at + 1) f.0 false f.1 q) refl
  | inr past ↦ ap (after_name at l) (drop_all (at + 1) all past.0)
]

pub listed_stuck : (all : List Lexeme) (start : ℕ) (made : List FunctionParameter) (at : ℕ) (name : Name) → Listed all start made at → Some name ≡ read_name_at all at → None ≡ after_part all (at + 1) → None ≡ parameters all start
listed_stuck all start made at name so_far is goes =
    let t = tail_at all at name is in
    sym (so_far.whole ∙ ap (after_those made) (t.2 ∙ stuck all at t.0 (stands is_comma all (at + 1)) (stands is_paren_close all (at + 1)) (stands is_paren_close all (at + 1 + 1)) refl refl refl goes))
