-- Reading an expression lexeme after lexeme.
use Rattle.std.proofs.Common.{◌≡◌, ℕ, ◌+◌, ◌<◌, ◌≤◌, sym, ◌∙◌, ap, List, [], ◌∷◌, length, drop, get_or, Bool, true, false, arith, add-one, inl, inr, subst, Option, Some, None, Result, Ok, Err}
use Rattle.std.specs.Prelude.{if◌then◌else◌, IfOk, IfSome}
use Rattle.std.proofs.Math.Seq.{drop-cons}
use Rattle.std.proofs.lemmas.Bool.{cases_lt}
use Rattle.std.proofs.lemmas.List.{drop_all, length-drop}
use Rattle.just_bench_expressions.specs.declared.expressions.Found.{Found}
use Rattle.just_ast_expressions.specs.declared.expression.Expression.{Expression}
use Rattle.just_bench_expressions.specs.declared.expressions.State.{State}
use Rattle.just_bench_expressions.specs.declared.lexer.Lexeme.{Lexeme}
use Rattle.just_bench_expressions.specs.Stack.{list_top}
use Rattle.just_bench_expressions.specs.Expressions.{opens_call, is_read, is_outermost, stops, read_step, found_at, finished, onward, read, unread, expression}

-- what was read and what is left make the whole
pub record Reading (sums : Bool) (all : List Lexeme) (whole : Option Found) (at : ℕ) (state : State) : Type 0 where
  pub is : whole ≡ read sums all at state (drop at all)

-- at a lexeme
pub front : (all : List Lexeme) (at : ℕ) (l : Lexeme) → at < length all → l ≡ get_or all at l → drop at all ≡ l ∷ drop (at + 1) all
front all at l within is = drop-cons all at l within ∙ ap (λ m. get_or all at l ∷ drop m all) (sym (add-one at)) ∙ ap (λ x. x ∷ drop (at + 1) all) (sym is)

-- what is read on, where the lexeme stops the expression or not
on_by : (sums : Bool) (all : List Lexeme) (whole : Option Found) (at : ℕ) (state : State) (l : Lexeme) (stop : Bool) → Reading sums all whole at state → at < length all → l ≡ get_or all at l
    → stops sums state l.kind ≡ stop
    → whole ≡ (if stop then finished at state else onward (read_step all at (at + 1) state l (opens_call (drop (at + 1) all))) (λ next. read sums all (at + 1) next (drop (at + 1) all)))
on_by sums all whole at state l stop reading left is on =
    reading.is ∙ ap (read sums all at state) (front all at l left is)
    ∙ ap (λ b. if b then finished at state else onward (read_step all at (at + 1) state l (opens_call (drop (at + 1) all))) (λ next. read sums all (at + 1) next (drop (at + 1) all))) on

pub reading_step : (sums : Bool) (all : List Lexeme) (whole : Option Found) (at : ℕ) (state next : State) (l : Lexeme) → Reading sums all whole at state → at < length all → l ≡ get_or all at l
    → stops sums state l.kind ≡ false → Some next ≡ read_step all at (at + 1) state l (opens_call (drop (at + 1) all)) → Reading sums all whole (at + 1) next
reading_step sums all whole at state next l reading left is on gone = record {
  is = on_by sums all whole at state l false reading left is on ∙ ap (λ s. onward s (λ next. read sums all (at + 1) next (drop (at + 1) all))) (sym gone);
}

pub reading_fails : (sums : Bool) (all : List Lexeme) (whole : Option Found) (at : ℕ) (state : State) (l : Lexeme) → Reading sums all whole at state → at < length all → l ≡ get_or all at l
    → stops sums state l.kind ≡ false → None ≡ read_step all at (at + 1) state l (opens_call (drop (at + 1) all)) → None ≡ whole
reading_fails sums all whole at state l reading left is on gone =
    sym (on_by sums all whole at state l false reading left is on ∙ ap (λ s. onward s (λ next. read sums all (at + 1) next (drop (at + 1) all))) (sym gone))

pub reading_stops : (sums : Bool) (all : List Lexeme) (whole : Option Found) (at : ℕ) (state : State) (l : Lexeme) → Reading sums all whole at state → at < length all → l ≡ get_or all at l
    → stops sums state l.kind ≡ true → finished at state ≡ whole
reading_stops sums all whole at state l reading left is on = sym (on_by sums all whole at state l true reading left is on)

pub reading_ends : (sums : Bool) (all : List Lexeme) (whole : Option Found) (at : ℕ) (state : State) → Reading sums all whole at state → length all ≤ at → finished at state ≡ whole
reading_ends sums all whole at state reading none = sym (reading.is ∙ ap (read sums all at state) (drop_all at all none))

found_within : (sum : Option Expression) (at n : ℕ) → at ≤ n → IfSome (found_at at sum) (λ f. f.end ≤ n)
found_within None at n h = tt
found_within (Some part) at n h = h

finished_if : (b c : Bool) (sum : Option Expression) (at n : ℕ) → at ≤ n → IfSome (if b then (if c then found_at at sum else None) else None) (λ f. f.end ≤ n)
finished_if true true sum at n h = found_within sum at n h
finished_if true false sum at n h = tt
finished_if false c sum at n h = tt

finished_within : (state : State) (at n : ℕ) → at ≤ n → IfSome (finished at state) (λ f. f.end ≤ n)
finished_within state at n h = finished_if (is_read state.ready) (is_outermost (list_top state.outer)) state.sum at n h

either_within : (b : Bool) (x y : Option Found) (n : ℕ) → IfSome x (λ f. f.end ≤ n) → IfSome y (λ f. f.end ≤ n) → IfSome (if b then x else y) (λ f. f.end ≤ n)
either_within true x y n h k = h
either_within false x y n h k = k

onward_within : (state : Option State) (more : State → Option Found) (n : ℕ) → ((s : State) → IfSome (more s) (λ f. f.end ≤ n)) → IfSome (onward state more) (λ f. f.end ≤ n)
onward_within None more n h = tt
onward_within (Some state) more n h = h state

read_within : (sums : Bool) (all : List Lexeme) (at : ℕ) (state : State) (rest : List Lexeme) (n : ℕ) → at + length rest ≡ n → IfSome (read sums all at state rest) (λ f. f.end ≤ n)
read_within sums all at state [] n h = finished_within state at n (omega (arith, h))
read_within sums all at state (l ∷ rest) n h =
    either_within (stops sums state l.kind) (finished at state) (onward (read_step all at (at + 1) state l (opens_call rest)) (λ next. read sums all (at + 1) next rest)) n
    (finished_within state at n (omega (arith, h)))
    (onward_within (read_step all at (at + 1) state l (opens_call rest)) (λ next. read sums all (at + 1) next rest) n (λ next. read_within sums all (at + 1) next rest n (omega (arith, h))))

pub expression_within : (sums : Bool) (all : List Lexeme) (start : ℕ) → IfSome (expression sums all start) (λ f. f.end ≤ length all)
unfolding expression
expression_within sums all start = elim (cases_lt (length all) start) [
  | inl h ↦ subst (λ rest. IfSome (read sums all start unread rest) (λ f. f.end ≤ length all)) (sym (drop_all start all (omega (arith, h)))) tt
  | inr h ↦ read_within sums all start unread (drop start all) (length all) (let e = length-drop start all in omega (arith, e, h))
]

-- the place after an expression is within
pub found_is_within : {E : Type 0} (sums : Bool) (all : List Lexeme) (start : ℕ) (r : Result (Option Found) E)
    → IfOk r (λ found. found ≡ expression sums all start) → IfOk r (λ found. IfSome found (λ f. f.end ≤ length all))
found_is_within sums all start (Ok found) is = subst (λ o. IfSome o (λ f. f.end ≤ length all)) (sym is) (expression_within sums all start)
found_is_within sums all start (Err e) is = tt

-- the place after an expression is after its first lexeme
abbrev pub EndsFrom : ℕ → Option Found → Type 0
EndsFrom low found = IfSome found (λ f. low ≤ f.end)

found_from : (sum : Option Expression) (at : ℕ) → EndsFrom at (found_at at sum)
found_from None at = tt
found_from (Some part) at = omega arith

either_from : (b : Bool) (x y : Option Found) (low : ℕ) → EndsFrom low x → EndsFrom low y → EndsFrom low (if b then x else y)
either_from true x y low h k = h
either_from false x y low h k = k

finished_from : (state : State) (at : ℕ) → EndsFrom at (finished at state)
finished_from state at =
    either_from (is_read state.ready) _ None at (either_from (is_outermost (list_top state.outer)) (found_at at state.sum) None at (found_from state.sum at) tt) tt

onward_from : (state : Option State) (more : State → Option Found) (low : ℕ) → ((s : State) → EndsFrom low (more s)) → EndsFrom low (onward state more)
onward_from None more low h = tt
onward_from (Some state) more low h = h state

weaker_from : (found : Option Found) (low high : ℕ) → low ≤ high → EndsFrom high found → EndsFrom low found
weaker_from None low high h k = tt
weaker_from (Some f) low high h k = omega (arith, h, k)

read_from : (sums : Bool) (all : List Lexeme) (at : ℕ) (state : State) (rest : List Lexeme) → EndsFrom at (read sums all at state rest)
read_from sums all at state [] = finished_from state at
read_from sums all at state (l ∷ rest) =
    either_from (stops sums state l.kind) (finished at state) (onward (read_step all at (at + 1) state l (opens_call rest)) (λ next. read sums all (at + 1) next rest)) at
    (finished_from state at)
    (onward_from (read_step all at (at + 1) state l (opens_call rest)) (λ next. read sums all (at + 1) next rest) at
    (λ next. weaker_from (read sums all (at + 1) next rest) at (at + 1) (omega arith) (read_from sums all (at + 1) next rest)))

unread_from : (sums : Bool) (all : List Lexeme) (at : ℕ) (rest : List Lexeme) → EndsFrom (at + 1) (read sums all at unread rest)
unread_from sums all at [] = tt
unread_from sums all at (l ∷ rest) =
    onward_from (read_step all at (at + 1) unread l (opens_call rest)) (λ next. read sums all (at + 1) next rest) (at + 1) (λ next. read_from sums all (at + 1) next rest)

pub expression_from : (sums : Bool) (all : List Lexeme) (start : ℕ) → EndsFrom (start + 1) (expression sums all start)
unfolding expression
expression_from sums all start = unread_from sums all start (drop start all)

pub found_is_after : {E : Type 0} (sums : Bool) (all : List Lexeme) (start : ℕ) (r : Result (Option Found) E)
    → IfOk r (λ found. found ≡ expression sums all start) → IfOk r (λ found. IfSome found (λ f. start + 1 ≤ f.end))
found_is_after sums all start (Ok found) is = subst (λ o. IfSome o (λ f. start + 1 ≤ f.end)) (sym is) (expression_from sums all start)
found_is_after sums all start (Err e) is = tt
