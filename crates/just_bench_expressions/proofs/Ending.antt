-- Where an expression ends.
use Rattle.std.proofs.Common.{◌≡◌, ℕ, ◌+◌, ◌<◌, ◌≤◌, sym, ◌∙◌, ap, refl, subst, List, [], ◌∷◌, length, drop, get_or, Bool, true, false, arith, add-one, Option, Some, None, Result, Ok, Err}
use Rattle.std.specs.Prelude.{if◌then◌else◌, IfOk, IfSome}
use Rattle.std.proofs.Math.Seq.{drop-cons}
use Rattle.std.proofs.lemmas.List.{drop_all}
use Rattle.just_ast_expressions.specs.declared.expression.Expression.{Expression}
use Rattle.just_bench_expressions.specs.declared.expressions.Found.{Found}
use Rattle.just_bench_expressions.specs.declared.expressions.State.{State}
use Rattle.just_bench_expressions.specs.declared.lexer.Lexeme.{Lexeme}
use Rattle.just_bench_expressions.specs.Stack.{list_top}
use Rattle.just_bench_expressions.specs.Expressions.{opens_call, is_read, is_outermost, stops, read_step, found_at, finished, onward, read, unread, expression, expression_end, end_at, read_end, end_onward, EndsWith}
use Rattle.just_bench_expressions.proofs.Reading.{front, expression_from, expression_within}

-- what was read and what is left make the whole
pub record Ending (sums : Bool) (all : List Lexeme) (whole : Result ℕ ℕ) (at : ℕ) (state : State) : Type 0 where
  pub is : whole ≡ read_end sums all at state (drop at all)

-- what is read on, where the lexeme stops the expression or not
on_by : (sums : Bool) (all : List Lexeme) (whole : Result ℕ ℕ) (at : ℕ) (state : State) (l : Lexeme) (stop : Bool) → Ending sums all whole at state → at < length all → l ≡ get_or all at l
    → stops sums state l.kind ≡ stop
    → whole ≡ (if stop then end_at at (finished at state) else end_onward at (read_step all at (at + 1) state l (opens_call (drop (at + 1) all))) (λ next. read_end sums all (at + 1) next (drop (at + 1) all)))
on_by sums all whole at state l stop ending left is on =
    ending.is ∙ ap (read_end sums all at state) (front all at l left is)
    ∙ ap (λ b. if b then end_at at (finished at state) else end_onward at (read_step all at (at + 1) state l (opens_call (drop (at + 1) all))) (λ next. read_end sums all (at + 1) next (drop (at + 1) all))) on

pub ending_step : (sums : Bool) (all : List Lexeme) (whole : Result ℕ ℕ) (at : ℕ) (state next : State) (l : Lexeme) → Ending sums all whole at state → at < length all → l ≡ get_or all at l
    → stops sums state l.kind ≡ false → Some next ≡ read_step all at (at + 1) state l (opens_call (drop (at + 1) all)) → Ending sums all whole (at + 1) next
ending_step sums all whole at state next l ending left is on gone = record {
  is = on_by sums all whole at state l false ending left is on ∙ ap (λ s. end_onward at s (λ next. read_end sums all (at + 1) next (drop (at + 1) all))) (sym gone);
}

pub ending_fails : (sums : Bool) (all : List Lexeme) (whole : Result ℕ ℕ) (at : ℕ) (state : State) (l : Lexeme) → Ending sums all whole at state → at < length all → l ≡ get_or all at l
    → stops sums state l.kind ≡ false → None ≡ read_step all at (at + 1) state l (opens_call (drop (at + 1) all)) → Err at ≡ whole
ending_fails sums all whole at state l ending left is on gone =
    sym (on_by sums all whole at state l false ending left is on ∙ ap (λ s. end_onward at s (λ next. read_end sums all (at + 1) next (drop (at + 1) all))) (sym gone))

pub ending_stops : (sums : Bool) (all : List Lexeme) (whole : Result ℕ ℕ) (at : ℕ) (state : State) (l : Lexeme) → Ending sums all whole at state → at < length all → l ≡ get_or all at l
    → stops sums state l.kind ≡ true → end_at at (finished at state) ≡ whole
ending_stops sums all whole at state l ending left is on = sym (on_by sums all whole at state l true ending left is on)

pub ending_ends : (sums : Bool) (all : List Lexeme) (whole : Result ℕ ℕ) (at : ℕ) (state : State) → Ending sums all whole at state → length all ≤ at → end_at at (finished at state) ≡ whole
ending_ends sums all whole at state ending none = sym (ending.is ∙ ap (read_end sums all at state) (drop_all at all none))

-- an expression ends where its end is
found_agrees : (sum : Option Expression) (at : ℕ) → EndsWith (found_at at sum) (end_at at (found_at at sum))
found_agrees None at = tt
found_agrees (Some part) at = refl

none_agrees : (at : ℕ) → EndsWith None (Err at)
none_agrees at = tt

finished_agrees : (b c : Bool) (sum : Option Expression) (at : ℕ)
    → EndsWith (if b then (if c then found_at at sum else None) else None) (end_at at (if b then (if c then found_at at sum else None) else None))
finished_agrees true true sum at = found_agrees sum at
finished_agrees true false sum at = tt
finished_agrees false c sum at = tt

state_agrees : (state : State) (at : ℕ) → EndsWith (finished at state) (end_at at (finished at state))
state_agrees state at = finished_agrees (is_read state.ready) (is_outermost (list_top state.outer)) state.sum at

either_agrees : (b : Bool) (x y : Option Found) (p q : Result ℕ ℕ) → EndsWith x p → EndsWith y q → EndsWith (if b then x else y) (if b then p else q)
either_agrees true x y p q h k = h
either_agrees false x y p q h k = k

onward_agrees : (at : ℕ) (state : Option State) (more : State → Option Found) (end : State → Result ℕ ℕ) → ((s : State) → EndsWith (more s) (end s)) → EndsWith (onward state more) (end_onward at state end)
onward_agrees at None more end h = tt
onward_agrees at (Some state) more end h = h state

read_agrees : (sums : Bool) (all : List Lexeme) (at : ℕ) (state : State) (rest : List Lexeme) → EndsWith (read sums all at state rest) (read_end sums all at state rest)
read_agrees sums all at state [] = state_agrees state at
read_agrees sums all at state (l ∷ rest) =
    either_agrees (stops sums state l.kind) (finished at state) (onward (read_step all at (at + 1) state l (opens_call rest)) (λ next. read sums all (at + 1) next rest))
    (end_at at (finished at state)) (end_onward at (read_step all at (at + 1) state l (opens_call rest)) (λ next. read_end sums all (at + 1) next rest))
    (state_agrees state at)
    (onward_agrees at (read_step all at (at + 1) state l (opens_call rest)) (λ next. read sums all (at + 1) next rest) (λ next. read_end sums all (at + 1) next rest) (λ next. read_agrees sums all (at + 1) next rest))

pub expression_agrees : (sums : Bool) (all : List Lexeme) (start : ℕ) → EndsWith (expression sums all start) (expression_end sums all start)
unfolding expression expression_end
expression_agrees sums all start = read_agrees sums all start unread (drop start all)

-- what holds of where an expression ends
ends_so : (P : ℕ → Type 0) (found : Option Found) (end : Result ℕ ℕ) → EndsWith found end → IfSome found (λ f. P f.end) → IfOk end P
ends_so P (Some f) (Ok e) same h = subst P same h
ends_so P (Some f) (Err e) same h = tt
ends_so P None (Ok e) same h = absurd same
ends_so P None (Err e) same h = tt

pub end_agrees : {E : Type 0} (sums : Bool) (all : List Lexeme) (start : ℕ) (r : Result (Result ℕ ℕ) E)
    → IfOk r (λ end. end ≡ expression_end sums all start) → IfOk r (EndsWith (expression sums all start))
end_agrees sums all start (Ok end) is = subst (EndsWith (expression sums all start)) (sym is) (expression_agrees sums all start)
end_agrees sums all start (Err e) is = tt

pub end_is_within : {E : Type 0} (sums : Bool) (all : List Lexeme) (start : ℕ) (r : Result (Result ℕ ℕ) E)
    → IfOk r (λ end. end ≡ expression_end sums all start) → IfOk r (λ end. IfOk end (λ e. e ≤ length all))
end_is_within sums all start (Ok end) is = subst (λ o. IfOk o (λ e. e ≤ length all)) (sym is) (ends_so (λ e. e ≤ length all) (expression sums all start) (expression_end sums all start) (expression_agrees sums all start) (expression_within sums all start))
end_is_within sums all start (Err e) is = tt

pub end_is_after : {E : Type 0} (sums : Bool) (all : List Lexeme) (start : ℕ) (r : Result (Result ℕ ℕ) E)
    → IfOk r (λ end. end ≡ expression_end sums all start) → IfOk r (λ end. IfOk end (λ e. start + 1 ≤ e))
end_is_after sums all start (Ok end) is = subst (λ o. IfOk o (λ e. start + 1 ≤ e)) (sym is) (ends_so (λ e. start + 1 ≤ e) (expression sums all start) (expression_end sums all start) (expression_agrees sums all start) (expression_from sums all start))
end_is_after sums all start (Err e) is = tt
