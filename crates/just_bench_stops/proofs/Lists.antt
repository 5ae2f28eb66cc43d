-- An expression is a list that is not empty exactly where it begins with a bracket that the next lexeme does not close, and ends as one that is no sum.
use Rattle.std.proofs.Common.{inl, inr, ◌⊎◌, ◌≡◌, ℕ, ◌+◌, ◌<◌, sym, ◌∙◌, ap, refl, subst, List, [], ◌∷◌, length, drop, Bool, true, false, arith, length-drop, Option, Some, None, Result, Ok, Err}
use Rattle.std.specs.Prelude.{IfSome, if◌then◌else◌, not, ◌==◌, ◌&&◌, is_some, is_ok}
use Rattle.std.specs.Option.{option_map}
use Rattle.std.proofs.lemmas.Bool.{false≢true}
use Rattle.std.proofs.lemmas.List.{drop_all}
use Rattle.std.proofs.lemmas.Option.{slice_get_cases}
use Rattle.just_ast_expressions.specs.declared.expression.Expression.{Expression}
use Rattle.just_ast_expressions.specs.declared.expression.Shape.{Shape, roll-Shape, out-roll-Shape}
use Rattle.just_ast_expressions.specs.declared.expression.Shape.TheOpen.{Shape-F}
use Rattle.just_ast_expressions.specs.declared.expression.Shape.TheVariants as shape
use Rattle.just_bench_expressions.specs.declared.expressions.Bracket.{Bracket}
use Rattle.just_bench_expressions.specs.declared.expressions.Bracket.TheVariants as bracket
use Rattle.just_bench_expressions.specs.declared.expressions.Found.{Found}
use Rattle.just_bench_expressions.specs.declared.expressions.Level.{Level}
use Rattle.just_bench_expressions.specs.declared.expressions.Ready.{Ready}
use Rattle.just_bench_expressions.specs.declared.expressions.Ready.TheVariants as ready
use Rattle.just_bench_expressions.specs.declared.expressions.State.{State}
use Rattle.just_bench_expressions.specs.declared.lexer.Kind.{Kind}
use Rattle.just_bench_expressions.specs.declared.lexer.Kind.TheVariants as kind
use Rattle.just_bench_expressions.specs.declared.lexer.Lexeme.{Lexeme}
use Rattle.just_names.specs.Token.{lexeme}
use Rattle.just_bench_expressions.specs.Expressions as spec
use Rattle.just_bench_expressions.specs.Lexemes.{between_quotes}
use Rattle.just_bench_expressions.specs.Spelling.{is_plus}
use Rattle.just_bench_expressions.specs.Stack.{list_top}
use Rattle.just_bench_lines.specs.Definitions.{ends_line, listed, listed_by, listed_layer, program_of, whole_expression}
use Rattle.just_bench_lines.specs.Places.{is_bracket_close, is_bracket_open, stands, stands_there}
use Rattle.just_bench_lines.proofs.Fronts.{front}
use Rattle.just_bench_lines.proofs.Programs.{list_listed}
use Rattle.just_bench_stops.specs.Marks.{goes_on_from, line_end, mark_end}

-- what is no list is no program
unlisted : (layer : Shape-F Shape Expression) (s : Shape) → roll-Shape layer ≡ s → listed_layer layer ≡ None → listed s ≡ None
unfolding listed
unlisted layer s rolls none = ap listed (sym rolls) ∙ ap listed_layer (out-roll-Shape layer) ∙ none

no_text : (cooked : List ℕ) → listed (shape.StringLiteral cooked) ≡ None
no_text cooked = unlisted (Shape-F.StringLiteral cooked) (shape.StringLiteral cooked) (shape.rolls-StringLiteral cooked) refl

no_variable : (l : Lexeme) → listed (shape.Variable (spec.lexeme_name l) None) ≡ None
no_variable l = unlisted (Shape-F.Variable (spec.lexeme_name l) None) (shape.Variable (spec.lexeme_name l) None) (shape.rolls-Variable (spec.lexeme_name l) None) refl

no_group : (e : Expression) → listed (shape.Group e) ≡ None
no_group e = unlisted (Shape-F.Group e) (shape.Group e) (shape.rolls-Group e) refl

no_sum : (e part : Expression) → listed (shape.Concatenation e part) ≡ None
no_sum e part = unlisted (Shape-F.Concatenation e part) (shape.Concatenation e part) (shape.rolls-Concatenation e part) refl

if_some : {A : Type 0} (P : A → Type 0) (b : Bool) (x y : Option A) → IfSome x P → IfSome y P → IfSome (if b then x else y) P
if_some P true x y h k = h
if_some P false x y h k = k

some_if : {A B : Type 0} (P : B → Type 0) (f : A → B) (o : Option A) → IfSome o (λ x. P (f x)) → IfSome (option_map f o) P
some_if P f None h = tt
some_if P f (Some x) h = h

-- In a list that is the first operand.
abbrev Base : List Level → Type 0
Base [] = ⊥
Base (level ∷ []) = (level.bracket ≡ bracket.List) × (level.sum ≡ None)
Base (level ∷ next ∷ outer) = Base (next ∷ outer)

-- behind what it begins with
abbrev Settled : Ready → Type 0
Settled ready.Wants = Unit {0}
Settled ready.Read = Unit {0}
Settled _ = ⊥

abbrev Deep : List Level → Ready → Type 0
Deep [] r = ⊥
Deep (level ∷ []) r = Settled r
Deep (level ∷ next ∷ outer) r = Unit {0}

-- an operand that was read is there
abbrev Full : Ready → Option Expression → Type 0
Full ready.Read sum = is_some sum ≡ true
Full _ sum = Unit {0}

record Inside (s : State) : Type 0 where
  base : Base s.outer
  deep : Deep s.outer s.ready
  full : Full s.ready s.sum

-- after such a list, of at least one element
record Whole (s : State) : Type 0 where
  none : s.outer ≡ []
  read : s.ready ≡ ready.Read
  made : Expression
  is : s.sum ≡ Some made
  program : is_some (listed made.shape) ≡ true

abbrev Next : State → Type 0
Next s = Inside s ⊎ Whole s

base_more : (level : Level) (outer : List Level) → Base outer → Base (level ∷ outer)
base_more level [] b = absurd b
base_more level (next ∷ outer) b = b

deep_by : (outer : List Level) (r : Ready) → Base outer → Settled r → Deep outer r
deep_by [] r b s = absurd b
deep_by (level ∷ []) r b s = s
deep_by (level ∷ next ∷ outer) r b s = tt

deep_more : (level : Level) (outer : List Level) (r : Ready) → Base outer → Deep (level ∷ outer) r
deep_more level [] r b = absurd b
deep_more level (next ∷ outer) r b = tt

module _ (all : List Lexeme) where
  shape_in : (at end : ℕ) (s : State) (it : Shape) → Base s.outer → Inside (spec.with_shape all at end s it)
  unfolding spec.with_shape
  shape_in at end s it b = record { base = b; deep = deep_by s.outer ready.Read b tt; full = refl }

  opened_in : (at : ℕ) (s : State) (b : Bracket) (r : Ready) → Base s.outer → Full r None → Inside (spec.opened_level at s b r)
  unfolding spec.opened_level
  opened_in at s b r base f =
      let level : Level = record { bracket = b; at = at; elements = s.elements; sum = s.sum; start = s.start } in
      record { base = base_more level s.outer base; deep = deep_more level s.outer r base; full = f }

  named_in : (at end : ℕ) (s : State) (l : Lexeme) (call : Bool) → Base s.outer → Inside (spec.named_expression all at end s l call)
  named_in at end s l true b = opened_in at s (bracket.Call (spec.lexeme_name l)) ready.Calls b tt
  named_in at end s l false b = shape_in at end s (shape.Variable (spec.lexeme_name l) None) b

  begun_by_in : (k : Kind) (at end : ℕ) (s : State) (l : Lexeme) (call : Bool) → Base s.outer → IfSome (spec.begun_by k all at end s l call) Inside
  begun_by_in kind.Quoted at end s l call b = shape_in at end s (shape.StringLiteral (between_quotes (lexeme l.token))) b
  begun_by_in kind.Name at end s l call b = named_in at end s l call b
  begun_by_in kind.ParenOpen at end s l call b = opened_in at s bracket.Group ready.Wants b tt
  begun_by_in kind.BracketOpen at end s l call b = opened_in at s bracket.List ready.Opens b tt
  begun_by_in _ at end s l call b = tt

  begun_in : (at end : ℕ) (s : State) (l : Lexeme) (call : Bool) → Base s.outer → IfSome (spec.begun_expression all at end s l call) Inside
  unfolding spec.begun_expression
  begun_in at end s l call b = begun_by_in l.kind at end s l call b

  -- at the end of a level
  abbrev Bottom : List Level → Option Expression → Type 0
  Bottom [] sum = Unit {0}
  Bottom (level ∷ []) sum = is_some sum ≡ true
  Bottom (level ∷ next ∷ outer) sum = Unit {0}

  bottom_read : (outer : List Level) (sum : Option Expression) → is_some sum ≡ true → Bottom outer sum
  bottom_read [] sum h = tt
  bottom_read (level ∷ []) sum h = h
  bottom_read (level ∷ next ∷ outer) sum h = tt

  bottom_opens : (outer : List Level) (sum : Option Expression) → Deep outer ready.Opens → Bottom outer sum
  bottom_opens [] sum h = tt
  bottom_opens (level ∷ []) sum h = absurd h
  bottom_opens (level ∷ next ∷ outer) sum h = tt

  some_more : (elements : List Expression) (sum : Option Expression) → is_some sum ≡ true → is_some (program_of (spec.and_sum elements sum)) ≡ true
  some_more elements None h = absurd (false≢true h)
  some_more [] (Some e) h = refl
  some_more (x ∷ rest) (Some e) h = refl

  whole_of : (at end : ℕ) (level : Level) (r : Ready) (elements : List Expression) (sum : Option Expression) → level.sum ≡ None → is_some sum ≡ true
      → Whole (spec.with_shape all at end (spec.resumed level [] r) (shape.List (spec.and_sum elements sum)))
  unfolding spec.with_shape
  whole_of at end level r elements sum none some = record {
    none = refl;
    read = refl;
    made = spec.spelled all at end (shape.List (spec.and_sum elements sum));
    is = ap (λ o. Some (spec.added all (if is_some o then level.start else at) end o (spec.spelled all at end (shape.List (spec.and_sum elements sum))))) none;
    program = ap is_some (list_listed (spec.and_sum elements sum)) ∙ some_more elements sum some;
  }

  bottom_next : (at end : ℕ) (level : Level) (s : State) (b : Bracket) → b ≡ bracket.List → level.sum ≡ None → is_some s.sum ≡ true
      → IfSome (option_map (λ it. spec.with_shape all at end (spec.resumed level [] s.ready) it) (spec.shape_of b s.elements s.sum)) Next
  bottom_next at end level s b is none some =
      subst (λ b. IfSome (option_map (λ it. spec.with_shape all at end (spec.resumed level [] s.ready) it) (spec.shape_of b s.elements s.sum)) Next) (sym is)
      (inr (whole_of at end level s.ready s.elements s.sum none some))

  each_in : (at end : ℕ) (s : State) (o : Option Shape) → Base s.outer → IfSome o (λ it. Next (spec.with_shape all at end s it))
  each_in at end s None b = tt
  each_in at end s (Some it) b = inl (shape_in at end s it b)

  closed_next : (outer : List Level) (end : ℕ) (s : State) → Base outer → Bottom outer s.sum → IfSome (spec.closed_in outer all end s) Next
  closed_next [] end s b some = absurd b
  closed_next (level ∷ []) end s b some = bottom_next level.at end level s level.bracket b.0 b.1 some
  closed_next (level ∷ next ∷ outer) end s b some =
      some_if Next (λ it. spec.with_shape all level.at end (spec.resumed level (next ∷ outer) s.ready) it) (spec.shape_of level.bracket s.elements s.sum)
      (each_in level.at end (spec.resumed level (next ∷ outer) s.ready) (spec.shape_of level.bracket s.elements s.sum) b)

  closed_then : (end : ℕ) (s : State) → Base s.outer → Bottom s.outer s.sum → IfSome (spec.closed all end s) Next
  unfolding spec.closed
  closed_then end s b some = closed_next s.outer end s b some

  continued_next : (k : Kind) (s : State) → Base s.outer → IfSome (spec.continued k s) Next
  continued_next kind.Plus s b = inl (record { base = b; deep = deep_by s.outer ready.Wants b tt; full = tt })
  continued_next kind.Comma s b =
      if_some Next (spec.has_elements s) (Some (spec.next_element s)) None (inl (record { base = b; deep = deep_by s.outer ready.Wants b tt; full = tt })) tt
  continued_next _ s b = tt

  followed_next : (end : ℕ) (s : State) (k : Kind) → Base s.outer → is_some s.sum ≡ true → IfSome (spec.followed all end s k) Next
  unfolding spec.followed
  followed_next end s k b some =
      if_some Next (spec.ends_level s k) (spec.closed all end s) (spec.continued k s) (closed_then end s b (bottom_read s.outer s.sum some)) (continued_next k s b)

  each_next : (o : Option State) → IfSome o Inside → IfSome o Next
  each_next None h = tt
  each_next (Some s) h = inl h

  calls_open : (outer : List Level) → Deep outer ready.Calls → Deep outer ready.Opens
  calls_open [] h = absurd h
  calls_open (level ∷ []) h = absurd h
  calls_open (level ∷ next ∷ outer) h = tt

  step_by_next : (r : Ready) (at end : ℕ) (s : State) (l : Lexeme) (call : Bool) → Base s.outer → Deep s.outer r → Full r s.sum → IfSome (spec.step_by r all at end s l call) Next
  step_by_next ready.Wants at end s l call b d f = each_next (spec.begun_expression all at end s l call) (begun_in at end s l call b)
  step_by_next ready.Opens at end s l call b d f =
      if_some Next (spec.ends_level s l.kind) (spec.closed all end s) (spec.begun_expression all at end s l call) (closed_then end s b (bottom_opens s.outer s.sum d))
      (each_next (spec.begun_expression all at end s l call) (begun_in at end s l call b))
  step_by_next ready.Calls at end s l call b d f = inl (record { base = b; deep = calls_open s.outer d; full = tt })
  step_by_next ready.Read at end s l call b d f = followed_next end s l.kind b f

  step_next : (at end : ℕ) (s : State) (l : Lexeme) (call : Bool) → Inside s → IfSome (spec.read_step all at end s l call) Next
  unfolding spec.read_step
  step_next at end s l call i = step_by_next s.ready at end s l call i.base i.deep i.full

-- In what comes to no list.
abbrev is_list : Bracket → Bool
is_list bracket.List = true
is_list _ = false

-- the outermost level is no list, or a sum stands before it
abbrev Rest : Level → Type 0
Rest level = (is_list level.bracket ≡ false) ⊎ (is_some level.sum ≡ true)

abbrev Outermost : List Level → Type 0 → Type 0
Outermost [] end = end
Outermost (level ∷ []) end = Rest level
Outermost (level ∷ next ∷ outer) end = Outermost (next ∷ outer) end

abbrev OtherSum : Option Expression → Type 0
OtherSum None = ⊥
OtherSum (Some e) = listed e.shape ≡ None

abbrev OtherEnd : Ready → Option Expression → Type 0
OtherEnd ready.Wants sum = is_some sum ≡ true
OtherEnd ready.Read sum = OtherSum sum
OtherEnd _ sum = ⊥

abbrev Other : State → Type 0
Other s = Outermost s.outer (OtherEnd s.ready s.sum)

-- where only the end differs
by_end : (E F : Type 0) (outer : List Level) → (E → F) → Outermost outer E → Outermost outer F
by_end E F [] f h = f h
by_end E F (level ∷ []) f h = h
by_end E F (level ∷ next ∷ outer) f h = by_end E F (next ∷ outer) f h

same_end : (E F : Type 0) (level : Level) (outer : List Level) → Outermost (level ∷ outer) E → Outermost (level ∷ outer) F
same_end E F level [] h = h
same_end E F level (next ∷ outer) h = same_end E F next outer h

pushed : (E F : Type 0) (level : Level) (outer : List Level) → (E → Rest level) → Outermost outer E → Outermost (level ∷ outer) F
pushed E F level [] f h = f h
pushed E F level (next ∷ outer) f h = same_end E F next outer h

-- an operand after a sum, or one that is no list
abbrev Fits : Option Expression → Shape → Type 0
Fits sum it = (is_some sum ≡ true) ⊎ (listed it ≡ None)

module _ (all : List Lexeme) where
  added_other : (start at end : ℕ) (sum : Option Expression) (it : Shape) → Fits sum it → listed (spec.added all start end sum (spec.spelled all at end it)).shape ≡ None
  added_other start at end None it (inl h) = absurd (false≢true h)
  added_other start at end None it (inr h) = h
  added_other start at end (Some e) it h = no_sum e (spec.spelled all at end it)

  shape_other : (at end : ℕ) (s : State) (it : Shape) → Outermost s.outer (Fits s.sum it) → Other (spec.with_shape all at end s it)
  unfolding spec.with_shape
  shape_other at end s it h =
      by_end (Fits s.sum it) (OtherSum (Some (spec.added all (spec.sum_start s at) end s.sum (spec.spelled all at end it)))) s.outer (added_other (spec.sum_start s at) at end s.sum it) h

  -- what a level begins with that is no list, or follows a sum
  abbrev Begins : State → Bool → Type 0
  Begins s b = (is_some s.sum ≡ true) ⊎ (b ≡ false)

  turned : (s : State) (b : Bracket) → Begins s (is_list b) → (is_list b ≡ false) ⊎ (is_some s.sum ≡ true)
  turned s b (inl h) = inr h
  turned s b (inr h) = inl h

  opened_other : (at : ℕ) (s : State) (b : Bracket) (r : Ready) → Outermost s.outer (Begins s (is_list b)) → Other (spec.opened_level at s b r)
  unfolding spec.opened_level
  opened_other at s b r h =
      let level : Level = record { bracket = b; at = at; elements = s.elements; sum = s.sum; start = s.start } in
      pushed (Begins s (is_list b)) (OtherEnd r None) level s.outer (turned s b) h

  named_other : (at end : ℕ) (s : State) (l : Lexeme) (call b : Bool) → Outermost s.outer (Begins s b) → Other (spec.named_expression all at end s l call)
  named_other at end s l true b h = opened_other at s (bracket.Call (spec.lexeme_name l)) ready.Calls (by_end (Begins s b) (Begins s false) s.outer (λ _. inr refl) h)
  named_other at end s l false b h =
      shape_other at end s (shape.Variable (spec.lexeme_name l) None) (by_end (Begins s b) (Fits s.sum (shape.Variable (spec.lexeme_name l) None)) s.outer (λ _. inr (no_variable l)) h)

  begun_by_other : (k : Kind) (at end : ℕ) (s : State) (l : Lexeme) (call : Bool) → Outermost s.outer (Begins s (is_bracket_open k)) → IfSome (spec.begun_by k all at end s l call) Other
  begun_by_other kind.Quoted at end s l call h =
      let text = between_quotes (lexeme l.token) in
      shape_other at end s (shape.StringLiteral text) (by_end (Begins s false) (Fits s.sum (shape.StringLiteral text)) s.outer (λ _. inr (no_text text)) h)
  begun_by_other kind.Name at end s l call h = named_other at end s l call false h
  begun_by_other kind.ParenOpen at end s l call h = opened_other at s bracket.Group ready.Wants h
  begun_by_other kind.BracketOpen at end s l call h = opened_other at s bracket.List ready.Opens h
  begun_by_other _ at end s l call h = tt

  begun_other : (at end : ℕ) (s : State) (l : Lexeme) (call : Bool) → Outermost s.outer (Begins s (is_bracket_open l.kind)) → IfSome (spec.begun_expression all at end s l call) Other
  unfolding spec.begun_expression
  begun_other at end s l call h = begun_by_other l.kind at end s l call h

  closing_group : (before : Option Expression) (o : Option Expression) → IfSome (spec.group_shape o) (λ it. Fits before it)
  closing_group before None = tt
  closing_group before (Some e) = inr (no_group e)

  no_call : (b : Bracket) (elements : List Expression) (before sum : Option Expression) → is_list b ≡ false → IfSome (spec.shape_of b elements sum) (λ it. Fits before it)
  no_call bracket.Group elements before sum h = closing_group before sum
  no_call bracket.List elements before sum h = absurd (false≢true (sym h))
  no_call (bracket.Call name) elements before sum h =
      inr (unlisted (Shape-F.Call name (spec.and_sum elements sum)) (shape.Call name (spec.and_sum elements sum)) (shape.rolls-Call name (spec.and_sum elements sum)) refl)

  each_fits : (before : Option Expression) (o : Option Shape) → is_some before ≡ true → IfSome o (λ it. Fits before it)
  each_fits before None h = tt
  each_fits before (Some it) h = inl h

  closing : (b : Bracket) (elements : List Expression) (before sum : Option Expression) → (is_list b ≡ false) ⊎ (is_some before ≡ true) → IfSome (spec.shape_of b elements sum) (λ it. Fits before it)
  closing b elements before sum (inl h) = no_call b elements before sum h
  closing b elements before sum (inr h) = each_fits before (spec.shape_of b elements sum) h

  each_other : (at end : ℕ) (s : State) (o : Option Shape) → IfSome o (λ it. Outermost s.outer (Fits s.sum it)) → IfSome o (λ it. Other (spec.with_shape all at end s it))
  each_other at end s None h = tt
  each_other at end s (Some it) h = shape_other at end s it h

  any_fits : (E : Type 0) (level : Level) (outer : List Level) (before : Option Expression) (o : Option Shape) → Outermost (level ∷ outer) E → IfSome o (λ it. Outermost (level ∷ outer) (Fits before it))
  any_fits E level outer before None h = tt
  any_fits E level outer before (Some it) h = same_end E (Fits before it) level outer h

  closed_in_other : (E : Type 0) (outer : List Level) (end : ℕ) (s : State) → Outermost outer E → IfSome (spec.closed_in outer all end s) Other
  closed_in_other E [] end s h = tt
  closed_in_other E (level ∷ []) end s h =
      some_if Other (λ it. spec.with_shape all level.at end (spec.resumed level [] s.ready) it) (spec.shape_of level.bracket s.elements s.sum)
      (each_other level.at end (spec.resumed level [] s.ready) (spec.shape_of level.bracket s.elements s.sum) (closing level.bracket s.elements level.sum s.sum h))
  closed_in_other E (level ∷ next ∷ outer) end s h =
      some_if Other (λ it. spec.with_shape all level.at end (spec.resumed level (next ∷ outer) s.ready) it) (spec.shape_of level.bracket s.elements s.sum)
      (each_other level.at end (spec.resumed level (next ∷ outer) s.ready) (spec.shape_of level.bracket s.elements s.sum) (any_fits E next outer level.sum (spec.shape_of level.bracket s.elements s.sum) h))

  closed_other : (E : Type 0) (end : ℕ) (s : State) → Outermost s.outer E → IfSome (spec.closed all end s) Other
  unfolding spec.closed
  closed_other E end s h = closed_in_other E s.outer end s h

  comma_other : (E : Type 0) (outer : List Level) (elements : List Expression) → Outermost outer E
      → IfSome (if spec.has_elements_in (list_top outer) then Some (record { outer = outer; elements = elements; sum = None; start = 0; ready = ready.Wants }) else None) Other
  comma_other E [] elements h = tt
  comma_other E (level ∷ outer) elements h =
      if_some Other (spec.has_elements_in (list_top (level ∷ outer))) (Some (record { outer = level ∷ outer; elements = elements; sum = None; start = 0; ready = ready.Wants })) None
      (same_end E (OtherEnd ready.Wants None) level outer h) tt

  sum_some : (sum : Option Expression) → OtherSum sum → is_some sum ≡ true
  sum_some None h = absurd h
  sum_some (Some e) h = refl

  continued_other : (k : Kind) (s : State) → Outermost s.outer (OtherSum s.sum) → IfSome (spec.continued k s) Other
  continued_other kind.Plus s h = by_end (OtherSum s.sum) (is_some s.sum ≡ true) s.outer (sum_some s.sum) h
  continued_other kind.Comma s h = comma_other (OtherSum s.sum) s.outer (spec.and_sum s.elements s.sum) h
  continued_other _ s h = tt

  followed_other : (end : ℕ) (s : State) (k : Kind) → Outermost s.outer (OtherSum s.sum) → IfSome (spec.followed all end s k) Other
  unfolding spec.followed
  followed_other end s k h = if_some Other (spec.ends_level s k) (spec.closed all end s) (spec.continued k s) (closed_other (OtherSum s.sum) end s h) (continued_other k s h)

  step_by_other : (r : Ready) (at end : ℕ) (s : State) (l : Lexeme) (call : Bool) → Outermost s.outer (OtherEnd r s.sum) → IfSome (spec.step_by r all at end s l call) Other
  step_by_other ready.Wants at end s l call h = begun_other at end s l call (by_end (is_some s.sum ≡ true) (Begins s (is_bracket_open l.kind)) s.outer (λ some. inl some) h)
  step_by_other ready.Opens at end s l call h =
      if_some Other (spec.ends_level s l.kind) (spec.closed all end s) (spec.begun_expression all at end s l call) (closed_other ⊥ end s h)
      (begun_other at end s l call (by_end ⊥ (Begins s (is_bracket_open l.kind)) s.outer (λ none. absurd none) h))
  step_by_other ready.Calls at end s l call h = h
  step_by_other ready.Read at end s l call h = followed_other end s l.kind h

  step_other : (at end : ℕ) (s : State) (l : Lexeme) (call : Bool) → Other s → IfSome (spec.read_step all at end s l call) Other
  unfolding spec.read_step
  step_other at end s l call h = step_by_other s.ready at end s l call h

  -- what is read from there on
  abbrev NoList : Found → Type 0
  NoList found = listed found.made.shape ≡ None

  found_other : (at : ℕ) (sum : Option Expression) → OtherSum sum → IfSome (spec.found_at at sum) NoList
  found_other at None h = tt
  found_other at (Some e) h = h

  read_other_end : (at : ℕ) (outer : List Level) (sum : Option Expression) → Outermost outer (OtherSum sum) → IfSome (if spec.is_outermost (list_top outer) then spec.found_at at sum else None) NoList
  read_other_end at [] sum h = found_other at sum h
  read_other_end at (level ∷ outer) sum h = tt

  finished_by_other : (r : Ready) (at : ℕ) (outer : List Level) (sum : Option Expression) → Outermost outer (OtherEnd r sum)
      → IfSome (if spec.is_read r then (if spec.is_outermost (list_top outer) then spec.found_at at sum else None) else None) NoList
  finished_by_other ready.Read at outer sum h = read_other_end at outer sum h
  finished_by_other ready.Wants at outer sum h = tt
  finished_by_other ready.Opens at outer sum h = tt
  finished_by_other ready.Calls at outer sum h = tt

  onward_other : (o : Option State) (more : State → Option Found) → IfSome o Other → ((s : State) → Other s → IfSome (more s) NoList) → IfSome (spec.onward o more) NoList
  onward_other None more h k = tt
  onward_other (Some s) more h k = k s h

  read_other : (sums : Bool) (at : ℕ) (s : State) (rest : List Lexeme) → Other s → IfSome (spec.read sums all at s rest) NoList
  read_other sums at s [] h = finished_by_other s.ready at s.outer s.sum h
  read_other sums at s (l ∷ rest) h =
      if_some NoList (spec.stops sums s l.kind) (spec.finished at s) (spec.onward (spec.read_step all at (at + 1) s l (spec.opens_call rest)) (λ next. spec.read sums all (at + 1) next rest))
      (finished_by_other s.ready at s.outer s.sum h)
      (onward_other (spec.read_step all at (at + 1) s l (spec.opens_call rest)) (λ next. spec.read sums all (at + 1) next rest) (step_other at (at + 1) s l (spec.opens_call rest) h)
      (λ next k. read_other sums (at + 1) next rest k))

  -- such an expression is no program, wherever it ends
  no_program_by : (b : Bool) (e : Expression) → listed e.shape ≡ None → is_some (listed_by (if b then Some e else None)) ≡ false
  no_program_by true e h = ap is_some h
  no_program_by false e h = refl

  no_program : (found : Option Found) → IfSome found NoList → is_some (listed_by (ends_line all found)) ≡ false
  no_program None h = refl
  no_program (Some found) h = no_program_by (found.end == length all) found.made h

  -- Both readings together.
  abbrev Agree : Option Found → Result ℕ ℕ → Type 0
  Agree found end = is_some (listed_by (ends_line all found)) ≡ is_ok (goes_on_from end (line_end all))

  not_outermost : (outer : List Level) → Base outer → spec.is_outermost (list_top outer) ≡ false
  not_outermost [] b = absurd b
  not_outermost (level ∷ outer) b = refl

  no_end : (b c : Bool) (x : Option Found) → c ≡ false → (if b then (if c then x else None) else None) ≡ None
  no_end true true x h = absurd (false≢true (sym h))
  no_end true false x h = refl
  no_end false c x h = refl

  no_stop : (b c d : Bool) → c ≡ false → (if b then (if c then d else false) else false) ≡ false
  no_stop true true d h = absurd (false≢true (sym h))
  no_stop true false d h = refl
  no_stop false c d h = refl

  both_on : (b c : Bool) (x y : Option Found) (p q : Result ℕ ℕ) → b ≡ false → c ≡ false → Agree y q → Agree (if b then x else y) (if c then p else q)
  both_on true c x y p q g h k = absurd (false≢true (sym g))
  both_on false true x y p q g h k = absurd (false≢true (sym h))
  both_on false false x y p q g h k = k

  onward_agree : (at : ℕ) (o : Option State) (more : State → Option Found) (end : State → Result ℕ ℕ) → IfSome o Next → ((s : State) → Next s → Agree (more s) (end s)) → Agree (spec.onward o more) (spec.end_onward at o end)
  onward_agree at None more end h k = refl
  onward_agree at (Some s) more end h k = k s h

  finished_is : (at : ℕ) (r : Ready) (outer : List Level) (sum : Option Expression) (made : Expression) → r ≡ ready.Read → outer ≡ [] → sum ≡ Some made
      → (if spec.is_read r then (if spec.is_outermost (list_top outer) then spec.found_at at sum else None) else None) ≡ Some (record { made = made; end = at })
  finished_is at r outer sum made read none is = rw (read, none, is) refl

  stops_is : (sums : Bool) (k : Kind) (r : Ready) (outer : List Level) → r ≡ ready.Read → outer ≡ []
      → (if spec.is_read r then (if spec.is_outermost (list_top outer) then not (sums && is_plus k) else false) else false) ≡ not (sums && is_plus k)
  stops_is sums k r outer read none = rw (read, none) refl

  program_by : (b : Bool) (at : ℕ) (made : Expression) → is_some (listed made.shape) ≡ true → is_some (listed_by (if b then Some made else None)) ≡ is_ok {E = ℕ} (if b then Ok at else Err at)
  program_by true at made h = h
  program_by false at made h = refl

  -- a sum is no list
  plus_other : (k : Kind) (s : State) → is_plus k ≡ true → Outermost s.outer (is_some s.sum ≡ true) → IfSome (spec.continued k s) Other
  plus_other kind.Plus s is h = h
  plus_other _ s is h = absurd (false≢true is)

  followed_plus : (end : ℕ) (s : State) (k : Kind) → is_plus k ≡ true → Outermost s.outer (is_some s.sum ≡ true) → IfSome (spec.followed all end s k) Other
  unfolding spec.followed
  followed_plus end s k is h = if_some Other (spec.ends_level s k) (spec.closed all end s) (spec.continued k s) (closed_other (is_some s.sum ≡ true) end s h) (plus_other k s is h)

  step_plus : (at end : ℕ) (s : State) (l : Lexeme) (call : Bool) → Whole s → is_plus l.kind ≡ true → IfSome (spec.read_step all at end s l call) Other
  unfolding spec.read_step
  step_plus at end s l call w is =
      let h : Outermost s.outer (is_some s.sum ≡ true) = subst (λ o. Outermost o (is_some s.sum ≡ true)) (sym w.none) (ap is_some w.is) in
      subst (λ r. IfSome (spec.step_by r all at end s l call) Other) (sym w.read) (followed_plus end s l.kind is h)

  at_less : (at n : ℕ) → at < n → (at == n) ≡ false
  at_less at n h = grind (arith, h)

  cut_short : (at : ℕ) (made : Expression) → at < length all → is_some (listed_by (ends_line all (Some (record { made = made; end = at })))) ≡ false
  cut_short at made h = ap (λ b. is_some (listed_by (if b then Some made else None))) (at_less at (length all) h)

  goes_short : (at : ℕ) → at < length all → is_ok (line_end all at) ≡ false
  goes_short at h = ap (λ b. is_ok {E = ℕ} (if b then Ok at else Err at)) (at_less at (length all) h)

  -- after the list more stands in the line
  sum_by : (p : Bool) (at : ℕ) (s : State) (l : Lexeme) (rest : List Lexeme) → is_plus l.kind ≡ p → at < length all → Whole s → is_some (listed_by (ends_line all (spec.read true all at s (l ∷ rest)))) ≡ false
  sum_by true at s l rest is less w =
      let on : spec.stops true s l.kind ≡ false = stops_is true l.kind s.ready s.outer w.read w.none ∙ ap not is in
      ap (λ b. is_some (listed_by (ends_line all (if b then spec.finished at s else spec.onward (spec.read_step all at (at + 1) s l (spec.opens_call rest)) (λ next. spec.read true all (at + 1) next rest))))) on
      ∙ no_program (spec.onward (spec.read_step all at (at + 1) s l (spec.opens_call rest)) (λ next. spec.read true all (at + 1) next rest))
      (onward_other (spec.read_step all at (at + 1) s l (spec.opens_call rest)) (λ next. spec.read true all (at + 1) next rest) (step_plus at (at + 1) s l (spec.opens_call rest) w is) (λ next k. read_other true (at + 1) next rest k))
  sum_by false at s l rest is less w =
      let off : spec.stops true s l.kind ≡ true = stops_is true l.kind s.ready s.outer w.read w.none ∙ ap not is in
      ap (λ b. is_some (listed_by (ends_line all (if b then spec.finished at s else spec.onward (spec.read_step all at (at + 1) s l (spec.opens_call rest)) (λ next. spec.read true all (at + 1) next rest))))) off
      ∙ ap (λ f. is_some (listed_by (ends_line all f))) (finished_is at s.ready s.outer s.sum w.made w.read w.none w.is) ∙ cut_short at w.made less

  end_is : (at : ℕ) (s : State) (l : Lexeme) (rest : List Lexeme) → at < length all → Whole s → is_ok (goes_on_from (spec.read_end false all at s (l ∷ rest)) (line_end all)) ≡ false
  end_is at s l rest less w =
      ap (λ b. is_ok (goes_on_from (if b then spec.end_at at (spec.finished at s) else spec.end_onward at (spec.read_step all at (at + 1) s l (spec.opens_call rest)) (λ next. spec.read_end false all (at + 1) next rest)) (line_end all)))
      (stops_is false l.kind s.ready s.outer w.read w.none)
      ∙ ap (λ f. is_ok (goes_on_from (spec.end_at at f) (line_end all))) (finished_is at s.ready s.outer s.sum w.made w.read w.none w.is) ∙ goes_short at less

  whole_agree : (at : ℕ) (s : State) (rest : List Lexeme) → at + length rest ≡ length all → Whole s → Agree (spec.read true all at s rest) (spec.read_end false all at s rest)
  whole_agree at s [] h w =
      subst (λ f. Agree f (spec.end_at at f)) (sym (finished_is at s.ready s.outer s.sum w.made w.read w.none w.is)) (program_by (at == length all) at w.made w.program)
  whole_agree at s (l ∷ rest) h w =
      let less : at < length all = omega (arith, h) in
      sum_by (is_plus l.kind) at s l rest refl less w ∙ sym (end_is at s l rest less w)

  either : (P : Type 0) (s : State) → Next s → (Inside s → P) → (Whole s → P) → P
  either P s (inl i) f g = f i
  either P s (inr w) f g = g w

  inside_agree : (at : ℕ) (s : State) (rest : List Lexeme) → at + length rest ≡ length all → Inside s → Agree (spec.read true all at s rest) (spec.read_end false all at s rest)
  inside_agree at s [] h i =
      subst (λ f. Agree f (spec.end_at at f)) (sym (no_end (spec.is_read s.ready) (spec.is_outermost (list_top s.outer)) (spec.found_at at s.sum) (not_outermost s.outer i.base))) refl
  inside_agree at s (l ∷ rest) h i =
      let out = not_outermost s.outer i.base in
      both_on (spec.stops true s l.kind) (spec.stops false s l.kind) (spec.finished at s) (spec.onward (spec.read_step all at (at + 1) s l (spec.opens_call rest)) (λ next. spec.read true all (at + 1) next rest))
      (spec.end_at at (spec.finished at s)) (spec.end_onward at (spec.read_step all at (at + 1) s l (spec.opens_call rest)) (λ next. spec.read_end false all (at + 1) next rest))
      (no_stop (spec.is_read s.ready) (spec.is_outermost (list_top s.outer)) (not (true && is_plus l.kind)) out)
      (no_stop (spec.is_read s.ready) (spec.is_outermost (list_top s.outer)) (not (false && is_plus l.kind)) out)
      (onward_agree at (spec.read_step all at (at + 1) s l (spec.opens_call rest)) (λ next. spec.read true all (at + 1) next rest) (λ next. spec.read_end false all (at + 1) next rest)
      (step_next all at (at + 1) s l (spec.opens_call rest) i)
      (λ next n. either (Agree (spec.read true all (at + 1) next rest) (spec.read_end false all (at + 1) next rest)) next n
      (λ j. inside_agree (at + 1) next rest (omega (arith, h)) j) (λ w. whole_agree (at + 1) next rest (omega (arith, h)) w)))

  -- the first lexemes
  abbrev listing : ℕ → State
  listing at = spec.opened_level at spec.unread bracket.List ready.Opens

  if_first : (b : Bool) (x y : Option State) → b ≡ true → IfSome x Other → IfSome (if b then x else y) Other
  if_first true x y is h = h
  if_first false x y is h = absurd (false≢true is)

  if_second : (b : Bool) (x y : Option State) → b ≡ false → IfSome y Next → IfSome (if b then x else y) Next
  if_second true x y is h = absurd (false≢true (sym is))
  if_second false x y is h = h

  same_close : (k : Kind) → spec.is_bracket_close k ≡ is_bracket_close k
  same_close kind.BracketClose = refl
  same_close _ = refl

  empty_other : (at end : ℕ) → IfSome (spec.closed all end (listing at)) Other
  unfolding spec.closed spec.opened_level
  empty_other at end =
      let level : Level = record { bracket = bracket.List; at = at; elements = []; sum = None; start = 0 } in
      shape_other at end (spec.resumed level [] ready.Opens) (shape.List []) (inr (list_listed []))

  closes_other : (at place end : ℕ) (l : Lexeme) (call : Bool) → is_bracket_close l.kind ≡ true → IfSome (spec.read_step all place end (listing at) l call) Other
  unfolding spec.read_step spec.opened_level
  closes_other at place end l call is =
      if_first (spec.is_bracket_close l.kind) (spec.closed all end (listing at)) (spec.begun_expression all place end (listing at) l call) (same_close l.kind ∙ is) (empty_other at end)

  begins_next : (at place end : ℕ) (l : Lexeme) (call : Bool) → is_bracket_close l.kind ≡ false → IfSome (spec.read_step all place end (listing at) l call) Next
  unfolding spec.read_step spec.opened_level
  begins_next at place end l call is =
      if_second (spec.is_bracket_close l.kind) (spec.closed all end (listing at)) (spec.begun_expression all place end (listing at) l call) (same_close l.kind ∙ is)
      (each_next all (spec.begun_expression all place end (listing at) l call) (begun_in all place end (listing at) l call (refl, refl)))

  -- what is to come to a list, from its bracket on
  abbrev listed_end : ℕ → Bool → Result ℕ ℕ → Result ℕ ℕ
  listed_end inner close end = if close then Err inner else goes_on_from end (line_end all)

  no_more : (b : Bool) (x y : ℕ) → is_ok {T = ℕ} (if b then Err x else Err y) ≡ false
  no_more true x y = refl
  no_more false x y = refl

  opened_stops : (sums : Bool) (at : ℕ) (k : Kind) → spec.stops sums (listing at) k ≡ false
  unfolding spec.opened_level
  opened_stops sums at k = refl

  opened_ends : (at place : ℕ) → spec.finished place (listing at) ≡ None
  unfolding spec.opened_level
  opened_ends at place = refl

  abbrev read_on : ℕ → Bool → ℕ → Lexeme → List Lexeme → Option Found
  read_on at b place l rest = if b then spec.finished place (listing at) else spec.onward (spec.read_step all place (place + 1) (listing at) l (spec.opens_call rest)) (λ next. spec.read true all (place + 1) next rest)

  abbrev end_on : ℕ → Bool → ℕ → Lexeme → List Lexeme → Result ℕ ℕ
  end_on at b place l rest = if b then spec.end_at place (spec.finished place (listing at)) else spec.end_onward place (spec.read_step all place (place + 1) (listing at) l (spec.opens_call rest)) (λ next. spec.read_end false all (place + 1) next rest)

  within_by : (at place : ℕ) (l : Lexeme) (rest : List Lexeme) (b : Bool) → place + 1 + length rest ≡ length all → is_bracket_close l.kind ≡ b
      → is_some (listed_by (ends_line all (read_on at false place l rest))) ≡ is_ok (listed_end place b (end_on at false place l rest))
  within_by at place l rest true h is =
      no_program (spec.onward (spec.read_step all place (place + 1) (listing at) l (spec.opens_call rest)) (λ next. spec.read true all (place + 1) next rest))
      (onward_other (spec.read_step all place (place + 1) (listing at) l (spec.opens_call rest)) (λ next. spec.read true all (place + 1) next rest) (closes_other at place (place + 1) l (spec.opens_call rest) is) (λ next k. read_other true (place + 1) next rest k))
  within_by at place l rest false h is =
      onward_agree place (spec.read_step all place (place + 1) (listing at) l (spec.opens_call rest)) (λ next. spec.read true all (place + 1) next rest) (λ next. spec.read_end false all (place + 1) next rest)
      (begins_next at place (place + 1) l (spec.opens_call rest) is)
      (λ next n. either (Agree (spec.read true all (place + 1) next rest) (spec.read_end false all (place + 1) next rest)) next n
      (λ j. inside_agree (place + 1) next rest h j) (λ w. whole_agree (place + 1) next rest h w))

  opened_agree : (at place : ℕ) (ls : List Lexeme) (close : Bool) → place + length ls ≡ length all → ((l : Lexeme) (rest : List Lexeme) → ls ≡ l ∷ rest → is_bracket_close l.kind ≡ close)
      → is_some (listed_by (ends_line all (spec.read true all place (listing at) ls))) ≡ is_ok (listed_end place close (spec.read_end false all place (listing at) ls))
  opened_agree at place [] close h is =
      ap (λ f. is_some (listed_by (ends_line all f))) (opened_ends at place) ∙ sym (ap (λ f. is_ok (listed_end place close (spec.end_at place f))) (opened_ends at place) ∙ no_more close place place)
  opened_agree at place (l ∷ rest) close h is =
      ap (λ b. is_some (listed_by (ends_line all (read_on at b place l rest)))) (opened_stops true at l.kind)
      ∙ within_by at place l rest close (omega (arith, h)) (is l rest refl)
      ∙ sym (ap (λ b. is_ok (listed_end place close (end_on at b place l rest))) (opened_stops false at l.kind))

  bracket_opens : (k : Kind) (at end : ℕ) (l : Lexeme) (call : Bool) → is_bracket_open k ≡ true → Some (listing at) ≡ spec.begun_by k all at end spec.unread l call
  bracket_opens kind.BracketOpen at end l call h = refl
  bracket_opens _ at end l call h = absurd (false≢true h)

  first_opens : (at end : ℕ) (l : Lexeme) (call : Bool) → is_bracket_open l.kind ≡ true → Some (listing at) ≡ spec.read_step all at end spec.unread l call
  unfolding spec.read_step spec.begun_expression
  first_opens at end l call h = bracket_opens l.kind at end l call h

  first_other : (at end : ℕ) (l : Lexeme) (call : Bool) → is_bracket_open l.kind ≡ false → IfSome (spec.read_step all at end spec.unread l call) Other
  unfolding spec.read_step
  first_other at end l call h = begun_other at end spec.unread l call (inr h)

  abbrev whole_end : ℕ → Bool → Result ℕ ℕ → Result ℕ ℕ
  whole_end at opens end = goes_on_from (if opens then Ok (at + 1) else Err at) (λ inner. listed_end inner (stands is_bracket_close all inner) end)

  abbrev first_end : ℕ → List Lexeme → Option State → Result ℕ ℕ
  first_end at rest o = spec.end_onward at o (λ next. spec.read_end false all (at + 1) next rest)

  front_agree : (at : ℕ) (l : Lexeme) (rest : List Lexeme) (b : Bool) → is_bracket_open l.kind ≡ b → at + 1 + length rest ≡ length all → ((m : Lexeme) (more : List Lexeme) → rest ≡ m ∷ more → is_bracket_close m.kind ≡ stands is_bracket_close all (at + 1))
      → is_some (listed_by (ends_line all (spec.read true all at spec.unread (l ∷ rest)))) ≡ is_ok (whole_end at b (spec.read_end false all at spec.unread (l ∷ rest)))
  front_agree at l rest false is h close =
      no_program (spec.onward (spec.read_step all at (at + 1) spec.unread l (spec.opens_call rest)) (λ next. spec.read true all (at + 1) next rest))
      (onward_other (spec.read_step all at (at + 1) spec.unread l (spec.opens_call rest)) (λ next. spec.read true all (at + 1) next rest) (first_other at (at + 1) l (spec.opens_call rest) is) (λ next k. read_other true (at + 1) next rest k))
  front_agree at l rest true is h close =
      subst (λ o. is_some (listed_by (ends_line all (spec.onward o (λ next. spec.read true all (at + 1) next rest)))) ≡ is_ok (listed_end (at + 1) (stands is_bracket_close all (at + 1)) (first_end at rest o)))
      (first_opens at (at + 1) l (spec.opens_call rest) is) (opened_agree at (at + 1) rest (stands is_bracket_close all (at + 1)) h close)

  second_is : (at : ℕ) (m : Lexeme) (more : List Lexeme) → drop (at + 1) all ≡ m ∷ more → is_bracket_close m.kind ≡ stands is_bracket_close all (at + 1)
  second_is at m more is = elim ((slice_get_cases all (at + 1)).1) [
    | inl here ↦
        let f = front all (at + 1) here.1 in
        let same : f.0 ∷ drop (at + 1 + 1) all ≡ m ∷ more = sym f.1.dropped ∙ is in
        let one : f.0 ≡ m = cc in
        ap (λ (l : Lexeme). is_bracket_close l.kind) (sym one) ∙ sym (ap (stands_there is_bracket_close) f.1.there)
    | inr past ↦ let none : [] ≡ m ∷ more = sym (drop_all (at + 1) all past.0) ∙ is in cc
  ]

  pub lists_agree : (at : ℕ) → is_some (listed_by (whole_expression all at))
      ≡ is_ok (goes_on_from (mark_end is_bracket_open all at) (λ inner. if stands is_bracket_close all inner then Err inner else goes_on_from (spec.expression_end false all at) (line_end all)))
  unfolding whole_expression spec.expression spec.expression_end
  lists_agree at = elim ((slice_get_cases all at).1) [
    | inl here ↦
        let f = front all at here.1 in
        let l = f.0 in
        let opens : stands is_bracket_open all at ≡ is_bracket_open l.kind = ap (stands_there is_bracket_open) f.1.there in
        ap (λ ls. is_some (listed_by (ends_line all (spec.read true all at spec.unread ls)))) f.1.dropped
        ∙ front_agree at l (drop (at + 1) all) (is_bracket_open l.kind) refl (omega (arith, here.1, length-drop (at + 1) all)) (second_is at)
        ∙ ap (λ ls. is_ok (whole_end at (is_bracket_open l.kind) (spec.read_end false all at spec.unread ls))) (sym f.1.dropped)
        ∙ ap (λ b. is_ok (whole_end at b (spec.read_end false all at spec.unread (drop at all)))) (sym opens)
    | inr past ↦
        ap (λ ls. is_some (listed_by (ends_line all (spec.read true all at spec.unread ls)))) (drop_all at all past.0)
        ∙ sym (ap (λ o. is_ok (whole_end at (stands_there is_bracket_open o) (spec.read_end false all at spec.unread (drop at all)))) past.1)
  ]
