-- While an expression is read, each part that was read is spelled by its form.
use Rattle.std.proofs.Common.{◌≡◌, ℕ, ◌+◌, ◌<◌, sym, ◌∙◌, ap, refl, subst, List, [], ◌∷◌, ◌++◌, drop, Bool, true, false, arith, Option, Some, None, IfSome, append_assoc}
use Rattle.std.specs.Prelude.{if◌then◌else◌, codes, ◌||◌, is_some, slice_range}
use Rattle.std.specs.Option.{option_map}
use Rattle.std.specs.List.{All}
use Rattle.std.proofs.lemmas.Bool.{false≢true}
use Rattle.std.proofs.lemmas.List.{append-nil, drop-drop}
use Rattle.std.proofs.lemmas.List.Elements.{All-nil, All-cons, All-head, All-push, All-drop}
use Rattle.just_names.specs.Name.{text_of_name}
use Rattle.just_names.specs.Token.{lexeme}
use Rattle.just_ast_expressions.specs.declared.expression.Expression.{Expression}
use Rattle.just_ast_expressions.specs.declared.expression.Shape.{Shape}
use Rattle.just_ast_expressions.specs.declared.expression.Shape.TheVariants as shape
use Rattle.just_ast_expressions.specs.Parts.{shape_parts}
use Rattle.just_ast_expressions.proofs.PartsOf.{parts_of-StringLiteral, parts_of-Variable, parts_of-Call, parts_of-Group, parts_of-List, parts_of-Concatenation}
use Rattle.just_bench_expressions.specs.declared.expressions.Bracket.{Bracket}
use Rattle.just_bench_expressions.specs.declared.expressions.Bracket.TheVariants as bracket
use Rattle.just_bench_expressions.specs.declared.expressions.Found.{Found}
use Rattle.just_bench_expressions.specs.declared.expressions.Level.{Level}
use Rattle.just_bench_expressions.specs.declared.expressions.Ready.{Ready}
use Rattle.just_bench_expressions.specs.declared.expressions.Ready.TheVariants as ready
use Rattle.just_bench_expressions.specs.declared.expressions.State.{State}
use Rattle.just_bench_expressions.specs.declared.lexer.Kind.{Kind}
use Rattle.just_bench_expressions.specs.declared.lexer.Kind.TheVariants as kind
use Rattle.just_bench_expressions.specs.declared.lexer.Lexeme.{Lexeme}
use Rattle.just_bench_expressions.specs.Expressions as spec
use Rattle.just_bench_expressions.specs.Forms.{spelling}
use Rattle.just_bench_expressions.specs.Lexemes.{HasQuotes, is_quoted}
use Rattle.just_bench_expressions.specs.Spelling.{is_comma, is_plus, spell}
use Rattle.just_bench_expressions.specs.Stack.{list_top}
use Rattle.just_bench_expressions.proofs.Forms.{shape_spelling, IsSpelled, made_spelled, made_spelling, with_commas, listed_last, commas_more, spelling_of-StringLiteral, spelling_of-Variable, spelling_of-Call, spelling_of-Group, spelling_of-List, spelling_of-Concatenation}
use Rattle.just_bench_expressions.proofs.Leads.{At, Leads, Ends, Begins, leads_start, leads_on, joined_ends, one_ends, mark_leads, after_operand}
use Rattle.just_bench_expressions.proofs.Plain.{IsPlain, IsTextOf}
use Rattle.just_bench_expressions.proofs.Quoting.{quotes_stand_round}

-- the lexeme is as its kind says
abbrev pub IsSound : Lexeme → Type 0
IsSound l = IsPlain l × HasQuotes l

-- what was read of a sum before a place, at which its next operand is wanted
abbrev pub Waits : List Lexeme → ℕ → ℕ → Option Expression → ℕ → Type 0
Waits all from at None start = from ≡ at
Waits all from at (Some sum) start = (start ≡ from) × IsSpelled sum × Begins all from × Leads all from at (spelling sum ++ codes " + ")

-- the text with which a level begins
abbrev pub opening : Bracket → List ℕ
opening bracket.Group = codes "("
opening bracket.List = codes "["
opening (bracket.Call name) = text_of_name name ++ codes "("

-- a level that begins at a place, up to an element of it
pub record Fills (all : List Lexeme) (at : ℕ) (b : Bracket) (elements : List Expression) (from : ℕ) : Type 0 where
  pub begins : Begins all at
  pub spelled : All IsSpelled elements
  pub alone : spec.has_several b ≡ false → elements ≡ []
  pub leads : Leads all at from (opening b ++ with_commas elements)

-- The outermost level begins at a place.
module _ (base : ℕ) where
  abbrev pub FillsTop : List Lexeme → List Level → List Expression → ℕ → Type 0
  FillsTop all [] elements from = from ≡ base
  FillsTop all (level ∷ outer) elements from = Fills all level.at level.bracket elements from

  -- the levels that wait
  abbrev pub Stacked : List Lexeme → List Level → Type 0
  Stacked all [] = Unit
  Stacked all (level ∷ outer) = (from : ℕ) × Waits all from level.at level.sum level.start × FillsTop all outer level.elements from × Stacked all outer

  -- an operand or a sum from one place to another
  pub record IsOperand (all : List Lexeme) (from at start : ℕ) (sum : Expression) : Type 0 where
    pub start_is : start ≡ from
    pub spelled : IsSpelled sum
    pub begins : Begins all from
    pub some : from < at
    pub ends : Ends all from at (spelling sum)

  -- the level that is read, from its element on
  abbrev pub Now : List Lexeme → ℕ → ℕ → Ready → List Expression → Option Expression → ℕ → Type 0
  Now all from at ready.Wants elements sum start = Waits all from at sum start
  Now all from at ready.Opens elements sum start = (from ≡ at) × (sum ≡ None) × (elements ≡ [])
  Now all from at ready.Calls elements sum start = (from ≡ at + 1) × (sum ≡ None) × (elements ≡ [])
  Now all from at ready.Read elements None start = ⊥
  Now all from at ready.Read elements (Some sum) start = IsOperand all from at start sum

  -- what was read up to a place
  pub record Holds (all : List Lexeme) (at : ℕ) (state : State) : Type 0 where
    pub from : ℕ
    pub now : Now all from at state.ready state.elements state.sum state.start
    pub fills : FillsTop all state.outer state.elements from
    pub stacked : Stacked all state.outer

  abbrev pub HoldIf : List Lexeme → ℕ → Option State → Type 0
  HoldIf all at next = IfSome next (Holds all at)

  unread_holds : (all : List Lexeme) → Holds all base spec.unread
  unread_holds all = record { from = base; now = refl; fills = refl; stacked = tt }

  -- a form from one place to another
  pub shaped : (all : List Lexeme) (at end : ℕ) (s : Shape) → Begins all at → at < end → Ends all at end (shape_spelling s) → All IsSpelled (shape_parts s) → IsOperand all at end at (spec.spelled all at end s)
  shaped all at end s begins some ends parts =
      record {
        start_is = refl;
        spelled = made_spelled s _ ends.spelled parts;
        begins = begins;
        some = some;
        ends = subst (Ends all at end) (sym (made_spelling s _)) ends;
      }

  -- an operand after a sum, or alone
  added_operand : (all : List Lexeme) (from at end : ℕ) (sum : Option Expression) (start : ℕ) (part : Expression) → Waits all from at sum start → IsOperand all at end at part
      → IsOperand all from end (if is_some sum then start else at) (spec.added all (if is_some sum then start else at) end sum part)
  added_operand all from at end None start part waits it = subst (λ (n : ℕ). IsOperand all n end at part) (sym waits) it
  added_operand all from at end (Some sum) start part waits it =
      let ends : Ends all from end ((spelling sum ++ codes " + ") ++ spelling part) = joined_ends all from at end _ _ waits.3 it.begins it.some it.ends in
      let is : (spelling sum ++ codes " + ") ++ spelling part ≡ shape_spelling (shape.Concatenation sum part) = sym (spelling_of-Concatenation sum part) in
      let both : All IsSpelled (shape_parts (shape.Concatenation sum part)) =
      subst (All IsSpelled) (sym (parts_of-Concatenation sum part)) (All-cons IsSpelled sum (part ∷ []) waits.1 (All-cons IsSpelled part [] it.spelled (All-nil IsSpelled))) in
      let whole = shaped all from end (shape.Concatenation sum part) waits.2 (omega (arith, waits.3.ordered, it.some)) (subst (Ends all from end) is ends) both in
      subst (λ (n : ℕ). IsOperand all from end n (spec.added all n end (Some sum) part)) (sym waits.0) whole

  operand_holds : (all : List Lexeme) (from at end : ℕ) (state : State) (part : Expression) → Waits all from at state.sum state.start → FillsTop all state.outer state.elements from → Stacked all state.outer
      → IsOperand all at end at part → Holds all end (spec.with_operand all at end state part)
  operand_holds all from at end state part waits fills stacked it = record {
    from = from;
    now = added_operand all from at end state.sum state.start part waits it;
    fills = fills;
    stacked = stacked;
  }

  shape_holds : (all : List Lexeme) (from at end : ℕ) (state : State) (s : Shape) → Waits all from at state.sum state.start → FillsTop all state.outer state.elements from → Stacked all state.outer
      → IsOperand all at end at (spec.spelled all at end s) → Holds all end (spec.with_shape all at end state s)
  unfolding spec.with_shape
  shape_holds all from at end state s waits fills stacked it = operand_holds all from at end state (spec.spelled all at end s) waits fills stacked it

  -- a form of one lexeme
  one_shaped : (all : List Lexeme) (at : ℕ) (l : Lexeme) (s : Shape) → At all at l → is_comma l.kind ≡ false → is_plus l.kind ≡ false → shape_spelling s ≡ lexeme l.token → shape_parts s ≡ [] → IsOperand all at (at + 1) at (spec.spelled all at (at + 1) s)
  one_shaped all at l s is no_comma no_plus text none =
      shaped all at (at + 1) s (record { l = l; is = is; other = no_plus }) (omega arith)
      (subst (Ends all at (at + 1)) (sym text) (one_ends all at at [] l (leads_start all at) is no_comma no_plus))
      (subst (All IsSpelled) (sym none) (All-nil IsSpelled))

  -- a level that begins
  opened_holds : (all : List Lexeme) (from at : ℕ) (state : State) (b : Bracket) (next : Ready) (inner : ℕ) → Waits all from at state.sum state.start → FillsTop all state.outer state.elements from → Stacked all state.outer
      → Begins all at → Leads all at inner (opening b) → Now all inner (at + 1) next [] None 0 → Holds all (at + 1) (spec.opened_level at state b next)
  unfolding spec.opened_level
  opened_holds all from at state b next inner waits fills stacked begins leads now = record {
    from = inner;
    now = now;
    fills = record { begins = begins; spelled = All-nil IsSpelled; alone = λ _. refl; leads = subst (Leads all at inner) (sym (append-nil (opening b))) leads };
    stacked = (from, waits, fills, stacked);
  }

  -- the lexemes after one
  next_at : (all : List Lexeme) (at : ℕ) (l : Lexeme) (rest : List Lexeme) → drop at all ≡ l ∷ rest → rest ≡ drop (at + 1) all
  next_at all at l rest is = ap (drop 1) (sym is) ∙ drop-drop 1 at all

  at_front : (all : List Lexeme) (at : ℕ) (l : Lexeme) (rest : List Lexeme) → drop at all ≡ l ∷ rest → At all at l
  at_front all at l rest is = is ∙ ap (λ ls. l ∷ ls) (next_at all at l rest is)

  sound_at : (all : List Lexeme) (at : ℕ) (l : Lexeme) (rest : List Lexeme) → drop at all ≡ l ∷ rest → All IsSound all → IsSound l
  sound_at all at l rest is sound = All-head IsSound l rest (subst (All IsSound) is (All-drop IsSound at all sound))

  -- the `(` of a call
  paren_is : (k : Kind) (text : List ℕ) → spec.is_paren_open k ≡ true → IsTextOf k text → (is_comma k ≡ false) × (is_plus k ≡ false) × (text ≡ codes "(")
  paren_is kind.ParenOpen text h is = (refl, refl, is)
  paren_is _ text h is = absurd (false≢true h)

  call_follows : (all : List Lexeme) (at : ℕ) (rest : List Lexeme) → drop at all ≡ rest → spec.opens_call rest ≡ true → All IsSound all
      → (l : Lexeme) × At all at l × (is_comma l.kind ≡ false) × (is_plus l.kind ≡ false) × (lexeme l.token ≡ codes "(")
  call_follows all at [] is h sound = absurd (false≢true h)
  call_follows all at (l ∷ rest) is h sound =
      let p = paren_is l.kind (lexeme l.token) h (sound_at all at l rest is sound).0 in
      (l, at_front all at l rest is, p.0, p.1, p.2)

  -- a name that is a variable, or begins a call
  named_holds : (all : List Lexeme) (from at : ℕ) (state : State) (l : Lexeme) (call : Bool) → Waits all from at state.sum state.start → FillsTop all state.outer state.elements from → Stacked all state.outer
      → At all at l → is_comma l.kind ≡ false → is_plus l.kind ≡ false → All IsSound all → spec.opens_call (drop (at + 1) all) ≡ call → Holds all (at + 1) (spec.named_expression all at (at + 1) state l call)
  named_holds all from at state l false waits fills stacked is no_comma no_plus sound calls =
      shape_holds all from at (at + 1) state (shape.Variable (spec.lexeme_name l) None) waits fills stacked
      (one_shaped all at l (shape.Variable (spec.lexeme_name l) None) is no_comma no_plus (spelling_of-Variable (spec.lexeme_name l)) (parts_of-Variable (spec.lexeme_name l) None))
  named_holds all from at state l true waits fills stacked is no_comma no_plus sound calls =
      let paren = call_follows all (at + 1) (drop (at + 1) all) refl calls sound in
      let name : Ends all at (at + 1) (lexeme l.token) = one_ends all at at [] l (leads_start all at) is no_comma no_plus in
      let both : Ends all at (at + 1 + 1) (lexeme l.token ++ lexeme paren.0.token) = one_ends all at (at + 1) _ paren.0 (leads_on all at (at + 1) _ name) paren.1 paren.2 paren.3 in
      opened_holds all from at state (bracket.Call (spec.lexeme_name l)) ready.Calls (at + 1 + 1) waits fills stacked
      (record { l = l; is = is; other = no_plus })
      (subst (λ t. Leads all at (at + 1 + 1) (lexeme l.token ++ t)) paren.4 (leads_on all at (at + 1 + 1) _ both))
      (refl, refl, refl)

  text_of_kind : (l : Lexeme) (k : Kind) → l.kind ≡ k → IsPlain l → IsTextOf k (lexeme l.token)
  text_of_kind l k is plain = subst (λ (j : Kind). IsTextOf j (lexeme l.token)) is plain

  begun_kind : (all : List Lexeme) (from at : ℕ) (state : State) (l : Lexeme) (k : Kind) (call : Bool) → l.kind ≡ k → Waits all from at state.sum state.start → FillsTop all state.outer state.elements from
      → Stacked all state.outer → At all at l → All IsSound all → IsSound l → spec.opens_call (drop (at + 1) all) ≡ call → HoldIf all (at + 1) (spec.begun_by k all at (at + 1) state l call)
  begun_kind all from at state l kind.Quoted call k waits fills stacked is sound here calls =
      shape_holds all from at (at + 1) state (shape.StringLiteral _) waits fills stacked
      (one_shaped all at l (shape.StringLiteral _) is (ap is_comma k) (ap is_plus k) (spelling_of-StringLiteral _ ∙ quotes_stand_round (lexeme l.token) (here.1 (ap is_quoted k))) (parts_of-StringLiteral _))
  begun_kind all from at state l kind.Name call k waits fills stacked is sound here calls = named_holds all from at state l call waits fills stacked is (ap is_comma k) (ap is_plus k) sound calls
  begun_kind all from at state l kind.ParenOpen call k waits fills stacked is sound here calls =
      opened_holds all from at state bracket.Group ready.Wants (at + 1) waits fills stacked (record { l = l; is = is; other = ap is_plus k })
      (subst (Leads all at (at + 1)) (text_of_kind l kind.ParenOpen k here.0) (leads_on all at (at + 1) _ (one_ends all at at [] l (leads_start all at) is (ap is_comma k) (ap is_plus k)))) refl
  begun_kind all from at state l kind.BracketOpen call k waits fills stacked is sound here calls =
      opened_holds all from at state bracket.List ready.Opens (at + 1) waits fills stacked (record { l = l; is = is; other = ap is_plus k })
      (subst (Leads all at (at + 1)) (text_of_kind l kind.BracketOpen k here.0) (leads_on all at (at + 1) _ (one_ends all at at [] l (leads_start all at) is (ap is_comma k) (ap is_plus k)))) (refl, refl, refl)
  begun_kind all from at state l _ call k waits fills stacked is sound here calls = tt

  begun_holds : (all : List Lexeme) (from at : ℕ) (state : State) (l : Lexeme) → Waits all from at state.sum state.start → FillsTop all state.outer state.elements from
      → Stacked all state.outer → At all at l → All IsSound all → IsSound l → HoldIf all (at + 1) (spec.begun_expression all at (at + 1) state l (spec.opens_call (drop (at + 1) all)))
  unfolding spec.begun_expression
  begun_holds all from at state l waits fills stacked is sound here = begun_kind all from at state l l.kind _ refl waits fills stacked is sound here refl

  -- the text with which a bracket ends
  abbrev closing : Bracket → List ℕ
  closing bracket.Group = codes ")"
  closing bracket.List = codes "]"
  closing (bracket.Call name) = codes ")"

  closer_of : (b : Bracket) (k : Kind) (text : List ℕ) → spec.closes b k ≡ true → IsTextOf k text → (is_comma k ≡ false) × (is_plus k ≡ false) × (text ≡ closing b)
  closer_of bracket.Group kind.ParenClose text h is = (refl, refl, is)
  closer_of bracket.List kind.BracketClose text h is = (refl, refl, is)
  closer_of (bracket.Call name) kind.ParenClose text h is = (refl, refl, is)
  closer_of bracket.Group _ text h is = absurd (false≢true h)
  closer_of bracket.List _ text h is = absurd (false≢true h)
  closer_of (bracket.Call name) _ text h is = absurd (false≢true h)

  -- what stands in a bracket, with its last lexeme
  bracket_ends : (all : List Lexeme) (level : Level) (at : ℕ) (l : Lexeme) (text : List ℕ) → Leads all level.at at text → At all at l → IsSound l → spec.closes level.bracket l.kind ≡ true
      → Ends all level.at (at + 1) (text ++ closing level.bracket)
  bracket_ends all level at l text leads is here h =
      let c = closer_of level.bracket l.kind (lexeme l.token) h here.0 in
      subst (λ t. Ends all level.at (at + 1) (text ++ t)) c.2 (one_ends all level.at at text l leads is c.0 c.1)

  -- the form of a bracket, its first and last lexeme with it
  abbrev IsFormAt : List Lexeme → ℕ → ℕ → Shape → Type 0
  IsFormAt all at end s = Ends all at end (shape_spelling s) × All IsSpelled (shape_parts s)

  closed_read : (all : List Lexeme) (level : Level) (from at : ℕ) (elements : List Expression) (sum : Expression) (b : Bracket) → level.bracket ≡ b → Fills all level.at b elements from → IsSpelled sum
      → Ends all level.at (at + 1) ((((opening b ++ with_commas elements) ++ spelling sum)) ++ closing b) → IfSome (spec.shape_of b elements (Some sum)) (IsFormAt all level.at (at + 1))
  closed_read all level from at elements sum bracket.Group b fills spelled ends =
      let text : ((codes "(" ++ with_commas elements) ++ spelling sum) ++ codes ")" ≡ shape_spelling (shape.Group sum) =
      ap (λ es. ((codes "(" ++ with_commas es) ++ spelling sum) ++ codes ")") (fills.alone refl) ∙ sym (spelling_of-Group sum) in
      (subst (Ends all level.at (at + 1)) text ends, subst (All IsSpelled) (sym (parts_of-Group sum)) (All-cons IsSpelled sum [] spelled (All-nil IsSpelled)))
  closed_read all level from at elements sum bracket.List b fills spelled ends =
      let text : ((codes "[" ++ with_commas elements) ++ spelling sum) ++ codes "]" ≡ shape_spelling (shape.List (elements ++ sum ∷ [])) =
      ap (λ t. t ++ codes "]") (append_assoc (codes "[") (with_commas elements) (spelling sum) ∙ ap (λ t. codes "[" ++ t) (listed_last elements sum)) ∙ sym (spelling_of-List (elements ++ sum ∷ [])) in
      (subst (Ends all level.at (at + 1)) text ends, subst (All IsSpelled) (sym (parts_of-List (elements ++ sum ∷ []))) (All-push IsSpelled elements sum fills.spelled spelled))
  closed_read all level from at elements sum (bracket.Call name) b fills spelled ends =
      let n = text_of_name name in
      let text : (((n ++ codes "(") ++ with_commas elements) ++ spelling sum) ++ codes ")" ≡ shape_spelling (shape.Call name (elements ++ sum ∷ [])) =
      ap (λ t. t ++ codes ")") (append_assoc (n ++ codes "(") (with_commas elements) (spelling sum) ∙ ap (λ t. n ++ codes "(" ++ t) (listed_last elements sum)) ∙ sym (spelling_of-Call name (elements ++ sum ∷ [])) in
      (subst (Ends all level.at (at + 1)) text ends, subst (All IsSpelled) (sym (parts_of-Call name (elements ++ sum ∷ []))) (All-push IsSpelled elements sum fills.spelled spelled))

  closed_empty : (all : List Lexeme) (at end : ℕ) (b : Bracket) → Ends all at end (opening b ++ closing b) → IfSome (spec.shape_of b [] None) (IsFormAt all at end)
  closed_empty all at end bracket.Group ends = tt
  closed_empty all at end bracket.List ends = (subst (Ends all at end) (sym (spelling_of-List [])) ends, subst (All IsSpelled) (sym (parts_of-List [])) (All-nil IsSpelled))
  closed_empty all at end (bracket.Call name) ends =
      (subst (Ends all at end) (ap (λ t. t ++ codes ")") (sym (append-nil (text_of_name name ++ codes "("))) ∙ sym (spelling_of-Call name [])) ends, subst (All IsSpelled) (sym (parts_of-Call name [])) (All-nil IsSpelled))

  -- a form in place of a bracket
  form_holds : (all : List Lexeme) (level : Level) (outer : List Level) (at end : ℕ) (before : Ready) (o : Option Shape) → Begins all level.at → level.at < end → Stacked all (level ∷ outer)
      → IfSome o (IsFormAt all level.at end) → HoldIf all end (option_map (λ s. spec.with_shape all level.at end (spec.resumed level outer before) s) o)
  form_holds all level outer at end before None begins some stacked is = tt
  form_holds all level outer at end before (Some s) begins some stacked is =
      shape_holds all stacked.0 level.at end (spec.resumed level outer before) s stacked.1 stacked.2 stacked.3 (shaped all level.at end s begins some is.0 is.1)

  closed_unread : (all : List Lexeme) (from at : ℕ) (state : State) (outer : List Level) (l : Lexeme) → spec.ends_in (list_top outer) l.kind ≡ true → Now all from at ready.Opens state.elements state.sum state.start
      → FillsTop all outer state.elements from → Stacked all outer → At all at l → IsSound l → HoldIf all (at + 1) (spec.closed_in outer all (at + 1) state)
  closed_unread all from at state [] l h now fills stacked is here = tt
  closed_unread all from at state (level ∷ outer) l h now fills stacked is here =
      let text : opening level.bracket ++ with_commas state.elements ≡ opening level.bracket = ap (λ es. opening level.bracket ++ with_commas es) now.2 ∙ append-nil (opening level.bracket) in
      let leads : Leads all level.at at (opening level.bracket) = subst (λ (n : ℕ). Leads all level.at n (opening level.bracket)) now.0 (subst (Leads all level.at from) text fills.leads) in
      let ends : Ends all level.at (at + 1) (opening level.bracket ++ closing level.bracket) = bracket_ends all level at l (opening level.bracket) leads is here h in
      let none : IfSome (spec.shape_of level.bracket [] None) (IsFormAt all level.at (at + 1)) = closed_empty all level.at (at + 1) level.bracket ends in
      let form : IfSome (spec.shape_of level.bracket state.elements state.sum) (IsFormAt all level.at (at + 1)) =
      subst (λ sum. IfSome (spec.shape_of level.bracket state.elements sum) (IsFormAt all level.at (at + 1))) (sym now.1)
      (subst (λ es. IfSome (spec.shape_of level.bracket es None) (IsFormAt all level.at (at + 1))) (sym now.2) none) in
      form_holds all level outer at (at + 1) state.ready (spec.shape_of level.bracket state.elements state.sum) fills.begins (omega (arith, leads.ordered)) stacked form

  closed_after : (all : List Lexeme) (from at : ℕ) (state : State) (outer : List Level) (sum : Option Expression) (l : Lexeme) → state.sum ≡ sum → spec.ends_in (list_top outer) l.kind ≡ true → Now all from at ready.Read state.elements sum state.start
      → FillsTop all outer state.elements from → Stacked all outer → At all at l → IsSound l → HoldIf all (at + 1) (spec.closed_in outer all (at + 1) state)
  closed_after all from at state [] sum l is_sum h now fills stacked is here = tt
  closed_after all from at state (level ∷ outer) None l is_sum h now fills stacked is here = absurd now
  closed_after all from at state (level ∷ outer) (Some sum) l is_sum h now fills stacked is here =
      let inner : Ends all level.at at ((opening level.bracket ++ with_commas state.elements) ++ spelling sum) = joined_ends all level.at from at _ _ fills.leads now.begins now.some now.ends in
      let ends = bracket_ends all level at l _ (leads_on all level.at at _ inner) is here h in
      let form : IfSome (spec.shape_of level.bracket state.elements state.sum) (IsFormAt all level.at (at + 1)) =
      subst (λ sum. IfSome (spec.shape_of level.bracket state.elements sum) (IsFormAt all level.at (at + 1))) (sym is_sum) (closed_read all level from at state.elements sum level.bracket refl fills now.spelled ends) in
      form_holds all level outer at (at + 1) state.ready (spec.shape_of level.bracket state.elements state.sum) fills.begins (omega (arith, inner.ordered)) stacked form

  -- a lexeme that goes on with the level
  sum_goes_on : (all : List Lexeme) (from at : ℕ) (elements : List Expression) (sum : Option Expression) (start : ℕ) (l : Lexeme) → l.kind ≡ kind.Plus → Now all from at ready.Read elements sum start → At all at l → IsSound l
      → Waits all from (at + 1) sum start
  sum_goes_on all from at elements None start l k now is here = absurd now
  sum_goes_on all from at elements (Some sum) start l k now is here =
      let plus : lexeme l.token ≡ codes "+" = text_of_kind l kind.Plus k here.0 in
      let leads = mark_leads all from at (spelling sum) l now.ends is (ap (λ (j : Kind). is_comma j || is_plus j) k) in
      let text : spelling sum ++ after_operand l.kind ++ lexeme l.token ++ 32 ∷ [] ≡ spelling sum ++ codes " + " =
      (λ i. spelling sum ++ after_operand (k i) ++ plus i ++ 32 ∷ []) ∙ append_assoc (spelling sum ++ 32 ∷ []) (43 ∷ []) (32 ∷ []) ∙ append_assoc (spelling sum) (32 ∷ []) (43 ∷ 32 ∷ []) in
      (now.start_is, now.spelled, now.begins, subst (Leads all from (at + 1)) text leads)

  level_goes_on : (all : List Lexeme) (from at : ℕ) (outer : List Level) (elements : List Expression) (sum : Option Expression) (start : ℕ) (l : Lexeme) → l.kind ≡ kind.Comma → spec.has_elements_in (list_top outer) ≡ true
      → Now all from at ready.Read elements sum start → FillsTop all outer elements from → At all at l → IsSound l → FillsTop all outer (spec.and_sum elements sum) (at + 1)
  level_goes_on all from at [] elements sum start l k several now fills is here = absurd (false≢true several)
  level_goes_on all from at (level ∷ outer) elements None start l k several now fills is here = absurd now
  level_goes_on all from at (level ∷ outer) elements (Some sum) start l k several now fills is here =
      let comma : lexeme l.token ≡ codes "," = text_of_kind l kind.Comma k here.0 in
      let before = opening level.bracket ++ with_commas elements in
      let inner : Ends all level.at at (before ++ spelling sum) = joined_ends all level.at from at _ _ fills.leads now.begins now.some now.ends in
      let leads = mark_leads all level.at at (before ++ spelling sum) l inner is (ap (λ (j : Kind). is_comma j || is_plus j) k) in
      let text : (before ++ spelling sum) ++ after_operand l.kind ++ lexeme l.token ++ 32 ∷ [] ≡ opening level.bracket ++ with_commas (elements ++ sum ∷ []) =
      (λ i. (before ++ spelling sum) ++ after_operand (k i) ++ comma i ++ 32 ∷ [])
      ∙ ap (λ t. t ++ 44 ∷ [] ++ 32 ∷ []) (append-nil (before ++ spelling sum)) ∙ append_assoc (before ++ spelling sum) (44 ∷ []) (32 ∷ [])
      ∙ ap (λ t. t ++ codes ", ") (append_assoc (opening level.bracket) (with_commas elements) (spelling sum))
      ∙ append_assoc (opening level.bracket) (with_commas elements ++ spelling sum) (codes ", ") ∙ ap (λ t. opening level.bracket ++ t) (commas_more elements sum) in
      record {
        begins = fills.begins;
        spelled = All-push IsSpelled elements sum fills.spelled now.spelled;
        alone = λ one. absurd (false≢true (sym one ∙ several));
        leads = subst (Leads all level.at (at + 1)) text leads;
      }

  continued_by : (all : List Lexeme) (from at : ℕ) (state : State) (l : Lexeme) (k : Kind) (several : Bool) → l.kind ≡ k → spec.has_elements state ≡ several → Now all from at ready.Read state.elements state.sum state.start
      → FillsTop all state.outer state.elements from → Stacked all state.outer → At all at l → IsSound l → HoldIf all (at + 1) (spec.continued k state)
  continued_by all from at state l kind.Plus several k is_several now fills stacked is here =
      record { from = from; now = sum_goes_on all from at state.elements state.sum state.start l k now is here; fills = fills; stacked = stacked }
  continued_by all from at state l kind.Comma false k is_several now fills stacked is here = rw is_several tt
  continued_by all from at state l kind.Comma true k is_several now fills stacked is here = rw is_several (record {
    from = at + 1;
    now = refl;
    fills = level_goes_on all from at state.outer state.elements state.sum state.start l k is_several now fills is here;
    stacked = stacked;
  })
  continued_by all from at state l _ several k is_several now fills stacked is here = tt

  followed_holds : (all : List Lexeme) (from at : ℕ) (state : State) (l : Lexeme) (ends : Bool) → spec.ends_level state l.kind ≡ ends → Now all from at ready.Read state.elements state.sum state.start
      → FillsTop all state.outer state.elements from → Stacked all state.outer → At all at l → IsSound l → HoldIf all (at + 1) (spec.followed all (at + 1) state l.kind)
  unfolding spec.followed spec.closed
  followed_holds all from at state l true h now fills stacked is here = subst (λ b. HoldIf all (at + 1) (if b then spec.closed_in state.outer all (at + 1) state else spec.continued l.kind state)) (sym h) (closed_after all from at state state.outer state.sum l refl h now fills stacked is here)
  followed_holds all from at state l false h now fills stacked is here = subst (λ b. HoldIf all (at + 1) (if b then spec.closed_in state.outer all (at + 1) state else spec.continued l.kind state)) (sym h) (continued_by all from at state l l.kind _ refl refl now fills stacked is here)

  opens_waits : (all : List Lexeme) (from at : ℕ) (elements : List Expression) (sum : Option Expression) (start : ℕ) → Now all from at ready.Opens elements sum start → Waits all from at sum start
  opens_waits all from at elements sum start now = subst (λ sum. Waits all from at sum start) (sym now.1) now.0

  opens_holds : (all : List Lexeme) (from at : ℕ) (state : State) (l : Lexeme) (ends : Bool) → spec.ends_level state l.kind ≡ ends → Now all from at ready.Opens state.elements state.sum state.start
      → FillsTop all state.outer state.elements from → Stacked all state.outer → At all at l → All IsSound all → IsSound l
      → HoldIf all (at + 1) (if spec.ends_level state l.kind then spec.closed all (at + 1) state else spec.begun_expression all at (at + 1) state l (spec.opens_call (drop (at + 1) all)))
  unfolding spec.closed
  opens_holds all from at state l true h now fills stacked is sound here = subst (λ b. HoldIf all (at + 1) (if b then spec.closed_in state.outer all (at + 1) state else spec.begun_expression all at (at + 1) state l (spec.opens_call (drop (at + 1) all)))) (sym h) (closed_unread all from at state state.outer l h now fills stacked is here)
  opens_holds all from at state l false h now fills stacked is sound here = subst (λ b. HoldIf all (at + 1) (if b then spec.closed_in state.outer all (at + 1) state else spec.begun_expression all at (at + 1) state l (spec.opens_call (drop (at + 1) all)))) (sym h) (begun_holds all from at state l (opens_waits all from at state.elements state.sum state.start now) fills stacked is sound here)

  step_by_holds : (all : List Lexeme) (from at : ℕ) (state : State) (l : Lexeme) (r : Ready) → Now all from at r state.elements state.sum state.start → FillsTop all state.outer state.elements from → Stacked all state.outer
      → At all at l → All IsSound all → IsSound l → HoldIf all (at + 1) (spec.step_by r all at (at + 1) state l (spec.opens_call (drop (at + 1) all)))
  step_by_holds all from at state l ready.Wants now fills stacked is sound here = begun_holds all from at state l now fills stacked is sound here
  step_by_holds all from at state l ready.Opens now fills stacked is sound here = opens_holds all from at state l _ refl now fills stacked is sound here
  step_by_holds all from at state l ready.Calls now fills stacked is sound here = record { from = from; now = now; fills = fills; stacked = stacked }
  step_by_holds all from at state l ready.Read now fills stacked is sound here = followed_holds all from at state l _ refl now fills stacked is here

  step_holds : (all : List Lexeme) (at : ℕ) (state : State) (l : Lexeme) → Holds all at state → At all at l → All IsSound all → IsSound l → HoldIf all (at + 1) (spec.read_step all at (at + 1) state l (spec.opens_call (drop (at + 1) all)))
  unfolding spec.read_step
  step_holds all at state l holds is sound here = step_by_holds all holds.from at state l state.ready holds.now holds.fills holds.stacked is sound here

  -- what is found is spelled, and its lexemes are its spelling
  abbrev pub IsFoundSpelled : List Lexeme → Option Found → Type 0
  IsFoundSpelled all found = IfSome found (λ f. IsSpelled f.made × (spell (slice_range all base f.end) ≡ spelling f.made))

  found_spelled : (all : List Lexeme) (from at : ℕ) (elements : List Expression) (sum : Option Expression) (start : ℕ) → Now all from at ready.Read elements sum start → from ≡ base → IsFoundSpelled all (spec.found_at at sum)
  found_spelled all from at elements None start now is = absurd now
  found_spelled all from at elements (Some sum) start now is = (now.spelled, ap (λ n. spell (slice_range all n at)) (sym is) ∙ now.ends.spelled)

  finished_by : (all : List Lexeme) (from at : ℕ) (r : Ready) (outer : List Level) (elements : List Expression) (sum : Option Expression) (start : ℕ) → Now all from at r elements sum start → FillsTop all outer elements from
      → IsFoundSpelled all (if spec.is_read r then (if spec.is_outermost (list_top outer) then spec.found_at at sum else None) else None)
  finished_by all from at ready.Read [] elements sum start now fills = found_spelled all from at elements sum start now fills
  finished_by all from at ready.Read (level ∷ outer) elements sum start now fills = tt
  finished_by all from at ready.Wants outer elements sum start now fills = tt
  finished_by all from at ready.Opens outer elements sum start now fills = tt
  finished_by all from at ready.Calls outer elements sum start now fills = tt

  finished_spelled : (all : List Lexeme) (at : ℕ) (state : State) → Holds all at state → IsFoundSpelled all (spec.finished at state)
  finished_spelled all at state holds = finished_by all holds.from at state.ready state.outer state.elements state.sum state.start holds.now holds.fills

  either_spelled : (all : List Lexeme) (b : Bool) (x y : Option Found) → IsFoundSpelled all x → IsFoundSpelled all y → IsFoundSpelled all (if b then x else y)
  either_spelled all true x y h k = h
  either_spelled all false x y h k = k

  onward_spelled : (all : List Lexeme) (at : ℕ) (next : Option State) (more : State → Option Found) → HoldIf all at next → ((s : State) → Holds all at s → IsFoundSpelled all (more s)) → IsFoundSpelled all (spec.onward next more)
  onward_spelled all at None more holds h = tt
  onward_spelled all at (Some state) more holds h = h state holds

  read_spelled : (sums : Bool) (all : List Lexeme) (at : ℕ) (state : State) (rest : List Lexeme) → All IsSound all → drop at all ≡ rest → Holds all at state → IsFoundSpelled all (spec.read sums all at state rest)
  read_spelled sums all at state [] sound is holds = finished_spelled all at state holds
  read_spelled sums all at state (l ∷ rest) sound is holds =
      let next = next_at all at l rest is in
      let stepped : HoldIf all (at + 1) (spec.read_step all at (at + 1) state l (spec.opens_call rest)) =
      subst (λ ls. HoldIf all (at + 1) (spec.read_step all at (at + 1) state l (spec.opens_call ls))) (sym next) (step_holds all at state l holds (at_front all at l rest is) sound (sound_at all at l rest is sound)) in
      either_spelled all (spec.stops sums state l.kind) (spec.finished at state) (spec.onward (spec.read_step all at (at + 1) state l (spec.opens_call rest)) (λ s. spec.read sums all (at + 1) s rest)) (finished_spelled all at state holds)
      (onward_spelled all (at + 1) (spec.read_step all at (at + 1) state l (spec.opens_call rest)) (λ s. spec.read sums all (at + 1) s rest) stepped (λ s more. read_spelled sums all (at + 1) s rest sound (sym next) more))

  -- an expression that begins there
  pub expression_spelled : (sums : Bool) (all : List Lexeme) → All IsSound all → IsFoundSpelled all (spec.expression sums all base)
  unfolding spec.expression
  expression_spelled sums all sound = read_spelled sums all base spec.unread (drop base all) sound refl (unread_holds all)
