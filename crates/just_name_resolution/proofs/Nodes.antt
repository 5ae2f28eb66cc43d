-- The walk over the expressions in one, and the way back.
use Rattle.std.proofs.Common.{◌≡◌, sym, subst, ◌∙◌, ap, ℕ, ◌+◌, ◌≤◌, arith, List, [], ◌∷◌, ◌++◌, length, drop, map, reverse, Option, Bor}
use Rattle.std.proofs.Math.Seq.{drop-append_seam}
use Rattle.std.proofs.lemmas.List.{append_cancel_left, length-append, length-map, length-reverse, map-append, reverse-append}
use Rattle.just_names.specs.declared.number.Number.{Number}
use Rattle.just_ast_expressions.specs.declared.expression.Expression.{Expression}
use Rattle.just_name_resolution.specs.loops.Nodes.{LeadsBack, LieOn}
use Rattle.just_ast_references.specs.Numbers.{with_numbers}
use Rattle.just_ast_expressions.specs.Parts.{parts}
use Rattle.just_ast_references.specs.Parts.{waiting}
use Rattle.just_ast_references.proofs.Renumbering.{keeps_parts}
use Rattle.just_ast_references.proofs.Stack.{waiting_push}

-- the walk goes on: an expression is popped and found, and its parts are pushed
pub leads_on : (whole : Expression) (found made stack popped pushed : List (Bor Expression)) (next : Bor Expression) →
    stack ≡ popped ++ next ∷ [] → made ≡ found ++ next ∷ [] → waiting pushed ≡ parts next.now ++ waiting popped →
    LeadsBack whole (waiting found) (waiting stack) → LeadsBack whole (waiting made) (waiting pushed)
leads_on whole found made stack popped pushed next pop find push back =
    subst (λ ns. LeadsBack whole ns (waiting pushed)) (sym (ap waiting find ∙ waiting_push found next))
    (waiting popped, push, subst (λ w. LeadsBack whole (waiting found) w) (ap waiting pop ∙ waiting_push popped next) back)

lie_on : (some below stack : List Expression) → stack ≡ some ++ below → LieOn some stack
lie_on some below stack same =
    same ∙ ap (λ b. some ++ b) (sym (ap (drop (length some)) same ∙ drop-append_seam some below))

module _ (number_of : List ℕ → Option Number) (whole : Expression) where
  abbrev given : Expression → Expression
  given = with_numbers number_of

  -- on the way back, those that wait are made, and lie on a stack
  abbrev pub IsMade : List Expression → List Expression → Type 0
  IsMade before built = (wait : List Expression) × (reverse built ≡ map given wait) × LeadsBack whole before wait

  abbrev Parted : Expression → List Expression → List Expression → Type 0
  Parted last before built =
      (others : List Expression) × (reverse built ≡ parts (given last) ++ map given others) × LeadsBack whole before (last ∷ others)

  parted : (last : Expression) (before built : List Expression) → IsMade (last ∷ before) built → Parted last before built
  parted last before built made = (
    made.2.0,
    made.1 ∙ ap (map given) made.2.1 ∙ map-append given (parts last) made.2.0 ∙ ap (λ p. p ++ map given made.2.0) (sym (keeps_parts number_of last)),
    made.2.2,
  )

  popped_parted : (left popped : List (Bor Expression)) (last : Bor Expression) (built : List Expression) →
      left ≡ popped ++ last ∷ [] → IsMade (waiting left) built → Parted last.now (waiting popped) built
  popped_parted left popped last built pop made =
      parted last.now (waiting popped) built (subst (λ ns. IsMade ns built) (ap waiting pop ∙ waiting_push popped last) made)

  counted : (last : Expression) (built : List Expression) → LieOn (parts (given last)) (reverse built) → length (parts last) ≤ length built
  counted last built lie =
      let kept : length (parts (given last)) ≡ length (parts last) = ap length (keeps_parts number_of last) ∙ length-map (parts last) given in
      let below : List Expression = drop (length (parts (given last))) (reverse built) in
      let split : length (reverse built) ≡ length (parts (given last)) + length below = ap length lie ∙ length-append (parts (given last)) below in
      omega (arith, length-reverse built)

  -- its parts are made before an expression
  pub parts_lie : (left popped : List (Bor Expression)) (last : Bor Expression) (built : List Expression) →
      left ≡ popped ++ last ∷ [] → IsMade (waiting left) built →
      (length (parts last.now) ≤ length built) × LieOn (parts (given last.now)) (reverse built)
  parts_lie left popped last built pop made =
      let s : Parted last.now (waiting popped) built = popped_parted left popped last built pop made in
      let lie : LieOn (parts (given last.now)) (reverse built) = lie_on (parts (given last.now)) (map given s.0) (reverse built) s.1 in
      (counted last.now built lie, lie)

  -- and it is made of them
  pub made_on : (left popped : List (Bor Expression)) (last : Bor Expression) (built rest more : List Expression) (again : Expression) →
      left ≡ popped ++ last ∷ [] → again ≡ given last.now → reverse built ≡ parts again ++ reverse rest → more ≡ rest ++ again ∷ [] →
      IsMade (waiting left) built → IsMade (waiting popped) more
  made_on left popped last built rest more again pop same taken push made =
      let s : Parted last.now (waiting popped) built = popped_parted left popped last built pop made in
      let below : reverse rest ≡ map given s.0 =
      append_cancel_left (parts (given last.now)) (reverse rest) (map given s.0) (ap (λ e. parts e ++ reverse rest) (sym same) ∙ sym taken ∙ s.1) in
      (last.now ∷ s.0, ap reverse push ∙ reverse-append rest (again ∷ []) ∙ (λ i. same i ∷ below i), s.2)

  -- at the end the whole is made
  pub whole_made : (left : List (Bor Expression)) (built : List Expression) → length left ≡ 0 → IsMade (waiting left) built →
      reverse built ≡ given whole ∷ []
  whole_made [] built none made = made.1 ∙ ap (map given) made.2
  whole_made (next ∷ others) built none made = absurd (omega (arith, none))
