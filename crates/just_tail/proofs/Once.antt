-- Words have one tail, or one fault of a tail.
use Rattle.std.proofs.Common.{◌≡◌, ℕ, zero, suc, ◌<◌, List, [], ◌∷◌, ◌++◌, length, get_or, refl, sym, ap, ◌∙◌, subst, arith}
use Rattle.std.specs.List.{flat_map}
use Rattle.just_ast_definitions.specs.declared.parameter.Parameter.{Parameter}
use Rattle.just_tail.specs.Words.{Words, as_texts}
use Rattle.just_tail.specs.Pieces.{words_of}
use Rattle.just_tail.specs.Steps.{steps_of_piece, positionals_among, group_of, Ends}
use Rattle.just_tail.specs.Cause.{ArgumentFault}
use Rattle.just_tail.specs.Tail.{IsTail, BadOption, NoTail}
use Rattle.just_tail.proofs.Fronts.{ends_first, fronts_once}
use Rattle.just_tail.proofs.Refusals.{ends_bad, bad_first, bad_once}

-- lists of as many groups are equal where each group is
pub same_groups : (n : ℕ) (gs hs : List Words) → length gs ≡ n → length hs ≡ n → ((j : ℕ) → j < n → get_or gs j [] ≡ get_or hs j []) → gs ≡ hs
same_groups n [] [] e f h = refl
same_groups n [] (x ∷ xs) e f h = absurd (omega arith)
same_groups n (x ∷ xs) [] e f h = absurd (omega arith)
same_groups zero (x ∷ xs) (y ∷ ys) e f h = absurd (omega arith)
same_groups (suc n) (x ∷ xs) (y ∷ ys) e f h =
    let first : x ≡ y = h zero (omega arith) in
    let rest : xs ≡ ys = same_groups n xs ys (omega arith) (omega arith) (λ j small. h (suc j) (omega arith)) in
    (cc)

-- words begin with at most one tail
pub tail_once : (ps : List Parameter) (tail other after rest : Words) (found more : ℕ) (groups as_texts : List Words) →
    tail ++ after ≡ other ++ rest → IsTail ps tail after found groups → IsTail ps other rest more as_texts →
    (tail ≡ other) × (after ≡ rest) × (found ≡ more) × (groups ≡ as_texts)
tail_once ps tail other after rest found more groups as_texts e p q =
    let r = fronts_once ps (Ends ps) (Ends ps) (ends_first ps) (ends_first ps) [] p.pieces q.pieces after rest
    (ap (λ t. t ++ after) (sym p.whole) ∙ e ∙ ap (λ t. t ++ rest) q.whole) p.reads q.reads p.ends q.ends in
    let same : flat_map steps_of_piece p.pieces ≡ flat_map steps_of_piece q.pieces = ap (flat_map steps_of_piece) r.0 in (
      p.whole ∙ ap (flat_map words_of) r.0 ∙ sym q.whole,
      r.1,
      p.counts ∙ ap positionals_among same ∙ sym q.counts,
      same_groups (length ps) groups as_texts p.each_one q.each_one (λ j h. p.each j h ∙ ap (λ s. group_of ps s j) same ∙ sym (q.each j h)),
    )

-- words that begin with a tail have no fault of one
pub tail_no_fault : (ps : List Parameter) (tail after : Words) (found : ℕ) (groups : List Words) (cause : ArgumentFault) →
    IsTail ps tail after found groups → NoTail ps (tail ++ after) cause → ⊥
tail_no_fault ps tail after found groups cause p q =
    let r = fronts_once ps (Ends ps) (λ before words. BadOption ps before words cause) (ends_first ps) (bad_first ps cause) [] p.pieces q.pieces after q.rest
    (ap (λ t. t ++ after) (sym p.whole) ∙ q.whole) p.reads q.reads p.ends q.bad in
    ends_bad ps (flat_map steps_of_piece q.pieces) q.rest cause
    (subst (λ b. Ends ps b q.rest) (ap (flat_map steps_of_piece) r.0) (subst (Ends ps (flat_map steps_of_piece p.pieces)) r.1 p.ends)) q.bad

-- words have at most one fault of a tail
pub fault_once : (ps : List Parameter) (words : Words) (a b : ArgumentFault) → NoTail ps words a → NoTail ps words b → a ≡ b
fault_once ps words a b p q =
    let r = fronts_once ps (λ before ws. BadOption ps before ws a) (λ before ws. BadOption ps before ws b) (bad_first ps a) (bad_first ps b) [] p.pieces q.pieces p.rest q.rest
    (sym p.whole ∙ q.whole) p.reads q.reads p.bad q.bad in
    bad_once ps (flat_map steps_of_piece q.pieces) q.rest a b
    (subst (λ s. BadOption ps s q.rest a) (ap (flat_map steps_of_piece) r.0) (subst (λ ws. BadOption ps (flat_map steps_of_piece p.pieces) ws a) r.1 p.bad)) q.bad
