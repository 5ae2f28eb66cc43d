-- Words have one reading or one refusal, with the checks of their groups.
use Rattle.std.proofs.Common.{◌≡◌, inl, inr, ℕ, List, ◌++◌, Some, None, sym, ap, ◌∙◌, subst}
use Rattle.just_ast_definitions.specs.declared.parameter.Parameter.{Parameter}
use Rattle.just_tail.specs.Words.{Words, as_texts}
use Rattle.just_tail.specs.Cause.{ArgumentFault}
use Rattle.just_tail.specs.Tail.{NoTail}
use Rattle.just_tail.specs.Checks.{CountFault, refusal, TakesArguments, StopsTail}
use Rattle.just_tail.proofs.Once.{tail_once, tail_no_fault, fault_once}

-- words begin with arguments in at most one way
pub reading_once : (counts : CountFault) (ps : List Parameter) (tail other after rest : Words) (groups as_texts : List Words) →
    tail ++ after ≡ other ++ rest → TakesArguments counts ps tail after groups → TakesArguments counts ps other rest as_texts →
    (tail ≡ other) × (after ≡ rest) × (groups ≡ as_texts)
reading_once counts ps tail other after rest groups as_texts e p q =
    let r = tail_once ps tail other after rest p.found q.found groups as_texts e p.reads q.reads in
    (r.0, r.1, r.3)

same_refusal : (counts : CountFault) (ps : List Parameter) (groups as_texts : List Words) (found more : ℕ) →
    groups ≡ as_texts → found ≡ more → refusal counts ps groups found ≡ refusal counts ps as_texts more
same_refusal counts ps groups as_texts found more e f = ap (λ gs. refusal counts ps gs found) e ∙ ap (refusal counts ps as_texts) f

-- words that begin with arguments are not refused
pub reading_no_stop : (counts : CountFault) (ps : List Parameter) (tail after : Words) (groups : List Words) (cause : ArgumentFault) →
    TakesArguments counts ps tail after groups → StopsTail counts ps (tail ++ after) cause → ⊥
reading_no_stop counts ps tail after groups cause p (inl q) = tail_no_fault ps tail after p.found groups cause p.reads q
reading_no_stop counts ps tail after groups cause p (inr q) =
    let r = tail_once ps tail q.tail after q.after p.found q.found groups q.groups q.whole p.reads q.reads in
    let f : None ≡ Some cause = sym p.passes ∙ same_refusal counts ps groups q.groups p.found q.found r.3 r.2 ∙ q.refused in
    (cc)

-- words are refused for at most one cause
pub stop_once : (counts : CountFault) (ps : List Parameter) (words : Words) (a b : ArgumentFault) →
    StopsTail counts ps words a → StopsTail counts ps words b → a ≡ b
stop_once counts ps words a b (inl p) (inl q) = fault_once ps words a b p q
stop_once counts ps words a b (inl p) (inr q) =
    absurd (tail_no_fault ps q.tail q.after q.found q.groups a q.reads (subst (λ ws. NoTail ps ws a) q.whole p))
stop_once counts ps words a b (inr p) (inl q) =
    absurd (tail_no_fault ps p.tail p.after p.found p.groups b p.reads (subst (λ ws. NoTail ps ws b) p.whole q))
stop_once counts ps words a b (inr p) (inr q) =
    let r = tail_once ps p.tail q.tail p.after q.after p.found q.found p.groups q.groups (sym p.whole ∙ q.whole) p.reads q.reads in
    let f : Some a ≡ Some b = sym p.refused ∙ same_refusal counts ps p.groups q.groups p.found q.found r.3 r.2 ∙ q.refused in
    (cc)
