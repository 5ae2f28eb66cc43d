-- The groups of a tail, one by one, and words whose groups are refused.
use Rattle.std.proofs.Common.{◌≡◌, inr, ℕ, ◌+◌, ◌<◌, List, [], ◌∷◌, Option, Some, None, IfSome, length, get_or, take, drop, sym, ap, ◌∙◌, arith}
use Rattle.std.proofs.lemmas.List.{length-map, get_or-map, drop_more}
use Rattle.std.proofs.lemmas.Option.{IfSome_then}
use Rattle.std.specs.Borrow.{Bor}
use Rattle.std.specs.declared.vec.Vec.{Vec}
use Rattle.std.specs.declared.alloc.Global.{Global}
use Rattle.just_names.specs.Texts.{Text, texts}
use Rattle.just_ast_definitions.specs.declared.parameter.Parameter.{Parameter}
use Rattle.just_tail.specs.declared.error.TailError.{TailError}
use Rattle.just_tail.specs.declared.tail.Tail.{Tail}
use Rattle.just_tail.specs.Words.{Words, as_texts}
use Rattle.just_tail.specs.Options.{first_of}
use Rattle.just_tail.specs.Cause.{ArgumentFault, tail_cause_of}
use Rattle.just_tail.specs.Tail.{IsTail}
use Rattle.just_tail.specs.Checks.{lacking, CountFault, unfit, first_unfit, refusal, StopsTail}
use Rattle.just_tail.proofs.TailLemmas.{texts_cut}

param_at : (ps : List Parameter) (i : ℕ) (p : Parameter) → i < length ps → p ≡ get_or ps i p → drop i ps ≡ p ∷ drop (i + 1) ps
param_at ps i p h e = drop_more ps i p h ∙ ap (λ q. q ∷ drop (i + 1) ps) (sym e)

group_at : (gs : List (Vec (Bor Text) Global)) (i : ℕ) (g : Vec (Bor Text) Global) → i < length gs → g ≡ get_or gs i g →
    drop i (as_texts gs) ≡ texts g.items ∷ drop (i + 1) (as_texts gs)
group_at gs i g h e =
    let same : length (as_texts gs) ≡ length gs = length-map gs (λ v. texts v.items) in
    let within : i < length (as_texts gs) = omega arith in
    drop_more (as_texts gs) i [] within
    ∙ ap (λ t. t ∷ drop (i + 1) (as_texts gs)) (get_or-map (λ v. texts v.items) gs i g [] h ∙ ap (λ v. texts v.items) (sym e))

-- a question that is asked of each parameter with its group, at place i
pub both_at : {X : Type 0} (F : List Parameter → List Words → X) (ps : List Parameter) (gs : List (Vec (Bor Text) Global)) (i : ℕ) (p : Parameter) (g : Vec (Bor Text) Global) →
    i < length ps → length gs ≡ length ps → p ≡ get_or ps i p → g ≡ get_or gs i g →
    F (drop i ps) (drop i (as_texts gs)) ≡ F (p ∷ drop (i + 1) ps) (texts g.items ∷ drop (i + 1) (as_texts gs))
both_at F ps gs i p g h e f k =
    let within : i < length gs = omega arith in
    ap (λ x. F x (drop i (as_texts gs))) (param_at ps i p h f) ∙ ap (λ y. F (p ∷ drop (i + 1) ps) y) (group_at gs i g within k)

-- where the groups before place i pass, what is said of the group there is said of all, or else what is said of those after it
pub unfit_at : (counts : CountFault) (ps : List Parameter) (gs : List (Vec (Bor Text) Global)) (i : ℕ) (p : Parameter) (g : Vec (Bor Text) Global) (ws : List (Bor Text)) (o : Option ArgumentFault) →
    i < length ps → length gs ≡ length ps → p ≡ get_or ps i p → g ≡ get_or gs i g → ws ≡ g.items →
    first_unfit counts ps (as_texts gs) ≡ first_unfit counts (drop i ps) (drop i (as_texts gs)) → unfit counts p (texts ws) ≡ o →
    first_unfit counts ps (as_texts gs) ≡ first_of o (first_unfit counts (drop (i + 1) ps) (drop (i + 1) (as_texts gs)))
unfit_at counts ps gs i p g ws o h e f k same passed is =
    passed ∙ both_at (first_unfit counts) ps gs i p g h e f k
    ∙ ap (λ x. first_of x (first_unfit counts (drop (i + 1) ps) (drop (i + 1) (as_texts gs)))) (ap (λ ts. unfit counts p (texts ts)) (sym same) ∙ is)

-- an error that says it of the group says it of all
pub unfit_told : (counts : CountFault) (ps : List Parameter) (gs : List (Vec (Bor Text) Global)) (i : ℕ) (p : Parameter) (g : Vec (Bor Text) Global) (ws : List (Bor Text)) (error : TailError) →
    i < length ps → length gs ≡ length ps → p ≡ get_or ps i p → g ≡ get_or gs i g → ws ≡ g.items →
    first_unfit counts ps (as_texts gs) ≡ first_unfit counts (drop i ps) (drop i (as_texts gs)) → IfSome (tail_cause_of error) (λ cause. unfit counts p (texts ws) ≡ Some cause) →
    IfSome (tail_cause_of error) (λ cause. first_unfit counts ps (as_texts gs) ≡ Some cause)
unfit_told counts ps gs i p g ws error h e f k same passed told =
    IfSome_then (tail_cause_of error) told (λ cause is. unfit_at counts ps gs i p g ws (Some cause) h e f k same passed is)

-- the words begin with this tail
abbrev Begins : List Parameter → List (Bor Text) → Tail → Type 0
Begins ps words t = IsTail ps (texts (take t.taken words)) (texts (drop t.taken words)) t.found (as_texts t.groups.items)

refused_stops : (counts : CountFault) (ps : List Parameter) (words : List (Bor Text)) (t : Tail) (cause : ArgumentFault) → Begins ps words t →
    refusal counts ps (as_texts t.groups.items) t.found ≡ Some cause → StopsTail counts ps (texts words) cause
refused_stops counts ps words t cause reads refused =
    inr (record {
      tail = texts (take t.taken words);
      after = texts (drop t.taken words);
      found = t.found;
      groups = as_texts t.groups.items;
      whole = texts_cut t.taken words;
      reads = reads;
      refused = refused;
    })

-- an error that says what is missing says why the words are refused
pub lacking_stops : (counts : CountFault) (ps : List Parameter) (words : List (Bor Text)) (t : Tail) (gs : List (Vec (Bor Text) Global)) (error : TailError) → Begins ps words t →
    gs ≡ t.groups.items → IfSome (tail_cause_of error) (λ cause. lacking ps (as_texts gs) t.found ≡ Some cause) → IfSome (tail_cause_of error) (StopsTail counts ps (texts words))
lacking_stops counts ps words t gs error reads same told =
    IfSome_then (tail_cause_of error) told
    (λ cause is.
    refused_stops counts ps words t cause reads
    (ap (λ x. first_of x (first_unfit counts ps (as_texts t.groups.items))) (ap (λ hs. lacking ps (as_texts hs) t.found) (sym same) ∙ is)))

-- so does one that says which texts are not right, where nothing is missing
pub unfit_stops : (counts : CountFault) (ps : List Parameter) (words : List (Bor Text)) (t : Tail) (gs hs : List (Vec (Bor Text) Global)) (error : TailError) → Begins ps words t →
    gs ≡ t.groups.items → hs ≡ t.groups.items → lacking ps (as_texts gs) t.found ≡ None →
    IfSome (tail_cause_of error) (λ cause. first_unfit counts ps (as_texts hs) ≡ Some cause) → IfSome (tail_cause_of error) (StopsTail counts ps (texts words))
unfit_stops counts ps words t gs hs error reads same alike present told =
    IfSome_then (tail_cause_of error) told
    (λ cause is.
    refused_stops counts ps words t cause reads
    (ap (λ x. first_of x (first_unfit counts ps (as_texts t.groups.items))) (ap (λ us. lacking ps (as_texts us) t.found) (sym same) ∙ present)
    ∙ ap (λ us. first_unfit counts ps (as_texts us)) (sym alike) ∙ is))
