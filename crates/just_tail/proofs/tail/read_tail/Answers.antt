use Rattle.std.proofs.Common.{◌≡◌, ◌<◌, List, [], ◌∷◌, ◌++◌, length, take, drop, sym, ap, ◌∙◌, subst, arith}
use Rattle.std.proofs.lemmas.List.{length-drop}
use Rattle.std.proofs.lemmas.Option.{IfSome_then}
use Rattle.std.specs.List.{flat_map}
use Rattle.just_names.specs.Texts.{texts}
use Rattle.just_ast_definitions.specs.declared.parameter.Parameter.{Parameter}
use Rattle.just_tail.specs.Pieces.{words_of}
use Rattle.just_tail.specs.Steps.{steps_of_piece, StepsFollow, Ends}
use Rattle.just_tail.specs.Cause.{tail_cause_of}
use Rattle.just_tail.specs.Tail.{BadOption}
use Rattle.just_tail.specs.loops.Reader.{HasRead}
use Rattle.just_tail.proofs.TailLemmas.{pieces_push, flat_push, words_push, texts_add, texts_cut, ends_at_end, tail_read, tail_alike}
use Rattle.just_tail.proofs.tail.read_tail.Goals as goal
use Rattle.just_tail.proofs.tail.read_tail.Goals.{else-loop-taken-test, then-loop-taken-test+in-Ok-eq0}

pub loop-taken-preserved : goal.loop-taken-preserved
loop-taken-preserved c =
    let ps = c.args.parameters.now in
    let words = c.args.words.now in
    let t = c.loop-taken.taken in
    let n = c.in-Ok.n in
    let f = c.loop-taken.invariant.front in
    let some : 0 < n = omega arith in
    let same : c.in_ok-plan.plan.parameters.now ≡ ps = c.in_ok-plan.ensures.same in
    let p = c.in-Ok.ensures.piece some (flat_map steps_of_piece f.0) (subst (λ (qs : List Parameter). HasRead qs (flat_map steps_of_piece f.0) c.loop-taken.progress) (sym same) f.3) in
    let left : c.after.result.now ≡ drop t words = c.after.ensures in
    let lengths : length c.after.result.now ≡ length (drop t words) = ap length left in
    let small = c.in-Ok.ensures.within in
    record {
      within = omega (arith, length-drop t words);
      count = c.in-Ok.ensures.count ∙ ap length same;
      room = omega (arith, c.in-Ok.ensures.room, c.loop-taken.invariant.room);
      front = (
        f.0 ++ p.0 ∷ [],
        texts_add t n words ∙ ap (λ ws. ws ++ texts (take n (drop t words))) f.1 ∙ ap (λ ws. flat_map words_of f.0 ++ texts (take n ws)) (sym left)
            ∙ ap (λ ws. flat_map words_of f.0 ++ ws) p.3 ∙ sym (words_push f.0 p.0),
        pieces_push ps [] f.0 p.0 f.2 p.1 (subst (λ (qs : List Parameter). StepsFollow qs (flat_map steps_of_piece f.0) (steps_of_piece p.0)) same p.2),
        subst (λ (qs : List Parameter). HasRead qs (flat_map steps_of_piece (f.0 ++ p.0 ∷ [])) c.read_piece.new.progress) same
            (subst (λ b. HasRead c.in_ok-plan.plan.parameters.now b c.read_piece.new.progress) (sym (flat_push f.0 p.0)) p.4),
      );
    }

pub returns-in-Err-clause-err : goal.returns-in-Err-clause-err
returns-in-Err-clause-err c =
    let ps = c.args.parameters.now in
    let words = c.args.words.now in
    let t = c.loop-taken.taken in
    let f = c.loop-taken.invariant.front in
    let same : c.in_ok-plan.plan.parameters.now ≡ ps = c.in_ok-plan.ensures.same in
    IfSome_then (tail_cause_of c.in-Err.e) c.in-Err.ensures.err
    (λ cause p. record {
      pieces = f.0;
      rest = texts (drop t words);
      whole = texts_cut t words ∙ ap (λ ws. ws ++ texts (drop t words)) f.1;
      reads = f.2;
      bad = subst (λ (qs : List Parameter). BadOption qs (flat_map steps_of_piece f.0) (texts (drop t words)) cause) same
          (subst (λ ws. BadOption c.in_ok-plan.plan.parameters.now (flat_map steps_of_piece f.0) (texts ws) cause) c.after.ensures
          (p (flat_map steps_of_piece f.0) (subst (λ (qs : List Parameter). HasRead qs (flat_map steps_of_piece f.0) c.loop-taken.progress) (sym same) f.3)));
    })

pub returns-clause-tail : goal.returns-clause-tail
returns-clause-tail c =
    let ps = c.args.parameters.now in
    let words = c.args.words.now in
    let t = c.loop-taken.taken in
    let f = c.loop-taken.invariant.front in
    let same : c.in_ok-plan.plan.parameters.now ≡ ps = c.in_ok-plan.ensures.same in
    let steps = flat_map steps_of_piece f.0 in
    let reader = c.loop-taken.progress in
    let read = tail_read ps words t f.0 reader f.1 f.2 f.3 in
    let alike = tail_alike ps (texts (take t words)) (texts (drop t words)) reader c.loop-taken-test.progress in
    elim c.loop-taken-test.branch [
      | else-loop-taken-test w ↦ alike w.progress-is (read (ends_at_end ps steps words t w.loop-taken-test.false))
      | then-loop-taken-test+in-Ok-eq0 w ↦
          let stands = subst (λ (qs : List Parameter). HasRead qs steps reader) (sym same) f.3 in
          let ended = w.in-Ok-eq0.ensures.ended w.in-Ok-eq0.field-0-test steps stands in
          let ends = subst (λ ws. Ends c.in_ok-plan.plan.parameters.now steps (texts ws)) w.after.ensures ended.0 in
          alike (w.progress-is ∙ ended.1) (read (subst (λ (qs : List Parameter). Ends qs steps (texts (drop t words))) same ends))
    ]
