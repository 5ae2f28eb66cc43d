use Rattle.std.proofs.Common.{arith, rules, ◌≡◌, ◌≢◌, ◌+◌, ◌∷◌, [], length, inl, inr, ap, sym, subst, ◌∙◌}
use Rattle.std.proofs.lemmas.Grind.{common_steps}
use Rattle.std.proofs.lemmas.List.{nil_from_length}
use Rattle.std.specs.Str.Iter.{split_inclusive_text, split_inclusive_pattern}
use Rattle.std.specs.Str.Pattern.{EndsAtFirstMatch, FindsText}
use Rattle.just_bench_bundle.specs.Bundle.{HasBadPath, line_ends, mark}
use Rattle.just_bench_bundle.proofs.Parts.{Taken, cut, taken, taken_none, stripped, marked_end, bad_end, bad_part, bad_result, holds_none}
use Rattle.just_bench_bundle.proofs.bundle.read_sources.Goals.{then-is_empty-2-via-then-is_empty-2, then-is_empty-2-via-else-is_empty-2+then-ends_with}
use Rattle.just_bench_bundle.proofs.bundle.read_sources.Goals as goal

pub returns-then-is_empty-clause-files : goal.returns-then-is_empty-clause-files
returns-then-is_empty-clause-files c = holds_none c.args.text.now c.new-sources.result (nil_from_length c.args.text.now (grind (arith, common_steps))) c.new-sources.ensures

pub returns-then-is_empty-2-clause-fault : goal.returns-then-is_empty-2-clause-fault
returns-then-is_empty-2-clause-fault c =
    let is = stripped c.args.text.now c.in-Some.files.now c.in-Some.ensures.cases in
    let bad : HasBadPath c.args.text.now (line_ends c.args.text.now + 1) [] =
    elim c.then-is_empty-2.branch [
      | then-is_empty-2-via-then-is_empty-2 w ↦ bad_end c.args.text.now c.in-Some.files.now is (inl (nil_from_length c.in-Some.files.now (grind (arith, common_steps))))
      | then-is_empty-2-via-else-is_empty-2+then-ends_with w ↦ bad_end c.args.text.now c.in-Some.files.now is (inr (marked_end c.in-Some.files.now w.if-ends_with.ensures.cases))
    ] in
    subst (HasBadPath c.args.text.now (c.line_ends.result + 1)) (sym c.new.ensures) (subst (λ n. HasBadPath c.args.text.now (n + 1) []) (sym c.line_ends.ensures) bad)

pub loop-part-init : goal.loop-part-init
loop-part-init c =
    let same : c.into_iter-part-iterator.result ≡ c.split_inclusive-part-items.result = c.into_iter-part-iterator.ensures.into_iter_gives in
    let left : split_inclusive_text c.into_iter-part-iterator.result ≡ c.in-Some.files.now = ap split_inclusive_text same ∙ c.split_inclusive-part-items.ensures.text in
    let pattern : (split_inclusive_pattern c.into_iter-part-iterator.result).now ≡ 10 ∷ mark = grind (arith, common_steps, same, c.split_inclusive-part-items.ensures.pattern) in
    let some : c.in-Some.files.now ≢ [] = λ e. let none : length c.in-Some.files.now ≡ 0 = ap length e in grind (arith, common_steps) in
    let begun = taken_none c.args.text.now c.in-Some.files.now (stripped c.args.text.now c.in-Some.files.now c.in-Some.ensures.cases) some c.if-ends_with.ensures.cases in
    record {
      pattern = pattern;
      taken = subst (λ r. Taken c.args.text.now r 1 c.new-sources.result) (sym left) (subst (Taken c.args.text.now c.in-Some.files.now 1) (sym c.new-sources.ensures) begun);
    }

pub loop-part-preserved : goal.loop-part-preserved
loop-part-preserved c =
    let s = split_inclusive_text c.loop-part.part-iterator in
    let x = c.in-Some-part.part.now in
    let t = split_inclusive_text c.next.new.self in
    let steps = c.in-Some-part.ensures.steps in
    let here = cut s x t steps.1.0 (subst (λ n. EndsAtFirstMatch (FindsText n) s x) c.loop-part.invariant.pattern steps.1.1) in
    record {
      pattern = steps.0 ∙ c.loop-part.invariant.pattern;
      taken = subst (λ n. Taken c.args.text.now t (c.loop-part.line + n) c.insert_file.new.sources) (sym c.line_ends-line.ensures)
          (taken c.args.text.now s x t c.without_next_mark.result.now c.loop-part.line c.loop-part.sources c.insert_file.new.sources
          c.loop-part.invariant.taken steps.1.0 here c.without_next_mark.ensures.followed c.without_next_mark.ensures.last c.in_ok-insert_file.ensures.held);
    }

pub returns-in_err-insert_file-clause-fault : goal.returns-in_err-insert_file-clause-fault
returns-in_err-insert_file-clause-fault c =
    let s = split_inclusive_text c.loop-part.part-iterator in
    let x = c.in-Some-part.part.now in
    let t = split_inclusive_text c.next.new.self in
    let steps = c.in-Some-part.ensures.steps in
    let here = cut s x t steps.1.0 (subst (λ n. EndsAtFirstMatch (FindsText n) s x) c.loop-part.invariant.pattern steps.1.1) in
    bad_result c.from_residual.result c.loop-part.line c.without_next_mark.result.now c.args.text.now (search rules)
    (bad_part c.args.text.now s x t c.without_next_mark.result.now c.loop-part.line c.loop-part.sources c.loop-part.invariant.taken steps.1.0 here c.without_next_mark.ensures.followed c.without_next_mark.ensures.last)
