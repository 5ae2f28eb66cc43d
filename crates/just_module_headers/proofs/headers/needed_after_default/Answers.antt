use Rattle.std.proofs.Common.{◌≡◌, ◌+◌, ◌<◌, ◌∙◌, length, true, sym, subst, arith}
use Rattle.std.proofs.lemmas.Bool.{false≢true}
use Rattle.just_module_contents.specs.Recipes.{is_needed}
use Rattle.just_module_headers.proofs.Following.{Passed, passed_all, passed_by, passed_on}
use Rattle.just_module_headers.proofs.headers.needed_after_default.Goals as goal
use Rattle.just_module_headers.proofs.headers.needed_after_default.Goals.{else-passed-via-then-passed+else-is_needed, else-passed-via-else-passed, then-is_defaulted, else-is_defaulted}

pub loop-place-preserved : goal.loop-place-preserved
loop-place-preserved c =
    let inside : c.loop-place.place < length c.args.parameters.now = omega arith in
    let fits : c.loop-place.passed ≡ true → is_needed c.index-parameters-place.result ≡ true → ⊥ = λ passed needed. elim c.else-passed.branch as (λ _. ⊥) [
      | else-passed-via-then-passed+else-is_needed w ↦ false≢true (sym w.if-is_needed.false ∙ w.is_needed.ensures ∙ needed)
      | else-passed-via-else-passed w ↦ false≢true (sym w.if-passed.false ∙ passed)
    ] in
    elim c.if-is_defaulted.branch [
      | then-is_defaulted w ↦ subst (Passed c.args.parameters.now (c.loop-place.place + 1)) (sym w.passed-is)
          (passed_on c.args.parameters.now c.loop-place.place c.loop-place.passed c.index-parameters-place.result c.loop-place.invariant c.index-parameters-place.is inside fits (sym c.is_defaulted.ensures ∙ w.if-is_defaulted.true))
      | else-is_defaulted w ↦ subst (Passed c.args.parameters.now (c.loop-place.place + 1)) (sym w.passed-is)
          (passed_by c.args.parameters.now c.loop-place.place c.loop-place.passed c.index-parameters-place.result c.loop-place.invariant c.index-parameters-place.is inside fits (sym c.is_defaulted.ensures ∙ w.if-is_defaulted.false))
    ]

pub returns-clause-none : goal.returns-clause-none
returns-clause-none c = passed_all c.args.parameters.now c.loop-place.place c.loop-place.passed c.loop-place.invariant (omega arith)
