use Rattle.std.proofs.Common.{◌≡◌, ◌∙◌, false, length, refl, subst, sym, arith}
use Rattle.std.proofs.lemmas.Option.{slice_get_read}
use Rattle.just_graph.proofs.Index.{some_same}
use Rattle.just_module_contents.specs.Definitions.{sets_in}
use Rattle.just_module_contents.specs.Settings.{excludes}
use Rattle.just_module_headers.proofs.Excluded.{beside_all, beside_more, found_excluded, none_found}
use Rattle.just_module_headers.proofs.settings.check_beside.Goals.{then-first-place+in_ok-check_pair-in-Some, else-first-place}
use Rattle.just_module_headers.proofs.settings.check_beside.Goals as goal

pub loop-keyword-preserved-in-None : goal.loop-keyword-preserved-in-None
loop-keyword-preserved-in-None g c =
    let xs = c.as_slice-keyword-items.result.now in
    let at = slice_get_read xs (length xs) c.loop-keyword.keyword-index c.keyword-item.result refl (omega arith) c.keyword-item.is in
    beside_more (g.S.Syntax.answers c.args.syntax.now).conflicts (sets_in c.args.definitions.now) c.args.place c.set_at.result.now c.set_at.ensures xs (c.as_slice-keyword-items.ensures ∙ c.in_ok-excluded.ensures) c.loop-keyword.keyword-index
    c.keyword-item.result c.keyword-item.result.lexeme _ at refl (c.requires.index c.keyword-item.result.lexeme) c.requires.different (λ j e lt. absurd (none_found _ j (sym c.in-None.ensures.value) e)) c.loop-keyword.invariant

pub check_pair-requires-clause-excluded : goal.check_pair-requires-clause-excluded
check_pair-requires-clause-excluded g c =
    let xs = c.as_slice-keyword-items.result.now in
    let at = slice_get_read xs (length xs) c.loop-keyword.keyword-index c.keyword-item.result refl (omega arith) c.keyword-item.is in
    found_excluded (g.S.Syntax.answers c.args.syntax.now).conflicts (sets_in c.args.definitions.now) c.args.place c.set_at.result.now c.set_at.ensures xs (c.as_slice-keyword-items.ensures ∙ c.in_ok-excluded.ensures) c.loop-keyword.keyword-index
    c.keyword-item.result c.keyword-item.result.lexeme _ at refl (c.requires.index c.keyword-item.result.lexeme) c.in-Some.first.now (sym c.in-Some.ensures.value)

pub loop-keyword-preserved : goal.loop-keyword-preserved
loop-keyword-preserved g c =
    let conflicts = (g.S.Syntax.answers c.args.syntax.now).conflicts in
    let sets = sets_in c.args.definitions.now in
    let xs = c.as_slice-keyword-items.result.now in
    let at = slice_get_read xs (length xs) c.loop-keyword.keyword-index c.keyword-item.result refl (omega arith) c.keyword-item.is in
    beside_more conflicts sets c.args.place c.set_at.result.now c.set_at.ensures xs (c.as_slice-keyword-items.ensures ∙ c.in_ok-excluded.ensures) c.loop-keyword.keyword-index
    c.keyword-item.result c.keyword-item.result.lexeme _ at refl (c.requires.index c.keyword-item.result.lexeme) c.requires.different
    (λ j e lt.
    let same : c.in-Some.first.now ≡ j = some_same (c.in-Some.ensures.value ∙ e) in
    elim c.if-first-place.branch [
      | then-first-place+in_ok-check_pair-in-Some w ↦ subst (λ q. excludes conflicts sets c.args.place q ≡ false) same w.in_ok-check_pair-in-Some.ensures.kept
      | else-first-place w ↦ absurd (omega (arith, lt, same, w.if-first-place.false))
    ]) c.loop-keyword.invariant

pub returns-clause-kept : goal.returns-clause-kept
returns-clause-kept g c =
    let xs = c.as_slice-keyword-items.result.now in
    let all : length xs ≡ c.loop-keyword.keyword-index = omega arith in
    beside_all (g.S.Syntax.answers c.args.syntax.now).conflicts (sets_in c.args.definitions.now) c.args.place c.set_at.result.now c.set_at.ensures xs (c.as_slice-keyword-items.ensures ∙ c.in_ok-excluded.ensures) c.loop-keyword.keyword-index all c.loop-keyword.invariant
