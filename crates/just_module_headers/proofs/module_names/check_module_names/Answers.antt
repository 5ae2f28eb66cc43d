use Rattle.std.proofs.Common.{rules, ◌≡◌, ◌<◌, ◌∙◌, ℕ, List, length, slice_index, sym, ap, subst, arith, inl, inr}
use Rattle.std.specs.List.{All}
use Rattle.std.proofs.lemmas.Bool.{cases_lt}
use Rattle.std.proofs.lemmas.Result.{IfErr-weaker}
use Rattle.just_errors.specs.Causes.{Reports}
use Rattle.just_module_contents.specs.Contents.{texts_of_named}
use Rattle.just_module_contents.specs.declared.definitions.Naming.{Naming}
use Rattle.just_errors.proofs.Lifts.{reports_by}
use Rattle.just_names.specs.Index.{AreDifferent}
use Rattle.just_module_headers.specs.Files.{asts_in}
use Rattle.just_module_contents.specs.Named.{naming_by, said_from}
use Rattle.just_module_contents.specs.Rules.{BreaksNamings}
use Rattle.just_module_headers.specs.OfPlaces.{RepeatsNames, namings_of_place}
use Rattle.just_module_headers.proofs.Joining.{row_lent}
use Rattle.just_module_headers.proofs.module_names.check_module_names.Goals as goal

pub module_namings-requires : goal.module_namings-requires
module_namings-requires g c =
    let inside : slice_index c.args.order.now c.loop-place.place-index < length c.args.joined.now.files.items = c.requires.places c.loop-place.place-index 0 (omega arith) in
    let row = row_lent c.args.joined.now.files.items (slice_index c.args.order.now c.loop-place.place-index) c.index.result.now c.as_slice-row.result.now inside c.index.ensures c.as_slice-row.ensures.value in
    subst (λ (xs : List ℕ). All (λ q. q < length c.args.files.now.asts.items) xs) (sym row) (c.requires.files c.loop-place.place-index (omega arith))

pub returns-in_err-check_named-clause-named : goal.returns-in_err-check_named-clause-named
returns-in_err-check_named-clause-named g c =
    let enabled = (g.S.Syntax.answers c.args.syntax.now).enabled in
    let inside : slice_index c.args.order.now c.loop-place.place-index < length c.args.joined.now.files.items = c.requires.places c.loop-place.place-index 0 (omega arith) in
    let row = row_lent c.args.joined.now.files.items (slice_index c.args.order.now c.loop-place.place-index) c.index.result.now c.as_slice-row.result.now inside c.index.ensures c.as_slice-row.ensures.value in
    let names = c.as_slice.ensures.value ∙ c.in_ok-namings.ensures ∙ ap (said_from naming_by enabled (asts_in c.args.files.now)) row in
    IfErr-weaker c.from_residual-in_err-check_named.result (Reports (BreaksNamings c.as_slice.result.now)) _
    (λ e h. reports_by (BreaksNamings (namings_of_place enabled c.args.files.now c.args.joined.now (slice_index c.args.order.now c.loop-place.place-index))) (RepeatsNames enabled c.args.files.now c.args.joined.now c.args.order.now)
    (λ x b. record { at = c.loop-place.place-index; there = omega arith; broken = b }) e (subst (λ (ns : List Naming). Reports (BreaksNamings ns) e) names h))
    (search rules)

pub loop-place-preserved : goal.loop-place-preserved
loop-place-preserved g c = λ k l.
    let enabled = (g.S.Syntax.answers c.args.syntax.now).enabled in
    let inside : slice_index c.args.order.now c.loop-place.place-index < length c.args.joined.now.files.items = c.requires.places c.loop-place.place-index 0 (omega arith) in
    let row = row_lent c.args.joined.now.files.items (slice_index c.args.order.now c.loop-place.place-index) c.index.result.now c.as_slice-row.result.now inside c.index.ensures c.as_slice-row.ensures.value in
    let names = c.as_slice.ensures.value ∙ c.in_ok-namings.ensures ∙ ap (said_from naming_by enabled (asts_in c.args.files.now)) row in
    elim (cases_lt k c.loop-place.place-index) [
      | inl b ↦ c.loop-place.invariant k b
      | inr b ↦
          let same : c.loop-place.place-index ≡ k = omega (arith, l, b) in
          subst (λ i. AreDifferent (texts_of_named (namings_of_place enabled c.args.files.now c.args.joined.now (slice_index c.args.order.now i)))) same
          (subst (λ (ns : List Naming). AreDifferent (texts_of_named ns)) names c.in_ok-check_named.ensures.kept)
    ]

pub returns-clause-kept : goal.returns-clause-kept
returns-clause-kept g c = λ k l. c.loop-place.invariant k (omega (arith, l))
