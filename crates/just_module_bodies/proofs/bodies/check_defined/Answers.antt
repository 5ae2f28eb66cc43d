use Rattle.std.proofs.Common.{◌≡◌, ◌<◌, ◌∙◌, List, ap, length, subst, sym, arith}
use Rattle.std.specs.Prelude.{if◌then◌else◌}
use Rattle.std.proofs.lemmas.Grind.{common_steps}
use Rattle.just_names.specs.Texts.{Text}
use Rattle.just_module_contents.specs.Contents.{all_defined, defined, texts_of_defined}
use Rattle.just_module_contents.specs.Definitions.{recipes_in}
use Rattle.just_names.specs.Index.{NoneRepeats, Repeats}
use Rattle.just_module_contents.proofs.Defining.{bound_of, defined_kept, defined_twice}
use Rattle.just_module_bodies.proofs.bodies.check_defined.Goals.{then-allowed, else-allowed}
use Rattle.just_module_bodies.proofs.bodies.check_defined.Goals as goal

pub returns-in-None-clause-kept : goal.returns-in-None-clause-kept
returns-in-None-clause-kept c =
    let ns = c.args.definitions.now.named.items in
    let rs = recipes_in c.args.definitions.now in
    let texts = texts_of_defined (all_defined ns rs) in
    let made : c.as_slice.result.now ≡ texts = c.as_slice.ensures.value ∙ c.in_ok-names.ensures in
    let bound : c.if-allowed.bound ≡ bound_of ns rs c.args.allowed = elim c.if-allowed.branch [
      | then-allowed w ↦ (let many : c.len-named.result ≡ length ns = grind (arith, common_steps) in w.bound-is ∙ many ∙ ap (λ b. if b then length ns else length texts) (sym w.if-allowed.true))
      | else-allowed w ↦ (let many : w.len-bound.result ≡ length c.in_ok-names.names.items = grind (arith, common_steps) in w.bound-is ∙ many ∙ ap (λ (ts : List Text). length ts) c.in_ok-names.ensures ∙ ap (λ b. if b then length ns else length texts) (sym w.if-allowed.false))
    ] in
    let none : NoneRepeats c.as_slice.result.now (length c.as_slice.result.now) c.if-allowed.bound = rw c.in-None.is at c.in_ok-repeated_below.ensures.none in
    defined_kept ns rs c.args.allowed c.if-allowed.bound bound (subst (λ (ts : List Text). NoneRepeats ts (length ts) c.if-allowed.bound) made none)

pub returns-clause-named : goal.returns-clause-named
returns-clause-named c =
    let ns = c.args.definitions.now.named.items in
    let rs = recipes_in c.args.definitions.now in
    let texts = texts_of_defined (all_defined ns rs) in
    let made : c.as_slice.result.now ≡ texts = c.as_slice.ensures.value ∙ c.in_ok-names.ensures in
    let bound : c.if-allowed.bound ≡ bound_of ns rs c.args.allowed = elim c.if-allowed.branch [
      | then-allowed w ↦ (let many : c.len-named.result ≡ length ns = grind (arith, common_steps) in w.bound-is ∙ many ∙ ap (λ b. if b then length ns else length texts) (sym w.if-allowed.true))
      | else-allowed w ↦ (let many : w.len-bound.result ≡ length c.in_ok-names.names.items = grind (arith, common_steps) in w.bound-is ∙ many ∙ ap (λ (ts : List Text). length ts) c.in_ok-names.ensures ∙ ap (λ b. if b then length ns else length texts) (sym w.if-allowed.false))
    ] in
    let repeats : Repeats c.as_slice.result.now c.in-Some.first c.in-Some.second = rw c.in-Some.is at c.in_ok-repeated_below.ensures.repeated in
    let below : c.in-Some.first < c.if-allowed.bound = rw c.in-Some.is at c.in_ok-repeated_below.ensures.below in
    defined_twice ns rs c.args.allowed c.in-Some.first c.in-Some.second c.if-allowed.bound (defined c.defined_at-first.result.0 c.defined_at-first.result.1.now) (defined c.defined_at-second.result.0 c.defined_at-second.result.1.now)
    c.redefinition.result.token c.redefinition.result.kind bound below (subst (λ (ts : List Text). Repeats ts c.in-Some.first c.in-Some.second) made repeats) c.defined_at-first.ensures c.defined_at-second.ensures c.redefinition.ensures
