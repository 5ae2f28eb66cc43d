use Rattle.std.proofs.Common.{ℕ, ◌∙◌, Ok, inr, refl, sym, subst}
use Rattle.std.specs.Borrow.{Bor}
use Rattle.std.specs.HashSet as bag
use Rattle.std.specs.List.{Contains}
use Rattle.std.specs.Str.{bytes_eq}
use Rattle.std.proofs.lemmas.Iterator.Adapters.{fact_from_collect}
use Rattle.std.proofs.lemmas.Iterator.Consumers.{YieldsList-at, YieldsList-from_copied, YieldsList-from_rest}
use Rattle.just_names.specs.Texts.{Text}
use Rattle.just_bench_bundle.proofs.Taking.{member_is}
use Rattle.just_bench_bundle.proofs.walk.Walk.new.Goals as goal

pub returns-clause-all : goal.returns-clause-all
returns-clause-all c = λ path key.
    let made : bag.IsFromIterResult (λ (x y : Bor Text). bytes_eq x.now y.now) c.paths.result c.in_ok-left.left =
    fact_from_collect {E = ℕ} (bag.IsFromIterResult (λ (x y : Bor Text). bytes_eq x.now y.now)) (Ok c.in_ok-left.left) c.in_ok-left.ensures.ran (YieldsList-from_copied (YieldsList-at c.copied.ensures.source (YieldsList-from_rest c.paths.result refl))) in
    inr (made.0 (record { ref_ptr = (0, 0); now = path }) ∙ member_is c.paths.result path (subst (λ ks. Contains ks path) (sym c.paths.ensures.rest) key))
