use Rattle.std.proofs.Common.{◌∙◌, ap, sym}
use Rattle.just_bench_syntax.specs.Sigils.{leading}
use Rattle.just_bench_syntax.proofs.Distinct.{Begun-all, Begun-again, Begun-more, Begun-none, Begun-other, stands}
use Rattle.just_bench_syntax.proofs.sigils.sigils.Goals as goal
use Rattle.just_bench_syntax.proofs.sigils.sigils.Goals.{else-loop-byte-test, then-loop-byte-test+in_default, then-loop-byte-test+in-Some+then-contains}

pub loop-byte-init : goal.loop-byte-init
loop-byte-init c = rw c.new-found.ensures (Begun-none c.as_bytes-byte-items.result.now)

pub loop-byte-preserved : goal.loop-byte-preserved
loop-byte-preserved c =
    Begun-more c.as_bytes-byte-items.result.now c.loop-byte.byte-index c.loop-byte.found c.loop-byte-test.true c.loop-byte.invariant c.in-Some.next
    (sym c.sigil.ensures ∙ c.in-Some.is) c.push.new.self (ap (λ xs. stands xs c.in-Some.next) (sym c.as_slice.ensures) ∙ sym c.if-contains.ensures.value) c.in_ok-push.ensures.ok

pub returns-clause-are : goal.returns-clause-are
returns-clause-are c = (elim c.loop-byte-test.branch [
  | else-loop-byte-test w ↦ Begun-all c.as_bytes-byte-items.result.now c.loop-byte.byte-index c.loop-byte.found w.loop-byte-test.false c.loop-byte.invariant
  | then-loop-byte-test+in_default w ↦
      Begun-other c.as_bytes-byte-items.result.now c.loop-byte.byte-index c.loop-byte.found w.loop-byte-test.true c.loop-byte.invariant
      (sym w.sigil.ensures ∙ w.in_default.is)
  | then-loop-byte-test+in-Some+then-contains w ↦
      Begun-again c.as_bytes-byte-items.result.now c.loop-byte.byte-index c.loop-byte.found w.loop-byte-test.true c.loop-byte.invariant w.in-Some.next (sym w.sigil.ensures ∙ w.in-Some.is)
      (ap (λ xs. stands xs w.in-Some.next) (sym w.as_slice.ensures) ∙ sym w.if-contains.ensures.value)
]) ∙ ap leading (c.as_bytes-byte-items.ensures.value ∙ c.front.ensures)
