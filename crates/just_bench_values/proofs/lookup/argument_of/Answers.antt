use Rattle.std.proofs.Common.{sym, ◌∙◌, ap, arith}
use Rattle.std.specs.Str.{bytes_eq}
use Rattle.just_bench_values.proofs.Called.{bound_next, bound_short}
use Rattle.just_bench_values.proofs.lookup.argument_of.Goals as goal

pub returns-then-place-arguments : goal.returns-then-place-arguments
returns-then-place-arguments c =
    sym (bound_short c.args.parameters.now c.args.arguments.now c.loop-place.place c.args.name.now (omega arith)) ∙ c.loop-place.invariant

pub loop-place-preserved : goal.loop-place-preserved
loop-place-preserved c =
    bound_next c.args.parameters.now c.args.arguments.now c.loop-place.place c.index-parameters-place.result c.args.name.now (omega arith) (omega arith)
    (ap (λ t. bytes_eq t c.args.name.now) (sym c.lexeme.ensures) ∙ sym c.eq.ensures ∙ c.if-eq.false) ∙ c.loop-place.invariant
