use Rattle.std.proofs.Common.{◌∙◌, ap, arith}
use Rattle.std.proofs.Math.Seq.{map-set_same}
use Rattle.std.proofs.lemmas.List.{length-set, map-append}
use Rattle.just_parts.specs.Bare.{bare_parameter}
use Rattle.just_parts.specs.Syntax.{parameter_numbers}
use Rattle.just_bench_syntax.proofs.Numbers.{numbered_next, numbered_one}
use Rattle.just_bench_syntax.proofs.item_numbers.number_parameters.Goals as goal

pub loop-place-preserved : goal.loop-place-preserved
loop-place-preserved c = record {
  count = length-set c.loop-place.parameters.items c.loop-place.place _ ∙ c.loop-place.invariant.count;
  bare = map-set_same bare_parameter c.loop-place.parameters.items c.loop-place.place _ c.index_mut.result.now (ap bare_parameter c.index_mut.ensures.value)
      ∙ c.loop-place.invariant.bare;
  numbered = numbered_next parameter_numbers (map-append _) c.args.numerator.now c.loop-place.parameters.items c.loop-place.place _ c.loop-place.numerator _
      (omega arith) c.loop-place.invariant.numbered (numbered_one _ _ _ c.in_ok-parameters.ensures.number.0 c.in_ok-parameters.ensures.number.1 c.in_ok-parameters.ensures.fits);
  spent = omega (arith, c.in_ok-parameters.ensures.number.1);
}
