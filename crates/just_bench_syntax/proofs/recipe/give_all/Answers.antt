use Rattle.std.proofs.Common.{◌<◌, ◌∙◌, length, arith}
use Rattle.std.proofs.lemmas.List.{length-set}
use Rattle.just_bench_syntax.specs.Recipe.{with_options}
use Rattle.just_bench_syntax.proofs.InPlace.{half_step}
use Rattle.just_bench_syntax.proofs.recipe.give_all.Goals as goal

pub loop-place-preserved : goal.loop-place-preserved
loop-place-preserved c =
    let within : c.loop-place.place < length c.args.parameters.now.items = omega (arith, c.loop-place-test.true, c.len-place-end.ensures) in
    record {
      count = length-set c.loop-place.parameters.items c.loop-place.place c.give_options.new.parameter ∙ c.loop-place.invariant.count;
      given = half_step (with_options c.args.spoken.now) c.args.parameters.now.items c.loop-place.parameters.items c.loop-place.place c.index_mut.result.now c.give_options.new.parameter
          c.loop-place.invariant.given within c.index_mut.ensures.value c.in_ok-give_options.ensures;
    }
