use Rattle.std.proofs.Common.{rules, ◌≡◌, false}
use Rattle.std.specs.Str.{bytes_eq}
use Rattle.just_bench_bundle.proofs.Taking.{none_more}
use Rattle.just_bench_bundle.proofs.places.path_in.Goals as goal

pub loop-other-preserved : goal.loop-other-preserved
loop-other-preserved c =
    let differs : bytes_eq c.in-Some.other.now.now c.args.path.now ≡ false = search rules in
    none_more c.loop-other.yielded c.in-Some.other c.args.path.now c.loop-other.invariant differs
