use Rattle.just_bench_bundle.proofs.Taking.{walks_one}
use Rattle.just_bench_bundle.proofs.walk.Walk.find.Goals as goal

pub returns-in_ok-push-clause-walks : goal.returns-in_ok-push-clause-walks
returns-in_ok-push-clause-walks c =
    walks_one c.args.path.now c.args.self.now (record { found = c.push.new.self; left = c.take.new.self }) c.in-Some.path c.in-Some.ensures.same_key c.in_ok-push.ensures.items
    (λ t. c.in-Some.ensures.updates.0 (record { ref_ptr = (0, 0); now = t })) c.in-Some.ensures.len
