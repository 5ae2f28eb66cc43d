use Rattle.std.proofs.Common.{rules, Some, None, length, refl, sym}
use Rattle.std.proofs.lemmas.Option.{slice_get_past, slice_get_read}
use Rattle.just_tail.specs.loops.Reader.{switch_of}
use Rattle.just_tail.proofs.Places.{found_at}
use Rattle.just_tail.proofs.plan.Plan.option.Goals as goal

pub returns-in-Some-clause-found : goal.returns-in-Some-clause-found
returns-in-Some-clause-found c =
    let ps = c.args.self.now.parameters.now in
    let j = c.in_ok-place.place in
    let look = c.in-Some.ensures.lookup in
    found_at ps (switch_of c.args.switch) j (Some c.in-Some.parameter.now) (search rules) (sym (slice_get_read ps (length ps) j c.in-Some.parameter.now refl look.3.0 look.1))

pub returns-in-None-clause-found : goal.returns-in-None-clause-found
returns-in-None-clause-found c =
    let ps = c.args.self.now.parameters.now in
    let j = c.in_ok-place.place in
    found_at ps (switch_of c.args.switch) j None (search rules) (sym (slice_get_past ps j c.in-None.ensures.lookup.3))
