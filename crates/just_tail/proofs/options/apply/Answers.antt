use Rattle.std.proofs.Common.{rules, [], refl, sym, ap, subst}
use Rattle.just_tail.specs.loops.Words.{value_text}
use Rattle.just_tail.specs.Pieces.{nothing, equals, next}
use Rattle.just_tail.specs.Steps.{asks, FitsNeed}
use Rattle.just_tail.specs.loops.Reader.{switch_of}
use Rattle.just_tail.proofs.OptionLemmas.{used}
use Rattle.just_tail.proofs.options.apply.Goals as goal

pub returns-then-takes_nothing-clause-ok : goal.returns-then-takes_nothing-clause-ok
returns-then-takes_nothing-clause-ok c = λ before stands.
    let fits : FitsNeed (asks c.in_ok-place.takes_nothing) nothing = subst (λ b. FitsNeed (asks b) nothing) (sym c.if-takes_nothing.true) tt in
    let u = used c.args.plan.now.parameters.now before (switch_of c.args.switch) nothing c.in_ok-place.takes_nothing c.args.progress.now
    (record { opened = c.args.progress.now.opened; placed = c.args.progress.now.placed; groups = c.push_at.new.groups })
    c.in_ok-place.place [] (c.in_ok-place.ensures.ok before stands) fits c.in_ok-place.ensures.place refl c.in_ok-place.ensures.within stands refl refl c.in_ok-push_at.ensures in
    (nothing, search rules, refl, u.0, u.1)

pub returns-in-Some-clause-ok : goal.returns-in-Some-clause-ok
returns-in-Some-clause-ok c = λ before stands.
    let fits : FitsNeed (asks c.in_ok-place.takes_nothing) (equals c.in-Some.text.now) = subst (λ b. FitsNeed (asks b) (equals c.in-Some.text.now)) (sym c.if-takes_nothing.false) tt in
    let u = used c.args.plan.now.parameters.now before (switch_of c.args.switch) (equals c.in-Some.text.now) c.in_ok-place.takes_nothing c.args.progress.now
    (record { opened = c.args.progress.now.opened; placed = c.args.progress.now.placed; groups = c.push_at-in-Some.new.groups })
    c.in_ok-place.place c.in-Some.text.now (c.in_ok-place.ensures.ok before stands) fits c.in_ok-place.ensures.place refl c.in_ok-place.ensures.within stands refl refl c.in_ok-push_at-2.ensures in
    (equals c.in-Some.text.now, sym (ap value_text c.in-Some.is), refl, u.0, u.1)

pub returns-in_ok-push_at-in-Some-first_word-clause-ok : goal.returns-in_ok-push_at-in-Some-first_word-clause-ok
returns-in_ok-push_at-in-Some-first_word-clause-ok c = λ before stands.
    let w = c.in-Some-first_word.word.now in
    let fits : FitsNeed (asks c.in_ok-place.takes_nothing) (next w) = subst (λ b. FitsNeed (asks b) (next w)) (sym c.if-takes_nothing.false) tt in
    let u = used c.args.plan.now.parameters.now before (switch_of c.args.switch) (next w) c.in_ok-place.takes_nothing c.args.progress.now
    (record { opened = c.args.progress.now.opened; placed = c.args.progress.now.placed; groups = c.push_at-in-Some-first_word.new.groups })
    c.in_ok-place.place w (c.in_ok-place.ensures.ok before stands) fits c.in_ok-place.ensures.place refl c.in_ok-place.ensures.within stands refl refl
    c.in_ok-push_at-in-Some-first_word.ensures in
    (next w, search rules, sym c.in-Some-first_word.ensures.0, u.0, u.1)
