use Rattle.std.proofs.Common.{Option, Some, Ok, sym, subst}
use Rattle.just_names.specs.Texts.{Text}
use Rattle.just_run_layers.specs.Host.{Answer}
use Rattle.just_run_layers.specs.Interactions.{Return, Log, Question, Interaction, HasTrace, both, log_of}
use Rattle.just_recipe_body.specs.Body.{telling_steps, time_steps}
use Rattle.just_recipe_body.proofs.StepEnds.{took-exit, took-map}
use Rattle.just_recipe_body.proofs.body.ask_time.Goals as goal

abbrev next : Text → Interaction (Option Text)
next time = Return (Some time)

pub returns-in_err-tell_time-in-Some-clause-took : goal.returns-in_err-tell_time-in-Some-clause-took
returns-in_err-tell_time-in-Some-clause-took g c = λ e requests.
    let p : Question → Option Answer = both e (g.H.Host.promised c.args.host.now) in
    let r = c.from_residual.result in
    let old : Log = log_of (g.H.Host.entries c.args.host.now) requests in
    let new : Log = log_of (g.H.Host.entries c.tell_time.new.host) requests in
    subst (λ f. HasTrace p (time_steps f) old new r) (sym c.in-Some.is)
    (took-exit p (telling_steps c.in-Some.format) next old new c.in_err-tell_time-in-Some.field-0.0 r c.from_residual.ensures.1 (c.in_err-tell_time-in-Some.ensures.took e requests))

pub returns-in_ok-tell_time-in-Some-clause-took : goal.returns-in_ok-tell_time-in-Some-clause-took
returns-in_ok-tell_time-in-Some-clause-took g c = λ e requests.
    let p : Question → Option Answer = both e (g.H.Host.promised c.args.host.now) in
    let time : Text = c.in_ok-tell_time-in-Some.field-0 in
    let old : Log = log_of (g.H.Host.entries c.args.host.now) requests in
    let new : Log = log_of (g.H.Host.entries c.tell_time.new.host) requests in
    subst (λ f. HasTrace p (time_steps f) old new (Ok (Some time))) (sym c.in-Some.is)
    (took-map p (telling_steps c.in-Some.format) (λ t. Some t) old new time (c.in_ok-tell_time-in-Some.ensures.took e requests))
