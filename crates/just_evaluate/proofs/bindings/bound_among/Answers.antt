use Rattle.std.proofs.Common.{◌≡◌, ◌∙◌, ◌<◌, ap, length, map, refl, subst, sym}
use Rattle.std.specs.Option.{option_copied}
use Rattle.just_names.specs.Name.{text_of_name}
use Rattle.just_parts.specs.Evaluator.{scope_values}
use Rattle.just_evaluate.specs.loops.Bindings.{bound_behind}
use Rattle.just_evaluate.proofs.Bound.{bound_more, unbound_more}
use Rattle.just_evaluate.proofs.bindings.bound_among.Goals as goal
use Rattle.just_evaluate.proofs.bindings.bound_among.Goals.{in-Some+in_ok-push, in_default}

pub loop-place-preserved : goal.loop-place-preserved
loop-place-preserved c =
    let scope = c.args.scope.now in
    let variables = c.args.variables.now.items in
    let a = c.index-assignment.result.now in
    let found = c.loop-place.found.items in
    let place = c.loop-place.place in
    let within : place < length variables = subst (λ n. place < n) (c.len-place-end.ensures ∙ c.args.variables.now.ok.0) c.loop-place-test.true in
    let key : c.new-name.result ≡ text_of_name a.now.name = c.new-name.ensures ∙ c.lexeme.ensures in
    let value : scope_values scope (text_of_name a.now.name) ≡ option_copied (option_copied c.get.result) =
    ap (scope_values scope) (sym key) ∙ sym (c.in_ok-values.ensures c.new-name.result) ∙ ap option_copied (sym c.get.ensures.value) in
    elim c.match-get.branch [
      | in-Some+in_ok-push w ↦
          ap (λ v. map bound_behind v.items) w.found-is
          ∙ bound_more scope variables place a found within c.index-assignment.ensures c.loop-place.invariant w.push.new.self.items
          (record { assignment = a; value = w.in-Some.value.now }) w.in_ok-push.ensures.items refl (value ∙ ap (λ o. option_copied (option_copied o)) w.in-Some.is)
      | in_default w ↦
          ap (λ v. map bound_behind v.items) w.found-is
          ∙ unbound_more scope variables place a found within c.index-assignment.ensures c.loop-place.invariant (value ∙ ap (λ o. option_copied (option_copied o)) w.in_default.is)
    ]
