use Rattle.std.proofs.Common.{◌≡◌, ◌∙◌, List, [], ◌∷◌, ◌++◌, Bor, ap, arith, length, subst, sym}
use Rattle.std.proofs.lemmas.Result.{IfOk-from_err}
use Rattle.just_ast_expressions.specs.declared.expression.Expression.{Expression}
use Rattle.just_ast_references.specs.Parts.{waiting}
use Rattle.just_ast_references.proofs.Stack.{walk_ends}
use Rattle.just_name_resolution.specs.loops.Nodes.{LeadsBack}
use Rattle.just_name_resolution.proofs.Nodes.{leads_on}
use Rattle.just_name_resolution.proofs.numbers.nodes.Goals as goal

starts : (found stack pushed : List (Bor Expression)) (whole : Bor Expression) → found ≡ [] → stack ≡ [] → pushed ≡ stack ++ whole ∷ [] →
    LeadsBack whole.now (waiting found) (waiting pushed)
starts found stack pushed whole none empty push =
    subst (λ f. LeadsBack whole.now (waiting f) (waiting pushed)) (sym none) (ap waiting (push ∙ ap (λ s. s ++ whole ∷ []) empty))

ends : (whole : Expression) (found stack : List (Bor Expression)) → length stack ≡ 0 → LeadsBack whole (waiting found) (waiting stack) →
    LeadsBack whole (waiting found) []
ends whole found [] none back = back
ends whole found (next ∷ others) none back = absurd (omega (arith, none))

pub returns-in_err-push : goal.returns-in_err-push
returns-in_err-push c = IfOk-from_err c.from_residual.result _ c.from_residual.ensures.0

pub loop-next-init : goal.loop-next-init
loop-next-init c =
    starts c.new-found.result.items c.new-stack.result.items c.push.new.self.items c.args.expression
    c.new-found.ensures.items c.new-stack.ensures.items c.in_ok-push.ensures.items

pub returns-in_err-push-2 : goal.returns-in_err-push-2
returns-in_err-push-2 c = IfOk-from_err c.from_residual-in_err-push-2.result _ c.from_residual-in_err-push-2.ensures.0

pub returns-in_err-push_parts : goal.returns-in_err-push_parts
returns-in_err-push_parts c = IfOk-from_err c.from_residual-in_err-push_parts.result _ c.from_residual-in_err-push_parts.ensures.0

pub loop-next-preserved : goal.loop-next-preserved
loop-next-preserved c =
    leads_on c.args.expression.now c.loop-next.found.items c.push-in-Some.new.self.items c.loop-next.stack.items c.pop.new.self.items c.push_parts.new.stack.items c.in-Some.next
    c.in-Some.ensures.items c.in_ok-push-2.ensures.items c.in_ok-push_parts.ensures c.loop-next.invariant

pub loop-next-smaller : goal.loop-next-smaller
loop-next-smaller c =
    walk_ends c.loop-next.stack.items c.pop.new.self.items c.push_parts.new.stack.items c.in-Some.next c.in-Some.ensures.items c.in_ok-push_parts.ensures

pub returns : goal.returns
returns c =
    ends c.args.expression.now c.loop-next.found.items c.loop-next.stack.items (sym c.loop-next.stack.ok.0 ∙ c.in_default.ensures.cases.0) c.loop-next.invariant
