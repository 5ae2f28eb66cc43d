use Rattle.std.proofs.Common.{◌∙◌, sym}
use Rattle.just_module_contents.specs.Definitions.{sets_in}
use Rattle.just_module_contents.proofs.Leave.{allows_here, allows_later}
use Rattle.just_module_headers.proofs.variables.allows_variables.Goals as goal

pub returns-then-is_allowing : goal.returns-then-is_allowing
returns-then-is_allowing c = allows_here (sets_in c.args.definitions.now) c.loop-place.place c.set_at.result.now c.set_at.ensures c.loop-place.invariant (sym c.is_allowing.ensures ∙ c.if-is_allowing.true)

pub loop-place-preserved : goal.loop-place-preserved
loop-place-preserved c = allows_later (sets_in c.args.definitions.now) c.loop-place.place c.set_at.result.now c.set_at.ensures c.loop-place.invariant (sym c.is_allowing.ensures ∙ c.if-is_allowing.false)
