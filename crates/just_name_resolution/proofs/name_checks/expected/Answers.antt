use Rattle.std.proofs.Common.{◌∙◌, ap, Some}
use Rattle.just_parts.specs.Known.{range_with}
use Rattle.just_name_resolution.proofs.name_checks.expected.Goals as goal

pub returns-in-Some : goal.returns-in-Some
returns-in-Some g c =
    (λ i. Some (record { min = c.len-count.ensures i; max = c.len-count.ensures i }))
    ∙ ap (λ f. range_with f ((g.S.Syntax.answers c.args.known.now.syntax.now).builtin c.args.name.now)) c.in-Some.ensures

pub returns-in-None : goal.returns-in-None
returns-in-None g c =
    c.builtin.ensures ∙ ap (λ f. range_with f ((g.S.Syntax.answers c.args.known.now.syntax.now).builtin c.args.name.now)) c.in-None.ensures
