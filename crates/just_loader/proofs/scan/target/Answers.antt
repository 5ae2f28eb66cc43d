use Rattle.std.proofs.Common.{◌∙◌, ap, subst, sym}
use Rattle.just_loader.specs.Links.{linked}
use Rattle.just_loader.proofs.There.{IsThere, link_there}
use Rattle.just_loader.proofs.scan.target.Goals as goal

pub place-requires-clause-there : goal.place-requires-clause-there
place-requires-clause-there g c =
    subst (IsThere c.args.sources.now) (sym c.as_str.ensures)
    (link_there c.args.sources.now c.args.config.now.home ((g.S.Syntax.answers c.args.syntax.now).enabled) c.args.folder.now c.args.item.now c.in-Some.path (c.in_ok-path.ensures.path ∙ ap linked c.in-Some.is))
