use Rattle.std.proofs.Common.{◌≡◌, IfErr, map, rules, subst}
use Rattle.just_errors.specs.Causes.{Reports}
use Rattle.just_errors.proofs.Lifts.{lifted}
use Rattle.just_loader.specs.Links.{AtFault, link_in}
use Rattle.just_loader.specs.loops.Links.{links_by}
use Rattle.just_loader.specs.loops.Numbering.{paths_of}
use Rattle.just_loader.specs.loops.Scanned.{FindsAll, HasFault}
use Rattle.just_loader.proofs.Scanning.{fault_among, targets_step}
use Rattle.just_loader.proofs.scan.targets.Goals as goal

pub loop-item-preserved : goal.loop-item-preserved
loop-item-preserved g c =
    let both = targets_step (link_in c.args.sources.now c.args.config.now.home ((g.S.Syntax.answers c.args.syntax.now).enabled) c.args.folder.now) c.as_slice-items.result.now c.loop-item.item-index c.item-item.result
    (paths_of c.args.found.now.files.items) (paths_of c.loop-item.found.files.items) (paths_of c.target.new.found.files.items) c.loop-item.targets.items c.push.new.self.items c.in_ok-target.field-0 c.loop-item-test.true c.item-item.is
    c.loop-item.invariant.places c.loop-item.invariant.grows c.in_ok-target.ensures.place c.in_ok-target.ensures.grows c.in_ok-push.ensures.items in
    record { places = both.0; grows = both.1; found = c.in_ok-target.ensures.found }

pub returns-clause-grows : goal.returns-clause-grows
returns-clause-grows g c =
    subst (λ items. FindsAll (links_by c.args.sources.now c.args.config.now (g.S.Syntax.answers c.args.syntax.now) c.args.folder.now items) c.args.found.now c.loop-item.found) c.as_slice-items.ensures c.loop-item.invariant.grows

pub returns-in_err-target-clause-error : goal.returns-in_err-target-clause-error
returns-in_err-target-clause-error g c =
    let L = link_in c.args.sources.now c.args.config.now.home ((g.S.Syntax.answers c.args.syntax.now).enabled) c.args.folder.now in
    let items = c.as_slice-items.result.now in
    subst (λ all. IfErr c.from_residual.result (Reports (HasFault (map L all)))) c.as_slice-items.ensures
    (lifted (λ cause. L c.item-item.result ≡ AtFault cause) (HasFault (map L items))
    (fault_among L items c.loop-item.item-index c.item-item.result c.loop-item-test.true c.item-item.is) c.from_residual.result (search rules))
