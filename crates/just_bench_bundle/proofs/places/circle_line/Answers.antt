use Rattle.std.proofs.Common.{[]}
use Rattle.just_bench_bundle.proofs.Standing.{none_all, none_more}
use Rattle.just_bench_syntax.specs.Answers.{answers}
use Rattle.just_loader.specs.Links.{To, link_by}
use Rattle.just_bench_bundle.proofs.places.circle_line.Goals as goal

pub loop-item-preserved : goal.loop-item-preserved
loop-item-preserved c =
    none_more c.args.items.now (link_by c.args.sources.now c.args.config.now (answers []) c.args.folder.now) (To c.args.import.now) c.loop-item.item-index c.item-item.result c.in_ok-line.field-0 c.loop-item-test.true c.item-item.is
    c.in_default.is c.loop-item.invariant c.in_ok-line.ensures

pub returns : goal.returns
returns c =
    none_all c.args.items.now (link_by c.args.sources.now c.args.config.now (answers []) c.args.folder.now) (To c.args.import.now) c.loop-item.item-index c.loop-item-test.false c.loop-item.invariant
