use Rattle.just_ast_items.specs.Edge.{edge_of}
use Rattle.just_loader.specs.Links.{edge_link}
use Rattle.just_bench_bundle.proofs.leads.follow.Goals as goal

pub returns-in-Err : goal.returns-in-Err
returns-in-Err c =
    c.fault-lead.ensures (edge_link c.args.sources.now c.args.config.now.home c.args.folder.now (edge_of c.args.item.now)) c.in-Err.ensures.error
