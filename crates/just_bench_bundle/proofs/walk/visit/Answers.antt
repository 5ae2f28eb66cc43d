use Rattle.std.proofs.Common.{◌≡◌, ◌∙◌, ap, sym}
use Rattle.just_ast_items.specs.Edge.{edge_of}
use Rattle.just_bench_bundle.proofs.Links.{led_to}
use Rattle.just_bench_bundle.proofs.Walking.{walks_by}
use Rattle.just_loader.specs.Links.{Link, To, edge_link}
use Rattle.just_bench_bundle.proofs.walk.visit.Goals as goal

pub returns-in_ok-find-in-To-clause-walks : goal.returns-in_ok-find-in-To-clause-walks
returns-in_ok-find-in-To-clause-walks c =
    let led : Link = edge_link c.args.sources.now c.args.config.now.home c.args.folder.now (edge_of c.args.item.now) in
    let to : led ≡ To c.in-To.path = led_to led c.in-To.path (sym c.in-To.is ∙ c.in_ok-follow.ensures) in
    walks_by (λ found. c.as_str.result.now ≡ found) (λ path. led ≡ To path) c.args.walk.now c.find.new.self c.in_ok-find-in-To.ensures.walks (λ found is. to ∙ ap To (sym c.as_str.ensures ∙ is))
