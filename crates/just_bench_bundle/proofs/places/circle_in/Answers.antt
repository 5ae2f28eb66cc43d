use Rattle.std.proofs.Common.{Some, None, map, subst}
use Rattle.std.specs.Prelude.{IfNone, IfSome}
use Rattle.just_bench_bundle.specs.loops.Places.{HasItems}
use Rattle.just_bench_bundle.proofs.Standing.{finds_ok, none_in}
use Rattle.just_loader.specs.Links.{To}
use Rattle.just_parts.specs.Bare.{bare_item}
use Rattle.just_parts.specs.Items.{Ast}
use Rattle.just_paths.specs.Clean.{IsClean}
use Rattle.just_bench_bundle.proofs.places.circle_in.Goals as goal

pub returns-in-Some : goal.returns-in-Some
returns-in-Some c =
    let said = subst (λ found. IfSome found (λ (ast : Ast). HasItems c.args.sources.now c.args.root.now c.args.path.now (Some (map bare_item ast.items)))) c.in-Some.is c.in_ok-ast.ensures.items in
    finds_ok c.args.sources.now c.args.config.now c.args.root.now c.args.path.now c.in-Some.ast.items said c.circle_line.result c.as_slice.result.now c.folder_of.result.now (To c.args.import.now) c.as_slice.ensures c.folder_of.ensures c.circle_line.ensures

pub returns-in-None : goal.returns-in-None
returns-in-None c = λ clean.
    let none = subst (λ found. IfNone found (IsClean c.args.path.now → HasItems c.args.sources.now c.args.root.now c.args.path.now None)) c.in-None.is c.in_ok-ast.ensures.none in
    none_in c.args.sources.now c.args.config.now c.args.root.now c.args.path.now (none clean) (To c.args.import.now)
