use Rattle.std.proofs.Common.{Some, None, map, subst}
use Rattle.std.specs.Prelude.{IfNone, IfSome}
use Rattle.just_bench_bundle.specs.loops.Places.{HasItems}
use Rattle.just_bench_bundle.proofs.Standing.{finds_ok, leads_nowhere, none_in}
use Rattle.just_bench_bundle.proofs.Walking.{leaves_file, walks_file}
use Rattle.just_errors.specs.Causes.{NoHome}
use Rattle.just_loader.specs.Links.{AtFault}
use Rattle.just_parts.specs.Bare.{bare_item}
use Rattle.just_parts.specs.Items.{Ast}
use Rattle.just_paths.specs.Clean.{IsClean}
use Rattle.just_bench_bundle.proofs.walk.visit_file.Goals as goal

pub returns-in-Some-clause-line : goal.returns-in-Some-clause-line
returns-in-Some-clause-line c =
    let said = subst (λ found. IfSome found (λ (ast : Ast). HasItems c.args.sources.now c.args.root.now c.args.path.now (Some (map bare_item ast.items)))) c.in-Some.is c.in_ok-ast.ensures.items in
    finds_ok c.args.sources.now c.args.config.now c.args.root.now c.args.path.now c.in-Some.ast.items said c.visit_items.result c.as_slice.result.now c.folder_of.result.now (AtFault NoHome) c.as_slice.ensures c.folder_of.ensures c.visit_items.ensures.line

pub returns-in-Some-clause-walks : goal.returns-in-Some-clause-walks
returns-in-Some-clause-walks c =
    let said = subst (λ found. IfSome found (λ (ast : Ast). HasItems c.args.sources.now c.args.root.now c.args.path.now (Some (map bare_item ast.items)))) c.in-Some.is c.in_ok-ast.ensures.items in
    walks_file c.args.sources.now c.args.config.now c.args.root.now c.args.path.now c.in-Some.ast.items said c.visit_items.result c.as_slice.result.now c.folder_of.result.now c.args.walk.now c.visit_items.new.walk c.as_slice.ensures c.folder_of.ensures
    c.visit_items.ensures.walks

pub returns-in-Some-clause-found : goal.returns-in-Some-clause-found
returns-in-Some-clause-found c =
    let said = subst (λ found. IfSome found (λ (ast : Ast). HasItems c.args.sources.now c.args.root.now c.args.path.now (Some (map bare_item ast.items)))) c.in-Some.is c.in_ok-ast.ensures.items in
    leaves_file c.args.sources.now c.args.config.now c.args.root.now c.args.path.now c.in-Some.ast.items said c.visit_items.result c.as_slice.result.now c.folder_of.result.now c.visit_items.new.walk c.as_slice.ensures c.folder_of.ensures
    c.visit_items.ensures.found

pub returns-in-None-clause-line : goal.returns-in-None-clause-line
returns-in-None-clause-line c = λ clean.
    let none = subst (λ found. IfNone found (IsClean c.args.path.now → HasItems c.args.sources.now c.args.root.now c.args.path.now None)) c.in-None.is c.in_ok-ast.ensures.none in
    none_in c.args.sources.now c.args.config.now c.args.root.now c.args.path.now (none clean) (AtFault NoHome)

pub returns-in-None-clause-found : goal.returns-in-None-clause-found
returns-in-None-clause-found c = λ clean next l left.
    let none = subst (λ found. IfNone found (IsClean c.args.path.now → HasItems c.args.sources.now c.args.root.now c.args.path.now None)) c.in-None.is c.in_ok-ast.ensures.none in
    leads_nowhere c.args.sources.now c.args.config.now c.args.root.now c.args.path.now (none clean) next l
