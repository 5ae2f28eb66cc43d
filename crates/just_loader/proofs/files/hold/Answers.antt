use Rattle.std.proofs.Common.{◌≡◌, ◌<◌, length, refl, ◌∙◌, arith, rules}
use Rattle.std.specs.HashMap.{get}
use Rattle.std.proofs.lemmas.Grind.{common_steps}
use Rattle.just_parts.specs.Asts.{same_ast_key}
use Rattle.just_loader.proofs.HeldAsts.{held_none, held_next, node_inside}
use Rattle.just_loader.proofs.files.hold.Goals as goal

pub loop-ast-init : goal.loop-ast-init
loop-ast-init c = held_none c.args.scan.now c.args.nodes.now c.args.asts.items c.args.asts.items (get same_ast_key c.new-held.result) refl c.requires.count (λ k. search rules)

pub index-requires : goal.index-requires
index-requires c =
    let len : c.len.result ≡ length c.pop.new.self.items = grind (arith, common_steps) in
    let there : c.index-nodes-len.result.node < length c.args.scan.now.files.items =
    node_inside c.args.scan.now c.args.nodes.now c.args.asts.items c.loop-ast.asts.items c.pop.new.self.items (get same_ast_key c.loop-ast.held) c.index-nodes-len.result c.in-Some.ast c.len.result
    c.requires c.loop-ast.invariant c.in-Some.ensures.items len c.index-nodes-len.is in
    grind (arith, common_steps)

pub loop-ast-preserved-in_ok-insert : goal.loop-ast-preserved-in_ok-insert
loop-ast-preserved-in_ok-insert c =
    let len : c.len.result ≡ length c.pop.new.self.items = grind (arith, common_steps) in
    held_next c.args.scan.now c.args.nodes.now c.args.asts.items c.loop-ast.asts.items c.pop.new.self.items (get same_ast_key c.loop-ast.held) c.index-nodes-len.result c.in-Some.ast c.len.result
    c.requires c.loop-ast.invariant c.in-Some.ensures.items len c.index-nodes-len.is
    (get same_ast_key c.insert.new.self) (c.in_ok-clone.field-0, c.in_ok-path.path) c.index.result.now c.index.ensures c.in_ok-clone.ensures.cases (c.in_ok-path.ensures ∙ c.as_str.ensures) c.in_ok-insert.ensures.updates.0

pub loop-ast-preserved : goal.loop-ast-preserved
loop-ast-preserved c =
    let len : c.len.result ≡ length c.pop.new.self.items = grind (arith, common_steps) in
    held_next c.args.scan.now c.args.nodes.now c.args.asts.items c.loop-ast.asts.items c.pop.new.self.items (get same_ast_key c.loop-ast.held) c.index-nodes-len.result c.in-Some.ast c.len.result
    c.requires c.loop-ast.invariant c.in-Some.ensures.items len c.index-nodes-len.is
    (get same_ast_key c.insert.new.self) (c.in_ok-clone.field-0, c.in_ok-path.path) c.index.result.now c.index.ensures c.in_ok-clone.ensures.cases (c.in_ok-path.ensures ∙ c.as_str.ensures) c.in_ok-insert.ensures.updates.0

pub returns : goal.returns
returns c =
    let empty : length c.loop-ast.asts.items ≡ 0 = grind (arith, common_steps) in
    record {
      found = λ k u ast at to. c.loop-ast.invariant.found k u ast (omega (arith, empty)) at to;
      only = c.loop-ast.invariant.only;
    }
