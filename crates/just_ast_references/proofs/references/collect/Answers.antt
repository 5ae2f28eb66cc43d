use Rattle.std.specs.List.{flat_map}
use Rattle.just_ast_references.specs.Parts.{borrowed}
use Rattle.just_ast_references.specs.References.{mention, references}
use Rattle.just_ast_references.proofs.Stack.{walk_on, walk_ends}
use Rattle.just_ast_references.proofs.references.collect.Goals as goal

pub loop-next-preserved : goal.loop-next-preserved
loop-next-preserved c = (
  c.in_ok-push_reference.ensures.each c.loop-next.invariant.0,
  walk_on (flat_map mention (borrowed c.loop-next.found.items)) (flat_map mention (borrowed c.push_reference.new.found.items))
      (references c.args.expression.now) c.loop-next.stack.items c.pop.new.self.items c.push_parts.new.stack.items c.in-Some.next
      c.loop-next.invariant.1 c.in-Some.ensures.items c.in_ok-push_reference.ensures.found c.in_ok-push_parts.ensures,
)

pub loop-next-smaller : goal.loop-next-smaller
loop-next-smaller c =
    walk_ends c.loop-next.stack.items c.pop.new.self.items c.push_parts.new.stack.items c.in-Some.next c.in-Some.ensures.items c.in_ok-push_parts.ensures
