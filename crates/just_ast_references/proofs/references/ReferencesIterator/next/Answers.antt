use Rattle.just_ast_references.proofs.Stack.{pop_references}
use Rattle.just_ast_references.proofs.references.ReferencesIterator.next.Goals as goal

pub invariant_of-self-2 : goal.invariant_of-self-2
invariant_of-self-2 c =
    pop_references c.self.inside.left.items c.pop.new.self.items c.in_ok-expression.expression c.in_ok-expression.ensures.items c.self.invariant
