use Rattle.just_examples.proofs.answers.compile.Goals as goal

pub returns-clause-can_run : goal.returns-clause-can_run
returns-clause-can_run c = c.compile.ensures.can_run

pub returns-clause-overridden : goal.returns-clause-overridden
returns-clause-overridden c = c.compile.ensures.overridden

pub returns-clause-root_ast : goal.returns-clause-root_ast
returns-clause-root_ast c = c.compile.ensures.root_ast
