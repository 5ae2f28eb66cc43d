use Rattle.just_bench_lines.proofs.Apart.{imports_stated, sets_stated, unexports_stated, assignments_stated, functions_stated}
use Rattle.just_bench_lines.proofs.laws.items_told_apart.Goals as goal

pub returns-clause-imports : goal.returns-clause-imports
returns-clause-imports c = imports_stated

pub returns-clause-settings : goal.returns-clause-settings
returns-clause-settings c = sets_stated

pub returns-clause-unexports : goal.returns-clause-unexports
returns-clause-unexports c = unexports_stated

pub returns-clause-variables : goal.returns-clause-variables
returns-clause-variables c = assignments_stated

pub returns-clause-functions : goal.returns-clause-functions
returns-clause-functions c = functions_stated
