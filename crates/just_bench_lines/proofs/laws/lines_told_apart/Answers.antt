use Rattle.just_bench_lines.proofs.Apart.{modules_told, marks_told, aliases_told, statements_told, headings_told}
use Rattle.just_bench_lines.proofs.laws.lines_told_apart.Goals as goal

pub returns-clause-modules : goal.returns-clause-modules
returns-clause-modules c = modules_told

pub returns-clause-attributes : goal.returns-clause-attributes
returns-clause-attributes c = marks_told

pub returns-clause-aliases : goal.returns-clause-aliases
returns-clause-aliases c = aliases_told

pub returns-clause-statements : goal.returns-clause-statements
returns-clause-statements c = statements_told

pub returns-clause-headings : goal.returns-clause-headings
returns-clause-headings c = headings_told
