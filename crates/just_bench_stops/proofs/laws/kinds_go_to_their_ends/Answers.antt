use Rattle.just_bench_stops.proofs.Bracketed.{attributes_agree}
use Rattle.just_bench_stops.proofs.Ends.{aliases, imports, modules, unexports, variables}
use Rattle.just_bench_stops.proofs.Functions.{functions}
use Rattle.just_bench_stops.proofs.Headed.{headings_agree}
use Rattle.just_bench_stops.proofs.Settings.{settings_agree}
use Rattle.just_bench_stops.proofs.laws.kinds_go_to_their_ends.Goals as goal

pub returns-clause-imports : goal.returns-clause-imports
returns-clause-imports c = imports

pub returns-clause-modules : goal.returns-clause-modules
returns-clause-modules c = modules

pub returns-clause-settings : goal.returns-clause-settings
returns-clause-settings c = settings_agree

pub returns-clause-unexports : goal.returns-clause-unexports
returns-clause-unexports c = unexports

pub returns-clause-variables : goal.returns-clause-variables
returns-clause-variables c = variables

pub returns-clause-functions : goal.returns-clause-functions
returns-clause-functions c = functions

pub returns-clause-aliases : goal.returns-clause-aliases
returns-clause-aliases c = aliases

pub returns-clause-attributes : goal.returns-clause-attributes
returns-clause-attributes c = attributes_agree

pub returns-clause-headings : goal.returns-clause-headings
returns-clause-headings c = headings_agree
