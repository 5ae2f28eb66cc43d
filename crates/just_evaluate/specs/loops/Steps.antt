-- For the private functions: where a step of a walk leads.
use Rattle.std.specs.Prelude.{List, Some}
use Rattle.just_names.specs.Texts.{Text}
use Rattle.just_justfile.specs.Walks.{AreModulesOrdered}
use Rattle.just_justfile.specs.declared.justfile.Justfile.{Justfile}
use Rattle.just_evaluate.specs.Destination.{Destination, destination_from, leads_to}
use Rattle.just_evaluate.specs.declared.destination.Step.{Step}
use Rattle.just_evaluate.specs.declared.destination.Step.TheVariants as step

-- where a path leads after a step that others follow
abbrev pub destination_by : Justfile → List Text → Step → Destination
destination_by root names (step.Module inner) = destination_from root inner.now names
destination_by root names (step.Variable here variable) = leads_to here.now (Some variable.now)

-- the names of the modules rise in a module to which a step leads
abbrev pub IsStepOrdered : Step → Type 0
IsStepOrdered (step.Module inner) = AreModulesOrdered inner.now
IsStepOrdered (step.Variable here variable) = Unit {0}
