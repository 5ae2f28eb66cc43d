-- What is evaluated of a module that is checked.
use Rattle.std.specs.Prelude.{◌≡◌, List}
use Rattle.std.specs.HashMap.{get}
use Rattle.just_module_variables.specs.Constants.{CoversAll, evaluated_in}
use Rattle.just_module_variables.specs.Overrides.{last_of}
use Rattle.just_module_variables.specs.Variables.{AreVariablesOf, HasNumbers}
use Rattle.just_module_variables.specs.declared.constants.Constants.{Constants}
use Rattle.just_module_variables.specs.declared.variables.Variables.{Variables}
use Rattle.just_errors.specs.Causes.{Keeps}
use Rattle.just_module_contents.specs.Constants.{BreaksDocs, IsEvaluated, constant_expressions}
use Rattle.just_module_contents.specs.Contents.{Contents}
use Rattle.just_module_contents.specs.Groups.{Links}
use Rattle.just_module_contents.specs.Definitions.{contents_in}
use Rattle.just_compiled.specs.Evaluated.{AreLabels, overridden_in}
use Rattle.just_module_checks.specs.declared.checks.Checked.{Checked}
use Rattle.just_names.specs.declared.number.Number.{Number}
use Rattle.just_module_contents.specs.declared.labels.Label.{Label}
use Rattle.just_parts.specs.Evaluator.{scope_values}
use Rattle.just_parts.specs.Layers.{Layers}
use Rattle.just_parts.specs.Needs.{same_number}

-- nothing is broken of the last groups, which read the modules in a module as well
abbrev pub no_links : Links
no_links layers it g c = ⊥

-- The variables of a module are resolved, their numbers are told by their names, it has these constants and settings, with values for whatever is evaluated while compiling, and these values override its variables, also by their numbers.
pub record HasConstants (layers : Layers) (m : Contents) (variables : Variables) (constants : Constants) : Type 0 where
  pub resolved : AreVariablesOf layers.syntax m variables
  pub numbers : HasNumbers variables
  pub evaluated : IsEvaluated layers m (evaluated_in constants)
  pub covered : CoversAll variables (scope_values constants.scope) (constant_expressions m)
  pub overridden : constants.overridden.items ≡ overridden_in layers m
  pub overrides : (n : Number) → get same_number constants.overrides n ≡ last_of constants.overridden.items n

-- What is found of a module: what its files say, its constants, and the labels of the modules in it, whose docs have values.
pub record IsChecked (layers : Layers) (m : Contents) (said : List Label) (it : Checked) : Type 0 where
  pub contents : contents_in it.definitions ≡ m
  pub constants : HasConstants layers m it.variables it.constants
  pub docs : Keeps (BreaksDocs layers.syntax layers.evaluator m (scope_values it.constants.scope))
  pub labels : AreLabels layers m (scope_values it.constants.scope) said it.labels.items
