-- What is evaluated of a module that is compiled.
use Rattle.std.specs.Prelude.{◌≡◌, List}
use Rattle.std.specs.HashMap.{get}
use Rattle.just_module_variables.specs.Documented.{AreDocumentedIn}
use Rattle.just_justfile.specs.declared.justfile.Justfile.{Justfile, out-Justfile}
use Rattle.just_module_contents.specs.Constants.{Evaluated, IsEvaluated}
use Rattle.just_module_contents.specs.Contents.{Contents}
use Rattle.just_names.specs.Texts.{Text}
use Rattle.just_names.specs.declared.number.Number.{Number}
use Rattle.just_module_contents.specs.declared.labels.Label.{Label}
use Rattle.just_module_variables.specs.Overrides.{last_of, overridden_among}
use Rattle.just_parts.specs.Evaluator.{Values}
use Rattle.just_parts.specs.Layers.{Layers}
use Rattle.just_parts.specs.Needs.{same_number}

-- the values that override variables of a module, each with the number of its variable
abbrev pub overridden_in : Layers → Contents → List (Number × Text)
overridden_in layers m = overridden_among layers.overrides m

-- labels of the modules in a module, as they are said, with the docs evaluated among its constants
abbrev pub AreLabels : Layers → Contents → Values → List Label → List Label → Type 0
AreLabels layers m values = AreDocumentedIn layers.evaluator m values

-- What is evaluated of a module that is compiled: its constants and its settings, which its justfile has, the labels of the modules in it, and the values that override its variables, which its justfile has by the numbers of these variables, and no others.
pub record IsEvaluatedTo (layers : Layers) (m : Contents) (said labels : List Label) (overridden : List (Number × Text)) (j : Justfile) : Type 0 where
  pub it : Evaluated
  pub evaluated : IsEvaluated layers m it
  pub settings : it.settings ≡ (out-Justfile j).settings
  pub documented : AreLabels layers m it.constants said labels
  pub overrides_are : overridden ≡ overridden_in layers m
  pub overrides_held : (n : Number) → get same_number (out-Justfile j).overridden n ≡ last_of overridden n
