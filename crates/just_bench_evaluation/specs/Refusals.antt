-- What is told in a run where there is no value.
use Rattle.std.specs.Prelude.{codes}
use Rattle.just_names.specs.Texts.{Text}

-- what is told of an expression that has no value
abbrev pub no_value : Text
no_value = codes "The expression has no value"
