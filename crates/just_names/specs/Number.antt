-- Numbers of definitions.
use Rattle.just_names.specs.declared.number.Number.{Number}

-- that of a definition which has none yet
abbrev pub no_number : Number
no_number = record { 0 = 0 }
