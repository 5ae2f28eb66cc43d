-- What is put into values by their numbers.
use Rattle.std.specs.Prelude.{◌≡◌, List}
use Rattle.std.specs.HashMap.{HashMap, get}
use Rattle.std.specs.Option.{option_or}
use Rattle.just_module_variables.specs.Overrides.{last_of}
use Rattle.just_names.specs.Texts.{Text}
use Rattle.just_names.specs.declared.number.Number.{Number}
use Rattle.just_parts.specs.Needs.{same_number}

-- values are put in one after another, each under its number
abbrev pub AreInserted : {G : Type 0} → List (Number × Text) → HashMap Number Text G → HashMap Number Text G → Type 0
AreInserted pairs old new = (n : Number) → get same_number new n ≡ option_or (last_of pairs n) (get same_number old n)

-- nothing is put in
abbrev pub AreAsBefore : {G : Type 0} → HashMap Number Text G → HashMap Number Text G → Type 0
AreAsBefore old new = (n : Number) → get same_number new n ≡ get same_number old n
