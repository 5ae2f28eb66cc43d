-- What private functions say beside `Command.antt`.
use Rattle.std.specs.Prelude.{List}
use Rattle.just_names.specs.Texts.{Text}
use Rattle.just_invoke.specs.Command.{ProgramAsked}

abbrev pub program_asked : Text → List Text → ProgramAsked
program_asked binary arguments = record { binary = binary; arguments = arguments }
