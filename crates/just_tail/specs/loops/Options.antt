-- What private functions say beside `Options.antt`.
use Rattle.std.specs.Prelude.{ℕ, Option, List, option_map}
use Rattle.just_ast_definitions.specs.declared.parameter.Parameter.{Parameter}
use Rattle.just_errors.specs.declared.switch.Switch.{Switch}
use Rattle.just_tail.specs.Options.{option_from, place}

-- its place alone, from k on
abbrev pub place_from : ℕ → List Parameter → Switch → Option ℕ
place_from k ps s = option_map (λ f. f.0) (option_from k ps s)
