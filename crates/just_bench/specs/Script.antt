-- What a recorder is to answer.
use Rattle.std.specs.Prelude.{[]}
use Rattle.just_bench.specs.declared.script.Script.{Script}

-- a script without answers
abbrev pub unscripted : Script
unscripted = record { runs = []; lines = []; dotenvs = []; timestamps = [] }
