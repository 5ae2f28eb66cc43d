-- What private functions say beside `Recorder.antt`.
use Rattle.std.specs.Prelude.{◌++◌, [], ◌∷◌}
use Rattle.just_run_layers.specs.declared.host.Entry.{Entry}
use Rattle.just_run_layers.specs.declared.host.Entry.TheVariants as entry
use Rattle.just_bench.specs.Recorder.{Recording}

-- a call is kept
abbrev pub with_entry : Entry → Recording → Recording
with_entry entry r = record { entries = r.entries ++ entry ∷ []; script = r.script; left = r.left }
