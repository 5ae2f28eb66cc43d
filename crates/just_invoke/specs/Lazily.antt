-- Modules that are opened lazily, from some numbers, where no recipe runs.
use Rattle.std.specs.Prelude.{◌≡◌, Bool, false, List, Option, Ok}
use Rattle.just_justfile.specs.declared.justfile.Justfile.{Justfile}
use Rattle.just_names.specs.declared.number.Number.{Number}
use Rattle.just_run_layers.specs.Evaluation.{Inquiry}
use Rattle.just_run_layers.specs.Host.{Answer}
use Rattle.just_run_layers.specs.Interactions.{Log, executed_in}
use Rattle.just_run_layers.specs.declared.host.Entry.{Entry}
use Rattle.just_scopes.specs.Open.{AreLazyModules, OpensLazily}
use Rattle.just_scopes.specs.Opening.{Handed, Opened}

-- no numbers: what is evaluated anyhow, and what that needs, is all that is needed from them
abbrev pub no_numbers : Number → Bool
no_numbers n = false

-- For every host: the modules were opened lazily from numbers, in which nothing was executed; exactly what is needed from these is bound.
pub record HasOpenedLazily (evaluator : Inquiry → Option Answer) (host : Entry → Option Answer) (handed : Handed) (root : Justfile) (numbers : Number → Bool) (old new : Log) (opened : List Opened) : Type 0 where
  pub steps : OpensLazily evaluator host handed root numbers old new (Ok opened)
  pub are : AreLazyModules root numbers opened
  pub unexecuted : executed_in new ≡ executed_in old
