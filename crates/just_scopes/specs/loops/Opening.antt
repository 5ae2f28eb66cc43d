-- What private functions say beside `Opening.antt`.
use Rattle.std.specs.Prelude.{Result, Ok, Err}
use Rattle.just_errors.specs.declared.halt.Halt.{Halt}
use Rattle.just_scopes.specs.declared.open_module.OpenedModule.{OpenedModule}
use Rattle.just_scopes.specs.Opening.{Opened, opened_of}

abbrev pub opened_as : Result OpenedModule Halt → Result Opened Halt
opened_as (Ok o) = Ok (opened_of o)
opened_as (Err e) = Err e
