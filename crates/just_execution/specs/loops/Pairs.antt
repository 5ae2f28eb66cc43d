-- What private functions say beside `Pairs.antt`.
use Rattle.std.specs.Prelude.{List}
use Rattle.just_tasks.specs.declared.pair.Pair.{Pair}
use Rattle.just_execution.specs.Firsts.{stands_among}
use Rattle.just_tasks.specs.Pairs.{OnceTable, same_pair}

-- those of a list did
abbrev pub table_of : List Pair → OnceTable
table_of pairs = stands_among same_pair pairs
