use Rattle.std.specs.Prelude.{Bool}
use Rattle.std.specs.HashMap.{get}
use Rattle.just_bench_values.specs.Constants.{is_asked}
use Rattle.just_names.specs.Index.{texts_of_names}
use Rattle.just_parts.specs.Evaluator.{wanted_by}
use Rattle.just_parts.specs.Needs.{same_number}
use Rattle.just_table.specs.Entries.{IsKeyed}
use Rattle.just_bench_values.specs.Lookup.{constant_name}
use Rattle.just_bench_values.proofs.Along.{Listed}
use Rattle.just_bench_values.proofs.Settled.{Settled}
use Rattle.just_bench_values.proofs.constants.constants_of.Given as goal

abbrev pub invariant-loop-name : goal.invariant-loop-name
invariant-loop-name l = record {
  settled : (lists : Bool) → Settled l.assignments (wanted_by l.assignments l.functions (get same_number l.overrides) (is_asked l.references) lists) (texts_of_names l.order) l.name-index l.constants;
  listed : (lists : Bool) → Listed l.assignments (wanted_by l.assignments l.functions (get same_number l.overrides) (is_asked l.references) lists) l.order l.name-index l.constants;
  keyed : IsKeyed constant_name l.constants;
}
