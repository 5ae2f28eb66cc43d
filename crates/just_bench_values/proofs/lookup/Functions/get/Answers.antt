use Rattle.std.proofs.Common.{sym, ◌∙◌, ap}
use Rattle.std.specs.Option.{option_or}
use Rattle.just_table.specs.Entries.{find}
use Rattle.just_bench_values.specs.Lookup.{functions_with}
use Rattle.just_bench_values.specs.loops.Lookup.{named_so}
use Rattle.just_bench_values.proofs.Behind.{find_behind}
use Rattle.just_bench_values.proofs.lookup.Functions.get.Goals as goal

pub returns-in-Some : goal.returns-in-Some
returns-in-Some c =
    let name = c.args.name.now in
    let table = c.args.self.now.table.now in
    let builtin = c.in-Some.builtin in
    c.found_or.ensures
    ∙ ap (λ o. option_or o (named_so builtin.now name)) c.get-found.ensures
    ∙ sym (find_behind name builtin.now table)
    ∙ sym (ap (λ b. find name (functions_with b table)) c.in-Some.is)

pub returns-in-None : goal.returns-in-None
returns-in-None c =
    c.get-found.ensures ∙ sym (ap (λ b. find c.args.name.now (functions_with b c.args.self.now.table.now)) c.in-None.is)
