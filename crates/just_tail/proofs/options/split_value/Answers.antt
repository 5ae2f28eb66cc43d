use Rattle.std.proofs.Common.{Some, None, arith}
use Rattle.std.proofs.lemmas.Str.Pattern.{split_parts}
use Rattle.just_tail.proofs.Names.{uncut_everywhere}
use Rattle.just_tail.proofs.options.split_value.Goals as goal

pub returns-in-Some-clause-name : goal.returns-in-Some-clause-name
returns-in-Some-clause-name c =
    uncut_everywhere c.in-Some.name.now (split_parts 61 c.args.text.now (Some (c.in-Some.name, c.in-Some.value)) c.in-Some.ensures.cases (omega arith)).1

pub returns-in-None-clause-name : goal.returns-in-None-clause-name
returns-in-None-clause-name c = uncut_everywhere c.args.text.now (split_parts 61 c.args.text.now None c.in-None.ensures.cases (omega arith))
