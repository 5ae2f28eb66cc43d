use Rattle.std.proofs.Common.{◌∙◌, ap, map}
use Rattle.std.specs.HashSet.{contains}
use Rattle.std.specs.Str.{bytes_eq}
use Rattle.just_ast_references.specs.Mentions.{mention_of}
use Rattle.just_name_resolution.specs.Lent.{tables_in}
use Rattle.just_parts.specs.Reading.{mentions}
use Rattle.just_recipe_needs.proofs.Noting.{noted_all, noted_more, noted_none}
use Rattle.just_recipe_needs.proofs.direct_names.note_expression.Goals as goal

pub loop-reference-init : goal.loop-reference-init
loop-reference-init c =
    noted_none (tables_in c.args.tables.now) (contains bytes_eq c.args.hidden.now) (mentions c.args.expression.now) c.args.names.now c.into_iter-reference-iterator.result
    (ap (map mention_of) (c.into_iter-reference-iterator.ensures.into_iter_gives ∙ c.in_ok-reference-items.ensures))

pub loop-reference-preserved : goal.loop-reference-preserved
loop-reference-preserved c =
    noted_more (tables_in c.args.tables.now) (contains bytes_eq c.args.hidden.now) (mentions c.args.expression.now) c.args.names.now
    c.loop-reference.reference-iterator c.next.new.self c.in-Some.reference c.loop-reference.names c.note.new.names c.in-Some.ensures.steps c.loop-reference.invariant c.in_ok-note.ensures

pub returns : goal.returns
returns c =
    noted_all (tables_in c.args.tables.now) (contains bytes_eq c.args.hidden.now) (mentions c.args.expression.now) c.args.names.now
    c.loop-reference.reference-iterator c.loop-reference.names c.in-None.ensures.steps.0 c.loop-reference.invariant
