use Rattle.std.proofs.Common.{rules, ◌≢◌, inl, [], length, sym, ap, ◌∙◌}
use Rattle.std.proofs.lemmas.Bool.{eqb-true}
use Rattle.std.proofs.lemmas.Option.{IfSome_then}
use Rattle.just_names.specs.Texts.{texts}
use Rattle.just_tail.specs.loops.Words.{value_text}
use Rattle.just_tail.specs.Pieces.{long, cluster, option_word}
use Rattle.just_tail.specs.Cause.{tail_cause_of}
use Rattle.just_tail.proofs.WordLemmas.{no_length, dashed_begins, long_word, short_word, nameless_long, nameless_short, no_dash}
use Rattle.just_tail.proofs.OptionWords.{long_read, long_told, cluster_word, cluster_told}
use Rattle.just_tail.proofs.options.read_option.Goals as goal

pub unreachable-requires : goal.unreachable-requires
unreachable-requires c = dashed_begins c.args.word.now c.requires.dashed c.in_default.ensures

pub returns-then-is_empty-clause-err : goal.returns-then-is_empty-clause-err
returns-then-is_empty-clause-err c =
    let value = value_text c.split_value.result.1 in
    let word = long_word c.args.word.now c.in-Some.short.now c.in-Some-strip_dash.long.now c.split_value.result.0.now value c.in-Some.ensures c.in-Some-strip_dash.ensures c.split_value.ensures.whole in
    let none = no_length c.split_value.result.0.now (eqb-true (length c.split_value.result.0.now) 0 (sym c.is_empty.ensures ∙ c.if-is_empty.true)) in
    let nameless = nameless_long c.args.word.now value (word ∙ ap (λ t. option_word (long t) value) none) c.requires.other in
    IfSome_then (tail_cause_of c.invalid_option.result) c.invalid_option.ensures (λ cause e before stands opened. (opened, inl (nameless, e)))

pub returns-then-is_empty-2-clause-err : goal.returns-then-is_empty-2-clause-err
returns-then-is_empty-2-clause-err c =
    let value = value_text c.split_value-in-None.result.1 in
    let word = short_word c.args.word.now c.in-Some.short.now c.split_value-in-None.result.0.now value c.in-Some.ensures c.split_value-in-None.ensures.whole in
    let none = no_length c.split_value-in-None.result.0.now (eqb-true (length c.split_value-in-None.result.0.now) 0 (sym c.is_empty-in-None.ensures ∙ c.if-is_empty-2.true)) in
    let nameless = nameless_short c.args.word.now value (word ∙ ap (λ t. option_word (cluster t) value) none) c.requires.dashed in
    IfSome_then (tail_cause_of c.invalid_option-then-is_empty-2.result) c.invalid_option-then-is_empty-2.ensures (λ cause e before stands opened. (opened, inl (nameless, e)))

pub returns-else-is_empty-clause-ok : goal.returns-else-is_empty-clause-ok
returns-else-is_empty-clause-ok c =
    let name = c.split_value.result.0.now in
    let value = value_text c.split_value.result.1 in
    let some : name ≢ [] = search rules in
    long_read c.args.plan.now.parameters.now c.args.progress.now c.apply.new.progress c.args.word.now name value c.args.rest.now c.apply.result
    (long_word c.args.word.now c.in-Some.short.now c.in-Some-strip_dash.long.now name value c.in-Some.ensures c.in-Some-strip_dash.ensures c.split_value.ensures.whole) (some, c.split_value.ensures.name) c.apply.ensures.ok

pub returns-else-is_empty-clause-err : goal.returns-else-is_empty-clause-err
returns-else-is_empty-clause-err c =
    let name = c.split_value.result.0.now in
    let value = value_text c.split_value.result.1 in
    let some : name ≢ [] = search rules in
    long_told c.args.plan.now.parameters.now c.args.progress.now c.args.word.now name value (texts c.args.rest.now) c.apply.result
    (long_word c.args.word.now c.in-Some.short.now c.in-Some-strip_dash.long.now name value c.in-Some.ensures c.in-Some-strip_dash.ensures c.split_value.ensures.whole) (some, c.split_value.ensures.name) c.apply.ensures.err

pub returns-else-is_empty-2-clause-ok : goal.returns-else-is_empty-2-clause-ok
returns-else-is_empty-2-clause-ok c =
    let name = c.split_value-in-None.result.0.now in
    let value = value_text c.split_value-in-None.result.1 in
    let dash = no_dash c.in-Some.short.now name value c.split_value-in-None.ensures.whole c.in-None.ensures in
    cluster_word c.args.plan.now.parameters.now c.args.progress.now c.read_cluster.new.progress c.args.word.now name value c.args.rest.now c.read_cluster.result
    (short_word c.args.word.now c.in-Some.short.now name value c.in-Some.ensures c.split_value-in-None.ensures.whole) (c.read_cluster.ensures.some, c.split_value-in-None.ensures.name, dash) c.read_cluster.ensures.ok

pub returns-else-is_empty-2-clause-err : goal.returns-else-is_empty-2-clause-err
returns-else-is_empty-2-clause-err c =
    let name = c.split_value-in-None.result.0.now in
    let value = value_text c.split_value-in-None.result.1 in
    let dash = no_dash c.in-Some.short.now name value c.split_value-in-None.ensures.whole c.in-None.ensures in
    cluster_told c.args.plan.now.parameters.now c.args.progress.now c.args.word.now name value (texts c.args.rest.now) c.read_cluster.result
    (short_word c.args.word.now c.in-Some.short.now name value c.in-Some.ensures c.split_value-in-None.ensures.whole) (c.read_cluster.ensures.some, c.split_value-in-None.ensures.name, dash) c.read_cluster.ensures.err
