use Rattle.std.proofs.Common.{◌≡◌, ◌++◌, ◌∷◌, [], sym, ◌∙◌}
use Rattle.std.specs.Str.{chars}
use Rattle.just_tail.specs.loops.Words.{value_text}
use Rattle.just_tail.proofs.WordLemmas.{some_chars, no_length}
use Rattle.just_tail.proofs.OptionLemmas.{cluster_read}
use Rattle.just_tail.proofs.options.read_cluster.Goals as goal

pub returns-in_err-characters-clause-some : goal.returns-in_err-characters-clause-some
returns-in_err-characters-clause-some c = some_chars c.args.name.now c.utf8.name c.requires.named

pub unreachable-requires : goal.unreachable-requires
unreachable-requires c =
    some_chars c.args.name.now c.utf8.name c.requires.named
    (sym (c.deref.ensures.value ∙ c.in_ok-characters.ensures) ∙ no_length c.deref.result.now c.in_default.ensures.cases)

pub returns-clause-ok : goal.returns-clause-ok
returns-clause-ok c =
    let front = c.in-Some.front.now in
    let whole : chars c.args.name.now ≡ front ++ c.in-Some.last.now ∷ [] = sym (c.deref.ensures.value ∙ c.in_ok-characters.ensures) ∙ c.in-Some.ensures.cases.0 in
    cluster_read c.args.plan.now.parameters.now c.args.progress.now c.apply_front.new.progress c.apply.new.progress (chars c.args.name.now) front c.in-Some.last.now
    (value_text c.args.value) c.args.rest.now c.apply.result whole c.in-Ok.ensures.ok c.apply.ensures.ok
