use Rattle.std.proofs.Common.{◌≡◌, ◌∙◌, true, sym}
use Rattle.std.proofs.lemmas.Option.{slice_get_within}
use Rattle.just_module_contents.specs.Definitions.{sets_in}
use Rattle.just_module_contents.specs.Settings.{excludes}
use Rattle.just_module_headers.proofs.Excluded.{excluded_is, incompatible_told}
use Rattle.just_module_headers.proofs.settings.check_pair.Goals as goal

pub returns-clause-named : goal.returns-clause-named
returns-clause-named g c =
    let conflicts = (g.S.Syntax.answers c.args.syntax.now).conflicts in
    let sets = sets_in c.args.definitions.now in
    let back : excludes conflicts sets c.args.second c.args.first ≡ true =
    excluded_is conflicts sets c.args.first c.args.second c.set_at-earlier.result.now c.set_at.result.now _ _ c.set_at-earlier.ensures c.set_at.ensures c.lexeme.ensures (c.as_slice.ensures ∙ c.in_ok-excluded.ensures)
    ∙ sym c.stands_in.ensures ∙ c.if-not-stands_in.false in
    incompatible_told conflicts sets c.args.first c.args.second c.set_at-earlier.result.now c.set_at.result.now c.copied.result c.new.result c.new-2.result c.line.result c.requires.before
    (slice_get_within sets c.args.second c.set_at.result.now c.set_at.ensures) c.requires.excluded back c.set_at-earlier.ensures c.set_at.ensures c.copied.ensures (c.new.ensures ∙ c.lexeme-2.ensures) c.line.ensures (c.new-2.ensures ∙ c.lexeme-3.ensures)
