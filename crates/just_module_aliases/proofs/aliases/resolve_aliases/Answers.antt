use Rattle.std.proofs.Common.{◌≡◌, arith, length, rules}
use Rattle.std.proofs.lemmas.Grind.{common_steps}
use Rattle.std.proofs.lemmas.List.{drop_all}
use Rattle.std.proofs.lemmas.Result.{IfErr-weaker}
use Rattle.just_errors.specs.Causes.{Reports}
use Rattle.just_errors.proofs.Lifts.{reports_by}
use Rattle.just_module_contents.specs.Recipes.{lent}
use Rattle.just_module_aliases.specs.Aliased.{UnknownTargets, alias_targets}
use Rattle.just_module_aliases.specs.loops.Aliased.{UnknownTarget}
use Rattle.just_module_aliases.proofs.Aliasing.{all_kept, one_more, there, told}
use Rattle.just_module_aliases.proofs.aliases.resolve_aliases.Goals as goal

pub returns-in_err-add_alias-clause-named : goal.returns-in_err-add_alias-clause-named
returns-in_err-add_alias-clause-named c =
    let t = alias_targets c.args.absent.now c.args.disabled.now c.args.modules.now c.args.recipes.now in
    let aliases = c.args.definitions.now.aliases.items in
    let alias = c.index.result.now in
    let count : c.len-place-end.result ≡ length aliases = grind (arith, common_steps) in
    IfErr-weaker c.from_residual.result (Reports (UnknownTarget t alias.now)) _
    (λ e h. reports_by (UnknownTarget t alias.now) (UnknownTargets t (lent aliases)) (λ x unknown. told t (lent aliases) alias.now x (there t aliases c.loop-place.place alias (omega arith) c.index.ensures) unknown) e h) (search rules)

pub loop-place-preserved : goal.loop-place-preserved
loop-place-preserved c =
    let aliases = c.args.definitions.now.aliases.items in
    let count : c.len-place-end.result ≡ length aliases = grind (arith, common_steps) in
    one_more (alias_targets c.args.absent.now c.args.disabled.now c.args.modules.now c.args.recipes.now) aliases c.loop-place.place c.index.result.now (omega arith) c.index.ensures
    c.loop-place.made c.add_alias.new.aliases c.loop-place.invariant c.in_ok-add_alias.ensures.added

pub returns-clause-kept : goal.returns-clause-kept
returns-clause-kept c =
    let aliases = c.args.definitions.now.aliases.items in
    let count : c.len-place-end.result ≡ length aliases = grind (arith, common_steps) in
    all_kept (alias_targets c.args.absent.now c.args.disabled.now c.args.modules.now c.args.recipes.now) aliases c.loop-place.place c.loop-place.made (drop_all c.loop-place.place aliases (omega arith)) c.loop-place.invariant
