use Rattle.std.proofs.Common.{◌≡◌, ◌<◌, ◌≤◌, ◌∙◌, List, None, Some, IfErr, ap, length, subst, sym, rules}
use Rattle.std.specs.Borrow.{Bor}
use Rattle.std.specs.List.{All}
use Rattle.std.proofs.lemmas.List.{take_all}
use Rattle.std.proofs.lemmas.Result.{IfErr-weaker}
use Rattle.just_errors.specs.declared.error.Error.{Error}
use Rattle.just_errors.specs.declared.error.Error.TheVariants.{Memory}
use Rattle.just_justfile.specs.declared.justfile.Justfile.{Justfile}
use Rattle.just_listings.specs.Order.{referents}
use Rattle.just_listings.specs.Unstable.{IsUnstableRefusal, no_memory, refused}
use Rattle.just_listings.proofs.Refusing.{IsAllowed, allowed_more, refuses}
use Rattle.just_listings.proofs.unstable.check_unstable.Goals as goal

pub returns-in_err-modules-clause-refused : goal.returns-in_err-modules-clause-refused
returns-in_err-modules-clause-refused c =
    let told : IfErr c.from_residual.result (λ e. e ≡ Memory) = search rules in
    IfErr-weaker c.from_residual.result (λ e. e ≡ Memory) (IsUnstableRefusal c.args.allowed c.args.root.now) (λ e same. subst (IsUnstableRefusal c.args.allowed c.args.root.now) (sym same) no_memory) told

pub returns-in_err-feature-clause-refused : goal.returns-in_err-feature-clause-refused
returns-in_err-feature-clause-refused c =
    let told : IfErr c.from_residual-in_err-feature.result (λ e. e ≡ Memory) = search rules in
    IfErr-weaker c.from_residual-in_err-feature.result (λ e. e ≡ Memory) (IsUnstableRefusal c.args.allowed c.args.root.now) (λ e same. subst (IsUnstableRefusal c.args.allowed c.args.root.now) (sym same) no_memory) told

pub returns-in-Some-clause-refused : goal.returns-in-Some-clause-refused
returns-in-Some-clause-refused c =
    let items = c.in_ok-modules.modules.items in
    let within : c.loop-at.at < length items = subst (λ n. c.loop-at.at < n) (c.len-at-end.ensures ∙ c.in_ok-modules.modules.ok.0) c.loop-at-test.true in
    let here : refused c.args.allowed c.index.result.now.now ≡ Some c.in-Some.feature.now = first_of (cc (c.in-Some.ensures, c.refused.ensures), search rules) in
    refuses c.args.allowed c.args.root.now items c.loop-at.at c.index.result.now c.in-Some.feature.now c.in_ok-feature.feature within c.index.ensures c.in_ok-modules.ensures c.loop-at.invariant here (c.in_ok-feature.ensures ∙ c.as_str.ensures)

pub loop-at-preserved : goal.loop-at-preserved
loop-at-preserved c =
    let items = c.in_ok-modules.modules.items in
    let within : c.loop-at.at < length items = subst (λ n. c.loop-at.at < n) (c.len-at-end.ensures ∙ c.in_ok-modules.modules.ok.0) c.loop-at-test.true in
    let none : refused c.args.allowed c.index.result.now.now ≡ None = first_of (cc (c.in_default.ensures, c.refused.ensures), search rules) in
    allowed_more c.args.allowed items c.loop-at.at c.index.result.now within c.index.ensures none c.loop-at.invariant

pub returns-clause-allowed : goal.returns-clause-allowed
returns-clause-allowed c =
    let items = c.in_ok-modules.modules.items in
    let through : length items ≤ c.loop-at.at = subst (λ n. n ≤ c.loop-at.at) (c.len-at-end.ensures ∙ c.in_ok-modules.modules.ok.0) c.loop-at-test.false in
    record {
      modules = referents items;
      walked = c.in_ok-modules.ensures;
      none = subst (λ (ms : List (Bor Justfile)). All (IsAllowed c.args.allowed) (referents ms)) (take_all c.loop-at.at items through) c.loop-at.invariant;
    }
