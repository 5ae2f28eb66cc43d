use Rattle.std.proofs.Common.{Bool, arith, rules, subst}
use Rattle.std.specs.Borrow.{Bor}
use Rattle.std.specs.HashSet.{contains}
use Rattle.std.specs.List.{All}
use Rattle.std.specs.Str.{bytes_eq}
use Rattle.std.proofs.lemmas.List.{take_all}
use Rattle.std.proofs.lemmas.List.Elements.{All-contains, All-more}
use Rattle.std.proofs.lemmas.Result.{IfErr-weaker}
use Rattle.just_errors.specs.Causes.{Keeps, Reports}
use Rattle.just_names.specs.Texts.{Text}
use Rattle.just_name_resolution.proofs.Starts.{has_image, is_image}
use Rattle.just_parts.specs.Known.{none_hidden}
use Rattle.just_ast_expressions.specs.declared.expression.Expression.{Expression}
use Rattle.just_name_resolution.specs.Lent.{known_in}
use Rattle.just_parts.specs.Misnaming.{Misnames}
use Rattle.just_name_resolution.proofs.Checked.{nothing_hides}
use Rattle.just_module_variables.proofs.Walking.{is_there}
use Rattle.just_module_variables.proofs.constants.check_expressions.Goals as goal

pub loop-place-preserved : goal.loop-place-preserved
loop-place-preserved g c =
    let m = known_in (g.S.Syntax.answers c.args.known.now.syntax.now) c.args.known.now in
    let P : Bor Expression → Type 0 = λ e. Keeps (Misnames m none_hidden e.now) in
    let item = c.index.result.now in
    All-more P c.args.expressions.now.items c.loop-place.place item (omega arith) c.loop-place.invariant
    (subst P c.index.ensures
    (subst (λ (h : Text → Bool). Keeps (Misnames m h item.now)) (nothing_hides c.new-hidden.result.keys c.new-hidden.ensures.empty) c.in_ok-check_expression.ensures.kept))

pub returns-clause-kept : goal.returns-clause-kept
returns-clause-kept g c =
    let m = known_in (g.S.Syntax.answers c.args.known.now.syntax.now) c.args.known.now in
    let P : Bor Expression → Type 0 = λ e. Keeps (Misnames m none_hidden e.now) in
    let es = c.args.expressions.now.items in
    λ e there.
    let from = is_image (λ (r : Bor Expression). r.now) es e there in
    subst (λ (x : Expression). Keeps (Misnames m none_hidden x)) from.2
    (All-contains P es from.0 (subst (λ xs. All P xs) (take_all c.loop-place.place es (omega arith)) c.loop-place.invariant) from.1)

pub returns-in_err-check_expression-clause-named : goal.returns-in_err-check_expression-clause-named
returns-in_err-check_expression-clause-named g c =
    let m = known_in (g.S.Syntax.answers c.args.known.now.syntax.now) c.args.known.now in
    let es = c.args.expressions.now.items in
    let item = c.index.result.now in
    IfErr-weaker c.from_residual.result (Reports (Misnames m (contains bytes_eq c.new-hidden.result) item.now)) _
    (λ e h. record {
      e = item.now;
      there = has_image (λ (r : Bor Expression). r.now) es item (is_there es c.loop-place.place item (omega arith) c.index.ensures);
      told = subst (λ (x : Text → Bool). Reports (Misnames m x item.now) e) (nothing_hides c.new-hidden.result.keys c.new-hidden.ensures.empty) h;
    }) (search rules)
