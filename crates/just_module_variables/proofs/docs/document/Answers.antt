use Rattle.std.proofs.Common.{◌∙◌, ◌<◌, List, [], ◌∷◌, ◌++◌, ap, arith, length, rules, subst, sym, take}
use Rattle.std.specs.List.{All, Contains}
use Rattle.std.proofs.lemmas.List.{take_all, take_more}
use Rattle.std.proofs.lemmas.List.Elements.{All-contains, All-more}
use Rattle.std.proofs.lemmas.Result.{IfErr-weaker}
use Rattle.just_errors.specs.Causes.{Reports}
use Rattle.just_module_contents.specs.Definitions.{contents_in}
use Rattle.just_module_contents.specs.declared.labels.Label.{Label}
use Rattle.just_parts.specs.Evaluator.{scope_values}
use Rattle.just_ast_expressions.specs.declared.expression.Expression.{Expression}
use Rattle.just_module_variables.specs.Documented.{AreDocumented}
use Rattle.just_module_variables.specs.loops.Documented.{DocFault, known_by, value_by_tables}
use Rattle.just_module_variables.proofs.Documenting.{IsSoundLabel, doc_there, documented_among, documented_more, label_told, label_valued, sound_docs}
use Rattle.just_module_variables.proofs.Walking.{is_there}
use Rattle.just_module_variables.proofs.docs.document.Goals as goal

pub documented-requires : goal.documented-requires
documented-requires g c =
    let answers = g.S.Syntax.answers c.args.given.now.syntax.now in
    let evaluator = g.E.ConstantEvaluation.answers c.args.given.now.evaluation.now in
    let m = contents_in c.args.definitions.now in
    let v = c.args.variables.now in
    let values = scope_values c.args.constants.now in
    let labels = c.args.labels.now in
    let i = c.loop-label.label-index in
    let label = c.label-item.result in
    let there : Contains labels label = is_there labels i label (omega arith) c.label-item.is in
    λ e is. c.requires.covered e (subst (λ (es : List Expression). Contains es e) (sym c.requires.docs) (doc_there labels label e there is))

pub returns-in_err-documented-clause-named : goal.returns-in_err-documented-clause-named
returns-in_err-documented-clause-named g c =
    let answers = g.S.Syntax.answers c.args.given.now.syntax.now in
    let evaluator = g.E.ConstantEvaluation.answers c.args.given.now.evaluation.now in
    let m = contents_in c.args.definitions.now in
    let v = c.args.variables.now in
    let values = scope_values c.args.constants.now in
    let labels = c.args.labels.now in
    let i = c.loop-label.label-index in
    let label = c.label-item.result in
    let there : Contains labels label = is_there labels i label (omega arith) c.label-item.is in
    IfErr-weaker c.from_residual-in_err-documented.result (Reports (DocFault (known_by answers v) (value_by_tables evaluator v values) label.doc_expression)) _
    (label_told answers evaluator m v c.requires.variables values labels label c.requires.docs there) (search rules)

pub loop-label-preserved : goal.loop-label-preserved
loop-label-preserved g c =
    let answers = g.S.Syntax.answers c.args.given.now.syntax.now in
    let evaluator = g.E.ConstantEvaluation.answers c.args.given.now.evaluation.now in
    let m = contents_in c.args.definitions.now in
    let v = c.args.variables.now in
    let values = scope_values c.args.constants.now in
    let labels = c.args.labels.now in
    let i = c.loop-label.label-index in
    let label = c.label-item.result in
    let value = value_by_tables evaluator v values in
    let first = c.in_ok-documented.field-0 in
    let one : IsSoundLabel (known_by answers v) value label = record { names = c.in_ok-documented.ensures.kept; values = λ e is. label_valued value label first e c.in_ok-documented.ensures.label is } in
    let inside : i < length labels = omega arith in
    record {
      made =
          subst (λ (ls : List Label). AreDocumented value ls c.push.new.self.items) (ap (λ (x : Label). take i labels ++ x ∷ []) c.label-item.is ∙ sym (take_more labels i label inside))
          (subst (AreDocumented value (take i labels ++ label ∷ [])) (sym c.in_ok-push.ensures.items)
          (documented_more value (take i labels) c.loop-label.made.items label first c.loop-label.invariant.made c.in_ok-documented.ensures.label));
      sound = All-more (IsSoundLabel (known_by answers v) value) labels i label inside c.loop-label.invariant.sound (subst (IsSoundLabel (known_by answers v) value) c.label-item.is one);
    }

pub returns-clause-kept : goal.returns-clause-kept
returns-clause-kept g c =
    let answers = g.S.Syntax.answers c.args.given.now.syntax.now in
    let evaluator = g.E.ConstantEvaluation.answers c.args.given.now.evaluation.now in
    let m = contents_in c.args.definitions.now in
    let v = c.args.variables.now in
    let values = scope_values c.args.constants.now in
    let labels = c.args.labels.now in
    let i = c.loop-label.label-index in
    let P = IsSoundLabel (known_by answers v) (value_by_tables evaluator v values) in
    let all : All P labels = subst (All P) (take_all i labels (omega arith)) c.loop-label.invariant.sound in
    sound_docs answers evaluator m v c.requires.variables values labels c.requires.docs (λ label there. All-contains P labels label all there)

pub returns-clause-labels : goal.returns-clause-labels
returns-clause-labels g c =
    let answers = g.S.Syntax.answers c.args.given.now.syntax.now in
    let evaluator = g.E.ConstantEvaluation.answers c.args.given.now.evaluation.now in
    let m = contents_in c.args.definitions.now in
    let v = c.args.variables.now in
    let values = scope_values c.args.constants.now in
    let labels = c.args.labels.now in
    let i = c.loop-label.label-index in
    documented_among answers evaluator m v c.requires.variables values labels c.loop-label.made.items
    (subst (λ (ls : List Label). AreDocumented (value_by_tables evaluator v values) ls c.loop-label.made.items) (take_all i labels (omega arith)) c.loop-label.invariant.made)
