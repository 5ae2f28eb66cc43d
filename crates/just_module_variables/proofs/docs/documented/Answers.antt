use Rattle.std.proofs.Common.{◌∙◌, ap, rules}
use Rattle.std.specs.HashSet.{contains}
use Rattle.std.specs.Str.{bytes_eq}
use Rattle.std.proofs.lemmas.Result.{IfErr-weaker}
use Rattle.just_errors.specs.Causes.{Reports}
use Rattle.just_module_contents.specs.declared.labels.Label.{Label}
use Rattle.just_parts.specs.Evaluator.{FaultsAt, scope_values}
use Rattle.just_name_resolution.proofs.Checked.{nothing_hides}
use Rattle.just_parts.specs.Misnaming.{Misnames}
use Rattle.just_module_contents.specs.Constants.{text_of_value}
use Rattle.just_module_variables.specs.loops.Documented.{known_by, value_by_tables}
use Rattle.just_module_variables.proofs.Documenting.{doc_had, misnamed_told, names_kept, no_value_told}
use Rattle.just_module_variables.proofs.docs.documented.Goals as goal

pub returns-in_err-check_expression-clause-named : goal.returns-in_err-check_expression-clause-named
returns-in_err-check_expression-clause-named g c =
    let m = known_by (g.S.Syntax.answers c.args.given.now.syntax.now) c.args.variables.now in
    let value = value_by_tables (g.E.ConstantEvaluation.answers c.args.given.now.evaluation.now) c.args.variables.now (scope_values c.args.constants.now) in
    let said = c.args.label.now.doc_expression in
    let e = c.in-Some.expression in
    let hidden = contains bytes_eq c.new-hidden.result in
    let shown = nothing_hides c.new-hidden.result.keys c.new-hidden.ensures.empty in
    IfErr-weaker c.from_residual-in_err-check_expression.result (Reports (Misnames m hidden e)) _ (misnamed_told m value said e c.in-Some.is hidden shown) (search rules)

pub returns-in_err-value-clause-named : goal.returns-in_err-value-clause-named
returns-in_err-value-clause-named g c =
    let m = known_by (g.S.Syntax.answers c.args.given.now.syntax.now) c.args.variables.now in
    let value = value_by_tables (g.E.ConstantEvaluation.answers c.args.given.now.evaluation.now) c.args.variables.now (scope_values c.args.constants.now) in
    let said = c.args.label.now.doc_expression in
    let e = c.in-Some.expression in
    let hidden = contains bytes_eq c.new-hidden.result in
    let shown = nothing_hides c.new-hidden.result.keys c.new-hidden.ensures.empty in
    IfErr-weaker c.from_residual-in_err-value.result (FaultsAt (value e)) _ (no_value_told m value said e c.in-Some.is) (search rules)

pub returns-clause-kept : goal.returns-clause-kept
returns-clause-kept g c =
    let m = known_by (g.S.Syntax.answers c.args.given.now.syntax.now) c.args.variables.now in
    let value = value_by_tables (g.E.ConstantEvaluation.answers c.args.given.now.evaluation.now) c.args.variables.now (scope_values c.args.constants.now) in
    let said = c.args.label.now.doc_expression in
    let e = c.in-Some.expression in
    let hidden = contains bytes_eq c.new-hidden.result in
    let shown = nothing_hides c.new-hidden.result.keys c.new-hidden.ensures.empty in
    names_kept m value said e c.in-Some.is hidden shown c.in_ok-check_expression.ensures.kept

pub returns-clause-label : goal.returns-clause-label
returns-clause-label g c =
    let m = known_by (g.S.Syntax.answers c.args.given.now.syntax.now) c.args.variables.now in
    let value = value_by_tables (g.E.ConstantEvaluation.answers c.args.given.now.evaluation.now) c.args.variables.now (scope_values c.args.constants.now) in
    let said = c.args.label.now.doc_expression in
    let e = c.in-Some.expression in
    let hidden = contains bytes_eq c.new-hidden.result in
    let shown = nothing_hides c.new-hidden.result.keys c.new-hidden.ensures.empty in
    record {
      name = ap (λ (l : Label). l.name) c.in_ok-made.ensures;
      groups = ap (λ (l : Label). l.groups) c.in_ok-made.ensures;
      private = ap (λ (l : Label). l.private) c.in_ok-made.ensures;
      doc = doc_had m value said e c.in-Some.is c.in_ok-value.value c.in_ok-made-2.field-0 c.args.label.now.doc c.in_ok-value.ensures.value (c.in_ok-made-2.ensures ∙ ap text_of_value c.as_slice.ensures);
    }
