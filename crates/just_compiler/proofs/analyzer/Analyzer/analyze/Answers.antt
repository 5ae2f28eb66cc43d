use Rattle.std.proofs.Common.{List, rules, subst}
use Rattle.std.specs.HashMap.{get}
use Rattle.just_names.specs.Texts.{Text}
use Rattle.just_names.specs.declared.number.Number.{Number}
use Rattle.just_ast_expressions.specs.declared.string_literal.StringLiteral.{StringLiteral}
use Rattle.just_parts.specs.Asts.{same_ast_key}
use Rattle.just_parts.specs.Layers.{given_of}
use Rattle.just_module_tree.specs.Modules.{heading, label}
use Rattle.just_overrides.specs.Inserted.{AreInserted}
use Rattle.just_compiler.specs.Analyzed.{IsAnalyzed}
use Rattle.just_compiler.proofs.analyzer.Analyzer.analyze.Goals as goal

pub returns-in_err-reserve-clause-named : goal.returns-in_err-reserve-clause-named
returns-in_err-reserve-clause-named g c = search (rules, c.from_residual-in_err-reserve.ensures.1, c.from_residual-in_err-reserve.ensures.0)

pub returns-clause-made : goal.returns-clause-made
returns-clause-made g c =
    let given = given_of (g.S.Syntax.answers c.args.syntax.now) (g.E.ConstantEvaluation.answers c.args.evaluation.now) c.args.config.now.overrides in
    let pairs : List (Number × Text) = c.in_ok-analyzed.analyzed.1.overridden.items in
    let top = λ (groups : List StringLiteral). heading (c.args.module_path.now, c.args.root.now) (label c.args.name c.args.doc groups c.args.private) in
    let added : AreInserted pairs c.args.overrides.now c.insert_all.new.overrides = search rules in
    record {
      overridden = pairs;
      analyzed = subst (λ (groups : List StringLiteral). IsAnalyzed given (get same_ast_key c.args.asts.now) c.args.loaded.now (top groups) c.in_ok-analyzed.analyzed.0 c.in_ok-analyzed.analyzed.1.recipes pairs) c.in_ok-groups.ensures c.in_ok-analyzed.ensures.analyzed;
      added = added;
    }
