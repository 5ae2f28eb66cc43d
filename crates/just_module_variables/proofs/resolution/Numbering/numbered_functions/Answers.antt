use Rattle.std.proofs.Common.{rules, ◌≡◌, ◌∙◌, [], Bor, IfOk, ap, map, subst}
use Rattle.std.specs.Map.{values_of}
use Rattle.std.proofs.lemmas.Map.Iter.{iter_end}
use Rattle.just_ast_definitions.specs.declared.function_definition.FunctionDefinition.{FunctionDefinition}
use Rattle.just_table.specs.Entries.{put_all}
use Rattle.just_module_variables.specs.Numbered.{function_numbered, name_of_function}
use Rattle.just_module_variables.specs.loops.Numbering.{number_here}
use Rattle.just_module_variables.proofs.resolution.Numbering.numbered_functions.Goals as goal

pub returns-clause-made : goal.returns-clause-made
returns-clause-made g c =
    let now : Bor FunctionDefinition → FunctionDefinition = λ f. f.now in
    let start : c.into_iter-function-iterator.result ≡ values_of c.args.self.now.known.functions.now = first_of (search rules, cc) in
    let all = (iter_end now (values_of c.args.self.now.known.functions.now) c.loop-function.yielded c.into_iter-function-iterator.result c.loop-function.function-iterator c.next.new.self c.next.result start c.loop-function.yielded_by c.in-None.is c.next.ensures.steps).0 in
    subst (λ xs. IfOk c.from_values.result (λ made. made ≡ put_all name_of_function [] xs))
    (c.loop-function.invariant ∙ ap (map (function_numbered (number_here (g.S.Syntax.answers c.args.self.now.known.syntax.now) c.args.self.now))) all) c.from_values.ensures.all
