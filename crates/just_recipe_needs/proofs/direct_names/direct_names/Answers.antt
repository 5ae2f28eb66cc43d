use Rattle.std.proofs.Common.{◌≡◌, ◌∙◌, ◌∷◌, [], ap, arith, rules}
use Rattle.std.specs.HashSet.{contains}
use Rattle.std.specs.Str.{bytes_eq}
use Rattle.std.proofs.lemmas.List.{nil_from_length}
use Rattle.just_module_contents.specs.RecipeNames.{written_scopes}
use Rattle.just_name_resolution.specs.Lent.{tables_in}
use Rattle.just_recipe_names.specs.Steps.{event_of, events, scopes_from}
use Rattle.just_recipe_needs.proofs.Walked.{nothing_hides, walk_begins, walk_ends, walk_hides, walk_reads}
use Rattle.just_recipe_needs.proofs.direct_names.direct_names.Goals as goal

pub loop-step-init : goal.loop-step-init
loop-step-init g c =
    let all : c.into_iter-step-iterator.result.rest.items ≡ c.in_ok-step-items.step-items.items = search rules in
    walk_begins (tables_in c.args.tables.now) (written_scopes (g.S.Syntax.answers c.args.syntax.now) c.args.settings.now c.args.recipe.now) (contains bytes_eq c.new-hidden.result)
    (events c.into_iter-step-iterator.result.rest.items) (record { variables = c.new.result; functions = c.new-2.result })
    (nothing_hides c.new-hidden.result.keys c.new-hidden.ensures.empty) (ap (λ s. scopes_from [] (events s)) all ∙ c.in_ok-step-items.ensures) c.new.ensures.empty c.new-2.ensures.empty

pub loop-step-preserved-in-Continue-branch-2 : goal.loop-step-preserved-in-Continue-branch-2
loop-step-preserved-in-Continue-branch-2 g c =
    let rest = events c.next.new.self.rest.items in
    let next = ap events c.in-Some.ensures.steps.0 ∙ ap (λ s. event_of s ∷ rest) c.in-Reads.is in
    walk_reads (tables_in c.args.tables.now) (written_scopes (g.S.Syntax.answers c.args.syntax.now) c.args.settings.now c.args.recipe.now) (contains bytes_eq c.loop-step.hidden)
    (events c.loop-step.step-iterator.rest.items) rest c.loop-step.names c.loop-step.invariant c.in-Reads.expression.now c.note_expression.new.names next c.in_ok-note_expression-in-Reads.ensures

pub loop-step-preserved : goal.loop-step-preserved
loop-step-preserved g c =
    let rest = events c.next.new.self.rest.items in
    let next = ap events c.in-Some.ensures.steps.0 ∙ ap (λ s. event_of s ∷ rest) c.in-Hides.is in
    walk_hides (tables_in c.args.tables.now) (written_scopes (g.S.Syntax.answers c.args.syntax.now) c.args.settings.now c.args.recipe.now) (contains bytes_eq c.loop-step.hidden)
    (events c.loop-step.step-iterator.rest.items) rest c.loop-step.names c.loop-step.invariant c.in-Hides.parameter.now (contains bytes_eq c.hide.new.hidden) next c.in_ok-hide-in-Hides.ensures

pub returns : goal.returns
returns g c =
    let rest = c.loop-step.step-iterator.rest in
    let none : rest.items ≡ [] = nil_from_length rest.items (omega (arith, rest.ok, c.in-None.ensures.steps.0)) in
    walk_ends (tables_in c.args.tables.now) (written_scopes (g.S.Syntax.answers c.args.syntax.now) c.args.settings.now c.args.recipe.now) (contains bytes_eq c.loop-step.hidden)
    (events rest.items) c.loop-step.names (ap events none) c.loop-step.invariant
