use Rattle.std.proofs.Common.{◌≡◌, ◌∙◌, [], ◌∷◌, ◌++◌, ap, sym}
use Rattle.std.specs.Option.{option_to_list}
use Rattle.std.proofs.lemmas.List.{append-nil, map-append}
use Rattle.std.proofs.lemmas.Result.{IfOk-from_err}
use Rattle.just_names.specs.declared.name.Name.{Name}
use Rattle.just_module_contents.specs.Labels.{doc_of}
use Rattle.just_module_contents.specs.Definitions.{aliases_in, docs_in, functions_in, lists_in, recipes_in, sets_in, variables_in}
use Rattle.just_module_contents.specs.Recipes.{lent}
use Rattle.just_module_contents.proofs.definitions.Definitions.add_module.Goals as goal

pub returns-in_err-push : goal.returns-in_err-push
returns-in_err-push c = IfOk-from_err c.from_residual.result _ c.from_residual.ensures.0

pub returns-in_err-push-2 : goal.returns-in_err-push-2
returns-in_err-push-2 c = IfOk-from_err c.from_residual-in_err-push-2.result _ c.from_residual-in_err-push-2.ensures.0

pub returns-in_ok-push-2 : goal.returns-in_ok-push-2
returns-in_ok-push-2 c =
    let old = c.args.self.now in
    let pushed : c.push.new.self.items ≡ old.modules.items ++ c.copied.result ∷ [] = c.in_ok-push.ensures.items in
    let docs : lent c.push-in-Some.new.self.items ≡ docs_in old ++ option_to_list (doc_of c.args.attributes.now) =
    ap lent c.in_ok-push-2.ensures.items ∙ map-append (λ r. r.now) old.docs.items (c.in-Some.expression ∷ [])
    ∙ ap (λ d. docs_in old ++ option_to_list d) c.in-Some.ensures in
    λ i. record {
      recipes = recipes_in old;
      functions = functions_in old;
      variables = variables_in old;
      aliases = aliases_in old;
      modules = (pushed ∙ ap (λ (n : Name). old.modules.items ++ n ∷ []) c.copied.ensures) i;
      named = old.named.items;
      docs = docs i;
      unexports = old.unexports.items;
      sets = sets_in old;
      lists = lists_in old;
    }

pub returns-in_default : goal.returns-in_default
returns-in_default c =
    let old = c.args.self.now in
    let pushed : c.push.new.self.items ≡ old.modules.items ++ c.copied.result ∷ [] = c.in_ok-push.ensures.items in
    let docs : docs_in old ≡ docs_in old ++ option_to_list (doc_of c.args.attributes.now) =
    sym (append-nil (docs_in old)) ∙ ap (λ d. docs_in old ++ option_to_list d) c.in_default.ensures in
    λ i. record {
      recipes = recipes_in old;
      functions = functions_in old;
      variables = variables_in old;
      aliases = aliases_in old;
      modules = (pushed ∙ ap (λ (n : Name). old.modules.items ++ n ∷ []) c.copied.ensures) i;
      named = old.named.items;
      docs = docs i;
      unexports = old.unexports.items;
      sets = sets_in old;
      lists = lists_in old;
    }
