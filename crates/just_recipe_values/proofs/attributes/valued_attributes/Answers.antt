use Rattle.std.proofs.Common.{rules, ◌≡◌, ◌∙◌, ◌∷◌, length, map}
use Rattle.std.proofs.lemmas.List.{nil_from_length}
use Rattle.std.proofs.lemmas.Result.{IfErr-weaker}
use Rattle.just_errors.specs.Causes.{Reports}
use Rattle.just_module_contents.specs.RecipeValues.{patterns_in}
use Rattle.just_parts.specs.Scopes.{compiled_expressions}
use Rattle.just_recipe_values.specs.Among.{value_in_module}
use Rattle.just_recipe_values.specs.loops.Judged.{Faults}
use Rattle.just_recipe_values.specs.Valued.{last_doc, valued_named}
use Rattle.just_recipe_values.proofs.Judging.{less_left, none_left, there_next, told_next}
use Rattle.just_recipe_values.proofs.Saying.{all_made, doc_all, doc_next, one_made, under, valued_under}
use Rattle.just_recipe_values.proofs.attributes.valued_attributes.Goals as goal

pub valued_attribute-requires : goal.valued_attribute-requires
valued_attribute-requires g c =
    let value = value_in_module (g.E.ConstantEvaluation.answers c.args.among.now.evaluation.now) c.args.among.now in
    let rest = c.loop-named.named-iterator.rest.items in
    let more = c.next.new.self.rest.items in
    let named = c.in-Some.named in
    let next : rest ≡ named ∷ more = search rules in
    λ e there. c.requires e (there_next value c.args.attributes rest more named c.loop-named.invariant.left next e there)

pub returns-in_err-attribute-clause-named : goal.returns-in_err-attribute-clause-named
returns-in_err-attribute-clause-named g c =
    let value = value_in_module (g.E.ConstantEvaluation.answers c.args.among.now.evaluation.now) c.args.among.now in
    let rest = c.loop-named.named-iterator.rest.items in
    let more = c.next.new.self.rest.items in
    let named = c.in-Some.named in
    let next : rest ≡ named ∷ more = search rules in
    IfErr-weaker c.from_residual-in_err-attribute.result (Reports (Faults value (compiled_expressions named.attribute) (patterns_in named.attribute))) _
    (told_next value c.args.attributes rest more named c.loop-named.invariant.left next) (search rules)

pub loop-named-preserved : goal.loop-named-preserved
loop-named-preserved g c =
    let value = value_in_module (g.E.ConstantEvaluation.answers c.args.among.now.evaluation.now) c.args.among.now in
    let all = c.args.attributes in
    let rest = c.loop-named.named-iterator.rest.items in
    let more = c.next.new.self.rest.items in
    let named = c.in-Some.named in
    let next : rest ≡ named ∷ more = search rules in
    let a = c.in_ok-attribute.attribute in
    record {
      left = less_left value all rest more named c.loop-named.invariant.left next c.in_ok-attribute.ensures.kept;
      made = one_made (valued_named value) (map (valued_named value) all) c.loop-named.made.items rest c.loop-named.invariant.made named more
          (under named a) c.push.new.self.items next (valued_under value named a c.in_ok-attribute.ensures.attribute) c.in_ok-push.ensures.items;
      doc = doc_next value rest c.loop-named.doc (last_doc value all c.args.doc) c.loop-named.invariant.doc named more c.in_ok-attribute.next next c.in_ok-attribute.ensures.doc;
    }

pub returns-clause-kept : goal.returns-clause-kept
returns-clause-kept g c =
    let value = value_in_module (g.E.ConstantEvaluation.answers c.args.among.now.evaluation.now) c.args.among.now in
    let rest = c.loop-named.named-iterator.rest.items in
    let zero : length rest ≡ 0 = search rules in
    none_left value c.args.attributes rest c.loop-named.invariant.left (nil_from_length rest zero)

pub returns-clause-attributes : goal.returns-clause-attributes
returns-clause-attributes g c =
    let value = value_in_module (g.E.ConstantEvaluation.answers c.args.among.now.evaluation.now) c.args.among.now in
    let rest = c.loop-named.named-iterator.rest.items in
    let zero : length rest ≡ 0 = search rules in
    c.from_vec.ensures
    ∙ all_made (valued_named value) (map (valued_named value) c.args.attributes) c.loop-named.made.items rest c.loop-named.invariant.made (nil_from_length rest zero)

pub returns-clause-doc : goal.returns-clause-doc
returns-clause-doc g c =
    let value = value_in_module (g.E.ConstantEvaluation.answers c.args.among.now.evaluation.now) c.args.among.now in
    let rest = c.loop-named.named-iterator.rest.items in
    let zero : length rest ≡ 0 = search rules in
    doc_all value rest c.loop-named.doc (last_doc value c.args.attributes c.args.doc) c.loop-named.invariant.doc (nil_from_length rest zero)
