use Rattle.std.proofs.Common.{◌≡◌, ◌++◌, map}
use Rattle.just_recipe_values.specs.Among.{value_in_module}
use Rattle.just_recipe_values.specs.Valued.{last_doc, valued_named}
use Rattle.just_recipe_values.proofs.Judging.{IsLeft}
use Rattle.just_recipe_values.proofs.attributes.valued_attributes.Given as goal

abbrev pub invariant-loop-named : goal.invariant-loop-named
invariant-loop-named g l =
    let value = value_in_module (g.E.ConstantEvaluation.answers l.among.evaluation.now) l.among in
    let rest = l.named-iterator.rest.items in
    record {
      left : IsLeft value l.fn.attributes rest;
      made : l.made.items ++ map (valued_named value) rest ≡ map (valued_named value) l.fn.attributes;
      doc : last_doc value rest l.doc ≡ last_doc value l.fn.attributes l.fn.doc;
    }
