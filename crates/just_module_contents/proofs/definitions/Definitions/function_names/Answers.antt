use Rattle.std.proofs.Common.{◌≡◌, ◌≤◌, ◌∙◌, ap, length, subst, sym}
use Rattle.std.proofs.lemmas.List.{take_all}
use Rattle.just_module_contents.specs.Contents.{function_names, signatures}
use Rattle.just_module_contents.specs.Definitions.{functions_in}
use Rattle.just_module_contents.proofs.Signatures.{function_more}
use Rattle.just_module_contents.proofs.RecipePlaces.{length-lent}
use Rattle.just_module_contents.proofs.definitions.Definitions.function_names.Goals as goal

pub loop-place-preserved : goal.loop-place-preserved
loop-place-preserved c =
    function_more (functions_in c.args.self.now) c.loop-place.names.items c.push.new.self.items c.loop-place.place c.function_at.result.now c.copied.result c.loop-place.invariant c.function_at.ensures c.copied.ensures c.in_ok-push.ensures.items

pub returns : goal.returns
returns c =
    let long : length (functions_in c.args.self.now) ≡ length c.args.self.now.functions.items = length-lent c.args.self.now.functions.items in
    let count : c.len-place-end.result ≡ length c.args.self.now.functions.items = c.len-place-end.ensures ∙ c.args.self.now.functions.ok.0 in
    c.loop-place.invariant ∙ ap (λ fs. function_names (signatures fs)) (take_all c.loop-place.place (functions_in c.args.self.now) (subst (λ n. n ≤ c.loop-place.place) (count ∙ sym long) c.loop-place-test.false))
