use Rattle.std.proofs.Common.{◌≡◌, ◌∙◌, ◌+◌, List, [], ◌∷◌, ◌++◌, Bool, true, false, cond, ap, refl, sym, take}
use Rattle.std.specs.Prelude.{◌||◌}
use Rattle.std.specs.List.{list_any}
use Rattle.std.specs.Str.{bytes_eq}
use Rattle.std.proofs.lemmas.List.{take_all, take_more}
use Rattle.just_names.specs.Name.{text_of_name}
use Rattle.just_ast_definitions.specs.declared.function_definition.FunctionParameter.{FunctionParameter}
use Rattle.just_parts.specs.Known.{hides}
use Rattle.just_name_resolution.proofs.Checked.{nothing_hides}
use Rattle.just_name_resolution.proofs.name_checks.hidden_names.Goals as goal

or_last : (a : Bool) → (a || false) ≡ cond a true false
or_last true = refl
or_last false = refl

or_more : (a b r : Bool) → (a || cond b true r) ≡ cond b true (a || r)
or_more true true r = refl
or_more true false r = refl
or_more false true r = refl
or_more false false r = refl

any_more : {A : Type 0} (f : A → Bool) (xs : List A) (y : A) → list_any f (xs ++ y ∷ []) ≡ cond (f y) true (list_any f xs)
any_more f [] y = or_last (f y)
any_more f (x ∷ xs) y = ap (λ r. f x || r) (any_more f xs y) ∙ or_more (f x) (f y) (list_any f xs)

pub loop-parameter-init : goal.loop-parameter-init
loop-parameter-init c = λ name i. nothing_hides c.new-names.result.keys c.new-names.ensures.empty i name

pub loop-parameter-preserved : goal.loop-parameter-preserved
loop-parameter-preserved c = λ name.
    let ps = c.args.parameters.now in
    let at = c.loop-parameter.parameter-index in
    let item = c.parameter-item.result in
    let text : c.new.result ≡ text_of_name item.name = c.new.ensures ∙ c.lexeme.ensures in
    let more : take (at + 1) ps ≡ take at ps ++ item ∷ [] = take_more ps at item c.loop-parameter-test.true ∙ ap (λ p. take at ps ++ p ∷ []) (sym c.parameter-item.is) in
    c.in_ok-insert.ensures.updates.0 name ∙ (λ i. cond (bytes_eq (text i) name) true (c.loop-parameter.invariant name i))
    ∙ sym (ap (λ qs. hides qs name) more ∙ any_more (λ (p : FunctionParameter). bytes_eq (text_of_name p.name) name) (take at ps) item)

pub returns : goal.returns
returns c = λ name.
    c.loop-parameter.invariant name ∙ ap (λ ps. hides ps name) (take_all c.loop-parameter.parameter-index c.args.parameters.now c.loop-parameter-test.false)
