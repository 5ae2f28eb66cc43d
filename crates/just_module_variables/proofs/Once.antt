-- What is evaluated of a module is evaluated once.
use Rattle.std.proofs.Common.{◌≡◌, ◌∙◌, Bool, true, false, List, Option, refl, sym, ap}
use Rattle.std.proofs.lemmas.Option.{same_Some}
use Rattle.just_names.specs.Texts.{Text}
use Rattle.just_module_contents.specs.Constants.{AreConstants, AsksFor, Evaluated, IsEvaluated, settings_among}
use Rattle.just_module_contents.specs.Contents.{Contents}
use Rattle.just_parts.specs.Evaluator.{Values, Wanted}
use Rattle.just_parts.specs.Known.{Known}
use Rattle.just_parts.specs.Layers.{Layers}
use Rattle.just_ast_expressions.specs.declared.expression.Expression.{Expression}

same_truth : (b c : Bool) → (b ≡ true → c ≡ true) → (c ≡ true → b ≡ true) → b ≡ c
same_truth true c to back = sym (to refl)
same_truth false true to back = back refl
same_truth false false to back = refl

-- the question is one
pub wanted_once : (k : Known) (overrides : Text → Option Text) (es : List Expression) (lists : Bool) (w v : Wanted) → AsksFor k overrides es lists w → AsksFor k overrides es lists v → w ≡ v
wanted_once k overrides es lists w v a b =
    let needed : ((name : Text) → w.needed name ≡ v.needed name) = λ name. same_truth (w.needed name) (v.needed name)
    (λ h. (b.needed name).1 ((a.needed name).0 h)) (λ h. (a.needed name).1 ((b.needed name).0 h)) in
    let assignments = a.assignments ∙ sym b.assignments in
    let functions = a.functions ∙ sym b.functions in
    let overriding = a.overrides ∙ sym b.overrides in
    let listed = a.lists ∙ sym b.lists in
    λ i. record { assignments = assignments i; functions = functions i; overrides = overriding i; needed = λ name. needed name i; lists = listed i }

module _ (layers : Layers) (m : Contents) where
  pub constants_once : (v w : Values) → AreConstants layers m v → AreConstants layers m w → v ≡ w
  constants_once v w a b = same_Some _ _ (sym a.answered ∙ (ap layers.evaluator.constants (wanted_once _ _ _ _ a.wanted b.wanted a.asked b.asked) ∙ b.answered))

  pub evaluated_once : (it other : Evaluated) → IsEvaluated layers m it → IsEvaluated layers m other → it ≡ other
  evaluated_once it other a b =
      let constants : it.constants ≡ other.constants = constants_once it.constants other.constants a.constants b.constants in
      let settings : it.settings ≡ other.settings = same_Some _ _ (sym a.settings ∙ (ap (settings_among layers m) constants ∙ b.settings)) in
      λ i. record { constants = constants i; settings = settings i }
