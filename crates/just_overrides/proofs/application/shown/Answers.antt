use Rattle.std.proofs.Common.{◌≡◌, ◌∙◌, ◌++◌, ◌∷◌, [], ap}
use Rattle.std.specs.Prelude.{string_bytes}
use Rattle.std.proofs.lemmas.Result.{IfOk-weaker}
use Rattle.just_module_tree.specs.Overrides.{shown_key}
use Rattle.just_names.specs.Texts.{Text, text_of}
use Rattle.just_overrides.proofs.application.shown.Goals as goal

pub returns : goal.returns
returns c =
    let key = c.args.key.now in
    let joined = c.in_ok-path.ensures in
    let bytes : string_bytes c.in_ok-format.field-0 ≡ text_of c.in_ok-path.path.components c.in_ok-path.path.spaced = c.in_ok-format.ensures.ok in
    let is : text_of c.in_ok-path.path.components c.in_ok-path.path.spaced ≡ shown_key key = λ i. text_of ((joined.0 ∙ ap (λ n. key.0.components ++ n ∷ []) c.as_str.ensures) i) (joined.1 i) in
    IfOk-weaker c.from_string.result (λ (t : Text). t ≡ string_bytes c.in_ok-format.field-0) (λ (t : Text). t ≡ shown_key key) (λ t e. e ∙ (bytes ∙ is)) c.from_string.ensures
