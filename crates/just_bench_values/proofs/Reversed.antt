-- Bindings from the last to the first.
use Rattle.std.proofs.Common.{◌≡◌, refl, sym, ◌∙◌, ap, subst, ℕ, ◌<◌, ◌-◌, ◌++◌, arith, List, [], ◌∷◌, length, get_or, map, reverse}
use Rattle.std.specs.List.{Contains}
use Rattle.std.proofs.lemmas.Grind.{reverse_onto}
use Rattle.std.proofs.lemmas.List.{get_or-reverse, length-reverse, map-append}
use Rattle.just_names.specs.Index.{AreDifferent, name_at}
use Rattle.just_names.specs.Texts.{Text}
use Rattle.just_names.specs.Name.{text_of_name}
use Rattle.just_ast_expressions.specs.declared.scope.Binding.{Binding}
use Rattle.just_bench_values.proofs.Scoped.{binding_names}

-- an element stands in a list that is turned round
pub contains_reverse : {X : Type 0} (xs : List X) (x : X) → Contains xs x → Contains (reverse xs) x
contains_reverse xs x there = (
  length xs - 1 - there.0,
  omega (arith, length-reverse xs, there.1),
  get_or-reverse xs (length xs - 1 - there.0) x (omega (arith, there.1))
      ∙ ap (λ k. get_or xs k x) (let same : length xs - 1 - (length xs - 1 - there.0) ≡ there.0 = omega (arith, there.1) in same)
      ∙ there.2,
)

-- names are different in both directions
different_reverse : (names : List Text) → AreDifferent (reverse names) → AreDifferent names
different_reverse names apart i j less inside same =
    let at : (k : ℕ) → k < length names → name_at (reverse names) (length names - 1 - k) ≡ name_at names k =
    λ k within. get_or-reverse names (length names - 1 - k) [] (omega arith)
    ∙ ap (name_at names) (let back : length names - 1 - (length names - 1 - k) ≡ k = omega arith in back) in
    apart (length names - 1 - j) (length names - 1 - i) (omega arith) (omega (arith, length-reverse names))
    (at j inside ∙ sym same ∙ sym (at i (omega arith)))

names_reverse : (bs : List Binding) → binding_names (reverse bs) ≡ reverse (binding_names bs)
names_reverse [] = refl
names_reverse (b ∷ bs) =
    ap binding_names (reverse_onto bs b [])
    ∙ map-append (λ (x : Binding). text_of_name x.name) (reverse bs) (b ∷ [])
    ∙ ap (λ names. names ++ binding_names (b ∷ [])) (names_reverse bs)
    ∙ sym (reverse_onto (binding_names bs) _ [])

pub names_different : (bs : List Binding) → AreDifferent (binding_names (reverse bs)) → AreDifferent (binding_names bs)
names_different bs apart = different_reverse (binding_names bs) (subst AreDifferent (names_reverse bs) apart)
