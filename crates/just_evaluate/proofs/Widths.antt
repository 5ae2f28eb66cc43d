-- The longest name, with one variable more.
use Rattle.std.proofs.Common.{◌≡◌, ℕ, ◌+◌, ◌<◌, max, List, [], ◌∷◌, ◌++◌, length, map, take, get_or, sym, ◌∙◌, ap, arith}
use Rattle.std.proofs.lemmas.List.{map-append, take_more}
use Rattle.just_ast_definitions.specs.declared.assignment.Assignment.{Assignment}
use Rattle.just_names.specs.Name.{text_of_name}
use Rattle.just_names.specs.Texts.{Text}
use Rattle.just_evaluate.specs.Lines.{name_width}

pub width_more : (vs : List (Assignment × List Text)) (v : Assignment × List Text) → name_width (vs ++ v ∷ []) ≡ max (name_width vs) (length (text_of_name v.0.name))
width_more [] v = omega arith
width_more (w ∷ vs) v = let rest = width_more vs v in omega (arith, rest)

-- one element more, as it is seen
pub seen_more : {A B : Type 0} (see : A → B) (xs : List A) (i : ℕ) (x : A) → i < length xs → x ≡ get_or xs i x → map see (take (i + 1) xs) ≡ map see (take i xs) ++ see x ∷ []
seen_more see xs i x more is = ap (map see) (take_more xs i x more ∙ ap (λ y. take i xs ++ y ∷ []) (sym is)) ∙ map-append see (take i xs) (x ∷ [])
