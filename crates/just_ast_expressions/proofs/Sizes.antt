-- How many expressions there are in one.
use Rattle.std.proofs.Common.{◌≡◌, ◌⊎◌, inl, inr, sym, ◌∙◌, ap, ℕ, suc, ◌<◌, ◌≤◌, arith, List, [], ◌∷◌, length}
use Rattle.std.specs.List.{sum, sum_by}
use Rattle.std.proofs.lemmas.List.Sums.{sum-map, sum_by-cons}
use Rattle.just_ast_expressions.specs.Parts.{layer_parts, parts, shape_parts}
use Rattle.just_ast_expressions.specs.declared.expression.Expression.{Expression, out-Expression, fold-Expression, fold_out-Expression}
use Rattle.just_ast_expressions.specs.declared.expression.Shape.{Shape, out-Shape, roll-Shape, roll-out-Shape, fold-Shape, fold-roll-Shape}
use Rattle.just_ast_expressions.specs.declared.expression.Shape.TheOpen.{Shape-F, Expression-F}
use Rattle.just_ast_expressions.proofs.Layers.{parts_map}

abbrev shape_size : Shape-F ℕ ℕ → ℕ
shape_size layer = suc (sum (layer_parts layer))

abbrev whole_size : Expression-F ℕ ℕ → ℕ
whole_size expression = expression.shape

-- itself, and those in its parts
unfoldable pub size : Expression → ℕ
size = fold-Expression ℕ ℕ shape_size whole_size

abbrev of_shape : Shape → ℕ
of_shape = fold-Shape ℕ ℕ shape_size whole_size

of_layer : (s : Shape-F Shape Expression) → of_shape (roll-Shape s) ≡ suc (sum_by size (layer_parts s))
unfolding size
of_layer s = fold-roll-Shape ℕ ℕ shape_size whole_size s ∙ ap (λ ns. suc (sum ns)) (parts_map of_shape size s) ∙ ap suc (sum-map size (layer_parts s))

pub size_is : (e : Expression) → size e ≡ suc (sum_by size (parts e))
unfolding size shape_parts
size_is e = fold_out-Expression ℕ ℕ shape_size whole_size e ∙ ap of_shape (sym (roll-out-Shape (out-Expression e).shape)) ∙ of_layer (out-Shape (out-Expression e).shape)

-- the parts that are its own are less together
pub parts_smaller : (e : Expression) (own : List Expression) → (own ≡ parts e) ⊎ (own ≡ []) → sum_by size own < size e
parts_smaller e own (inl all) = let whole = size_is e in let same = ap (sum_by size) all in omega arith
parts_smaller e own (inr none) = let whole = size_is e in let same = ap (sum_by size) none in omega arith

-- each counts
pub sizes_count : (es : List Expression) → length es ≤ sum_by size es
sizes_count [] = omega arith
sizes_count (e ∷ es) = let one = size_is e in let others = sizes_count es in let both = sum_by-cons size e es in omega arith
