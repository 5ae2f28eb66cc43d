-- Induction over the parts of expressions.
use Rattle.std.proofs.Common.{ℕ, suc, zero, ◌<◌, arith, List, [], ◌∷◌}
use Rattle.std.specs.List.{AllByRecursion, sum_by}
use Rattle.std.proofs.lemmas.List.Sums.{sum_by-cons}
use Rattle.just_ast_expressions.specs.declared.expression.Expression.{Expression}
use Rattle.just_ast_expressions.specs.Parts.{parts}
use Rattle.just_ast_expressions.proofs.Sizes.{size, size_is}

-- what holds of an expression where it holds of its parts holds of all
module _ (P : Expression → Type 0) (step : (e : Expression) → AllByRecursion P (parts e) → P e) where
  all_below : (n : ℕ) → ((e : Expression) → size e < n → P e) → (es : List Expression) → sum_by size es < n → AllByRecursion P es
  all_below n holds [] less = tt
  all_below n holds (e ∷ es) less =
      (holds e (omega (arith, sum_by-cons size e es)), all_below n holds es (omega (arith, sum_by-cons size e es)))

  below : (n : ℕ) (e : Expression) → size e < n → P e
  below zero e less = absurd (omega arith)
  below (suc n) e less = step e (all_below n (below n) (parts e) (omega (arith, size_is e)))

  pub over_all_parts : (e : Expression) → P e
  over_all_parts e = below (suc (size e)) e (omega arith)
