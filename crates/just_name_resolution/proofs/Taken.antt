-- What is taken off a stack.
use Rattle.std.proofs.Common.{◌≡◌, sym, ◌∙◌, ap, ℕ, List, ◌++◌, length, take, drop, reverse}
use Rattle.std.proofs.Math.Seq.{take-append_seam}
use Rattle.std.proofs.lemmas.List.{reverse-append, take-append-drop}
use Rattle.just_ast_expressions.specs.declared.expression.Expression.{Expression}

-- the first of a list, by their number
pub front : (n : ℕ) (some below stack : List Expression) → stack ≡ some ++ below → length some ≡ n → some ≡ take n stack
front n some below stack same count =
    sym (take-append_seam some below) ∙ ap (λ k. take k (some ++ below)) count ∙ ap (take n) (sym same)

-- the last of a list are the first of it in reverse
pub reverse_split : (n : ℕ) (built : List Expression) → reverse built ≡ reverse (drop n built) ++ reverse (take n built)
reverse_split n built = ap reverse (sym (take-append-drop n built)) ∙ reverse-append (take n built) (drop n built)
