-- Texts in pieces.
use Rattle.std.proofs.Common.{ℕ, List, ◌≡◌, ◌∙◌, ap, ◌++◌, append_assoc}

-- three pieces, of which the first is written in three itself
pub three_parts : (a r b c d : List ℕ) → (a ++ (r ++ b)) ++ (c ++ d) ≡ a ++ (r ++ (b ++ (c ++ d)))
three_parts a r b c d = append_assoc a (r ++ b) (c ++ d) ∙ ap (λ t. a ++ t) (append_assoc r b (c ++ d))
