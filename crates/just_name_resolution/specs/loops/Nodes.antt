-- The expressions in one, and what waits beside some of them.
use Rattle.std.specs.Prelude.{◌≡◌, List, [], ◌∷◌, ◌++◌, drop, length}
use Rattle.just_ast_expressions.specs.declared.expression.Expression.{Expression}
use Rattle.just_ast_expressions.specs.Parts.{parts}

-- From those that wait, a walk over expressions leads back to where `whole` alone waited: each of them, the last of the
-- walk first, waited itself where its parts wait after it.
abbrev pub LeadsBack : Expression → List Expression → List Expression → Type 0
LeadsBack whole [] wait = wait ≡ whole ∷ []
LeadsBack whole (last ∷ before) wait = (others : List Expression) × (wait ≡ parts last ++ others) × LeadsBack whole before (last ∷ others)

-- some expressions lie on a stack, the first of them on top
abbrev pub LieOn : List Expression → List Expression → Type 0
LieOn some stack = stack ≡ some ++ drop (length some) stack
