-- Recipes that are found by a number.
use Rattle.std.proofs.Common.{◌≡◌, ℕ, Bool, true, false, [], ◌∷◌, Option, Some, None, refl, sym, ap, ◌∙◌, eqb, cond, IfSome}
use Rattle.std.proofs.lemmas.Bool.{eqb-true}
use Rattle.std.specs.Option.{option_copied}
use Rattle.std.specs.Borrow.{Bor}
use Rattle.just_recipe.specs.declared.dependency.Dependency.{Dependency}
use Rattle.just_recipe.specs.declared.recipe.Recipe.{Recipe}
use Rattle.just_justfile.specs.Closed.{HeldRecipes, IsHeld}
use Rattle.just_recipe.specs.Recipes.{find_number}

number_step : (b : Bool) (x : Recipe Dependency) (rest : Option (Recipe Dependency)) (n : ℕ) (r : Recipe Dependency) → (b ≡ true → x.number.0 ≡ n) →
    (rest ≡ Some r → r.number.0 ≡ n) → cond b (Some x) rest ≡ Some r → r.number.0 ≡ n
number_step true x rest n r here later e = let same : x ≡ r = (cc) in ap (λ (q : Recipe Dependency). q.number.0) (sym same) ∙ here refl
number_step false x rest n r here later e = later e

pub number_found : (recipes : HeldRecipes) (n : ℕ) (r : Recipe Dependency) → find_number recipes n ≡ Some r → r.number.0 ≡ n
number_found [] n r e = (cc)
number_found (x ∷ xs) n r e = number_step (eqb x.number.0 n) x (find_number xs n) n r (eqb-true x.number.0 n) (number_found xs n r) e

-- a recipe that is found by a number is held
pub held_found : (recipes : HeldRecipes) (n : ℕ) (o : Option (Bor (Recipe Dependency))) → option_copied o ≡ find_number recipes n → IfSome o (λ r. IsHeld recipes r.now)
held_found recipes n None e = tt
held_found recipes n (Some r) e = ap (find_number recipes) (number_found recipes n r.now (sym e)) ∙ sym e
