-- Recipes, place by place.
use Rattle.std.proofs.Common.{◌≡◌, ℕ, zero, suc, ◌+◌, ◌<◌, List, [], ◌∷◌, ◌++◌, length, take, Some, sym, ◌∙◌, ap, subst, arith, inl, inr}
use Rattle.std.specs.List.{slice_get}
use Rattle.std.proofs.lemmas.Bool.{cases_lt}
use Rattle.std.proofs.lemmas.List.{length-map, take_more, map-append, get_or-map}
use Rattle.std.specs.Borrow.{Bor}
use Rattle.just_recipe.specs.declared.dependency.UnresolvedDependency.{UnresolvedDependency}
use Rattle.just_recipe.specs.declared.recipe.Recipe.{Recipe}
use Rattle.just_errors.specs.declared.compile_error.CompileErrorKind.TheVariants as kind
use Rattle.just_names.specs.Name.{text_of_name}
use Rattle.just_names.specs.declared.name.Name.{Name}
use Rattle.just_module_contents.specs.Recipes.{FollowsDefault, name_of_recipe, named_parameters, parameter_names, lent, no_recipe, recipe_at, names_of}
use Rattle.just_module_contents.specs.loops.Recipes.{NoneFollows}
use Rattle.just_module_contents.specs.Resolved.{number_at}
use Rattle.just_names.specs.Index.{name_at, Repeats, AreDifferent}
use Rattle.just_errors.specs.Causes.{Cause, Broken}
use Rattle.just_names.specs.Token.{Place}
use Rattle.just_module_contents.specs.Rules.{BreaksParameters, duplicate_parameter, required_after_default}

pub recipe_read : (rs : List (Recipe UnresolvedDependency)) (i : ℕ) (r : Recipe UnresolvedDependency) → slice_get rs i ≡ Some r → r ≡ recipe_at rs i
recipe_read [] i r e = cc
recipe_read (x ∷ rs) zero r e = let same : x ≡ r = cc in sym same
recipe_read (x ∷ rs) (suc i) r e = recipe_read rs i r e

-- the number of a recipe that is read
pub number_read : (rs : List (Recipe UnresolvedDependency)) (place : ℕ) (r : Recipe UnresolvedDependency) → slice_get rs place ≡ Some r → number_at rs place ≡ r.number.0
number_read [] place r e = cc
number_read (x ∷ rs) zero r e = let same : x ≡ r = cc in ap (λ (q : Recipe UnresolvedDependency). q.number.0) same
number_read (x ∷ rs) (suc place) r e = number_read rs place r e

-- the name at a place
pub name_at_place : (rs : List (Recipe UnresolvedDependency)) (i : ℕ) → i < length rs → name_at (names_of rs) i ≡ name_of_recipe (recipe_at rs i)
name_at_place rs i h = get_or-map name_of_recipe rs i no_recipe [] h

-- one more name
pub names_more : (rs : List (Recipe UnresolvedDependency)) (names more : List (List ℕ)) (i : ℕ) (x : List ℕ) (o : Recipe UnresolvedDependency) → names ≡ names_of (take i rs) → i < length rs → o ≡ recipe_at rs i → x ≡ name_of_recipe o → more ≡ names ++ x ∷ [] → more ≡ names_of (take (i + 1) rs)
names_more rs names more i x o so h at is e =
    e ∙ (ap (λ ns. ns ++ x ∷ []) so ∙ (ap (λ y. names_of (take i rs) ++ y ∷ []) (is ∙ ap name_of_recipe at)
    ∙ (sym (map-append name_of_recipe (take i rs) (recipe_at rs i ∷ [])) ∙ ap names_of (sym (take_more rs i no_recipe h)))))

-- a recipe with two parameters of one name
pub has_duplicate : (rs : List (Recipe UnresolvedDependency)) (i p q : ℕ) (o : Recipe UnresolvedDependency) (ps : List (List ℕ)) (second : Name) (place : Place) (recipe parameter : List ℕ) → i < length rs → o ≡ recipe_at rs i → recipe ≡ name_of_recipe o → ps ≡ parameter_names o → Repeats ps p q
    → slice_get (named_parameters o) q ≡ Some second → place ≡ second.token → parameter ≡ text_of_name second → BreaksParameters rs (Broken place (kind.DuplicateParameter recipe parameter))
has_duplicate rs i p q o ps second place recipe parameter h at name list repeats b told is =
    let all : ps ≡ parameter_names (recipe_at rs i) = list ∙ ap parameter_names at in
    subst (λ x. BreaksParameters rs (Broken x (kind.DuplicateParameter recipe parameter))) (sym told)
    (subst (λ t. BreaksParameters rs (Broken second.token (kind.DuplicateParameter recipe t))) (sym is)
    (duplicate_parameter i p q h (sym (name ∙ ap name_of_recipe at)) (subst (λ ns. Repeats ns p q) all repeats) (subst (λ (r : Recipe UnresolvedDependency). slice_get (named_parameters r) q ≡ Some second) at b)))

-- a recipe in which a parameter that needs a word follows one with a default
pub has_needed : (rs : List (Recipe UnresolvedDependency)) (i q : ℕ) (o : Recipe UnresolvedDependency) (second : Name) (place : Place) (parameter : List ℕ) → i < length rs → o ≡ recipe_at rs i → FollowsDefault o.parameters q
    → slice_get (named_parameters o) q ≡ Some second → place ≡ second.token → parameter ≡ text_of_name second → BreaksParameters rs (Broken place (kind.RequiredParameterFollowsDefaultParameter parameter))
has_needed rs i q o second place parameter h at follows b told is =
    subst (λ x. BreaksParameters rs (Broken x (kind.RequiredParameterFollowsDefaultParameter parameter))) (sym told)
    (subst (λ t. BreaksParameters rs (Broken second.token (kind.RequiredParameterFollowsDefaultParameter t))) (sym is)
    (required_after_default i q h (subst (λ (r : Recipe UnresolvedDependency). FollowsDefault r.parameters q) at follows) (subst (λ (r : Recipe UnresolvedDependency). slice_get (named_parameters r) q ≡ Some second) at b)))

-- no rule on parameters is broken
pub parameters_kept : (rs : List (Recipe UnresolvedDependency)) → ((k : ℕ) → k < length rs → AreDifferent (parameter_names (recipe_at rs k))) → ((k : ℕ) → k < length rs → NoneFollows (recipe_at rs k).parameters) → {c : Cause} → BreaksParameters rs c → ⊥
parameters_kept rs ps ds (duplicate_parameter i p q h e r x) = ps i h p q r.apart r.within r.same
parameters_kept rs ps ds (required_after_default i q h f x) = ds i h q f

-- a name has one place
pub one_place : (rs : List (Recipe UnresolvedDependency)) → AreDifferent (names_of rs) → (i j : ℕ) → i < length rs → j < length rs → name_of_recipe (recipe_at rs i) ≡ name_of_recipe (recipe_at rs j) → i ≡ j
one_place rs different i j in_i in_j e =
    let count : length (names_of rs) ≡ length rs = length-map rs name_of_recipe in
    let same : name_at (names_of rs) i ≡ name_at (names_of rs) j = name_at_place rs i in_i ∙ (e ∙ sym (name_at_place rs j in_j)) in
    elim (cases_lt i j) [
      | inl l ↦ absurd (different i j l (omega arith) same)
      | inr l ↦ elim (cases_lt j i) [
        | inl m ↦ absurd (different j i m (omega arith) (sym same))
        | inr m ↦ omega arith
      ]
    ]

pub length-lent : {A : Type 0} (lents : List (Bor A)) → length (lent lents) ≡ length lents
length-lent {A} lents = length-map lents (λ (r : Bor A). r.now)
