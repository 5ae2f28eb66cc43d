-- Which of two recipes is the default before the other.
use Rattle.std.proofs.Common.{◌≡◌, ◌≢◌, ◌==◌, ℕ, zero, suc, ◌<◌, true, false, List, [], ◌∷◌, length, get_or, Option, None, Some, Bor, refl, sym, ap, subst, ◌∙◌, arith, inl, inr, ◌+◌}
use Rattle.std.specs.List.{Contains}
use Rattle.std.specs.Option.{is_some, option_copied}
use Rattle.std.specs.Ordering.{ordering_reverse}
use Rattle.std.specs.declared.cmp.Ordering.{Ordering}
use Rattle.std.specs.declared.cmp.Ordering.TheVariants.{Less, Equal, Greater}
use Rattle.std.proofs.lemmas.Bool.{cases_Bool, cases_lt, eq-eqb, false≢true}
use Rattle.std.proofs.lemmas.Cmp.{nat_list_cmp_total, tied_itself}
use Rattle.just_recipe.specs.declared.dependency.Dependency.{Dependency}
use Rattle.just_recipe.specs.declared.dependency.UnresolvedDependency.{UnresolvedDependency}
use Rattle.just_recipe.specs.declared.recipe.Recipe.{Recipe}
use Rattle.just_recipe.specs.Recipes.{find_number, numbers}
use Rattle.just_recipes.proofs.Places.{found-number}
use Rattle.just_names.specs.declared.number.Number.{Number}
use Rattle.just_module_contents.specs.Defaults.{IsBefore, IsDefault, IsDefaultPlace, IsMarked}
use Rattle.just_module_contents.specs.loops.Defaults.{IsBetter, IsMarkedPlace}
use Rattle.just_module_contents.specs.Recipes.{name_of_recipe, line_of, recipe_at}
use Rattle.just_module_aliases.proofs.Later.{cmp, greater_not_less}
use Rattle.just_module_contents.specs.Resolved.{number_at}

equal_not_less : (o : Ordering) → o ≡ Equal → o ≢ Less
equal_not_less Less e = cc
equal_not_less Equal e = λ f. cc
equal_not_less Greater e = cc

pub itself : (a : Recipe UnresolvedDependency) → IsBefore a a
itself a = record { line = omega arith; name = λ e. equal_not_less (cmp (name_of_recipe a) (name_of_recipe a)) (tied_itself nat_list_cmp_total (name_of_recipe a)) }

pub by_line : (a b : Recipe UnresolvedDependency) → line_of a < line_of b → IsBefore a b
by_line a b l = record { line = omega (arith, l); name = λ e. absurd (omega (arith, l, e)) }

pub by_name : (a b : Recipe UnresolvedDependency) → line_of a ≡ line_of b → cmp (name_of_recipe b) (name_of_recipe a) ≡ Less → IsBefore a b
by_name a b e l = record { line = omega (arith, e); name = λ _. greater_not_less (cmp (name_of_recipe a) (name_of_recipe b)) (cmp (name_of_recipe b) (name_of_recipe a)) (nat_list_cmp_total.antisymm (name_of_recipe a) (name_of_recipe b)) l }

-- no less by two is no less by one
not_less : (x y z : List ℕ) (o : Ordering) → o ≡ cmp x y → o ≢ Less → cmp y z ≢ Less → cmp x z ≢ Less
not_less x y z Less e n m = λ l. n refl
not_less x y z Equal e n m = λ l. m (sym (nat_list_cmp_total.congr x y z (sym e)) ∙ l)
not_less x y z Greater e n m = λ l. m (nat_list_cmp_total.trans y x z (nat_list_cmp_total.antisymm y x ∙ ap ordering_reverse (sym e)) l)

pub by_two : (a b c : Recipe UnresolvedDependency) → IsBefore a b → IsBefore b c → IsBefore a c
by_two a b c p q = record {
  line = omega (arith, p.line, q.line);
  name = λ e. not_less (name_of_recipe a) (name_of_recipe b) (name_of_recipe c) (cmp (name_of_recipe a) (name_of_recipe b)) refl (p.name (omega (arith, p.line, q.line, e))) (q.name (omega (arith, p.line, q.line, e)));
}

-- a name that is no less, on one line
pub by_no_less : (a b : Recipe UnresolvedDependency) → line_of a ≡ line_of b → cmp (name_of_recipe a) (name_of_recipe b) ≢ Less → IsBefore a b
by_no_less a b e n = record { line = omega (arith, e); name = λ _. n }

-- one more recipe, which is resolved or is not
module _ (ns : List ℕ) (rs : List (Recipe UnresolvedDependency)) (n : ℕ) where
  -- one that is not
  pub passes_by : (o : Option ℕ) → (Contains ns (number_at rs n) → ⊥) → IsDefaultPlace ns rs n o → IsDefaultPlace ns rs (n + 1) o
  passes_by None out so = λ k h c. elim (cases_lt k n) [
    | inl l ↦ so k l c
    | inr l ↦ (let same : k ≡ n = omega (arith, h, l) in out (subst (λ i. Contains ns (number_at rs i)) same c))
  ]
  passes_by (Some best) out so = record {
    there = omega (arith, so.there);
    is_resolved = so.is_resolved;
    least = λ k h c. elim (cases_lt k n) [
      | inl l ↦ so.least k l c
      | inr l ↦ (let same : k ≡ n = omega (arith, h, l) in absurd (out (subst (λ i. Contains ns (number_at rs i)) same c)))
    ];
  }

  -- one that is, against the best so far
  pub takes_better : (o : Option ℕ) (next : ℕ) → Contains ns (number_at rs n) → IsBetter rs o n next → IsDefaultPlace ns rs n o → IsDefault ns rs (n + 1) next
  takes_better None next here is so =
      subst (IsDefault ns rs (n + 1)) (sym is) (record {
        there = omega arith;
        is_resolved = here;
        least = λ k h c. elim (cases_lt k n) [
          | inl l ↦ absurd (so k l c)
          | inr l ↦ (let same : n ≡ k = omega (arith, h, l) in subst (λ i. IsBefore (recipe_at rs n) (recipe_at rs i)) same (itself (recipe_at rs n)))
        ];
      })
  takes_better (Some best) next here is so = record {
    there = elim is.0 [ inl e ↦ omega (arith, e, so.there) | inr e ↦ omega (arith, e) ];
    is_resolved = elim is.0 [ inl e ↦ subst (λ i. Contains ns (number_at rs i)) (sym e) so.is_resolved | inr e ↦ subst (λ i. Contains ns (number_at rs i)) (sym e) here ];
    least = λ k h c. elim (cases_lt k n) [
      | inl l ↦ by_two (recipe_at rs next) (recipe_at rs best) (recipe_at rs k) is.1 (so.least k l c)
      | inr l ↦ (let same : n ≡ k = omega (arith, h, l) in subst (λ i. IsBefore (recipe_at rs next) (recipe_at rs i)) same is.2)
    ];
  }

pub read_before : (a b c d : Recipe UnresolvedDependency) → a ≡ c → b ≡ d → IsBefore a b → IsBefore c d
read_before a b c d p q is = subst (λ x. IsBefore x d) p (subst (IsBefore a) q is)

-- a number that stands among those of recipes is found
missed_at : (rs : List (Recipe Dependency)) (n k : ℕ) → k < length (numbers rs) → get_or (numbers rs) k n ≡ n → find_number rs n ≢ None
missed_at [] n k l e = absurd (omega (arith, l))
missed_at (r ∷ rs) n zero l e = rw (eq-eqb r.number.0 n e) (λ f. cc)
missed_at (r ∷ rs) n (suc k) l e = elim (cases_Bool (r.number.0 == n)) [
  | inl h ↦ rw h (λ f. cc)
  | inr h ↦ rw h (missed_at rs n k (omega (arith, l)) e)
]

-- whether a recipe is resolved, as it is looked up
module _ (rs : List (Recipe Dependency)) (n : ℕ) where
  pub is_resolved : (o : Option (Bor (Recipe Dependency))) → option_copied o ≡ find_number rs n → is_some o ≡ true → Contains (numbers rs) n
  is_resolved None e h = cc
  is_resolved (Some r) e h = found-number rs n r.now (sym e)

  pub is_not : (o : Option (Bor (Recipe Dependency))) → option_copied o ≡ find_number rs n → is_some o ≡ false → Contains (numbers rs) n → ⊥
  is_not None e h c = missed_at rs n c.0 c.1 c.2 (sym e)
  is_not (Some r) e h c = cc

-- the number of the one that is marked
pub marked_is : (rs : List (Recipe UnresolvedDependency)) (p : ℕ) (n : Number) → IsMarkedPlace rs (length rs) (Some p) → n.0 ≡ number_at rs p → IsMarked rs (Some n)
marked_is rs p n so e = λ k h yes. elim (cases_lt k p) [
  | inl l ↦ absurd (false≢true (sym (so.2 k h (λ same. omega (arith, l, same))) ∙ yes))
  | inr l ↦ elim (cases_lt p k) [
    | inl m ↦ absurd (false≢true (sym (so.2 k h (λ same. omega (arith, m, same))) ∙ yes))
    | inr m ↦ (let same : p ≡ k = omega (arith, l, m) in ap (λ i. Some i) (e ∙ ap (number_at rs) same))
  ]
]
