-- The recipes that stand, and those that are disabled, as they are split.
use Rattle.std.proofs.Common.{◌≡◌, ℕ, suc, ◌+◌, ◌<◌, List, [], ◌∷◌, ◌++◌, length, get_or, drop, Some, refl, add-one, sym, ◌∙◌, ap, arith, inl, ◌↔◌, append_assoc}
use Rattle.std.specs.BTreeSet.{BTreeSet}
use Rattle.std.specs.List.{AllZip, Contains, slice_get}
use Rattle.std.proofs.lemmas.Option.{get_or_from_slice_get, slice_get_within}
use Rattle.std.proofs.Math.Seq.{drop-cons}
use Rattle.just_graph.proofs.Members.{contained}
use Rattle.just_justfile.specs.declared.disabled.Disabled.{Disabled}
use Rattle.just_module_contents.specs.Recipes.{name_of_recipe, no_recipe}
use Rattle.just_module_contents.specs.Standing.{AreStanding, falls, none, stands}
use Rattle.just_module_recipes.specs.Linked.{AreDisabled, HasDisabled}
use Rattle.just_module_recipes.specs.Linked as linked
use Rattle.just_module_recipes.specs.Links.{Around, Disables, Stands}
use Rattle.just_module_recipes.specs.Making.{standing, standing_by}
use Rattle.just_module_recipes.specs.loops.Making.{AreExact, fallen, fallen_by}
use Rattle.just_module_recipes.specs.Rows.{no_paths}
use Rattle.just_module_recipes.proofs.Held.{none_in}
use Rattle.just_names.specs.Texts.{Text}
use Rattle.just_paths.specs.declared.modulepath.Modulepath.{Modulepath}
use Rattle.just_recipe.specs.declared.dependency.UnresolvedDependency.{UnresolvedDependency}
use Rattle.just_recipe.specs.declared.recipe.Recipe.{Recipe}

abbrev Source : Type 0
Source = Recipe UnresolvedDependency

-- one more of each
module _ (ss rest : List (BTreeSet Modulepath)) (rs : List Source) (at : ℕ) (s : BTreeSet Modulepath) (r : Source) (more : rest ≡ s ∷ ss) (there : slice_get rs at ≡ Some r) where
  pub split_within : at < length rs
  split_within = slice_get_within rs at r there

  dropped : drop at rs ≡ r ∷ drop (at + 1) rs
  dropped =
      drop-cons rs at r split_within ∙ (ap (λ x. x ∷ drop (suc at) rs) (get_or_from_slice_get rs at r r there) ∙ ap (λ n. r ∷ drop n rs) (sym (add-one at)))

  pub standing_step : (old new whole : List Source) → old ++ standing rest (drop at rs) ≡ whole → new ≡ old ++ standing_by s.keys r → new ++ standing ss (drop (at + 1) rs) ≡ whole
  standing_step old new whole o n =
      ap (λ xs. xs ++ standing ss (drop (at + 1) rs)) n ∙ (append_assoc old (standing_by s.keys r) (standing ss (drop (at + 1) rs))
      ∙ (ap (λ xs. old ++ standing (s ∷ ss) xs) (sym dropped) ∙ (ap (λ xs. old ++ standing xs (drop at rs)) (sym more) ∙ o)))

  pub fallen_step : (old new whole : List Disabled) → old ++ fallen rest (drop at rs) ≡ whole → new ≡ old ++ fallen_by s s.keys r → new ++ fallen ss (drop (at + 1) rs) ≡ whole
  fallen_step old new whole o n =
      ap (λ xs. xs ++ fallen ss (drop (at + 1) rs)) n ∙ (append_assoc old (fallen_by s s.keys r) (fallen ss (drop (at + 1) rs))
      ∙ (ap (λ xs. old ++ fallen (s ∷ ss) xs) (sym dropped) ∙ (ap (λ xs. old ++ fallen xs (drop at rs)) (sym more) ∙ o)))

module _ (Falls : Text → Modulepath → Type 0) where
  -- a set is exactly what disables a recipe
  abbrev Tells : BTreeSet Modulepath → Source → Type 0
  Tells s r = (p : Modulepath) → Contains s.keys p ↔ Falls (name_of_recipe r) p

  told_all : (ss : List (BTreeSet Modulepath)) (rs : List Source) → length ss ≡ length rs → ((i : ℕ) → i < length rs → Tells (get_or ss i no_paths) (get_or rs i no_recipe)) → AllZip Tells ss rs
  told_all [] [] e t = tt
  told_all [] (r ∷ rs) e t = absurd (omega arith)
  told_all (s ∷ ss) [] e t = absurd (omega arith)
  told_all (s ∷ ss) (r ∷ rs) e t = (t 0 (omega arith), told_all ss rs (omega arith) (λ i h. t (suc i) (omega arith)))

  stands_one : (ks : List Modulepath) (r : Source) (rs xs : List Source) → ((p : Modulepath) → Contains ks p ↔ Falls (name_of_recipe r) p) → AreStanding (λ name. (p : Modulepath) → Falls name p → ⊥) rs xs → AreStanding (λ name. (p : Modulepath) → Falls name p → ⊥) (r ∷ rs) (standing_by ks r ++ xs)
  stands_one [] r rs xs t a = stands (λ p f. none_in [] p refl ((t p).1 f)) a
  stands_one (k ∷ ks) r rs xs t a = falls (λ s. s k ((t k).0 (contained k (k ∷ ks) (inl refl)))) a

  pub are_standing : (ss : List (BTreeSet Modulepath)) (rs : List Source) → AllZip Tells ss rs → AreStanding (λ name. (p : Modulepath) → Falls name p → ⊥) rs (standing ss rs)
  are_standing [] [] a = none
  are_standing [] (r ∷ rs) a = absurd a
  are_standing (s ∷ ss) [] a = absurd a
  are_standing (s ∷ ss) (r ∷ rs) a = stands_one s.keys r rs (standing ss rs) a.0 (are_standing ss rs a.1)

  falls_one : (s : BTreeSet Modulepath) (ks : List Modulepath) → s.keys ≡ ks → (r : Source) (rs : List Source) (ds : List Disabled) → Tells s r → AreDisabled Falls rs ds → AreDisabled Falls (r ∷ rs) (fallen_by s ks r ++ ds)
  falls_one s [] e r rs ds t a = linked.stands (λ p f. none_in s.keys p e ((t p).1 f)) a
  falls_one s (k ∷ ks) e r rs ds t a = linked.falls refl (λ n. let wrong = sym e ∙ n in cc) t a

  pub are_disabled : (ss : List (BTreeSet Modulepath)) (rs : List Source) → AllZip Tells ss rs → AreDisabled Falls rs (fallen ss rs)
  are_disabled [] [] a = linked.none
  are_disabled [] (r ∷ rs) a = absurd a
  are_disabled (s ∷ ss) [] a = absurd a
  are_disabled (s ∷ ss) (r ∷ rs) a = falls_one s s.keys refl r rs (fallen ss rs) a.0 (are_disabled ss rs a.1)

module _ (rs : List Source) (it : Around) (sets : List (BTreeSet Modulepath)) (exact : AreExact rs it sets) where
  pub standing_exact : AreStanding (Stands rs it) rs (standing sets rs)
  standing_exact = are_standing (Disables rs it) sets rs (told_all (Disables rs it) sets rs exact.count exact.exact)

  pub disabled_exact : AreDisabled (Disables rs it) rs (fallen sets rs)
  disabled_exact = are_disabled (Disables rs it) sets rs (told_all (Disables rs it) sets rs exact.count exact.exact)
