-- What is known of what names need stays right.
use Rattle.std.proofs.Common.{◌≡◌, ◌∙◌, ap, sym, refl, subst, subst₂, Bool, true, false, List, [], Some}
use Rattle.std.specs.Prelude.{◌&&◌, cond}
use Rattle.std.specs.Cmp.Lexicographic.{pointwise}
use Rattle.std.specs.HashMap.{HashMap, get}
use Rattle.std.specs.Map.{lookup}
use Rattle.std.specs.Str.{bytes_eq}
use Rattle.std.proofs.lemmas.Bool.{false≢true}
use Rattle.std.proofs.lemmas.Option.{none-some, same_Some}
use Rattle.std.proofs.lemmas.Slice.Eq.{bytes_eq-Decides, slice_eq-Decides}
use Rattle.just_name_resolution.specs.Lent.{tables_in}
use Rattle.just_names.specs.Texts.{Text}
use Rattle.just_names.specs.declared.number.Number.{Number}
use Rattle.just_parts.specs.Needs.{has_number}
use Rattle.just_recipe_needs.specs.Collected.{IsStart}
use Rattle.just_recipe_needs.specs.Known.{AreRight, IsRight, same_names}
use Rattle.just_recipe_needs.specs.Needed.{AreNumbersOf}
use Rattle.just_recipe_needs.specs.declared.collection.Sources.{Sources}
use Rattle.just_recipe_needs.specs.declared.direct_names.DirectNames.{DirectNames}

both : (a b : Bool) → (a && b) ≡ true → (a ≡ true) × (b ≡ true)
both true b e = (refl, e)
both false b e = absurd (false≢true e)

same_texts : (xs ys : List Text) → pointwise bytes_eq xs ys ≡ true → xs ≡ ys
same_texts xs ys e = (slice_eq-Decides bytes_eq-Decides xs ys (pointwise bytes_eq xs ys) refl).0 e

module _ (sources : Sources) where
  -- numbers that are right for names are right for the same names
  pub right_again : (x y : DirectNames) (numbers : List Number) → same_names x y ≡ true → AreRight sources x numbers → AreRight sources y numbers
  right_again x y numbers e right =
      let are = both (pointwise bytes_eq x.variables.keys y.variables.keys) (pointwise bytes_eq x.functions.keys y.functions.keys) e in
      let m = tables_in sources.tables in
      subst₂ (λ vs fs. AreNumbersOf m (has_number sources.overrides.now) (IsStart m vs fs) numbers)
      (same_texts x.variables.keys y.variables.keys are.0) (same_texts x.functions.keys y.functions.keys are.1) right

  pub known_none : {S : Type 0} (known : HashMap DirectNames (List Number) S) → known.entries ≡ [] → IsRight sources known
  known_none known none names numbers e = absurd (none-some numbers (sym (ap (lookup (same_names names)) none) ∙ e))

  module _ {S T : Type 0} where
    pub known_same : (old : HashMap DirectNames (List Number) S) (new : HashMap DirectNames (List Number) T) → new.entries ≡ old.entries → IsRight sources old → IsRight sources new
    known_same old new same right names numbers e = right names numbers (ap (lookup (same_names names)) (sym same) ∙ e)

    pub known_more : (old : HashMap DirectNames (List Number) S) (new : HashMap DirectNames (List Number) T) (key : DirectNames) (more : List Number) → IsRight sources old → AreRight sources key more
        → ((q : DirectNames) → get same_names new q ≡ cond (same_names key q) (Some more) (get same_names old q)) → IsRight sources new
    known_more old new key more right one update names numbers e = by_test (same_names key names) refl (sym (update names) ∙ e)
      where
        by_test : (b : Bool) → same_names key names ≡ b → cond b (Some more) (get same_names old names) ≡ Some numbers → AreRight sources names numbers
        by_test true t is = subst (AreRight sources names) (same_Some _ _ is) (right_again key names more t one)
        by_test false t is = right names numbers is
