-- Texts with empty lines between them, and how they are written.
use Rattle.std.proofs.Common.{◌≡◌, ℕ, Bool, true, false, List, [], ◌∷◌, ◌++◌, map, Option, None, Some, refl, sym, ap, ◌∙◌}
use Rattle.std.specs.Fmt.{◌++?◌}
use Rattle.std.specs.List.{cons_option, filter_map, flat_map}
use Rattle.std.specs.declared.fmt.Formatter.{Formatter}
use Rattle.std.proofs.lemmas.Grind.{flat_map-append}
use Rattle.std.proofs.lemmas.List.{append-nil, append_assoc, map-append}
use Rattle.std.proofs.lemmas.List.Elements.{filter_map-append}
use Rattle.just_names.specs.Texts.{Text}
use Rattle.just_recipe.proofs.Writing.{Put, put_along, put_more}
use Rattle.just_listings.specs.Shown.{empty_line, gap_after, shown_after, stands_after}

-- texts, and others behind them
pub after_more : (before : Bool) (xs ys : List Text) → shown_after before (xs ++ ys) ≡ shown_after before xs ++ shown_after (stands_after before xs) ys
after_more true [] ys = refl
after_more false [] ys = refl
after_more true (x ∷ xs) ys = flat_map-append (λ text. empty_line ++ text) (x ∷ xs) ys
after_more false (x ∷ xs) ys =
    ap (λ t. x ++ t) (flat_map-append (λ text. empty_line ++ text) xs ys) ∙ sym (append_assoc x (flat_map (λ text. empty_line ++ text) xs) (flat_map (λ text. empty_line ++ text) ys))

after_one : (before : Bool) (x : Text) → shown_after before (x ∷ []) ≡ gap_after before ++ x
after_one true x = append-nil (empty_line ++ x)
after_one false x = append-nil x

stands_next : (before : Bool) (xs : List Text) (x : Text) → stands_after before (xs ++ x ∷ []) ≡ true
stands_next before [] x = refl
stands_next before (y ∷ ys) x = refl

module _ {W : Type 0} (took : W → List ℕ → W → Type 0) (start : Formatter W) (before : Bool) where
  -- some texts are written, and whether there are any is known
  abbrev pub AreWritten : List Text → Formatter W → Bool → Type 0
  AreWritten texts now begun = Put took start (Some (shown_after before texts)) now × (begun ≡ stands_after before texts)

  -- one more
  pub one_written : (texts more : List Text) (text : Text) (now after : Formatter W) (begun then : Bool) → more ≡ texts ++ text ∷ [] → AreWritten texts now begun →
      Put took now (Some (gap_after begun ++ text)) after → then ≡ true → AreWritten more after then
  one_written texts more text now after begun then added written put stands =
      let whole : shown_after before texts ++ (gap_after begun ++ text) ≡ shown_after before more =
      ap (λ b. shown_after before texts ++ (gap_after b ++ text)) written.1
      ∙ ap (λ t. shown_after before texts ++ t) (sym (after_one (stands_after before texts) text))
      ∙ sym (after_more before texts (text ∷ []))
      ∙ ap (shown_after before) (sym added) in (
        put_along took start after (Some (shown_after before texts) ++? Some (gap_after begun ++ text)) (Some (shown_after before more)) (ap Some whole)
            (put_more took start now after (Some (shown_after before texts)) (Some (gap_after begun ++ text)) written.0 put),
        stands ∙ sym (ap (stands_after before) added ∙ stands_next before texts text),
      )

  -- others behind them
  pub all_written : (xs ys : List Text) (now after : Formatter W) (begun : Bool) → AreWritten xs now begun → Put took now (Some (shown_after begun ys)) after → Put took start (Some (shown_after before (xs ++ ys))) after
  all_written xs ys now after begun written put =
      let whole : shown_after before xs ++ shown_after begun ys ≡ shown_after before (xs ++ ys) =
      ap (λ b. shown_after before xs ++ shown_after b ys) written.1 ∙ sym (after_more before xs ys) in
      put_along took start after (Some (shown_after before xs) ++? Some (shown_after begun ys)) (Some (shown_after before (xs ++ ys))) (ap Some whole)
      (put_more took start now after (Some (shown_after before xs)) (Some (shown_after begun ys)) written.0 put)

-- three lists, one behind another
pub all_shown : {W : Type 0} (took : W → List ℕ → W → Type 0) (start one two last : Formatter W) (begun still : Bool) (xs ys zs : List Text) → Put took start (Some (shown_after false xs)) one → begun ≡ stands_after false xs →
    Put took one (Some (shown_after begun ys)) two → still ≡ stands_after begun ys → Put took two (Some (shown_after still zs)) last → Put took start (Some (shown_after false (xs ++ (ys ++ zs)))) last
all_shown took start one two last begun still xs ys zs first stands second stays third =
    all_written took start false xs (ys ++ zs) one last begun (first, stands) (all_written took one begun ys zs two last still (second, stays) third)

-- what one more comes to
pub one_mapped : {A V X : Type 0} (h : V → X) (now : A → V) (us : List A) (u : A) → map h (map now (us ++ u ∷ [])) ≡ map h (map now us) ++ h (now u) ∷ []
one_mapped h now us u = ap (map h) (map-append now us (u ∷ [])) ∙ map-append h (map now us) (now u ∷ [])

further : {A V X : Type 0} (h : V → Option X) (now : A → V) (us : List A) (u : A) → filter_map h (map now (us ++ u ∷ [])) ≡ filter_map h (map now us) ++ cons_option (h (now u)) []
further h now us u = ap (filter_map h) (map-append now us (u ∷ [])) ∙ filter_map-append h (map now us) (now u ∷ [])

pub one_found : {A V X : Type 0} (h : V → Option X) (now : A → V) (us : List A) (u : A) (x : X) → h (now u) ≡ Some x → filter_map h (map now (us ++ u ∷ [])) ≡ filter_map h (map now us) ++ x ∷ []
one_found h now us u x leads = further h now us u ∙ ap (λ o. filter_map h (map now us) ++ cons_option o []) leads

pub none_found : {A V X : Type 0} (h : V → Option X) (now : A → V) (us : List A) (u : A) → h (now u) ≡ None → filter_map h (map now (us ++ u ∷ [])) ≡ filter_map h (map now us)
none_found h now us u leads = further h now us u ∙ ap (λ o. filter_map h (map now us) ++ cons_option o []) leads ∙ append-nil (filter_map h (map now us))
