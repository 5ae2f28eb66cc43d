-- Paths that are put together of components.
use Rattle.std.proofs.Common.{◌≡◌, ◌≢◌, ◌⊎◌, inl, inr, ℕ, zero, suc, ◌-◌, Bool, true, false, ◌&&◌, cond, List, [], ◌∷◌, ◌++◌, append-nil, length, take, refl, sym, ap, ◌∙◌, arith, if◌then◌else◌}
use Rattle.std.specs.List.{All, AllByRecursion, fold, list_all, slice_split, onto_first, flat_map, join_by}
use Rattle.std.specs.Borrow.{Bor}
use Rattle.std.specs.Str.{bytes_eq}
use Rattle.std.proofs.lemmas.List.Elements.{All-nil, All-cons}
use Rattle.std.proofs.lemmas.List.Splits.{slice_split_at, slice_split_none, length-slice_split}
use Rattle.std.proofs.lemmas.List.Sums.{fold-append}
use Rattle.just_paths.specs.Clean.{IsClean, is_slash, is_component}
use Rattle.just_paths.specs.Join.{step, led, is_rooted, whole, path_of_components}
use Rattle.just_paths.specs.loops.Join.{start_of}
use Rattle.just_names.specs.Texts.{Text, joined, texts}

abbrev IsOther : ℕ → Type 0
IsOther b = is_slash b ≡ false

-- no byte is a slash
abbrev Free : Text → Type 0
Free c = All IsOther c

abbrev IsPart : Text → Type 0
IsPart c = (is_component c ≡ true) × Free c

-- ---- the parts of a text
free_first : (b : ℕ) (parts : List Text) → is_slash b ≡ false → AllByRecursion Free parts → AllByRecursion Free (onto_first b parts)
free_first b [] e h = (All-cons IsOther b [] e (All-nil IsOther), tt)
free_first b (p ∷ ps) e h = (All-cons IsOther b p e h.0, h.1)

parts_free : (bs : Text) → AllByRecursion Free (slice_split is_slash bs)
parts_free [] = (All-nil IsOther, tt)
parts_free (b ∷ bs) = go (is_slash b) refl (parts_free bs)
  where
    go : (t : Bool) → is_slash b ≡ t → AllByRecursion Free (slice_split is_slash bs) → AllByRecursion Free (cond t ([] ∷ slice_split is_slash bs) (onto_first b (slice_split is_slash bs)))
    go true e h = (All-nil IsOther, h)
    go false e h = free_first b (slice_split is_slash bs) e h

onto_append : (b : ℕ) (xs ys : List Text) → xs ≢ [] → onto_first b (xs ++ ys) ≡ onto_first b xs ++ ys
onto_append b [] ys n = absurd (n refl)
onto_append b (x ∷ xs) ys n = refl

split_some : (bs : Text) → slice_split is_slash bs ≢ []
split_some bs e = let n : length (slice_split is_slash bs) ≡ 0 = ap length e in omega (arith, n, length-slice_split is_slash bs)

-- the parts of a text that is cut at a slash are those of its halves
split_mid : (xs ys : Text) → slice_split is_slash (xs ++ 47 ∷ ys) ≡ slice_split is_slash xs ++ slice_split is_slash ys
split_mid [] ys = refl
split_mid (x ∷ xs) ys = go (is_slash x) (split_mid xs ys)
  where
    go : (t : Bool) → slice_split is_slash (xs ++ 47 ∷ ys) ≡ slice_split is_slash xs ++ slice_split is_slash ys
        → cond t ([] ∷ slice_split is_slash (xs ++ 47 ∷ ys)) (onto_first x (slice_split is_slash (xs ++ 47 ∷ ys))) ≡ cond t ([] ∷ slice_split is_slash xs) (onto_first x (slice_split is_slash xs)) ++ slice_split is_slash ys
    go true e = ap (λ parts. [] ∷ parts) e
    go false e = ap (onto_first x) e ∙ onto_append x (slice_split is_slash xs) (slice_split is_slash ys) (split_some xs)

-- a text from a folder, and from the root where it begins with a slash
pub led_whole : (folder text : Text) → led (led [] (start_of folder text)) text ≡ led [] (whole folder text)
led_whole folder text = go (is_rooted text)
  where
    go : (t : Bool) → led (led [] (if t then [] else folder)) text ≡ led [] (if t then text else folder ++ 47 ∷ text)
    go true = refl
    go false = sym (ap (fold step []) (split_mid folder text) ∙ fold-append step [] (slice_split is_slash folder) (slice_split is_slash text))

-- ---- what is left is clean
parts_taken : (n : ℕ) (cs : List Text) → AllByRecursion IsPart cs → AllByRecursion IsPart (take n cs)
parts_taken zero cs h = tt
parts_taken (suc n) [] h = tt
parts_taken (suc n) (c ∷ cs) h = (h.0, parts_taken n cs h.1)

parts_pushed : (cs : List Text) (c : Text) → AllByRecursion IsPart cs → IsPart c → AllByRecursion IsPart (cs ++ c ∷ [])
parts_pushed [] c h p = (p, tt)
parts_pushed (d ∷ ds) c h p = (h.0, parts_pushed ds c h.1 p)

parts_stepped : (front : List Text) (c : Text) → AllByRecursion IsPart front → Free c → AllByRecursion IsPart (step front c)
parts_stepped front c h f = go (is_component c) refl (bytes_eq c (46 ∷ 46 ∷ []))
  where
    go : (t : Bool) → is_component c ≡ t → (u : Bool) → AllByRecursion IsPart (if t then front ++ c ∷ [] else (if u then take (length front - 1) front else front))
    go true e u = parts_pushed front c h (e, f)
    go false e true = parts_taken (length front - 1) front h
    go false e false = h

parts_led : (front parts : List Text) → AllByRecursion IsPart front → AllByRecursion Free parts → AllByRecursion IsPart (fold step front parts)
parts_led front [] h f = h
parts_led front (c ∷ cs) h f = parts_led (step front c) cs (parts_stepped front c h f.0) f.1

and_both : (a b : Bool) → a ≡ true → b ≡ true → (a && b) ≡ true
and_both a b e f = ap (λ x. x && b) e ∙ f

parts_of_joined : (c : Text) (cs : List Text) → AllByRecursion IsPart (c ∷ cs) → list_all is_component (slice_split is_slash (joined (47 ∷ []) (c ∷ cs))) ≡ true
parts_of_joined c [] h = ap (λ bs. list_all is_component (slice_split is_slash bs)) (append-nil c) ∙ ap (list_all is_component) (slice_split_none is_slash c h.0.1) ∙ and_both (is_component c) true h.0.0 refl
parts_of_joined c (d ∷ ds) h =
    ap (list_all is_component) (slice_split_at is_slash c 47 (joined (47 ∷ []) (d ∷ ds)) h.0.1 refl)
    ∙ and_both (is_component c) _ h.0.0 (parts_of_joined d ds h.1)

clean_or_root : (cs : List Text) → AllByRecursion IsPart cs → (path_of_components cs ≡ 47 ∷ []) ⊎ IsClean (path_of_components cs)
clean_or_root [] h = inl refl
clean_or_root (c ∷ cs) h = inr (record { rest = joined (47 ∷ []) (c ∷ cs); rooted = refl; components = parts_of_joined c cs h })

pub clean_led : (text : Text) → (path_of_components (led [] text) ≡ 47 ∷ []) ⊎ IsClean (path_of_components (led [] text))
clean_led text = clean_or_root (led [] text) (parts_led [] (slice_split is_slash text) tt (parts_free text))

-- ---- texts that are borrowed
flat_texts : (separator : Text) (ws : List (Bor Text)) → flat_map (λ w. separator ++ w.now) ws ≡ flat_map (λ d. separator ++ d) (texts ws)
flat_texts separator [] = refl
flat_texts separator (w ∷ ws) = ap (λ more. (separator ++ w.now) ++ more) (flat_texts separator ws)

pub joined_texts : (separator : Text) (ws : List (Bor Text)) → join_by (λ w. w.now) separator ws ≡ joined separator (texts ws)
joined_texts separator [] = refl
joined_texts separator (w ∷ ws) = ap (λ more. w.now ++ more) (flat_texts separator ws)
