-- One more text under a number.
use Rattle.std.proofs.Common.{◌≡◌, ℕ, zero, suc, false, List, [], ◌∷◌, ◌++◌, map, length, Option, Some, None, ◌⊎◌, inl, inr, refl, sym, ap, subst, ◌∙◌, arith}
use Rattle.std.specs.List.{Contains, slice_get}
use Rattle.std.proofs.lemmas.Option.{slice_get_read, slice_get_within}
use Rattle.std.specs.Str.{bytes_eq}
use Rattle.std.proofs.lemmas.Bool.{cases_lt}
use Rattle.std.proofs.lemmas.List.{map-append, length-map}
use Rattle.std.specs.HashMap.{get}
pub use Rattle.just_graph.proofs.Told.{at_least as read_at, get_old as get_more, get_last}
pub use Rattle.just_graph.proofs.Index.{got_in as got, map_get, none_some, some_same}
use Rattle.just_graph.specs.Unfolded.{AreDistinct}
use Rattle.just_names.specs.Name.{text_of_name}
use Rattle.just_names.specs.declared.name.Name.{Name}
use Rattle.just_loader.specs.Sources.{Files}
use Rattle.just_loader.specs.declared.sources.SourceFile.{SourceFile}
use Rattle.just_loader.specs.declared.index.Found.{Found}
use Rattle.just_loader.specs.loops.Numbering.{IsNumbering, IsFile, IsFirstAt, IsNamed, HaveFirst, AreFound, paths_of, texts_of}
use Rattle.just_names.proofs.SameTexts.{same_or_not}
use Rattle.just_names.proofs.Indexing.{texts_apart}

pub get_cases : {A : Type 0} (xs : List A) (x y : A) (i : ℕ) → slice_get (xs ++ x ∷ []) i ≡ Some y → (slice_get xs i ≡ Some y) ⊎ ((i ≡ length xs) × (x ≡ y))
get_cases [] x y zero e = inr (refl, cc)
get_cases [] x y (suc i) e = cc
get_cases (z ∷ xs) x y zero e = inl e
get_cases (z ∷ xs) x y (suc i) e = elim (get_cases xs x y i e) [ inl h ↦ inl h | inr h ↦ inr (ap suc h.0, h.1) ]

pub get_map : {A B : Type 0} (f : A → B) (xs : List A) (k : ℕ) (y : B) → slice_get (map f xs) k ≡ Some y → (x : A) × (slice_get xs k ≡ Some x) × (f x ≡ y)
get_map f [] k y e = cc
get_map f (x ∷ xs) zero y e = (x, refl, cc)
get_map f (x ∷ xs) (suc k) y e = get_map f xs k y e

-- what is at a place is an element, and the other way round
pub placed : {A : Type 0} (xs : List A) (x : A) → Contains xs x → (k : ℕ) × (slice_get xs k ≡ Some x)
placed xs x c = (c.0, slice_get_read xs (length xs) c.0 x refl c.1 (sym c.2))

-- no text stands at two places of a numbering
pub once : (texts : List (List ℕ)) (numbers : List ℕ → Option ℕ) → IsNumbering texts numbers → AreDistinct texts
once texts numbers n i j t e f = some_same (sym ((n t i).0 e) ∙ (n t j).0 f)

pub numbering_more : (texts more : List (List ℕ)) (old new : List ℕ → Option ℕ) (t : List ℕ) → IsNumbering texts old → old t ≡ None → new t ≡ Some (length texts) → ((q : List ℕ) → bytes_eq t q ≡ false → new q ≡ old q)
    → more ≡ texts ++ t ∷ [] → IsNumbering more new
numbering_more texts more old new t n none here others is q i = elim (same_or_not t q) [
  | inl same ↦ (
    (λ got. elim (get_cases texts t q i (ap (λ xs. slice_get xs i) (sym is) ∙ got)) [
      | inl before ↦ absurd (none_some (sym none ∙ ap old same ∙ (n q i).0 before))
      | inr last ↦ ap new (sym same) ∙ here ∙ ap Some (sym last.0)
    ]),
    (λ at. let place : length texts ≡ i = some_same (sym here ∙ ap new same ∙ at) in
        ap (slice_get more) (sym place) ∙ ap (λ xs. slice_get xs (length texts)) is ∙ get_last texts t ∙ ap Some same),
  )
  | inr ne ↦ (
    (λ got. elim (get_cases texts t q i (ap (λ xs. slice_get xs i) (sym is) ∙ got)) [
      | inl before ↦ others q (texts_apart t q ne) ∙ (n q i).0 before
      | inr last ↦ absurd (ne last.1)
    ]),
    (λ at. ap (λ xs. slice_get xs i) is ∙ get_more texts (t ∷ []) i q ((n q i).1 (sym (others q (texts_apart t q ne)) ∙ at))),
  )
]

-- a first place stays one as more texts come
pub first_more : (texts more : List (List ℕ)) (t : List ℕ) (i : ℕ) → IsFirstAt texts t i → IsFirstAt (texts ++ more) t i
first_more texts more t i f = (
  get_more texts more i t f.0,
  λ j e. elim (cases_lt j (length texts)) [
    | inl before ↦ let x = read_at texts j before in f.1 j (x.1 ∙ ap Some (some_same (sym (get_more texts more j x.0 x.1) ∙ e)))
    | inr past ↦ omega (arith, past, slice_get_within texts i t f.0)
  ],
)

-- one more text that has a number
numbers_kept : (texts more : List (List ℕ)) (numbers : List ℕ → Option ℕ) (t : List ℕ) (n : ℕ) → HaveFirst texts numbers → numbers t ≡ Some n → more ≡ texts ++ t ∷ [] → HaveFirst more numbers
numbers_kept texts more numbers t n h at is = record {
  first = λ q i e. subst (λ xs. IsFirstAt xs q i) (sym is) (first_more texts (t ∷ []) q i (h.first q i e));
  each = λ q k e. elim (get_cases texts t q k (ap (λ xs. slice_get xs k) (sym is) ∙ e)) [
    | inl before ↦ h.each q k before
    | inr last ↦ (n, ap numbers (sym last.1) ∙ at)
  ];
}

-- one more text that had none
numbers_more : (texts more : List (List ℕ)) (old new : List ℕ → Option ℕ) (t : List ℕ) → HaveFirst texts old → old t ≡ None → new t ≡ Some (length texts) → ((q : List ℕ) → bytes_eq t q ≡ false → new q ≡ old q)
    → more ≡ texts ++ t ∷ [] → HaveFirst more new
numbers_more texts more old new t h none here others is = record {
  first = λ q i e. subst (λ xs. IsFirstAt xs q i) (sym is) (elim (same_or_not t q) [
    | inl same ↦
        let place : length texts ≡ i = some_same (sym here ∙ ap new same ∙ e) in (
          ap (slice_get (texts ++ t ∷ [])) (sym place) ∙ get_last texts t ∙ ap Some same,
          λ j f. elim (get_cases texts t q j f) [
            | inl before ↦ absurd (none_some (sym none ∙ ap old same ∙ (h.each q j before).1))
            | inr last ↦ omega (arith, last.0, place)
          ],
        )
    | inr ne ↦ first_more texts (t ∷ []) q i (h.first q i (sym (others q (texts_apart t q ne)) ∙ e))
  ]);
  each = λ q k e. elim (same_or_not t q) [
    | inl same ↦ (length texts, ap new (sym same) ∙ here)
    | inr ne ↦ elim (get_cases texts t q k (ap (λ xs. slice_get xs k) (sym is) ∙ e)) [
      | inl before ↦ let r = h.each q k before in (r.0, others q (texts_apart t q ne) ∙ r.1)
      | inr last ↦ absurd (ne last.1)
    ]
  ];
}

-- a name that is put last
module _ (old new : List Name) (n m : Name) (t : List ℕ) (is : new ≡ old ++ m ∷ []) (same : m ≡ n) (text : t ≡ text_of_name n) where
  texts_last : texts_of new ≡ texts_of old ++ t ∷ []
  texts_last = ap texts_of is ∙ map-append text_of_name old (m ∷ []) ∙ ap (λ x. texts_of old ++ x ∷ []) (ap text_of_name same ∙ sym text)

  pub names_kept : (numbers : List ℕ → Option ℕ) (number : ℕ) → HaveFirst (texts_of old) numbers → numbers t ≡ Some number → HaveFirst (texts_of new) numbers
  names_kept numbers number h at = numbers_kept (texts_of old) (texts_of new) numbers t number h at texts_last

  pub names_more : (before after : List ℕ → Option ℕ) (number : ℕ) → HaveFirst (texts_of old) before → before t ≡ None → after t ≡ Some number → number ≡ length old
      → ((q : List ℕ) → bytes_eq t q ≡ false → after q ≡ before q) → HaveFirst (texts_of new) after
  names_more before after number h none here place others =
      numbers_more (texts_of old) (texts_of new) before after t h none (here ∙ ap Some (place ∙ sym (length-map old text_of_name))) others texts_last

  pub named_last : (numbers : List ℕ → Option ℕ) (number : ℕ) → HaveFirst (texts_of new) numbers → numbers t ≡ Some number → IsNamed new number (length old) n
  named_last numbers number h at = (
    subst (λ x. IsFirstAt (texts_of new) x number) text (h.first t number at),
    ap (λ xs. slice_get xs (length old)) is ∙ get_last old m ∙ ap Some same,
  )

-- a name at its place, as more come
pub named_more : (old more : List Name) (number place : ℕ) (n : Name) → IsNamed old number place n → IsNamed (old ++ more) number place n
named_more old more number place n h = (
  subst (λ ts. IsFirstAt ts (text_of_name n) number) (sym (map-append text_of_name old more)) (first_more (texts_of old) (texts_of more) (text_of_name n) number h.0),
  get_more old more place n h.1,
)

abbrev places : Found → List ℕ → Option ℕ
places found = get bytes_eq found.places

pub found_more : (files : Files) (old new : Found) (f : SourceFile) (t : List ℕ) (place : ℕ) → AreFound files old → places old t ≡ None → places new t ≡ Some place → place ≡ length old.files.items
    → ((q : List ℕ) → bytes_eq t q ≡ false → places new q ≡ places old q) → new.files.items ≡ old.files.items ++ f ∷ [] → t ≡ f.path → IsFile files f → AreFound files new
found_more files old new f t place found none here is others items text file = record {
  numbering = numbering_more (paths_of old.files.items) (paths_of new.files.items) (places old) (places new) t found.numbering none (here ∙ ap Some (is ∙ sym (length-map old.files.items (λ (x : SourceFile). x.path)))) others
      (ap paths_of items ∙ map-append (λ (x : SourceFile). x.path) old.files.items (f ∷ []) ∙ ap (λ x. paths_of old.files.items ++ x ∷ []) (sym text));
  there = λ k x e. elim (get_cases old.files.items f x k (ap (λ xs. slice_get xs k) (sym items) ∙ e)) [
    | inl before ↦ found.there k x before
    | inr last ↦ subst (IsFile files) last.1 file
  ];
}
