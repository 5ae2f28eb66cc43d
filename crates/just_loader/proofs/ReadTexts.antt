-- What was read of files: numbers that tell definitions apart, and how many are spent.
use Rattle.std.proofs.Common.{◌≡◌, Bool, true, false, is_some, IfSome, ℕ, zero, suc, ◌+◌, ◌<◌, ◌≤◌, ◌^◌, List, [], ◌∷◌, ◌++◌, map, length, set, Option, None, Some, inl, inr, refl, sym, ap, subst, ◌∙◌, arith, ◌⊎◌}
use Rattle.std.specs.List.{Contains, slice_get}
use Rattle.std.proofs.lemmas.List.{append_assoc, map-append}
use Rattle.std.proofs.lemmas.Option.{slice_get_within}
use Rattle.just_graph.proofs.Members.{In, is_in}
use Rattle.just_parts.specs.Syntax.{SyntaxAnswers, AreRising, numbers_of_items}
use Rattle.just_parts.specs.Items.{Ast}
use Rattle.just_loader.specs.loops.Reading.{AreApartBelow, AreRead, AreReadOf, GoesOn, IsAstRead, TakesText, is_read, spent_on, takes_numbers, was_read}
use Rattle.just_loader.specs.declared.texts.ReadTexts.{ReadTexts}
use Rattle.just_loader.specs.declared.scan_result.ScannedFile.{ScannedFile}
use Rattle.just_loader.proofs.Numberings.{get_cases, none_some, some_same}

-- numbers that rise
rising_on : (low : ℕ) (ns : List ℕ) (high : ℕ) → AreRising low ns high → low ≤ high
rising_on low [] high h = h
rising_on low (n ∷ ns) high h = omega (arith, h.0, rising_on (n + 1) ns high h.1)

rising_within : (low : ℕ) (ns : List ℕ) (high n : ℕ) → AreRising low ns high → In n ns → (low ≤ n) × (n < high)
rising_within low [] high n h i = absurd i
rising_within low (m ∷ ns) high n h (inl e) = (omega (arith, h.0, e), omega (arith, e, rising_on (m + 1) ns high h.1))
rising_within low (m ∷ ns) high n h (inr i) = let r = rising_within (m + 1) ns high n h.1 i in (omega (arith, h.0, r.0), r.1)

rising_to : (low : ℕ) (ns : List ℕ) (mid high : ℕ) → mid ≤ high → AreRising low ns mid → AreRising low ns high
rising_to low [] mid high l h = omega (arith, l, h)
rising_to low (n ∷ ns) mid high l h = (h.0, rising_to (n + 1) ns mid high l h.1)

-- what stands in a list after one element is taken out
pub still : {A : Type 0} (xs : List (Option A)) (p k : ℕ) (a : A) → slice_get (set xs p None) k ≡ Some (Some a) → (slice_get xs k ≡ Some (Some a)) × (k ≡ p → ⊥)
still [] p k a e = absurd (none_some e)
still (x ∷ xs) zero zero a e = absurd (none_some (some_same e))
still (x ∷ xs) zero (suc k) a e = (e, λ q. omega (arith, q))
still (x ∷ xs) (suc p) zero a e = (e, λ q. omega (arith, q))
still (x ∷ xs) (suc p) (suc k) a e = let r = still xs p k a e in (r.0, λ q. r.1 (omega (arith, q)))

set_left : {A : Type 0} (xs ys : List A) (p : ℕ) (x y : A) → slice_get xs p ≡ Some x → set (xs ++ ys) p y ≡ set xs p y ++ ys
set_left [] ys p x y e = absurd (none_some e)
set_left (z ∷ xs) ys zero x y e = refl
set_left (z ∷ xs) ys (suc p) x y e = ap (λ zs. z ∷ zs) (set_left xs ys p x y e)

get_left : {A : Type 0} (xs ys : List A) (p : ℕ) (x : A) → slice_get xs p ≡ Some x → slice_get (xs ++ ys) p ≡ Some x
get_left [] ys p x e = absurd (none_some e)
get_left (z ∷ xs) ys zero x e = e
get_left (z ∷ xs) ys (suc p) x e = get_left xs ys p x e

get_right : {A : Type 0} (xs ys : List A) (k : ℕ) (y : A) → slice_get ys k ≡ Some y → (i : ℕ) × (i ≡ length xs + k) × (slice_get (xs ++ ys) i ≡ Some y)
get_right [] ys k y e = (k, omega arith, e)
get_right (x ∷ xs) ys k y e = let r = get_right xs ys k y e in (suc r.0, omega (arith, r.1), r.2)

-- one more text
pub apart_more : (old new : List (Option Ast)) (ast : Ast) (low high : ℕ) → AreApartBelow old low → AreRising low (numbers_of_items ast.items) high → new ≡ old ++ Some ast ∷ [] → AreApartBelow new high
apart_more old new ast low high so rises is =
    let cases : (k : ℕ) (a : Ast) → slice_get new k ≡ Some (Some a) → (slice_get old k ≡ Some (Some a)) ⊎ ((k ≡ length old) × (Some ast ≡ Some a)) = λ k a e. get_cases old (Some ast) (Some a) k (ap (λ xs. slice_get xs k) (sym is) ∙ e) in
    let later : (k : ℕ) (a : Ast) (n : ℕ) → slice_get old k ≡ Some (Some a) → Contains (numbers_of_items a.items) n → (b : Ast) → Some ast ≡ Some b → Contains (numbers_of_items b.items) n → ⊥ = λ k a n e x b f y.
    let r = so.rising k a e in
    let first = rising_within r.0 (numbers_of_items a.items) low n r.1 (is_in n (numbers_of_items a.items) x) in
    let last = rising_within low (numbers_of_items ast.items) high n rises (is_in n (numbers_of_items ast.items) (subst (λ (z : Ast). Contains (numbers_of_items z.items) n) (sym (some_same f)) y)) in
    omega (arith, first.1, last.0) in
    record {
      rising = λ k a e. elim (cases k a e) [
        | inl before ↦ let r = so.rising k a before in (r.0, rising_to r.0 (numbers_of_items a.items) low high (rising_on low (numbers_of_items ast.items) high rises) r.1)
        | inr last ↦ (low, subst (λ (x : Ast). AreRising low (numbers_of_items x.items) high) (some_same last.1) rises)
      ];
      apart = λ i j a b n e f x y. elim (cases i a e) [
        | inl before ↦ elim (cases j b f) [
          | inl both ↦ so.apart i j a b n before both x y
          | inr last ↦ absurd (later i a n before x b last.1 y)
        ]
        | inr last ↦ elim (cases j b f) [
          | inl before ↦ absurd (later j b n before y a last.1 x)
          | inr both ↦ last.0 ∙ sym both.0
        ]
      ];
    }

-- one that was there is put last
pub apart_moved : (old new : List (Option Ast)) (p : ℕ) (was ast : Ast) (high : ℕ) → AreApartBelow old high → slice_get old p ≡ Some (Some was) → numbers_of_items ast.items ≡ numbers_of_items was.items → new ≡ set old p None ++ Some ast ∷ [] → AreApartBelow new high
apart_moved old new p was ast high so at same is =
    let cases : (k : ℕ) (a : Ast) → slice_get new k ≡ Some (Some a) → (slice_get (set old p None) k ≡ Some (Some a)) ⊎ ((k ≡ length (set old p None)) × (Some ast ≡ Some a)) =
    λ k a e. get_cases (set old p None) (Some ast) (Some a) k (ap (λ xs. slice_get xs k) (sym is) ∙ e) in
    let numbered : (a : Ast) → Some ast ≡ Some a → numbers_of_items a.items ≡ numbers_of_items was.items = λ a e. ap (λ (x : Ast). numbers_of_items x.items) (sym (some_same e)) ∙ same in
    let other : (k : ℕ) (a b : Ast) (n : ℕ) → slice_get (set old p None) k ≡ Some (Some a) → Contains (numbers_of_items a.items) n → Some ast ≡ Some b → Contains (numbers_of_items b.items) n → ⊥ = λ k a b n e x f y.
    let s = still old p k a e in s.1 (so.apart k p a was n s.0 at x (subst (λ ns. Contains ns n) (numbered b f) y)) in
    record {
      rising = λ k a e. elim (cases k a e) [
        | inl before ↦ so.rising k a (still old p k a before).0
        | inr last ↦ let r = so.rising p was at in (r.0, subst (λ ns. AreRising r.0 ns high) (sym (numbered a last.1)) r.1)
      ];
      apart = λ i j a b n e f x y. elim (cases i a e) [
        | inl before ↦ elim (cases j b f) [
          | inl both ↦ so.apart i j a b n (still old p i a before).0 (still old p j b both).0 x y
          | inr last ↦ absurd (other i a b n before x last.1 y)
        ]
        | inr last ↦ elim (cases j b f) [
          | inl before ↦ absurd (other j b a n before y last.1 x)
          | inr both ↦ last.0 ∙ sym both.0
        ]
      ];
    }

-- those of the texts behind others
pub apart_behind : (xs ys : List (Option Ast)) (high : ℕ) → AreApartBelow (xs ++ ys) high → AreApartBelow ys high
apart_behind xs ys high so = record {
  rising = λ k a e. let r = get_right xs ys k (Some a) e in so.rising r.0 a r.2;
  apart = λ i j a b n e f x y.
      let r = get_right xs ys i (Some a) e in
      let s = get_right xs ys j (Some b) f in
      omega (arith, r.1, s.1, so.apart r.0 s.0 a b n r.2 s.2 x y);
}

-- where nothing is read, no numbers are given
spent_none : (answers : SyntaxAnswers) (files : List ScannedFile) → spent_on answers files [] ≡ 0
spent_none answers [] = refl
spent_none answers (f ∷ files) = refl

pub none_read : (answers : SyntaxAnswers) (files : List ScannedFile) (texts : ReadTexts) → texts.asts.items ≡ [] → texts.numerator ≡ 0 → AreRead answers files texts
none_read answers files texts none given = record {
  each = λ k file ast e h. absurd (none_some (ap (λ xs. slice_get xs k) (sym none) ∙ h));
  apart = record {
    rising = λ k ast h. absurd (none_some (ap (λ xs. slice_get xs k) (sym none) ∙ h));
    apart = λ i j a b n h. absurd (none_some (ap (λ xs. slice_get xs i) (sym none) ∙ h));
  };
  spent = given ∙ sym (ap (spent_on answers files) none ∙ spent_none answers files);
  few = omega (arith, given);
}

-- the numbers of one more file
pub spent_more : (answers : SyntaxAnswers) (files : List ScannedFile) (asts : List (Option Ast)) (file : ScannedFile) (ast : Ast) → length asts ≡ length files
    → spent_on answers (files ++ file ∷ []) (asts ++ Some ast ∷ []) ≡ spent_on answers files asts + takes_numbers answers file
spent_more answers [] [] file ast e = omega arith
spent_more answers [] (a ∷ asts) file ast e = absurd (omega (arith, e))
spent_more answers (f ∷ files) [] file ast e = absurd (omega (arith, e))
spent_more answers (f ∷ files) (None ∷ asts) file ast e = spent_more answers files asts file ast (omega (arith, e))
spent_more answers (f ∷ files) (Some a ∷ asts) file ast e = omega (arith, spent_more answers files asts file ast (omega (arith, e)))

-- one more file is read
pub read_more : (answers : SyntaxAnswers) (files more : List ScannedFile) (old new : ReadTexts) (file : ScannedFile) (ast : Ast) → AreRead answers files old → length old.asts.items ≡ length files
    → GoesOn answers file.relative file.text old.numerator new.numerator ast → more ≡ files ++ file ∷ [] → new.asts.items ≡ old.asts.items ++ Some ast ∷ [] → new.numerator ≤ 2 ^ 64 → AreRead answers more new
read_more answers files more old new file ast so count on is asts few = record {
  each = λ k f a e h. elim (get_cases old.asts.items (Some ast) (Some a) k (ap (λ xs. slice_get xs k) (sym asts) ∙ h)) [
    | inl before ↦ elim (get_cases files file f k (ap (λ xs. slice_get xs k) (sym is) ∙ e)) [
      | inl both ↦ so.each k f a both before
      | inr last ↦ absurd (omega (arith, last.0, count, slice_get_within old.asts.items k (Some a) before))
    ]
    | inr last ↦ elim (get_cases files file f k (ap (λ xs. slice_get xs k) (sym is) ∙ e)) [
      | inl before ↦ absurd (omega (arith, last.0, count, slice_get_within files k f before))
      | inr both ↦ subst (λ (x : ScannedFile). IsAstRead answers x.relative x.text a) both.1 (subst (IsAstRead answers file.relative file.text) (some_same last.1) on.read)
    ]
  ];
  apart = apart_more old.asts.items new.asts.items ast old.numerator new.numerator so.apart on.rising asts;
  spent = omega (arith, on.spent, so.spent, ap (spent_on answers more) asts, ap (λ fs. spent_on answers fs (old.asts.items ++ Some ast ∷ [])) is, spent_more answers files old.asts.items file ast count);
  few = few;
}

-- the same by what tells whether it was
pub read_on : (answers : SyntaxAnswers) (files more : List ScannedFile) (old new : ReadTexts) (file : ScannedFile) (o : Option Ast) (b : Bool) → b ≡ is_some o → b ≡ true → AreRead answers files old → length old.asts.items ≡ length files
    → IfSome o (GoesOn answers file.relative file.text old.numerator new.numerator) → more ≡ files ++ file ∷ [] → new.asts.items ≡ old.asts.items ++ o ∷ [] → new.numerator ≤ 2 ^ 64 → AreRead answers more new
read_on answers files more old new file None b e h so count on is asts few = let wrong : false ≡ true = sym e ∙ h in cc
read_on answers files more old new file (Some ast) b e h so count on is asts few = read_more answers files more old new file ast so count on is asts few

-- those of one that is taken
pub spent_less : (answers : SyntaxAnswers) (files : List ScannedFile) (asts : List (Option Ast)) (p : ℕ) (file : ScannedFile) (ast : Ast) → slice_get files p ≡ Some file → slice_get asts p ≡ Some (Some ast)
    → spent_on answers files asts ≡ spent_on answers files (set asts p None) + takes_numbers answers file
spent_less answers [] asts p file ast e h = absurd (none_some e)
spent_less answers (f ∷ files) [] p file ast e h = absurd (none_some h)
spent_less answers (f ∷ files) (None ∷ asts) zero file ast e h = absurd (none_some (some_same h))
spent_less answers (f ∷ files) (Some a ∷ asts) zero file ast e h = omega (arith, ap (takes_numbers answers) (some_same e))
spent_less answers (f ∷ files) (None ∷ asts) (suc p) file ast e h = spent_less answers files asts p file ast e h
spent_less answers (f ∷ files) (Some a ∷ asts) (suc p) file ast e h = omega (arith, spent_less answers files asts p file ast e h)

-- the next text
module _ (answers : SyntaxAnswers) (files : List ScannedFile) (old new : ReadTexts) (place : ℕ) (file : ScannedFile) (here : slice_get files place ≡ Some file) where
  pub each_next : (ns : List ℕ) → TakesText place (takes_numbers answers file) old new ns → AreReadOf answers files old.asts.items → AreReadOf answers files new.asts.items
  each_next ns (was_read was at same left given) each = λ k f ast e h. each k f ast e (still old.asts.items place k ast (subst (λ xs. slice_get xs k ≡ Some (Some ast)) left h)).0
  each_next ns (is_read same rises spent) each = λ k f ast e h. each k f ast e (subst (λ xs. slice_get xs k ≡ Some (Some ast)) same h)

  pub apart_next : (asts more : List Ast) (ast : Ast) → more ≡ asts ++ ast ∷ [] → TakesText place (takes_numbers answers file) old new (numbers_of_items ast.items)
      → AreApartBelow (old.asts.items ++ map Some asts) old.numerator → AreApartBelow (new.asts.items ++ map Some more) new.numerator
  apart_next asts more ast is (was_read was at same left given) so =
      let last : map Some more ≡ map Some asts ++ Some ast ∷ [] = ap (map Some) is ∙ map-append Some asts (ast ∷ []) in
      let all : new.asts.items ++ map Some more ≡ set (old.asts.items ++ map Some asts) place None ++ Some ast ∷ [] =
      ap (λ xs. xs ++ map Some more) left ∙ ap (λ xs. set old.asts.items place None ++ xs) last ∙ sym (append_assoc (set old.asts.items place None) (map Some asts) (Some ast ∷ []))
      ∙ ap (λ xs. xs ++ Some ast ∷ []) (sym (set_left old.asts.items (map Some asts) place (Some was) None at)) in
      subst (AreApartBelow (new.asts.items ++ map Some more)) (sym given)
      (apart_moved (old.asts.items ++ map Some asts) (new.asts.items ++ map Some more) place was ast old.numerator so (get_left old.asts.items (map Some asts) place (Some was) at) same all)
  apart_next asts more ast is (is_read same rises spent) so =
      let last : map Some more ≡ map Some asts ++ Some ast ∷ [] = ap (map Some) is ∙ map-append Some asts (ast ∷ []) in
      let all : new.asts.items ++ map Some more ≡ (old.asts.items ++ map Some asts) ++ Some ast ∷ [] =
      ap (λ xs. xs ++ map Some more) same ∙ ap (λ xs. old.asts.items ++ xs) last ∙ sym (append_assoc old.asts.items (map Some asts) (Some ast ∷ [])) in
      apart_more (old.asts.items ++ map Some asts) (new.asts.items ++ map Some more) ast old.numerator new.numerator so rises all

  pub spent_next : (ns : List ℕ) (n : ℕ) → TakesText place (takes_numbers answers file) old new ns → old.numerator ≡ spent_on answers files old.asts.items + n → new.numerator ≡ spent_on answers files new.asts.items + (n + takes_numbers answers file)
  spent_next ns n (was_read was at same left given) h = omega (arith, given, h, ap (spent_on answers files) left, spent_less answers files old.asts.items place file was here at)
  spent_next ns n (is_read same rises spent) h = omega (arith, spent, h, ap (spent_on answers files) same)

  pub less_next : (ns : List ℕ) → TakesText place (takes_numbers answers file) old new ns → spent_on answers files new.asts.items ≤ spent_on answers files old.asts.items
  less_next ns (was_read was at same left given) = omega (arith, ap (spent_on answers files) left, spent_less answers files old.asts.items place file was here at)
  less_next ns (is_read same rises spent) = omega (arith, ap (spent_on answers files) same)
