-- What is needed from where a search starts, by whatever tells that.
use Rattle.std.proofs.Common.{◌≡◌, Bool, false, ◌||◌, List, [], ◌∷◌, map, ap, refl, sym, ◌∙◌, subst, inl, inr}
use Rattle.std.specs.Borrow.{Bor}
use Rattle.std.specs.HashSet.{contains}
use Rattle.std.specs.List.{Contains}
use Rattle.std.proofs.lemmas.Bool.{false≢true}
use Rattle.std.proofs.lemmas.List.Elements.{Contains-append_cases, Contains-append_left, Contains-append_right, Contains-push}
use Rattle.just_graph.proofs.Members.{the_one}
use Rattle.just_names.specs.Texts.{Text}
use Rattle.just_names.specs.declared.number.Number.{Number}
use Rattle.just_parts.specs.Known.{Known, none_hidden}
use Rattle.just_parts.specs.Needs.{AreNeededBy, Gains, GainsAll, IsNumberIn, Needs, onward, overridden_by, same_number, starts}
use Rattle.just_parts.specs.Reading.{IsReadIn, Reads}
use Rattle.just_name_resolution.specs.loops.Search.{IsReadFrom, IsSearchFrom, found_in, scoped_of}
use Rattle.just_name_resolution.specs.declared.needs.Search.{Search}
use Rattle.just_name_resolution.proofs.Looking.{not_in_none}
use Rattle.just_name_resolution.proofs.Searching.{search_gains, search_gains_all}
use Rattle.just_ast_expressions.specs.declared.expression.Expression.{Expression}
use Rattle.just_parts.specs.Scopes.{Scoped, scoped}

module _ {A B : Type 0} (f : A → B) where
  pub has_image : (xs : List A) (x : A) → Contains xs x → Contains (map f xs) (f x)
  has_image [] x c = absurd (not_in_none x c)
  has_image (y ∷ ys) x c = elim (Contains-append_cases (y ∷ []) ys x c) [
    | inl it ↦ Contains-append_left (f y ∷ []) (map f ys) (f x) (subst (λ z. Contains (f y ∷ []) (f z)) (the_one y x it) (Contains-push [] (f y)))
    | inr there ↦ Contains-append_right (f y ∷ []) (map f ys) (f x) (has_image ys x there)
  ]

  pub is_image : (xs : List A) (z : B) → Contains (map f xs) z → (x : A) × Contains xs x × (f x ≡ z)
  is_image [] z c = absurd (not_in_none z c)
  is_image (y ∷ ys) z c = elim (Contains-append_cases (f y ∷ []) (map f ys) z c) [
    | inl it ↦ (y, Contains-append_left (y ∷ []) ys y (Contains-push [] y), the_one (f y) z it)
    | inr there ↦ let i = is_image ys z there in (i.0, Contains-append_right (y ∷ []) ys i.0 i.1, i.2)
  ]

-- more is needed where there is more to start with
module _ (m : Known) (overridden : Text → Bool) (A B : Text → Type 0) (more : (name : Text) → A name → B name) where
  pub needs_more : {name : Text} → Needs m overridden A name → Needs m overridden B name
  needs_more (starts {name = name} a) = starts (more name a)
  needs_more (onward need on step) = onward (needs_more need) on step

  pub number_more : (n : Number) → IsNumberIn m (Needs m overridden A) n → IsNumberIn m (Needs m overridden B) n
  number_more n i = record { name = i.name; assigned = i.assigned; is = i.is; number = i.number; there = needs_more i.there }

-- one expression, and several without parameters
module _ (m : Known) where
  pub from_one : (hidden : Text → Bool) (e : Expression) (name : Text) → IsReadFrom m (scoped hidden e ∷ []) name → Reads m hidden e name
  from_one hidden e name r = subst (λ (s : Scoped). Reads m s.hidden s.expression name) (sym (the_one (scoped hidden e) r.from r.there)) r.reads

  pub to_one : (hidden : Text → Bool) (e : Expression) (name : Text) → Reads m hidden e name → IsReadFrom m (scoped hidden e ∷ []) name
  to_one hidden e name r = record { from = scoped hidden e; there = Contains-push [] (scoped hidden e); reads = r }

  pub from_all : (es : List Expression) (name : Text) → IsReadFrom m (map (scoped none_hidden) es) name → IsReadIn m es name
  from_all es name r =
      let i = is_image (scoped none_hidden) es r.from r.there in
      record { e = i.0; there = i.1; reads = subst (λ (s : Scoped). Reads m s.hidden s.expression name) (sym i.2) r.reads }

  pub to_all : (es : List Expression) (name : Text) → IsReadIn m es name → IsReadFrom m (map (scoped none_hidden) es) name
  to_all es name r = record { from = scoped none_hidden r.e; there = has_image (scoped none_hidden) es r.e r.there; reads = r.reads }

-- a search from equal expressions
pub searches_from : (m : Known) (overridden old : Number → Bool) (visited : Text → Bool) (s : Search) (first same : List Scoped) → first ≡ same
    → IsSearchFrom m overridden first old visited (found_in old visited s) → IsSearchFrom m overridden same old visited (found_in old visited s)
searches_from m overridden old visited s first same e search = subst (λ ss. IsSearchFrom m overridden ss old visited (found_in old visited s)) e search

-- a set that gains what is needed from one expression, and one that begins with nothing and gains what is needed from several
module _ (m : Known) (overridden : Number → Bool) (old new : Number → Bool) where
  pub gains_one : (hidden : Text → Bool) (e : Expression) → Gains m overridden (IsReadFrom m (scoped hidden e ∷ [])) old new → Gains m overridden (Reads m hidden e) old new
  gains_one hidden e gains = record {
    keeps = gains.keeps;
    only = λ n h. elim (gains.only n h) [ inl was ↦ inl was | inr i ↦ inr (number_more m (overridden_by overridden m) (IsReadFrom m (scoped hidden e ∷ [])) (Reads m hidden e) (from_one m hidden e) n i) ];
  }

  pub gains_all_one : (hidden : Text → Bool) (e : Expression) → GainsAll m overridden (IsReadFrom m (scoped hidden e ∷ [])) old new → GainsAll m overridden (Reads m hidden e) old new
  gains_all_one hidden e all apart closed n i =
      all apart closed n (number_more m (overridden_by overridden m) (Reads m hidden e) (IsReadFrom m (scoped hidden e ∷ [])) (to_one m hidden e) n i)

  pub needed_by : (es : List Expression) → ((n : Number) → old n ≡ false) → Gains m overridden (IsReadFrom m (map (scoped none_hidden) es)) old new
      → GainsAll m overridden (IsReadFrom m (map (scoped none_hidden) es)) old new → AreNeededBy m overridden es new
  needed_by es none gains all apart n = (
    λ h. elim (gains.only n h) [
      | inl was ↦ absurd (false≢true (sym (none n) ∙ was))
      | inr i ↦ number_more m (overridden_by overridden m) (IsReadFrom m (map (scoped none_hidden) es)) (IsReadIn m es) (from_all m es) n i
    ],
    λ i. all apart (λ from to b c f t r on set. absurd (false≢true (sym (none b.number) ∙ set))) n
        (number_more m (overridden_by overridden m) (IsReadIn m es) (IsReadFrom m (map (scoped none_hidden) es)) (to_all m es) n i),
  )

-- what waits for expressions that are lent
pub scoped_all : (es : List (Bor Expression)) → map (λ (e : Bor Expression). scoped none_hidden e.now) es ≡ map (scoped none_hidden) (map (λ (e : Bor Expression). e.now) es)
scoped_all [] = refl
scoped_all (e ∷ es) = ap (λ (ss : List Scoped). scoped none_hidden e.now ∷ ss) (scoped_all es)

-- what a search from several expressions finds, that begins with nothing
pub found_by : (m : Known) (overridden old : Number → Bool) (visited : Text → Bool) (s : Search) (first : List Scoped) (es : List Expression) → first ≡ map (scoped none_hidden) es
    → IsSearchFrom m overridden first old visited (found_in old visited s) → s.stack.items ≡ [] → ((n : Number) → old n ≡ false) → ((name : Text) → visited name ≡ false)
    → AreNeededBy m overridden es (contains same_number s.numbers)
found_by m overridden old visited s first es from search over none unvisited =
    let all = map (scoped none_hidden) es in
    let from_all = searches_from m overridden old visited s first all from search in
    let waits : map scoped_of s.stack.items ≡ [] = ap (map scoped_of) over in
    let new = contains same_number s.numbers in
    let are : ((n : Number) → new n ≡ (old n || new n)) = λ n. sym (ap (λ b. b || new n) (none n)) in
    needed_by m overridden old new es none
    (search_gains m overridden all old visited (found_in old visited s) from_all waits new are)
    (search_gains_all m overridden all old visited (found_in old visited s) from_all waits (λ function name f a called was. absurd (false≢true (sym (unvisited function) ∙ was))) new are)
