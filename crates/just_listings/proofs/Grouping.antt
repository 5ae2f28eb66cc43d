-- Groups: listed, in order, and each once.
use Rattle.std.proofs.Common.{◌≡◌, ◌↔◌, ℕ, ◌+◌, ◌<◌, ◌≤◌, Bool, true, false, cond, not, ◌||◌, List, [], ◌∷◌, ◌++◌, flat_map, map, length, get_or, take, Option, None, Some, refl, sym, ap, subst, ◌∙◌}
use Rattle.std.specs.BTreeSet.{insert_key}
use Rattle.std.specs.Borrow.{Bor}
use Rattle.std.specs.Cmp.{IsTotalOrder}
use Rattle.std.specs.Cmp.Lexicographic.{slice_cmp}
use Rattle.std.specs.List.{Contains, cons_option, filter, filter_map, list_any}
use Rattle.std.specs.List.Sorted.{IsStrictlySortedBy}
use Rattle.std.specs.Option.{option_to_list}
use Rattle.std.specs.Ordering.{nat_cmp}
use Rattle.std.specs.Str.{bytes_eq}
use Rattle.std.proofs.lemmas.Cmp.{nat_list_cmp_total, nat_list_eq_equiv, on_total, then_total}
use Rattle.std.proofs.lemmas.Grind.{flat_map-append}
use Rattle.std.proofs.lemmas.List.{append-nil, append_assoc, map-append, take_all, take_more}
use Rattle.std.proofs.lemmas.List.Elements.{filter-append, filter_map-append}
use Rattle.std.proofs.lemmas.List.Folds.{list_any-append}
use Rattle.just_ast_definitions.specs.declared.attribute.NamedAttribute.{NamedAttribute}
use Rattle.just_ast_expressions.specs.declared.expression.Expression.{Expression}
use Rattle.just_names.specs.Texts.{Text}
use Rattle.just_recipe.specs.declared.dependency.Dependency.{Dependency}
use Rattle.just_recipe.specs.declared.recipe.Recipe.{Recipe}
use Rattle.just_listings.specs.Groups.{AreGroupsInOrder, AreGroupsOf, all_at, firsts, group_order, group_said, groups_said, itself}
use Rattle.just_listings.specs.Order.{IsByKey, referents, placed_item}
use Rattle.just_listings.specs.loops.Order.{placed_at}
use Rattle.just_listings.specs.declared.order.Place.{Place}
use Rattle.just_listings.specs.declared.order.Placed.{Placed}
use Rattle.just_listings.proofs.Listed.{behind_more}
use Rattle.just_listings.proofs.Ordering.{place_total}
use Rattle.just_listings.proofs.Sets.{one_put, still_rises}

-- groups are in order
pub group_total : IsTotalOrder group_order
group_total = then_total (on_total (placed_at {T = Text}) place_total) (on_total (placed_item {T = Text}) nat_list_cmp_total)

pub by_place : (unsorted : Bool) (groups ordered : List (Placed Text)) → unsorted ≡ true → IsByKey itself group_order groups ordered → AreGroupsInOrder unsorted groups ordered
by_place true groups ordered e by = by
by_place false groups ordered e by = cc

pub by_text : (unsorted : Bool) (groups ordered : List (Placed Text)) → unsorted ≡ false → IsByKey placed_item (slice_cmp nat_cmp) groups ordered → AreGroupsInOrder unsorted groups ordered
by_text true groups ordered e by = cc
by_text false groups ordered e by = by

-- what one more attribute says
alone : (o : Option Text) → cons_option o [] ≡ option_to_list o
alone None = refl
alone (Some x) = refl

said_more : (place : Place) (named : List (NamedAttribute Expression)) (i : ℕ) (x : NamedAttribute Expression) → i < length named → x ≡ get_or named i x →
    all_at place (groups_said (take (i + 1) named)) ≡ all_at place (groups_said (take i named)) ++ all_at place (option_to_list (group_said x.attribute))
said_more place named i x within at =
    ap (λ xs. all_at place (groups_said xs)) (take_more named i x within)
    ∙ ap (all_at place) (filter_map-append (λ (it : NamedAttribute Expression). group_said it.attribute) (take i named) (get_or named i x ∷ []))
    ∙ map-append {B = Placed Text} (λ text. record { place = place; item = text }) (groups_said (take i named)) (cons_option (group_said (get_or named i x).attribute) [])
    ∙ ap (λ (it : NamedAttribute Expression). all_at place (groups_said (take i named)) ++ all_at place (cons_option (group_said it.attribute) [])) (sym at)
    ∙ ap (λ xs. all_at place (groups_said (take i named)) ++ all_at place xs) (alone (group_said x.attribute))

pub group_added : (place : Place) (named : List (NamedAttribute Expression)) (i : ℕ) (x : NamedAttribute Expression) (text : Text) (start now after : List (Placed Text)) (p : Placed Text) → i < length named → x ≡ get_or named i x →
    group_said x.attribute ≡ Some text → after ≡ now ++ p ∷ [] → p.place ≡ place → p.item ≡ text → now ≡ start ++ all_at place (groups_said (take i named)) → after ≡ start ++ all_at place (groups_said (take (i + 1) named))
group_added place named i x text start now after p within at says pushed here same so_far =
    let is : p ≡ record { place = place; item = text } = λ j. record { place = here j; item = same j } in
    let more : all_at place (groups_said (take (i + 1) named)) ≡ all_at place (groups_said (take i named)) ++ p ∷ [] =
    said_more place named i x within at ∙ ap (λ o. all_at place (groups_said (take i named)) ++ all_at place (option_to_list o)) says ∙ ap (λ (q : Placed Text). all_at place (groups_said (take i named)) ++ q ∷ []) (sym is) in
    pushed ∙ ap (λ xs. xs ++ p ∷ []) so_far ∙ append_assoc start (all_at place (groups_said (take i named))) (p ∷ []) ∙ ap (λ xs. start ++ xs) (sym more)

pub none_added : (place : Place) (named : List (NamedAttribute Expression)) (i : ℕ) (x : NamedAttribute Expression) (start now : List (Placed Text)) → i < length named → x ≡ get_or named i x →
    group_said x.attribute ≡ None → now ≡ start ++ all_at place (groups_said (take i named)) → now ≡ start ++ all_at place (groups_said (take (i + 1) named))
none_added place named i x start now within at says so_far =
    let same : all_at place (groups_said (take (i + 1) named)) ≡ all_at place (groups_said (take i named)) =
    said_more place named i x within at ∙ ap (λ o. all_at place (groups_said (take i named)) ++ all_at place (option_to_list o)) says ∙ append-nil (all_at place (groups_said (take i named))) in
    so_far ∙ ap (λ xs. start ++ xs) (sym same)

-- the set of the texts that some attributes name
abbrev pub AreTexts : List (NamedAttribute Expression) → List Text → Type 0
AreTexts named keys = record {
  rising : IsStrictlySortedBy (slice_cmp nat_cmp) keys;
  same : (text : Text) → Contains keys text ↔ Contains (groups_said named) text;
}

texts_said : (named : List (NamedAttribute Expression)) (i : ℕ) (x : NamedAttribute Expression) → i < length named → x ≡ get_or named i x → groups_said (take (i + 1) named) ≡ groups_said (take i named) ++ option_to_list (group_said x.attribute)
texts_said named i x within at =
    ap groups_said (take_more named i x within)
    ∙ filter_map-append (λ (it : NamedAttribute Expression). group_said it.attribute) (take i named) (get_or named i x ∷ [])
    ∙ ap (λ (it : NamedAttribute Expression). groups_said (take i named) ++ cons_option (group_said it.attribute) []) (sym at)
    ∙ ap (λ xs. groups_said (take i named) ++ xs) (alone (group_said x.attribute))

pub group_put : (named : List (NamedAttribute Expression)) (i : ℕ) (x : NamedAttribute Expression) (text key : Text) (keys after : List Text) → i < length named → x ≡ get_or named i x →
    group_said x.attribute ≡ Some text → key ≡ text → after ≡ insert_key (slice_cmp nat_cmp) keys key → AreTexts (take i named) keys → AreTexts (take (i + 1) named) after
group_put named i x text key keys after within at says same put so_far =
    let now : after ≡ insert_key (slice_cmp nat_cmp) keys text = put ∙ ap (insert_key (slice_cmp nat_cmp) keys) same in
    let more : groups_said (take (i + 1) named) ≡ groups_said (take i named) ++ text ∷ [] = texts_said named i x within at ∙ ap (λ o. groups_said (take i named) ++ option_to_list o) says in
    record {
      rising = subst (IsStrictlySortedBy (slice_cmp nat_cmp)) (sym now) (still_rises keys text so_far.rising);
      same = λ other.
          subst (λ (ks : List Text). Contains ks other ↔ Contains (groups_said (take (i + 1) named)) other) (sym now)
          (subst (λ (said : List Text). Contains (insert_key (slice_cmp nat_cmp) keys text) other ↔ Contains said other) (sym more)
          (one_put keys (groups_said (take i named)) text other (so_far.same other)));
    }

pub none_put : (named : List (NamedAttribute Expression)) (i : ℕ) (x : NamedAttribute Expression) (keys after : List Text) → i < length named → x ≡ get_or named i x →
    group_said x.attribute ≡ None → after ≡ keys → AreTexts (take i named) keys → AreTexts (take (i + 1) named) after
none_put named i x keys after within at says kept so_far =
    let more : groups_said (take (i + 1) named) ≡ groups_said (take i named) =
    texts_said named i x within at ∙ ap (λ o. groups_said (take i named) ++ option_to_list o) says ∙ append-nil (groups_said (take i named)) in
    subst (λ (ks : List Text). AreTexts (take (i + 1) named) ks) (sym kept)
    record { rising = so_far.rising; same = λ other. subst (λ (said : List Text). Contains keys other ↔ Contains said other) (sym more) (so_far.same other) }

pub all_put : (r : Recipe Dependency) (i : ℕ) (keys : List Text) → length r.attributes ≤ i → AreTexts (take i r.attributes) keys → AreGroupsOf r keys
all_put r i keys through put =
    record { rising = put.rising; same = λ text. subst (λ (named : List (NamedAttribute Expression)). Contains keys text ↔ Contains (groups_said named) text) (take_all i r.attributes through) (put.same text) }

-- what one more has
pub has_more : {X Y : Type 0} (has : X → List Y) (items : List (Bor X)) (i : ℕ) (x : Bor X) (start now after : List Y) → i < length items → x ≡ get_or items i x → after ≡ now ++ has x.now →
    now ≡ start ++ flat_map has (referents (take i items)) → after ≡ start ++ flat_map has (referents (take (i + 1) items))
has_more has items i x start now after within at added so_far =
    let more : flat_map has (referents (take (i + 1) items)) ≡ flat_map has (referents (take i items)) ++ has x.now =
    ap (flat_map has) (behind_more items i x within at) ∙ flat_map-append has (referents (take i items)) (x.now ∷ []) ∙ ap (λ xs. flat_map has (referents (take i items)) ++ xs) (append-nil (has x.now)) in
    added ∙ ap (λ xs. xs ++ has x.now) so_far ∙ append_assoc start (flat_map has (referents (take i items))) (has x.now) ∙ ap (λ xs. start ++ xs) (sym more)

-- a text that stands there is not listed again
filtered : (y x : Text) (m b : Bool) → bytes_eq y x ≡ b → bytes_eq x y ≡ b → filter (λ z. not (bytes_eq y z)) (cond m [] (x ∷ [])) ≡ cond (bytes_eq x y || m) [] (x ∷ [])
filtered y x true true e f = ap (λ c. cond (c || true) [] (x ∷ [])) (sym f)
filtered y x true false e f = ap (λ c. cond (c || true) [] (x ∷ [])) (sym f)
filtered y x false true e f = ap (λ c. cond (not c) (x ∷ []) []) e ∙ ap (λ c. cond (c || false) [] (x ∷ [])) (sym f)
filtered y x false false e f = ap (λ c. cond (not c) (x ∷ []) []) e ∙ ap (λ c. cond (c || false) [] (x ∷ [])) (sym f)

firsts_more : (xs : List Text) (x : Text) → firsts (xs ++ x ∷ []) ≡ firsts xs ++ cond (list_any (bytes_eq x) xs) [] (x ∷ [])
firsts_more [] x = refl
firsts_more (y ∷ ys) x =
    ap (λ zs. y ∷ filter (λ z. not (bytes_eq y z)) zs) (firsts_more ys x)
    ∙ ap (λ zs. y ∷ zs) (filter-append (λ z. not (bytes_eq y z)) (firsts ys) (cond (list_any (bytes_eq x) ys) [] (x ∷ [])))
    ∙ ap (λ zs. y ∷ (filter (λ z. not (bytes_eq y z)) (firsts ys) ++ zs)) (filtered y x (list_any (bytes_eq x) ys) (bytes_eq y x) refl (nat_list_eq_equiv.symm x y))

texts_more : (groups : List (Placed Text)) (i : ℕ) (x : Placed Text) → i < length groups → x ≡ get_or groups i x → map placed_item (take (i + 1) groups) ≡ map placed_item (take i groups) ++ x.item ∷ []
texts_more groups i x within at =
    ap (map placed_item) (take_more groups i x within) ∙ map-append (placed_item {T = Text}) (take i groups) (get_or groups i x ∷ []) ∙ ap (λ (p : Placed Text). map placed_item (take i groups) ++ p.item ∷ []) (sym at)

flips : (a b : Bool) → not a ≡ not b → a ≡ b
flips true true e = refl
flips true false e = cc
flips false true e = cc
flips false false e = refl

either : (a b : Bool) → cond a true b ≡ (b || (a || false))
either true true = refl
either true false = refl
either false true = refl
either false false = refl

-- the texts of the first of some groups, as they are found
abbrev pub IsMet : List (Placed Text) → ℕ → (Text → Bool) → Type 0
IsMet groups i found = (text : Text) → found text ≡ list_any (bytes_eq text) (map placed_item (take i groups))

module _ (groups : List (Placed Text)) (i : ℕ) (x : Placed Text) (within : i < length groups) (at : x ≡ get_or groups i x) where
  found_at : (found : Text → Bool) (key : Text) (new b : Bool) → key ≡ x.item → IsMet groups i found → new ≡ not (found key) → new ≡ not b → list_any (bytes_eq x.item) (map placed_item (take i groups)) ≡ b
  found_at found key new b is met added told = sym (met x.item) ∙ ap found (sym is) ∙ flips (found key) b (sym added ∙ told)

  -- the next, where it is met first, and where it was met before
  pub first_added : (found : Text → Bool) (key text : Text) (new : Bool) (texts after : List Text) → key ≡ x.item → text ≡ x.item → IsMet groups i found → new ≡ not (found key) → new ≡ true →
      after ≡ texts ++ text ∷ [] → texts ≡ firsts (map placed_item (take i groups)) → after ≡ firsts (map placed_item (take (i + 1) groups))
  first_added found key text new texts after is same met added told pushed so_far =
      let here = found_at found key new false is met added told in
      pushed ∙ ap (λ xs. xs ++ text ∷ []) so_far ∙ ap (λ (y : Text). firsts (map placed_item (take i groups)) ++ y ∷ []) same
      ∙ sym (ap firsts (texts_more groups i x within at) ∙ firsts_more (map placed_item (take i groups)) x.item ∙ ap (λ b. firsts (map placed_item (take i groups)) ++ cond b [] (x.item ∷ [])) here)

  pub met_before : (found : Text → Bool) (key : Text) (new : Bool) (texts : List Text) → key ≡ x.item → IsMet groups i found → new ≡ not (found key) → new ≡ false →
      texts ≡ firsts (map placed_item (take i groups)) → texts ≡ firsts (map placed_item (take (i + 1) groups))
  met_before found key new texts is met added told so_far =
      let here = found_at found key new true is met added told in
      so_far
      ∙ sym (ap firsts (texts_more groups i x within at) ∙ firsts_more (map placed_item (take i groups)) x.item ∙ ap (λ b. firsts (map placed_item (take i groups)) ++ cond b [] (x.item ∷ [])) here ∙ append-nil (firsts (map placed_item (take i groups))))

  -- what is met then
  pub met_more : (found then_found : Text → Bool) (key : Text) → key ≡ x.item → IsMet groups i found → ((text : Text) → then_found text ≡ cond (bytes_eq key text) true (found text)) → (text : Text) → then_found text ≡ list_any (bytes_eq text) (map placed_item (take (i + 1) groups))
  met_more found then_found key is met updates text =
      updates text ∙ ap (λ k. cond (bytes_eq k text) true (found text)) is ∙ ap (λ b. cond (bytes_eq x.item text) true b) (met text)
      ∙ either (bytes_eq x.item text) (list_any (bytes_eq text) (map placed_item (take i groups)))
      ∙ ap (λ b. list_any (bytes_eq text) (map placed_item (take i groups)) || (b || false)) (nat_list_eq_equiv.symm x.item text)
      ∙ sym (ap (list_any (bytes_eq text)) (texts_more groups i x within at) ∙ list_any-append (bytes_eq text) (map placed_item (take i groups)) (x.item ∷ []))
