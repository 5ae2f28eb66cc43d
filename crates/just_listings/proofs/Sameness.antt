-- Lists in order are the only ones.
use Rattle.std.proofs.Common.{◌≡◌, ℕ, suc, ◌+◌, ◌<◌, ◌≤◌, Bool, true, false, cond, List, [], ◌∷◌, ◌++◌, flat_map, map, length, get_or, refl, sym, ap, subst, ◌∙◌, arith, add-one}
use Rattle.std.specs.Cmp.{IsTotalOrder}
use Rattle.std.specs.List.{All, filter}
use Rattle.std.specs.List.Sorted.{IsSortedByKey}
use Rattle.std.specs.Cmp.Lexicographic.{slice_cmp}
use Rattle.std.specs.Ordering.{is_eq, is_lt, nat_cmp, ordering_reverse}
use Rattle.std.specs.declared.cmp.Ordering.{Ordering}
use Rattle.std.specs.declared.cmp.Ordering.TheVariants.{Less, Equal, Greater}
use Rattle.std.proofs.lemmas.Cmp.{alike_right, nat_list_cmp_total, tied_itself}
use Rattle.std.proofs.lemmas.List.Elements.{All-head, All-tail}
use Rattle.std.proofs.lemmas.List.MinMax.{ranks_by}
use Rattle.std.proofs.lemmas.List.Sorted.{sorted_far}
use Rattle.just_ast_definitions.specs.declared.alias.Alias.{Alias}
use Rattle.just_names.specs.Texts.{Text}
use Rattle.just_names.specs.declared.number.Number.{Number}
use Rattle.just_paths.specs.declared.modulepath.Modulepath.{Modulepath}
use Rattle.just_recipe_run.specs.Calls.{is_public}
use Rattle.just_justfile.specs.Closed.{HeldRecipes}
use Rattle.just_justfile.specs.declared.justfile.Justfile.{Justfile, out-Justfile}
use Rattle.just_listings.specs.Below.{ArePublicAliasesBelow, ArePublicRecipesBelow}
use Rattle.just_listings.specs.Groups.{AreGroupsInOrder, ArePublicGroups, firsts, group_order, itself, shown_groups}
use Rattle.just_listings.specs.Joined.{AreHadInTurn, more, nothing}
use Rattle.just_listings.specs.Order.{AreInAskedOrder, IsByKey, place_order, placed_item}
use Rattle.just_listings.specs.Preorder.{AreChosen, AreInPreorder, choice_of, next, none}
use Rattle.just_listings.specs.Public.{ArePublicRecipes, aliases_shown, is_public_module, module_place, own_recipes, recipe_place}
use Rattle.just_listings.specs.declared.order.Place.{Place}
use Rattle.just_listings.specs.declared.order.Placed.{Placed}
use Rattle.just_listings.specs.declared.walk.Choice.{Choice}
use Rattle.just_listings.specs.declared.walk.Choice.TheVariants as choice
use Rattle.just_listings.proofs.Grouping.{group_total}
use Rattle.just_listings.proofs.Ordering.{place_total}

-- what is not less is equal or greater
reversed : (o : Ordering) → o ≡ Less → ordering_reverse o ≡ Greater
reversed Less e = refl
reversed Equal e = cc
reversed Greater e = cc

heads_equal : {X : Type 0} (x y : X) (xs ys : List X) → x ∷ xs ≡ y ∷ ys → x ≡ y
heads_equal x y xs ys e = cc

tails_equal : {X : Type 0} (x y : X) (xs ys : List X) → x ∷ xs ≡ y ∷ ys → xs ≡ ys
tails_equal x y xs ys e = cc

module _ {K X : Type 0} (key : X → K) (cmp : K → K → Ordering) (total : IsTotalOrder cmp) where
  abbrev of_key : K → X → Bool
  of_key k x = is_eq (cmp (key x) k)

  -- one key below another one is below all that are not less than that
  below : (k l m : K) (o : Ordering) → cmp k l ≡ Less → cmp m l ≡ o → is_lt o ≡ false → cmp k m ≡ Less
  below k l m Less less e up = cc
  below k l m Equal less e up = alike_right total m l k e ∙ less
  below k l m Greater less e up =
      let back : cmp l m ≡ Less = total.antisymm l m ∙ ap ordering_reverse e in
      total.trans k l m less back

  -- all of a list in order that begins above a key are above it
  above : (k : K) (z : X) (zs : List X) → cmp k (key z) ≡ Less → IsSortedByKey key cmp (z ∷ zs) → All (λ x. cmp k (key x) ≡ Less) (z ∷ zs)
  above k z zs less up i d within =
      let far : is_lt (cmp (key (get_or (z ∷ zs) i d)) (key z)) ≡ false = sorted_far (λ a b. is_lt (cmp (key a) (key b))) (ranks_by total key) (z ∷ zs) up 0 i d (omega arith) within in
      below k (key z) (key (get_or (z ∷ zs) i d)) (cmp (key (get_or (z ∷ zs) i d)) (key z)) less refl far

  -- so none of them has that key
  none_of : (k : K) (zs : List X) → All (λ x. cmp k (key x) ≡ Less) zs → filter (of_key k) zs ≡ []
  none_of k [] all = refl
  none_of k (z ∷ zs) all =
      let here : cmp k (key z) ≡ Less = All-head (λ x. cmp k (key x) ≡ Less) z zs all in
      let greater : cmp (key z) k ≡ Greater = total.antisymm (key z) k ∙ reversed (cmp k (key z)) here in
      ap (λ c. cond (is_eq c) (z ∷ filter (of_key k) zs) (filter (of_key k) zs)) greater ∙ none_of k zs (All-tail (λ x. cmp k (key x) ≡ Less) z zs all)

  -- the first has its own key
  first_of_key : (z : X) (zs : List X) (k : K) → cmp (key z) k ≡ Equal → filter (of_key k) (z ∷ zs) ≡ z ∷ filter (of_key k) zs
  first_of_key z zs k e = ap (λ c. cond (is_eq c) (z ∷ filter (of_key k) zs) (filter (of_key k) zs)) e

  tail_rises : (z : X) (zs : List X) → IsSortedByKey key cmp (z ∷ zs) → IsSortedByKey key cmp zs
  tail_rises z zs up k d low within =
      let later : suc k + 1 ≡ suc (k + 1) = omega arith in
      ap (λ n. is_lt (cmp (key (get_or (z ∷ zs) n d)) (key (get_or zs k d)))) (sym later) ∙ up (suc k) d (omega arith) (omega (arith, within))

  without : (k : K) (z : X) (ys zs : List X) (b : Bool) → cond b (z ∷ filter (of_key k) ys) (filter (of_key k) ys) ≡ cond b (z ∷ filter (of_key k) zs) (filter (of_key k) zs) → filter (of_key k) ys ≡ filter (of_key k) zs
  without k z ys zs true e = tails_equal z z (filter (of_key k) ys) (filter (of_key k) zs) e
  without k z ys zs false e = e

  abbrev AreTied : List X → List X → Type 0
  AreTied ys zs = (k : K) → filter (of_key k) ys ≡ filter (of_key k) zs

  compared : (y z : X) (ys zs : List X) (o : Ordering) → cmp (key y) (key z) ≡ o → IsSortedByKey key cmp (y ∷ ys) → IsSortedByKey key cmp (z ∷ zs) → AreTied (y ∷ ys) (z ∷ zs) →
      (IsSortedByKey key cmp ys → IsSortedByKey key cmp zs → AreTied ys zs → ys ≡ zs) → y ∷ ys ≡ z ∷ zs
  compared y z ys zs Less e up upward tied rest =
      let no_others = none_of (key y) (z ∷ zs) (above (key y) z zs e upward) in
      let some = first_of_key y ys (key y) (tied_itself total (key y)) in
      let clash : y ∷ filter (of_key (key y)) ys ≡ [] = sym some ∙ tied (key y) ∙ no_others in
      cc
  compared y z ys zs Greater e up upward tied rest =
      let less : cmp (key z) (key y) ≡ Less = total.antisymm (key z) (key y) ∙ ap ordering_reverse e in
      let no_others = none_of (key z) (y ∷ ys) (above (key z) y ys less up) in
      let some = first_of_key z zs (key z) (tied_itself total (key z)) in
      let clash : z ∷ filter (of_key (key z)) zs ≡ [] = sym some ∙ sym (tied (key z)) ∙ no_others in
      cc
  compared y z ys zs Equal e up upward tied rest =
      let both : y ∷ filter (of_key (key z)) ys ≡ z ∷ filter (of_key (key z)) zs = sym (first_of_key y ys (key z) e) ∙ tied (key z) ∙ first_of_key z zs (key z) (tied_itself total (key z)) in
      let same : y ≡ z = heads_equal y z (filter (of_key (key z)) ys) (filter (of_key (key z)) zs) both in
      let tails : AreTied ys zs = λ k. without k y ys zs (of_key k y) (tied k ∙ ap (λ (x : X). filter (of_key k) (x ∷ zs)) (sym same)) in
      ap (λ xs. y ∷ xs) (rest (tail_rises y ys up) (tail_rises z zs upward) tails) ∙ ap (λ (x : X). x ∷ zs) same

  -- two lists that rise and have the same elements of each key, in the same order
  one_rise : (ys zs : List X) → IsSortedByKey key cmp ys → IsSortedByKey key cmp zs → AreTied ys zs → ys ≡ zs
  one_rise [] [] up upward tied = refl
  one_rise [] (z ∷ zs) up upward tied =
      let clash : [] ≡ z ∷ filter (of_key (key z)) zs = tied (key z) ∙ first_of_key z zs (key z) (tied_itself total (key z)) in
      cc
  one_rise (y ∷ ys) [] up upward tied =
      let clash : y ∷ filter (of_key (key y)) ys ≡ [] = sym (first_of_key y ys (key y) (tied_itself total (key y))) ∙ tied (key y) in
      cc
  one_rise (y ∷ ys) (z ∷ zs) up upward tied = compared y z ys zs (cmp (key y) (key z)) refl up upward tied (one_rise ys zs)

  pub one_by_key : (xs ys zs : List X) → IsByKey key cmp xs ys → IsByKey key cmp xs zs → ys ≡ zs
  one_by_key xs ys zs by other = one_rise ys zs by.rising other.rising (λ k. by.tied k ∙ sym (other.tied k))

  pub one_in_order : (unsorted : Bool) (xs ys zs : List X) → AreInAskedOrder unsorted key cmp xs ys → AreInAskedOrder unsorted key cmp xs zs → ys ≡ zs
  one_in_order true xs ys zs by other = one_by_key xs ys zs by other
  one_in_order false xs ys zs same other = same ∙ sym other

-- listings in order
pub one_listing : {X : Type 0} (of : X → Place) (unsorted : Bool) (xs ys zs : List X) → AreInAskedOrder unsorted of place_order xs ys → AreInAskedOrder unsorted of place_order xs zs → ys ≡ zs
one_listing of unsorted xs ys zs by other = one_in_order of place_order place_total unsorted xs ys zs by other

groups_in_order : (unsorted : Bool) (groups one other : List (Placed Text)) → AreGroupsInOrder unsorted groups one → AreGroupsInOrder unsorted groups other → one ≡ other
groups_in_order true groups one other by also = one_by_key itself group_order group_total groups one other by also
groups_in_order false groups one other by also = one_by_key (placed_item {T = Text}) (slice_cmp nat_cmp) nat_list_cmp_total groups one other by also

pub one_grouping : (unsorted : Bool) (recipes : HeldRecipes) (j : Justfile) (one other : List Text) → ArePublicGroups unsorted recipes j one → ArePublicGroups unsorted recipes j other → one ≡ other
one_grouping unsorted recipes j one other p q =
    p.first ∙ ap (λ (groups : List (Placed Text)). firsts (map placed_item groups)) (groups_in_order unsorted (shown_groups recipes j) p.ordered q.ordered p.in_order q.in_order) ∙ sym q.first

-- walks
one_choice : (which : Choice) (j : Justfile) (one other : List Justfile) → AreChosen which j one → AreChosen which j other → one ≡ other
one_choice choice.All j one other p q = p ∙ sym q
one_choice choice.Public j one other p q = one_listing module_place false (filter is_public_module (out-Justfile j).modules) one other p q
one_choice choice.PublicUnsorted j one other p q = one_listing module_place true (filter is_public_module (out-Justfile j).modules) one other p q

module _ (which : Choice) where
  ended : (found : List Justfile) → AreInPreorder which [] found → found ≡ []
  ended _ none = refl

  abbrev Parts : Justfile → List Justfile → List Justfile → Type 0
  Parts j js found = (inner : List Justfile) × (below : List Justfile) × (rest : List Justfile) × (found ≡ j ∷ (below ++ rest)) × AreChosen which j inner × AreInPreorder which inner below × AreInPreorder which js rest

  parts : (j : Justfile) (js found : List Justfile) → AreInPreorder which (j ∷ js) found → Parts j js found
  parts j js _ (next {inner = i} {below = b} {rest = r} chosen under after) = (i, b, r, refl, chosen, under, after)

  pub one_walk : (js one other : List Justfile) → AreInPreorder which js one → AreInPreorder which js other → one ≡ other
  one_walk _ _ other none q = sym (ended other q)
  one_walk _ _ other (next {j = j} {js = js} {inner = i} {below = b} {rest = r} chosen under after) q =
      let p = parts j js other q in
      let inners : p.0 ≡ i = one_choice which j p.0 i p.4 chosen in
      let belows : b ≡ p.1 = one_walk i b p.1 under (subst (λ (ms : List Justfile). AreInPreorder which ms p.1) inners p.5) in
      let rests : r ≡ p.2 = one_walk js r p.2 after p.6 in
      ap (λ (ms : List Justfile). j ∷ (ms ++ r)) belows ∙ ap (λ (ms : List Justfile). j ∷ (p.1 ++ ms)) rests ∙ sym p.3

-- what modules have in turn
module _ {X : Type 0} (Has : Justfile → List X → Type 0) (one_has : (j : Justfile) (one other : List X) → Has j one → Has j other → one ≡ other) where
  had_nothing : (found : List X) → AreHadInTurn Has [] found → found ≡ []
  had_nothing _ nothing = refl

  turns : (j : Justfile) (js : List Justfile) (found : List X) → AreHadInTurn Has (j ∷ js) found → (here : List X) × (rest : List X) × (found ≡ here ++ rest) × Has j here × AreHadInTurn Has js rest
  turns j js _ (more {here = h} {rest = r} has others) = (h, r, refl, has, others)

  one_turn : (js : List Justfile) (one other : List X) → AreHadInTurn Has js one → AreHadInTurn Has js other → one ≡ other
  one_turn _ _ other nothing q = sym (had_nothing other q)
  one_turn _ _ other (more {j = j} {js = js} {here = h} {rest = r} has others) q =
      let p = turns j js other q in
      ap (λ xs. xs ++ r) (one_has j h p.0 has p.3) ∙ ap (λ xs. p.0 ++ xs) (one_turn js r p.1 others p.4) ∙ sym p.2

pub one_below : (unsorted : Bool) (recipes : HeldRecipes) (root : Justfile) (one other : HeldRecipes) → ArePublicRecipesBelow unsorted recipes root one → ArePublicRecipesBelow unsorted recipes root other → one ≡ other
one_below unsorted recipes root one other p q =
    let has = ArePublicRecipes unsorted recipes in
    let walks : p.modules ≡ q.modules = one_walk (choice_of unsorted) (root ∷ []) p.modules q.modules p.walked q.walked in
    one_turn has (λ j xs ys a b. one_listing recipe_place unsorted (filter is_public (own_recipes recipes j)) xs ys a b) q.modules one other
    (subst (λ (ms : List Justfile). AreHadInTurn has ms one) walks p.joined) q.joined

pub one_aliases : (unsorted : Bool) (root : Justfile) (one other : List (Alias Number × Modulepath)) → ArePublicAliasesBelow unsorted root one → ArePublicAliasesBelow unsorted root other → one ≡ other
one_aliases unsorted root one other p q =
    let walks : p.modules ≡ q.modules = one_walk (choice_of unsorted) (root ∷ []) p.modules q.modules p.walked q.walked in
    p.joined ∙ ap (flat_map aliases_shown) walks ∙ sym q.joined
