-- Modules that are compiled in an order.
use Rattle.std.proofs.Common.{◌≡◌, ◌<◌, ℕ, zero, suc, ◌+◌, ◌-◌, nat_eq, cond, List, [], ◌∷◌, ◌++◌, map, take, length, slice_index, Option, Some, refl, sym, ap, subst, ◌∙◌, arith, inl, inr}
use Rattle.std.specs.Prelude.{flat_map}
use Rattle.std.specs.List.{Contains}
use Rattle.std.proofs.lemmas.Bool.{cases_lt, eq-eqb, eqb-true, false_from_ne_true}
use Rattle.std.proofs.lemmas.List.Elements.{Contains-get_or}
use Rattle.std.proofs.lemmas.List.{append-nil, append_assoc, take_more}
use Rattle.just_graph.specs.Graph.{HasEdge, targets}
use Rattle.just_graph.specs.Steps.{ListsStepsFirst, in_take}
use Rattle.just_graph.proofs.Members.{In, contained, from_flat, from_map, in_map, is_in}
use Rattle.just_names.specs.Texts.{Text}
use Rattle.just_recipe.specs.declared.dependency.Dependency.{Dependency}
use Rattle.just_errors.specs.Causes.{Reports}
use Rattle.just_errors.specs.declared.error.Error.{Error}
use Rattle.just_errors.proofs.Lifts.{reports_by}
use Rattle.just_recipe.specs.declared.recipe.Recipe.{Recipe}
use Rattle.just_recipe.specs.Recipes.{numbers}
use Rattle.just_justfile.specs.Walks.{NamesRise}
use Rattle.just_justfile.specs.declared.justfile.Justfile.{Justfile}
use Rattle.just_compiled.specs.Labelled.{by_name, slot, with_labels}
use Rattle.just_module_contents.specs.declared.labels.Label.{Label}
use Rattle.just_compiled.specs.Justfiles.{Made}
use Rattle.just_compiled.specs.loops.Settled.{AreInnerSettled, IsSettled}
use Rattle.just_compiled.proofs.ByName.{names_sorted}
use Rattle.just_compiled.proofs.Settling.{module_settled, named_settled, settled_more}
use Rattle.just_module_contents.proofs.Keeping.{kept_number}
use Rattle.just_module_contents.specs.Resolved.{unresolved_numbers}
use Rattle.just_module_contents.specs.Recipes.{no_recipe, recipe_at}
use Rattle.just_names.specs.declared.number.Number.{Number}
use Rattle.just_recipe.specs.declared.dependency.UnresolvedDependency.{UnresolvedDependency}
use Rattle.just_module_headers.specs.loops.OfPlaces.{recipes_of_place}
use Rattle.just_compiler.specs.loops.Steps.{BreaksInOrder, BreaksOver, CanCompileAll, CompilesPlace, HaveCompiled, HaveCompiledSoFar, IsCompiledAt, kept_of_place, made_before, not_yet, so_far, value_at}
use Rattle.just_module_headers.specs.declared.files.Files.{Files}
use Rattle.just_module_headers.specs.declared.join.Joined.{Joined}
use Rattle.just_parts.specs.Layers.{Given}

-- lists of values are one where they are found alike
all_same : {A : Type 0} (xs ys : List A) → map Some xs ≡ map Some ys → xs ≡ ys
all_same [] [] e = refl
all_same [] (y ∷ ys) e = cc
all_same (x ∷ xs) [] e = cc
all_same (x ∷ xs) (y ∷ ys) e =
    let head : x ≡ y = cc in
    let rest : map Some xs ≡ map Some ys = cc in
    (λ i. head i ∷ all_same xs ys rest i)

-- a function that is changed at a place
abbrev put_at : {A : Type 0} → ℕ → A → (ℕ → A) → ℕ → A
put_at p x f q = cond (nat_eq p q) x (f q)

put_here : {A : Type 0} (p : ℕ) (x : A) (f : ℕ → A) → put_at p x f p ≡ x
put_here p x f = ap (λ b. cond b x (f p)) (eq-eqb p p refl)

put_there : {A : Type 0} (p q : ℕ) (x : A) (f : ℕ → A) → (q ≡ p → ⊥) → put_at p x f q ≡ f q
put_there p q x f ne = ap (λ b. cond b x (f q)) (false_from_ne_true (nat_eq p q) (λ t. ne (sym (eqb-true p q t))))

flat_same : {A : Type 0} (f g : ℕ → List A) (xs : List ℕ) → ((x : ℕ) → In x xs → f x ≡ g x) → flat_map f xs ≡ flat_map g xs
flat_same f g [] each = refl
flat_same f g (x ∷ xs) each = λ i. each x (inl refl) i ++ flat_same f g xs (λ y h. each y (inr h)) i

map_same : {A : Type 0} (f g : ℕ → A) (xs : List ℕ) → ((x : ℕ) → In x xs → f x ≡ g x) → map f xs ≡ map g xs
map_same f g [] each = refl
map_same f g (x ∷ xs) each = λ i. each x (inl refl) i ∷ map_same f g xs (λ y h. each y (inr h)) i

map_map : {A B C : Type 0} (f : B → C) (g : A → B) (xs : List A) → map f (map g xs) ≡ map (λ x. f (g x)) xs
map_map f g [] = refl
map_map f g (x ∷ xs) = ap (λ ys. f (g x) ∷ ys) (map_map f g xs)

flat_end : {A : Type 0} (f : ℕ → List A) (xs : List ℕ) (x : ℕ) → flat_map f (xs ++ x ∷ []) ≡ flat_map f xs ++ f x
flat_end f [] x = append-nil (f x)
flat_end f (y ∷ xs) x = ap (λ ys. f y ++ ys) (flat_end f xs x) ∙ sym (append_assoc (f y) (flat_map f xs) (f x))

module _ (given : Given) (files : Files) (joined : Joined) (loaded : List Text) (order : List ℕ) (can : CanCompileAll given.syntax.enabled files joined order) (n : ℕ) (h : n < length order)
    (slots : List (Option Justfile)) (added : Made) (so : HaveCompiled given files joined loaded order n slots added) where
  abbrev p : ℕ
  p = slice_index order n

  abbrev row : ℕ → List ℕ
  row q = targets joined.modules.items q

  abbrev place : ℕ → ℕ
  place k = slice_index order k

  apart_from : (k : ℕ) → k < n → place k ≡ p → ⊥
  apart_from k l = can.once k n l h

  -- the modules in a listed module are listed before it
  listed : (k : ℕ) → k < length order → (q : ℕ) → In q (row (place k)) → (i : ℕ) × (i < k) × (place i ≡ q)
  listed k l q i = in_take order k q (omega (arith, l)) (can.inner_first k q l (contained q (row (place k)) i))

  -- they are not the next
  inner_apart : (k : ℕ) → k < n + 1 → (q : ℕ) → In q (row (place k)) → q ≡ p → ⊥
  inner_apart k l q i e = let x = listed k (omega (arith, l, h)) q i in apart_from x.0 (omega (arith, x.1, l)) (x.2 ∙ e)

  -- the modules in the next are held
  inner_held : (q : ℕ) → In q (row p) → slot slots q ≡ Some (so.justfile q)
  inner_held q i =
      let x = listed n h q i in
      let edge : HasEdge joined.modules.items p q = contained q (row p) i in
      subst (λ r. slot slots r ≡ Some (so.justfile r)) x.2
      (so.held x.0 x.1 (λ j l e. let same = can.one_outer j n q (omega (arith, l, h)) h (subst (HasEdge joined.modules.items (place j)) x.2 e) edge in omega (arith, same, l)))

  pub inner_there : map Some (map so.justfile (row p)) ≡ map (slot slots) (row p)
  inner_there = map_map Some so.justfile (row p) ∙ map_same (λ q. Some (so.justfile q)) (slot slots) (row p) (λ q i. sym (inner_held q i))

  -- their numbers are not those of the next
  pub numbers_apart : (m : ℕ) → Contains (numbers added.recipes) m → Contains (unresolved_numbers (recipes_of_place given.syntax.enabled files joined p)) m → ⊥
  numbers_apart m a b =
      let r = from_map (λ (x : Recipe Dependency). x.number.0) m added.recipes (is_in m (numbers added.recipes) a) in
      let q = from_flat (λ q. (so.made q).recipes) r.0 (take n order) (subst (In r.0) so.recipes r.1) in
      let k = in_take order n q.0 (omega (arith, h)) (contained q.0 (take n order) q.1) in
      let kept = kept_of_place given.syntax.enabled files joined (place k.0) in
      let at = (so.each k.0 k.1).links.linked.only r.0 (contained r.0 (so.made (place k.0)).recipes (subst (λ y. In r.0 (so.made y).recipes) (sym k.2) q.2)) in
      let source = recipe_at kept at.0 in
      let number : m ≡ source.number.0 = r.2 ∙ ap (λ (x : Number). x.0) at.1.made_of.resolved.number in
      let there : In source.number.0 (unresolved_numbers kept) = in_map (λ (x : Recipe UnresolvedDependency). x.number.0) source kept (is_in source kept (Contains-get_or kept at.0 no_recipe at.1.there)) in
      let known = kept_number (recipes_of_place given.syntax.enabled files joined (place k.0)) m (subst (λ x. In x (unresolved_numbers kept)) (sym number) there) in
      can.apart k.0 n m k.1 h (contained m (unresolved_numbers (recipes_of_place given.syntax.enabled files joined (place k.0))) known) b

  module _ (new : List (Option Justfile)) (after : Made) (step : CompilesPlace given files joined loaded p slots new added after) where
    abbrev made : ℕ → Made
    made = put_at p step.made so.made

    abbrev justfile : ℕ → Justfile
    justfile = put_at p step.justfile so.justfile

    made_same : (k : ℕ) → k < n + 1 → (q : ℕ) → In q (take k order) → so.made q ≡ made q
    made_same k l q i = let x = in_take order k q (omega (arith, l, h)) (contained q (take k order) i) in sym (put_there p q step.made so.made (λ e. apart_from x.0 (omega (arith, x.1, l)) (x.2 ∙ e)))

    before_same : (k : ℕ) → k < n + 1 → made_before so.made order k ≡ made_before made order k
    before_same k l = flat_same (λ q. (so.made q).recipes) (λ q. (made q).recipes) (take k order) (λ q i. ap (λ (x : Made). x.recipes) (made_same k l q i))

    -- what is added of each kind
    module _ {A : Type 0} (of : Made → List A) where
      all : of after ≡ of added ++ of step.made → of added ≡ flat_map (λ q. of (so.made q)) (take n order) → of after ≡ flat_map (λ q. of (made q)) (take (n + 1) order)
      all appended before =
          appended ∙ (λ i. (before ∙ flat_same (λ q. of (so.made q)) (λ q. of (made q)) (take n order) (λ q c. ap of (made_same n (omega arith) q c))) i ++ of (sym (put_here p step.made so.made) i))
          ∙ sym (ap (flat_map (λ q. of (made q))) (take_more order n 0 h) ∙ flat_end (λ q. of (made q)) (take n order) p)

    inner_same : (k : ℕ) → k < n + 1 → map so.justfile (row (place k)) ≡ map justfile (row (place k))
    inner_same k l = map_same so.justfile justfile (row (place k)) (λ q i. sym (put_there p q step.justfile so.justfile (inner_apart k l q i)))

    abbrev At : ℕ → List Justfile → List (Recipe Dependency) → Made → Justfile → Type 0
    At q = IsCompiledAt given files joined loaded q

    each_before : (k : ℕ) → k < n → At (place k) (map justfile (row (place k))) (made_before made order k) (made (place k)) (justfile (place k))
    each_before k l =
        let ne : place k ≡ p → ⊥ = apart_from k l in
        subst (λ rs. At (place k) (map justfile (row (place k))) rs (made (place k)) (justfile (place k))) (before_same k (omega (arith, l)))
        (subst (λ js. At (place k) js (made_before so.made order k) (made (place k)) (justfile (place k))) (inner_same k (omega (arith, l)))
        (subst (λ ms. At (place k) (map so.justfile (row (place k))) (made_before so.made order k) ms (justfile (place k))) (sym (put_there p (place k) step.made so.made ne))
        (subst (λ j. At (place k) (map so.justfile (row (place k))) (made_before so.made order k) (so.made (place k)) j) (sym (put_there p (place k) step.justfile so.justfile ne)) (so.each k l))))

    each_here : At p (map justfile (row p)) (made_before made order n) (made p) (justfile p)
    each_here =
        subst (λ rs. At p (map justfile (row p)) rs (made p) (justfile p)) (so.recipes ∙ before_same n (omega arith))
        (subst (λ js. At p js added.recipes (made p) (justfile p)) (inner_same n (omega arith))
        (subst (λ ms. At p (map so.justfile (row p)) added.recipes ms (justfile p)) (sym (put_here p step.made so.made))
        (subst (λ j. At p (map so.justfile (row p)) added.recipes step.made j) (sym (put_here p step.justfile so.justfile)) (step.compiled (map so.justfile (row p)) inner_there))))

    -- one more is compiled
    pub compiled_more : HaveCompiled given files joined loaded order (n + 1) new after
    compiled_more = record {
      made = made;
      justfile = justfile;
      recipes = all (λ (x : Made). x.recipes) step.recipes so.recipes;
      overridden = all (λ (x : Made). x.overridden) step.overridden so.overridden;
      each = λ k l. elim (cases_lt k n) [
        | inl b ↦ each_before k b
        | inr b ↦ let same : n ≡ k = omega (arith, l, b) in subst (λ i. At (place i) (map justfile (row (place i))) (made_before made order i) (made (place i)) (justfile (place i))) same each_here
      ];
      held = λ k l free. elim (cases_lt k n) [
        | inl b ↦
            let ne : place k ≡ p → ⊥ = apart_from k b in
            step.others (place k) ne (λ e. free n (omega arith) e) ∙ so.held k b (λ i m e. free i (omega (arith, m)) e) ∙ ap Some (sym (put_there p (place k) step.justfile so.justfile ne))
        | inr b ↦
            let same : n ≡ k = omega (arith, l, b) in
            subst (λ i. slot new (place i) ≡ Some (justfile (place i))) same (step.here ∙ ap Some (sym (put_here p step.justfile so.justfile)))
      ];
      room = step.room ∙ so.room;
    }

-- none is compiled
compiled_none : (given : Given) (files : Files) (joined : Joined) (loaded : List Text) (order : List ℕ) (slots : List (Option Justfile)) (added : Made) → Justfile → length slots ≡ length files.asts.items → added.recipes ≡ [] → added.overridden ≡ []
    → HaveCompiled given files joined loaded order 0 slots added
compiled_none given files joined loaded order slots added j room no_recipes not_overridden = record {
  made = λ q. record { recipes = []; overridden = [] };
  justfile = λ q. j;
  recipes = no_recipes;
  overridden = not_overridden;
  each = λ k l. absurd (omega (arith, l));
  held = λ k l free. absurd (omega (arith, l));
  room = room;
}

-- nothing is held for the modules in one that has none
no_inner : (row : List ℕ) → ((q : ℕ) → In q row → ⊥) → (slots : List (Option Justfile)) → (js : List Justfile) × (map Some js ≡ map (slot slots) row)
no_inner [] free slots = ([], refl)
no_inner (q ∷ qs) free slots = absurd (free q (inl refl))

no_members : (row : List ℕ) → ((q : ℕ) → In q row → ⊥) → (slots : List (Option Justfile)) (js : List Justfile) → map Some js ≡ map (slot slots) row → (j : Justfile) → In j js → ⊥
no_members [] free slots [] e j h = absurd h
no_members [] free slots (k ∷ js) e j h = cc
no_members (q ∷ qs) free slots js e j h = absurd (free q (inl refl))

-- what more modules add comes after what fewer add
pub before_more : (made : ℕ → Made) (order : List ℕ) (i d : ℕ) → i + d < length order + 1 → (rest : List (Recipe Dependency)) × (made_before made order (i + d) ≡ made_before made order i ++ rest)
before_more made order i zero l = ([], ap (made_before made order) (omega arith) ∙ sym (append-nil (made_before made order i)))
before_more made order i (suc d) l =
    let r = before_more made order i d (omega (arith, l)) in
    let next : made_before made order (i + suc d) ≡ made_before made order (i + d) ++ (made (slice_index order (i + d))).recipes =
    ap (made_before made order) (omega arith) ∙ ap (flat_map (λ q. (made q).recipes)) (take_more order (i + d) 0 (omega (arith, l))) ∙ flat_end (λ q. (made q).recipes) (take (i + d) order) (slice_index order (i + d)) in
    (r.0 ++ (made (slice_index order (i + d))).recipes, next ∙ ap (λ rs. rs ++ (made (slice_index order (i + d))).recipes) r.1 ∙ append_assoc (made_before made order i) r.0 (made (slice_index order (i + d))).recipes)

pub before_next : (made : ℕ → Made) (order : List ℕ) (k : ℕ) → k < length order → made_before made order (k + 1) ≡ made_before made order k ++ (made (slice_index order k)).recipes
before_next made order k l = ap (flat_map (λ q. (made q).recipes)) (take_more order k 0 l) ∙ flat_end (λ q. (made q).recipes) (take k order) (slice_index order k)

-- a module that is compiled is settled among what is added later
module _ (given : Given) (files : Files) (joined : Joined) (loaded : List Text) (order : List ℕ) (inner_first : ListsStepsFirst (HasEdge joined.modules.items) order) (made : ℕ → Made) (justfile : ℕ → Justfile) (n : ℕ) (short : n < length order + 1)
    (each : (k : ℕ) → k < n → IsCompiledAt given files joined loaded (slice_index order k) (map justfile (targets joined.modules.items (slice_index order k))) (made_before made order k) (made (slice_index order k)) (justfile (slice_index order k))) where
  settled_to : (i k : ℕ) (j : Justfile) → i < k + 1 → k < n + 1 → IsSettled (made_before made order i) j → IsSettled (made_before made order k) j
  settled_to i k j l m is =
      let r = before_more made order i (k - i) (omega (arith, l, m, short)) in
      let whole : i + (k - i) ≡ k = omega (arith, l) in
      subst (λ rs. IsSettled rs j) (sym r.1 ∙ ap (made_before made order) whole) (settled_more r.0 is)

  settled_at : (fuel k : ℕ) → k < fuel → k < n → IsSettled (made_before made order (k + 1)) (justfile (slice_index order k))
  settled_at zero k less l = absurd (omega (arith, less))
  settled_at (suc fuel) k less l =
      let p = slice_index order k in
      let at = each k l in
      let here : made_before made order (k + 1) ≡ made_before made order k ++ (made p).recipes = before_next made order k (omega (arith, l, short)) in
      let inner : (j : Justfile) → In j (map justfile (targets joined.modules.items p)) → IsSettled (made_before made order k) j = λ j i.
      let q = from_map justfile j (targets joined.modules.items p) i in
      let x = in_take order k q.0 (omega (arith, l, short)) (inner_first k q.0 (omega (arith, l, short)) (contained q.0 (targets joined.modules.items p) q.1)) in
      subst (IsSettled (made_before made order k)) (ap justfile x.2 ∙ sym q.2) (settled_to (x.0 + 1) k (justfile (slice_index order x.0)) (omega (arith, x.1)) (omega (arith, l)) (settled_at fuel x.0 (omega (arith, x.1, less)) (omega (arith, x.1, l)))) in
      subst (λ rs. IsSettled rs (justfile p)) (sym here)
      (module_settled (value_at given files joined p at.evaluated.it) given.syntax (kept_of_place given.syntax.enabled files joined p) at.standing (made_before made order k) (made p).recipes at.own.module_path (justfile p) at.links at.fields.recipes_are
      (subst NamesRise (sym at.modules) (names_sorted (with_labels (map justfile (targets joined.modules.items p)) at.labels)))
      (λ x c. named_settled (made_before made order k) (map justfile (targets joined.modules.items p)) at.labels inner x (subst (λ ms. Contains ms x) at.modules c)))

  pub held_settled : (m k : ℕ) → k < length order → k < m → m < n + 1 → IsSettled (made_before made order m) (justfile (slice_index order k))
  held_settled m k l less small = settled_to (k + 1) m (justfile (slice_index order k)) (omega (arith, less)) small (settled_at n k (omega (arith, less, small)) (omega (arith, less, small)))

  -- so are those in the module at a place, under labels
  pub inner_settled_at : (k : ℕ) → k < n + 1 → k < length order → (labels : List Label) (x : Justfile) → Contains (by_name (with_labels (map justfile (targets joined.modules.items (slice_index order k))) labels)) x → IsSettled (made_before made order k) x
  inner_settled_at k small l labels x c =
      named_settled (made_before made order k) (map justfile (targets joined.modules.items (slice_index order k))) labels (λ j i.
      let q = from_map justfile j (targets joined.modules.items (slice_index order k)) i in
      let y = in_take order k q.0 (omega (arith, l)) (inner_first k q.0 l (contained q.0 (targets joined.modules.items (slice_index order k)) q.1)) in
      subst (IsSettled (made_before made order k)) (ap justfile y.2 ∙ sym q.2) (held_settled k y.0 (omega (arith, y.1, l)) y.1 small)) x c

-- the same where none may be compiled yet
module _ (given : Given) (files : Files) (joined : Joined) (loaded : List Text) (order : List ℕ) where
  -- what the next breaks
  pub breaks_so_far : (n : ℕ) → n < length order → (slots : List (Option Justfile)) (added : Made) → HaveCompiledSoFar given files joined loaded order n slots added
      → (e : Error) → Reports (BreaksOver given files joined (slice_index order n) slots added.recipes) e → Reports (BreaksInOrder given files joined loaded order) e
  breaks_so_far n h slots added so e r =
      reports_by (BreaksOver given files joined (slice_index order n) slots added.recipes) (BreaksInOrder given files joined loaded order)
      (λ c b. record { at = n; there = h; slots = slots; all = added; before = so; broken = b }) e r

  pub all_so_far : (n : ℕ) (slots : List (Option Justfile)) (added : Made) → 0 < length order → n ≡ length order → HaveCompiledSoFar given files joined loaded order n slots added
      → HaveCompiled given files joined loaded order (length order) slots added
  all_so_far n slots added one same (not_yet none room recipes overridden) = absurd (omega (arith, one, same, none))
  all_so_far n slots added one same (so_far so) = subst (λ k. HaveCompiled given files joined loaded order k slots added) same so

  module _ (can : CanCompileAll given.syntax.enabled files joined order) (n : ℕ) (h : n < length order) (slots : List (Option Justfile)) (added : Made) where
    abbrev next : ℕ
    next = slice_index order n

    pub room_so_far : HaveCompiledSoFar given files joined loaded order n slots added → length slots ≡ length files.asts.items
    room_so_far (not_yet none room recipes overridden) = room
    room_so_far (so_far so) = so.room

    pub inner_so_far : HaveCompiledSoFar given files joined loaded order n slots added → (js : List Justfile) × (map Some js ≡ map (slot slots) (targets joined.modules.items next))
    inner_so_far (not_yet none room recipes overridden) =
        no_inner (targets joined.modules.items next)
        (λ q i. let x = in_take order n q (omega (arith, h)) (can.inner_first n q h (contained q (targets joined.modules.items next) i)) in omega (arith, x.1, none)) slots
    inner_so_far (so_far so) = (map so.justfile (targets joined.modules.items next), inner_there given files joined loaded order can n h slots added so)

    pub apart_so_far : HaveCompiledSoFar given files joined loaded order n slots added → (m : ℕ) → Contains (numbers added.recipes) m
        → Contains (unresolved_numbers (recipes_of_place given.syntax.enabled files joined next)) m → ⊥
    apart_so_far (not_yet none room recipes overridden) m a b =
        let c : Contains [] m = subst (λ (rs : List (Recipe Dependency)). Contains (numbers rs) m) recipes a in
        omega (arith, c.1)
    apart_so_far (so_far so) m a b = numbers_apart given files joined loaded order can n h slots added so m a b

    -- the modules in the next are settled
    pub settled_so_far : HaveCompiledSoFar given files joined loaded order n slots added → AreInnerSettled added.recipes slots (targets joined.modules.items next)
    settled_so_far (not_yet none room recipes overridden) js e j c =
        absurd (no_members (targets joined.modules.items next)
        (λ q i. let x = in_take order n q (omega (arith, h)) (can.inner_first n q h (contained q (targets joined.modules.items next) i)) in omega (arith, x.1, none)) slots js e j (is_in j js c))
    settled_so_far (so_far so) js e j c =
        let same : js ≡ map so.justfile (targets joined.modules.items next) = all_same js (map so.justfile (targets joined.modules.items next)) (e ∙ sym (inner_there given files joined loaded order can n h slots added so)) in
        let q = from_map so.justfile j (targets joined.modules.items next) (subst (In j) same (is_in j js c)) in
        let x = in_take order n q.0 (omega (arith, h)) (can.inner_first n q.0 h (contained q.0 (targets joined.modules.items next) q.1)) in
        subst (λ rs. IsSettled rs j) (sym so.recipes) (subst (IsSettled (made_before so.made order n)) (ap so.justfile x.2 ∙ sym q.2)
        (held_settled given files joined loaded order can.inner_first so.made so.justfile n (omega (arith, h)) so.each n x.0 (omega (arith, x.1, h)) x.1 (omega arith)))

    pub more_so_far : HaveCompiledSoFar given files joined loaded order n slots added → (new : List (Option Justfile)) (after : Made)
        → CompilesPlace given files joined loaded next slots new added after → HaveCompiledSoFar given files joined loaded order (n + 1) new after
    more_so_far (not_yet none room recipes overridden) new after step =
        let start = compiled_none given files joined loaded order slots added step.justfile room recipes overridden in
        so_far (compiled_more given files joined loaded order can n h slots added (subst (λ k. HaveCompiled given files joined loaded order k slots added) (sym none) start) new after step)
    more_so_far (so_far so) new after step = so_far (compiled_more given files joined loaded order can n h slots added so new after step)
