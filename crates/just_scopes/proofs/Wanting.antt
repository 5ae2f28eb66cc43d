-- One search from all starts finds what they need.
use Rattle.std.proofs.Common.{◌≡◌, ◌⊎◌, ◌||◌, Bool, true, false, not, cond, List, [], ◌∷◌, filter, Some, refl, sym, ◌∙◌, ap, subst, inl, inr}
use Rattle.std.proofs.lemmas.Bool.{or_cases}
use Rattle.std.specs.List.{list_any}
use Rattle.std.specs.Map.{values_of}
use Rattle.std.specs.Option.{option_map_or}
use Rattle.just_ast_definitions.specs.declared.assignment.Assignment.{Assignment}
use Rattle.just_graph.proofs.Members.{In, contained, from_map, in_map, is_in}
use Rattle.just_justfile.specs.Running.{NeedsIn, known_by_tables}
use Rattle.just_justfile.specs.declared.justfile.Justfile.{Justfile, out-Justfile}
use Rattle.just_name_resolution.proofs.Searching.{not_overridden}
use Rattle.just_name_resolution.proofs.Sets.{number_itself, one_number, or_left, or_right}
use Rattle.just_names.specs.Texts.{Text}
use Rattle.just_names.specs.declared.number.Number.{Number}
use Rattle.just_parts.specs.Needs.{AreNeededBy, HaveNumbersApart, has_number, onward, overridden_by, same_number, starts}
use Rattle.just_parts.specs.Known.{none_hidden}
use Rattle.just_parts.specs.Reading.{IsReadIn, Reads, ReadsOn}
use Rattle.just_table.specs.Entries.{IsSorted, find}
use Rattle.just_scopes.proofs.Needed.{need-flat}
use Rattle.just_scopes.proofs.Tables.{found_in, value_found}
use Rattle.just_scopes.specs.Need.{IsFound, IsNeededAtOnce, is_start}
use Rattle.just_scopes.specs.loops.Wanting.{free_values, is_free}

-- members that pass a test
module _ {A : Type 0} (p : A → Bool) where
  kept-by : (b : Bool) (y : A) (xs : List A) (x : A) → (In x xs → p x ≡ true → In x (filter p xs)) → p y ≡ b → In x (y ∷ xs) → p x ≡ true → In x (cond b (y ∷ filter p xs) (filter p xs))
  kept-by true y xs x rest is (inl e) h = inl e
  kept-by true y xs x rest is (inr i) h = inr (rest i h)
  kept-by false y xs x rest is (inl e) h = absurd (let wrong : true ≡ false = sym h ∙ ap p e ∙ is in cc)
  kept-by false y xs x rest is (inr i) h = rest i h

  pub in-filter : (xs : List A) (x : A) → In x xs → p x ≡ true → In x (filter p xs)
  in-filter [] x i h = absurd i
  in-filter (y ∷ xs) x i h = kept-by (p y) y xs x (in-filter xs x) refl i h

  left-by : (b : Bool) (y : A) (xs : List A) (x : A) → (In x (filter p xs) → In x xs × (p x ≡ true)) → p y ≡ b → In x (cond b (y ∷ filter p xs) (filter p xs)) → In x (y ∷ xs) × (p x ≡ true)
  left-by true y xs x rest is (inl e) = (inl e, ap p e ∙ is)
  left-by true y xs x rest is (inr i) = let r = rest i in (inr r.0, r.1)
  left-by false y xs x rest is i = let r = rest i in (inr r.0, r.1)

  pub out-filter : (xs : List A) (x : A) → In x (filter p xs) → In x xs × (p x ≡ true)
  out-filter [] x i = absurd i
  out-filter (y ∷ xs) x i = left-by (p y) y xs x (out-filter xs x) refl i

-- a number among those of variables
any-by : (b : Bool) (a : Assignment) (xs : List Assignment) (n : Number) → (list_any (λ (x : Assignment). same_number n x.number) xs ≡ true → (x : Assignment) × In x xs × (x.number ≡ n)) →
    same_number n a.number ≡ b → (b || list_any (λ (x : Assignment). same_number n x.number) xs) ≡ true → (x : Assignment) × In x (a ∷ xs) × (x.number ≡ n)
any-by true a xs n rest is h = (a, inl refl, sym (one_number n a.number is))
any-by false a xs n rest is h = let r = rest h in (r.0, inr r.1, r.2)

from-any : (xs : List Assignment) (n : Number) → list_any (λ (x : Assignment). same_number n x.number) xs ≡ true → (x : Assignment) × In x xs × (x.number ≡ n)
from-any [] n h = cc
from-any (a ∷ xs) n h = any-by (same_number n a.number) a xs n (from-any xs n) refl h

to-any : (xs : List Assignment) (x : Assignment) → In x xs → list_any (λ (a : Assignment). same_number x.number a.number) xs ≡ true
to-any [] x i = absurd i
to-any (a ∷ xs) x (inl e) = or_left (same_number x.number a.number) (list_any (λ (b : Assignment). same_number x.number b.number) xs) (subst (λ (b : Assignment). same_number x.number b.number ≡ true) e (number_itself x.number))
to-any (a ∷ xs) x (inr i) = or_right (same_number x.number a.number) (list_any (λ (b : Assignment). same_number x.number b.number) xs) (to-any xs x i)

not-true : (b : Bool) → not b ≡ true → b ≡ false
not-true true h = cc
not-true false h = refl

not-false : (b : Bool) → b ≡ false → not b ≡ true
not-false true h = cc
not-false false h = refl

same-none : (b : Bool) → (b ≡ true → ⊥) → b ≡ false
same-none true h = absurd (h refl)
same-none false h = refl

module _ (used : Number → Bool) (j : Justfile) (sorted : IsSorted (out-Justfile j).assignments) (apart : HaveNumbersApart (known_by_tables j)) where
  abbrev table : List (Text × Assignment)
  table = (out-Justfile j).assignments

  abbrev first : Assignment → Bool
  first = is_start used (out-Justfile j).settings

  abbrev begun : List Assignment
  begun = filter first (values_of table)

  abbrev seen : Number → Bool
  seen = has_number (out-Justfile j).overridden

  begun-start : (a : Assignment) → In a begun → (name : Text) × (find name table ≡ Some a) × (first a ≡ true)
  begun-start a i = let o = out-filter first (values_of table) a i in let f = value_found table sorted a o.0 in (f.0, f.1, o.1)

  start-begun : (name : Text) (a : Assignment) → find name table ≡ Some a → first a ≡ true → In a begun
  start-begun name a is h = in-filter first (values_of table) a (found_in table name a is) h

  -- what is read by the values of free starts is needed
  read-needed : (name : Text) → IsReadIn (known_by_tables j) (free_values j begun) name → NeedsIn j (IsNeededAtOnce used j) name
  read-needed name r =
      let v = from_map (λ (a : Assignment). a.value) r.e (filter (is_free j) begun) (is_in r.e (free_values j begun) r.there) in
      let o = out-filter (is_free j) begun v.0 v.1 in
      let s = begun-start v.0 o.0 in
      let free = not_overridden seen (known_by_tables j) s.0 v.0 s.1 (not-true (seen v.0.number) o.1) in
      onward (starts (record { assigned = v.0; is = s.1; starts = s.2 })) free (record { assigned = v.0; is = s.1; reads = subst (λ e. Reads (known_by_tables j) none_hidden e name) v.2 r.reads })

  -- whatever is needed is a start, or is needed from what these values read
  split-need : (name : Text) → NeedsIn j (IsNeededAtOnce used j) name → IsNeededAtOnce used j name ⊎ NeedsIn j (IsReadIn (known_by_tables j) (free_values j begun)) name
  split-need name (starts s) = inl s
  split-need name (onward {name = from} n free reads) = elim (split-need from n) [
    | inl s ↦ inr (starts (record {
      e = s.assigned.value;
      there = contained s.assigned.value (free_values j begun) (in_map (λ (a : Assignment). a.value) s.assigned (filter (is_free j) begun)
          (in-filter (is_free j) begun s.assigned (start-begun from s.assigned s.is s.starts) (not-false (seen s.assigned.number) (unseen from s.assigned s.is free))));
      reads = read-of from name s.assigned s.is reads;
    }))
    | inr r ↦ inr (onward r free reads)
  ]
    where
      unseen : (x : Text) (a : Assignment) → find x table ≡ Some a → overridden_by seen (known_by_tables j) x ≡ false → seen a.number ≡ false
      unseen x a is f = sym (ap (λ o. option_map_or (λ (b : Assignment). seen b.number) o false) is) ∙ f

      read-of : (x y : Text) (a : Assignment) → find x table ≡ Some a → ReadsOn (known_by_tables j) x y → Reads (known_by_tables j) none_hidden a.value y
      read-of x y a is r = let same : r.assigned ≡ a = cc in subst (λ (b : Assignment). Reads (known_by_tables j) none_hidden b.value y) same r.reads

  -- so the set of both has exactly what is needed
  pub all-found : (found set : Number → Bool) → AreNeededBy (known_by_tables j) seen (free_values j begun) found →
      ((n : Number) → set n ≡ (found n || list_any (λ (a : Assignment). same_number n a.number) begun)) → IsFound used j set
  all-found found set needed is n = (
    (λ h. elim (or_cases (found n) (list_any (λ (a : Assignment). same_number n a.number) begun) (sym (is n) ∙ h)) [
      | inl f ↦
          let i = (needed apart n).0 f in
          record { name = i.name; assigned = i.assigned; is = i.is; number = i.number; there = need-flat read-needed i.name i.there }
      | inr o ↦
          let a = from-any begun n o in
          let s = begun-start a.0 a.1 in
          record { name = s.0; assigned = a.0; is = s.1; number = a.2; there = starts (record { assigned = a.0; is = s.1; starts = s.2 }) }
    ]),
    (λ i. is n ∙ elim (split-need i.name i.there) [
      | inl s ↦
          let same : s.assigned ≡ i.assigned = cc in
          let own : list_any (λ (a : Assignment). same_number n a.number) begun ≡ true =
          subst (λ m. list_any (λ (a : Assignment). same_number m a.number) begun ≡ true) (ap (λ (a : Assignment). a.number) same ∙ i.number) (to-any begun s.assigned (start-begun i.name s.assigned s.is s.starts)) in
          or_right (found n) (list_any (λ (a : Assignment). same_number n a.number) begun) own
      | inr r ↦ or_left (found n) (list_any (λ (a : Assignment). same_number n a.number) begun) ((needed apart n).1 (record { name = i.name; assigned = i.assigned; is = i.is; number = i.number; there = r }))
    ]),
  )
