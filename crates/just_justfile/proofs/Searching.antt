-- What a search finds among modules in byte order of their names.
use Rattle.std.proofs.Common.{◌≡◌, ◌∙◌, ◌⊎◌, ◌+◌, ◌<◌, ℕ, zero, suc, true, false, cond, List, [], ◌∷◌, length, map, get_or, None, Some, refl, sym, ap, subst, inl, inr, arith}
use Rattle.std.specs.Cmp.Lexicographic.{nat_list_cmp_total, slice_cmp}
use Rattle.std.specs.List.{AllByRecursion, Contains}
use Rattle.std.specs.List.Sorted.{IsNonDecreasingBy, IsPartitionPoint, IsStrictlySortedBy}
use Rattle.std.specs.Ordering.{is_eq, is_lt, nat_cmp, ordering_index, ordering_reverse}
use Rattle.std.specs.declared.cmp.Ordering.{Ordering}
use Rattle.std.specs.declared.cmp.Ordering.TheVariants.{Equal, Greater, Less}
use Rattle.std.specs.Str.{bytes_eq}
use Rattle.std.proofs.lemmas.Bool.{cases_lt}
use Rattle.std.proofs.lemmas.List.{get_or_default}
use Rattle.std.proofs.lemmas.List.Sorted.{searchable_from_sorted}
use Rattle.std.proofs.lemmas.Map.Text.{is_eq-slice_cmp}
use Rattle.std.proofs.lemmas.Slice.Eq.{bytes_eq-Decides}
use Rattle.just_justfile.specs.Module.{module_name}
use Rattle.just_justfile.specs.Walks.{NamesRise, module_named}
use Rattle.just_justfile.specs.declared.justfile.Justfile.{Justfile}
use Rattle.just_names.specs.Texts.{Text}

-- the order of a module's name and another
abbrev pub beside : Text → Justfile → Ordering
beside name j = slice_cmp nat_cmp (module_name j) name

first_or : (x m : Justfile) (ms : List Justfile) → Contains (m ∷ ms) x → (m ≡ x) ⊎ Contains ms x
first_or x m ms (zero, there, is) = inl is
first_or x m ms (suc k, there, is) = inr (k, omega (arith, there), is)

all_at : (P : Text → Type 0) (ms : List Justfile) (x : Justfile) → AllByRecursion P (map module_name ms) → Contains ms x → P (module_name x)
all_at P [] x all (k, there, is) = absurd (omega (arith, there))
all_at P (m ∷ ms) x all c = elim (first_or x m ms c) [ inl e ↦ subst P (ap module_name e) all.0 | inr more ↦ all_at P ms x all.1 more ]

-- a name that is not that of a module
other_name : (j : Justfile) (name : Text) (o : Ordering) → beside name j ≡ o → is_eq o ≡ false → bytes_eq (module_name j) name ≡ false
other_name j name o e not_equal = sym (is_eq-slice_cmp (module_name j) name) ∙ ap is_eq e ∙ not_equal

-- of names that rise the first of a name is the one of this name
pub named_by : (ms : List Justfile) → NamesRise ms → (x : Justfile) → Contains ms x → module_named (module_name x) ms ≡ Some x
unfolding IsStrictlySortedBy
named_by [] rise x (k, there, is) = absurd (omega (arith, there))
named_by (m ∷ ms) rise x c = elim (first_or x m ms c) [
  | inl e ↦ (
      let same : bytes_eq (module_name m) (module_name x) ≡ true = (bytes_eq-Decides (module_name m) (module_name x)).1 (ap module_name e) in
      ap (λ b. cond b (Some m) (module_named (module_name x) ms)) same ∙ ap Some e)
  | inr more ↦ (
      let less : beside (module_name x) m ≡ Less = all_at (λ y. slice_cmp nat_cmp (module_name m) y ≡ Less) ms x rise.0 more in
      ap (λ b. cond b (Some m) (module_named (module_name x) ms)) (other_name m (module_name x) Less less refl) ∙ named_by ms rise.1 x more)
]

-- a name that none of them has
none_named : (ms : List Justfile) (name : Text) → ((j : Justfile) → Contains ms j → bytes_eq (module_name j) name ≡ false) → module_named name ms ≡ None
none_named [] name none = refl
none_named (m ∷ ms) name none =
    ap (λ b. cond b (Some m) (module_named name ms)) (none m (zero, omega arith, refl))
    ∙ none_named ms name (λ j c. none j (suc c.0, omega (arith, c.1), c.2))

-- the name of a module is not below that of the one before it
next_above : (ms : List Justfile) → NamesRise ms → (k next : ℕ) (d : Justfile) → next ≡ k + 1 → next < length ms → is_lt (slice_cmp nat_cmp (module_name (get_or ms next d)) (module_name (get_or ms k d))) ≡ false
unfolding IsStrictlySortedBy
next_above [] rise k next d e l = absurd (omega arith)
next_above (m ∷ ms) rise k zero d e l = absurd (omega arith)
next_above (m ∷ ms) rise zero (suc next) d e l =
    let j : Justfile = get_or ms next d in
    let within : next < length ms = omega arith in
    let less : slice_cmp nat_cmp (module_name m) (module_name j) ≡ Less = all_at (λ y. slice_cmp nat_cmp (module_name m) y ≡ Less) ms j rise.0 (next, within, get_or_default ms next j d within) in
    ap is_lt (nat_list_cmp_total.antisymm (module_name j) (module_name m) ∙ ap ordering_reverse less)
next_above (m ∷ ms) rise (suc k) (suc next) d e l = next_above ms rise.1 k next d (omega arith) (omega arith)

module _ (ms : List Justfile) (rise : NamesRise ms) (name : Text) where
  -- the module at the place where a search ends
  pub found_at : (at : ℕ) (j : Justfile) → at < length ms → get_or ms at j ≡ j → beside name j ≡ Equal → module_named name ms ≡ Some j
  found_at at j within is equal =
      let same : module_name j ≡ name = (bytes_eq-Decides (module_name j) name).0 (sym (is_eq-slice_cmp (module_name j) name) ∙ ap is_eq equal) in
      subst (λ n. module_named n ms ≡ Some j) same (named_by ms rise j (at, within, is))

  searchable : IsNonDecreasingBy (λ j. ordering_index (beside name j)) ms
  searchable = searchable_from_sorted nat_list_cmp_total module_name ms name (λ k d low high. next_above ms rise k (k + 1) d refl high)

  -- where it ends between modules there is none
  pub found_nowhere : (at : ℕ) → (IsNonDecreasingBy (λ j. ordering_index (beside name j)) ms → IsPartitionPoint (λ j. beside name j ≡ Less) (λ j. beside name j ≡ Greater) ms at) → module_named name ms ≡ None
  found_nowhere at parted =
      let parts = parted searchable in
      none_named ms name (λ j c. elim (cases_lt c.0 at) [
        | inl below ↦ other_name j name Less (ap (beside name) (sym c.2) ∙ parts.0 c.0 j (omega arith) below) refl
        | inr above ↦ other_name j name Greater (ap (beside name) (sym c.2) ∙ parts.1 c.0 j above c.1) refl
      ])
