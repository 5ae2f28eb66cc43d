-- The paths of a source map.
use Rattle.std.proofs.Common.{◌≡◌, ℕ, List, [], ◌∷◌, Option, Some, None, IfSome, IsSome, Result, Ok, Err, OnOk, OnErr, refl, sym, subst}
use Rattle.std.specs.Borrow.{Bor}
use Rattle.std.specs.List.{All}
use Rattle.std.specs.Map.{keys_of}
use Rattle.std.specs.Option.{option_copied}
use Rattle.std.specs.Ordering.{nat_cmp, match_ordering}
use Rattle.std.specs.Cmp.Lexicographic.{slice_cmp}
use Rattle.std.specs.declared.cmp.Ordering.{Ordering}
use Rattle.std.specs.declared.cmp.Ordering.TheVariants.{Less, Equal, Greater}
use Rattle.std.proofs.lemmas.List.Elements.{All-contains, All-head, All-tail, All-cons}
use Rattle.std.proofs.lemmas.Map.Views.{Contains-keys_from_lookup}
use Rattle.std.proofs.lemmas.Slice.Eq.{bytes_eq-Decides}
use Rattle.just_table.specs.Entries.{find, put}

module _ {V : Type 0} (P : List ℕ → Type 0) where
  abbrev Holds : List (List ℕ × V) → Type 0
  Holds es = All P (keys_of es)

  put_by : (o : Ordering) (k : List ℕ) (v : V) (e : List ℕ × V) (es rest : List (List ℕ × V)) → P k → Holds (e ∷ es) → Holds rest → Holds (match_ordering o ((k, v) ∷ e ∷ es) ((e.0, v) ∷ es) (e ∷ rest))
  put_by Less k v e es rest p all more = All-cons P k (keys_of (e ∷ es)) p all
  put_by Equal k v e es rest p all more = all
  put_by Greater k v e es rest p all more = All-cons P e.0 (keys_of rest) (All-head P e.0 (keys_of es) all) more

  -- one more key
  pub all_put : (k : List ℕ) (v : V) (es : List (List ℕ × V)) → P k → Holds es → Holds (put k v es)
  all_put k v [] p all = All-cons P k [] p all
  all_put k v (e ∷ es) p all = put_by (slice_cmp nat_cmp k e.0) k v e es (put k v es) p all (all_put k v es p (All-tail P e.0 (keys_of es) all))

  -- what holds of all keys holds of one that is found
  pub found_holds : (k : List ℕ) (v : V) (es : List (List ℕ × V)) → Holds es → find k es ≡ Some v → P k
  found_holds k v es all e = All-contains P (keys_of es) k all (Contains-keys_from_lookup (λ a b. (bytes_eq-Decides a b).0) k es (subst IsSome (sym e) refl))

  pub some_holds : (o : Option (Bor V)) (es : List (List ℕ × V)) (k : List ℕ) → Holds es → option_copied o ≡ find k es → IfSome o (λ _. P k)
  some_holds None es k all e = tt
  some_holds (Some v) es k all e = found_holds k v.now es all (sym e)

  pub put_holds : {A E : Type 0} (r : Result A E) (k : List ℕ) (v : V) (old new : List (List ℕ × V)) → P k → Holds old → OnOk r (new ≡ put k v old) → OnErr r (new ≡ old) → Holds new
  put_holds (Ok a) k v old new p all ok err = subst Holds (sym ok) (all_put k v old p all)
  put_holds (Err e) k v old new p all ok err = subst Holds (sym err) all
