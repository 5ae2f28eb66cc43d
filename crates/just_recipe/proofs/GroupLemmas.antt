-- Groups of arguments.
use Rattle.std.proofs.Common.{◌≡◌, ℕ, zero, suc, ◌+◌, ◌-◌, ◌≤◌, Bool, true, false, not, ◌&&◌, ◌||◌, List, [], ◌∷◌, ◌++◌, length, take, drop, refl, sym, ◌∙◌, ap, subst, arith, append-nil, inl, inr}
use Rattle.std.specs.Prelude.{if◌then◌else◌}
use Rattle.std.specs.List.{list_any}
use Rattle.std.proofs.lemmas.Bool.{cases_Bool}
use Rattle.std.proofs.Math.ListN.{drop_of_length-le}
use Rattle.std.proofs.lemmas.List.{length-drop, nil_from_length, take-append-drop}
use Rattle.just_ast_definitions.specs.declared.parameter.Parameter.{Parameter}
use Rattle.just_ast_definitions.specs.Parameter.{is_variadic, most_arguments}
use Rattle.just_recipe.specs.Grouping.{grouped, concatenated, one_of, share, takes_all}

-- one argument less
one_less : (n m : ℕ) → n ≤ suc m → n - one_of n ≤ m
one_less zero m h = omega arith
one_less (suc n) m h = omega (arith, h)

no_more : (n m : ℕ) → n ≤ m → n - one_of n ≤ m
no_more zero m h = h
no_more (suc n) m h = omega (arith, h)

-- where a parameter takes one argument, the others take those that are left
room : (lists variadic any : Bool) (others n : ℕ) → (not lists && variadic) ≡ false → n ≤ (if lists then suc others else (if variadic || any then 18446744073709551614 else suc others))
    → n - one_of n ≤ (if lists then others else (if any then 18446744073709551614 else others))
room true variadic any others n e h = one_less n others h
room false true any others n e h = absurd (cc)
room false false true others n e h = no_more n 18446744073709551614 h
room false false false others n e h = one_less n others h

module _ {A : Type 0} where
  pub count_grouped : (lists : Bool) (ps : List Parameter) (left : List A) → length (grouped lists ps left) ≡ length ps
  count_grouped lists [] left = refl
  count_grouped lists (p ∷ ps) left = ap suc (count_grouped lists ps (drop (share lists p (length left)) left))

  -- what is left after a share can be taken by the others
  share_left : (lists : Bool) (p : Parameter) (ps : List Parameter) (left : List A) → length left ≤ most_arguments lists (p ∷ ps) → length (drop (share lists p (length left)) left) ≤ most_arguments lists ps
  share_left lists p ps left h = elim (cases_Bool (takes_all lists p)) [
    | inl all ↦
        let is : share lists p (length left) ≡ length left = ap (λ (b : Bool). if b then length left else one_of (length left)) all in
        subst (λ n. n ≤ most_arguments lists ps) (sym (length-drop (share lists p (length left)) left)) (omega (arith, is))
    | inr one ↦
        let is : share lists p (length left) ≡ one_of (length left) = ap (λ (b : Bool). if b then length left else one_of (length left)) one in
        subst (λ n. n ≤ most_arguments lists ps) (sym (length-drop (share lists p (length left)) left))
        (subst (λ n. length left - n ≤ most_arguments lists ps) (sym is) (room lists (is_variadic p.kind) (list_any (λ (q : Parameter). is_variadic q.kind) ps) (length ps) (length left) one h))
  ]

  -- where there are no more arguments than the parameters take, the groups are the arguments
  pub whole_grouped : (lists : Bool) (ps : List Parameter) (left : List A) → length left ≤ most_arguments lists ps → concatenated (grouped lists ps left) ≡ left
  whole_grouped true [] left h = sym (nil_from_length left (omega (arith, h)))
  whole_grouped false [] left h = sym (nil_from_length left (omega (arith, h)))
  whole_grouped lists (p ∷ ps) left h =
      let n = share lists p (length left) in
      ap (λ (xs : List A). take n left ++ xs) (whole_grouped lists ps (drop n left) (share_left lists p ps left h)) ∙ take-append-drop n left

  -- all parameters have their groups
  pub all_grouped : (lists : Bool) (ps items : List Parameter) (arguments left : List A) (groups : List (List A)) (n : ℕ) → items ≡ ps → length items ≤ n → grouped lists ps arguments ≡ groups ++ grouped lists (drop n ps) left →
      groups ≡ grouped lists ps arguments
  all_grouped lists ps items arguments left groups n same all so =
      let none : drop n ps ≡ [] = drop_of_length-le ps (subst (λ (qs : List Parameter). length qs ≤ n) same all) in
      sym (so ∙ (ap (λ (qs : List Parameter). groups ++ grouped lists qs left) none ∙ append-nil groups))
