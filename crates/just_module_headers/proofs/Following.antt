-- Parameters that follow a default, place by place.
use Rattle.std.proofs.Common.{◌≡◌, ℕ, ◌+◌, ◌<◌, ◌≤◌, ◌∙◌, Bool, true, false, List, length, map, get_or, sym, ap, subst, arith, inl, inr}
use Rattle.std.proofs.lemmas.Bool.{cases_lt, false≢true}
use Rattle.std.proofs.lemmas.List.{get_or-map, get_or_past, length-map}
use Rattle.just_ast_definitions.specs.declared.parameter.Parameter.{Parameter}
use Rattle.just_module_contents.specs.Recipes.{FollowsDefault, is_defaulted, is_needed}
use Rattle.just_module_contents.specs.loops.Recipes.{NoneFollows}

-- Whether one of the first n parameters has a default; and none of them that needs a word follows one.
pub record Passed (ps : List Parameter) (n : ℕ) (passed : Bool) : Type 0 where
  pub some : passed ≡ true → (k : ℕ) × (k < n) × (get_or (map is_defaulted ps) k false ≡ true)
  pub none : passed ≡ false → (k : ℕ) → k < n → get_or (map is_defaulted ps) k false ≡ false
  pub follows : (q : ℕ) → q < n → FollowsDefault ps q → ⊥

-- what a parameter is by its place
pub at_place : (f : Parameter → Bool) (ps : List Parameter) (n : ℕ) (p : Parameter) → p ≡ get_or ps n p → n < length ps → get_or (map f ps) n false ≡ f p
at_place f ps n p is h = get_or-map f ps n p false h ∙ ap f (sym is)

pub passed_none : (ps : List Parameter) → Passed ps 0 false
passed_none ps = record {
  some = λ h. absurd (false≢true h);
  none = λ h k l. absurd (omega (arith, l));
  follows = λ q l f. absurd (omega (arith, l));
}

-- a parameter that needs a word, after one with a default
pub follows_here : (ps : List Parameter) (n : ℕ) (passed : Bool) (p : Parameter) → Passed ps n passed → passed ≡ true → p ≡ get_or ps n p → n < length ps → is_needed p ≡ true → FollowsDefault ps n
follows_here ps n passed p so is at h needed =
    let found = so.some is in
    record { before = found.0; earlier = found.1; defaulted = found.2; needed = at_place is_needed ps n p at h ∙ needed }

-- one more parameter, which does not follow a default or needs no word
module _ (ps : List Parameter) (n : ℕ) (passed : Bool) (p : Parameter) (so : Passed ps n passed) (at : p ≡ get_or ps n p) (h : n < length ps) (fits : passed ≡ true → is_needed p ≡ true → ⊥) where
  not_here : FollowsDefault ps n → ⊥
  not_here f =
      let needed : is_needed p ≡ true = sym (at_place is_needed ps n p at h) ∙ f.needed in
      let none : passed ≡ true → ⊥ = λ is. fits is needed in
      let is_false : passed ≡ false = grind (arith, none) in
      false≢true (sym (so.none is_false f.before f.earlier) ∙ f.defaulted)

  still : (q : ℕ) → q < n + 1 → FollowsDefault ps q → ⊥
  still q l f = elim (cases_lt q n) [
    | inl b ↦ so.follows q b f
    | inr b ↦ let same : q ≡ n = omega (arith, l, b) in not_here (subst (FollowsDefault ps) same f)
  ]

  pub passed_on : is_defaulted p ≡ true → Passed ps (n + 1) true
  passed_on is = record {
    some = λ _. (n, omega arith, at_place is_defaulted ps n p at h ∙ is);
    none = λ e. absurd (false≢true (sym e));
    follows = still;
  }

  pub passed_by : is_defaulted p ≡ false → Passed ps (n + 1) passed
  passed_by is = record {
    some = λ e. let found = so.some e in (found.0, omega (arith, found.1), found.2);
    none = λ e k l. elim (cases_lt k n) [
      | inl b ↦ so.none e k b
      | inr b ↦ let same : n ≡ k = omega (arith, l, b) in subst (λ i. get_or (map is_defaulted ps) i false ≡ false) same (at_place is_defaulted ps n p at h ∙ is)
    ];
    follows = still;
  }

-- after the last
pub passed_all : (ps : List Parameter) (n : ℕ) (passed : Bool) → Passed ps n passed → length ps ≤ n → NoneFollows ps
passed_all ps n passed so all q f = elim (cases_lt q n) [
  | inl b ↦ so.follows q b f
  | inr b ↦ absurd (false≢true (sym (get_or_past (map is_needed ps) q false (omega (arith, all, b, length-map ps is_needed))) ∙ f.needed))
]
