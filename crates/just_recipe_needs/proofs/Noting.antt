-- Names that are noted.
use Rattle.std.proofs.Common.{◌≡◌, ◌∙◌, ap, sym, refl, subst, inl, inr, arith, zero, suc, Bool, true, false, not, List, [], ◌∷◌, ◌++◌, map, if◌then◌else◌}
use Rattle.std.specs.Prelude.{◌&&◌, cond, is_some}
use Rattle.std.specs.BTreeMap.{is_at}
use Rattle.std.specs.BTreeSet.{BTreeSet, contains}
use Rattle.std.specs.Cmp.Lexicographic.{slice_cmp}
use Rattle.std.specs.List.{Contains}
use Rattle.std.specs.Ordering.{nat_cmp}
use Rattle.std.proofs.lemmas.Cmp.{nat_list_cmp_total}
use Rattle.std.proofs.lemmas.Grind.{flat_map-append}
use Rattle.std.proofs.lemmas.List.{append_assoc, append-nil}
use Rattle.std.proofs.lemmas.List.Elements.{Contains-append_cases, Contains-append_left, Contains-append_right, Contains-push}
use Rattle.std.proofs.lemmas.Map.Lookups.{exact_bytes}
use Rattle.std.proofs.lemmas.Map.Text.{is_eq-slice_cmp}
use Rattle.std.proofs.lemmas.Map.Views.{btree_set_contains_iff}
use Rattle.std.proofs.lemmas.Slice.Eq.{bytes_eq-Decides}
use Rattle.just_ast_references.specs.Mentions.{Mention, Names, mention_of}
use Rattle.just_ast_references.specs.declared.references.Reference.{Reference}
use Rattle.just_name_resolution.proofs.Looking.{added, kept, not_in_none}
use Rattle.just_names.specs.Texts.{Text}
use Rattle.just_parts.specs.Known.{Known}
use Rattle.just_recipe_needs.specs.loops.Direct.{GainsNames, Notes, NotesCall, function_of, functions_of, mentioned_variable, variables_of}
use Rattle.just_recipe_needs.specs.declared.direct_names.DirectNames.{DirectNames}
use Rattle.just_table.specs.Entries.{find}

-- a list of one element has no other
pub the_one : {A : Type 0} (x y : A) → Contains (x ∷ []) y → x ≡ y
the_one x y (zero, h, e) = e
the_one x y (suc k, h, e) = absurd (omega arith)

and_false : (b : Bool) → (b && false) ≡ false
and_false true = refl
and_false false = refl

pub gains_none : (names : List Text) → GainsNames [] names names
gains_none names name = (λ c. inl c, λ e. elim e [ inl c ↦ c | inr c ↦ absurd (not_in_none name c) ])

pub gains_more : (first second old between new : List Text) → GainsNames first old between → GainsNames second between new → GainsNames (first ++ second) old new
gains_more first second old between new one two name = (
  λ c. elim ((two name).0 c) [
    | inl was ↦ elim ((one name).0 was) [ inl before ↦ inl before | inr x ↦ inr (Contains-append_left first second name x) ]
    | inr x ↦ inr (Contains-append_right first second name x)
  ],
  λ e. elim e [
    | inl before ↦ (two name).1 (inl ((one name).1 (inl before)))
    | inr c ↦ elim (Contains-append_cases first second name c) [
      | inl x ↦ (two name).1 (inl ((one name).1 (inr x)))
      | inr x ↦ (two name).1 (inr x)
    ]
  ],
)

-- texts that are compared as equal are one
at_text : (x y : Text) → is_at (slice_cmp nat_cmp x) y ≡ true → x ≡ y
at_text x y t = (bytes_eq-Decides x y).0 (sym (is_eq-slice_cmp x y) ∙ t)

itself : (x y : Text) → x ≡ y → is_at (slice_cmp nat_cmp x) y ≡ true
itself x y e = is_eq-slice_cmp x y ∙ (bytes_eq-Decides x y).1 e

-- one more name
pub gains_one : (old new : BTreeSet Text) (key name : Text) → key ≡ name
    → ((q : Text) → contains (slice_cmp nat_cmp) new q ≡ cond (is_at (slice_cmp nat_cmp key) q) true (contains (slice_cmp nat_cmp) old q)) → GainsNames (name ∷ []) old.keys new.keys
gains_one old new key name same update q =
    let was_in = btree_set_contains_iff nat_list_cmp_total exact_bytes old q in
    let is_in = btree_set_contains_iff nat_list_cmp_total exact_bytes new q in
    let is_key = is_at (slice_cmp nat_cmp key) q in
    let before = contains (slice_cmp nat_cmp) old q in (
      λ c. elim (added is_key before (sym (update q) ∙ is_in.1 c)) [
        | inl was ↦ inl (was_in.0 was)
        | inr e ↦ inr (subst (λ x. Contains (name ∷ []) x) (sym same ∙ at_text key q e) (Contains-push [] name))
      ],
      λ e. is_in.0 (update q ∙ elim e [
        | inl was ↦ kept is_key before (was_in.1 was)
        | inr c ↦ ap (λ b. cond b true before) (itself key q (same ∙ the_one name q c))
      ]),
    )

module _ (m : Known) (name : Text) (old : DirectNames) where
  pub call_unknown : is_some (find name m.functions) ≡ false → NotesCall m name old old
  call_unknown none hidden arguments = record {
    variables = gains_none old.variables.keys;
    functions = subst (λ names. GainsNames names old.functions.keys old.functions.keys) (ap (λ b. (if b then name ∷ [] else []) ++ []) (sym none)) (gains_none old.functions.keys);
  }

  pub call_known : is_some (find name m.functions) ≡ true → (new : DirectNames) → new.variables ≡ old.variables → GainsNames (name ∷ []) old.functions.keys new.functions.keys → NotesCall m name old new
  call_known is new same gains hidden arguments = record {
    variables = subst (λ (names : BTreeSet Text). GainsNames [] old.variables.keys names.keys) (sym same) (gains_none old.variables.keys);
    functions = subst (λ names. GainsNames names old.functions.keys new.functions.keys) (ap (λ b. (if b then name ∷ [] else []) ++ []) (sym is)) gains;
  }

  module _ (hidden : Text → Bool) where
    none_named : is_some (find name m.assignments) && not (hidden name) ≡ false → Notes m hidden (Names name ∷ []) old old
    none_named none = record {
      variables = subst (λ names. GainsNames names old.variables.keys old.variables.keys) (ap (λ b. (if b then name ∷ [] else []) ++ []) (sym none)) (gains_none old.variables.keys);
      functions = gains_none old.functions.keys;
    }

    pub variable_unknown : is_some (find name m.assignments) ≡ false → Notes m hidden (Names name ∷ []) old old
    variable_unknown none = none_named (ap (λ b. b && not (hidden name)) none)

    pub variable_hidden : hidden name ≡ true → Notes m hidden (Names name ∷ []) old old
    variable_hidden hides = none_named (ap (λ b. is_some (find name m.assignments) && not b) hides ∙ and_false (is_some (find name m.assignments)))

    pub variable_known : is_some (find name m.assignments) ≡ true → hidden name ≡ false → (new : DirectNames) → new.functions ≡ old.functions
        → GainsNames (name ∷ []) old.variables.keys new.variables.keys → Notes m hidden (Names name ∷ []) old new
    variable_known is shown new same gains = record {
      variables = subst (λ names. GainsNames names old.variables.keys new.variables.keys) (ap (λ b. (if b then name ∷ [] else []) ++ []) (sym (ap (λ b. b && not (hidden name)) is ∙ ap not shown))) gains;
      functions = subst (λ (names : BTreeSet Text). GainsNames [] old.functions.keys names.keys) (sym same) (gains_none old.functions.keys);
    }

-- What is noted so far of what an expression says.
pub record NotedSoFar (m : Known) (hidden : Text → Bool) (all : List Mention) (left : List Reference) (old new : DirectNames) : Type 0 where
  pub said : List Mention
  pub whole : said ++ map mention_of left ≡ all
  pub notes : Notes m hidden said old new

module _ (m : Known) (hidden : Text → Bool) (all : List Mention) (old : DirectNames) where
  pub noted_none : (left : List Reference) → map mention_of left ≡ all → NotedSoFar m hidden all left old old
  noted_none left e = record { said = []; whole = e; notes = record { variables = gains_none old.variables.keys; functions = gains_none old.functions.keys } }

  pub noted_more : (left rest : List Reference) (next : Reference) (between new : DirectNames) → left ≡ next ∷ rest → NotedSoFar m hidden all left old between
      → Notes m hidden (mention_of next ∷ []) between new → NotedSoFar m hidden all rest old new
  noted_more left rest next between new e so more =
      let one = mention_of next ∷ [] in
      record {
        said = so.said ++ one;
        whole = append_assoc so.said one (map mention_of rest) ∙ (ap (λ xs. so.said ++ map mention_of xs) (sym e) ∙ so.whole);
        notes = record {
          variables = subst (λ names. GainsNames names old.variables.keys new.variables.keys) (sym (flat_map-append (mentioned_variable m hidden) so.said one))
              (gains_more (variables_of m hidden so.said) (variables_of m hidden one) old.variables.keys between.variables.keys new.variables.keys so.notes.variables more.variables);
          functions = subst (λ names. GainsNames names old.functions.keys new.functions.keys) (sym (flat_map-append (function_of m) so.said one))
              (gains_more (functions_of m so.said) (functions_of m one) old.functions.keys between.functions.keys new.functions.keys so.notes.functions more.functions);
        };
      }

  pub noted_all : (left : List Reference) (new : DirectNames) → left ≡ [] → NotedSoFar m hidden all left old new → Notes m hidden all old new
  noted_all left new e so =
      subst (λ xs. Notes m hidden xs old new) (sym (append-nil so.said) ∙ (ap (λ xs. so.said ++ map mention_of xs) (sym e) ∙ so.whole)) so.notes
