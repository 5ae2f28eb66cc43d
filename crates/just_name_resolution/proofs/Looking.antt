-- What is said is looked at, one after the other.
use Rattle.std.proofs.Common.{◌≡◌, ℕ, ◌+◌, ◌≤◌, Bool, true, false, cond, List, [], ◌∷◌, ◌++◌, length, Some, if◌then◌else◌, refl, sym, ◌∙◌, ap, subst, arith, inl, inr, ◌⊎◌, length-append, append_assoc, map}
use Rattle.std.specs.List.{Contains}
use Rattle.std.specs.Str.{bytes_eq}
use Rattle.std.proofs.lemmas.List.{append-nil}
use Rattle.std.proofs.lemmas.List.Elements.{Contains-append_cases, Contains-append_left, Contains-append_right, Contains-push}
use Rattle.std.proofs.lemmas.Slice.Eq.{bytes_eq-Decides}
use Rattle.std.proofs.lemmas.Option.{same_Some}
use Rattle.just_graph.proofs.Members.{the_one}
use Rattle.just_names.specs.Texts.{Text}
use Rattle.just_names.specs.declared.number.Number.{Number}
use Rattle.just_parts.specs.Needs.{same_number}
use Rattle.just_name_resolution.specs.loops.Search.{Found, LeadsOn, Looks, LooksSoFar, Says, SaysCall, functions_left, to_body, to_value, variables_left}
use Rattle.just_name_resolution.proofs.Fewer.{fewer_functions, fewer_variables, one_function_fewer, one_variable_fewer}
use Rattle.just_name_resolution.proofs.Sets.{number_itself, one_number}
use Rattle.just_ast_definitions.specs.declared.assignment.Assignment.{Assignment}
use Rattle.just_ast_definitions.specs.declared.function_definition.FunctionDefinition.{FunctionDefinition}
use Rattle.just_ast_references.specs.Mentions.{Calls, Mention, Names, mention_of}
use Rattle.just_ast_references.specs.declared.references.Reference.{Reference}
use Rattle.just_table.specs.Entries.{find}
use Rattle.just_parts.specs.Known.{Known}
use Rattle.just_parts.specs.Scopes.{Scoped}
use Rattle.just_parts.specs.loops.Scopes.{body_scoped, value_scoped}

pub not_in_none : {A : Type 0} (x : A) → Contains [] x → ⊥
not_in_none x (k, h, e) = omega arith

-- a mention is of one variable or of one function
same_name : (x y : Text) → Contains (Names x ∷ []) (Names y) → x ≡ y
same_name x y c = let e : Names x ≡ Names y = the_one (Names x) (Names y) c in cc

same_call : (x y : Text) (k l : ℕ) → Contains (Calls x k ∷ []) (Calls y l) → x ≡ y
same_call x y k l c = let e : Calls x k ≡ Calls y l = the_one (Calls x k) (Calls y l) c in cc

no_call : (x y : Text) (l : ℕ) → Contains (Names x ∷ []) (Calls y l) → ⊥
no_call x y l c = let e : Names x ≡ Calls y l = the_one (Names x) (Calls y l) c in cc

no_name : (x y : Text) (k : ℕ) → Contains (Calls x k ∷ []) (Names y) → ⊥
no_name x y k c = let e : Calls x k ≡ Names y = the_one (Calls x k) (Names y) c in cc

-- a key is found that was found before, or is the new one
pub added : (b c : Bool) → cond b true c ≡ true → (c ≡ true) ⊎ (b ≡ true)
added true c e = inr refl
added false c e = inl e

pub kept : (b c : Bool) → c ≡ true → cond b true c ≡ true
kept true c e = refl
kept false c e = e

module _ (m : Known) (overridden : Number → Bool) (hidden : Text → Bool) where
  -- what leads to nothing that is not found
  pub looks_settled : (said : List Mention) (f : Found) → ((name : Text) (a : Assignment) → Says m hidden said name a → f.number a.number ≡ true)
      → ((name : Text) (d : FunctionDefinition) → SaysCall m said name d → f.function name ≡ true) → Looks m overridden hidden said f f
  looks_settled said f numbers functions = record {
    keeps_numbers = λ n h. h;
    keeps_functions = λ name h. h;
    keeps_waiting = λ s h. h;
    numbers = numbers;
    functions = functions;
    new_number = λ n h. inl h;
    new_function = λ name h. inl h;
    new_waiting = λ s h. inl h;
    less = omega arith;
  }

  -- nothing is said
  pub looks_none : (f : Found) → Looks m overridden hidden [] f f
  looks_none f = looks_settled [] f (λ name a s. absurd (not_in_none (Names name) s.among)) (λ name d s. absurd (not_in_none (Calls name s.arguments) s.among))

  -- a variable that is settled
  pub looks_name : (name : Text) (f : Found) → ((a : Assignment) → hidden name ≡ false → find name m.assignments ≡ Some a → f.number a.number ≡ true) → Looks m overridden hidden (Names name ∷ []) f f
  looks_name name f settled =
      looks_settled (Names name ∷ []) f
      (λ x a s. let same : x ≡ name = sym (same_name name x s.among) in
      settled a (subst (λ y. hidden y ≡ false) same s.shown) (subst (λ y. find y m.assignments ≡ Some a) same s.is))
      (λ x d s. absurd (no_call name x s.arguments s.among))

  -- a call that is settled
  pub looks_call : (name : Text) (k : ℕ) (f : Found) → ((d : FunctionDefinition) → find name m.functions ≡ Some d → f.function name ≡ true) → Looks m overridden hidden (Calls name k ∷ []) f f
  looks_call name k f settled =
      looks_settled (Calls name k ∷ []) f
      (λ x a s. absurd (no_name name x k s.among))
      (λ x d s. let same : x ≡ name = sym (same_call name x k s.arguments s.among) in
      subst (λ y. f.function y ≡ true) (sym same) (settled d (subst (λ y. find y m.functions ≡ Some d) same s.is)))

  -- a variable is found
  module _ (name : Text) (a : Assignment) (shown : hidden name ≡ false) (is : find name m.assignments ≡ Some a) where
    abbrev said : List Mention
    said = Names name ∷ []

    says : Says m hidden said name a
    says = record { among = Contains-push [] (Names name); shown = shown; is = is }

    at_most_one : (b : Bool) (more : List Scoped) → more ≡ (if b then [] else value_scoped a ∷ []) → length more ≤ 1
    at_most_one true more e = let none : length more ≡ 0 = ap length e in omega arith
    at_most_one false more e = let one : length more ≡ 1 = ap length e in omega arith

    leads : (s : Scoped) (b : Bool) → overridden a.number ≡ b → Contains (if b then [] else value_scoped a ∷ []) s → LeadsOn m overridden hidden said s
    leads s true e c = absurd (not_in_none s c)
    leads s false e c = subst (LeadsOn m overridden hidden said) (the_one (value_scoped a) s c) (to_value says e)

    pub looks_variable : (f g : Found) (more : List Scoped) → f.number a.number ≡ false → ((n : Number) → g.number n ≡ cond (same_number a.number n) true (f.number n))
        → ((x : Text) → g.function x ≡ f.function x) → g.waiting ≡ f.waiting ++ more → more ≡ (if overridden a.number then [] else value_scoped a ∷ [])
        → Looks m overridden hidden said f g
    looks_variable f g more new number function waits which =
        let keeps : ((n : Number) → f.number n ≡ true → g.number n ≡ true) = λ n h. number n ∙ kept (same_number a.number n) (f.number n) h in
        let own : g.number a.number ≡ true = number a.number ∙ ap (λ b. cond b true (f.number a.number)) (number_itself a.number) in
        record {
          keeps_numbers = keeps;
          keeps_functions = λ x h. function x ∙ h;
          keeps_waiting = λ s c. subst (λ ss. Contains ss s) (sym waits) (Contains-append_left f.waiting more s c);
          numbers = λ x b s.
              let same : name ≡ x = same_name name x s.among in
              let found : a ≡ b = same_Some _ _ (sym is ∙ (ap (λ y. find y m.assignments) same ∙ s.is)) in
              subst (λ (c : Assignment). g.number c.number ≡ true) found own;
          functions = λ x d s. absurd (no_call name x s.arguments s.among);
          new_number = λ n h. elim (added (same_number a.number n) (f.number n) (sym (number n) ∙ h)) [
            | inl was ↦ inl was
            | inr e ↦
                let same : a.number ≡ n = one_number a.number n e in
                inr (record {
                  name = name;
                  assigned = a;
                  says = says;
                  number = same;
                  waits = λ on.
                      let value : more ≡ value_scoped a ∷ [] = which ∙ ap (λ b. if b then [] else value_scoped a ∷ []) (ap overridden same ∙ on) in
                      subst (λ ss. Contains ss (value_scoped a)) (sym waits) (Contains-append_right f.waiting more (value_scoped a) (subst (λ ss. Contains ss (value_scoped a)) (sym value) (Contains-push [] (value_scoped a))));
                })
          ];
          new_function = λ x h. inl (sym (function x) ∙ h);
          new_waiting = λ s c. elim (Contains-append_cases f.waiting more s (subst (λ ss. Contains ss s) waits c)) [
            | inl was ↦ inl was
            | inr there ↦ inr (leads s (overridden a.number) refl (subst (λ ss. Contains ss s) which there))
          ];
          less =
              let one : variables_left m g.number + 1 ≤ variables_left m f.number = one_variable_fewer m f.number g.number keeps name a is new own in
              let others : functions_left m g.function ≤ functions_left m f.function = fewer_functions m f.function g.function (λ x h. function x ∙ h) in
              let long : length g.waiting ≡ length f.waiting + length more = ap length waits ∙ length-append f.waiting more in
              let short : length more ≤ 1 = at_most_one (overridden a.number) more which in
              omega arith;
        }

  -- a function is found
  pub looks_function : (name : Text) (k : ℕ) (d : FunctionDefinition) → find name m.functions ≡ Some d → (f g : Found) → f.function name ≡ false
      → ((x : Text) → g.function x ≡ cond (bytes_eq name x) true (f.function x)) → ((n : Number) → g.number n ≡ f.number n) → g.waiting ≡ f.waiting ++ body_scoped d ∷ []
      → Looks m overridden hidden (Calls name k ∷ []) f g
  looks_function name k d is f g new function number waits =
      let keeps : ((x : Text) → f.function x ≡ true → g.function x ≡ true) = λ x h. function x ∙ kept (bytes_eq name x) (f.function x) h in
      let own : g.function name ≡ true = function name ∙ ap (λ b. cond b true (f.function name)) ((bytes_eq-Decides name name).1 refl) in
      record {
        keeps_numbers = λ n h. number n ∙ h;
        keeps_functions = keeps;
        keeps_waiting = λ s c. subst (λ ss. Contains ss s) (sym waits) (Contains-append_left f.waiting (body_scoped d ∷ []) s c);
        numbers = λ x b s. absurd (no_name name x k s.among);
        functions = λ x e s. subst (λ y. g.function y ≡ true) (same_call name x k s.arguments s.among) own;
        new_number = λ n h. inl (sym (number n) ∙ h);
        new_function = λ x h. elim (added (bytes_eq name x) (f.function x) (sym (function x) ∙ h)) [
          | inl was ↦ inl was
          | inr same ↦
              let whose : name ≡ x = (bytes_eq-Decides name x).0 same in
              inr (record {
                function = d;
                says = record {
                  arguments = k;
                  among = subst (λ y. Contains (Calls name k ∷ []) (Calls y k)) whose (Contains-push [] (Calls name k));
                  is = subst (λ y. find y m.functions ≡ Some d) whose is;
                };
                waits = subst (λ ss. Contains ss (body_scoped d)) (sym waits) (Contains-append_right f.waiting (body_scoped d ∷ []) (body_scoped d) (Contains-push [] (body_scoped d)));
              })
        ];
        new_waiting = λ s c. elim (Contains-append_cases f.waiting (body_scoped d ∷ []) s (subst (λ ss. Contains ss s) waits c)) [
          | inl was ↦ inl was
          | inr there ↦ inr (subst (LeadsOn m overridden hidden (Calls name k ∷ [])) (the_one (body_scoped d) s there) (to_body (record { arguments = k; among = Contains-push [] (Calls name k); is = is })))
        ];
        less =
            let one : functions_left m g.function + 1 ≤ functions_left m f.function = one_function_fewer m f.function g.function keeps name d is new own in
            let others : variables_left m g.number ≤ variables_left m f.number = fewer_variables m f.number g.number (λ n h. number n ∙ h) in
            let long : length g.waiting ≡ length f.waiting + length (body_scoped d ∷ []) = ap length waits ∙ length-append f.waiting (body_scoped d ∷ []) in
            omega arith;
      }

  -- more is said
  module _ (said more : List Mention) where
    says_left : {name : Text} {a : Assignment} → Says m hidden said name a → Says m hidden (said ++ more) name a
    says_left {name} s = record { among = Contains-append_left said more (Names name) s.among; shown = s.shown; is = s.is }

    says_right : {name : Text} {a : Assignment} → Says m hidden more name a → Says m hidden (said ++ more) name a
    says_right {name} s = record { among = Contains-append_right said more (Names name) s.among; shown = s.shown; is = s.is }

    says_cases : {name : Text} {a : Assignment} → Says m hidden (said ++ more) name a → Says m hidden said name a ⊎ Says m hidden more name a
    says_cases {name} s = elim (Contains-append_cases said more (Names name) s.among) [
      | inl c ↦ inl (record { among = c; shown = s.shown; is = s.is })
      | inr c ↦ inr (record { among = c; shown = s.shown; is = s.is })
    ]

    calls_cases : {name : Text} {d : FunctionDefinition} → SaysCall m (said ++ more) name d → SaysCall m said name d ⊎ SaysCall m more name d
    calls_cases {name} s = elim (Contains-append_cases said more (Calls name s.arguments) s.among) [
      | inl c ↦ inl (record { arguments = s.arguments; among = c; is = s.is })
      | inr c ↦ inr (record { arguments = s.arguments; among = c; is = s.is })
    ]

    call_left : {name : Text} {d : FunctionDefinition} → SaysCall m said name d → SaysCall m (said ++ more) name d
    call_left {name} s = record { arguments = s.arguments; among = Contains-append_left said more (Calls name s.arguments) s.among; is = s.is }

    call_right : {name : Text} {d : FunctionDefinition} → SaysCall m more name d → SaysCall m (said ++ more) name d
    call_right {name} s = record { arguments = s.arguments; among = Contains-append_right said more (Calls name s.arguments) s.among; is = s.is }

    leads_left : (s : Scoped) → LeadsOn m overridden hidden said s → LeadsOn m overridden hidden (said ++ more) s
    leads_left s (to_value says on) = to_value (says_left says) on
    leads_left s (to_body call) = to_body (call_left call)

    leads_right : (s : Scoped) → LeadsOn m overridden hidden more s → LeadsOn m overridden hidden (said ++ more) s
    leads_right s (to_value says on) = to_value (says_right says) on
    leads_right s (to_body call) = to_body (call_right call)

    pub looks_on : (f g h : Found) → Looks m overridden hidden said f g → Looks m overridden hidden more g h → Looks m overridden hidden (said ++ more) f h
    looks_on f g h one two = record {
      keeps_numbers = λ n e. two.keeps_numbers n (one.keeps_numbers n e);
      keeps_functions = λ name e. two.keeps_functions name (one.keeps_functions name e);
      keeps_waiting = λ s c. two.keeps_waiting s (one.keeps_waiting s c);
      numbers = λ name a s. elim (says_cases s) [ inl l ↦ two.keeps_numbers a.number (one.numbers name a l) | inr r ↦ two.numbers name a r ];
      functions = λ name d s. elim (calls_cases s) [ inl l ↦ two.keeps_functions name (one.functions name d l) | inr r ↦ two.functions name d r ];
      new_number = λ n e. elim (two.new_number n e) [
        | inl was ↦ elim (one.new_number n was) [
          | inl before ↦ inl before
          | inr v ↦ inr (record { name = v.name; assigned = v.assigned; says = says_left v.says; number = v.number; waits = λ on. two.keeps_waiting (value_scoped v.assigned) (v.waits on) })
        ]
        | inr v ↦ inr (record { name = v.name; assigned = v.assigned; says = says_right v.says; number = v.number; waits = v.waits })
      ];
      new_function = λ name e. elim (two.new_function name e) [
        | inl was ↦ elim (one.new_function name was) [
          | inl before ↦ inl before
          | inr v ↦ inr (record { function = v.function; says = call_left v.says; waits = two.keeps_waiting (body_scoped v.function) v.waits })
        ]
        | inr v ↦ inr (record { function = v.function; says = call_right v.says; waits = v.waits })
      ];
      new_waiting = λ s c. elim (two.new_waiting s c) [
        | inl was ↦ elim (one.new_waiting s was) [ inl before ↦ inl before | inr l ↦ inr (leads_left s l) ]
        | inr l ↦ inr (leads_right s l)
      ];
      less = let first = one.less in let second = two.less in omega arith;
    }

  -- nothing of what an expression says is left
  module _ (f g : Found) where
    pub looked_none : (all : List Mention) (left : List Reference) → map mention_of left ≡ all → LooksSoFar m overridden hidden all left f f
    looked_none all left e = record { said = []; whole = e; looks = looks_none f }

    pub looked_more : (all : List Mention) (left rest : List Reference) (next : Reference) (h : Found) → left ≡ next ∷ rest → LooksSoFar m overridden hidden all left f g
        → Looks m overridden hidden (mention_of next ∷ []) g h → LooksSoFar m overridden hidden all rest f h
    looked_more all left rest next h e so more = record {
      said = so.said ++ mention_of next ∷ [];
      whole = append_assoc so.said (mention_of next ∷ []) (map mention_of rest) ∙ (ap (λ xs. so.said ++ map mention_of xs) (sym e) ∙ so.whole);
      looks = looks_on so.said (mention_of next ∷ []) f g h so.looks more;
    }

    pub looked_all : (all : List Mention) (left : List Reference) (hides : Text → Bool) → left ≡ [] → ((name : Text) → hidden name ≡ hides name) → LooksSoFar m overridden hidden all left f g
        → Looks m overridden hides all f g
    looked_all all left hides e same so =
        let whole : so.said ≡ all = sym (append-nil so.said) ∙ (ap (λ xs. so.said ++ map mention_of xs) (sym e) ∙ so.whole) in
        subst (λ (h : Text → Bool). Looks m overridden h all f g) (λ i name. same name i) (subst (λ xs. Looks m overridden hidden xs f g) whole so.looks)
