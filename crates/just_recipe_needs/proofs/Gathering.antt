-- What is collected from several starts.
use Rattle.std.proofs.Common.{◌≡◌, ◌∙◌, ap, sym, refl, subst, inl, inr, ◌⊎◌, Bool, true, false, List, [], ◌∷◌, ◌++◌, Some, None}
use Rattle.std.specs.Prelude.{◌↔◌, cond}
use Rattle.std.specs.List.{Contains, IsDistinct}
use Rattle.std.specs.Option.{option_map_or}
use Rattle.std.proofs.lemmas.Bool.{false≢true}
use Rattle.std.proofs.lemmas.List.Elements.{Contains-append_left, Contains-push, Contains-push_cases}
use Rattle.std.proofs.lemmas.Option.{none-some, same_Some}
use Rattle.just_ast_definitions.specs.declared.assignment.Assignment.{Assignment}
use Rattle.just_ast_definitions.specs.declared.function_definition.FunctionDefinition.{FunctionDefinition}
use Rattle.just_name_resolution.proofs.Looking.{added, kept, not_in_none}
use Rattle.just_name_resolution.proofs.Searching.{not_overridden}
use Rattle.just_name_resolution.proofs.Sets.{number_itself, one_number}
use Rattle.just_name_resolution.proofs.Starts.{number_more}
use Rattle.just_name_resolution.specs.Called.{AreBodiesRead, GainsCalled, IsCalledFrom, IsWholeSearch}
use Rattle.just_names.specs.Texts.{Text}
use Rattle.just_names.specs.declared.number.Number.{Number}
use Rattle.just_parts.specs.Known.{Known, hides, none_hidden}
use Rattle.just_parts.specs.Needs.{Gains, GainsAll, HaveNumbersApart, Needs, onward, overridden_by, same_number, starts}
use Rattle.just_parts.specs.Reading.{Reads}
use Rattle.just_recipe_needs.specs.Collected.{Collects, CollectsValue, ComesFrom, HaveNumbers, IsItself, IsReadInBody, IsStart}
use Rattle.just_recipe_needs.specs.Needed.{AreNumbersOf}
use Rattle.just_table.specs.Entries.{find}

module _ (m : Known) (overridden : Number → Bool) where
  -- one start after another
  module _ (A B C : Text → Type 0) (first : (name : Text) → A name → C name) (second : (name : Text) → B name → C name) (cases : (name : Text) → C name → A name ⊎ B name) where
    pub collects_both : (old between new : Number → Bool) (visited some more : Text → Bool) → Collects m overridden A old visited between some → Collects m overridden B between some new more
        → Collects m overridden C old visited new more
    collects_both old between new visited some more one two = record {
      keeps = λ n h. two.keeps n (one.keeps n h);
      only = λ n h. elim (two.only n h) [
        | inl was ↦ elim (one.only n was) [ inl before ↦ inl before | inr i ↦ inr (number_more m (overridden_by overridden m) A C first n i) ]
        | inr i ↦ inr (number_more m (overridden_by overridden m) B C second n i)
      ];
      whole = λ apart w. two.whole apart (one.whole apart w);
      all = λ apart w name a c is. elim (cases name c) [
        | inl x ↦ two.keeps a.number (one.all apart w name a x is)
        | inr y ↦ two.all apart (one.whole apart w) name a y is
      ];
    }

  -- the same start, told otherwise
  pub collects_as : (A B : Text → Type 0) → ((name : Text) → A name → B name) → ((name : Text) → B name → A name) → (old new : Number → Bool) (visited more : Text → Bool)
      → Collects m overridden A old visited new more → Collects m overridden B old visited new more
  collects_as A B to back old new visited more c = record {
    keeps = c.keeps;
    only = λ n h. elim (c.only n h) [ inl was ↦ inl was | inr i ↦ inr (number_more m (overridden_by overridden m) A B to n i) ];
    whole = c.whole;
    all = λ apart w name a b is. c.all apart w name a (back name b) is;
  }

  -- where all of a start is there, nothing is to be collected
  pub collects_nothing : (start : Text → Type 0) (old : Number → Bool) (visited : Text → Bool) → HaveNumbers m overridden start old → Collects m overridden start old visited old visited
  collects_nothing start old visited have = record {
    keeps = λ n h. h;
    only = λ n h. inl h;
    whole = λ apart w. w;
    all = λ apart w. have;
  }

  module _ (leads : Text → Text → Type 0) where
    pub collects_none : (old : Number → Bool) (visited : Text → Bool) → Collects m overridden (ComesFrom leads []) old visited old visited
    collects_none old visited = collects_nothing (ComesFrom leads []) old visited (λ name a c is. absurd (not_in_none c.from c.there))

    pub collects_more : (names : List Text) (next : Text) (old between new : Number → Bool) (visited some more : Text → Bool) → Collects m overridden (ComesFrom leads names) old visited between some
        → Collects m overridden (leads next) between some new more → Collects m overridden (ComesFrom leads (names ++ next ∷ [])) old visited new more
    collects_more names next =
        collects_both (ComesFrom leads names) (leads next) (ComesFrom leads (names ++ next ∷ []))
        (λ name c. record { from = c.from; there = Contains-append_left names (next ∷ []) c.from c.there; leads_there = c.leads_there })
        (λ name l. record { from = next; there = Contains-push names next; leads_there = l })
        (λ name c. elim (Contains-push_cases names next c.from c.there) [
          | inl before ↦ inl (record { from = c.from; there = before; leads_there = c.leads_there })
          | inr same ↦ inr (subst (λ x. leads x name) (sym same) c.leads_there)
        ])

  module _ (old new : Number → Bool) (visited more : Text → Bool) where
    -- what a search tells
    pub collected : (start : Text → Type 0) → Gains m overridden start old new → (AreBodiesRead m old visited → GainsAll m overridden start old new)
        → (HaveNumbersApart m → IsWholeSearch m overridden old visited → IsWholeSearch m overridden new more) → Collects m overridden start old visited new more
    collected start gains all whole = record {
      keeps = gains.keeps;
      only = gains.only;
      whole = whole;
      all = λ apart w name a s is. all w.bodies_read apart w.closed a.number (record { name = name; assigned = a; is = is; number = refl; there = starts s });
    }

    -- a body
    pub body_collected : (function : Text) (d : FunctionDefinition) → find function m.functions ≡ Some d → Collects m overridden (Reads m (hides d.parameters) d.body) old visited new more
        → Collects m overridden (IsReadInBody m function) old visited new more
    body_collected function d is =
        collects_as (Reads m (hides d.parameters) d.body) (IsReadInBody m function)
        (λ name r. record { definition = d; is = is; reads = r })
        (λ name r. subst (λ (x : FunctionDefinition). Reads m (hides x.parameters) x.body name) (same_Some _ _ (sym r.is ∙ is)) r.reads)
        old new visited more

    -- a value
    pub value_collected : (a : Assignment) → overridden a.number ≡ false → Collects m overridden (Reads m none_hidden a.value) old visited new more
        → GainsCalled m overridden old none_hidden a.value visited more → CollectsValue m overridden a old visited new more
    value_collected a on c calls = record {
      keeps = c.keeps;
      only = λ n h. elim (c.only n h) [ inl was ↦ inl was | inr i ↦ inr (on, i) ];
      whole = c.whole;
      all = λ apart w free. c.all apart w;
      called = λ apart w free. calls.all apart w;
    }

  pub body_unknown : (function : Text) (old : Number → Bool) (visited : Text → Bool) → find function m.functions ≡ None → Collects m overridden (IsReadInBody m function) old visited old visited
  body_unknown function old visited none =
      collects_nothing (IsReadInBody m function) old visited (λ name a r is. absurd (none-some r.definition (sym none ∙ r.is)))

  pub value_stopped : (a : Assignment) (old : Number → Bool) (visited : Text → Bool) → overridden a.number ≡ true → CollectsValue m overridden a old visited old visited
  value_stopped a old visited over = record {
    keeps = λ n h. h;
    only = λ n h. inl h;
    whole = λ apart w. w;
    all = λ apart w on. absurd (false≢true (sym on ∙ over));
    called = λ apart w on. absurd (false≢true (sym on ∙ over));
  }

  module _ (variable : Text) where
    pub variable_unknown : (old : Number → Bool) (visited : Text → Bool) → find variable m.assignments ≡ None → Collects m overridden (IsItself variable) old visited old visited
    variable_unknown old visited none =
        collects_nothing (IsItself variable) old visited (λ name a e is. absurd (none-some a (sym none ∙ (ap (λ x. find x m.assignments) (sym e) ∙ is))))

    module _ (a : Assignment) (is : find variable m.assignments ≡ Some a) where
      same_assigned : (name : Text) (b : Assignment) → name ≡ variable → find name m.assignments ≡ Some b → a ≡ b
      same_assigned name b e found = same_Some _ _ (sym is ∙ (ap (λ x. find x m.assignments) (sym e) ∙ found))

      pub variable_settled : (old : Number → Bool) (visited : Text → Bool) → old a.number ≡ true → Collects m overridden (IsItself variable) old visited old visited
      variable_settled old visited there =
          collects_nothing (IsItself variable) old visited (λ name b e found. subst (λ (x : Assignment). old x.number ≡ true) (same_assigned name b e found) there)

      module _ (old between new : Number → Bool) (visited more : Text → Bool) (value : CollectsValue m overridden a old visited between more)
          (inserted : (n : Number) → new n ≡ cond (same_number a.number n) true (between n)) where
        keeps_on : (n : Number) → between n ≡ true → new n ≡ true
        keeps_on n h = inserted n ∙ kept (same_number a.number n) (between n) h

        own : new a.number ≡ true
        own = inserted a.number ∙ ap (λ b. cond b true (between a.number)) (number_itself a.number)

        is_own : HaveNumbersApart m → (name : Text) (b : Assignment) → find name m.assignments ≡ Some b → same_number a.number b.number ≡ true → a ≡ b
        is_own apart name b found e =
            same_assigned name b (apart name variable b a found is (sym (one_number a.number b.number e))) found

        whole_on : HaveNumbersApart m → IsWholeSearch m overridden old visited → IsWholeSearch m overridden new more
        whole_on apart w =
            let now = value.whole apart w in
            record {
              closed = λ from to b d f t r on h. elim (added (same_number a.number b.number) (between b.number) (sym (inserted b.number) ∙ h)) [
                | inl was ↦ keeps_on d.number (now.closed from to b d f t r on was)
                | inr e ↦
                    let one : a ≡ b = is_own apart from b f e in
                    let read : a ≡ r.assigned = one ∙ same_Some _ _ (sym f ∙ r.is) in
                    let free : overridden a.number ≡ false = ap (λ (x : Assignment). overridden x.number) one ∙ on in
                    keeps_on d.number (value.all apart w free to d (subst (λ (x : Assignment). Reads m none_hidden x.value to) (sym read) r.reads) t)
              ];
              bodies_read = λ function name f b is seen found r. keeps_on b.number (now.bodies_read function name f b is seen found r);
              bodies_called = now.bodies_called;
              values_called = λ from name b f on h c. elim (added (same_number a.number b.number) (between b.number) (sym (inserted b.number) ∙ h)) [
                | inl was ↦ now.values_called from name b f on was c
                | inr e ↦
                    let one : a ≡ b = is_own apart from b f e in
                    let free : overridden a.number ≡ false = ap (λ (x : Assignment). overridden x.number) one ∙ on in
                    value.called apart w free name (subst (λ (x : Assignment). IsCalledFrom m overridden none_hidden x.value name) (sym one) c)
              ];
            }

        to_name : overridden a.number ≡ false → {x : Text} → Needs m (overridden_by overridden m) (Reads m none_hidden a.value) x → Needs m (overridden_by overridden m) (IsItself variable) x
        to_name on (starts r) = onward (starts refl) (not_overridden overridden m variable a is on) (record { assigned = a; is = is; reads = r })
        to_name on (onward need more step) = onward (to_name on need) more step

        pub variable_collected : Collects m overridden (IsItself variable) old visited new more
        variable_collected = record {
          keeps = λ n h. keeps_on n (value.keeps n h);
          only = λ n h. elim (added (same_number a.number n) (between n) (sym (inserted n) ∙ h)) [
            | inl was ↦ elim (value.only n was) [
              | inl before ↦ inl before
              | inr v ↦ inr (record { name = v.1.name; assigned = v.1.assigned; is = v.1.is; number = v.1.number; there = to_name v.0 v.1.there })
            ]
            | inr e ↦ inr (record { name = variable; assigned = a; is = is; number = one_number a.number n e; there = starts refl })
          ];
          whole = whole_on;
          all = λ apart w name b e found. subst (λ (x : Assignment). new x.number ≡ true) (same_assigned name b e found) own;
        }

  -- at the end
  module _ (old : Number → Bool) (visited : Text → Bool) (none : (n : Number) → old n ≡ false) (unvisited : (name : Text) → visited name ≡ false) where
    whole_nothing : IsWholeSearch m overridden old visited
    whole_nothing = record {
      closed = λ from to a b f t r on h. absurd (false≢true (sym (none a.number) ∙ h));
      bodies_read = λ function name f a is seen found r. absurd (false≢true (sym (unvisited function) ∙ seen));
      bodies_called = λ function name f is seen c. absurd (false≢true (sym (unvisited function) ∙ seen));
      values_called = λ variable name a is on h c. absurd (false≢true (sym (none a.number) ∙ h));
    }

    module _ (start : Text → Type 0) (new : Number → Bool) (more : Text → Bool) (c : Collects m overridden start old visited new more) where
      needs_found : HaveNumbersApart m → {name : Text} → Needs m (overridden_by overridden m) start name → (a : Assignment) → find name m.assignments ≡ Some a → new a.number ≡ true
      needs_found apart {name} (starts s) a is = c.all apart whole_nothing name a s is
      needs_found apart (onward {name = from} {next = to} need on step) a is =
          let free : overridden step.assigned.number ≡ false = sym (ap (λ o. option_map_or (λ (x : Assignment). overridden x.number) o false) step.is) ∙ on in
          (c.whole apart whole_nothing).closed from to step.assigned a step.is is step free (needs_found apart need step.assigned step.is)

      pub numbers_collected : (numbers : List Number) → IsDistinct same_number numbers → ((n : Number) → Contains numbers n ↔ (new n ≡ true)) → AreNumbersOf m overridden start numbers
      numbers_collected numbers once all = record {
        once = once;
        needed = λ apart n. (
          λ h. elim (c.only n ((all n).0 h)) [ inl was ↦ absurd (false≢true (sym (none n) ∙ was)) | inr i ↦ i ],
          λ i. (all n).1 (subst (λ k. new k ≡ true) i.number (needs_found apart i.there i.assigned i.is)),
        );
      }

    -- from the bodies of functions, and from variables
    pub all_collected : (variables functions : List Text) (between new : Number → Bool) (some more : Text → Bool) → Collects m overridden (ComesFrom (IsReadInBody m) functions) old visited between some
        → Collects m overridden (ComesFrom IsItself variables) between some new more → (numbers : List Number) → IsDistinct same_number numbers → ((n : Number) → Contains numbers n ↔ (new n ≡ true))
        → AreNumbersOf m overridden (IsStart m variables functions) numbers
    all_collected variables functions between new some more one two =
        numbers_collected (IsStart m variables functions) new more
        (collects_both (ComesFrom (IsReadInBody m) functions) (ComesFrom IsItself variables) (IsStart m variables functions)
        (λ name c. inr c) (λ name c. inl c) (λ name c. elim c [ inl v ↦ inr v | inr f ↦ inl f ]) old between new visited some more one two)
