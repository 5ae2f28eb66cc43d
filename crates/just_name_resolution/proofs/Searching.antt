-- A search from some expressions: as it begins, after each expression that is looked into, and at its end.
use Rattle.std.proofs.Common.{◌≡◌, ◌↔◌, ◌+◌, ◌<◌, Bool, true, false, cond, List, [], ◌∷◌, ◌++◌, length, Some, refl, sym, ◌∙◌, ap, subst, arith, inl, inr, ◌⊎◌, length-append}
use Rattle.std.specs.List.{Contains}
use Rattle.std.specs.Option.{is_some, option_map_or}
use Rattle.std.proofs.lemmas.Bool.{false≢true}
use Rattle.std.proofs.lemmas.List.Elements.{Contains-append_cases, Contains-append_left, Contains-append_right, Contains-push}
use Rattle.std.proofs.lemmas.Option.{same_Some}
use Rattle.just_graph.proofs.Members.{the_one}
use Rattle.just_names.specs.Texts.{Text}
use Rattle.just_names.specs.declared.number.Number.{Number}
use Rattle.just_parts.specs.Needs.{Gains, GainsAll, HaveNumbersApart, IsClosed, IsNumberIn, Needs, onward, overridden_by, same_number, starts}
use Rattle.just_name_resolution.specs.Called.{AreBodiesRead, IsCalledFrom, directly, through_body, through_value}
use Rattle.just_name_resolution.specs.loops.Search.{Found, IsCalledIn, WaitsOrIsSearched, IsDone, IsReadFrom, LeadsOn, Looks, Says, IsSearchFrom, to_body, to_value, unfound}
use Rattle.just_name_resolution.proofs.Looking.{added, kept, not_in_none}
use Rattle.just_name_resolution.proofs.Sets.{number_itself, one_number}
use Rattle.just_ast_definitions.specs.declared.assignment.Assignment.{Assignment}
use Rattle.just_ast_expressions.specs.declared.expression.Expression.{Expression}
use Rattle.just_ast_definitions.specs.declared.function_definition.FunctionDefinition.{FunctionDefinition}
use Rattle.just_table.specs.Entries.{find}
use Rattle.just_parts.specs.Known.{Known, none_hidden}
use Rattle.just_parts.specs.Reading.{Reads, at_once, mentions, through}
use Rattle.just_parts.specs.Scopes.{Scoped}
use Rattle.just_parts.specs.loops.Scopes.{body_scoped, value_scoped}

pub not_overridden : (overridden : Number → Bool) (m : Known) (name : Text) (a : Assignment) → find name m.assignments ≡ Some a → overridden a.number ≡ false → overridden_by overridden m name ≡ false
not_overridden overridden m name a is on = ap (λ o. option_map_or (λ (x : Assignment). overridden x.number) o false) is ∙ on

module _ (m : Known) (overridden : Number → Bool) (firsts : List Scoped) (old : Number → Bool) (visited : Text → Bool) where
  abbrev IsNeeded : Text → Type 0
  IsNeeded = Needs m (overridden_by overridden m) (IsReadFrom m firsts)

  -- as it begins
  pub search_begins : (f : Found) → ((n : Number) → f.number n ≡ old n) → ((name : Text) → f.function name ≡ visited name) → f.waiting ≡ firsts → IsSearchFrom m overridden firsts old visited f
  search_begins f numbers functions waits = record {
    keeps = λ n h. numbers n ∙ h;
    only = λ n h. inl (sym (numbers n) ∙ h);
    keeps_functions = λ name h. functions name ∙ h;
    only_called = λ name h. inl (sym (functions name) ∙ h);
    called = λ s c name r. record { from = s; there = subst (λ ss. Contains ss s) waits c; called = r };
    needed = λ s c name r. starts (record { from = s; there = subst (λ ss. Contains ss s) waits c; reads = r });
    start = λ s there. inl (subst (λ ss. Contains ss s) (sym waits) there);
    bodies = λ name d is h. inl (sym (functions name) ∙ h);
    values = λ apart name a is on h. inl (sym (numbers a.number) ∙ h);
  }

  module _ (f popped g : Found) (s : Scoped) (search : IsSearchFrom m overridden firsts old visited f) (pops : f.waiting ≡ popped.waiting ++ s ∷ [])
      (numbers : (n : Number) → popped.number n ≡ f.number n) (functions : (name : Text) → popped.function name ≡ f.function name) (looks : Looks m overridden s.hidden (mentions s.expression) popped g) where
    waits_still : (t : Scoped) → Contains popped.waiting t → Contains f.waiting t
    waits_still t c = subst (λ ss. Contains ss t) (sym pops) (Contains-append_left popped.waiting (s ∷ []) t c)

    waited : Contains f.waiting s
    waited = subst (λ ss. Contains ss s) (sym pops) (Contains-append_right popped.waiting (s ∷ []) s (Contains-push [] s))

    done_now : IsDone m g s
    done_now = record { numbers = looks.numbers; functions = looks.functions }

    covered_on : (t : Scoped) → WaitsOrIsSearched m f t → WaitsOrIsSearched m g t
    covered_on t (inl c) = elim (Contains-append_cases popped.waiting (s ∷ []) t (subst (λ ss. Contains ss t) pops c)) [
      | inl still ↦ inl (looks.keeps_waiting t still)
      | inr it ↦ inr (subst (IsDone m g) (the_one s t it) done_now)
    ]
    covered_on t (inr d) = inr (record {
      numbers = λ name a says. looks.keeps_numbers a.number (numbers a.number ∙ d.numbers name a says);
      functions = λ name e says. looks.keeps_functions name (functions name ∙ d.functions name e says);
    })

    needed_now : (name : Text) (a : Assignment) → Says m s.hidden (mentions s.expression) name a → IsNeeded name
    needed_now name a says = search.needed s waited name (at_once says.among says.shown (ap is_some says.is))

    needed_on : (t : Scoped) → LeadsOn m overridden s.hidden (mentions s.expression) t → (name : Text) → Reads m t.hidden t.expression name → IsNeeded name
    needed_on t (to_value {name = from} {a} says on) name r =
        onward (needed_now from a says) (not_overridden overridden m from a says.is on) (record { assigned = a; is = says.is; reads = r })
    needed_on t (to_body call) name r = search.needed s waited name (through call.arguments call.among call.is r)

    called_on : (t : Scoped) → LeadsOn m overridden s.hidden (mentions s.expression) t → (name : Text) → IsCalledFrom m overridden t.hidden t.expression name → IsCalledIn m overridden firsts name
    called_on t (to_value says on) name r = search.called s waited name (through_value says.among says.shown says.is on r)
    called_on t (to_body call) name r = search.called s waited name (through_body call.arguments call.among call.is r)

    -- after an expression is looked into
    pub search_goes_on : IsSearchFrom m overridden firsts old visited g
    search_goes_on = record {
      keeps = λ n h. looks.keeps_numbers n (numbers n ∙ search.keeps n h);
      only = λ n h. elim (looks.new_number n h) [
        | inl was ↦ search.only n (sym (numbers n) ∙ was)
        | inr v ↦ inr (record { name = v.name; assigned = v.assigned; is = v.says.is; number = v.number; there = needed_now v.name v.assigned v.says })
      ];
      keeps_functions = λ name h. looks.keeps_functions name (functions name ∙ search.keeps_functions name h);
      only_called = λ name h. elim (looks.new_function name h) [
        | inl was ↦ search.only_called name (sym (functions name) ∙ was)
        | inr v ↦ inr (search.called s waited name (directly v.says.arguments v.says.among v.says.is))
      ];
      called = λ t c name r. elim (looks.new_waiting t c) [
        | inl still ↦ search.called t (waits_still t still) name r
        | inr leads ↦ called_on t leads name r
      ];
      needed = λ t c name r. elim (looks.new_waiting t c) [
        | inl still ↦ search.needed t (waits_still t still) name r
        | inr leads ↦ needed_on t leads name r
      ];
      start = λ t there. covered_on t (search.start t there);
      bodies = λ name d is h. elim (looks.new_function name h) [
        | inl was ↦ elim (search.bodies name d is (sym (functions name) ∙ was)) [ inl before ↦ inl before | inr c ↦ inr (covered_on (body_scoped d) c) ]
        | inr v ↦
            let one : v.function ≡ d = same_Some _ _ (sym v.says.is ∙ is) in
            inr (inl (subst (λ e. Contains g.waiting (body_scoped e)) one v.waits))
      ];
      values = λ apart name a is on h. elim (looks.new_number a.number h) [
        | inl was ↦ elim (search.values apart name a is on (sym (numbers a.number) ∙ was)) [ inl before ↦ inl before | inr c ↦ inr (covered_on (value_scoped a) c) ]
        | inr v ↦
            let whose : v.name ≡ name = apart v.name name v.assigned a v.says.is is v.number in
            let one : v.assigned ≡ a = same_Some _ _ (sym v.says.is ∙ (ap (λ x. find x m.assignments) whose ∙ is)) in
            inr (inl (subst (λ b. Contains g.waiting (value_scoped b)) one (v.waits on)))
      ];
    }

    -- less is left to look at
    pub search_ends : unfound m popped ≡ unfound m f → unfound m g + length g.waiting < unfound m f + length f.waiting
    search_ends same =
        let less = looks.less in
        let long : length f.waiting ≡ length popped.waiting + length (s ∷ []) = ap length pops ∙ length-append popped.waiting (s ∷ []) in
        omega arith

  -- at its end
  module _ (f : Found) (search : IsSearchFrom m overridden firsts old visited f) (over : f.waiting ≡ []) where
    pub search_gains : (new : Number → Bool) → ((n : Number) → new n ≡ f.number n) → Gains m overridden (IsReadFrom m firsts) old new
    search_gains new are = record {
      keeps = λ n h. are n ∙ search.keeps n h;
      only = λ n h. search.only n (sym (are n) ∙ h);
    }

    pub done_at_last : (s : Scoped) → WaitsOrIsSearched m f s → IsDone m f s
    done_at_last s (inl c) = absurd (not_in_none s (subst (λ ss. Contains ss s) over c))
    done_at_last s (inr d) = d

    module _ (bodies_read : AreBodiesRead m old visited) where
      -- whatever is read by what is looked into is found
      pub reads_found : {hidden : Text → Bool} {e : Expression} {name : Text} → IsDone m f (record { hidden = hidden; expression = e }) → Reads m hidden e name
          → (a : Assignment) → find name m.assignments ≡ Some a → f.number a.number ≡ true
      reads_found {name = name} done (at_once among shown there) a is = done.numbers name a (record { among = among; shown = shown; is = is })
      reads_found {name = name} done (through {function = function} {f = d} arguments among called r) a is =
          elim (search.bodies function d called (done.functions function d (record { arguments = arguments; among = among; is = called }))) [
            | inl was ↦ search.keeps a.number (bodies_read function name d a called was is r)
            | inr c ↦ reads_found (done_at_last (body_scoped d) c) r a is
          ]

      module _ (apart : HaveNumbersApart m) (closed : IsClosed m overridden old) where
        needed_found : {name : Text} → IsNeeded name → (a : Assignment) → find name m.assignments ≡ Some a → f.number a.number ≡ true
        needed_found (starts r) a is = reads_found (done_at_last r.from (search.start r.from r.there)) r.reads a is
        needed_found (onward {name = from} {next = to} need on step) a is =
            let free : overridden step.assigned.number ≡ false = sym (ap (λ o. option_map_or (λ (x : Assignment). overridden x.number) o false) step.is) ∙ on in
            elim (search.values apart from step.assigned step.is free (needed_found need step.assigned step.is)) [
              | inl was ↦ search.keeps a.number (closed from to step.assigned a step.is is step free was)
              | inr c ↦ reads_found (done_at_last (value_scoped step.assigned) c) step.reads a is
            ]

      pub search_gains_all : (new : Number → Bool) → ((n : Number) → new n ≡ f.number n) → GainsAll m overridden (IsReadFrom m firsts) old new
      search_gains_all new are apart closed n is =
          are n ∙ subst (λ k. f.number k ≡ true) is.number (needed_found apart closed is.there is.assigned is.is)

-- what one variable needs: itself, and unless it is overridden what its value reads, and so on
module _ (m : Known) (overridden : Number → Bool) (name : Text) (a : Assignment) (is : find name m.assignments ≡ Some a) where
  abbrev NeedsOfValue : Text → Type 0
  NeedsOfValue = Needs m (overridden_by overridden m) (Reads m none_hidden a.value)

  abbrev NeedsOfName : Text → Type 0
  NeedsOfName = Needs m (overridden_by overridden m) (λ (start : Text). start ≡ name)

  free : overridden_by overridden m name ≡ false → overridden a.number ≡ false
  free on = sym (ap (λ o. option_map_or (λ (x : Assignment). overridden x.number) o false) is) ∙ on

  from_name : {x : Text} → NeedsOfName x → (x ≡ name) ⊎ ((overridden a.number ≡ false) × NeedsOfValue x)
  from_name (starts e) = inl e
  from_name (onward {name = from} {next = to} need on step) = elim (from_name need) [
    | inl e ↦
        let one : step.assigned ≡ a = same_Some _ _ (sym step.is ∙ (ap (λ x. find x m.assignments) e ∙ is)) in
        inr (free (subst (λ x. overridden_by overridden m x ≡ false) e on), starts (subst (λ (b : Assignment). Reads m none_hidden b.value to) one step.reads))
    | inr v ↦ inr (v.0, onward v.1 on step)
  ]

  to_name : overridden a.number ≡ false → {x : Text} → NeedsOfValue x → NeedsOfName x
  to_name on (starts r) = onward (starts refl) (not_overridden overridden m name a is on) (record { assigned = a; is = is; reads = r })
  to_name on (onward need more step) = onward (to_name on need) more step

  module _ (inner new : Number → Bool) (added_to : (n : Number) → new n ≡ cond (same_number a.number n) true (inner n))
      (stops : overridden a.number ≡ true → (n : Number) → inner n ≡ true → ⊥)
      (gains : overridden a.number ≡ false → Gains m overridden (Reads m none_hidden a.value) (λ n. false) inner)
      (all : overridden a.number ≡ false → GainsAll m overridden (Reads m none_hidden a.value) (λ n. false) inner) where
    from_inner : (n : Number) (b : Bool) → overridden a.number ≡ b → inner n ≡ true → IsNumberIn m NeedsOfName n
    from_inner n true e was = absurd (stops e n was)
    from_inner n false e was = elim ((gains e).only n was) [
      | inl none ↦ absurd (false≢true none)
      | inr i ↦ record { name = i.name; assigned = i.assigned; is = i.is; number = i.number; there = to_name e i.there }
    ]

    only_needed : (n : Number) → new n ≡ true → IsNumberIn m NeedsOfName n
    only_needed n h = elim (added (same_number a.number n) (inner n) (sym (added_to n) ∙ h)) [
      | inl was ↦ from_inner n (overridden a.number) refl was
      | inr same ↦ record { name = name; assigned = a; is = is; number = one_number a.number n same; there = starts refl }
    ]

    all_needed : HaveNumbersApart m → (n : Number) → IsNumberIn m NeedsOfName n → new n ≡ true
    all_needed apart n i = added_to n ∙ elim (from_name i.there) [
      | inl e ↦
          let one : i.assigned ≡ a = same_Some _ _ (sym i.is ∙ (ap (λ x. find x m.assignments) e ∙ is)) in
          let number : a.number ≡ n = ap (λ (b : Assignment). b.number) (sym one) ∙ i.number in
          ap (λ b. cond b true (inner n)) (ap (same_number a.number) (sym number) ∙ number_itself a.number)
      | inr v ↦ kept (same_number a.number n) (inner n) (all v.0 apart (λ from to b c f t r on set. absurd (false≢true set)) n (record { name = i.name; assigned = i.assigned; is = i.is; number = i.number; there = v.1 }))
    ]

    pub needs_of_name : HaveNumbersApart m → (n : Number) → (new n ≡ true) ↔ IsNumberIn m NeedsOfName n
    needs_of_name apart n = (only_needed n, all_needed apart n)

-- what is collected from the value of a variable, or nothing where it is overridden
pub record CollectsValue (m : Known) (overridden : Number → Bool) (a : Assignment) (inner : Number → Bool) : Type 0 where
  pub stops : overridden a.number ≡ true → (n : Number) → inner n ≡ true → ⊥
  pub gains : overridden a.number ≡ false → Gains m overridden (Reads m none_hidden a.value) (λ n. false) inner
  pub all : overridden a.number ≡ false → GainsAll m overridden (Reads m none_hidden a.value) (λ n. false) inner

module _ (m : Known) (overridden : Number → Bool) (a : Assignment) (inner : Number → Bool) where
  pub value_stopped : overridden a.number ≡ true → ((n : Number) → inner n ≡ false) → CollectsValue m overridden a inner
  value_stopped over none = record {
    stops = λ e n was. false≢true (sym (none n) ∙ was);
    gains = λ e. absurd (false≢true (sym e ∙ over));
    all = λ e. absurd (false≢true (sym e ∙ over));
  }

  pub value_collected : overridden a.number ≡ false → (hidden : Text → Bool) (old : Number → Bool) (visited : Text → Bool) → ((name : Text) → hidden name ≡ false) → ((n : Number) → old n ≡ false)
      → ((name : Text) → visited name ≡ false) → Gains m overridden (Reads m hidden a.value) old inner
      → (AreBodiesRead m old visited → GainsAll m overridden (Reads m hidden a.value) old inner) → CollectsValue m overridden a inner
  value_collected on hidden old visited shown none unvisited gains all = record {
    stops = λ e n was. absurd (false≢true (sym on ∙ e));
    gains = λ e. subst (λ (h : Text → Bool). Gains m overridden (Reads m h a.value) (λ n. false) inner) (λ i name. shown name i)
        (subst (λ (s : Number → Bool). Gains m overridden (Reads m hidden a.value) s inner) (λ i n. none n i) gains);
    all = λ e. subst (λ (h : Text → Bool). GainsAll m overridden (Reads m h a.value) (λ n. false) inner) (λ i name. shown name i)
        (subst (λ (s : Number → Bool). GainsAll m overridden (Reads m hidden a.value) s inner) (λ i n. none n i) (all (λ function name f b called was. absurd (false≢true (sym (unvisited function) ∙ was)))));
  }
