-- What holds of open modules.
use Rattle.std.proofs.Common.{◌≡◌, ◌↔◌, ◌∙◌, ℕ, Bool, true, false, List, [], ◌∷◌, map, reverse, Option, Some, None, Ok, Err, IsSome, is_some, if◌then◌else◌, refl, sym, ap, subst, inl, inr}
use Rattle.std.specs.Prelude.{IfOk, Result}
use Rattle.std.specs.List.{All, Contains, list_any, slice_get}
use Rattle.std.specs.Option.{option_map_or}
use Rattle.std.specs.Str.{bytes_eq}
use Rattle.std.proofs.lemmas.List.Elements.{All-contains, All-contains_itself, All-weaker}
use Rattle.std.proofs.lemmas.Slice.Eq.{bytes_eq-Decides}
use Rattle.just_ast_definitions.specs.declared.assignment.Assignment.{Assignment}
use Rattle.just_ast_expressions.specs.declared.scope.Binding.{Binding}
use Rattle.just_ast_expressions.specs.declared.scope.Scope.{Scope}
use Rattle.just_tasks.specs.Homes.{IsRead}
use Rattle.just_tasks.specs.Leading.{LeadTo}
use Rattle.just_tasks.specs.declared.task.Task.{Task}
use Rattle.just_tasks.proofs.Places.{All-got}
use Rattle.just_graph.proofs.Members.{In, contained, from_reverse}
use Rattle.just_justfile.specs.Closed.{IsPlaced, StandsIn}
use Rattle.just_justfile.specs.Running.{CanRun, HoldsOverridden, known_by_tables}
use Rattle.just_recipe.specs.Recipes.{arguments_of}
use Rattle.just_justfile.specs.declared.justfile.Justfile.{Justfile, out-Justfile}
use Rattle.just_name_resolution.proofs.Placed.{the_value}
use Rattle.just_name_resolution.proofs.Sets.{number_itself, or_left, or_right}
use Rattle.just_names.specs.Name.{text_of_name}
use Rattle.just_names.specs.Texts.{Text}
use Rattle.just_names.specs.declared.number.Number.{Number}
use Rattle.just_parts.specs.Evaluator.{Binds, value_in, scope_values}
use Rattle.just_parts.specs.Needs.{has_number, same_number, starts}
use Rattle.just_parts.specs.Reading.{Reads}
use Rattle.just_parts.specs.Scopes.{Scoped, scopes_of}
use Rattle.just_parts.specs.Syntax.{SyntaxAnswers}
use Rattle.just_recipe.specs.declared.dependency.Dependency.{Dependency}
use Rattle.just_recipe.specs.declared.recipe.Recipe.{Recipe}
use Rattle.just_run_layers.specs.Evaluation.{NumberSet}
use Rattle.just_table.specs.Entries.{find}
use Rattle.just_scopes.proofs.Needed.{found-needed, needed-some, numbers-apart, reads-some}
use Rattle.just_scopes.proofs.Standing.{one-order}
use Rattle.just_scopes.proofs.StandingOpen.{opened-stands, stands-opened}
use Rattle.just_scopes.specs.Need.{IsNeededVariable, IsToBeBound, RunsInModule, read}
use Rattle.just_scopes.specs.loops.Need.{AreUsed}
use Rattle.just_scopes.specs.Open.{AreOpenModules, IsServedBy, whose_opened, whose_placed}
use Rattle.just_scopes.specs.Opening.{Handed, Opened}
use Rattle.just_scopes.specs.loops.Opens.{CanOpen, IsOpenedBy, IsSetFor, NumberOverrides, all, some, wanted_from}
use Rattle.just_scopes.specs.Preorder.{IsPreorder, Placed}

-- a value that a scope has is that of a binding of its name
bound-by : (b : Bool) (x : Binding) (xs : List Binding) (name : Text) → bytes_eq (text_of_name x.name) name ≡ b → (is_some (value_in xs name) ≡ true → (y : Binding) × In y xs × (text_of_name y.name ≡ name)) →
    is_some (if b then Some x.value else value_in xs name) ≡ true → (y : Binding) × In y (x ∷ xs) × (text_of_name y.name ≡ name)
bound-by true x xs name is rest h = (x, inl refl, (bytes_eq-Decides (text_of_name x.name) name).0 is)
bound-by false x xs name is rest h = let r = rest h in (r.0, inr r.1, r.2)

bound-in : (xs : List Binding) (name : Text) → is_some (value_in xs name) ≡ true → (y : Binding) × In y xs × (text_of_name y.name ≡ name)
bound-in [] name h = cc
bound-in (x ∷ xs) name h = bound-by (bytes_eq (text_of_name x.name) name) x xs name refl (bound-in xs name) h

binds-any : (xs : List Binding) (x : Binding) (n : Number) → In x xs → x.number ≡ n → list_any (λ (b : Binding). same_number b.number n) xs ≡ true
binds-any [] x n i e = absurd i
binds-any (y ∷ xs) x n (inl same) e = or_left (same_number y.number n) (list_any (λ (b : Binding). same_number b.number n) xs)
    (ap (λ (b : Binding). same_number b.number n) (sym same) ∙ ap (λ m. same_number m n) e ∙ number_itself n)
binds-any (y ∷ xs) x n (inr i) e = or_right (same_number y.number n) (list_any (λ (b : Binding). same_number b.number n) xs) (binds-any xs x n i e)

module _ (answers : SyntaxAnswers) (root : Justfile) (recipes : List (Recipe Dependency)) (tops : List Task) (used : Number → Bool) (handed : Handed)
    (run : CanRun answers root recipes) (are : AreUsed recipes tops used) where
  -- what is wanted of a module is what is to be bound in it
  wanted-bound : {j : Justfile} {lazy : Bool} {set : NumberSet} → StandsIn root j → IsSetFor used j lazy set → (name : Text) → ((wanted_from handed j set).needed name ≡ true) ↔ IsToBeBound lazy answers recipes tops j name
  wanted-bound {j = j} stands (some {set = set} found) name = (
    (λ h. there (find name (out-Justfile j).assignments) refl h),
    (λ n. let v = the_value (find name (out-Justfile j).assignments) (needed-some name n) in
        ap (λ o. option_map_or (λ (a : Assignment). set a.number) o false) v.1
        ∙ (found-needed answers root recipes tops used run are j stands set found v.0.number).1 (record { name = name; assigned = v.0; is = v.1; number = refl; there = n })),
  )
    where
      there : (o : Option Assignment) → find name (out-Justfile j).assignments ≡ o → option_map_or (λ (a : Assignment). set a.number) o false ≡ true → IsNeededVariable answers recipes tops j name
      there None is h = cc
      there (Some a) is h =
          let i = (found-needed answers root recipes tops used run are j stands set found a.number).0 h in
          subst (IsNeededVariable answers recipes tops j) (run.numbers j j i.name name i.assigned a stands stands i.is is i.number).1 i.there
  wanted-bound {j = j} stands all name = (
    (λ h. some-of (find name (out-Justfile j).assignments) h),
    (λ s. let v = the_value (find name (out-Justfile j).assignments) s in ap (λ o. option_map_or (λ (a : Assignment). true) o false) v.1),
  )
    where
      some-of : (o : Option Assignment) → option_map_or (λ (a : Assignment). true) o false ≡ true → IsSome o
      some-of None h = cc
      some-of (Some a) h = refl

  -- whatever an expression reads that is to be bound is bound
  read-bound : (j : Justfile) (lazy : Bool) (set : NumberSet) (scope : Scope) → StandsIn root j → IsSetFor used j lazy set → Binds (out-Justfile j).assignments (wanted_from handed j set) scope →
      (s : Scoped) → ((name : Text) → Reads (known_by_tables j) s.hidden s.expression name → IsToBeBound lazy answers recipes tops j name) → IsRead (known_by_tables j) scope s
  read-bound j lazy set scope stands is_set bound s to_be name a reads is =
      let wanted : (wanted_from handed j set).needed name ≡ true = (wanted-bound stands is_set name).1 (to_be name reads) in
      let b = bound-in (reverse scope.bindings) name (bound.exactly name ∙ wanted) in
      let inside : In b.0 scope.bindings = from_reverse b.0 scope.bindings b.1 in
      let e = bound.each b.0 (contained b.0 scope.bindings inside) in
      let same : e.0 ≡ a = one-found (find name (out-Justfile j).assignments) e.0 a (ap (λ x. find x (out-Justfile j).assignments) (sym b.2) ∙ e.1) is in
      binds-any scope.bindings b.0 a.number inside (e.2.number ∙ ap (λ (x : Assignment). x.number) same)
    where
      one-found : (o : Option Assignment) (x y : Assignment) → o ≡ Some x → o ≡ Some y → x ≡ y
      one-found o x y h k = cc

  module _ (ps : List Placed) (order : IsPreorder root ps) (opened : List Opened) (whose : map whose_opened opened ≡ map whose_placed ps) (bound : All (IsOpenedBy used handed) opened) where
    stands : (o : Opened) → Contains opened o → StandsIn root o.justfile
    stands = opened-stands false root ps order opened whose

    bound-exactly : (o : Opened) → Contains opened o → (name : Text) → IsSome (scope_values o.scope name) ↔ IsToBeBound o.lazy answers recipes tops o.justfile name
    bound-exactly o c name =
        let b = All-contains (IsOpenedBy used handed) opened o bound c in
        let w = wanted-bound (stands o c) b.is_set name in
        ((λ s. w.0 (sym (b.binds.exactly name) ∙ s)), (λ t. b.binds.exactly name ∙ w.1 t))

    -- what a recipe reads to which tasks lead is to be bound
    to-bind : (lazy : Bool) (j : Justfile) (place : ℕ) (r : Recipe Dependency) → RunsInModule recipes tops j place r → (s : Scoped) → Contains (scopes_of arguments_of answers (out-Justfile j).settings r) s →
        (name : Text) → Reads (known_by_tables j) s.hidden s.expression name → IsToBeBound lazy answers recipes tops j name
    to-bind true j place r runs s c name reads = starts (read place r runs (record { from = s; there = c; reads = reads }))
    to-bind false j place r runs s c name reads = reads-some reads

    served-all : (place : ℕ) (r : Recipe Dependency) → LeadTo recipes tops place → slice_get recipes place ≡ Some r → (o : Opened) → Contains opened o → r.module_path ≡ Some (out-Justfile o.justfile).module_path → IsServedBy answers r o
    served-all place r led at o c path =
        let b = All-contains (IsOpenedBy used handed) opened o bound c in
        let scopes : List Scoped = scopes_of arguments_of answers (out-Justfile o.justfile).settings r in
        let runs : RunsInModule recipes tops o.justfile place r = record { led = led; there = at; path = path } in
        All-weaker (Contains scopes) (IsRead (known_by_tables o.justfile) o.scope)
        (λ s i. read-bound o.justfile o.lazy b.set o.scope (stands o c) b.is_set b.binds s (to-bind o.lazy o.justfile place r runs s i)) scopes (All-contains_itself scopes)

    placed-all : (place : ℕ) (r : Recipe Dependency) → LeadTo recipes tops place → slice_get recipes place ≡ Some r → (o : Opened) × Contains opened o × (r.module_path ≡ Some (out-Justfile o.justfile).module_path)
    placed-all place r led at =
        let p = All-got (IsPlaced root) recipes place r run.rooted.placed at in
        let o = stands-opened false root ps order opened whose p.0 p.1 in
        (o.0, o.1, p.2 ∙ ap (λ j. Some (out-Justfile j).module_path) (sym o.2))

    pub are-open : AreOpenModules answers root recipes tops opened
    are-open = record {
      modules = λ qs other. whose ∙ ap (map whose_placed) (one-order false root ps qs order other);
      exactly = bound-exactly;
      placed = placed-all;
      served = served-all;
    }

-- each module that stands in a root that can run may be opened
pub can-open : {answers : SyntaxAnswers} {root : Justfile} {recipes : List (Recipe Dependency)} (overrides : NumberOverrides) → CanRun answers root recipes → HoldsOverridden root overrides → (j : Justfile) → StandsIn root j → CanOpen (has_number overrides) j
can-open {answers} {root} {recipes} overrides run held j stands = record { ordered = run.ordered j stands; apart = numbers-apart answers root recipes run j stands; held = λ n h. held j n stands h }

pub if-both : {A E : Type 0} {P Q R : A → Type 0} (r : Result A E) → ((x : A) → P x → Q x → R x) → IfOk r P → IfOk r Q → IfOk r R
if-both (Ok x) f p q = f x p q
if-both (Err e) f p q = tt
