-- What a search by the numbers of recipes finds is what is needed.
use Rattle.std.proofs.Common.{◌≡◌, ◌↔◌, ℕ, zero, suc, Bool, true, false, List, [], ◌∷◌, Some, IsSome, is_some, refl, sym, ◌∙◌, ap, subst, inl, inr}
use Rattle.std.proofs.Math.Path.{fun_ext}
use Rattle.std.proofs.lemmas.Bool.{cases_Bool, or_cases}
use Rattle.std.specs.List.{slice_get}
use Rattle.just_ast_definitions.specs.declared.assignment.Assignment.{Assignment}
use Rattle.just_ast_expressions.specs.declared.expression.Expression.{Expression}
use Rattle.just_tasks.proofs.Places.{All-got}
use Rattle.just_tasks.specs.declared.task.Task.{Task}
use Rattle.just_graph.proofs.Members.{In, contained}
use Rattle.just_justfile.specs.Closed.{IsPlaced, StandsIn}
use Rattle.just_justfile.specs.Running.{CanRun, HasNeeds, IsReadBy, NeedsIn, known_by_tables}
use Rattle.just_justfile.specs.declared.justfile.Justfile.{Justfile, out-Justfile}
use Rattle.just_name_resolution.proofs.Placed.{the_value}
use Rattle.just_name_resolution.proofs.Searching.{not_overridden}
use Rattle.just_name_resolution.proofs.Sets.{or_left, or_right}
use Rattle.just_names.specs.Texts.{Text}
use Rattle.just_names.specs.declared.number.Number.{Number}
use Rattle.just_parts.specs.Known.{Known}
use Rattle.just_parts.specs.Needs.{HaveNumbersApart, IsClosed, IsNumberIn, Needs, has_number, onward, starts}
use Rattle.just_parts.specs.Reading.{Reads, at_once, through}
use Rattle.just_parts.specs.Syntax.{SyntaxAnswers}
use Rattle.just_recipe.specs.declared.dependency.Dependency.{Dependency}
use Rattle.just_recipe.specs.declared.recipe.Recipe.{Recipe}
use Rattle.just_table.specs.Entries.{find}
use Rattle.just_scopes.proofs.OwnPaths.{own_paths}
use Rattle.just_scopes.specs.Need.{AreNeeds, IsFound, IsNeededVariable, IsNeededAtOnce, RunsInModule, NumberSets, NeedsAtOnce, chosen, is_chosen, read}
use Rattle.just_scopes.specs.loops.Need.{AreUsed}

-- what is read is a variable
pub reads-some : {m : Known} {hidden : Text → Bool} {e : Expression} {name : Text} → Reads m hidden e name → IsSome (find name m.assignments)
reads-some (at_once c h s) = s
reads-some (through arguments c h r) = reads-some r

-- what is needed from what is needed is needed
pub need-flat : {m : Known} {overridden : Text → Bool} {S T : Text → Type 0} → ((x : Text) → S x → Needs m overridden T x) → (name : Text) → Needs m overridden S name → Needs m overridden T name
need-flat f name (starts s) = f name s
need-flat f name (onward {name = from} n free reads) = onward (need-flat f from n) free reads

number-flat : {m : Known} {S T : Text → Type 0} → ((x : Text) → S x → T x) → (n : Number) → IsNumberIn m S n → IsNumberIn m T n
number-flat f n i = record { name = i.name; assigned = i.assigned; is = i.is; number = i.number; there = f i.name i.there }

-- what stands at a place is a member
pub got-in : {A : Type 0} (xs : List A) (k : ℕ) (x : A) → slice_get xs k ≡ Some x → In x xs
got-in [] k x h = cc
got-in (y ∷ xs) zero x h = let same : y ≡ x = cc in inl (sym same)
got-in (y ∷ xs) (suc k) x h = inr (got-in xs k x h)

-- a set is closed, in a run as well
pub closed-set : (j : Justfile) (S : Text → Type 0) (set overridden : Number → Bool) → HaveNumbersApart (known_by_tables j) → ((n : Number) → (set n ≡ true) ↔ IsNumberIn (known_by_tables j) (NeedsIn j S) n) →
    ((n : Number) → has_number (out-Justfile j).overridden n ≡ true → overridden n ≡ true) → IsClosed (known_by_tables j) overridden set
closed-set j S set overridden apart is held from to a b found there reads free inside =
    let i = (is a.number).0 inside in
    let same : i.name ≡ from = apart i.name from i.assigned a i.is found i.number in
    let needs : NeedsIn j S from = subst (NeedsIn j S) same i.there in
    (is b.number).1 (record { name = to; assigned = b; is = there; number = refl; there = onward needs (not_overridden (has_number (out-Justfile j).overridden) (known_by_tables j) from a found seen) reads })
  where
    seen : has_number (out-Justfile j).overridden a.number ≡ false
    seen = elim (cases_Bool (has_number (out-Justfile j).overridden a.number)) [
      | inl t ↦ absurd (let wrong : true ≡ false = sym (held a.number t) ∙ free in cc)
      | inr f ↦ f
    ]

-- there is one such set
pub same-test : (a b : Bool) → (a ≡ true → b ≡ true) → (b ≡ true → a ≡ true) → a ≡ b
same-test true b f g = sym (f refl)
same-test false true f g = g refl
same-test false false f g = refl

pub found-one : (used : Number → Bool) (j : Justfile) (set other : Number → Bool) → IsFound used j set → IsFound used j other → set ≡ other
found-one used j set other a b = fun_ext (λ n. same-test (set n) (other n) (λ h. (b n).1 ((a n).0 h)) (λ h. (a n).1 ((b n).0 h)))

-- numbers in one module are apart
pub numbers-apart : (answers : SyntaxAnswers) (root : Justfile) (recipes : List (Recipe Dependency)) → CanRun answers root recipes → (j : Justfile) → StandsIn root j → HaveNumbersApart (known_by_tables j)
numbers-apart answers root recipes run j stands x y a b is there same = (run.numbers j j x y a b stands stands is there same).1

module _ (answers : SyntaxAnswers) (root : Justfile) (recipes : List (Recipe Dependency)) (tops : List Task) (used : Number → Bool)
    (run : CanRun answers root recipes) (are : AreUsed recipes tops used) (j : Justfile) (stands : StandsIn root j) where
  -- a number of a recipe that is that of a variable of this module is one of this module's recipe
  from-used : (name : Text) (a : Assignment) → find name (out-Justfile j).assignments ≡ Some a → used a.number ≡ true → IsNeededVariable answers recipes tops j name
  from-used name a is u =
      let r = (are a.number).0 u in
      let p = All-got (IsPlaced root) recipes r.place r.recipe run.rooted.placed r.at in
      let needs : HasNeeds answers p.0 r.recipe = run.needs p.0 r.recipe p.1 (contained r.recipe recipes (got-in recipes r.place r.recipe r.at)) p.2 in
      let n = (needs a.number).0 r.there in
      let same = run.numbers p.0 j n.name name n.assigned a p.1 stands n.is is n.number in
      let own : p.0 ≡ j = own_paths recipes root p.0 j run.rooted.closed p.1 stands same.0 in
      let from : NeedsIn j (IsReadBy answers j r.recipe) name = subst (NeedsIn j (IsReadBy answers j r.recipe)) same.1 (subst (λ (q : Justfile). NeedsIn q (IsReadBy answers q r.recipe) n.name) own n.there) in
      let runs : RunsInModule recipes tops j r.place r.recipe = record { led = r.led; there = r.at; path = p.2 ∙ ap (λ path. Some path) same.0 } in
      need-flat (λ x s. starts (read r.place r.recipe runs s)) name from

  start-needed : (name : Text) → IsNeededAtOnce used j name → IsNeededVariable answers recipes tops j name
  start-needed name s = elim (or_cases (used s.assigned.number) (is_chosen (out-Justfile j).settings s.assigned) s.starts) [
    | inl u ↦ from-used name s.assigned s.is u
    | inr c ↦ starts (chosen s.assigned s.is c)
  ]

  needed-start : (name : Text) → NeedsAtOnce answers recipes tops j name → NeedsIn j (IsNeededAtOnce used j) name
  needed-start name (chosen a is c) = starts (record { assigned = a; is = is; starts = or_right (used a.number) (is_chosen (out-Justfile j).settings a) c })
  needed-start name (read place r runs reads) =
      let v = the_value (find name (out-Justfile j).assignments) (reads-some reads.reads) in
      let needs : HasNeeds answers j r = run.needs j r stands (contained r recipes (got-in recipes place r runs.there)) runs.path in
      let there = (needs v.0.number).1 (record { name = name; assigned = v.0; is = v.1; number = refl; there = starts reads }) in
      let u : used v.0.number ≡ true = (are v.0.number).1 (record { place = place; recipe = r; led = runs.led; at = runs.there; there = there }) in
      starts (record { assigned = v.0; is = v.1; starts = or_left (used v.0.number) (is_chosen (out-Justfile j).settings v.0) u })

  -- so a set that is found has what is needed, and the other way round
  pub found-needed : (set : Number → Bool) → IsFound used j set → (n : Number) → (set n ≡ true) ↔ IsNumberIn (known_by_tables j) (IsNeededVariable answers recipes tops j) n
  found-needed set found n = (
    (λ h. number-flat (need-flat start-needed) n ((found n).0 h)),
    (λ i. (found n).1 (number-flat (need-flat needed-start) n i)),
  )

  pub needed-found : (set : Number → Bool) → ((n : Number) → (set n ≡ true) ↔ IsNumberIn (known_by_tables j) (IsNeededVariable answers recipes tops j) n) → IsFound used j set
  needed-found set is n = (
    (λ h. number-flat (need-flat needed-start) n ((is n).0 h)),
    (λ i. (is n).1 (number-flat (need-flat start-needed) n i)),
  )

-- there is one collection of sets of what is needed
pub sets-found : (answers : SyntaxAnswers) (root : Justfile) (recipes : List (Recipe Dependency)) (tops : List Task) (used : Number → Bool) → CanRun answers root recipes → AreUsed recipes tops used →
    (sets : NumberSets) → AreNeeds answers root recipes tops sets → (j : Justfile) → StandsIn root j → IsFound used j (sets j)
sets-found answers root recipes tops used run are sets needs j stands = needed-found answers root recipes tops used run are j stands (sets j) (needs j stands)

-- whatever is needed is a variable
pub needed-some : {answers : SyntaxAnswers} {recipes : List (Recipe Dependency)} {tops : List Task} {j : Justfile} (name : Text) → IsNeededVariable answers recipes tops j name → IsSome (find name (out-Justfile j).assignments)
needed-some name (starts (chosen a is c)) = ap is_some is
needed-some name (starts (read place r runs reads)) = reads-some reads.reads
needed-some name (onward n free reads) = reads-some reads.reads
