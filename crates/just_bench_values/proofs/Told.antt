-- What is told where a part has no value.
use Rattle.std.proofs.Common.{◌≡◌, sym, subst, ◌∙◌, Option, None, Some, Result, Ok, Err}
use Rattle.std.specs.Prelude.{IfErr, IfOk}
use Rattle.just_names.specs.Token.{Place}
use Rattle.just_errors.specs.declared.error.Error.{Error}
use Rattle.just_errors.specs.declared.error.Error.TheVariants as error
use Rattle.just_parts.specs.Evaluator.{FaultsAt}
use Rattle.just_parts.specs.Told.{IsToldIn}
use Rattle.just_bench_values.specs.Lookup.{TellsOutcome}

-- what is told at one of some places is told at one of more
module _ {P Q : Place → Type 0} (within : (place : Place) → P place → Q place) where
  pub told_on : (e : Error) → IsToldIn P e → IsToldIn Q e
  told_on (error.Compile e) told = within e.token told
  told_on error.Memory told = tt
  told_on error.Exhausted told = tt
  told_on (error.Load e) told = tt
  told_on (error.Invocation e) told = tt
  told_on (error.Run e) told = tt

  pub told_err : {A : Type 0} (r : Result A Error) (e : Error) → IfErr r (λ d. d ≡ e) → IsToldIn P e → IfErr r (IsToldIn Q)
  told_err (Ok value) e is told = tt
  told_err (Err d) e is told = subst (IsToldIn Q) (sym is) (told_on e told)

module _ {A B : Type 0} {o : Option A} {p : Option B} (none : o ≡ None → p ≡ None) where
  -- a fault at an outcome is one at another which is none where the first is
  pub faults_on : (e : Error) → FaultsAt o e → FaultsAt p e
  faults_on (error.Compile e) told = (none told.0, told.1)
  faults_on error.Memory told = tt
  faults_on error.Exhausted told = absurd told
  faults_on (error.Load e) told = absurd told
  faults_on (error.Invocation e) told = absurd told
  faults_on (error.Run e) told = absurd told

  pub tells_fault : {P Q : Place → Type 0} (within : (place : Place) → P place → Q place) (e : Error) → FaultsAt o e → IsToldIn P e → (r : Result B Error) → r ≡ Err e → TellsOutcome p Q r
  tells_fault {P} {Q} within e fault told r is = subst (TellsOutcome p Q) (sym is) (faults_on e fault, told_on within e told)

module _ {A : Type 0} {o p : Option A} (same : p ≡ o) where
  -- what tells an outcome tells an equal one, at more places
  pub tells_as : (P Q : Place → Type 0) (within : (place : Place) → P place → Q place) (r : Result A Error) → TellsOutcome o P r → TellsOutcome p Q r
  tells_as P Q within (Ok value) told = same ∙ told
  tells_as P Q within (Err e) told = (subst (λ x. FaultsAt x e) (sym same) told.0, told_on within e told.1)

-- what is told of a value, of a fault and of its place
module _ {A : Type 0} (o : Option A) (P : Place → Type 0) where
  pub told_value : (r : Result A Error) → TellsOutcome o P r → IfOk r (λ value. o ≡ Some value)
  told_value (Ok value) told = told
  told_value (Err e) told = tt

  pub told_fault : (r : Result A Error) → TellsOutcome o P r → IfErr r (FaultsAt o)
  told_fault (Ok value) told = tt
  told_fault (Err e) told = told.0

  pub told_place : (r : Result A Error) → TellsOutcome o P r → IfErr r (IsToldIn P)
  told_place (Ok value) told = tt
  told_place (Err e) told = told.1
