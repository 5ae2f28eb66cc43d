-- The constants and the settings of a module are at fault or not.
use Rattle.std.proofs.Common.{◌≡◌, ◌∙◌, ℕ, List, Some, sym, ap, subst}
use Rattle.std.specs.List.{Contains}
use Rattle.std.proofs.lemmas.Option.{none-some}
use Rattle.just_errors.specs.Causes.{Broken, Keeps, Reports}
use Rattle.just_errors.specs.declared.error.Error.{Error}
use Rattle.just_errors.specs.declared.error.Error.TheVariants as error
use Rattle.just_errors.proofs.Lifts.{reports_by}
use Rattle.just_module_contents.specs.Constants.{AreConstants, AsksConstants, BreaksConstants, BreaksDocs, Evaluated, IsEvaluated, constant_expressions, constants_fault, doc_fault, in_doc, in_setting, settings_among, settings_expressions, settings_fault, sets_lists, value_among}
use Rattle.just_module_contents.specs.Contents.{Contents}
use Rattle.just_module_contents.specs.Known.{known_of}
use Rattle.just_parts.specs.Evaluator.{Evaluator, FaultsAt, Values, Wanted}
use Rattle.just_parts.specs.Known.{none_hidden}
use Rattle.just_parts.specs.Layers.{Layers}
use Rattle.just_parts.specs.Syntax.{SyntaxAnswers}
use Rattle.just_ast_expressions.specs.declared.expression.Expression.{Expression}
use Rattle.just_parts.specs.Misnaming.{Misnames}
use Rattle.just_module_variables.proofs.Once.{constants_once, wanted_once}

module _ (layers : Layers) (m : Contents) where
  pub names_told : (e : Expression) → Contains (settings_expressions m) e → (told : Error) → Reports (Misnames (known_of layers.syntax m) none_hidden e) told → Reports (BreaksConstants layers m) told
  names_told e there told h = reports_by (Misnames (known_of layers.syntax m) none_hidden e) (BreaksConstants layers m) (λ c b. in_setting there b) told h

  pub constants_told : (wanted : Wanted) → AsksConstants layers m wanted → (e : Error) → FaultsAt (layers.evaluator.constants wanted) e → Reports (BreaksConstants layers m) e
  constants_told wanted asks (error.Compile e) h = subst (λ k. BreaksConstants layers m (Broken e.token k)) (sym h.1.1) (constants_fault asks h.0)
  constants_told wanted asks error.Memory h = tt
  constants_told wanted asks error.Exhausted h = absurd h
  constants_told wanted asks (error.Load e) h = absurd h
  constants_told wanted asks (error.Invocation e) h = absurd h
  constants_told wanted asks (error.Run e) h = absurd h

  pub settings_told : (values : Values) → AreConstants layers m values → (e : Error) → FaultsAt (settings_among layers m values) e → Reports (BreaksConstants layers m) e
  settings_told values are (error.Compile e) h = subst (λ k. BreaksConstants layers m (Broken e.token k)) (sym h.1.1) (settings_fault are h.0)
  settings_told values are error.Memory h = tt
  settings_told values are error.Exhausted h = absurd h
  settings_told values are (error.Load e) h = absurd h
  settings_told values are (error.Invocation e) h = absurd h
  settings_told values are (error.Run e) h = absurd h

  -- where all is evaluated nothing is at fault
  pub constants_kept : (it : Evaluated) → IsEvaluated layers m it → ((e : Expression) → Contains (settings_expressions m) e → Keeps (Misnames (known_of layers.syntax m) none_hidden e)) → Keeps (BreaksConstants layers m)
  constants_kept it is names c (in_setting {e} there b) = names e there c b
  constants_kept it is names _ (constants_fault {wanted} asks none) =
      let same : is.constants.wanted ≡ wanted = wanted_once (known_of layers.syntax m) layers.overrides (constant_expressions m) (sets_lists m.sets) is.constants.wanted wanted is.constants.asked asks in
      none-some it.constants (sym none ∙ (ap layers.evaluator.constants (sym same) ∙ is.constants.answered))
  constants_kept it is names _ (settings_fault {values} are none) =
      let same : values ≡ it.constants = constants_once layers m values it.constants are is.constants in
      none-some it.settings (sym none ∙ (ap (settings_among layers m) same ∙ is.settings))

-- A doc that has a value, and in which no name is at fault.
pub record IsSound (answers : SyntaxAnswers) (evaluator : Evaluator) (m : Contents) (values : Values) (e : Expression) : Type 0 where
  pub names : Keeps (Misnames (known_of answers m) none_hidden e)
  pub texts : List (List ℕ)
  pub value : value_among evaluator m values e ≡ Some texts

module _ (answers : SyntaxAnswers) (evaluator : Evaluator) (m : Contents) (values : Values) where
  pub doc_names_told : (e : Expression) → Contains m.docs e → (told : Error) → Reports (Misnames (known_of answers m) none_hidden e) told → Reports (BreaksDocs answers evaluator m values) told
  doc_names_told e there told h = reports_by (Misnames (known_of answers m) none_hidden e) (BreaksDocs answers evaluator m values) (λ c b. in_doc there b) told h

  pub doc_told : (e : Expression) → Contains m.docs e → (told : Error) → FaultsAt (value_among evaluator m values e) told → Reports (BreaksDocs answers evaluator m values) told
  doc_told e there (error.Compile told) h = subst (λ k. BreaksDocs answers evaluator m values (Broken told.token k)) (sym h.1.1) (doc_fault there h.0)
  doc_told e there error.Memory h = tt
  doc_told e there error.Exhausted h = absurd h
  doc_told e there (error.Load told) h = absurd h
  doc_told e there (error.Invocation told) h = absurd h
  doc_told e there (error.Run told) h = absurd h

  pub docs_kept : ((e : Expression) → Contains m.docs e → IsSound answers evaluator m values e) → Keeps (BreaksDocs answers evaluator m values)
  docs_kept sound c (in_doc {e} there b) = (sound e there).names c b
  docs_kept sound _ (doc_fault {e} there none) = let s = sound e there in none-some s.texts (sym none ∙ s.value)
