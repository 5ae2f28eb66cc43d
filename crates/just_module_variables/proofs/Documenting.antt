-- Labels with their docs evaluated, label after label.
use Rattle.std.proofs.Common.{◌≡◌, ◌∙◌, Bool, List, [], ◌∷◌, ◌++◌, Option, None, Some, ap, refl, subst, sym, inl, inr}
use Rattle.std.specs.List.{Contains}
use Rattle.std.specs.Option.{option_to_list}
use Rattle.std.proofs.lemmas.List.Elements.{Contains-append_cases, Contains-append_left, Contains-append_right, Contains-push}
use Rattle.std.proofs.lemmas.Option.{same_Some}
use Rattle.just_graph.proofs.Members.{the_one}
use Rattle.just_errors.specs.Causes.{Broken, Cause, Keeps, Reports}
use Rattle.just_errors.specs.declared.error.Error.{Error}
use Rattle.just_errors.specs.declared.error.Error.TheVariants as error
use Rattle.just_errors.proofs.Lifts.{reports_by}
use Rattle.just_module_contents.specs.Constants.{BreaksDocs, doc_fault, in_doc, text_of_value, value_among}
use Rattle.just_module_contents.specs.Contents.{Contents}
use Rattle.just_names.specs.Texts.{Text}
use Rattle.just_name_resolution.proofs.Looking.{not_in_none}
use Rattle.just_module_contents.specs.declared.labels.Label.{Label}
use Rattle.just_parts.specs.Evaluator.{Evaluator, FaultsAt, Values}
use Rattle.just_parts.specs.Known.{Known, none_hidden}
use Rattle.just_parts.specs.Syntax.{SyntaxAnswers}
use Rattle.just_ast_expressions.specs.declared.expression.Expression.{Expression}
use Rattle.just_ast_references.specs.Numbers.{bare}
use Rattle.just_parts.specs.Misnaming.{Misnames}
use Rattle.just_module_variables.specs.Documented.{AreDocumented, HasDoc, IsDocumented, doc_expressions}
use Rattle.just_module_variables.specs.loops.Documented.{DocFault, known_by, misnamed, no_value, value_by_tables}
use Rattle.just_module_variables.specs.Variables.{AreVariablesOf}
use Rattle.just_module_variables.specs.declared.variables.Variables.{Variables}
use Rattle.just_module_variables.proofs.Asking.{misnames_known, misnames_tables, tables_functions}
use Rattle.just_module_variables.proofs.Judged.{docs_kept}

module _ (value : Expression → Option (List Text)) where
  -- one more label
  pub documented_more : (labels made : List Label) (label first : Label) → AreDocumented value labels made → IsDocumented value label first → AreDocumented value (labels ++ label ∷ []) (made ++ first ∷ [])
  documented_more [] made label first all is = (first, [], ap (λ (ls : List Label). ls ++ first ∷ []) all, is, refl)
  documented_more (l ∷ labels) made label first all is =
      (all.0, all.1 ++ first ∷ [], ap (λ (ls : List Label). ls ++ first ∷ []) all.2, all.3, documented_more labels all.1 label first all.4 is)

  -- the doc of a label has a value
  doc_valued : (said : Option Text) (o : Option Expression) (doc : Option Text) (e : Expression) → HasDoc value said o doc → o ≡ Some e → (texts : List Text) × (value e ≡ Some texts)
  doc_valued said None doc e h is = cc
  doc_valued said (Some d) doc e h is = (h.0, ap value (sym (same_Some d e is)) ∙ h.1)

  pub label_valued : (label made : Label) (e : Expression) → IsDocumented value label made → label.doc_expression ≡ Some e → (texts : List Text) × (value e ≡ Some texts)
  label_valued label made e is said = doc_valued label.doc label.doc_expression made.doc e is.doc said

-- the docs of labels
option_said : (o : Option Expression) (e : Expression) → o ≡ Some e → Contains (option_to_list o) e
option_said None e is = cc
option_said (Some d) e is = subst (Contains (d ∷ [])) (same_Some d e is) (Contains-push [] d)

said_option : (o : Option Expression) (e : Expression) → Contains (option_to_list o) e → o ≡ Some e
said_option None e there = absurd (not_in_none e there)
said_option (Some d) e there = ap Some (the_one d e there)

pub doc_there : (labels : List Label) (label : Label) (e : Expression) → Contains labels label → label.doc_expression ≡ Some e → Contains (doc_expressions labels) e
doc_there [] label e there is = absurd (not_in_none label there)
doc_there (l ∷ labels) label e there is = elim (Contains-append_cases (l ∷ []) labels label there) [
  | inl it ↦ Contains-append_left (option_to_list l.doc_expression) (doc_expressions labels) e (option_said l.doc_expression e (ap (λ (x : Label). x.doc_expression) (the_one l label it) ∙ is))
  | inr more ↦ Contains-append_right (option_to_list l.doc_expression) (doc_expressions labels) e (doc_there labels label e more is)
]

pub doc_of_label : (labels : List Label) (e : Expression) → Contains (doc_expressions labels) e → (label : Label) × Contains labels label × (label.doc_expression ≡ Some e)
doc_of_label [] e there = absurd (not_in_none e there)
doc_of_label (l ∷ labels) e there = elim (Contains-append_cases (option_to_list l.doc_expression) (doc_expressions labels) e there) [
  | inl it ↦ (l, Contains-append_left (l ∷ []) labels l (Contains-push [] l), said_option l.doc_expression e it)
  | inr more ↦ let found = doc_of_label labels e more in (found.0, Contains-append_right (l ∷ []) labels found.0 found.1, found.2)
]

-- a label whose doc has a value, and in whose doc no name is at fault
pub record IsSoundLabel (m : Known) (value : Expression → Option (List Text)) (label : Label) : Type 0 where
  pub names : (e : Expression) → label.doc_expression ≡ Some e → Keeps (Misnames m none_hidden e)
  pub values : (e : Expression) → label.doc_expression ≡ Some e → (texts : List Text) × (value e ≡ Some texts)

module _ (answers : SyntaxAnswers) (evaluator : Evaluator) (m : Contents) (variables : Variables) (is : AreVariablesOf answers m variables) (values : Values) where
  value_same : value_by_tables evaluator variables values ≡ value_among evaluator m values
  value_same =
      let functions = tables_functions answers m variables.assignments variables.functions variables.evaluation_order is in
      λ i e. evaluator.value (functions i) values (bare e)

  pub documented_among : (labels made : List Label) → AreDocumented (value_by_tables evaluator variables values) labels made → AreDocumented (value_among evaluator m values) labels made
  documented_among labels made all = subst (λ (v : Expression → Option (List Text)). AreDocumented v labels made) value_same all

  pub sound_docs : (labels : List Label) → m.docs ≡ doc_expressions labels → ((label : Label) → Contains labels label → IsSoundLabel (known_by answers variables) (value_by_tables evaluator variables values) label)
      → Keeps (BreaksDocs answers evaluator m values)
  sound_docs labels said sound = docs_kept answers evaluator m values (λ e there.
      let found = doc_of_label labels e (subst (λ (es : List Expression). Contains es e) said there) in
      let label = sound found.0 found.1 in
      let value = label.values e found.2 in
      record {
        names = λ c b. label.names e found.2 c (misnames_tables answers m variables.assignments variables.functions variables.evaluation_order is b);
        texts = value.0;
        value = ap (λ (v : Expression → Option (List Text)). v e) (sym value_same) ∙ value.1;
      })

  -- what is at fault with a label
  fault_of_label : (e : Expression) (c : Cause) (o : Option Expression) → o ≡ Some e → Contains m.docs e → DocFault (known_by answers variables) (value_by_tables evaluator variables values) o c → BreaksDocs answers evaluator m values c
  fault_of_label e c o said there (misnamed {e = d} is_d b) =
      let same : d ≡ e = same_Some d e (sym is_d ∙ said) in
      in_doc (subst (Contains m.docs) (sym same) there) (misnames_known answers m variables.assignments variables.functions variables.evaluation_order is b)
  fault_of_label e _ o said there (no_value {e = d} is_d none) =
      let same : d ≡ e = same_Some d e (sym is_d ∙ said) in
      doc_fault (subst (Contains m.docs) (sym same) there) (ap (λ (v : Expression → Option (List Text)). v d) (sym value_same) ∙ none)

  fault_said : (labels : List Label) (label : Label) → m.docs ≡ doc_expressions labels → Contains labels label → (o : Option Expression) → label.doc_expression ≡ o → (c : Cause)
      → DocFault (known_by answers variables) (value_by_tables evaluator variables values) o c → BreaksDocs answers evaluator m values c
  fault_said labels label said there None is_o c (misnamed is_d b) = cc
  fault_said labels label said there None is_o c (no_value is_d none) = cc
  fault_said labels label said there (Some e) is_o c fault =
      fault_of_label e c (Some e) refl (subst (λ (es : List Expression). Contains es e) (sym said) (doc_there labels label e there is_o)) fault

  pub label_told : (labels : List Label) (label : Label) → m.docs ≡ doc_expressions labels → Contains labels label → (told : Error)
      → Reports (DocFault (known_by answers variables) (value_by_tables evaluator variables values) label.doc_expression) told → Reports (BreaksDocs answers evaluator m values) told
  label_told labels label said there told h =
      reports_by (DocFault (known_by answers variables) (value_by_tables evaluator variables values) label.doc_expression) (BreaksDocs answers evaluator m values)
      (fault_said labels label said there label.doc_expression refl) told h

-- the doc of one label, as its code has it
module _ (m : Known) (value : Expression → Option (List Text)) (said : Option Expression) (e : Expression) (is : said ≡ Some e) where
  pub no_value_told : (told : Error) → FaultsAt (value e) told → Reports (DocFault m value said) told
  no_value_told (error.Compile told) h = subst (λ k. DocFault m value said (Broken told.token k)) (sym h.1.1) (no_value is h.0)
  no_value_told error.Memory h = tt
  no_value_told error.Exhausted h = absurd h
  no_value_told (error.Load told) h = absurd h
  no_value_told (error.Invocation told) h = absurd h
  no_value_told (error.Run told) h = absurd h

  pub misnamed_told : (hidden : Text → Bool) → hidden ≡ none_hidden → (told : Error) → Reports (Misnames m hidden e) told → Reports (DocFault m value said) told
  misnamed_told hidden same told h =
      reports_by (Misnames m hidden e) (DocFault m value said) (λ c b. misnamed is (subst (λ (x : Text → Bool). Misnames m x e c) same b)) told h

  pub names_kept : (hidden : Text → Bool) → hidden ≡ none_hidden → Keeps (Misnames m hidden e) → (d : Expression) → said ≡ Some d → Keeps (Misnames m none_hidden d)
  names_kept hidden same kept d is_d =
      subst (λ (x : Expression). Keeps (Misnames m none_hidden x)) (same_Some e d (sym is ∙ is_d)) (subst (λ (x : Text → Bool). Keeps (Misnames m x e)) same kept)

  pub doc_had : (texts : List Text) (doc : Option Text) (before : Option Text) → value e ≡ Some texts → doc ≡ text_of_value texts → HasDoc value before said doc
  doc_had texts doc before valued made = subst (λ (o : Option Expression). HasDoc value before o doc) (sym is) (texts, valued, made)
