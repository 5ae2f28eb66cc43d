-- The steps of a script body, by cases.
use Rattle.std.proofs.Common.{◌≡◌, ◌<◌, ◌≤◌, ◌+◌, ℕ, Bool, true, false, List, [], ◌∷◌, ◌++◌, Option, Ok, Err, refl, sym, ◌∙◌, ap, subst, append_assoc, cond, drop, get_or, length}
use Rattle.std.specs.Prelude.{Result}
use Rattle.std.proofs.lemmas.Bool.{cond-true, cond-false}
use Rattle.std.proofs.lemmas.List.{append-nil, at_drop_all, at_drop_more}
use Rattle.just_ast_definitions.specs.declared.line.Line.{Line}
use Rattle.just_errors.specs.declared.halt.Halt.{Halt}
use Rattle.just_errors.specs.declared.halt.Halt.TheVariants.{Exhausted, Failed, Memory}
use Rattle.just_errors.specs.declared.run_error.RunError.{RunError}
use Rattle.just_names.specs.Texts.{Text}
use Rattle.just_run_layers.specs.Host.{Answer}
use Rattle.just_run_layers.specs.Interactions.{Return, Log, Question, Interaction, HasTrace, and_then}
use Rattle.just_run_layers.proofs.InteractionLemmas.{then-assoc, then-give, then-same, took-out}
use Rattle.just_recipe_body.specs.Body.{BodyContents, concluded, line_steps}
use Rattle.just_recipe_body.proofs.StepEnds.{took-given, took-refused}
use Rattle.just_script_body.specs.loops.Executors.{IsOrMemory}
use Rattle.just_script_body.specs.ScriptBody.{texts_steps}

module _ (p : Question → Option Answer) where
  -- a result, or want of memory
  pub took-result : {A : Type 0} (old : Log) (o : Result A RunError) (r : Result A Halt) → IsOrMemory o r → HasTrace p (concluded o) old old r
  took-result old o (Ok x) e = took-given p old x o e
  took-result old o (Err (Failed x)) e = took-refused p old x o e
  took-result old o (Err Memory) e = took-out p (concluded o) old old refl
  took-result old o (Err Exhausted) e = absurd e

  -- the steps of a case
  pub took-where : {A : Type 0} (test : Bool) (s o : Interaction A) (old new : Log) (r : Result A Halt) → test ≡ true → HasTrace p s old new r → HasTrace p (cond test s o) old new r
  took-where test s o old new r h t = subst (λ x. HasTrace p x old new r) (sym (cond-true test s o h)) t

  pub took-else : {A : Type 0} (test : Bool) (s o : Interaction A) (old new : Log) (r : Result A Halt) → test ≡ false → HasTrace p o old new r → HasTrace p (cond test s o) old new r
  took-else test s o old new r h t = subst (λ x. HasTrace p x old new r) (sym (cond-false test s o h)) t

  -- steps for what is left of a list: one element on, and at the end
  pub took-one : {A B : Type 0} (steps : List A → Interaction B) (xs : List A) (i : ℕ) (x : A) (old new : Log) (r : Result B Halt) → i < length xs → x ≡ get_or xs i x →
      HasTrace p (steps (x ∷ drop (i + 1) xs)) old new r → HasTrace p (steps (drop i xs)) old new r
  took-one steps xs i x old new r h e t = subst (λ s. HasTrace p s old new r) (ap (λ y. steps (y ∷ drop (i + 1) xs)) e ∙ sym (at_drop_more steps xs i x h)) t

  pub took-none : {A B : Type 0} (steps : List A → Interaction B) (xs : List A) (i : ℕ) (old new : Log) (r : Result B Halt) → length xs ≤ i → HasTrace p (steps []) old new r → HasTrace p (steps (drop i xs)) old new r
  took-none steps xs i old new r h t = subst (λ s. HasTrace p s old new r) (sym (at_drop_all steps xs i h)) t

-- the texts of lines, behind those that are there
abbrev pub behind_steps : BodyContents → List Text → List Line → Interaction (List Text)
behind_steps b done lines = and_then (texts_steps b lines) (λ texts. Return (done ++ texts))

module _ (p : Question → Option Answer) (b : BodyContents) where
  pub of-texts : (lines : List Line) (old new : Log) (r : Result (List Text) Halt) → HasTrace p (behind_steps b [] lines) old new r → HasTrace p (texts_steps b lines) old new r
  of-texts lines old new r t = subst (λ s. HasTrace p s old new r) (then-give (texts_steps b lines)) t

  pub of-line : (done : List Text) (line : Line) (lines : List Line) (old new : Log) (r : Result (List Text) Halt) →
      HasTrace p (and_then (line_steps b line false) (λ text. behind_steps b (done ++ text ∷ []) lines)) old new r → HasTrace p (behind_steps b done (line ∷ lines)) old new r
  of-line done line lines old new r t =
      let put : Text → List Text → Interaction (List Text) = λ text texts. Return (text ∷ texts) in
      let last : List Text → Interaction (List Text) = λ texts. Return (done ++ texts) in
      subst (λ s. HasTrace p s old new r)
      (sym (then-assoc (line_steps b line false) (λ text. and_then (texts_steps b lines) (put text)) last
      ∙ then-same (line_steps b line false) (λ text. and_then (and_then (texts_steps b lines) (put text)) last) (λ text. behind_steps b (done ++ text ∷ []) lines)
      (λ text. then-assoc (texts_steps b lines) (put text) last
      ∙ then-same (texts_steps b lines) (λ texts. Return (done ++ text ∷ texts)) (λ texts. Return ((done ++ text ∷ []) ++ texts)) (λ texts. ap (λ all. Return all) (sym (append_assoc done (text ∷ []) texts))))))
      t

  pub no-line : (done : List Text) (old : Log) (r : Result (List Text) Halt) → HasTrace p (Return done) old old r → HasTrace p (behind_steps b done []) old old r
  no-line done old r t = subst (λ texts. HasTrace p (Return texts) old old r) (sym (append-nil done)) t
