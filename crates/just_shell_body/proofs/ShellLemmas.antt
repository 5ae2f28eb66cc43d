-- The steps of a shell body, by cases.
use Rattle.std.proofs.Common.{◌≡◌, ◌++◌, true, false, List, [], ◌∷◌, Option, None, Some, Ok, sym, subst, arith, length, All}
use Rattle.std.specs.Prelude.{Result}
use Rattle.std.proofs.lemmas.Bool.{cond-true, cond-false}
use Rattle.just_ast_definitions.specs.declared.line.Line.{Line}
use Rattle.just_ast_expressions.specs.declared.scope.Scope.{Scope}
use Rattle.just_ast_expressions.specs.declared.settings.Settings.{Settings}
use Rattle.just_errors.specs.declared.halt.Halt.{Halt}
use Rattle.just_names.specs.Texts.{Text}
use Rattle.just_parts.specs.Known.{Known}
use Rattle.just_parts.specs.Syntax.{SyntaxAnswers}
use Rattle.just_run_layers.specs.LineTexts.{BeginsPlain}
use Rattle.just_run_layers.specs.Evaluation.{Inquiry, ScopeRequest}
use Rattle.just_run_layers.specs.declared.host.Entry.{Entry}
use Rattle.just_run_layers.specs.declared.host.Entry.TheVariants.{Show}
use Rattle.just_run_layers.specs.Host.{Answer, Answers, Done, kept_call}
use Rattle.just_run_layers.specs.Interactions.{Return, Log, Question, Interaction, HasTrace, and_then, both, log_of}
use Rattle.just_run_layers.proofs.InteractionLemmas.{took-called, took-give}
use Rattle.just_recipe_body.specs.Body.{BodyContents, show_steps}
use Rattle.just_recipe_body.specs.Covering.{IsLineCovered}
use Rattle.just_shell_body.specs.Lines.{IsGroupCovered, command_of_group, group_command_steps, groups, is_skipped, lines_text_steps}
use Rattle.just_shell_body.specs.loops.Lines.{TextBeginsGroup}
use Rattle.just_shell_body.specs.ShellBody.{call_steps, group_steps, groups_steps, is_shown, lines_steps, show_command_steps, shown_command, unless_dry_steps, unless_ended}
use Rattle.just_recipe_body.specs.declared.body.Preparation.{Preparation}
use Rattle.just_recipe_body.specs.declared.judgement.Next.{Next}
use Rattle.just_recipe_body.specs.declared.judgement.Next.TheVariants.{Onward}
use Rattle.just_shell_body.specs.declared.lines.GroupCommand.{GroupCommand}

module _ (p : Question → Option Answer) (b : BodyContents) where
  pub not-shown : (command : GroupCommand) (time : Option Text) (old : Log) → is_shown b command.marks time ≡ false → HasTrace p (show_command_steps b command time) old old (Ok tt)
  not-shown command time old h =
      subst (λ s. HasTrace p s old old (Ok tt)) (sym (cond-false (is_shown b command.marks time) (show_steps (shown_command time command.text)) (Return tt) h)) (took-give p old tt)

  pub of-shown : (command : GroupCommand) (time : Option Text) (old new : Log) (r : Result (Unit {0}) Halt) → is_shown b command.marks time ≡ true → HasTrace p (show_steps (shown_command time command.text)) old new r →
      HasTrace p (show_command_steps b command time) old new r
  of-shown command time old new r h t =
      subst (λ s. HasTrace p s old new r) (sym (cond-true (is_shown b command.marks time) (show_steps (shown_command time command.text)) (Return tt) h)) t

  pub of-dry : (prep : Preparation) (command : GroupCommand) (old : Log) → b.context.config.dry_run ≡ true → HasTrace p (unless_dry_steps b prep command) old old (Ok Onward)
  of-dry prep command old h =
      subst (λ s. HasTrace p s old old (Ok Onward)) (sym (cond-true b.context.config.dry_run (Return Onward) (call_steps b prep command) h)) (took-give p old Onward)

  pub of-run : (prep : Preparation) (command : GroupCommand) (old new : Log) (r : Result Next Halt) → b.context.config.dry_run ≡ false → HasTrace p (call_steps b prep command) old new r → HasTrace p (unless_dry_steps b prep command) old new r
  of-run prep command old new r h t =
      subst (λ s. HasTrace p s old new r) (sym (cond-false b.context.config.dry_run (Return Onward) (call_steps b prep command) h)) t

  -- a group that is skipped, and one that is not
  pub of-skipped : (line : Line) (lines whole : List Line) (old : Log) → whole ≡ line ∷ lines → is_skipped b.syntax b.context.settings line ≡ true → HasTrace p (group_command_steps b whole) old old (Ok None)
  of-skipped line lines whole old e h =
      subst (λ ls. HasTrace p (group_command_steps b ls) old old (Ok None)) (sym e)
      (subst (λ s. HasTrace p s old old (Ok None)) (sym (cond-true (is_skipped b.syntax b.context.settings line) (Return None) (and_then (lines_text_steps b false [] (line ∷ lines)) (λ text. Return (command_of_group (b.syntax.sigils line b.context.settings) line lines text))) h))
      (took-give p old None))

  pub of-group : (line : Line) (lines whole : List Line) (old new : Log) (r : Result (Option GroupCommand) Halt) → whole ≡ line ∷ lines → is_skipped b.syntax b.context.settings line ≡ false →
      HasTrace p (and_then (lines_text_steps b false [] whole) (λ text. Return (command_of_group (b.syntax.sigils line b.context.settings) line lines text))) old new r → HasTrace p (group_command_steps b whole) old new r
  of-group line lines whole old new r e h t =
      let next : Text → Interaction (Option GroupCommand) = λ text. Return (command_of_group (b.syntax.sigils line b.context.settings) line lines text) in
      subst (λ ls. HasTrace p (group_command_steps b ls) old new r) (sym e)
      (subst (λ s. HasTrace p s old new r) (sym (cond-false (is_skipped b.syntax b.context.settings line) (Return None) (and_then (lines_text_steps b false [] (line ∷ lines)) next) h))
      (subst (λ ls. HasTrace p (and_then (lines_text_steps b false [] ls) next) old new r) e t))

  -- the first group, and the others; and no more
  pub one-group : (prep : Preparation) (lines group others : List Line) (old new : Log) (r : Result (Unit {0}) Halt) →
      groups b.syntax b.context.settings lines ≡ group ∷ groups b.syntax b.context.settings others →
      HasTrace p (and_then (group_steps b prep group) (unless_ended (lines_steps b prep others))) old new r → HasTrace p (lines_steps b prep lines) old new r
  one-group prep lines group others old new r e t = subst (λ gs. HasTrace p (groups_steps b prep gs) old new r) (sym e) t

  pub no-groups : (prep : Preparation) (lines : List Line) (old : Log) → length lines ≡ 0 → HasTrace p (lines_steps b prep lines) old old (Ok tt)
  no-groups prep [] old h = took-give p old tt
  no-groups prep (l ∷ ls) old h = absurd (omega (arith, h))

pub is-told : (e : Inquiry → Option Answer) (h : Entry → Option Answer) (text : Text) (requests : List ScopeRequest) (old new : List Entry) → Answers (h (Show text)) (Some Done) → new ≡ old ++ kept_call (Show text) (Some Done) →
    HasTrace (both e h) (show_steps text) (log_of old requests) (log_of new requests) (Ok tt)
is-told e h text requests old new a n = took-called e h (Show text) (λ answer. Return tt) Done requests old new (log_of new requests) (Ok tt) a n (took-give (both e h) (log_of new requests) tt)

-- the text of a group begins as its first line does
pub begins-first : (syntax : SyntaxAnswers) (settings : Settings) (line : Line) (lines whole : List Line) (text : Text) → whole ≡ line ∷ lines → TextBeginsGroup syntax settings whole text → BeginsPlain (length (syntax.sigils line settings)) text
begins-first syntax settings line lines whole text e h = subst (λ ls. TextBeginsGroup syntax settings ls text) e h

-- what is bound for a group that is not skipped
pub group-bound : (syntax : SyntaxAnswers) (settings : Settings) (known : Known) (scope : Scope) (line : Line) (lines whole : List Line) → whole ≡ line ∷ lines → is_skipped syntax settings line ≡ false → IsGroupCovered syntax settings known scope whole →
    All (IsLineCovered known scope) whole
group-bound syntax settings known scope line lines whole e s h =
    subst (All (IsLineCovered known scope)) (sym e) (subst (IsGroupCovered syntax settings known scope) e h s)
