use Rattle.std.proofs.Common.{◌∙◌, ◌++◌, ap, rules, string_bytes}
use Rattle.std.proofs.Math.Utf8.{encode}
use Rattle.just_evaluate.proofs.Spelling.{escaped_plain, escaped_special}
use Rattle.just_evaluate.proofs.escapes.push_escaped.Goals as goal
use Rattle.just_evaluate.proofs.escapes.push_escaped.Goals.{then-is_special+in_ok-push, else-is_special}

pub loop-c-preserved : goal.loop-c-preserved
loop-c-preserved c =
    let start = string_bytes c.args.text.now in
    let before = string_bytes c.loop-c.text in
    let item = c.in-Some.c in
    c.in_ok-push-2.ensures.bytes ∙ elim c.if-is_special.branch [
      | then-is_special+in_ok-push w ↦
          ap (λ t. t ++ encode item) (ap string_bytes w.text-is ∙ w.in_ok-push.ensures.bytes)
          ∙ escaped_special start before c.loop-c.yielded item c.loop-c.invariant (search rules)
      | else-is_special w ↦ ap (λ t. string_bytes t ++ encode item) w.text-is ∙ escaped_plain start before c.loop-c.yielded item c.loop-c.invariant (search rules)
    ]
