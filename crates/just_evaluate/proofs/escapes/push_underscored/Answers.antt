use Rattle.std.proofs.Common.{◌∙◌, string_bytes}
use Rattle.just_evaluate.proofs.Spelling.{underscored_more}
use Rattle.just_evaluate.proofs.escapes.push_underscored.Goals as goal

pub loop-c-preserved : goal.loop-c-preserved
loop-c-preserved c =
    c.in_ok-push.ensures.bytes ∙ underscored_more (string_bytes c.args.text.now) (string_bytes c.loop-c.text) c.loop-c.yielded c.in-Some.c c.undashed.result c.loop-c.invariant c.undashed.ensures
