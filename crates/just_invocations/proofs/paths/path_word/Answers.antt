use Rattle.std.proofs.Common.{sym, subst, IfOk, OnErr}
use Rattle.just_invocations.specs.Words.{IsPathWord}
use Rattle.just_tail.specs.Words.{Words}
use Rattle.just_invocations.proofs.paths.path_word.Goals as goal

pub returns-then-last-clause-refusal : goal.returns-then-last-clause-refusal
returns-then-last-clause-refusal c =
    subst (λ b. IfOk c.from_argument.result (λ found. OnErr found ((names : Words) → IsPathWord b c.args.word.now names → ⊥)))
    (sym c.if-last.true) c.from_argument.ensures.refusal
