use Rattle.std.proofs.Common.{sym, subst}
use Rattle.std.specs.Str.{IsUtf8}
use Rattle.std.proofs.lemmas.Str.{IsCharBoundary-start}
use Rattle.just_examples_calls.proofs.patterns.pattern_of.Goals as goal

pub new-token-requires-clause-starts : goal.new-token-requires-clause-starts
new-token-requires-clause-starts c = IsCharBoundary-start c.new-src.result (subst IsUtf8 (sym c.new-src.ensures) c.utf8.text)
