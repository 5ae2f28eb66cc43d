use Rattle.just_errors.proofs.compile_error.CompileErrorKindDisplay.fmt.Goals as goal

pub returns-in-DuplicateSet-clause-writes : goal.returns-in-DuplicateSet-clause-writes
returns-in-DuplicateSet-clause-writes g c = λ plain ok. rw (c.in-DuplicateSet.is, ← c.saturating_add-line.ensures) (c.write-in-DuplicateSet.ensures.writes plain ok)

pub returns-in-IncompatibleSettings-clause-writes : goal.returns-in-IncompatibleSettings-clause-writes
returns-in-IncompatibleSettings-clause-writes g c = λ plain ok. rw (c.in-IncompatibleSettings.is, ← c.saturating_add-line-in-IncompatibleSettings.ensures) (c.write-in-IncompatibleSettings.ensures.writes plain ok)

pub returns-in-Redefinition-clause-writes : goal.returns-in-Redefinition-clause-writes
returns-in-Redefinition-clause-writes g c = λ plain ok. rw (c.in-Redefinition.is, ← c.saturating_add-line-in-Redefinition.ensures) (c.write-in-Redefinition.ensures.writes plain ok)

pub returns-in-UnknownDependency-clause-writes : goal.returns-in-UnknownDependency-clause-writes
returns-in-UnknownDependency-clause-writes g c = λ plain ok. rw c.in-UnknownDependency.is (c.write-in-UnknownDependency.ensures.writes plain ok)

pub returns-in-DependencyArgumentCountMismatch-clause-writes : goal.returns-in-DependencyArgumentCountMismatch-clause-writes
returns-in-DependencyArgumentCountMismatch-clause-writes g c = λ plain ok. rw c.in-DependencyArgumentCountMismatch.is (c.write-in-DependencyArgumentCountMismatch.ensures.writes plain ok)

pub returns-in-UnknownAliasTarget-clause-writes : goal.returns-in-UnknownAliasTarget-clause-writes
returns-in-UnknownAliasTarget-clause-writes g c = λ plain ok. rw c.in-UnknownAliasTarget.is (c.write-in-UnknownAliasTarget.ensures.writes plain ok)
