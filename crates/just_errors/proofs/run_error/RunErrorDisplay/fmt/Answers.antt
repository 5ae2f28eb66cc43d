use Rattle.just_errors.proofs.run_error.RunErrorDisplay.fmt.Goals as goal

pub returns-in-ShellIo-clause-writes : goal.returns-in-ShellIo-clause-writes
returns-in-ShellIo-clause-writes g c = λ plain ok. rw c.in-ShellIo.is (c.write-in-ShellIo.ensures.writes plain ok)

pub returns-in-ScriptStart-clause-writes : goal.returns-in-ScriptStart-clause-writes
returns-in-ScriptStart-clause-writes g c = λ plain ok. rw c.in-ScriptStart.is (c.write-in-ScriptStart.ensures.writes plain ok)

pub returns-in-UnstableFeature-clause-writes : goal.returns-in-UnstableFeature-clause-writes
returns-in-UnstableFeature-clause-writes g c = λ plain ok. rw c.in-UnstableFeature.is (c.write-in-UnstableFeature.ensures.writes plain ok)
