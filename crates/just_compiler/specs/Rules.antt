-- The rules of compilation.
use Rattle.std.specs.Map.{keys_of}
use Rattle.std.specs.Prelude.{[], ◌∷◌}
use Rattle.just_errors.specs.Causes.{Cause, Keeps}
use Rattle.just_parts.specs.Evaluator.{Evaluator}
use Rattle.just_loader.specs.Keys.{BreaksFiles}
use Rattle.just_loader.specs.Reached.{World}
use Rattle.just_module_tree.specs.Groups.{KeepsModules, BreaksModules}
use Rattle.just_module_contents.specs.Groups.{Links}
use Rattle.just_module_tree.specs.Modules.{AreModules, Forest, Module}
use Rattle.just_module_tree.specs.Overrides.{BreaksOverrides}
use Rattle.just_module_tree.specs.Standing.{links_in, told_in}
use Rattle.just_module_headers.specs.Reading.{Reading}
use Rattle.just_compiler.specs.Readings.{IsReadingOf, Overrides, given_in, root_heading}

-- What a compilation breaks: a rule of files; or where these are kept, one of a module that is reached from the root's, or what else is told there of its last groups; or where all of those are kept, that of what is overridden.
pub data BreaksCompilationBy (told : Module → Forest → Links) (evaluator : Evaluator) (overrides : Overrides) (w : World) : Cause → Type 0 where
  in_files : {c : Cause} → BreaksFiles w c → BreaksCompilationBy told evaluator overrides w c
  in_modules : {c : Cause} (R : Reading) → Keeps (BreaksFiles w) → IsReadingOf w R → BreaksModules told (given_in evaluator overrides w) R (root_heading w) c → BreaksCompilationBy told evaluator overrides w c
  in_overrides : {c : Cause} (R : Reading) (f : Forest) → Keeps (BreaksFiles w) → IsReadingOf w R → AreModules R (root_heading w ∷ []) f → KeepsModules (given_in evaluator overrides w) f
      → BreaksOverrides (keys_of overrides.entries) f c → BreaksCompilationBy told evaluator overrides w c

-- the rules that are broken
abbrev pub BreaksCompilation : Evaluator → Overrides → World → Cause → Type 0
BreaksCompilation = BreaksCompilationBy links_in

-- what an error may tell: a rule that is broken, or a pattern that is past the limits of regular expressions
abbrev pub MayTell : Evaluator → Overrides → World → Cause → Type 0
MayTell = BreaksCompilationBy told_in

-- No rule is broken: those of files are kept, and so are all groups in the root's module and in those in it, and that of what is overridden.
pub record KeepsAll (evaluator : Evaluator) (overrides : Overrides) (w : World) : Type 0 where
  pub files : Keeps (BreaksFiles w)
  pub modules : (R : Reading) (f : Forest) → IsReadingOf w R → AreModules R (root_heading w ∷ []) f → KeepsModules (given_in evaluator overrides w) f
  pub overridden : (R : Reading) (f : Forest) → IsReadingOf w R → AreModules R (root_heading w ∷ []) f → Keeps (BreaksOverrides (keys_of overrides.entries) f)
