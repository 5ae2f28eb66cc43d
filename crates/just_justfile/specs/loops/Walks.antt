-- What private functions say beside `Walks.antt`.
use Rattle.std.specs.Prelude.{◌≡◌, ◌≤◌, List, length, take, Option, None, Some}
use Rattle.just_names.specs.Texts.{Text}
use Rattle.just_justfile.specs.declared.justfile.Justfile.{Justfile, out-Justfile}
use Rattle.just_justfile.specs.declared.resolution.Reached.{Reached}
use Rattle.just_justfile.specs.declared.resolution.Reached.TheVariants as reached
use Rattle.just_justfile.specs.Walks.{Absent, End, Here, Inside, Nowhere}

-- the absent modules where a walk is: in the module into which it led, or where it began
abbrev pub absent_there : List (Text × Text) → Option Justfile → List (Text × Text)
absent_there absent None = absent
absent_there absent (Some j) = (out-Justfile j).absent_modules

-- what a walk along names answers: of a module without a file how many names lead to it
abbrev pub IsReached : List Text → End → Reached → Type 0
IsReached names end reached.Here = end ≡ Here
IsReached names end (reached.Inside j) = end ≡ Inside j.now
IsReached names end (reached.Absent count) = (count ≤ length names) × (end ≡ Absent (take count names))
IsReached names end reached.Nowhere = end ≡ Nowhere
