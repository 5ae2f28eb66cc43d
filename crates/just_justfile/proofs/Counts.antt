-- How many modules there are in one.
use Rattle.std.proofs.Common.{◌≡◌, ◌⊎◌, ℕ, ◌<◌, ◌≤◌, suc, List, [], ◌∷◌, length, ap, ◌∙◌, arith}
use Rattle.std.specs.List.{sum, sum_by}
use Rattle.std.proofs.lemmas.List.Sums.{sum-map, sum_by-cons}
use Rattle.just_justfile.specs.declared.justfile.Justfile.{Justfile, out-Justfile}
use Rattle.just_justfile.specs.declared.justfile.Justfile.TheOpen.{Justfile-F}
use Rattle.just_justfile.specs.declared.justfile.Justfile.TheFolds.{fold-Justfile, fold_out-Justfile}

abbrev count_step : Justfile-F ℕ → ℕ
count_step m = suc (sum m.modules)

-- itself, and those in its modules
abbrev pub count : Justfile → ℕ
count = fold-Justfile ℕ count_step

pub count_is : (j : Justfile) → count j ≡ suc (sum_by count (out-Justfile j).modules)
count_is j = fold_out-Justfile ℕ count_step j ∙ ap suc (sum-map count (out-Justfile j).modules)

-- each counts
pub counts_add : (js : List Justfile) → length js ≤ sum_by count js
counts_add [] = omega arith
counts_add (j ∷ js) = let one = count_is j in let others = counts_add js in let both = sum_by-cons count j js in omega arith
