-- What is known already of what names need.
use Rattle.std.specs.Prelude.{◌≡◌, ◌&&◌, Bool, List, Some}
use Rattle.std.specs.Cmp.Lexicographic.{pointwise}
use Rattle.std.specs.HashMap.{HashMap, get}
use Rattle.std.specs.Str.{bytes_eq}
use Rattle.just_name_resolution.specs.Lent.{tables_in}
use Rattle.just_names.specs.declared.number.Number.{Number}
use Rattle.just_parts.specs.Needs.{has_number}
use Rattle.just_recipe_needs.specs.declared.collection.Sources.{Sources}
use Rattle.just_recipe_needs.specs.declared.direct_names.DirectNames.{DirectNames}
use Rattle.just_recipe_needs.specs.Collected.{IsStart}
use Rattle.just_recipe_needs.specs.Needed.{AreNumbersOf}

-- whether two recipes name the same
abbrev pub same_names : DirectNames → DirectNames → Bool
same_names x y = pointwise bytes_eq x.variables.keys y.variables.keys && pointwise bytes_eq x.functions.keys y.functions.keys

-- numbers are right for names
abbrev pub AreRight : Sources → DirectNames → List Number → Type 0
AreRight sources names =
    let m = tables_in sources.tables in
    AreNumbersOf m (has_number sources.overrides.now) (IsStart m names.variables.keys names.functions.keys)

-- what is known is right
abbrev pub IsRight : {S : Type 0} → Sources → HashMap DirectNames (List Number) S → Type 0
IsRight sources known = (names : DirectNames) (numbers : List Number) → get same_names known names ≡ Some numbers → AreRight sources names numbers
