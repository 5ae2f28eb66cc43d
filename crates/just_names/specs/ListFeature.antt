-- What needs lists.
use Rattle.std.specs.Prelude.{ℕ, Bool, true, false, List, codes}
use Rattle.just_names.specs.declared.list_feature.ListFeature.{ListFeature}
use Rattle.just_names.specs.declared.list_feature.ListFeature.TheVariants as feature

-- a function over lists
abbrev pub is_function : ListFeature → Bool
is_function feature.Function = true
is_function feature.List = false

abbrev pub feature_text : ListFeature → List ℕ
feature_text feature.Function = codes "A function over lists"
feature_text feature.List = codes "A list"
