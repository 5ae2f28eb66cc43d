-- What files say of their module that no rule reads.
use Rattle.std.specs.Prelude.{Bool, true, List, [], ◌∷◌, ◌++◌, map, Option, None, Some}
use Rattle.just_names.specs.Texts.{Text}
use Rattle.just_names.specs.Name.{text_of_name}
use Rattle.just_parts.specs.Items.{Ast, Item}
use Rattle.just_ast_items.specs.declared.item.Item.TheVariants as item
use Rattle.just_ast_expressions.specs.declared.unstable_feature.UnstableFeature.{UnstableFeature}
use Rattle.just_ast_expressions.specs.declared.warning.Warning.{Warning}
use Rattle.just_table.specs.Entries.{put_all}
use Rattle.just_module_contents.specs.Said.{said}
use Rattle.just_module_contents.specs.declared.notes.Notes.{Notes}

-- the name of the optional module without a file that an item declares
abbrev pub absent_by : Item → List Text
absent_by (item.Module name relative None attributes doc true) = text_of_name name ∷ []
absent_by _ = []

-- the names of the features that a file uses and that are not stable, and what the caller is told of it
abbrev pub features_by : Option Ast → List Text
features_by None = []
features_by (Some ast) = map (λ (f : UnstableFeature). f.name) ast.unstable_features

abbrev pub warnings_by : Option Ast → List Warning
warnings_by None = []
warnings_by (Some ast) = ast.warnings

-- what is noted of these modules, features and warnings: each name once
abbrev pub notes_of : List Text → List Text → List Warning → Notes
notes_of absent features warnings = record {
  absent_modules = put_all (λ t. t) [] absent;
  unstable_features = put_all (λ t. t) [] features;
  warnings = warnings;
}

abbrev pub no_notes : Notes
no_notes = notes_of [] [] []

-- what a file adds
abbrev pub noted : (Item → Bool) → Notes → Ast → Notes
noted enabled notes ast = record {
  absent_modules = put_all (λ t. t) notes.absent_modules (said absent_by enabled ast.items);
  unstable_features = put_all (λ t. t) notes.unstable_features (map (λ (f : UnstableFeature). f.name) ast.unstable_features);
  warnings = notes.warnings ++ ast.warnings;
}
