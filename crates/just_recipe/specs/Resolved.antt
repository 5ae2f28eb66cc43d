-- Recipes as they are resolved.
use Rattle.std.specs.Prelude.{List, Some}
use Rattle.just_paths.specs.declared.modulepath.Modulepath.{Modulepath}
use Rattle.just_recipe.specs.declared.recipe.Recipe.{Recipe}

-- the recipe with these dependencies, under these paths
abbrev pub resolved : {D E : Type 0} → Recipe D → List E → Modulepath → Modulepath → Recipe E
resolved r dependencies module_path recipe_path = record {
  attributes = r.attributes;
  body = r.body;
  dependencies = dependencies;
  doc = r.doc;
  file_depth = r.file_depth;
  import_offsets = r.import_offsets;
  name = r.name;
  number = r.number;
  parameters = r.parameters;
  priors = r.priors;
  private = r.private;
  quiet = r.quiet;
  shebang = r.shebang;
  module_path = Some module_path;
  recipe_path = Some recipe_path;
  variable_references = r.variable_references;
}
