-- What private functions say beside `Analyzed.antt`.
use Rattle.std.specs.Prelude.{List}
use Rattle.std.specs.HashMap.{HashMap, get}
use Rattle.just_compiler.specs.declared.modules.Gathered.{Gathered}
use Rattle.just_parts.specs.Asts.{AstKey, same_ast_key}
use Rattle.just_names.specs.Texts.{Text}
use Rattle.just_parts.specs.Items.{Ast}
use Rattle.just_parts.specs.Layers.{Given}
use Rattle.just_paths.specs.declared.modulepath.Modulepath.{Modulepath}
use Rattle.just_justfile.specs.declared.justfile.Justfile.{Justfile}
use Rattle.just_module_tree.specs.Modules.{heading}
use Rattle.just_module_contents.specs.declared.labels.Label.{Label}
use Rattle.just_compiler.specs.Analyzed.{IsAnalyzed}

-- the same of the module at a path, with its own file and a label
abbrev pub AnalyzesAt : {H : Type 0} → Given → HashMap AstKey Ast H → List Text → Modulepath → Text → Label → Justfile × Gathered → Type 0
AnalyzesAt given asts loaded path root label made = IsAnalyzed given (get same_ast_key asts) loaded (heading (path, root) label) made.0 made.1.recipes made.1.overridden.items
