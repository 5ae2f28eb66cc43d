-- What private functions say beside `Contents.antt`.
use Rattle.std.specs.Prelude.{List, [], ◌∷◌, ◌++◌}
use Rattle.just_names.specs.declared.name.Name.{Name}
use Rattle.just_ast_expressions.specs.declared.expression.Expression.{Expression}
use Rattle.just_module_contents.specs.declared.definitions.Naming.{Naming}
use Rattle.just_module_contents.specs.Contents.{Contents, defined}

-- the same contents, with one more module, and what its doc is evaluated from
abbrev pub with_module : Contents → Name → List Expression → Contents
with_module m name docs = record m { modules = m.modules ++ name ∷ []; docs = m.docs ++ docs }

-- the same contents, with more that is defined under a name beside recipes
abbrev pub with_named : Contents → List Naming → Contents
with_named m ns = record m { named = m.named ++ ns }
