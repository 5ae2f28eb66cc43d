-- The rules of a module, group by group.
use Rattle.std.specs.Prelude.{◌<◌, ℕ}
use Rattle.just_errors.specs.Causes.{Cause, Keeps}
use Rattle.just_parts.specs.Layers.{Layers}
use Rattle.just_parts.specs.Misnaming.{Expressions}
use Rattle.just_module_contents.specs.Constants.{BreaksConstants, BreaksDocs, Evaluated, IsEvaluated}
use Rattle.just_module_contents.specs.Contents.{Contents}
use Rattle.just_module_contents.specs.Known.{known_of}
use Rattle.just_module_contents.specs.Rules.{BreaksBodies, BreaksHeaders, BreaksDefinitions, WhereEvaluated}

-- What is broken in the bodies of a module, or in the docs of the modules that it declares, as it is evaluated.
pub data BreaksBodiesAndDocs (layers : Layers) (m : Contents) (it : Evaluated) : Cause → Type 0 where
  in_docs : {c : Cause} → BreaksDocs layers.syntax layers.evaluator m it.constants c → BreaksBodiesAndDocs layers m it c
  in_bodies : {c : Cause} → BreaksBodies layers.syntax it.settings m c → BreaksBodiesAndDocs layers m it c

-- The groups of rules, in the order in which they are read.
pub data Group : Type 0 where
  OfHeaders : Group
  OfNames : Group
  OfExpressions : Group
  OfConstants : Group
  OfBodies : Group
  OfDependencies : Group
  OfRecipes : Group
  OfAliases : Group

abbrev pub rank : Group → ℕ
rank OfHeaders = 0
rank OfNames = 1
rank OfExpressions = 2
rank OfConstants = 3
rank OfBodies = 4
rank OfDependencies = 5
rank OfRecipes = 6
rank OfAliases = 7

-- What is broken of the last groups of a module, by the layers, as the module is evaluated. They read the modules in it as well.
abbrev pub Links : Type 1
Links = Layers → Evaluated → Group → Cause → Type 0

-- what is broken of a group
abbrev pub Breaks : Layers → Links → Group → Contents → Cause → Type 0
Breaks layers links OfHeaders m = BreaksHeaders layers.syntax.conflicts m
Breaks layers links OfNames m = BreaksDefinitions m
Breaks layers links OfExpressions m = Expressions (known_of layers.syntax m)
Breaks layers links OfConstants m = BreaksConstants layers m
Breaks layers links OfBodies m = WhereEvaluated (IsEvaluated layers m) (BreaksBodiesAndDocs layers m)
Breaks layers links OfDependencies m = WhereEvaluated (IsEvaluated layers m) (λ (it : Evaluated). links layers it OfDependencies)
Breaks layers links OfRecipes m = WhereEvaluated (IsEvaluated layers m) (λ (it : Evaluated). links layers it OfRecipes)
Breaks layers links OfAliases m = WhereEvaluated (IsEvaluated layers m) (λ (it : Evaluated). links layers it OfAliases)

-- all groups are kept
abbrev pub KeepsContents : Layers → Links → Contents → Type 0
KeepsContents layers links m = (g : Group) → Keeps (Breaks layers links g m)

-- the groups before one are kept
abbrev pub KeepsBefore : Layers → Links → Group → Contents → Type 0
KeepsBefore layers links g m = (f : Group) → rank f < rank g → Keeps (Breaks layers links f m)

-- A rule of a group is broken, and the groups before it are kept. Of the last groups an error may tell more than what is broken.
pub record BreaksContents (layers : Layers) (links told : Links) (m : Contents) (c : Cause) : Type 0 where
  pub group : Group
  pub earlier : KeepsBefore layers links group m
  pub broken : Breaks layers told group m c
