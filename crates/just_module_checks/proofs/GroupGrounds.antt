-- The groups of rules that are kept before those of bodies.
use Rattle.std.proofs.Common.{◌<◌, arith}
use Rattle.just_errors.specs.Causes.{Cause, Keeps}
use Rattle.just_module_contents.specs.Constants.{BreaksDocs, Evaluated, IsEvaluated}
use Rattle.just_module_contents.specs.Contents.{Contents}
use Rattle.just_module_checks.specs.Checked.{no_links}
use Rattle.just_module_contents.specs.Groups.{Breaks, BreaksContents, Group, KeepsBefore, Links, OfAliases, OfBodies, OfConstants, OfDependencies, OfExpressions, OfHeaders, OfNames, OfRecipes, in_docs, rank}
use Rattle.just_module_contents.specs.Rules.{WhereEvaluated, under}
use Rattle.just_parts.specs.Layers.{Layers}

module _ (layers : Layers) (links : Links) (m : Contents) where
  pub before_names : Keeps (Breaks layers links OfHeaders m) → KeepsBefore layers links OfNames m
  before_names headers OfHeaders lt = headers
  before_names headers OfNames lt = absurd (omega (arith, lt))
  before_names headers OfExpressions lt = absurd (omega (arith, lt))
  before_names headers OfConstants lt = absurd (omega (arith, lt))
  before_names headers OfBodies lt = absurd (omega (arith, lt))
  before_names headers OfDependencies lt = absurd (omega (arith, lt))
  before_names headers OfRecipes lt = absurd (omega (arith, lt))
  before_names headers OfAliases lt = absurd (omega (arith, lt))

  pub before_expressions : Keeps (Breaks layers links OfHeaders m) → Keeps (Breaks layers links OfNames m) → KeepsBefore layers links OfExpressions m
  before_expressions headers names OfHeaders lt = headers
  before_expressions headers names OfNames lt = names
  before_expressions headers names OfExpressions lt = absurd (omega (arith, lt))
  before_expressions headers names OfConstants lt = absurd (omega (arith, lt))
  before_expressions headers names OfBodies lt = absurd (omega (arith, lt))
  before_expressions headers names OfDependencies lt = absurd (omega (arith, lt))
  before_expressions headers names OfRecipes lt = absurd (omega (arith, lt))
  before_expressions headers names OfAliases lt = absurd (omega (arith, lt))

  pub before_constants : Keeps (Breaks layers links OfHeaders m) → Keeps (Breaks layers links OfNames m) → Keeps (Breaks layers links OfExpressions m) → KeepsBefore layers links OfConstants m
  before_constants headers names expressions OfHeaders lt = headers
  before_constants headers names expressions OfNames lt = names
  before_constants headers names expressions OfExpressions lt = expressions
  before_constants headers names expressions OfConstants lt = absurd (omega (arith, lt))
  before_constants headers names expressions OfBodies lt = absurd (omega (arith, lt))
  before_constants headers names expressions OfDependencies lt = absurd (omega (arith, lt))
  before_constants headers names expressions OfRecipes lt = absurd (omega (arith, lt))
  before_constants headers names expressions OfAliases lt = absurd (omega (arith, lt))

  pub before_bodies : Keeps (Breaks layers links OfHeaders m) → Keeps (Breaks layers links OfNames m) → Keeps (Breaks layers links OfExpressions m) → Keeps (Breaks layers links OfConstants m) → KeepsBefore layers links OfBodies m
  before_bodies headers names expressions constants OfHeaders lt = headers
  before_bodies headers names expressions constants OfNames lt = names
  before_bodies headers names expressions constants OfExpressions lt = expressions
  before_bodies headers names expressions constants OfConstants lt = constants
  before_bodies headers names expressions constants OfBodies lt = absurd (omega (arith, lt))
  before_bodies headers names expressions constants OfDependencies lt = absurd (omega (arith, lt))
  before_bodies headers names expressions constants OfRecipes lt = absurd (omega (arith, lt))
  before_bodies headers names expressions constants OfAliases lt = absurd (omega (arith, lt))

  -- what is broken of docs is broken of the module
  pub docs_broken : (it : Evaluated) → IsEvaluated layers m it → KeepsBefore layers links OfBodies m → (c : Cause) → BreaksDocs layers.syntax layers.evaluator m it.constants c → BreaksContents layers links links m c
  docs_broken it is earlier c b = record { group = OfBodies; earlier = earlier; broken = under is (in_docs b) }

-- the groups before those of bodies read no links
module _ (layers : Layers) (links other : Links) (m : Contents) where
  pub before_any : KeepsBefore layers links OfBodies m → KeepsBefore layers other OfBodies m
  before_any kept OfHeaders lt = kept OfHeaders lt
  before_any kept OfNames lt = kept OfNames lt
  before_any kept OfExpressions lt = kept OfExpressions lt
  before_any kept OfConstants lt = kept OfConstants lt
  before_any kept OfBodies lt = absurd (omega (arith, lt))
  before_any kept OfDependencies lt = absurd (omega (arith, lt))
  before_any kept OfRecipes lt = absurd (omega (arith, lt))
  before_any kept OfAliases lt = absurd (omega (arith, lt))

  earlier_any : (g : Group) → rank g < 5 → KeepsBefore layers links g m → KeepsBefore layers other g m
  earlier_any g small kept OfHeaders lt = kept OfHeaders lt
  earlier_any g small kept OfNames lt = kept OfNames lt
  earlier_any g small kept OfExpressions lt = kept OfExpressions lt
  earlier_any g small kept OfConstants lt = kept OfConstants lt
  earlier_any g small kept OfBodies lt = kept OfBodies lt
  earlier_any g small kept OfDependencies lt = absurd (omega (arith, lt, small))
  earlier_any g small kept OfRecipes lt = absurd (omega (arith, lt, small))
  earlier_any g small kept OfAliases lt = absurd (omega (arith, lt, small))

-- what is broken without links is broken with any
module _ (layers : Layers) (links told : Links) (m : Contents) (c : Cause) where
  nothing_under : (g : Group) → WhereEvaluated (IsEvaluated layers m) (λ (it : Evaluated). no_links layers it g) c → ⊥
  nothing_under g (under is b) = b

  of_group : (g : Group) → KeepsBefore layers no_links g m → Breaks layers no_links g m c → BreaksContents layers links told m c
  of_group OfHeaders earlier b = record { group = OfHeaders; earlier = earlier_any layers no_links links m OfHeaders (omega arith) earlier; broken = b }
  of_group OfNames earlier b = record { group = OfNames; earlier = earlier_any layers no_links links m OfNames (omega arith) earlier; broken = b }
  of_group OfExpressions earlier b = record { group = OfExpressions; earlier = earlier_any layers no_links links m OfExpressions (omega arith) earlier; broken = b }
  of_group OfConstants earlier b = record { group = OfConstants; earlier = earlier_any layers no_links links m OfConstants (omega arith) earlier; broken = b }
  of_group OfBodies earlier b = record { group = OfBodies; earlier = earlier_any layers no_links links m OfBodies (omega arith) earlier; broken = b }
  of_group OfDependencies earlier b = absurd (nothing_under OfDependencies b)
  of_group OfRecipes earlier b = absurd (nothing_under OfRecipes b)
  of_group OfAliases earlier b = absurd (nothing_under OfAliases b)

  pub broken_any : BreaksContents layers no_links no_links m c → BreaksContents layers links told m c
  broken_any b = of_group b.group b.earlier b.broken
