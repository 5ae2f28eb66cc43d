-- One name more of the path of a key.
use Rattle.std.proofs.Common.{◌≡◌, ◌∙◌, ℕ, ◌+◌, ◌<◌, List, [], ◌∷◌, length, drop, get_or, IfSome, Option, None, Some, refl, sym, ap, subst, add-one}
use Rattle.std.proofs.Math.Seq.{drop-cons}
use Rattle.std.specs.Borrow.{Bor}
use Rattle.std.specs.Option.{option_and_then, option_copied, option_or}
use Rattle.just_ast_definitions.specs.declared.alias.Alias.{Alias}
use Rattle.just_graph.proofs.Index.{some_same}
use Rattle.just_justfile.proofs.Leading.{along_walk, end_ordered, named_ordered}
use Rattle.just_justfile.specs.Walks.{AreModulesOrdered, inner_along, module_named}
use Rattle.just_justfile.specs.declared.justfile.Justfile.{Justfile, out-Justfile}
use Rattle.just_names.specs.Texts.{Text}
use Rattle.just_paths.specs.declared.modulepath.Modulepath.{Modulepath}
use Rattle.just_table.specs.Entries.{find}
use Rattle.just_overrides.specs.Reached.{aliased, reached_from, module_step}

-- the names of the modules in one to which names lead rise
along_ordered : (root j : Justfile) (names : List Text) → AreModulesOrdered root → inner_along root names ≡ Some j → AreModulesOrdered j
along_ordered root j [] order e = subst AreModulesOrdered (some_same e) order
along_ordered root j (name ∷ names) order e = end_ordered (name ∷ names) (out-Justfile root).absent_modules (out-Justfile root).modules j order (along_walk root j name names e)

module _ (root : Justfile) (rooted : AreModulesOrdered root) where
  alias_ordered : (k : Justfile) (o : Option (Alias Modulepath)) → option_and_then (λ (alias : Alias Modulepath). inner_along root alias.target.components) o ≡ Some k → AreModulesOrdered k
  alias_ordered k None e = cc
  alias_ordered k (Some alias) e = along_ordered root k alias.target.components rooted e

  by_found : (j k : Justfile) (name : Text) (o : Option Justfile) → AreModulesOrdered j → module_named name (out-Justfile j).modules ≡ o → option_or o (aliased root j name) ≡ Some k → AreModulesOrdered k
  by_found j k name None order f e = alias_ordered k (find name (out-Justfile j).aliases.modules) e
  by_found j k name (Some inner) order f e = subst AreModulesOrdered (some_same e) (named_ordered name (out-Justfile j).modules inner order f)

  -- so do those in one to which a name leads
  pub step_ordered : (j : Justfile) (name : Text) (o : Option (Bor Justfile)) → AreModulesOrdered j → option_copied o ≡ module_step root j name → IfSome o (λ k. AreModulesOrdered k.now)
  step_ordered j name None order e = tt
  step_ordered j name (Some k) order e = by_found j k.now name (module_named name (out-Justfile j).modules) order refl (sym e)

module _ (root : Justfile) where
  -- where names lead on from what was reached
  abbrev pub goes_from : Option Justfile → List Text → Option Justfile
  goes_from found names = option_and_then (λ (next : Justfile). reached_from root next names) found

  pub next_reached : (names : List Text) (at : ℕ) (j : Justfile) (found : Option Justfile) → at < length names → found ≡ module_step root j (get_or names at []) → reached_from root j (drop at names) ≡ goes_from found (drop (at + 1) names)
  next_reached names at j found more e =
      ap (reached_from root j) (drop-cons names at [] more ∙ (λ i. get_or names at [] ∷ drop (sym (add-one at) i) names))
      ∙ ap (λ o. goes_from o (drop (at + 1) names)) (sym e)
