-- Paths that differ are told apart by their order.
use Rattle.std.proofs.Common.{◌≡◌, ◌∙◌, ◌++◌, ◌∷◌, [], sym, ap, arith, refl, List, true}
use Rattle.std.specs.BTreeMap.{is_at}
use Rattle.std.specs.BTreeSet.{insert_key}
use Rattle.std.specs.List.{list_any}
use Rattle.std.specs.declared.cmp.Ordering.{Ordering}
use Rattle.std.specs.declared.cmp.Ordering.TheVariants.{Equal}
use Rattle.std.specs.Ordering.{nat_cmp, is_eq}
use Rattle.std.specs.Prelude.{nat_eq}
use Rattle.std.specs.Cmp.Lexicographic.{pointwise, slice_cmp, lists_ties, texts_ties}
use Rattle.std.proofs.lemmas.Slice.Eq.{slice_eq-Decides, bytes_eq-Decides}
use Rattle.std.proofs.lemmas.Map.Views.{Contains-from_any}
use Rattle.just_paths.specs.declared.modulepath.Modulepath.{Modulepath}
use Rattle.just_paths.specs.contracts.modulepath.ModulepathPartialEq.TheImpl as path_eq
use Rattle.just_paths.specs.contracts.modulepath.ModulepathOrd.TheImpl as path_ord
use Rattle.just_module_recipes.specs.loops.Rows.{SameMembers}
use Rattle.just_module_recipes.proofs.SameSets.{put_in, there_already}

abbrev pub path_cmp : Modulepath → Modulepath → Ordering
path_cmp = path_ord.ghosts.cmp

path_same : (a b : Modulepath) → path_eq.ghosts.eq a b ≡ true → a ≡ b
path_same a b h =
    let same = slice_eq-Decides bytes_eq-Decides a.components b.components (pointwise (pointwise nat_eq) a.components b.components) refl in
    grind (arith, same)

path_ties : (a b : Modulepath) → is_eq (path_cmp a b) ≡ path_eq.ghosts.eq a b
path_ties a b =
    let lists = lists_ties (slice_cmp nat_cmp) texts_ties a.components b.components in
    grind (arith, lists)

-- the order tells paths apart that differ
exact : (a b : Modulepath) → path_cmp a b ≡ Equal → a ≡ b
exact a b e = path_same a b (sym (path_ties a b) ∙ ap is_eq e)

pub at_path : (a b : Modulepath) → is_at (path_cmp a) b ≡ true → a ≡ b
at_path a b t = path_same a b (sym (path_ties a b) ∙ t)

-- a path that is found is there already
pub path_found : (ks : List Modulepath) (p : Modulepath) → list_any (is_at (path_cmp p)) ks ≡ true → SameMembers ks (ks ++ p ∷ [])
path_found ks p e = there_already ks p (Contains-from_any {eq = λ a b. is_at (path_cmp a) b} at_path p ks e)

-- a path that is put in is there
pub path_put : (ks next : List Modulepath) (p : Modulepath) → next ≡ insert_key path_cmp ks p → SameMembers next (ks ++ p ∷ [])
path_put ks next p e = put_in path_cmp exact p ks next e
