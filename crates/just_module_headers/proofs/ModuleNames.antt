-- The modules are some of what is defined under names beside recipes, so their names differ where all do.
use Rattle.std.proofs.Common.{◌≡◌, ℕ, zero, suc, ◌<◌, Bool, true, false, List, [], ◌∷◌, ◌++◌, length, get_or, Option, None, Some, inl, inr, refl, sym, subst, ◌∙◌, arith}
use Rattle.std.specs.Prelude.{flat_map, slice_get, if◌then◌else◌}
use Rattle.std.proofs.lemmas.Grind.{flat_map-append}
use Rattle.std.proofs.lemmas.List.{get_or_default}
use Rattle.just_graph.proofs.Members.{In, contained}
use Rattle.just_names.specs.Name.{text_of_name}
use Rattle.just_names.specs.Texts.{Text}
use Rattle.just_names.specs.declared.name.Name.{Name}
use Rattle.just_names.specs.Index.{AreDifferent, texts_of_names}
use Rattle.just_parts.specs.Bare.{bare_item}
use Rattle.just_parts.specs.Items.{Ast, Item}
use Rattle.just_ast_items.specs.declared.item.Item.TheVariants as item
use Rattle.just_module_contents.specs.Contents.{texts_of_named}
use Rattle.just_module_contents.specs.Named.{name_by, naming_by, said_from}
use Rattle.just_module_contents.specs.Said.{said, said_in}
use Rattle.just_module_contents.specs.declared.definitions.Naming.{Naming}
use Rattle.just_module_contents.specs.declared.definitions.Naming.TheVariants as naming

-- the name of a module
abbrev module_in : Naming → List Name
module_in (naming.Alias name) = []
module_in (naming.Module name) = name ∷ []

abbrev modules_in : List Naming → List Name
modules_in ns = flat_map module_in ns

-- no text stands twice, by the front
abbrev Apart : List Text → Type 0
Apart [] = Unit {0}
Apart (t ∷ ts) = (In t ts → ⊥) × Apart ts

are_apart : (ts : List Text) → AreDifferent ts → Apart ts
are_apart [] different = tt
are_apart (t ∷ ts) different = (
  λ h. let c = contained t ts h in different 0 (suc c.0) (omega arith) (omega (arith, c.1)) (sym (get_or_default ts c.0 [] t c.1 ∙ c.2)),
  are_apart ts (λ i j l h e. different (suc i) (suc j) (omega (arith, l)) (omega (arith, h)) e),
)

at_place : (ts : List Text) (j : ℕ) → j < length ts → In (get_or ts j []) ts
at_place [] j h = absurd (omega (arith, h))
at_place (t ∷ ts) zero h = inl refl
at_place (t ∷ ts) (suc j) h = inr (at_place ts j (omega (arith, h)))

are_different : (ts : List Text) → Apart ts → AreDifferent ts
are_different [] apart i j l h e = absurd (omega (arith, h))
are_different (t ∷ ts) apart i zero l h e = absurd (omega (arith, l))
are_different (t ∷ ts) apart zero (suc j) l h e = apart.0 (subst (λ u. In u ts) (sym e) (at_place ts j (omega (arith, h))))
are_different (t ∷ ts) apart (suc i) (suc j) l h e = are_different ts apart.1 i j (omega (arith, l)) (omega (arith, h)) e

-- the name of a module is a name
module_named : (t : Text) (ns : List Naming) → In t (texts_of_names (modules_in ns)) → In t (texts_of_named ns)
module_named t [] h = h
module_named t (naming.Alias n ∷ ns) h = inr (module_named t ns h)
module_named t (naming.Module n ∷ ns) (inl e) = inl e
module_named t (naming.Module n ∷ ns) (inr h) = inr (module_named t ns h)

modules_apart : (ns : List Naming) → Apart (texts_of_named ns) → Apart (texts_of_names (modules_in ns))
modules_apart [] apart = tt
modules_apart (naming.Alias n ∷ ns) apart = modules_apart ns apart.1
modules_apart (naming.Module n ∷ ns) apart = (λ h. apart.0 (module_named (text_of_name n) ns h), modules_apart ns apart.1)

-- what items say
name_is : (i : Item) → modules_in (naming_by i) ≡ name_by i
name_is (item.Module name relative None attributes doc optional) = refl
name_is (item.Module name relative (Some file) attributes doc optional) = refl
name_is (item.Alias alias) = refl
name_is _ = refl

module _ (enabled : Item → Bool) where
  one_name : (b : Bool) (i : Item) → modules_in (if b then naming_by i else []) ≡ (if b then name_by i else [])
  one_name true i = name_is i
  one_name false i = refl

  names_said : (items : List Item) → modules_in (said naming_by enabled items) ≡ said name_by enabled items
  names_said [] = refl
  names_said (i ∷ items) =
      flat_map-append module_in (if enabled (bare_item i) then naming_by i else []) (said naming_by enabled items)
      ∙ (λ j. one_name (enabled (bare_item i)) i j ++ names_said items j)

  names_in : (ast : Option Ast) → modules_in (said_in naming_by enabled ast) ≡ said_in name_by enabled ast
  names_in None = refl
  names_in (Some ast) = names_said ast.items

  names_from : (asts : List Ast) (files : List ℕ) → modules_in (said_from naming_by enabled asts files) ≡ said_from name_by enabled asts files
  names_from asts [] = refl
  names_from asts (p ∷ files) =
      flat_map-append module_in (said_in naming_by enabled (slice_get asts p)) (said_from naming_by enabled asts files)
      ∙ (λ j. names_in (slice_get asts p) j ++ names_from asts files j)

  pub modules_different : (asts : List Ast) (files : List ℕ) → AreDifferent (texts_of_named (said_from naming_by enabled asts files)) → AreDifferent (texts_of_names (said_from name_by enabled asts files))
  modules_different asts files different =
      let ns = said_from naming_by enabled asts files in
      subst (λ (ms : List Name). AreDifferent (texts_of_names ms)) (names_from asts files) (are_different (texts_of_names (modules_in ns)) (modules_apart ns (are_apart (texts_of_named ns) different)))
