-- A module of the tree says what its files say.
use Rattle.std.proofs.Common.{◌≡◌, ◌∙◌, Bool, List, [], ◌∷◌, ◌++◌, map, Option, None, Some, refl, sym, ap}
use Rattle.std.specs.Prelude.{flat_map, true, false}
use Rattle.std.specs.Option.{option_map}
use Rattle.std.proofs.lemmas.Grind.{flat_map-append}
use Rattle.std.proofs.lemmas.List.{map-append, map-id}
use Rattle.just_ast_items.specs.declared.item.Item.TheVariants as item
use Rattle.just_module_contents.specs.Known.{functions_under, known_of, variables_under}
use Rattle.just_module_contents.specs.Named.{alias_by, function_by, variable_by}
use Rattle.just_module_contents.specs.Notes.{absent_by}
use Rattle.just_module_contents.specs.Recipes.{recipes_of, recipes_said}
use Rattle.just_module_contents.specs.Said.{said_in}
use Rattle.just_module_headers.proofs.Alike.{AreAlike, kept_alike_recipes, outline_of, outlines_of}
use Rattle.just_module_headers.specs.Reading.{Reading, enabled_items, items_in, located_ast, reading_of}
use Rattle.just_module_tree.proofs.ModulePlaces.{nobody}
use Rattle.just_module_tree.proofs.Ready.{alias_located, function_located, recipes_counted, said_append, said_counted, variable_located}
use Rattle.just_module_tree.specs.Modules.{AreModules, Forest, HasModule, Heading, IsModule, Module, a_module, after_it, contents_of, first, in_it, items_of, no_module}
use Rattle.just_module_tree.specs.Standing.{absent_in, kept_in}
use Rattle.just_parts.specs.Asts.{AstKey}
use Rattle.just_parts.specs.Bare.{bare_function}
use Rattle.just_parts.specs.Items.{Ast, Item}
use Rattle.just_parts.specs.Layers.{Given}
use Rattle.just_parts.specs.Known.{known}
use Rattle.just_parts.specs.Located.{located_assignment, located_item}
use Rattle.just_parts.specs.Syntax.{SyntaxAnswers}
use Rattle.just_compiled.specs.Justfiles.{contents_read, kept_by, recipes_in_files}

-- The recipes of a module that are kept are alike those that its files keep, its absent modules and its aliases are those of its files, and names stand for the same.
pub record Says (given : Given) (asts : AstKey → Option Ast) (m : Module) : Type 0 where
  pub kept : AreAlike (kept_by given asts m) (kept_in m)
  pub absent : flat_map (λ k. said_in absent_by given.syntax.enabled (asts k)) m.files ≡ absent_in m
  pub aliases : flat_map (λ k. said_in alias_by given.syntax.enabled (asts k)) m.files ≡ (contents_of m).aliases
  pub known : (answers : SyntaxAnswers) → known_of answers (contents_read given.syntax.enabled asts m.files) ≡ known_of answers (contents_of m)

absent_located : (i : Item) → absent_by (located_item i) ≡ absent_by i
absent_located (item.Module name relative None attributes doc true) = refl
absent_located (item.Module name relative None attributes doc false) = refl
absent_located (item.Module name relative (Some file) attributes doc optional) = refl
absent_located _ = refl

module _ (given : Given) (asts : AstKey → Option Ast) where
  abbrev enabled : Item → Bool
  enabled = given.syntax.enabled

  abbrev R : Reading
  R = reading_of enabled asts

  -- what files say item by item, where their locations do not matter to what is taken of it
  module _ {A B : Type 0} (by : Item → List A) (f : A → B) (same : (i : Item) → map f (by (located_item i)) ≡ map f (by i)) where
    said_here : (o : Option Ast) (a : Ast) → Some a ≡ option_map (located_ast enabled) o → map f (said_in by enabled o) ≡ map f (flat_map by a.items)
    said_here None a e = cc
    said_here (Some ast) a e =
        let items : a.items ≡ map located_item (enabled_items enabled ast.items) = let same : a ≡ located_ast enabled ast = cc in ap (λ (x : Ast). x.items) same in
        sym (said_counted by f same enabled ast.items) ∙ ap (λ is. map f (flat_map by is)) (sym items)

    all_said : (ks : List AstKey) (said : List Ast) → map Some said ≡ map R ks → map f (flat_map (λ k. said_in by enabled (asts k)) ks) ≡ map f (flat_map by (items_of said))
    all_said [] [] e = refl
    all_said [] (a ∷ said) e = cc
    all_said (k ∷ ks) [] e = cc
    all_said (k ∷ ks) (a ∷ said) e =
        let head : Some a ≡ option_map (located_ast enabled) (asts k) = cc in
        let rest : map Some said ≡ map R ks = cc in
        map-append f (said_in by enabled (asts k)) (flat_map (λ k. said_in by enabled (asts k)) ks)
        ∙ (λ i. said_here (asts k) a head i ++ all_said ks said rest i)
        ∙ sym (ap (map f) (flat_map-append by a.items (items_of said)) ∙ map-append f (flat_map by a.items) (flat_map by (items_of said)))

  -- so it is said as it is where they do not matter at all
  said_as_is : {A : Type 0} (by : Item → List A) → ((i : Item) → by (located_item i) ≡ by i) → (ks : List AstKey) (said : List Ast) → map Some said ≡ map R ks
      → flat_map (λ k. said_in by enabled (asts k)) ks ≡ flat_map by (items_of said)
  said_as_is by same ks said e =
      sym (map-id (flat_map (λ k. said_in by enabled (asts k)) ks)) ∙ all_said by (λ t. t) (λ i. ap (map (λ t. t)) (same i)) ks said e ∙ map-id (flat_map by (items_of said))

  recipes_here : (o : Option Ast) (a : Ast) → Some a ≡ option_map (located_ast enabled) o → AreAlike (recipes_of enabled (items_in o)) (recipes_said a.items)
  recipes_here None a e = cc
  recipes_here (Some ast) a e =
      let items : a.items ≡ map located_item (enabled_items enabled ast.items) = let same : a ≡ located_ast enabled ast = cc in ap (λ (x : Ast). x.items) same in
      recipes_counted enabled ast.items ∙ ap (λ is. outlines_of (recipes_said is)) (sym items)

  recipes_all : (ks : List AstKey) (said : List Ast) → map Some said ≡ map R ks → AreAlike (recipes_in_files enabled asts ks) (recipes_said (items_of said))
  recipes_all [] [] e = refl
  recipes_all [] (a ∷ said) e = cc
  recipes_all (k ∷ ks) [] e = cc
  recipes_all (k ∷ ks) (a ∷ said) e =
      let head : Some a ≡ option_map (located_ast enabled) (asts k) = cc in
      let rest : map Some said ≡ map R ks = cc in
      map-append outline_of (recipes_of enabled (items_in (asts k))) (recipes_in_files enabled asts ks)
      ∙ (λ i. recipes_here (asts k) a head i ++ recipes_all ks said rest i)
      ∙ sym (ap outlines_of (said_append enabled a.items (items_of said)) ∙ map-append outline_of (recipes_said a.items) (recipes_said (items_of said)))

  -- a module that is read says what its files say
  pub module_says : (h : Heading) (m : Module) → IsModule R h m → Says given asts m
  module_says h m is = record {
    kept = kept_alike_recipes (recipes_in_files enabled asts m.files) (contents_of m).recipes (recipes_all m.files m.asts is.asts);
    absent = said_as_is absent_by absent_located m.files m.asts is.asts;
    aliases = said_as_is alias_by alias_located m.files m.asts is.asts;
    known = λ answers i. known answers (variables_under (all_said variable_by located_assignment variable_located m.files m.asts is.asts i))
        (functions_under (all_said function_by bare_function function_located m.files m.asts is.asts i));
  }

  -- so does each of a forest
  pub forest_says : {hs : List Heading} {f : Forest} → AreModules R hs f → (n : Module) (below : Forest) → HasModule f n below → Says given asts n
  forest_says no_module n below has = absurd (nobody has refl)
  forest_says (a_module {h} {hs} {m} is inside after) n below first = module_says h m is
  forest_says (a_module is inside after) n below (in_it has) = forest_says inside n below has
  forest_says (a_module is inside after) n below (after_it has) = forest_says after n below has
