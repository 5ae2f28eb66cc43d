-- What a module's recipes are linked to over the compiled modules is what they are linked to in the tree, and stays so.
use Rattle.std.proofs.Common.{◌≡◌, ℕ, Bool, List, [], ◌∷◌, ◌++◌, Option, sym, subst}
use Rattle.std.specs.List.{AllZip}
use Rattle.std.proofs.lemmas.Grind.{flat_map-append}
use Rattle.just_graph.proofs.Members.{contained, in_left, is_in}
use Rattle.just_justfile.specs.declared.justfile.Justfile.{Justfile, out-Justfile}
use Rattle.just_module_contents.specs.Recipes.{name_of_recipe, recipe_at}
use Rattle.just_module_contents.specs.Resolved.{number_at}
use Rattle.just_module_contents.specs.Standing.{AreStanding}
use Rattle.just_ast_expressions.specs.declared.expression.Expression.{Expression}
use Rattle.just_module_recipes.specs.Completing.{completion}
use Rattle.just_module_recipes.specs.Linked.{AreLinked, HasDisabled, HasNumber, IsLinked, IsMadeAt, IsMadeOf}
use Rattle.just_module_recipes.specs.Links.{Around, Disables, Stands}
use Rattle.just_module_recipes.specs.loops.Links.{around_of}
use Rattle.just_module_tree.specs.Modules.{Forest, Module, path_of}
use Rattle.just_module_tree.specs.Standing.{DisabledBy, StandsInTree}
use Rattle.just_names.specs.Texts.{Text}
use Rattle.just_names.specs.declared.name.Namepath.{Namepath}
use Rattle.just_names.specs.declared.number.Number.{Number}
use Rattle.just_parts.specs.Asts.{AstKey}
use Rattle.just_parts.specs.Items.{Ast}
use Rattle.just_parts.specs.Layers.{Given}
use Rattle.just_paths.specs.declared.modulepath.Modulepath.{Modulepath}
use Rattle.just_recipe.specs.declared.dependency.Dependency.{Dependency}
use Rattle.just_recipe.specs.declared.dependency.UnresolvedDependency.{UnresolvedDependency}
use Rattle.just_recipe.specs.declared.recipe.Recipe.{Recipe}
use Rattle.just_compiled.specs.Analysis.{completion_of}
use Rattle.just_compiled.specs.loops.Analysis.{HasLinks}
use Rattle.just_compiled.specs.Justfiles.{AreCompiled, Built, HasNumberIn, IsCompiled, Made, kept_by, none, one, recipes_of_all, value_by}
use Rattle.just_compiled.proofs.Agreeing.{Meets}
use Rattle.just_compiled.proofs.Bridges.{found_more, from_tree, number_on, stands_back, stands_on, to_tree}
use Rattle.just_compiled.proofs.StandingRecipes.{has_disabled_same, standing_same}

module _ (S T : Text → Type 0) (on : (name : Text) → S name → T name) (back : (name : Text) → T name → S name) (M N : Namepath → Number → Type 0) (numbers : (path : Namepath) (n : Number) → M path n → N path n) (by : Recipe UnresolvedDependency → Recipe UnresolvedDependency) (Needs Needs-2 : Recipe UnresolvedDependency → List Number → Type 0) (needs : (r : Recipe UnresolvedDependency) (ns : List Number) → Needs r ns → Needs-2 r ns) (lists : Bool)
    (all more : List (Recipe Dependency)) where
  linked_one : (d : UnresolvedDependency) (made : Dependency) → IsLinked S M (completion by Needs) lists all d made → IsLinked T N (completion by Needs-2) lists (all ++ more) d made
  linked_one d made is = record {
    path = is.path;
    number = numbers d.recipe made.recipe is.number;
    target = is.target;
    held = found_more all more made.recipe.0 is.target is.held;
    arguments = is.arguments;
    whole = is.whole;
  }

  linked_each : (ds : List UnresolvedDependency) (made : List Dependency) → AllZip (IsLinked S M (completion by Needs) lists all) ds made → AllZip (IsLinked T N (completion by Needs-2) lists (all ++ more)) ds made
  linked_each [] [] a = tt
  linked_each [] (x ∷ made) a = absurd a
  linked_each (d ∷ ds) [] a = absurd a
  linked_each (d ∷ ds) (x ∷ made) a = (linked_one d x a.0, linked_each ds made a.1)

  made_of : (path : Modulepath) (source : Recipe UnresolvedDependency) (made : Recipe Dependency) → IsMadeOf S M (completion by Needs) lists all path source made → IsMadeOf T N (completion by Needs-2) lists (all ++ more) path source made
  made_of path source made is = record { resolved = is.resolved; references = needs source made.variable_references is.references; dependencies = linked_each (by source).dependencies made.dependencies is.dependencies }

  module _ (recipes : List (Recipe UnresolvedDependency)) (path : Modulepath) where
    made_at : (i : ℕ) (made : Recipe Dependency) → IsMadeAt S M (completion by Needs) lists all recipes path i made → IsMadeAt T N (completion by Needs-2) lists (all ++ more) recipes path i made
    made_at i made is = record { there = is.there; stands = on (name_of_recipe (recipe_at recipes i)) is.stands; made_of = made_of path (recipe_at recipes i) made is.made_of }

    -- where the same recipes stand, what is linked stays so, with more recipes behind
    pub linked_same : (added : List (Recipe Dependency)) → AreLinked S M (completion by Needs) lists all recipes path added → AreLinked T N (completion by Needs-2) lists (all ++ more) recipes path added
    linked_same added linked = record {
      each = λ i there stands. let x = linked.each i there (back (name_of_recipe (recipe_at recipes i)) stands) in (x.0, found_more all more (number_at recipes i) x.0 x.1, made_at i x.0 x.2);
      only = λ made c. let x = linked.only made c in (x.0, made_at x.0 made x.1);
      resolved = linked.resolved;
    }

module _ (given : Given) (asts : AstKey → Option Ast) (loaded : List Text) (built more : List Built) where
  recipes_more : recipes_of_all (built ++ more) ≡ recipes_of_all built ++ recipes_of_all more
  recipes_more = flat_map-append (λ (b : Built). b.1.recipes) built more

  is_later : (m : Module) (inside : Forest) (inner : List Justfile) (made : Made) (j : Justfile) → IsCompiled given asts loaded (recipes_of_all built) m inside inner made j → IsCompiled given asts loaded (recipes_of_all (built ++ more)) m inside inner made j
  is_later m inside inner made j is = let value = value_by given asts m is.evaluated.it in record {
    own = is.own;
    own_said = is.own_said;
    own_there = is.own_there;
    name = is.name;
    path = is.path;
    linked = subst (λ all. AreLinked (StandsInTree m inside) (HasNumberIn given asts m inside) (completion_of value given.syntax j) (out-Justfile j).settings.lists all (kept_by given asts m) (path_of m) made.recipes) (sym recipes_more)
        (linked_same (StandsInTree m inside) (StandsInTree m inside) (λ name s. s) (λ name s. s) (HasNumberIn given asts m inside) (HasNumberIn given asts m inside) (λ path n h. h) (completion_of value given.syntax j).by (completion_of value given.syntax j).Needs (completion_of value given.syntax j).Needs (λ r ns needs. needs) (out-Justfile j).settings.lists (recipes_of_all built) (recipes_of_all more) (kept_by given asts m) (path_of m) made.recipes is.linked);
    standing = is.standing;
    stand = is.stand;
    disabled = is.disabled;
    evaluated = is.evaluated;
    variables = is.variables;
    tables = is.tables;
    default = is.default;
    fields = is.fields;
    notes = is.notes;
    modules = is.modules;
    different = is.different;
  }

  -- what is compiled stays so when more is built
  pub compiled_later : {f : Forest} {js : List Justfile} → AreCompiled given asts loaded built f js → AreCompiled given asts loaded (built ++ more) f js
  compiled_later none = none
  compiled_later (one {m} {inside} {after} {inner} {js} {j} made there below is aliased rest) =
      one made (contained (m.heading.key, made) (built ++ more) (in_left (m.heading.key, made) built more (is_in (m.heading.key, made) built there))) (compiled_later below) (is_later m inside inner made j is) aliased (compiled_later rest)

-- What a module's recipes are linked to, of all recipes, as the tree has it.
pub record HasLinksIn (value : Expression → Option (List Text)) (given : Given) (asts : AstKey → Option Ast) (all : List (Recipe Dependency)) (m : Module) (inside : Forest) (path : Modulepath) (added : List (Recipe Dependency)) (standing : List (Recipe UnresolvedDependency)) (j : Justfile) : Type 0 where
  pub linked : AreLinked (StandsInTree m inside) (HasNumberIn given asts m inside) (completion_of value given.syntax j) (out-Justfile j).settings.lists all (kept_by given asts m) path added
  pub stand : AreStanding (StandsInTree m inside) (kept_by given asts m) standing
  pub disabled : HasDisabled (DisabledBy m inside) (kept_by given asts m) (out-Justfile j).disabled_recipes

-- what a justfile is linked to over the modules that it has is what its module is linked to in the tree
module _ (given : Given) (asts : AstKey → Option Ast) (loaded : List Text) (built : List Built) (m : Module) (inside : Forest) (before : List (Recipe Dependency)) (j : Justfile) (meets : Meets given asts loaded built m inside (around_of j before)) where
  abbrev it : Around
  it = around_of j before

  disabled_on : (name : Text) (path : Modulepath) → Disables (kept_by given asts m) it name path → DisabledBy m inside name path
  disabled_on name path d = to_tree given asts loaded built m inside it meets d

  disabled_back : (name : Text) (path : Modulepath) → DisabledBy m inside name path → Disables (kept_by given asts m) it name path
  disabled_back name path d = from_tree given asts loaded built d it meets

  -- so what its recipes are linked to over them is what they are linked to in the tree
  pub has_links : (value : Expression → Option (List Text)) (all rest : List (Recipe Dependency)) (path : Modulepath) (added : List (Recipe Dependency)) (standing : List (Recipe UnresolvedDependency)) → all ≡ (before ++ added) ++ rest → HasLinks value given.syntax (kept_by given asts m) before path added standing j
      → HasLinksIn value given asts all m inside path added standing j
  has_links value all rest path added standing all_is links =
      let on = stands_on given asts loaded built m inside it meets in
      let back = stands_back given asts loaded built m inside it meets in
      let linked = linked_same (Stands (kept_by given asts m) it) (StandsInTree m inside) on back (HasNumber (kept_by given asts m) it) (HasNumberIn given asts m inside) (number_on given asts loaded built m inside it meets)
      (completion_of value given.syntax j).by (completion_of value given.syntax j).Needs (completion_of value given.syntax j).Needs (λ r ns needs. needs) (out-Justfile j).settings.lists
      (before ++ added) rest (kept_by given asts m) path added links.linked in
      record {
        linked = subst (λ rs. AreLinked (StandsInTree m inside) (HasNumberIn given asts m inside) (completion_of value given.syntax j) (out-Justfile j).settings.lists rs (kept_by given asts m) path added) (sym all_is) linked;
        stand = standing_same (Stands (kept_by given asts m) it) (StandsInTree m inside) on back links.stand;
        disabled = has_disabled_same (Disables (kept_by given asts m) it) (DisabledBy m inside) disabled_on disabled_back (kept_by given asts m) (out-Justfile j).disabled_recipes links.disabled;
      }
