-- What a module that is analyzed is linked to, by what its justfile has.
use Rattle.std.proofs.Common.{◌≡◌, Bool, List, ◌++◌, Option, sym, ap, subst}
use Rattle.just_compiler.specs.loops.Parts.{IsAnalyzedFrom, around_by, completion_here, checked_value}
use Rattle.just_module_checks.specs.declared.checks.Checked.{Checked}
use Rattle.just_module_assembly.specs.declared.justfiles.Surroundings.{Surroundings}
use Rattle.just_names.specs.Texts.{Text}
use Rattle.just_ast_expressions.specs.declared.expression.Expression.{Expression}
use Rattle.just_ast_expressions.specs.declared.settings.Settings.{Settings}
use Rattle.just_compiled.specs.Analysis.{completion_in, completion_of}
use Rattle.just_compiled.specs.loops.Analysis.{HasLinks}
use Rattle.just_compiled.specs.Justfiles.{Made}
use Rattle.just_errors.specs.Causes.{Keeps}
use Rattle.just_justfile.specs.declared.justfile.Justfile.{Justfile, out-Justfile}
use Rattle.just_module_contents.specs.Constants.{value_among}
use Rattle.just_module_contents.specs.Contents.{Contents}
use Rattle.just_module_contents.specs.Definitions.{contents_in, recipes_in}
use Rattle.just_module_contents.specs.Kept.{kept_recipes}
use Rattle.just_module_contents.specs.Standing.{AreStanding}
use Rattle.just_module_contents.specs.declared.notes.Notes.{Notes}
use Rattle.just_module_recipes.specs.loops.Broken.{BreaksRecipes}
use Rattle.just_module_recipes.specs.Completing.{Completion}
use Rattle.just_module_recipes.specs.Linked.{AreLinked, HasDisabled, HasNumber}
use Rattle.just_module_recipes.specs.Links.{Around, Disables, Stands, around_recipes}
use Rattle.just_module_recipes.specs.loops.Links.{around_of, links_by}
use Rattle.just_parts.specs.Items.{Ast}
use Rattle.just_module_variables.specs.Constants.{evaluated_in}
use Rattle.just_parts.specs.Layers.{Layers}
use Rattle.just_parts.specs.Needs.{has_number}
use Rattle.just_recipe.specs.declared.dependency.Dependency.{Dependency}
use Rattle.just_recipe.specs.declared.dependency.UnresolvedDependency.{UnresolvedDependency}
use Rattle.just_recipe.specs.declared.recipe.Recipe.{Recipe}

module _ (layers : Layers) (own : Ast) (it : Checked) (about : Surroundings) (before after : Made) (j : Justfile) (is : IsAnalyzedFrom layers own it about before after j) where
  abbrev rs : List (Recipe UnresolvedDependency)
  rs = kept_recipes (recipes_in it.definitions)

  around_is : around_by about before.recipes ≡ around_of j before.recipes
  around_is = λ i. around_recipes (ap (λ (n : Notes). n.absent_modules) (sym is.notes) i) (sym is.modules i) before.recipes

  abbrev value : Expression → Option (List Text)
  value = checked_value layers.evaluator it

  completed_same : completion_here layers.syntax layers.evaluator it ≡ completion_of value layers.syntax j
  completed_same = λ i. completion_in value layers.syntax (sym is.assignments i) (sym is.functions i) (has_number (sym is.own_overrides i)) (sym is.settings i)

  abbrev are_linked : (x : Around) (completed : Completion) (lists : Bool) (all : List (Recipe Dependency)) → Type 0
  are_linked x completed lists all = AreLinked (Stands rs x) (HasNumber rs x) completed lists all rs own.module_path is.linked.linked.added

  abbrev added : List (Recipe Dependency)
  added = is.linked.linked.added

  has_links : HasLinks value layers.syntax rs before.recipes own.module_path added is.standing j
  has_links = record {
    linked = subst (λ (x : Around). are_linked x (completion_of value layers.syntax j) (out-Justfile j).settings.lists (before.recipes ++ added)) around_is
        (subst (λ b. are_linked (around_by about before.recipes) (completion_of value layers.syntax j) b (before.recipes ++ added)) (ap (λ (s : Settings). s.lists) (sym is.settings))
        (subst (λ done. are_linked (around_by about before.recipes) done it.constants.settings.lists (before.recipes ++ added)) completed_same
        (subst (λ all. are_linked (around_by about before.recipes) (completion_here layers.syntax layers.evaluator it) it.constants.settings.lists all) is.linked.linked.appended is.linked.linked.linked)));
    stand = subst (λ (x : Around). AreStanding (Stands rs x) rs is.standing) around_is is.linked.stand;
    disabled = subst (λ (x : Around). HasDisabled (Disables rs x) rs (out-Justfile j).disabled_recipes) around_is is.linked.disabled_are;
  }

  -- so it has these links, of contents that are the same
  pub links_of : (m : Contents) → contents_in it.definitions ≡ m → HasLinks (value_among layers.evaluator m (evaluated_in it.constants).constants) layers.syntax (kept_recipes m.recipes) before.recipes own.module_path added is.standing j
  links_of m same = subst (λ (x : Contents). HasLinks (value_among layers.evaluator x (evaluated_in it.constants).constants) layers.syntax (kept_recipes x.recipes) before.recipes own.module_path added is.standing j) same has_links

  -- and keeps its rules over them
  pub recipes_kept_over : (m : Contents) → contents_in it.definitions ≡ m → Keeps (BreaksRecipes layers (evaluated_in it.constants) (links_by m (around_of j before.recipes)) (links_by m (around_of j before.recipes)) (contents_in it.definitions))
  recipes_kept_over m same =
      subst (λ (x : Contents). Keeps (BreaksRecipes layers (evaluated_in it.constants) (links_by x (around_of j before.recipes)) (links_by x (around_of j before.recipes)) (contents_in it.definitions))) same
      (subst (λ (x : Around). Keeps (BreaksRecipes layers (evaluated_in it.constants) (links_by (contents_in it.definitions) x) (links_by (contents_in it.definitions) x) (contents_in it.definitions))) around_is is.kept)
