-- Which lines begin a group, one after another, and what is broken by recipes that shells run.
use Rattle.std.proofs.Common.{◌≡◌, ℕ, ◌+◌, ◌<◌, Bool, true, false, ◌||◌, ◌&&◌, not, List, length, Some, None, refl, sym, ap, subst, ◌∙◌, arith, inl, inr}
use Rattle.std.specs.List.{Contains, list_any, slice_get}
use Rattle.std.proofs.lemmas.Bool.{cases_lt, false≢true}
use Rattle.std.proofs.lemmas.List.Folds.{list_any_at}
use Rattle.std.proofs.lemmas.Map.Views.{Contains-from_any}
use Rattle.just_graph.proofs.Index.{some_same}
use Rattle.just_errors.specs.Causes.{Broken, Keeps}
use Rattle.just_errors.specs.declared.compile_error.CompileErrorKind.TheVariants as kind
use Rattle.just_names.specs.Name.{text_of_name}
use Rattle.just_names.specs.Token.{Place, lexeme}
use Rattle.just_ast_expressions.specs.contracts.sigil.SigilPartialEq.TheImpl.{eq-value}
use Rattle.just_ast_definitions.specs.declared.attribute.NamedAttribute.{NamedAttribute}
use Rattle.just_ast_expressions.specs.declared.expression.Expression.{Expression}
use Rattle.just_ast_definitions.specs.declared.line.Line.{Line}
use Rattle.just_ast_expressions.specs.declared.settings.Settings.{Settings}
use Rattle.just_ast_expressions.specs.declared.sigil.Sigil.{Sigil}
use Rattle.just_ast_expressions.specs.declared.sigil.Sigil.TheVariants as sigil
use Rattle.just_parts.specs.Groups.{BeginsGroup, after_comment, after_end, first, front, is_indented, ends_group}
use Rattle.just_recipe.specs.Script.{is_script}
use Rattle.just_parts.specs.Syntax.{SyntaxAnswers}
use Rattle.just_recipe.specs.declared.dependency.UnresolvedDependency.{UnresolvedDependency}
use Rattle.just_recipe.specs.declared.recipe.Recipe.{Recipe}
use Rattle.just_module_contents.specs.Recipes.{name_of_recipe, recipe_at}
use Rattle.just_module_contents.specs.Shells.{BreaksFirstLine, BreaksLines, ScriptAttribute, BreaksShellRecipe, BreaksShells, extra_whitespace, guard_and_infallible, invalid_attribute, is_of_scripts, of_attributes, of_line, of_lines, of_recipe}

-- equal sigils are the same
same_sigil : (a b : Sigil) → eq-value.it b a ≡ true → a ≡ b
same_sigil sigil.Guard sigil.Guard e = refl
same_sigil sigil.Guard sigil.Infallible e = cc
same_sigil sigil.Guard sigil.Quiet e = cc
same_sigil sigil.Infallible sigil.Guard e = cc
same_sigil sigil.Infallible sigil.Infallible e = refl
same_sigil sigil.Infallible sigil.Quiet e = cc
same_sigil sigil.Quiet sigil.Guard e = cc
same_sigil sigil.Quiet sigil.Infallible e = cc
same_sigil sigil.Quiet sigil.Quiet e = refl

equal_sigil : (a : Sigil) → eq-value.it a a ≡ true
equal_sigil sigil.Guard = refl
equal_sigil sigil.Infallible = refl
equal_sigil sigil.Quiet = refl

-- whether a sigil stands among others
abbrev pub stands : List Sigil → Sigil → Bool
stands found s = list_any (λ f. eq-value.it f s) found

pub stands_there : (xs : List Sigil) (s : Sigil) → stands xs s ≡ true → Contains xs s
stands_there xs s e = Contains-from_any {eq = λ a b. eq-value.it b a} same_sigil s xs e

pub stands_not : (xs : List Sigil) (s : Sigil) → stands xs s ≡ false → Contains xs s → ⊥
stands_not xs s e c = false≢true (sym e ∙ list_any_at (λ f. eq-value.it f s) xs c.0 s c.1 (ap (λ f. eq-value.it f s) c.2 ∙ equal_sigil s))

module _ (answers : SyntaxAnswers) (settings : Settings) where
  -- a line that begins with no text, one with both sigils, an indented one, and one that is kept
  pub no_text : (line : Line) → front line.fragments ≡ None → Keeps (BreaksFirstLine answers settings line)
  no_text line none _ (guard_and_infallible at guard infallible) = cc
  no_text line none _ (extra_whitespace at indented) = cc

  pub first_kept : (line : Line) (here : Place) → front line.fragments ≡ Some here → (Contains (answers.sigils line settings) sigil.Guard → Contains (answers.sigils line settings) sigil.Infallible → ⊥)
      → is_indented (lexeme here) ≡ false → Keeps (BreaksFirstLine answers settings line)
  first_kept line here is apart plain _ (guard_and_infallible at guard infallible) = apart guard infallible
  first_kept line here is apart plain _ (extra_whitespace {token} at indented) =
      false≢true (sym plain ∙ ap (λ (t : Place). is_indented (lexeme t)) (some_same (sym is ∙ at)) ∙ indented)

  module _ (body : List Line) (i : ℕ) (l : Line) (at : slice_get body i ≡ Some l) where
    same_line : (k : ℕ) (other : Line) → slice_get body k ≡ Some other → k + 1 ≡ i + 1 → other ≡ l
    same_line k other there e = some_same (sym there ∙ ap (slice_get body) (let same : k ≡ i = omega (arith, e) in same) ∙ at)

    begins_by : (goes ignored comment b : Bool) → answers.is_continuation l ≡ goes → settings.ignore_comments ≡ ignored → answers.is_comment l ≡ comment
        → (b ≡ true → BeginsGroup answers settings body i) → (not goes || (b && (ignored && comment))) ≡ true → BeginsGroup answers settings body (i + 1)
    begins_by false ignored comment b goes ign told begins e = after_end i at goes
    begins_by true true true true goes ign told begins e = after_comment i at (begins refl) ign told
    begins_by true true false true goes ign told begins e = cc
    begins_by true false comment true goes ign told begins e = cc
    begins_by true ignored comment false goes ign told begins e = cc

    -- the next line begins a group
    pub begins_next : (b : Bool) → (b ≡ true → BeginsGroup answers settings body i) → ends_group answers settings l b ≡ true → BeginsGroup answers settings body (i + 1)
    begins_next b begins e = begins_by (answers.is_continuation l) settings.ignore_comments (answers.is_comment l) b refl refl refl begins e

    ends_not : (b c : Bool) → b ≡ true → (not b || c) ≡ false → c ≡ false
    ends_not true c e f = f
    ends_not false c e f = cc

    both_not : (a b c : Bool) → (a && (b && c)) ≡ false → b ≡ true → c ≡ true → a ≡ false
    both_not false b c e f g = refl
    both_not true true true e f g = cc
    both_not true true false e f g = cc
    both_not true false c e f g = cc

    ends_here : (j : ℕ) (b : Bool) → BeginsGroup answers settings body j → j ≡ i + 1 → (b ≡ false → BeginsGroup answers settings body i → ⊥) → ends_group answers settings l b ≡ false → ⊥
    ends_here _ b first e before isnt = absurd (omega (arith, e))
    ends_here _ b (after_end {line} k there stop) e before isnt =
        let goes : answers.is_continuation l ≡ false = ap (λ (x : Line). answers.is_continuation x) (sym (same_line k line there e)) ∙ stop in
        false≢true (sym isnt ∙ ap (λ g. not g || (b && (settings.ignore_comments && answers.is_comment l))) goes)
    ends_here _ b (after_comment {line} k there begins ignored comment) e before isnt =
        let same : k ≡ i = omega (arith, e) in
        let told : answers.is_comment l ≡ true = ap (λ (x : Line). answers.is_comment x) (sym (same_line k line there e)) ∙ comment in
        before (both_not b settings.ignore_comments (answers.is_comment l) (second_of (not (answers.is_continuation l)) _ isnt) ignored told) (subst (BeginsGroup answers settings body) same begins)
      where
        second_of : (a c : Bool) → (a || c) ≡ false → c ≡ false
        second_of true c f = cc
        second_of false c f = f

    -- the next line begins none
    pub goes_on : (b : Bool) → (b ≡ false → BeginsGroup answers settings body i → ⊥) → ends_group answers settings l b ≡ false → BeginsGroup answers settings body (i + 1) → ⊥
    goes_on b before isnt begins = ends_here (i + 1) b begins refl before isnt

  -- the lines so far that begin a group are kept
  abbrev pub FirstsKept : List Line → ℕ → Type 0
  FirstsKept body n = (k : ℕ) (line : Line) → k < n → BeginsGroup answers settings body k → slice_get body k ≡ Some line → Keeps (BreaksFirstLine answers settings line)

  pub firsts_more : (body : List Line) (i : ℕ) (line : Line) → slice_get body i ≡ Some line → (BeginsGroup answers settings body i → Keeps (BreaksFirstLine answers settings line)) → FirstsKept body i → FirstsKept body (i + 1)
  firsts_more body i line at kept before k other h begins there = elim (cases_lt k i) [
    | inl l ↦ before k other l begins there
    | inr l ↦
        let same : k ≡ i = omega (arith, h, l) in
        subst (λ (o : Line). Keeps (BreaksFirstLine answers settings o)) (some_same (sym at ∙ ap (slice_get body) (sym same) ∙ there)) (kept (subst (BeginsGroup answers settings body) same begins))
  ]

  pub lines_kept : (body : List Line) (n : ℕ) → ((k : ℕ) (line : Line) → slice_get body k ≡ Some line → k < n) → FirstsKept body n → Keeps (BreaksLines answers settings body)
  lines_kept body n all kept c (of_line {line} i begins at broken) = kept i line (all i line at) begins at c broken

  -- a recipe that is a script, and one that a shell runs
  pub script_kept : (recipe : Recipe UnresolvedDependency) → is_script recipe settings ≡ true → Keeps (BreaksShellRecipe answers settings recipe)
  script_kept recipe is c (of_lines isnt b) = false≢true (sym isnt ∙ is)
  script_kept recipe is c (of_attributes isnt b) = false≢true (sym isnt ∙ is)

  pub shell_kept : (recipe : Recipe UnresolvedDependency) → Keeps (BreaksLines answers settings recipe.body) → Keeps (ScriptAttribute recipe) → Keeps (BreaksShellRecipe answers settings recipe)
  shell_kept recipe lines attributes c (of_lines isnt b) = lines c b
  shell_kept recipe lines attributes c (of_attributes isnt b) = attributes c b

  pub shells_kept : (recipes : List (Recipe UnresolvedDependency)) → ((k : ℕ) → k < length recipes → Keeps (BreaksShellRecipe answers settings (recipe_at recipes k))) → Keeps (BreaksShells answers settings recipes)
  shells_kept recipes each c (of_recipe i h b) = each i h c b

-- isnt attribute is one of scripts, and one is
pub attributes_kept : (recipe : Recipe UnresolvedDependency) → ((k : ℕ) (named : NamedAttribute Expression) → slice_get recipe.attributes k ≡ Some named → is_of_scripts named.attribute ≡ false) → Keeps (ScriptAttribute recipe)
attributes_kept recipe none _ (invalid_attribute {named} i at is) = false≢true (sym (none i named at) ∙ is)

pub attribute_told : (r : Recipe UnresolvedDependency) (i : ℕ) (named : NamedAttribute Expression) (place : Place) (recipe attribute : List ℕ) → slice_get r.attributes i ≡ Some named → is_of_scripts named.attribute ≡ true
    → place ≡ r.name.token → recipe ≡ name_of_recipe r → attribute ≡ text_of_name named.name → ScriptAttribute r (Broken place (kind.InvalidShellRecipeAttribute recipe attribute))
attribute_told r i named place recipe attribute at is told of said =
    subst (λ p. ScriptAttribute r (Broken p (kind.InvalidShellRecipeAttribute recipe attribute))) (sym told)
    (subst (λ t. ScriptAttribute r (Broken r.name.token (kind.InvalidShellRecipeAttribute t attribute))) (sym of)
    (subst (λ t. ScriptAttribute r (Broken r.name.token (kind.InvalidShellRecipeAttribute (name_of_recipe r) t))) (sym said) (invalid_attribute i at is)))
