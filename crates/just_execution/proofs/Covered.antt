-- What is bound in the scope of a recipe's module covers what is asked of it.
use Rattle.std.proofs.Common.{◌≡◌, Bool, true, false, ◌||◌, List, [], ◌∷◌, ◌++◌, map, Option, Some, None, refl, sym, ◌∙◌, ap, subst}
use Rattle.std.specs.Prelude.{IfSome, flat_map, option_to_list}
use Rattle.std.specs.List.{All, list_any}
use Rattle.std.specs.Str.{bytes_eq}
use Rattle.std.proofs.lemmas.List.Elements.{All-append, All-cons, All-head, All-nil, All-tail, All-weaker}
use Rattle.std.proofs.lemmas.List.Folds.{list_any-append}
use Rattle.just_names.specs.Name.{text_of_name}
use Rattle.just_names.specs.Texts.{Text}
use Rattle.just_ast_expressions.specs.declared.expression.Expression.{Expression}
use Rattle.just_ast_expressions.specs.declared.scope.Scope.{Scope}
use Rattle.just_ast_definitions.specs.declared.parameter.Parameter.{Parameter}
use Rattle.just_parts.specs.Known.{Known, none_hidden}
use Rattle.just_parts.specs.Scopes.{Scoped, attribute_expressions, compiled_expressions, environment_expressions, inner_expressions, is_parameter, line_expressions, lines_read, in_attributes, parameter_scopes, scoped, scopes_of}
use Rattle.just_parts.specs.Syntax.{SyntaxAnswers}
use Rattle.just_recipe.specs.Grouping.{concatenated}
use Rattle.just_recipe.specs.declared.dependency.Dependency.{Dependency}
use Rattle.just_recipe.specs.declared.dependency.DependencyArgument.{DependencyArgument}
use Rattle.just_recipe.specs.declared.recipe.Recipe.{Recipe}
use Rattle.just_run_layers.specs.Covering.{AreParametersCovered, BindsParameters, BindsRead, IsCovered, hidden_after, module_of}
use Rattle.just_run_layers.specs.declared.held.Held.{Held}
use Rattle.just_recipe_body.specs.Covering.{IsBodyCovered}
use Rattle.just_recipe_body.proofs.AllLemmas.{all-left, all-right}
use Rattle.just_execution.specs.loops.Arguments.{IsGivenIn, IsReadableArgument}
use Rattle.just_tasks.specs.Homes.{IsBound, IsRead}
use Rattle.just_recipe.specs.Recipes.{arguments_of}
use Rattle.just_execution.specs.loops.Homes.{ServesIn}
use Rattle.just_tasks.specs.declared.scopes.ModuleScope.{ModuleScope}
use Rattle.just_tasks.proofs.Places.{All-unmap}

-- what holds of each element of several lists
All-parts : {X Y : Type 0} (P : X → Type 0) (f : Y → List X) (ys : List Y) → All P (flat_map f ys) → All (λ y. All P (f y)) ys
All-parts P f [] h = All-nil (λ y. All P (f y))
All-parts P f (y ∷ ys) h = All-cons (λ y. All P (f y)) y ys (all-left P (f y) (flat_map f ys) h) (All-parts P f ys (all-right P (f y) (flat_map f ys) h))

All-joined : {X : Type 0} (P : X → Type 0) (groups : List (List X)) → All P (concatenated groups) → All (All P) groups
All-joined P [] h = All-nil (All P)
All-joined P (g ∷ groups) h = All-cons (All P) g groups (all-left P g (concatenated groups) h) (All-joined P groups (all-right P g (concatenated groups) h))

-- the names that are hidden after one more parameter
hidden-more : (before : List Parameter) (p : Parameter) → hidden_after (is_parameter before) p ≡ is_parameter (before ++ p ∷ [])
hidden-more before p = λ i name. (ap (λ b. list_any (λ (p : Parameter). bytes_eq (text_of_name p.name) name) before || b) (or-false (bytes_eq (text_of_name p.name) name))
    ∙ sym (list_any-append (λ (p : Parameter). bytes_eq (text_of_name p.name) name) before (p ∷ []))) i where
      or-false : (b : Bool) → b ≡ (b || false)
      or-false true = refl
      or-false false = refl

-- what the defaults and the values of parameters read is bound
module _ (m : Known) (scope : Scope) where
  one-covered : (hidden : Text → Bool) (o : Option Expression) (rest : List Expression) → All (IsRead m scope) (map (scoped hidden) (option_to_list o ++ rest)) → IfSome o (BindsRead m hidden scope)
  one-covered hidden None rest h = tt
  one-covered hidden (Some e) rest h = All-head (IsRead m scope) (scoped hidden e) (map (scoped hidden) rest) h

  rest-covered : (hidden : Text → Bool) (o : Option Expression) (rest : List Expression) → All (IsRead m scope) (map (scoped hidden) (option_to_list o ++ rest)) → All (IsRead m scope) (map (scoped hidden) rest)
  rest-covered hidden None rest h = h
  rest-covered hidden (Some e) rest h = All-tail (IsRead m scope) (scoped hidden e) (map (scoped hidden) rest) h

  last-covered : (hidden : Text → Bool) (o : Option Expression) → All (IsRead m scope) (map (scoped hidden) (option_to_list o)) → IfSome o (BindsRead m hidden scope)
  last-covered hidden None h = tt
  last-covered hidden (Some e) h = All-head (IsRead m scope) (scoped hidden e) [] h

  covered-after : (before ps : List Parameter) → All (IsRead m scope) (parameter_scopes before ps) → AreParametersCovered m scope (is_parameter before) ps
  covered-after before [] h = tt
  covered-after before (p ∷ ps) h =
      let own : List Scoped = map (scoped (is_parameter before)) (option_to_list p.default ++ option_to_list p.value) in
      let here : All (IsRead m scope) own = all-left (IsRead m scope) own (parameter_scopes (before ++ p ∷ []) ps) h in (
        one-covered (is_parameter before) p.default (option_to_list p.value) here,
        (
          last-covered (is_parameter before) p.value (rest-covered (is_parameter before) p.default (option_to_list p.value) here),
          subst (λ hidden. AreParametersCovered m scope hidden ps) (sym (hidden-more before p)) (covered-after (before ++ p ∷ []) ps (all-right (IsRead m scope) own (parameter_scopes (before ++ p ∷ []) ps) h)),
        ),
      )

-- of a recipe that has its module's scope
module _ (answers : SyntaxAnswers) (m : ModuleScope) (r : Recipe Dependency) where
  abbrev compiled : List Scoped
  compiled = map (scoped none_hidden) (in_attributes compiled_expressions r ++ in_attributes environment_expressions r)

  abbrev inner : List Scoped
  inner = map (scoped (is_parameter r.parameters)) (inner_expressions arguments_of answers m.context.settings.now r)

  pub parameters-covered : IsBound answers m r m.scope → AreParametersCovered (module_of m.context) m.scope none_hidden r.parameters
  parameters-covered bound =
      let read = IsRead (module_of m.context) m.scope in
      covered-after (module_of m.context) m.scope [] r.parameters (all-left read (parameter_scopes [] r.parameters) inner (all-right read compiled (parameter_scopes [] r.parameters ++ inner) bound))

  -- what its parameters come to serves it
  or-true : (a b : Bool) → b ≡ true → (a || b) ≡ true
  or-true true b e = refl
  or-true false b e = e

  still-read : (h : Held) → BindsParameters r.parameters m.scope h.scope → (s : Scoped) → IsRead (module_of m.context) m.scope s → IsRead (module_of m.context) h.scope s
  still-read h binds s reads = λ name a read found. binds.exactly a.number ∙ or-true _ _ (reads name a read found)

  pub held-serves : (h : Held) → IsBound answers m r m.scope → BindsParameters r.parameters m.scope h.scope → ServesIn answers m r h
  held-serves h bound binds = record {
    bound = All-weaker (IsRead (module_of m.context) m.scope) (IsRead (module_of m.context) h.scope) (still-read h binds) (scopes_of arguments_of answers m.context.settings.now r) bound;
    named = binds.named;
  }

  -- and covers the arguments of its dependencies
  module _ (h : Held) (serves : ServesIn answers m r h) where
    abbrev read : Scoped → Type 0
    read = IsRead (module_of m.context) h.scope

    covered-by : (e : Expression) → read (scoped (is_parameter r.parameters) e) → IsCovered (module_of m.context) h.scope e
    covered-by e reads = record { hidden = is_parameter r.parameters; bound = serves.named; covers = reads }

    abbrev lines_of : List Expression
    lines_of = flat_map line_expressions (lines_read answers m.context.settings.now r)

    abbrev given_by : Dependency → List Expression
    given_by d = map (λ (a : DependencyArgument). a.expression) (arguments_of d)

    inner-read : All (λ (e : Expression). read (scoped (is_parameter r.parameters) e)) (inner_expressions arguments_of answers m.context.settings.now r)
    inner-read = All-unmap read (scoped (is_parameter r.parameters)) (inner_expressions arguments_of answers m.context.settings.now r)
        (all-right read (parameter_scopes [] r.parameters) inner (all-right read compiled (parameter_scopes [] r.parameters ++ inner) serves.bound))

    abbrev reads_in : Expression → Type 0
    reads_in e = read (scoped (is_parameter r.parameters) e)

    one-given : (d : Dependency) → All reads_in (given_by d) → IsGivenIn (module_of m.context) h.scope d
    one-given d reads =
        All-joined (IsReadableArgument (module_of m.context) h.scope) d.arguments
        (All-weaker (λ (a : DependencyArgument). reads_in a.expression) (IsReadableArgument (module_of m.context) h.scope) (λ a q. covered-by a.expression q) (arguments_of d)
        (All-unmap reads_in (λ (a : DependencyArgument). a.expression) (arguments_of d) reads))

    pub arguments-given : All (IsGivenIn (module_of m.context) h.scope) r.dependencies
    arguments-given =
        All-weaker (λ (d : Dependency). All reads_in (given_by d)) (IsGivenIn (module_of m.context) h.scope) one-given r.dependencies
        (All-parts reads_in given_by r.dependencies (all-right reads_in lines_of (flat_map given_by r.dependencies)
        (all-right reads_in (in_attributes attribute_expressions r) (lines_of ++ flat_map given_by r.dependencies) inner-read)))

    -- and what its body reads
    pub body-covered : IsBodyCovered answers m.context.settings.now (module_of m.context) h.scope r
    body-covered =
        let attributes : List Expression = in_attributes attribute_expressions r in
        let given : List Expression = flat_map given_by r.dependencies in
        All-weaker reads_in (IsCovered (module_of m.context) h.scope) covered-by (attributes ++ lines_of)
        (All-append reads_in attributes lines_of (all-left reads_in attributes (lines_of ++ given) inner-read) (all-left reads_in lines_of given (all-right reads_in attributes (lines_of ++ given) inner-read)))
