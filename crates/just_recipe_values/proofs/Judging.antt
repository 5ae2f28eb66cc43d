-- What is found out of lists of expressions and patterns, list after list.
use Rattle.std.proofs.Common.{◌≡◌, List, [], ◌∷◌, ◌++◌, Option, None, Some, ap, refl, subst, sym, inl, inr, arith}
use Rattle.std.specs.List.{Contains}
use Rattle.std.specs.Option.{IsSome, is_some, option_to_list}
use Rattle.std.proofs.lemmas.List.Elements.{Contains-append_cases, Contains-append_left, Contains-append_right, Contains-push}
use Rattle.just_errors.specs.Causes.{Broken, Cause, Keeps, Reports}
use Rattle.just_errors.specs.declared.compile_error.CompileErrorKind.TheVariants as kind
use Rattle.just_errors.specs.declared.error.Error.{Error}
use Rattle.just_errors.specs.declared.error.Error.TheVariants as error
use Rattle.just_errors.proofs.Lifts.{reports_by}
use Rattle.just_names.specs.Texts.{Text}
use Rattle.just_names.specs.Token.{Place}
use Rattle.just_ast_definitions.specs.declared.attribute.ArgumentProperty.{ArgumentProperty}
use Rattle.just_ast_definitions.specs.declared.attribute.NamedAttribute.{NamedAttribute}
use Rattle.just_ast_expressions.specs.declared.expression.Expression.{Expression}
use Rattle.just_module_contents.specs.Constants.{recipe_expressions}
use Rattle.just_module_contents.specs.RecipeValues.{HasPattern, Unvalued, of_pattern, of_value, past_limits, patterns_in, patterns_of, text_said}
use Rattle.just_parts.specs.Evaluator.{FaultsAt}
use Rattle.just_parts.specs.Scopes.{compiled_expressions, property_expressions}
use Rattle.just_patterns.specs.Pattern.{IsRefused, RefusesPattern, reading}
use Rattle.just_recipe.specs.declared.dependency.UnresolvedDependency.{UnresolvedDependency}
use Rattle.just_recipe.specs.declared.recipe.Recipe.{Recipe}
use Rattle.just_recipe_values.specs.Among.{TellsOf}
use Rattle.just_recipe_values.specs.loops.Judged.{AreSound, Faults, expressions_among, no_value, patterns_among, refused}

none_there : {A : Type 0} (x : A) → Contains [] x → ⊥
none_there x there = let inside = there.1 in omega arith

not_none : {A : Type 0} (o : Option A) → IsSome o → o ≡ None → ⊥
not_none None some is = cc
not_none (Some x) some is = cc

abbrev Property : Type 0
Property = ArgumentProperty Expression

abbrev Named : Type 0
Named = NamedAttribute Expression

abbrev Source : Type 0
Source = Recipe UnresolvedDependency

module _ (value : Expression → Option (List Text)) where
  pub sound_none : AreSound value [] []
  sound_none = record {
    values = λ e there. absurd (none_there e there);
    patterns = λ p there. absurd (none_there p there);
  }

  pub sound_both : (es fs : List Expression) (ps qs : List Property) → AreSound value es ps → AreSound value fs qs → AreSound value (es ++ fs) (ps ++ qs)
  sound_both es fs ps qs sound more = record {
    values = λ e there. elim (Contains-append_cases es fs e there) [ inl it ↦ sound.values e it | inr it ↦ more.values e it ];
    patterns = λ p there. elim (Contains-append_cases ps qs p there) [ inl it ↦ sound.patterns p it | inr it ↦ more.patterns p it ];
  }

  module _ (es fs : List Expression) (ps qs : List Property) (all : (e : Expression) → Contains es e → Contains fs e) (each : (p : Property) → Contains ps p → Contains qs p) where
    faults_within : (c : Cause) → Faults value es ps c → Faults value fs qs c
    faults_within _ (no_value {e = e} there none) = no_value (all e there) none
    faults_within _ (refused {p = p} there says is) = refused (each p there) says is

    pub told_within : (told : Error) → Reports (Faults value es ps) told → Reports (Faults value fs qs) told
    told_within told h = reports_by (Faults value es ps) (Faults value fs qs) faults_within told h

  pub told_left : (es fs : List Expression) (ps qs : List Property) (told : Error) → Reports (Faults value es ps) told → Reports (Faults value (es ++ fs) (ps ++ qs)) told
  told_left es fs ps qs told h = told_within es (es ++ fs) ps (ps ++ qs) (Contains-append_left es fs) (Contains-append_left ps qs) told h

  pub told_right : (es fs : List Expression) (ps qs : List Property) (told : Error) → Reports (Faults value fs qs) told → Reports (Faults value (es ++ fs) (ps ++ qs)) told
  told_right es fs ps qs told h = told_within fs (es ++ fs) qs (ps ++ qs) (Contains-append_right es fs) (Contains-append_right ps qs) told h

  -- an expression that has no value
  pub value_told : (e : Expression) (told : Error) → FaultsAt (value e) told → Reports (Faults value (e ∷ []) []) told
  value_told e (error.Compile told) h = subst (λ k. Faults value (e ∷ []) [] (Broken told.token k)) (sym h.1.1) (no_value (Contains-push [] e) h.0)
  value_told e error.Memory h = tt
  value_told e error.Exhausted h = absurd h
  value_told e (error.Load told) h = absurd h
  value_told e (error.Invocation told) h = absurd h
  value_told e (error.Run told) h = absurd h

  -- a pattern that is refused
  pub pattern_told : (es : List Expression) (p : Property) (text : Text) → text_said value p ≡ Some text → (told : Error) → RefusesPattern text p.key.token told
      → Reports (Faults value es (p ∷ [])) told
  pattern_told es p text says (error.Compile told) h =
      let is = refused (Contains-push [] p) says h.2 in
      subst (λ k. Faults value es (p ∷ []) (Broken told.token k)) (sym h.1) (subst (λ at. Faults value es (p ∷ []) (Broken at kind.ArgumentPatternRegex)) (sym h.0) is)
  pattern_told es p text says error.Memory h = tt
  pattern_told es p text says error.Exhausted h = absurd h
  pattern_told es p text says (error.Load told) h = absurd h
  pattern_told es p text says (error.Invocation told) h = absurd h
  pattern_told es p text says (error.Run told) h = absurd h

  -- the same of a property that is there
  module _ (said : Option Property) (p : Property) (is : said ≡ Some p) where
    pub help_told : (told : Error) → Reports (Faults value (p.value ∷ []) []) told → Reports (Faults value (property_expressions said) []) told
    help_told told h = subst (λ o. Reports (Faults value (property_expressions o) []) told) (sym is) h

    pub text_told : (told : Error) → Reports (Faults value (p.value ∷ []) []) told → Reports (Faults value (property_expressions said) (option_to_list said)) told
    text_told told h =
        subst (λ o. Reports (Faults value (property_expressions o) (option_to_list o)) told) (sym is)
        (told_within (p.value ∷ []) (p.value ∷ []) [] (p ∷ []) (λ e there. there) (λ q there. absurd (none_there q there)) told h)

    pub refused_told : (text : Text) → text_said value p ≡ Some text → (at : Place) → at ≡ p.key.token → (told : Error) → RefusesPattern text at told
        → Reports (Faults value (property_expressions said) (option_to_list said)) told
    refused_told text says at here told h =
        subst (λ o. Reports (Faults value (property_expressions o) (option_to_list o)) told) (sym is)
        (pattern_told (p.value ∷ []) p text says told (subst (λ place. RefusesPattern text place told) here h))

  -- What is left of attributes: all that it says they say, and they are sound where it is.
  pub record IsLeft (all rest : List Named) : Type 0 where
    pub expressions : (e : Expression) → Contains (expressions_among rest) e → Contains (expressions_among all) e
    pub patterns : (p : Property) → Contains (patterns_among rest) p → Contains (patterns_among all) p
    pub sound : AreSound value (expressions_among rest) (patterns_among rest) → AreSound value (expressions_among all) (patterns_among all)

  pub all_left : (all : List Named) → IsLeft all all
  all_left all = record { expressions = λ e there. there; patterns = λ p there. there; sound = λ sound. sound }

  pub none_left : (all rest : List Named) → IsLeft all rest → rest ≡ [] → AreSound value (expressions_among all) (patterns_among all)
  none_left all rest left is = (subst (IsLeft all) is left).sound sound_none

  module _ (all rest more : List Named) (named : Named) (left : IsLeft all rest) (next : rest ≡ named ∷ more) where
    left_next : IsLeft all (named ∷ more)
    left_next = subst (IsLeft all) next left

    pub there_next : (e : Expression) → Contains (compiled_expressions named.attribute) e → Contains (expressions_among all) e
    there_next e there = left_next.expressions e (Contains-append_left (compiled_expressions named.attribute) (expressions_among more) e there)

    pub told_next : (told : Error) → Reports (Faults value (compiled_expressions named.attribute) (patterns_in named.attribute)) told
        → Reports (Faults value (expressions_among all) (patterns_among all)) told
    told_next told h =
        told_within (compiled_expressions named.attribute) (expressions_among all) (patterns_in named.attribute) (patterns_among all) there_next
        (λ p there. left_next.patterns p (Contains-append_left (patterns_in named.attribute) (patterns_among more) p there)) told h

    pub less_left : AreSound value (compiled_expressions named.attribute) (patterns_in named.attribute) → IsLeft all more
    less_left sound = record {
      expressions = λ e there. left_next.expressions e (Contains-append_right (compiled_expressions named.attribute) (expressions_among more) e there);
      patterns = λ p there. left_next.patterns p (Contains-append_right (patterns_in named.attribute) (patterns_among more) p there);
      sound = λ after. left_next.sound (sound_both (compiled_expressions named.attribute) (expressions_among more) (patterns_in named.attribute) (patterns_among more) sound after);
    }

  -- what that says of a recipe
  module _ (r : Source) where
    pub values_kept : AreSound value (recipe_expressions r) (patterns_of r) → Keeps (Unvalued value r)
    values_kept sound _ (of_value {e = e} there none) = not_none (value e) (sound.values e there) none
    values_kept sound _ (of_pattern {text = text} has none) = not_none (reading text) (sound.patterns has.property has.there text has.says) none

    refused_tells : (at : Place) (text : Text) → HasPattern value r at text → IsRefused text → TellsOf value r (Broken at kind.ArgumentPatternRegex)
    refused_tells at text has is = elim (reading text) as (λ o. reading text ≡ o → TellsOf value r (Broken at kind.ArgumentPatternRegex)) [
      | None ↦ λ none. inl (of_pattern has none)
      | Some read ↦ λ some. inr (past_limits has (ap is_some some) is)
    ] refl

    faults_tell : (c : Cause) → Faults value (recipe_expressions r) (patterns_of r) c → TellsOf value r c
    faults_tell _ (no_value there none) = inl (of_value there none)
    faults_tell _ (refused {p = p} {text = text} there says is) = refused_tells p.key.token text (record { property = p; there = there; at_is = refl; says = says }) is

    pub faults_told : (told : Error) → Reports (Faults value (recipe_expressions r) (patterns_of r)) told → Reports (TellsOf value r) told
    faults_told told h = reports_by (Faults value (recipe_expressions r) (patterns_of r)) (TellsOf value r) faults_tell told h
