-- Numbers in a recipe make no difference to what its doc, helps and patterns come to.
use Rattle.std.proofs.Common.{◌≡◌, ◌∙◌, ◌⊎◌, Bool, inl, inr, List, ◌++◌, map, Option, None, Some, refl, sym, ap, subst}
use Rattle.std.specs.List.{Contains}
use Rattle.std.specs.Option.{option_and_then, option_map}
use Rattle.std.specs.Prelude.{flat_map, option_to_list}
use Rattle.just_ast_definitions.specs.declared.attribute.ArgumentProperty.{ArgumentProperty}
use Rattle.just_ast_definitions.specs.declared.attribute.Attribute.{Attribute}
use Rattle.just_ast_definitions.specs.declared.attribute.Attribute.TheVariants as attribute
use Rattle.just_ast_definitions.specs.declared.attribute.NamedAttribute.{NamedAttribute}
use Rattle.just_ast_expressions.specs.declared.expression.Expression.{Expression}
use Rattle.just_ast_references.specs.Mentions.{Calls, Names, mention_of}
use Rattle.just_ast_references.specs.Numbers.{with_numbers}
use Rattle.just_ast_references.proofs.Renumbering.{keeps_references}
use Rattle.just_errors.specs.Causes.{Cause}
use Rattle.just_graph.proofs.Members.{In, contained, from_flat, from_map, in_flat, in_map, is_in}
use Rattle.just_module_contents.specs.Constants.{recipe_expressions, text_of_value}
use Rattle.just_module_contents.specs.RecipeValues.{HasPattern, IsPastLimits, Unvalued, of_pattern, of_value, past_limits, patterns_in}
use Rattle.just_names.specs.Texts.{Text}
use Rattle.just_names.specs.Token.{Place}
use Rattle.just_names.specs.declared.number.Number.{Number}
use Rattle.just_parts.specs.Evaluator.{Covers, Values}
use Rattle.just_parts.specs.Known.{Known, none_hidden}
use Rattle.just_parts.specs.Reading.{Reads, at_once, through}
use Rattle.just_parts.specs.Scopes.{compiled_expressions, property_expressions}
use Rattle.just_recipe.specs.declared.dependency.UnresolvedDependency.{UnresolvedDependency}
use Rattle.just_recipe.specs.declared.recipe.Recipe.{Recipe}
use Rattle.just_recipe_names.specs.Numbered.{attribute_by, attribute_with, property_by}

-- an expression with other numbers reads what it reads
pub reads_still : (m : Known) (number_of : Text → Option Number) (hidden : Text → Bool) (e : Expression) (name : Text) → Reads m hidden (with_numbers number_of e) name → Reads m hidden e name
reads_still m number_of hidden e name (at_once there seen is) = at_once (subst (λ rs. Contains (map mention_of rs) (Names name)) (keeps_references number_of e) there) seen is
reads_still m number_of hidden e name (through {function = function} arguments called is reads) = through arguments (subst (λ rs. Contains (map mention_of rs) (Calls function arguments)) (keeps_references number_of e) called) is reads

module _ (value : Expression → Option (List Text)) (outer inner : Expression → Expression) (same : (e : Expression) → value (outer e) ≡ value e) where
  properties_by : (help pattern : Option (ArgumentProperty Expression))
      → property_expressions (option_map (property_by outer) help) ++ property_expressions (option_map (property_by outer) pattern) ≡ map outer (property_expressions help ++ property_expressions pattern)
  properties_by None None = refl
  properties_by None (Some p) = refl
  properties_by (Some h) None = refl
  properties_by (Some h) (Some p) = refl

  doc_by : (doc : Option Expression) → option_to_list (option_map outer doc) ≡ map outer (option_to_list doc)
  doc_by None = refl
  doc_by (Some e) = refl

  -- what an attribute with numbers has that is evaluated while compiling
  compiled_by : (a : Attribute Expression) → compiled_expressions (attribute_by outer inner a) ≡ map outer (compiled_expressions a)
  compiled_by (attribute.Arg a) = properties_by a.help_property a.pattern_property
  compiled_by (attribute.Doc e) = doc_by e
  compiled_by _ = refl

  pattern_by : (pattern : Option (ArgumentProperty Expression)) → option_to_list (option_map (property_by outer) pattern) ≡ map (property_by outer) (option_to_list pattern)
  pattern_by None = refl
  pattern_by (Some p) = refl

  patterns_by : (a : Attribute Expression) → patterns_in (attribute_by outer inner a) ≡ map (property_by outer) (patterns_in a)
  patterns_by (attribute.Arg a) = pattern_by a.pattern_property
  patterns_by _ = refl

  -- so it is of several
  module _ {A : Type 0} (has : Attribute Expression → List A) (f : A → A) (each : (a : Attribute Expression) → has (attribute_by outer inner a) ≡ map f (has a)) where
    abbrev all_of : List (NamedAttribute Expression) → List A
    all_of = flat_map (λ (named : NamedAttribute Expression). has named.attribute)

    back : (xs : List (NamedAttribute Expression)) (x : A) → Contains (all_of (map (attribute_with outer inner) xs)) x → (y : A) × Contains (all_of xs) y × (x ≡ f y)
    back xs x c =
        let from = from_flat (λ (named : NamedAttribute Expression). has named.attribute) x (map (attribute_with outer inner) xs) (is_in x (all_of (map (attribute_with outer inner) xs)) c) in
        let named = from_map (attribute_with outer inner) from.0 xs from.1 in
        let there : In x (has (attribute_by outer inner named.0.attribute)) = subst (λ (n : NamedAttribute Expression). In x (has n.attribute)) named.2 from.2 in
        let y = from_map f x (has named.0.attribute) (subst (In x) (each named.0.attribute) there) in
        (y.0, contained y.0 (all_of xs) (in_flat (λ (n : NamedAttribute Expression). has n.attribute) y.0 named.0 xs named.1 y.1), y.2)

    forth : (xs : List (NamedAttribute Expression)) (y : A) → Contains (all_of xs) y → Contains (all_of (map (attribute_with outer inner) xs)) (f y)
    forth xs y c =
        let from = from_flat (λ (named : NamedAttribute Expression). has named.attribute) y xs (is_in y (all_of xs) c) in
        contained (f y) (all_of (map (attribute_with outer inner) xs)) (in_flat (λ (n : NamedAttribute Expression). has n.attribute) (f y) (attribute_with outer inner from.0) (map (attribute_with outer inner) xs) (in_map (attribute_with outer inner) from.0 xs from.1)
        (subst (In (f y)) (sym (each from.0.attribute)) (in_map f y (has from.0.attribute) from.2)))

  -- a recipe, and the same with numbers in its attributes
  module _ (r made : Recipe UnresolvedDependency) (made_is : made.attributes ≡ map (attribute_with outer inner) r.attributes) where
    abbrev compiled : List (NamedAttribute Expression) → List Expression
    compiled = all_of compiled_expressions outer compiled_by

    abbrev patterns : List (NamedAttribute Expression) → List (ArgumentProperty Expression)
    patterns = all_of patterns_in (property_by outer) patterns_by

    pattern_back : (at : Place) (text : Text) → HasPattern value made at text → HasPattern value r at text
    pattern_back at text p =
        let from = back patterns_in (property_by outer) patterns_by r.attributes p.property (subst (λ xs. Contains (patterns xs) p.property) made_is p.there) in
        record {
          property = from.0;
          there = from.1;
          at_is = p.at_is ∙ ap (λ (x : ArgumentProperty Expression). x.key.token) from.2;
          says = ap (option_and_then text_of_value) (sym (ap (λ (x : ArgumentProperty Expression). value x.value) from.2 ∙ same from.0.value)) ∙ p.says;
        }

    pattern_forth : (at : Place) (text : Text) → HasPattern value r at text → HasPattern value made at text
    pattern_forth at text p = record {
      property = property_by outer p.property;
      there = subst (λ xs. Contains (patterns xs) (property_by outer p.property)) (sym made_is) (forth patterns_in (property_by outer) patterns_by r.attributes p.property p.there);
      at_is = p.at_is;
      says = ap (option_and_then text_of_value) (same p.property.value) ∙ p.says;
    }

    -- what is wrong with the one is wrong with the other
    pub unvalued_back : (c : Cause) → Unvalued value made c → Unvalued value r c
    unvalued_back c (of_value {e} there none) =
        let from = back compiled_expressions outer compiled_by r.attributes e (subst (λ xs. Contains (compiled xs) e) made_is there) in
        of_value from.1 (sym (ap value from.2 ∙ same from.0) ∙ none)
    unvalued_back c (of_pattern {at} {text} p none) = of_pattern (pattern_back at text p) none

    pub unvalued_forth : (c : Cause) → Unvalued value r c → Unvalued value made c
    unvalued_forth c (of_value {e} there none) =
        of_value (subst (λ xs. Contains (compiled xs) (outer e)) (sym made_is) (forth compiled_expressions outer compiled_by r.attributes e there)) (same e ∙ none)
    unvalued_forth c (of_pattern {at} {text} p none) = of_pattern (pattern_forth at text p) none

    pub limits_back : (c : Cause) → IsPastLimits value made c → IsPastLimits value r c
    limits_back c (past_limits {at} {text} p is refused) = past_limits (pattern_back at text p) is refused

    -- and what the one reads is covered where what the other reads is
    pub covers_still : (m : Known) (values : Values) (number_of : Text → Option Number) → ((e : Expression) → outer e ≡ with_numbers number_of e) → ((e : Expression) → Contains (recipe_expressions r) e → Covers m values e)
        → (e : Expression) → Contains (recipe_expressions made) e → Covers m values e
    covers_still m values number_of is covers e there name reads =
        let from = back compiled_expressions outer compiled_by r.attributes e (subst (λ xs. Contains (compiled xs) e) made_is there) in
        covers from.0 from.1 name (reads_still m number_of none_hidden from.0 name (subst (λ x. Reads m none_hidden x name) (from.2 ∙ is from.0) reads))

    -- so what is told of the one may be told of the other
    pub tells_back : (c : Cause) → (Unvalued value made c ⊎ IsPastLimits value made c) → (Unvalued value r c ⊎ IsPastLimits value r c)
    tells_back c (inl u) = inl (unvalued_back c u)
    tells_back c (inr p) = inr (limits_back c p)
