-- What attributes say is among what is bound; the steps before the lines, by cases.
use Rattle.std.proofs.Common.{◌≡◌, true, false, List, [], ◌∷◌, Option, None, Some, ◌∙◌, ap, subst, All}
use Rattle.std.specs.Prelude.{flat_map}
use Rattle.std.proofs.lemmas.List.Elements.{All-head}
use Rattle.std.specs.Option.{option_or}
use Rattle.std.proofs.lemmas.Bool.{cond-true, cond-false}
use Rattle.just_ast_definitions.specs.declared.attribute.Attribute.{Attribute}
use Rattle.just_ast_definitions.specs.declared.attribute.Attribute.TheVariants as attribute
use Rattle.just_ast_definitions.specs.declared.attribute.NamedAttribute.{NamedAttribute}
use Rattle.just_ast_expressions.specs.declared.expression.Expression.{Expression}
use Rattle.just_parts.specs.Scopes.{attribute_expressions}
use Rattle.just_run_layers.specs.Interactions.{Return}
use Rattle.just_recipe_body.specs.Attributes.{changes_directory, directory_in, directory_of, first_said, timestamp_in, timestamp_of}
use Rattle.just_recipe_body.specs.Body.{BodyContents, directory_steps, joined_steps}
use Rattle.just_recipe_body.specs.Confirmation.{confirmation_in}
use Rattle.just_recipe_body.proofs.AllLemmas.{all-left, all-right}

module _ (P : Expression → Type 0) where
  -- the first of two, or the second
  pick : {A : Type 0} (first second : Option A) (x : A) (Q : Type 0) → (first ≡ Some x → Q) → (second ≡ Some x → Q) → option_or first second ≡ Some x → Q
  pick None second x Q h k q = k q
  pick (Some y) second x Q h k q = h q

  directory-said : (a : Attribute Expression) (e : Expression) → directory_in a ≡ Some e → All P (attribute_expressions a) → P e
  directory-said (attribute.WorkingDirectory x) e q h = let same : x ≡ e = cc in subst P same (All-head P x [] h)
  directory-said _ e q h = absurd (cc)

  timestamp-said : (a : Attribute Expression) (e : Expression) → timestamp_in a ≡ Some (Some e) → All P (attribute_expressions a) → P e
  timestamp-said (attribute.Timestamp (Some x)) e q h = let same : x ≡ e = cc in subst P same (All-head P x [] h)
  timestamp-said (attribute.Timestamp None) e q h = absurd (cc)
  timestamp-said _ e q h = absurd (cc)

  confirmation-said : (a : Attribute Expression) (e : Expression) → confirmation_in a ≡ Some (Some e) → All P (attribute_expressions a) → P e
  confirmation-said (attribute.Confirm (Some x)) e q h = let same : x ≡ e = cc in subst P same (All-head P x [] h)
  confirmation-said (attribute.Confirm None) e q h = absurd (cc)
  confirmation-said _ e q h = absurd (cc)

  -- what an attribute says is bound, wherever it stands among others
  said-bound : {A : Type 0} (said : Attribute Expression → Option A) (x : A) (e : Expression) →
      ((a : Attribute Expression) → said a ≡ Some x → All P (attribute_expressions a) → P e) → (attributes : List (NamedAttribute Expression)) → first_said said attributes ≡ Some x →
      All P (flat_map (λ (named : NamedAttribute Expression). attribute_expressions named.attribute) attributes) → P e
  said-bound said x e one [] q h = absurd (cc)
  said-bound said x e one (named ∷ rest) q h =
      let more : List Expression = flat_map (λ (named : NamedAttribute Expression). attribute_expressions named.attribute) rest in
      pick (said named.attribute) (first_said said rest) x (P e)
      (λ k. one named.attribute k (all-left P (attribute_expressions named.attribute) more h))
      (λ k. said-bound said x e one rest k (all-right P (attribute_expressions named.attribute) more h)) q

  pub directory-bound : (attributes : List (NamedAttribute Expression)) (e : Expression) → directory_of attributes ≡ Some e →
      All P (flat_map (λ (named : NamedAttribute Expression). attribute_expressions named.attribute) attributes) → P e
  directory-bound attributes e q h = said-bound directory_in e e (λ a k l. directory-said a e k l) attributes q h

  pub timestamp-bound : (attributes : List (NamedAttribute Expression)) (e : Expression) → timestamp_of attributes ≡ Some (Some e) →
      All P (flat_map (λ (named : NamedAttribute Expression). attribute_expressions named.attribute) attributes) → P e
  timestamp-bound attributes e q h = said-bound timestamp_in (Some e) e (λ a k l. timestamp-said a e k l) attributes q h

  pub confirmation-bound : (attributes : List (NamedAttribute Expression)) (e : Expression) → first_said confirmation_in attributes ≡ Some (Some e) →
      All P (flat_map (λ (named : NamedAttribute Expression). attribute_expressions named.attribute) attributes) → P e
  confirmation-bound attributes e q h = said-bound confirmation_in (Some e) e (λ a k l. confirmation-said a e k l) attributes q h

-- the steps for the folder
pub directory-changed : (b : BodyContents) (o : Option Expression) → changes_directory b.recipe b.context.settings ≡ true → directory_of b.recipe.attributes ≡ o → directory_steps b ≡ joined_steps b o
directory-changed b o h e = cond-true (changes_directory b.recipe b.context.settings) (joined_steps b (directory_of b.recipe.attributes)) (Return None) h ∙ ap (joined_steps b) e

pub directory-kept : (b : BodyContents) → changes_directory b.recipe b.context.settings ≡ false → directory_steps b ≡ Return None
directory-kept b h = cond-false (changes_directory b.recipe b.context.settings) (joined_steps b (directory_of b.recipe.attributes)) (Return None) h
