-- The groups that listings show, and in which order.
use Rattle.std.specs.Prelude.{◌≡◌, ◌↔◌, Bool, true, false, not, List, [], ◌∷◌, ◌++◌, flat_map, map, Option, None, Some}
use Rattle.std.specs.Cmp.Lexicographic.{slice_cmp}
use Rattle.std.specs.List.{Contains, filter, filter_map}
use Rattle.std.specs.List.Sorted.{IsStrictlySortedBy}
use Rattle.std.specs.Ordering.{nat_cmp, ordering_then}
use Rattle.std.specs.Str.{bytes_eq}
use Rattle.std.specs.declared.cmp.Ordering.{Ordering}
use Rattle.just_ast_definitions.specs.declared.attribute.Attribute.{Attribute}
use Rattle.just_ast_definitions.specs.declared.attribute.Attribute.TheVariants as attribute
use Rattle.just_ast_definitions.specs.declared.attribute.NamedAttribute.{NamedAttribute}
use Rattle.just_ast_expressions.specs.declared.expression.Expression.{Expression}
use Rattle.just_ast_expressions.specs.declared.string_literal.StringLiteral.{StringLiteral}
use Rattle.just_names.specs.Texts.{Text}
use Rattle.just_recipe.specs.declared.dependency.Dependency.{Dependency}
use Rattle.just_recipe.specs.declared.recipe.Recipe.{Recipe}
use Rattle.just_recipe_run.specs.Calls.{is_public}
use Rattle.just_justfile.specs.Closed.{HeldRecipes}
use Rattle.just_justfile.specs.declared.justfile.Justfile.{Justfile, out-Justfile}
use Rattle.just_listings.specs.Order.{IsByKey, placed_item, place_order}
use Rattle.just_listings.specs.Public.{is_public_module, module_place, own_recipes, recipe_place}
use Rattle.just_listings.specs.declared.order.Place.{Place}
use Rattle.just_listings.specs.declared.order.Placed.{Placed}

-- the group that an attribute names
abbrev pub group_said : Attribute Expression → Option Text
group_said (attribute.Group group) = Some group.cooked
group_said _ = None

-- the groups that attributes name, in order
abbrev pub groups_said : List (NamedAttribute Expression) → List Text
groups_said = filter_map (λ (named : NamedAttribute Expression). group_said named.attribute)

-- The groups of a recipe: the texts that its attributes name, each once and in byte order.
pub record AreGroupsOf (r : Recipe Dependency) (texts : List Text) : Type 0 where
  pub rising : IsStrictlySortedBy (slice_cmp nat_cmp) texts
  pub same : (text : Text) → Contains texts text ↔ Contains (groups_said r.attributes) text

-- the groups of a module, in order
abbrev pub group_texts : Justfile → List Text
group_texts j = map (λ (group : StringLiteral). group.cooked) (out-Justfile j).groups

-- texts at a place
abbrev pub all_at : Place → List Text → List (Placed Text)
all_at place = map {B = Placed Text} (λ text. record { place = place; item = text })

-- the groups of a recipe and of a module, where these stand
abbrev pub recipe_groups : Recipe Dependency → List (Placed Text)
recipe_groups r = all_at (recipe_place r) (groups_said r.attributes)

abbrev pub module_groups : Justfile → List (Placed Text)
module_groups j = all_at (module_place j) (group_texts j)

-- the groups of the public recipes of a module, and then those of its public modules
abbrev pub shown_groups : HeldRecipes → Justfile → List (Placed Text)
shown_groups recipes j = flat_map recipe_groups (filter is_public (own_recipes recipes j)) ++ flat_map module_groups (filter is_public_module (out-Justfile j).modules)

-- texts at places, by the places, and then by the texts
abbrev pub itself : Placed Text → Placed Text
itself p = p

abbrev pub group_order : Placed Text → Placed Text → Ordering
group_order a b = ordering_then (place_order a.place b.place) (slice_cmp nat_cmp a.item b.item)

-- in the order of the texts, or unsorted of the places and then the texts
abbrev pub AreGroupsInOrder : Bool → List (Placed Text) → List (Placed Text) → Type 0
AreGroupsInOrder true groups ordered = IsByKey itself group_order groups ordered
AreGroupsInOrder false groups ordered = IsByKey placed_item (slice_cmp nat_cmp) groups ordered

-- texts, each only where it stands first
abbrev pub firsts : List Text → List Text
firsts [] = []
firsts (x ∷ xs) = x ∷ filter (λ y. not (bytes_eq x y)) (firsts xs)

-- The groups of what is public in a module, each once, where it stands first in their order.
pub record ArePublicGroups (unsorted : Bool) (recipes : HeldRecipes) (j : Justfile) (texts : List Text) : Type 0 where
  pub ordered : List (Placed Text)
  pub in_order : AreGroupsInOrder unsorted (shown_groups recipes j) ordered
  pub first : texts ≡ firsts (map placed_item ordered)
