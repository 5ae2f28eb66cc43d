-- Where walks end, and what is found there.
use Rattle.std.proofs.Common.{◌≡◌, Bool, true, false, cond, List, [], ◌∷◌, map, is_some, if◌then◌else◌, IfSome, IsSome, Option, Some, None, refl, sym, ◌∙◌, ap, subst}
use Rattle.std.specs.Borrow.{Bor}
use Rattle.std.specs.List.{Contains}
use Rattle.std.specs.Option.{option_copied, option_map}
use Rattle.std.specs.Str.{bytes_eq}
use Rattle.just_names.specs.Name.{text_of_name}
use Rattle.just_names.specs.Texts.{Text}
use Rattle.just_names.specs.Token.{lexeme}
use Rattle.just_names.specs.declared.name.Namepath.{Namepath}
use Rattle.just_names.specs.declared.number.Number.{Number}
use Rattle.just_recipe.specs.declared.dependency.Dependency.{Dependency}
use Rattle.just_recipe.specs.declared.recipe.Recipe.{Recipe}
use Rattle.just_recipe.specs.Recipes.{find_number}
use Rattle.just_table.specs.Entries.{find}
use Rattle.just_justfile.specs.Closed.{AreClosed, StandsIn, inner_closed, inside, is_closed, itself, recipe_of_key}
use Rattle.just_justfile.specs.Module.{module_name}
use Rattle.just_justfile.specs.declared.disabled.Disabled.{Disabled}
use Rattle.just_justfile.specs.declared.justfile.Justfile.{Justfile, out-Justfile}
use Rattle.just_justfile.specs.declared.justfile.RecipeKey.{RecipeKey}
use Rattle.just_justfile.specs.declared.resolution.Resolution.{Resolution}
use Rattle.just_justfile.specs.declared.resolution.Resolution.TheVariants as resolution
use Rattle.just_justfile.specs.Walks.{Absent, AreOrdered, End, Here, Inside, AreModulesOrdered, Nowhere, beyond, end_from, end_of_names, inner_along, inner_ordered, module_named, recipe_under, recipe_by, recipe_from}
use Rattle.std.proofs.lemmas.List.Elements.{Contains-append_left, Contains-append_right, Contains-push}

found_by : (b : Bool) (x j : Justfile) (rest : Option Justfile) (xs : List Justfile) → cond b (Some x) rest ≡ Some j → (rest ≡ Some j → Contains xs j) → Contains (x ∷ xs) j
found_by true x j rest xs e more = let same : x ≡ j = cc in subst (Contains (x ∷ xs)) same (Contains-append_left (x ∷ []) xs x (Contains-push [] x))
found_by false x j rest xs e more = Contains-append_right (x ∷ []) xs j (more e)

-- a module that is found stands among those in which it is looked for
pub named_there : (name : Text) (modules : List Justfile) (j : Justfile) → module_named name modules ≡ Some j → Contains modules j
named_there name [] j e = cc
named_there name (x ∷ modules) j e = found_by (bytes_eq (module_name x) name) x j (module_named name modules) modules e (named_there name modules j)

-- and the names of those in it rise
pub named_ordered : (name : Text) (modules : List Justfile) (j : Justfile) → AreOrdered modules → module_named name modules ≡ Some j → AreModulesOrdered j
named_ordered name modules j order e = inner_ordered order j (named_there name modules j e)

pub found_ordered : (name : Text) (modules : List Justfile) (o : Option (Bor Justfile)) → AreOrdered modules → option_copied o ≡ module_named name modules → IfSome o (λ j. AreModulesOrdered j.now)
found_ordered name modules None order e = tt
found_ordered name modules (Some j) order e = named_ordered name modules j.now order (sym e)

-- what follows a name, by the module of the name
next_along : List Text → Option Justfile → Option Justfile
next_along names found = elim found as (λ _. Option Justfile) [
  | Some inner ↦ inner_along inner names
  | None ↦ None
]

next_end : List Text → Text → List (Text × Text) → Option Justfile → End
next_end names name absent found = elim found as (λ _. End) [
  | Some j ↦ beyond name j (end_of_names (out-Justfile j).absent_modules (out-Justfile j).modules names)
  | None ↦ if is_some (find name absent) then Absent (name ∷ []) else Nowhere
]

stands_below : (root j : Justfile) (name : Text) (names : List Text) → ((inner : Justfile) → inner_along inner names ≡ Some j → StandsIn inner j)
    → (found : Option Justfile) → module_named name (out-Justfile root).modules ≡ found → next_along names found ≡ Some j → StandsIn root j
unfolding next_along
stands_below root j name names ih None f g = cc
stands_below root j name names ih (Some inner) f g = inside (named_there name (out-Justfile root).modules inner f) (ih inner g)

-- a module to which names lead stands in that from which they lead
pub stands_along : (root j : Justfile) (names : List Text) → inner_along root names ≡ Some j → StandsIn root j
unfolding next_along
stands_along root j [] e = let same : root ≡ j = cc in subst (StandsIn root) same itself
stands_along root j (name ∷ names) e = stands_below root j name names (λ inner. stands_along inner j names) (module_named name (out-Justfile root).modules) refl e

absent_end : (b : Bool) (names : List Text) (j : Justfile) → (if b then Absent names else Nowhere) ≡ Inside j → ⊥
absent_end true names j e = cc
absent_end false names j e = cc

beyond_here : (name : Text) (j : Justfile) (e : End) → beyond name j e ≡ Here → ⊥
beyond_here name j Here e = cc
beyond_here name j (Inside k) e = cc
beyond_here name j (Absent names) e = cc
beyond_here name j Nowhere e = cc

absent_here : (b : Bool) (names : List Text) → (if b then Absent names else Nowhere) ≡ Here → ⊥
absent_here true names e = cc
absent_here false names e = cc

some_here : (names : List Text) (name : Text) (absent : List (Text × Text)) (found : Option Justfile) → next_end names name absent found ≡ Here → ⊥
unfolding next_end
some_here names name absent None e = absent_here (is_some (find name absent)) (name ∷ []) e
some_here names name absent (Some j) e = beyond_here name j (end_of_names (out-Justfile j).absent_modules (out-Justfile j).modules names) e

-- a name leads on
not_here : (root : Justfile) (name : Text) (names : List Text) → end_from root (name ∷ names) ≡ Here → ⊥
unfolding next_end
not_here root name names e = some_here names name (out-Justfile root).absent_modules (module_named name (out-Justfile root).modules) e

walked_below : (j inner : Justfile) (name : Text) (names : List Text) (end : End) → (end_from inner names ≡ Inside j → inner_along inner names ≡ Some j) → end_from inner names ≡ end → beyond name inner end ≡ Inside j → inner_along inner names ≡ Some j
walked_below j inner name [] Here ih f g = let same : inner ≡ j = cc in ap Some same
walked_below j inner name (x ∷ xs) Here ih f g = absurd (not_here inner x xs f)
walked_below j inner name names (Inside k) ih f g = ih (f ∙ g)
walked_below j inner name names (Absent xs) ih f g = cc
walked_below j inner name names Nowhere ih f g = cc

walked_next : (root j : Justfile) (name : Text) (names : List Text) → ((inner : Justfile) → end_from inner names ≡ Inside j → inner_along inner names ≡ Some j)
    → (found : Option Justfile) → next_end names name (out-Justfile root).absent_modules found ≡ Inside j → next_along names found ≡ Some j
unfolding next_along next_end
walked_next root j name names ih None g = absurd (absent_end (is_some (find name (out-Justfile root).absent_modules)) (name ∷ []) j g)
walked_next root j name names ih (Some inner) g = walked_below j inner name names (end_from inner names) (ih inner) refl g

ordered_below : (name : Text) (names : List Text) (inner j : Justfile) → AreModulesOrdered inner → (end_from inner names ≡ Inside j → AreModulesOrdered j)
    → (end : End) → end_from inner names ≡ end → beyond name inner end ≡ Inside j → AreModulesOrdered j
ordered_below name names inner j order ih Here f g = let same : inner ≡ j = cc in subst AreModulesOrdered same order
ordered_below name names inner j order ih (Inside k) f g = ih (f ∙ g)
ordered_below name names inner j order ih (Absent xs) f g = cc
ordered_below name names inner j order ih Nowhere f g = cc

ordered_next : (name : Text) (names : List Text) (absent : List (Text × Text)) (modules : List Justfile) (j : Justfile) → AreOrdered modules
    → ((inner : Justfile) → AreModulesOrdered inner → end_from inner names ≡ Inside j → AreModulesOrdered j)
    → (found : Option Justfile) → module_named name modules ≡ found → next_end names name absent found ≡ Inside j → AreModulesOrdered j
unfolding next_end
ordered_next name names absent modules j order ih None f g = absurd (absent_end (is_some (find name absent)) (name ∷ []) j g)
ordered_next name names absent modules j order ih (Some inner) f g =
    let below = named_ordered name modules inner order f in
    ordered_below name names inner j below (ih inner below) (end_from inner names) refl g

-- the names of the modules in one into which a walk leads rise
pub end_ordered : (names : List Text) (absent : List (Text × Text)) (modules : List Justfile) (j : Justfile) → AreOrdered modules → end_of_names absent modules names ≡ Inside j → AreModulesOrdered j
unfolding next_end
end_ordered [] absent modules j order e = cc
end_ordered (name ∷ names) absent modules j order e =
    ordered_next name names absent modules j order (λ inner below g. end_ordered names (out-Justfile inner).absent_modules (out-Justfile inner).modules j below g) (module_named name modules) refl e

-- a walk that ends in a module, and the module to which its names lead
pub walk_along : (root j : Justfile) (names : List Text) → end_from root names ≡ Inside j → inner_along root names ≡ Some j
unfolding next_along next_end
walk_along root j [] e = cc
walk_along root j (name ∷ names) e = walked_next root j name names (λ inner. walk_along inner j names) (module_named name (out-Justfile root).modules) e

-- from a module the others lead where all of them do
Follows : Justfile → List Text → Type 0
Follows j [] = Unit {0}
Follows j (name ∷ names) = (root : Justfile) → inner_along root (name ∷ names) ≡ Some j → end_from root (name ∷ names) ≡ Inside j

led_below : (j inner : Justfile) (name : Text) (names : List Text) → Follows j names → inner_along inner names ≡ Some j → beyond name inner (end_from inner names) ≡ Inside j
unfolding Follows
led_below j inner name [] ih g = let same : inner ≡ j = cc in ap Inside same
led_below j inner name (x ∷ xs) ih g = ap (beyond name inner) (ih inner g)

led_next : (root j : Justfile) (name : Text) (names : List Text) → Follows j names → (found : Option Justfile) → next_along names found ≡ Some j → next_end names name (out-Justfile root).absent_modules found ≡ Inside j
unfolding next_along next_end
led_next root j name names ih None g = cc
led_next root j name names ih (Some inner) g = led_below j inner name names ih g

follows : (j : Justfile) (names : List Text) → Follows j names
unfolding Follows next_along next_end
follows j [] = tt
follows j (name ∷ names) = λ root. led_next root j name names (follows j names) (module_named name (out-Justfile root).modules)

pub along_walk : (root j : Justfile) (name : Text) (names : List Text) → inner_along root (name ∷ names) ≡ Some j → end_from root (name ∷ names) ≡ Inside j
unfolding Follows
along_walk root j name names = follows j (name ∷ names) root

module _ (recipes : List (Recipe Dependency)) where
  closed_below : (root j : Justfile) (name : Text) (names : List Text) → AreClosed recipes root → ((inner : Justfile) → AreClosed recipes inner → inner_along inner names ≡ Some j → AreClosed recipes j)
      → (found : Option Justfile) → module_named name (out-Justfile root).modules ≡ found → next_along names found ≡ Some j → AreClosed recipes j
  unfolding next_along
  closed_below root j name names closed ih None f g = cc
  closed_below root j name names closed ih (Some inner) f g = ih inner (inner_closed closed inner (named_there name (out-Justfile root).modules inner f)) g

  -- a module to which names lead is closed
  closed_along : (root j : Justfile) (names : List Text) → AreClosed recipes root → inner_along root names ≡ Some j → AreClosed recipes j
  unfolding next_along
  closed_along root j [] closed e = let same : root ≡ j = cc in subst (AreClosed recipes) same closed
  closed_along root j (name ∷ names) closed e = closed_below root j name names closed (λ inner c g. closed_along inner j names c g) (module_named name (out-Justfile root).modules) refl e

  abbrev IsHeldAs : Text → Number → Type 0
  IsHeldAs name number = (r : Recipe Dependency) × (find_number recipes number.0 ≡ Some r) × (lexeme r.name.token ≡ name)

  no_number : (o : Option Disabled) (number : Number) → option_map (λ (it : Disabled). resolution.Disabled it.modules) o ≡ Some (resolution.Resolved number) → ⊥
  no_number None number e = cc
  no_number (Some it) number e = cc

  looked_up : List (Text × Disabled) → Text → Option RecipeKey → Option (Resolution Number)
  looked_up disabled name found = elim found as (λ _. Option (Resolution Number)) [
    | Some key ↦ Some (resolution.Resolved key.number)
    | None ↦ option_map (λ (it : Disabled). resolution.Disabled it.modules) (find name disabled)
  ]

  number_same : (a b : Number) → Some (resolution.Resolved a) ≡ Some (resolution.Resolved b) → a ≡ b
  number_same a b e = cc

  held_at : (j : Justfile) (disabled : List (Text × Disabled)) (name : Text) (number : Number) → AreClosed recipes j → recipe_under (out-Justfile j).recipes disabled name ≡ Some (resolution.Resolved number) → IsHeldAs name number
  unfolding looked_up
  held_at j disabled name number closed e = go (find name (out-Justfile j).recipes) refl e
    where
      go : (found : Option RecipeKey) → find name (out-Justfile j).recipes ≡ found → looked_up disabled name found ≡ Some (resolution.Resolved number) → IsHeldAs name number
      go None f g = absurd (no_number (find name disabled) number g)
      go (Some key) f g =
          let h = (is_closed closed).named name (subst IsSome (sym f) refl) in
          (h.0, ap (λ (n : Number). find_number recipes n.0) (sym (number_same key.number number g)) ∙ ap (recipe_of_key recipes) (sym f) ∙ h.1, h.2.named)

  -- a number to which a path resolves is held, under the last name
  pub resolved_held : (root : Justfile) (path : Namepath) (number : Number) → AreClosed recipes root → recipe_from root path ≡ Some (resolution.Resolved number) → IsHeldAs (text_of_name path.last) number
  resolved_held root path number closed e = go (end_from root (map text_of_name path.front)) refl e
    where
      go : (end : End) → end_from root (map text_of_name path.front) ≡ end
          → recipe_by end (out-Justfile root).recipes (out-Justfile root).disabled_recipes (text_of_name path.last) ≡ Some (resolution.Resolved number) → IsHeldAs (text_of_name path.last) number
      go Here f g = held_at root (out-Justfile root).disabled_recipes (text_of_name path.last) number closed g
      go (Inside j) f g = held_at j (out-Justfile j).disabled_recipes (text_of_name path.last) number (closed_along root j (map text_of_name path.front) closed (walk_along root j (map text_of_name path.front) f)) g
      go (Absent names) f g = cc
      go Nowhere f g = cc
