-- The files of a compilation under places.
use Rattle.std.specs.Prelude.{◌≡◌, Bool, true, false, ℕ, List, [], map, flat_map, length, slice_get, Option, None, Some, IsSome, MatchOption, if◌then◌else◌}
use Rattle.std.specs.Borrow.{Bor}
use Rattle.std.specs.HashMap.{get}
use Rattle.std.specs.List.{AllByRecursion, IsDistinct}
use Rattle.std.specs.Map.{keys_of, values_of}
use Rattle.just_graph.specs.Building.{EachRow}
use Rattle.just_parts.specs.Asts.{AstKey, same_ast_key}
use Rattle.just_parts.specs.Bare.{bare_item}
use Rattle.just_parts.specs.Items.{Ast, Item}
use Rattle.just_paths.specs.declared.modulepath.Modulepath.{Modulepath}
use Rattle.just_module_headers.specs.Reading.{Submodule, declared, imported}
use Rattle.just_module_headers.specs.declared.files.Files.{Files}
use Rattle.just_module_headers.specs.declared.files.Rows.{Rows}

abbrev pub keys_in : Files → List AstKey
keys_in files = map (λ (k : Bor AstKey). k.now) files.keys.items

abbrev pub asts_in : Files → List Ast
asts_in files = map (λ (a : Bor Ast). a.now) files.asts.items

-- a table leads from keys to their places in a list, and no other key has one
abbrev pub HasPlaces : List AstKey → (AstKey → Option ℕ) → Type 0
HasPlaces keys places = (k : AstKey) → MatchOption (places k) ((p : ℕ) → slice_get keys p ≡ Some k → ⊥) (λ p. slice_get keys p ≡ Some k)

-- Each entry of a table of asts has a place.
pub record ArePlaced (entries : List (AstKey × Ast)) (files : Files) : Type 0 where
  pub distinct : IsDistinct same_ast_key (keys_of entries)
  pub keys : keys_in files ≡ keys_of entries
  pub asts : asts_in files ≡ values_of entries
  pub places : HasPlaces (keys_of entries) (get same_ast_key files.places)

-- the keys to which an item of a module's file leads: those of modules, or of imports
abbrev pub keys_led_to : Bool → Modulepath → Item → List AstKey
keys_led_to true path i = map (λ (s : Submodule). s.key) (declared path i)
keys_led_to false path i = imported path i

-- the same where it is enabled
abbrev pub led_by : Bool → (Item → Bool) → Modulepath → Item → List AstKey
led_by inside enabled path i = if enabled (bare_item i) then keys_led_to inside path i else []

-- the keys to which items lead
abbrev pub all_led : Bool → (Item → Bool) → Modulepath → List Item → List AstKey
all_led inside enabled path items = flat_map (led_by inside enabled path) items

abbrev pub led_in : Bool → (Item → Bool) → Option Ast → List AstKey
led_in inside enabled None = []
led_in inside enabled (Some ast) = all_led inside enabled ast.module_path ast.items

-- the keys to which the items of the file at a place lead
abbrev pub led_from : Bool → (Item → Bool) → List Ast → ℕ → List AstKey
led_from inside enabled asts p = led_in inside enabled (slice_get asts p)

-- a table has each of these keys
abbrev pub HoldsAll : (AstKey → Option ℕ) → List AstKey → Type 0
HoldsAll table found = AllByRecursion (λ k. IsSome (table k)) found

-- the places that a table has for keys
abbrev pub AreKeyPlaces : (AstKey → Option ℕ) → List AstKey → List ℕ → Type 0
AreKeyPlaces table found places = map table found ≡ map Some places

-- the keys to which items lead have places
abbrev pub HoldsEach : (Item → Bool) → Files → Type 0
HoldsEach enabled files = (inside : Bool) (p : ℕ) → HoldsAll (get same_ast_key files.places) (led_from inside enabled (asts_in files) p)

-- the row of each file: the places of the keys to which its items lead
pub record AreRows (enabled : Item → Bool) (files : Files) (rows : Rows) : Type 0 where
  pub imports : EachRow (λ p row. AreKeyPlaces (get same_ast_key files.places) (led_from false enabled (asts_in files) p) row) (length files.asts.items) rows.imports.items
  pub modules : EachRow (λ p row. AreKeyPlaces (get same_ast_key files.places) (led_from true enabled (asts_in files) p) row) (length files.asts.items) rows.modules.items
