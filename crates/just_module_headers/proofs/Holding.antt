-- The places of the keys to which items lead.
use Rattle.std.proofs.Common.{◌≡◌, ℕ, Bool, true, false, List, [], ◌∷◌, Option, Some, None, IsSome, refl, sym, ap, ◌∙◌, inl, inr}
use Rattle.std.specs.Prelude.{slice_get, MatchOption, if◌then◌else◌}
use Rattle.std.specs.HashMap.{get}
use Rattle.std.specs.List.{AllByRecursion}
use Rattle.std.specs.Map.{keys_of, lookup}
use Rattle.std.proofs.lemmas.Map.Entries.{lookup_from_place, place_from_lookup}
use Rattle.just_graph.proofs.Index.{get_map, map_get}
use Rattle.just_graph.proofs.Members.{In, contained, from_flat}
use Rattle.just_parts.specs.Asts.{AstKey, same_ast_key}
use Rattle.just_parts.specs.Bare.{bare_item}
use Rattle.just_parts.specs.Items.{Ast, Item}
use Rattle.just_parts.proofs.AstKeys.{key_same, keys_equivalent}
use Rattle.just_module_headers.specs.Analyzable.{AreAnalyzable}
use Rattle.just_module_headers.specs.Files.{ArePlaced, HoldsAll, all_led, asts_in, keys_led_to, led_by, led_from, led_in}
use Rattle.just_module_headers.specs.declared.files.Files.{Files}

all_by : (P : AstKey → Type 0) (xs : List AstKey) → ((x : AstKey) → In x xs → P x) → AllByRecursion P xs
all_by P [] f = tt
all_by P (x ∷ xs) f = (f x (inl refl), all_by P xs (λ y h. f y (inr h)))

-- an item that leads somewhere counts
pub led_counts : (b : Bool) (l : AstKey) (ks : List AstKey) → In l (if b then ks else []) → (b ≡ true) × In l ks
led_counts true l ks h = (refl, h)
led_counts false l ks h = absurd h

known : (o : Option ℕ) (keys : List AstKey) (k : AstKey) (p : ℕ) → slice_get keys p ≡ Some k → MatchOption o ((q : ℕ) → slice_get keys q ≡ Some k → ⊥) (λ q. slice_get keys q ≡ Some k) → IsSome o
known None keys k p at m = absurd (m p at)
known (Some q) keys k p at m = refl

pub some_value : {A : Type 0} (o : Option A) → IsSome o → (x : A) × (o ≡ Some x)
some_value None h = cc
some_value (Some x) h = (x, refl)

module _ (enabled : Item → Bool) (entries : List (AstKey × Ast)) (files : Files) (placed : ArePlaced entries files) (can : AreAnalyzable enabled (λ k. lookup (same_ast_key k) entries)) where
  -- a key that is held has a place
  pub place_known : (k : AstKey) → IsSome (lookup (same_ast_key k) entries) → IsSome (get same_ast_key files.places k)
  place_known k held =
      let a = some_value (lookup (same_ast_key k) entries) held in
      let e = place_from_lookup (same_ast_key k) entries a.0 a.1 in
      let same : k ≡ e.1 = (key_same k e.1).0 e.3 in
      known (get same_ast_key files.places k) (keys_of entries) k e.0 (map_get (λ (x : AstKey × Ast). x.0) entries e.0 (e.1, a.0) e.2 ∙ ap Some (sym same)) (placed.places k)

  ast_held : (p : ℕ) (ast : Ast) → slice_get (asts_in files) p ≡ Some ast → (k : AstKey) × (lookup (same_ast_key k) entries ≡ Some ast)
  ast_held p ast e =
      let x = get_map (λ (x : AstKey × Ast). x.1) entries p ast (ap (λ xs. slice_get xs p) (sym placed.asts) ∙ e) in
      (x.0.0, lookup_from_place keys_equivalent entries p x.0.0 ast placed.distinct (x.1 ∙ ap (λ a. Some (x.0.0, a)) (sym x.2)))

  held_in : (inside : Bool) (p : ℕ) (o : Option Ast) → slice_get (asts_in files) p ≡ o → HoldsAll (get same_ast_key files.places) (led_in inside enabled o)
  held_in inside p None e = tt
  held_in inside p (Some ast) e =
      let k = ast_held p ast e in
      all_by (λ l. IsSome (get same_ast_key files.places l)) (all_led inside enabled ast.module_path ast.items) (λ l h.
      let i = from_flat (led_by inside enabled ast.module_path) l ast.items h in
      let counts = led_counts (enabled (bare_item i.0)) l (keys_led_to inside ast.module_path i.0) i.2 in
      place_known l (can.closed k.0 ast i.0 inside l k.1 (contained i.0 ast.items i.1) counts.0 (contained l (keys_led_to inside ast.module_path i.0) counts.1)))

  -- the keys to which items lead have places
  pub holds_all : (inside : Bool) (p : ℕ) → HoldsAll (get same_ast_key files.places) (led_from inside enabled (asts_in files) p)
  holds_all inside p = held_in inside p (slice_get (asts_in files) p) refl
