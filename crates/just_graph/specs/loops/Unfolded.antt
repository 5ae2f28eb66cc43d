-- What private functions say beside `Unfolded.antt`.
use Rattle.std.specs.Prelude.{◌≡◌, ℕ, ◌+◌, ◌&&◌, Bool, cond, Option, Some, List, [], ◌∷◌, length, slice_get, nat_eq, MatchOption}
use Rattle.std.specs.Option.{unwrap_or}
use Rattle.std.specs.List.{Contains}
use Rattle.just_graph.specs.Levels.{depth_of}
use Rattle.std.specs.Cmp.Lexicographic.{pointwise}
use Rattle.std.specs.declared.vec.Vec.{Vec}
use Rattle.std.specs.declared.alloc.Global.{Global}
use Rattle.just_graph.specs.declared.unfolding.Step.{Step}
use Rattle.just_graph.specs.declared.unfolding.Unfolded.{Unfolded}
use Rattle.just_graph.specs.declared.unfolding.Frame.{Frame}
use Rattle.just_graph.specs.Unfolding.{Key, path_after}
use Rattle.just_graph.specs.Building.{EachRow}

-- the steps of the node at a place, from the i-th on
abbrev pub frames_from : ℕ → ℕ → List Step → List Frame
frames_from parent i [] = []
frames_from parent i (s ∷ ss) = record { origin = record { parent = parent; step = i }; step = s } ∷ frames_from parent (i + 1) ss

-- the keys by which the search looks up what it has
abbrev pub HashKey : Type 0
HashKey = Vec ℕ Global × ℕ

abbrev pub is_key : Key → HashKey → Bool
is_key k h = pointwise nat_eq k.path h.0.items && nat_eq k.node h.1

abbrev pub same_key : HashKey → HashKey → Bool
same_key g h = pointwise nat_eq g.0.items h.0.items && nat_eq g.1 h.1

-- the key that a hashed one stands for
abbrev pub plain : HashKey → Key
plain h = record { path = h.0.items; node = h.1 }

-- the places of the keys of a list, and no others
abbrev pub IsKeyIndex : List Key → (HashKey → Option ℕ) → Type 0
IsKeyIndex ks places = (h : HashKey) → MatchOption (places h) (Contains ks (plain h) → ⊥) (λ i. slice_get ks i ≡ Some (plain h))

-- one more key has its place
abbrev pub IsPut : Key → ℕ → (HashKey → Option ℕ) → (HashKey → Option ℕ) → Type 0
IsPut key place old new = (h : HashKey) → new h ≡ cond (is_key key h) (Some place) (old h)

-- a step from a group leads to the key
abbrev pub IsAfter : List ℕ → Step → HashKey → Type 0
IsAfter path s h = (h.0.items ≡ path_after path s.enters) × (h.1 ≡ s.target)

-- the links are the places of the keys that the steps of a row lead to from a group
pub record AreRowLinks (row : List Step) (path : List ℕ) (places : HashKey → Option ℕ) (links : List ℕ) : Type 0 where
  pub sound : (q : ℕ) → Contains links q → (s : Step) × (h : HashKey) × Contains row s × IsAfter path s h × (places h ≡ Some q)
  pub complete : (s : Step) → Contains row s → (h : HashKey) × IsAfter path s h × ((q : ℕ) → places h ≡ Some q → Contains links q)

-- the same of each element, with the steps from its node
abbrev pub EachLinked : (ℕ → List Step) → List Unfolded → (HashKey → Option ℕ) → List (Vec ℕ Global) → Type 0
EachLinked S us places links = EachRow (λ k row. (u : Unfolded) → slice_get us k ≡ Some u → AreRowLinks (S u.node) u.path.items places row) (length us) links

-- the elements have these depths, and are the same otherwise
pub record AreNoted (depths : List (Option ℕ)) (old new : List Unfolded) : Type 0 where
  pub count : length new ≡ length old
  pub each : (k : ℕ) (u : Unfolded) → slice_get old k ≡ Some u → slice_get new k ≡ Some (record u { depth = unwrap_or (depth_of depths k) 0 })
