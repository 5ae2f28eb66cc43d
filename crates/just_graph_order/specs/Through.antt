-- What solid numbers read: the solid numbers that steps lead to, also through numbers that pass. Of any relation, where
-- `R a b` is a step from a to b, and of marks that tell the solid numbers.
use Rattle.std.specs.Prelude.{◌≡◌, ◌↔◌, ℕ, Bool, true, false, List, [], get_or}
use Rattle.std.specs.List.{Contains}
use Rattle.just_graph.specs.Steps.{Leads, IsOnce, ListsStepsFirst, Reached}

-- the number is marked as solid; one that isn't passes
abbrev pub IsSolid : List Bool → ℕ → Type 0
IsSolid solid a = get_or solid a false ≡ true

-- one or more steps lead from a to c, and each number strictly between passes
pub data Passes (R : ℕ → ℕ → Type 0) (solid : List Bool) : ℕ → ℕ → Type 0 where
  at_once : {a b : ℕ} → R a b → Passes R solid a b
  passing : {a b c : ℕ} → R a b → get_or solid b false ≡ false → Passes R solid b c → Passes R solid a c

-- a solid number reads a solid number, which may be itself
pub record ReadsThrough (R : ℕ → ℕ → Type 0) (solid : List Bool) (a b : ℕ) : Type 0 where
  pub reader : IsSolid solid a
  pub read : IsSolid solid b
  pub way : Passes R solid a b

-- An evaluation order: the solid numbers that steps lead to from the roots and nothing else, each once, and each after
-- whatever it reads.
pub record IsOrderThrough (R : ℕ → ℕ → Type 0) (solid : List Bool) (roots order : List ℕ) : Type 0 where
  pub lists : (a : ℕ) → Contains order a ↔ (IsSolid solid a × Reached R roots [] a)
  pub once : IsOnce order
  pub reads_first : ListsStepsFirst (ReadsThrough R solid) order
  -- so no listed number reads itself, by way of others or at once
  pub no_circle : (a : ℕ) → Contains order a → Leads (ReadsThrough R solid) a a → ⊥

-- What holds by one relation holds by another that has its steps.
pub passes_by : {R S : ℕ → ℕ → Type 0} → ((a b : ℕ) → R a b → S a b) → {solid : List Bool} {a b : ℕ} → Passes R solid a b → Passes S solid a b
passes_by f (at_once r) = at_once (f _ _ r)
passes_by f (passing r p w) = passing (f _ _ r) p (passes_by f w)

pub reads_by : {R S : ℕ → ℕ → Type 0} → ((a b : ℕ) → R a b → S a b) → {solid : List Bool} → (a b : ℕ) → ReadsThrough R solid a b → ReadsThrough S solid a b
reads_by f a b r = record { reader = r.reader; read = r.read; way = passes_by f r.way }
