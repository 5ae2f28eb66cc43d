-- How much of an evaluation is left.
use Rattle.std.proofs.Common.{◌≡◌, ◌∙◌, ap, ℕ, zero, suc, ◌+◌, ◌-◌, ◌*◌, ◌<◌, ◌≤◌, arith, Bool, true, false, cond, List, [], ◌∷◌, Option, Some}
use Rattle.std.specs.List.{sum_by}
use Rattle.std.proofs.lemmas.List.Sums.{sum_by-cons}
use Rattle.std.specs.Str.{bytes_eq}
use Rattle.just_names.specs.Texts.{Text}
use Rattle.just_ast_definitions.specs.declared.function_definition.FunctionDefinition.{FunctionDefinition}
use Rattle.just_ast_expressions.specs.declared.expression.Expression.{Expression}
use Rattle.just_ast_expressions.specs.Parts.{parts}
use Rattle.just_ast_expressions.proofs.Sizes.{size, size_is}
use Rattle.just_table.specs.Entries.{find}
use Rattle.just_bench_values.specs.loops.Tasks.{bodies_size, body_size, cost, room}

-- a body is no larger than all together
larger : (b : Bool) (entry : Text × FunctionDefinition) (rest : Option FunctionDefinition) (all : ℕ) (f : FunctionDefinition) → ((f : FunctionDefinition) → rest ≡ Some f → size f.body ≤ all) →
    cond b (Some entry.1) rest ≡ Some f → size f.body ≤ body_size entry + all
larger true entry rest all f more is =
    let same : size entry.1.body ≡ size f.body = ap (λ (g : FunctionDefinition). size g.body) {x = entry.1} {y = f} (cc is) in
    omega arith
larger false entry rest all f more is = omega (arith, more f is)

pub body_smaller : (name : Text) (functions : List (Text × FunctionDefinition)) (f : FunctionDefinition) → find name functions ≡ Some f → size f.body ≤ bodies_size functions
body_smaller name [] f is = absurd (cc is)
body_smaller name (entry ∷ rest) f is =
    let below : size f.body ≤ body_size entry + bodies_size rest = larger (bytes_eq name entry.0) entry (find name rest) (bodies_size rest) f (body_smaller name rest) is in
    omega (arith, sum_by-cons body_size entry rest)

-- a product grows with its first factor
times : (k a b : ℕ) → a ≤ b → a * k ≤ b * k
times k a b h = grind arith

pub one_less : (calls : ℕ) → suc calls - 1 ≡ calls
one_less calls = omega arith

module _ (functions : List (Text × FunctionDefinition)) (calls : ℕ) where
  abbrev r : ℕ
  r = room (bodies_size functions) calls

  -- one expression and others
  pub cost_cons : (e : Expression) (es : List Expression) → cost functions calls (e ∷ es) ≡ cost functions calls (parts e) + 4 + cost functions calls es
  cost_cons e es =
      let one : sum_by size (e ∷ es) * (r + 4) ≡ (suc (sum_by size (parts e)) + sum_by size es) * (r + 4) =
      ap (λ n. n * (r + 4)) (sum_by-cons size e es ∙ ap (λ n. n + sum_by size es) (size_is e)) in
      omega arith

-- a call may take more than its body does
pub body_less : (functions : List (Text × FunctionDefinition)) (calls : ℕ) (name : Text) (f : FunctionDefinition) → 0 < calls → find name functions ≡ Some f →
    cost functions (calls - 1) (parts f.body) + 4 ≤ cost functions calls []
unfolding room
body_less functions zero name f some is = absurd (omega arith)
body_less functions (suc calls) name f some is =
    let k : ℕ = room (bodies_size functions) calls + 4 in
    let down : cost functions (suc calls - 1) (parts f.body) ≡ cost functions calls (parts f.body) = ap (λ n. cost functions n (parts f.body)) (one_less calls) in
    let inside : size f.body * k ≤ bodies_size functions * k = times k (size f.body) (bodies_size functions) (body_smaller name functions f is) in
    let whole : size f.body * k ≡ suc (sum_by size (parts f.body)) * k = ap (λ n. n * k) (size_is f.body) in
    omega arith
