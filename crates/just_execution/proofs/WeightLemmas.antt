-- Each frame that is taken leaves less to do.
use Rattle.std.proofs.Common.{◌≡◌, ℕ, zero, suc, ◌+◌, ◌*◌, ◌<◌, ◌≤◌, List, [], ◌∷◌, ◌++◌, length, arith}
use Rattle.std.proofs.lemmas.Nat.{column_fits_turned}
use Rattle.std.proofs.lemmas.List.Elements.{All-head, All-tail}
use Rattle.std.proofs.Math.Nat.{mul-suc, mul-le-mul_left}
use Rattle.just_run_layers.specs.declared.held.Held.{Held}
use Rattle.just_execution.specs.declared.frame.Frame.{Frame}
use Rattle.just_execution.specs.declared.frame.Frame.TheVariants.{Call, Block, Back}
use Rattle.just_execution.specs.declared.frame.OpenTable.{OpenTable}
use Rattle.just_execution.specs.loops.Frames.{calls_of, cost, frame_weight, weight}
use Rattle.just_tasks.specs.declared.task.Task.{Task}
use Rattle.just_tasks.specs.Pairs.{AllBelow}

module _ (most : ℕ) where
  pub weight-append : (xs ys : List Frame) → weight most (xs ++ ys) ≡ weight most xs + weight most ys
  weight-append [] ys = omega arith
  weight-append (x ∷ xs) ys = let h = weight-append xs ys in omega arith

  cost-some : (n : ℕ) → 1 ≤ cost most n
  cost-some zero = omega arith
  cost-some (suc n) = omega arith

  -- a task of a higher place costs no less
  cost-grows : 1 ≤ most → (n m : ℕ) → n ≤ m → cost most n ≤ cost most m
  cost-grows some zero m l = cost-some m
  cost-grows some (suc n) zero l = absurd (omega arith)
  cost-grows some (suc n) (suc m) l =
      let h : cost most n ≤ cost most m = cost-grows some n m (omega arith) in
      let k : most * cost most n ≤ most * cost most m = mul-le-mul_left most h in
      omega arith

  -- tasks below a place
  calls-weight : 1 ≤ most → (k : ℕ) (ts : List Task) → AllBelow k ts → weight most (calls_of ts) ≤ cost most k * length ts
  calls-weight some k [] b = omega arith
  calls-weight some k (t ∷ ts) b =
      let first : cost most (suc t.pair.recipe) ≤ cost most k = cost-grows some (suc t.pair.recipe) k (omega (arith, All-head (λ (t : Task). t.pair.recipe < k) t ts b)) in
      let rest : weight most (calls_of ts) ≤ cost most k * length ts = calls-weight some k ts (All-tail (λ (t : Task). t.pair.recipe < k) t ts b) in
      let split : weight most (calls_of ts ++ Call t ∷ []) ≡ weight most (calls_of ts) + (cost most (suc t.pair.recipe) + 0) = weight-append (calls_of ts) (Call t ∷ []) in
      let more : cost most k * suc (length ts) ≡ cost most k * length ts + cost most k = mul-suc (cost most k) (length ts) in
      omega arith

  -- fewer tasks than the most
  calls-light : (k : ℕ) (ts : List Task) → AllBelow k ts → length ts < most → weight most (calls_of ts) + 1 ≤ most * cost most k
  calls-light k ts b l =
      let some : 1 ≤ most = omega arith in
      let h : weight most (calls_of ts) ≤ cost most k * length ts = calls-weight some k ts b in
      let c : cost most k * length ts + cost most k ≤ most * cost most k = column_fits_turned (cost most k) (length ts) most (cost most k) l (omega arith) in
      let one : 1 ≤ cost most k = cost-some k in
      omega arith

  one-more : (xs : List Frame) (x : Frame) → weight most (xs ++ x ∷ []) ≡ weight most xs + frame_weight most x
  one-more xs x = let h = weight-append xs (x ∷ []) in omega arith

  -- a call leads to a block and the calls of its priors
  pub call-lighter : (xs : List Frame) (t : Task) (x : Held) (ps : List Task) → AllBelow t.pair.recipe ps → length ps < most → weight most (xs ++ Block t x ∷ calls_of ps) < weight most (xs ++ Call t ∷ [])
  call-lighter xs t x ps b l =
      let h = calls-light t.pair.recipe ps b l in
      let new : weight most (xs ++ Block t x ∷ calls_of ps) ≡ weight most xs + (suc (most * cost most t.pair.recipe) + weight most (calls_of ps)) = weight-append xs (Block t x ∷ calls_of ps) in
      let old : weight most (xs ++ Call t ∷ []) ≡ weight most xs + suc (suc (most * cost most t.pair.recipe) + most * cost most t.pair.recipe) = one-more xs (Call t) in
      omega arith

  -- a block leads to the way back and the calls of its subsequents
  pub block-lighter : (xs : List Frame) (t : Task) (x : Held) (outer : OpenTable) (ts : List Task) → AllBelow t.pair.recipe ts → length ts < most → weight most (xs ++ Back outer ∷ calls_of ts) < weight most (xs ++ Block t x ∷ [])
  block-lighter xs t x outer ts b l =
      let h = calls-light t.pair.recipe ts b l in
      let new : weight most (xs ++ Back outer ∷ calls_of ts) ≡ weight most xs + (1 + weight most (calls_of ts)) = weight-append xs (Back outer ∷ calls_of ts) in
      let old : weight most (xs ++ Block t x ∷ []) ≡ weight most xs + suc (most * cost most t.pair.recipe) = one-more xs (Block t x) in
      omega arith

  frame-some : (x : Frame) → 1 ≤ frame_weight most x
  frame-some (Call t) = omega arith
  frame-some (Block t x) = omega arith
  frame-some (Back outer) = omega arith

  -- or to nothing
  pub taken-lighter : (xs : List Frame) (x : Frame) → weight most xs < weight most (xs ++ x ∷ [])
  taken-lighter xs x = let h = one-more xs x in let s : 1 ≤ frame_weight most x = frame-some x in omega arith
