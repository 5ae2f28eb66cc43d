-- Looking for the end of an interpolation, byte after byte.
use Rattle.std.proofs.Common.{suc, ◌≡◌, ℕ, ◌+◌, ◌<◌, ◌≤◌, sym, ◌∙◌, ap, refl, subst, List, [], ◌∷◌, length, drop, get_or, Bool, true, false, arith, Option, Some, None}
use Rattle.std.specs.Prelude.{IfSome, if◌then◌else◌, ◌&&◌, ◌==◌, not}
use Rattle.std.specs.Option.{option_map}
use Rattle.std.proofs.lemmas.List.{drop_all}
use Rattle.std.proofs.Math.Bool.{and-false}
use Rattle.just_bench_expressions.proofs.Lexing.{at_front}
use Rattle.just_bench_lines.specs.Body.{close_at, close_from, closes, closes_twice, in_quotes}
use Rattle.just_bench_lines.proofs.Bounds.{close_found}

pub closes_last : (bytes : List ℕ) (at : ℕ) → at + 1 ≡ length bytes → false ≡ closes_twice (drop at bytes)
closes_last bytes at last =
    let end : drop (at + 1) bytes ≡ [] = drop_all (at + 1) bytes (omega (arith, last)) in
    sym (ap closes_twice (at_front bytes at (omega (arith, last))) ∙ ap (λ rest. get_or bytes at 0 == 125 && closes rest) end ∙ and-false (get_or bytes at 0 == 125))

pub closes_other : (bytes : List ℕ) (at : ℕ) → at < length bytes → (get_or bytes at 0 ≡ 125 → ⊥) → false ≡ closes_twice (drop at bytes)
closes_other bytes at within differs =
    let is : (get_or bytes at 0 == 125) ≡ false = grind (arith, differs) in
    sym (ap closes_twice (at_front bytes at within) ∙ ap (λ b. b && closes (drop (at + 1) bytes)) is)

pub closes_next : (bytes : List ℕ) (at : ℕ) → at + 1 < length bytes → get_or bytes at 0 ≡ 125 → (get_or bytes (at + 1) 0 == 125) ≡ closes_twice (drop at bytes)
closes_next bytes at within same =
    let is : (get_or bytes at 0 == 125) ≡ true = grind (arith, same) in
    sym (ap closes_twice (at_front bytes at (omega (arith, within))) ∙ ap (λ b. b && closes (drop (at + 1) bytes)) is ∙ ap closes (at_front bytes (at + 1) within))

-- and-false was found before a place
pub record Closing (bytes : List ℕ) (at : ℕ) (quoted : Bool) : Type 0 where
  pub is : close_at bytes ≡ option_map (λ n. at + n) (close_from quoted (drop at bytes))

moved : (o : Option ℕ) → o ≡ option_map (λ n. 0 + n) o
moved None = refl
moved (Some n) = ap Some (omega arith)

pub closing_start : (bytes : List ℕ) → Closing bytes 0 false
closing_start bytes = record { is = moved (close_from false bytes) }

onward : (at : ℕ) (o : Option ℕ) → option_map (λ n. at + n) (option_map suc o) ≡ option_map (λ n. at + 1 + n) o
onward at None = refl
onward at (Some n) = ap Some (omega arith)

-- what is found at a place
at_one : (bytes : List ℕ) (at : ℕ) (quoted next b : Bool) → at < length bytes → next ≡ in_quotes quoted (get_or bytes at 0) → (not next && closes_twice (drop at bytes)) ≡ b
    → close_from quoted (drop at bytes) ≡ (if b then Some 0 else option_map suc (close_from next (drop (at + 1) bytes)))
at_one bytes at quoted next b within goes is =
    let found : (not (in_quotes quoted (get_or bytes at 0)) && closes_twice (get_or bytes at 0 ∷ drop (at + 1) bytes)) ≡ b = ap (λ q. not q && closes_twice (get_or bytes at 0 ∷ drop (at + 1) bytes)) (sym goes) ∙ ap (λ bs. not next && closes_twice bs) (sym (at_front bytes at within)) ∙ is in
    ap (close_from quoted) (at_front bytes at within)
    ∙ ap (λ c. if c then Some 0 else option_map suc (close_from (in_quotes quoted (get_or bytes at 0)) (drop (at + 1) bytes))) found
    ∙ ap (λ q. if b then Some 0 else option_map suc (close_from q (drop (at + 1) bytes))) (sym goes)

step : (bytes : List ℕ) (at : ℕ) (quoted next : Bool) → Closing bytes at quoted → at < length bytes → next ≡ in_quotes quoted (get_or bytes at 0) → (not next && closes_twice (drop at bytes)) ≡ false → Closing bytes (at + 1) next
step bytes at quoted next so_far within goes is = record {
  is = so_far.is ∙ ap (option_map (λ n. at + n)) (at_one bytes at quoted next false within goes is) ∙ onward at (close_from next (drop (at + 1) bytes));
}

pub closing_quoted : (bytes : List ℕ) (at : ℕ) (quoted next : Bool) → Closing bytes at quoted → at < length bytes → next ≡ in_quotes quoted (get_or bytes at 0) → next ≡ true → Closing bytes (at + 1) next
closing_quoted bytes at quoted next so_far within goes is = step bytes at quoted next so_far within goes (ap (λ q. not q && closes_twice (drop at bytes)) is)

pub closing_other : (bytes : List ℕ) (at : ℕ) (quoted next : Bool) → Closing bytes at quoted → at < length bytes → next ≡ in_quotes quoted (get_or bytes at 0) → closes_twice (drop at bytes) ≡ false → Closing bytes (at + 1) next
closing_other bytes at quoted next so_far within goes is = step bytes at quoted next so_far within goes (ap (λ c. not next && c) is ∙ and-false (not next))

pub closing_here : (bytes : List ℕ) (at : ℕ) (quoted next : Bool) → Closing bytes at quoted → at < length bytes → next ≡ in_quotes quoted (get_or bytes at 0) → next ≡ false → closes_twice (drop at bytes) ≡ true → Some at ≡ close_at bytes
closing_here bytes at quoted next so_far within goes outside is =
    let here : at + 0 ≡ at = omega arith in
    sym (so_far.is ∙ ap (option_map (λ n. at + n)) (at_one bytes at quoted next true within goes (ap (λ q. not q && closes_twice (drop at bytes)) outside ∙ is)) ∙ ap Some here)

pub closing_past : (bytes : List ℕ) (at : ℕ) (quoted : Bool) → Closing bytes at quoted → length bytes ≤ at → None ≡ close_at bytes
closing_past bytes at quoted so_far past = sym (so_far.is ∙ ap (λ bs. option_map (λ n. at + n) (close_from quoted bs)) (drop_all at bytes past))

parts_within : (bytes : List ℕ) (o : Option ℕ) → IfSome o (λ at. (at + 2 ≤ length bytes) × (get_or bytes (at + 1) 0 ≡ 125)) → IfSome o (λ at. at + 2 ≤ length bytes)
parts_within bytes None h = tt
parts_within bytes (Some n) h = h.0

pub closing_within : (bytes : List ℕ) (found : Option ℕ) → found ≡ close_at bytes → IfSome found (λ at. at + 2 ≤ length bytes)
closing_within bytes found is = parts_within bytes found (subst (λ o. IfSome o (λ at. (at + 2 ≤ length bytes) × (get_or bytes (at + 1) 0 ≡ 125))) (sym is) (close_found false bytes))
