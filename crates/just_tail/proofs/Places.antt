-- The places that switches and positional words lead to are those of parameters.
use Rattle.std.proofs.Common.{◌≡◌, ℕ, zero, suc, ◌+◌, ◌<◌, min, Bool, true, false, cond, List, [], ◌∷◌, Option, Some, None, length, IfSome, sym, ap, ◌∙◌, arith}
use Rattle.std.specs.List.{slice_get}
use Rattle.std.specs.Prelude.{option_map}
use Rattle.just_ast_definitions.specs.Parameter.{is_option}
use Rattle.just_ast_definitions.specs.declared.parameter.Parameter.{Parameter}
use Rattle.just_tail.specs.Options.{first_of, has_switch, option_from, option_of, positions_from, first_variadic, place}
use Rattle.just_tail.specs.loops.Options.{place_from}
use Rattle.just_errors.specs.declared.switch.Switch.{Switch}

-- the parameter p stands at the place j, where the first place is k
abbrev IsAt : ℕ → List Parameter → ℕ → Parameter → Type 0
IsAt k ps j p = (i : ℕ) × (j ≡ k + i) × (slice_get ps i ≡ Some p)

-- the first parameter with its place, if it has the switch
abbrev here : Bool → ℕ → Parameter → Option (ℕ × Parameter)
here has k q = cond has (Some (k, q)) None

at_first : (has : Bool) (k : ℕ) (q : Parameter) (qs : List Parameter) (j : ℕ) (p : Parameter) → here has k q ≡ Some (j, p) → IsAt k (q ∷ qs) j p
at_first true k q qs j p e =
    let both : ◌≡◌ {A = ℕ × Parameter} (k, q) (j, p) = (cc) in
    let place : k ≡ j = ap (λ f. f.0) both in
    (0, omega arith, ap (λ f. Some f.1) both)
at_first false k q qs j p e = absurd (let f : ⊥ = (cc) in f)

at_either : (o : Option (ℕ × Parameter)) (has : Bool) (k : ℕ) (q : Parameter) (qs : List Parameter) (j : ℕ) (p : Parameter) →
    (o ≡ Some (j, p) → IsAt (k + 1) qs j p) → first_of o (here has k q) ≡ Some (j, p) → IsAt k (q ∷ qs) j p
at_either None has k q qs j p later e = at_first has k q qs j p e
at_either (Some f) has k q qs j p later e =
    let at = later e in
    let place = at.1 in
    (suc at.0, omega arith, at.2)

option_at : (k : ℕ) (ps : List Parameter) (s : Switch) (j : ℕ) (p : Parameter) → option_from k ps s ≡ Some (j, p) → IsAt k ps j p
option_at k [] s j p e = absurd (let f : ⊥ = (cc) in f)
option_at k (q ∷ qs) s j p e =
    at_either (option_from (k + 1) qs s) (has_switch s q) k q qs j p (λ f. option_at (k + 1) qs s j p f) e

found_in : (o : Option (ℕ × Parameter)) (j : ℕ) (q : Option Parameter) → ((p : Parameter) → o ≡ Some (j, p) → q ≡ Some p) → Some j ≡ option_map (λ f. f.0) o →
    option_map (λ p. (j, p)) q ≡ o
found_in None j q at e = absurd (let f : ⊥ = (cc) in f)
found_in (Some (i, p)) j q at e =
    let place : i ≡ j = (cc) in
    let same : Some (i, p) ≡ Some (j, p) = ap (λ k. Some (k, p)) place in
    ap (option_map (λ p. (j, p))) (at p same) ∙ sym same

-- what stands at the place of a switch is the parameter that it names
pub found_at : (ps : List Parameter) (s : Switch) (j : ℕ) (q : Option Parameter) → Some j ≡ place_from 0 ps s → q ≡ slice_get ps j →
    option_map (λ p. (j, p)) q ≡ option_of ps s
found_at ps s j q e f =
    found_in (option_of ps s) j q
    (λ p h.
    let at = option_at 0 ps s j p h in
    let same : j ≡ at.0 = let place = at.1 in omega arith in
    f ∙ ap (slice_get ps) same ∙ at.2)
    e

first_within : (k n i j : ℕ) (js : List ℕ) → ((i : ℕ) → slice_get js i ≡ Some j → j < k + suc n) → slice_get (k ∷ js) i ≡ Some j → j < k + suc n
first_within k n zero j js later e = let same : k ≡ j = (cc) in omega arith
first_within k n (suc i) j js later e = later i e

either_within : (b : Bool) (k n i j : ℕ) (js : List ℕ) → ((i : ℕ) → slice_get js i ≡ Some j → j < k + suc n) → slice_get (cond b js (k ∷ js)) i ≡ Some j → j < k + suc n
either_within true k n i j js later e = later i e
either_within false k n i j js later e = first_within k n i j js later e

positions_within : (k : ℕ) (ps : List Parameter) (i j : ℕ) → slice_get (positions_from k ps) i ≡ Some j → j < k + length ps
positions_within k [] zero j e = absurd (let f : ⊥ = (cc) in f)
positions_within k [] (suc i) j e = absurd (let f : ⊥ = (cc) in f)
positions_within k (p ∷ ps) i j e =
    either_within (is_option p) k (length ps) i j (positions_from (k + 1) ps) (λ i f. let within = positions_within (k + 1) ps i j f in omega arith) e

-- the place of a positional word is one of the parameters'
pub place_within : (ps : List Parameter) (k : ℕ) (o : Option ℕ) → o ≡ place ps k → IfSome o (λ j. j < length ps)
place_within ps k None e = tt
place_within ps k (Some j) e = let within = positions_within 0 ps (min k (first_variadic ps)) j (sym e) in omega arith
