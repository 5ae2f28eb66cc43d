-- A walk in preorder: what is listed, and what is left.
use Rattle.std.proofs.Common.{◌≡◌, ℕ, ◌+◌, ◌<◌, Bool, List, [], ◌∷◌, ◌++◌, length, reverse, Some, None, refl, sym, ap, subst, ◌∙◌, arith}
use Rattle.std.specs.List.{sum_by}
use Rattle.std.proofs.lemmas.List.Sums.{sum_by-append, sum_by-cons}
use Rattle.std.proofs.lemmas.List.{append-nil, append_assoc, length-append, reverse-append}
use Rattle.just_justfile.specs.declared.justfile.Justfile.{Justfile, out-Justfile}
use Rattle.just_justfile.proofs.Counts.{count, count_is}
use Rattle.just_scopes.specs.Preorder.{AreBelow, IsPreorderUnder, Placed, none, one, placed_under}
use Rattle.just_scopes.specs.loops.Preorder.{inner_modules}

-- what is listed of those that are left, the first of which is taken next
pub data AreLeft : ℕ → List Placed → List Placed → Type 0 where
  nothing : {start : ℕ} → AreLeft start [] []
  next : {start : ℕ} {p : Placed} {ps below rest : List Placed} → AreBelow start p.lazy (start + 1) (out-Justfile p.justfile).modules below →
      AreLeft (start + 1 + length below) ps rest → AreLeft start (p ∷ ps) (p ∷ (below ++ rest))

-- of the modules of one, and what is left behind them
split : (parent : ℕ) (above : Bool) (start : ℕ) (js : List Justfile) (ps rest : List Placed) → AreLeft start (inner_modules parent above js ++ ps) rest →
    (below : List Placed) × (more : List Placed) × (rest ≡ below ++ more) × AreBelow parent above start js below × AreLeft (start + length below) ps more
split parent above start [] ps rest l =
    let same : start ≡ start + 0 = omega arith in
    ([], rest, refl, none, subst (λ n. AreLeft n ps rest) same l)
split parent above start (j ∷ js) ps _ (next {below = b} {rest = r} inner after) =
    let s = split parent above (start + 1 + length b) js ps r after in
    let first : Placed = placed_under (Some parent) above j in
    let place : start + 1 + length b + length s.0 ≡ start + length (first ∷ (b ++ s.0)) = omega (arith, length-append b s.0) in
    (first ∷ (b ++ s.0), s.1, ap (λ xs. first ∷ (b ++ xs)) s.2 ∙ ap (λ xs. first ∷ xs) (sym (append_assoc b s.0 s.1)), one inner s.3, subst (λ n. AreLeft n ps s.1) place s.4)

-- one is listed, and its modules are taken next
pub listed : (start : ℕ) (p : Placed) (ps rest : List Placed) → AreLeft (start + 1) (inner_modules start p.lazy (out-Justfile p.justfile).modules ++ ps) rest → AreLeft start (p ∷ ps) (p ∷ rest)
listed start p ps rest l =
    let s = split start p.lazy (start + 1) (out-Justfile p.justfile).modules ps rest l in
    subst (λ xs. AreLeft start (p ∷ ps) (p ∷ xs)) (sym s.2) (next s.3 s.4)

-- the walk from what is listed: whatever is listed of those that are left, all is in preorder
abbrev pub Walks : Bool → Justfile → List Placed → List Placed → Type 0
Walks above root done left = (rest : List Placed) → AreLeft (length done) (reverse left) rest → IsPreorderUnder above root (done ++ rest)

alone : (above : Bool) (root : Justfile) (rest : List Placed) → AreLeft 0 (placed_under None above root ∷ []) rest → IsPreorderUnder above root rest
alone above root _ (next {below = b} inner nothing) = (b, ap (λ xs. placed_under None above root ∷ xs) (append-nil b), inner)

pub begins : (above : Bool) (root : Justfile) (done left : List Placed) → done ≡ [] → left ≡ placed_under None above root ∷ [] → Walks above root done left
begins above root done left none_done one_left rest l =
    let here : AreLeft 0 (placed_under None above root ∷ []) rest = subst (λ xs. AreLeft (length xs) (placed_under None above root ∷ []) rest) none_done (subst (λ xs. AreLeft (length done) (reverse xs) rest) one_left l) in
    subst (λ xs. IsPreorderUnder above root (xs ++ rest)) (sym none_done) (alone above root rest here)

pub walks_on : (above : Bool) (root : Justfile) (done left front more after : List Placed) (p : Placed) → left ≡ front ++ p ∷ [] → reverse more ≡ inner_modules (length done) p.lazy (out-Justfile p.justfile).modules ++ reverse front → after ≡ done ++ p ∷ [] →
    Walks above root done left → Walks above root after more
walks_on above root done left front more after p taken turned pushed walks rest l =
    let place : length after ≡ length done + 1 = ap length pushed ∙ omega (arith, length-append done (p ∷ [])) in
    let last : reverse left ≡ p ∷ reverse front = ap reverse taken ∙ reverse-append front (p ∷ []) in
    let here : AreLeft (length done) (reverse left) (p ∷ rest) = subst (λ xs. AreLeft (length done) xs (p ∷ rest)) (sym last)
    (listed (length done) p (reverse front) rest (subst (λ xs. AreLeft (length done + 1) xs rest) turned (subst (λ n. AreLeft n (reverse more) rest) place l))) in
    subst (IsPreorderUnder above root) (sym (append_assoc done (p ∷ []) rest) ∙ ap (λ xs. xs ++ rest) (sym pushed)) (walks (p ∷ rest) here)

pub ends : (above : Bool) (root : Justfile) (done left : List Placed) → left ≡ [] → Walks above root done left → IsPreorderUnder above root done
ends above root done left none_left walks =
    subst (IsPreorderUnder above root) (append-nil done) (walks [] (subst (λ xs. AreLeft (length done) (reverse xs) []) (sym none_left) nothing))

abbrev pub count_all : List Placed → ℕ
count_all ps = sum_by (λ (p : Placed). count p.justfile) ps

count_inner : (place : ℕ) (above : Bool) (js : List Justfile) → count_all (inner_modules place above js) ≡ sum_by count js
count_inner place above [] = refl
count_inner place above (j ∷ js) =
    omega (
      arith,
      sum_by-cons (λ (p : Placed). count p.justfile) (placed_under (Some place) above j) (inner_modules place above js),
      sum_by-cons count j js,
      count_inner place above js,
    )

count_append : (xs ys : List Placed) → count_all (xs ++ ys) ≡ count_all xs + count_all ys
count_append xs ys = sum_by-append (λ (p : Placed). count p.justfile) xs ys

count_reversed : (ps : List Placed) → count_all (reverse ps) ≡ count_all ps
count_reversed [] = refl
count_reversed (p ∷ ps) =
    ap count_all (reverse-append (p ∷ []) ps)
    ∙ omega (arith, count_append (reverse ps) (p ∷ []), count_reversed ps, sum_by-cons (λ (q : Placed). count q.justfile) p ps)

-- fewer are left where a module's own take its place
pub fewer : (place : ℕ) (front left more : List Placed) (p : Placed) → left ≡ front ++ p ∷ [] → reverse more ≡ inner_modules place p.lazy (out-Justfile p.justfile).modules ++ reverse front → count_all more < count_all left
fewer place front left more p taken turned =
    omega (
      arith,
      ap count_all taken,
      ap count_all turned,
      count_append front (p ∷ []),
      count_append (inner_modules place p.lazy (out-Justfile p.justfile).modules) (reverse front),
      count_reversed more,
      count_reversed front,
      count_inner place p.lazy (out-Justfile p.justfile).modules,
      count_is p.justfile,
    )
