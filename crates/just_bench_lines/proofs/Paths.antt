-- A path, name after name.
use Rattle.std.proofs.Common.{zero, suc, ◌≡◌, ℕ, ◌+◌, ◌*◌, sym, ◌∙◌, ap, refl, List, [], ◌∷◌, ◌++◌, length, drop, Bool, true, false, arith, append_assoc, Option, Some, None}
use Rattle.std.specs.Prelude.{if◌then◌else◌}
use Rattle.std.specs.List.{slice_get}
use Rattle.std.proofs.lemmas.List.{append-nil, drop-drop}
use Rattle.std.proofs.lemmas.Option.{none-some}
use Rattle.just_names.specs.declared.name.Name.{Name}
use Rattle.just_names.specs.declared.name.Namepath.{Namepath}
use Rattle.just_bench_expressions.specs.declared.lexer.Lexeme.{Lexeme}
use Rattle.just_bench_lines.specs.Path.{and_names, joined_at, joined_names, path, path_from, path_of_names, separates}
use Rattle.just_bench_lines.specs.Places.{read_name_at, name_there}

-- names before a path
abbrev pub after_names : List Name → Namepath → Namepath
after_names names path = record { front = names ++ path.front; last = path.last }

-- what was read and what is left make the whole
pub record Pathed (all : List Lexeme) (start : ℕ) (names : List Name) (last : Name) (at : ℕ) : Type 0 where
  pub whole : path all start ≡ Some (after_names names (path_of_names last (joined_names (drop at all))), at + 3 * length (joined_names (drop at all)))

pub path_starts : (all : List Lexeme) (start : ℕ) (names : List Name) (last : Name) (at : ℕ) → Some last ≡ read_name_at all start → names ≡ [] → at ≡ start + 1 → Pathed all start names last at
unfolding path
path_starts all start names last at is none place = rw (none, place) (record { whole = ap (path_from start (joined_names (drop (start + 1) all))) (sym is) })

-- from a place on, as from the front
get_drop : (all : List Lexeme) (at k : ℕ) → slice_get all (at + k) ≡ slice_get (drop at all) k
get_drop all zero k = let same : 0 + k ≡ k = omega arith in ap (slice_get all) same
get_drop [] (suc at) k = refl
get_drop (l ∷ ls) (suc at) k = let same : suc at + k ≡ suc (at + k) = omega arith in ap (slice_get (l ∷ ls)) same ∙ get_drop ls at k

joined_drop : (all : List Lexeme) (at : ℕ) → joined_at all at ≡ joined_at (drop at all) 0
joined_drop all at =
    let zeroth : slice_get all at ≡ slice_get (drop at all) 0 = (let same : at ≡ at + 0 = omega arith in ap (slice_get all) same) ∙ get_drop all at 0 in
    rw (zeroth, get_drop all at 1, get_drop all at 2) refl

one_joined : (b : Bool) (found : Option Name) (name : Name) (more : List Name) → Some name ≡ (if b then found else None) → (if b then and_names found more else []) ≡ name ∷ more
one_joined true found name more is = ap (λ o. and_names o more) (sym is)
one_joined false found name more is = absurd (none-some name (sym is))

none_joined : (b : Bool) (found : Option Name) (more : List Name) → None ≡ (if b then found else None) → (if b then and_names found more else []) ≡ []
none_joined true found more is = ap (λ o. and_names o more) (sym is)
none_joined false found more is = refl

neither : (b : Bool) (name : Name) → Some name ≡ (if b then None else None) → ⊥
neither true name is = none-some name (sym is)
neither false name is = none-some name (sym is)

joined_next : (ls : List Lexeme) (name : Name) → Some name ≡ joined_at ls 0 → joined_names ls ≡ name ∷ joined_names (drop 3 ls)
joined_next [] name is = absurd (none-some name (sym is))
joined_next (c ∷ []) name is = absurd (none-some name (sym is))
joined_next (c ∷ d ∷ []) name is = absurd (neither (separates (Some c) (Some d)) name is)
joined_next (c ∷ d ∷ l ∷ rest) name is = one_joined (separates (Some c) (Some d)) (name_there (Some l)) name (joined_names rest) is

joined_none : (ls : List Lexeme) → None ≡ joined_at ls 0 → joined_names ls ≡ []
joined_none [] is = refl
joined_none (c ∷ []) is = refl
joined_none (c ∷ d ∷ []) is = refl
joined_none (c ∷ d ∷ l ∷ rest) is = none_joined (separates (Some c) (Some d)) (name_there (Some l)) (joined_names rest) is

pub path_push : (all : List Lexeme) (start : ℕ) (names : List Name) (last : Name) (at : ℕ) (name : Name) (names' : List Name) → Pathed all start names last at → Some name ≡ joined_at all at
    → names' ≡ names ++ last ∷ [] → Pathed all start names' name (at + 3)
path_push all start names last at name names' so_far is pushed =
    let more = joined_names (drop (at + 3) all) in
    let next : joined_names (drop at all) ≡ name ∷ more = joined_next (drop at all) name (is ∙ joined_drop all at) ∙ ap (λ ls. name ∷ joined_names ls) (drop-drop 3 at all) in
    let place : at + 3 * length (name ∷ more) ≡ at + 3 + 3 * length more = omega arith in
    rw pushed (record {
      whole = so_far.whole ∙ ap (λ ns. Some (after_names names (path_of_names last ns), at + 3 * length ns)) next
          ∙ ap (λ n. Some (after_names names (path_of_names last (name ∷ more)), n)) place
          ∙ ap (λ ns. Some (record { front = ns; last = (path_of_names name more).last }, at + 3 + 3 * length more)) (sym (append_assoc names (last ∷ []) (path_of_names name more).front));
    })

pub path_ends : (all : List Lexeme) (start : ℕ) (names : List Name) (last : Name) (at : ℕ) → Pathed all start names last at → None ≡ joined_at all at
    → Some (record { front = names; last = last }, at) ≡ path all start
path_ends all start names last at so_far is =
    let none = joined_none (drop at all) (is ∙ joined_drop all at) in
    let place : at + 3 * 0 ≡ at = omega arith in
    sym (so_far.whole ∙ ap (λ ns. Some (after_names names (path_of_names last ns), at + 3 * length ns)) none
    ∙ ap (λ n. Some (after_names names (path_of_names last []), n)) place ∙ ap (λ ns. Some (record { front = ns; last = last }, at)) (append-nil names))

pub no_path : (all : List Lexeme) (start : ℕ) → None ≡ read_name_at all start → None ≡ path all start
unfolding path
no_path all start is = ap (path_from start (joined_names (drop (start + 1) all))) is
