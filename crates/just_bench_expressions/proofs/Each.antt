-- What holds of each lexeme of a line.
use Rattle.std.proofs.Common.{suc, zero, ◌≡◌, ℕ, ◌+◌, ◌-◌, ◌≤◌, sym, ◌∙◌, ap, List, [], ◌∷◌, length, take, drop, Bool, true, false, arith, Option, Some, None, IfSome, length-drop, refl}
use Rattle.std.specs.Prelude.{if◌then◌else◌}
use Rattle.std.specs.List.{All, position, prefix_len}
use Rattle.std.specs.Option.{option_map}
use Rattle.std.proofs.lemmas.List.{drop-drop, drop-take, take-take, length-take}
use Rattle.std.proofs.lemmas.List.Elements.{All-nil, All-cons}
use Rattle.std.proofs.lemmas.List.Sums.{prefix_len-le-length}
use Rattle.just_names.specs.Token.{Place, lexeme}
use Rattle.just_names.specs.Identifier.{is_identifier_start, is_identifier_continue}
use Rattle.just_bench_expressions.specs.declared.lines.TextLine.{TextLine}
use Rattle.just_bench_expressions.specs.declared.lexer.Kind.{Kind}
use Rattle.just_bench_expressions.specs.declared.lexer.Kind.TheVariants as kind
use Rattle.just_bench_expressions.specs.declared.lexer.Lexeme.{Lexeme}
use Rattle.just_bench_expressions.specs.Lines.{IsLineOf}
use Rattle.just_bench_expressions.specs.Lexemes.{is_blank, is_quote, quoted, double_mark, single_mark, mark, first, lexeme_place, before, lexemes_from, lexemes}
use Rattle.just_bench_expressions.proofs.Lexing.{quote_found}

pub some_if : {A : Type 0} (P : A → Type 0) (c : Bool) (a b : Option A) → IfSome a P → IfSome b P → IfSome (if c then a else b) P
some_if P true a b p q = p
some_if P false a b p q = q

-- the size is at most this
abbrev Fits : ℕ → Kind × ℕ → Type 0
Fits n found = found.1 ≤ n

quoted_fits : (rest : List ℕ) (o : Option ℕ) → o ≡ position is_quote rest → IfSome (option_map {U = Kind × ℕ} (λ inside. (kind.Quoted, inside + 2)) o) (Fits (suc (length rest)))
quoted_fits rest None is = tt
quoted_fits rest (Some n) is = omega (arith, (quote_found rest n is).0)

single_fits : (single : Option Kind) (n : ℕ) → 1 ≤ n → IfSome (mark None single) (Fits n)
single_fits None n h = tt
single_fits (Some k) n h = h

mark_fits : (double single : Option Kind) (n : ℕ) → 2 ≤ n → IfSome (mark double single) (Fits n)
mark_fits (Some k) single n h = h
mark_fits None single n h = single_fits single n (omega (arith, h))

either_fits : (b : ℕ) (rest : List ℕ) → IfSome (mark (double_mark b rest) (single_mark b)) (Fits (suc (length rest)))
either_fits b [] = single_fits (single_mark b) 1 (omega arith)
either_fits b (c ∷ rest) = mark_fits (double_mark b (c ∷ rest)) (single_mark b) (suc (suc (length rest))) (omega arith)

-- a lexeme at the front is there
first_fits : (bytes : List ℕ) → IfSome (first bytes) (Fits (length bytes))
first_fits [] = tt
first_fits (b ∷ rest) =
    some_if (Fits (suc (length rest))) (is_identifier_start b) (Some (kind.Name, prefix_len is_identifier_continue rest + 1)) _ (omega (arith, prefix_len-le-length is_identifier_continue rest))
    (some_if (Fits (suc (length rest))) (is_quote b) (quoted rest) (mark (double_mark b rest) (single_mark b)) (quoted_fits rest (position is_quote rest) refl) (either_fits b rest))

fits_of : (o : Option (Kind × ℕ)) (k : Kind) (size n : ℕ) → o ≡ Some (k, size) → IfSome o (Fits n) → size ≤ n
fits_of o k size n is fits = rw is at fits

-- the text of a part of a line
pub part_of_line : (path text : List ℕ) (line : TextLine) (at size : ℕ) → IsLineOf text line → at + size ≤ length line.text → lexeme (lexeme_place path text line at size) ≡ take size (drop at line.text)
part_of_line path text line at size of within =
    let o = line.offset in
    let left = length line.text - at in
    let count : o + at + size - (o + at) ≡ size = omega arith in
    let whole : at + left ≡ o + length line.text - o = omega (arith, within) in
    ap (λ m. take m (drop (o + at) text)) count
    ∙ sym (take-take size left (drop (o + at) text) (omega (arith, within)))
    ∙ ap (λ t. take size (take left t)) (sym (drop-drop at o text))
    ∙ ap (take size) (sym (drop-take at left (drop o text)) ∙ ap (λ m. drop at (take m (drop o text))) whole ∙ ap (drop at) of.same)

length_left : (bytes : List ℕ) (at b : ℕ) (rest : List ℕ) → b ∷ rest ≡ drop at bytes → at + length (b ∷ rest) ≡ length bytes
length_left bytes at b rest is =
    let same : length (b ∷ rest) ≡ length bytes - at = ap length is ∙ length-drop at bytes in
    omega (arith, same)

pub drop_next : (bytes : List ℕ) (at b : ℕ) (rest : List ℕ) → b ∷ rest ≡ drop at bytes → rest ≡ drop (at + 1) bytes
drop_next bytes at b rest is = ap (drop 1) is ∙ drop-drop 1 at bytes

part_of_cut : (at size end : ℕ) (bytes : List ℕ) → at + size ≤ end → take size (drop at bytes) ≡ take size (drop at (take end bytes))
part_of_cut at size end bytes within =
    let left = end - at in
    let whole : at + left ≡ end = omega (arith, within) in
    sym (take-take size left (drop at bytes) (omega (arith, within)))
    ∙ ap (take size) (sym (drop-take at left bytes) ∙ ap (λ m. drop at (take m bytes)) whole)

-- the text of a lexeme at the front of what is left of a part of a line
pub lexeme_taken : (path text : List ℕ) (line : TextLine) → IsLineOf text line → (end at b : ℕ) (rest : List ℕ) (k : Kind) (size : ℕ) → b ∷ rest ≡ drop at (take end line.text) → first (b ∷ rest) ≡ Some (k, size)
    → lexeme (lexeme_place path text line at size) ≡ take size (b ∷ rest)
lexeme_taken path text line of end at b rest k size is here =
    let fits : size ≤ length (b ∷ rest) = fits_of (first (b ∷ rest)) k size (length (b ∷ rest)) here (first_fits (b ∷ rest)) in
    let cut : at + size ≤ end = omega (arith, fits, length_left (take end line.text) at b rest is, length-take end line.text) in
    let within : at + size ≤ length line.text = omega (arith, fits, length_left (take end line.text) at b rest is, length-take end line.text) in
    part_of_line path text line at size of within ∙ part_of_cut at size end line.text cut ∙ ap (take size) (sym is)

module _ (P : Lexeme → Type 0) where
  each_more : (l : Lexeme) (others : Option (List Lexeme)) → P l → IfSome others (All P) → IfSome (option_map (λ ls. l ∷ ls) others) (All P)
  each_more l None one all = tt
  each_more l (Some ls) one all = All-cons P l ls one all

  each_before : (token : ℕ → ℕ → Place) (at : ℕ) (f : Option (Kind × ℕ)) (others : ℕ → Option (List Lexeme))
      → ((k : Kind) (size : ℕ) → f ≡ Some (k, size) → P (record { kind = k; token = token at size })) → ((more : ℕ) → IfSome (others more) (All P)) → IfSome (before token at f others) (All P)
  each_before token at None others one all = tt
  each_before token at (Some found) others one all = each_more (record { kind = found.0; token = token at found.1 }) (others (found.1 - 1)) (one found.0 found.1 refl) (all (found.1 - 1))

  module _ (path text : List ℕ) (line : TextLine) (of : IsLineOf text line)
      (one : (bytes : List ℕ) (k : Kind) (size at : ℕ) → first bytes ≡ Some (k, size) → lexeme (lexeme_place path text line at size) ≡ take size bytes → P (record { kind = k; token = lexeme_place path text line at size })) where
    each_from : (end at skip : ℕ) (bytes : List ℕ) → bytes ≡ drop at (take end line.text) → IfSome (lexemes_from (lexeme_place path text line) at skip bytes) (All P)
    each_from end at skip [] is = All-nil P
    each_from end at (suc skip) (b ∷ rest) is = each_from end (at + 1) skip rest (drop_next (take end line.text) at b rest is)
    each_from end at zero (b ∷ rest) is =
        let token = lexeme_place path text line in
        let more : (skip : ℕ) → IfSome (lexemes_from token (at + 1) skip rest) (All P) = λ skip. each_from end (at + 1) skip rest (drop_next (take end line.text) at b rest is) in
        some_if (All P) (is_blank b) _ _ (more 0)
        (each_before token at (first (b ∷ rest)) (λ skip. lexemes_from token (at + 1) skip rest)
        (λ k size here. one (b ∷ rest) k size at here (lexeme_taken path text line of end at b rest k size is here))
        more)

    -- the lexemes of a line
    pub each_lexeme : (start end : ℕ) → IfSome (lexemes path text line start end) (All P)
    unfolding lexemes
    each_lexeme start end = each_from end start 0 (drop start (take end line.text)) refl
