-- Quoted texts, from the lexemes of a line to what it says.
use Rattle.std.proofs.Common.{suc, ◌≡◌, ℕ, ◌+◌, ◌-◌, ◌<◌, ◌≤◌, sym, ◌∙◌, ap, refl, subst, List, [], ◌∷◌, ◌++◌, length, take, drop, get_or, Bool, true, false, arith, Option, Some, None, IfSome, length-append, ◌==◌}
use Rattle.std.proofs.Math.Seq.{get_or-append_seam, take-append_seam}
use Rattle.std.proofs.lemmas.Option.{some_pair_parts}
use Rattle.std.proofs.lemmas.Bool.{false≢true}
use Rattle.std.specs.Prelude.{if◌then◌else◌, ◌&&◌}
use Rattle.std.specs.List.{All, position, prefix_len}
use Rattle.std.specs.Option.{option_map}
use Rattle.std.proofs.lemmas.List.{take_more, get_or-take, get_or_default, length-take, drop_all, append-nil}
use Rattle.std.specs.Str.{IsCharBoundary, IsUtf8}
use Rattle.std.proofs.lemmas.Str.{IsCharBoundary-after_ascii, IsCharBoundary-before_ascii}
use Rattle.just_names.specs.Identifier.{is_identifier_start, is_identifier_continue}
use Rattle.just_bench_expressions.specs.declared.lines.TextLine.{TextLine}
use Rattle.just_bench_expressions.specs.declared.lexer.Kind.{Kind}
use Rattle.just_bench_expressions.specs.declared.lexer.Kind.TheVariants as kind
use Rattle.just_bench_expressions.specs.declared.lexer.Lexeme.{Lexeme}
use Rattle.just_bench_expressions.specs.Lines.{IsLineOf}
use Rattle.just_bench_expressions.specs.Lexemes.{is_quote, quoted, double_mark, single_mark, mark, first, lexeme_place, lexemes_from, lexemes, is_quoted, IsQuoted, HasQuotes, between_quotes}
use Rattle.just_bench_expressions.proofs.Each.{each_lexeme}
use Rattle.just_bench_expressions.proofs.Lexing.{Lexed, quote_found}

-- a quoted text at the front
pub quoted_front : (rest : List ℕ) (n : ℕ) → Some n ≡ position is_quote rest → IsQuoted (take (n + 2) (39 ∷ rest))
quoted_front rest n found =
    let at = quote_found rest n found in
    let size : n + 2 ≡ suc (n + 1) = omega arith in
    let whole : take (n + 2) (39 ∷ rest) ≡ 39 ∷ take n rest ++ 39 ∷ [] = ap (λ m. take m (39 ∷ rest)) size ∙ ap (λ t. 39 ∷ t) (take_more rest n 0 at.0 ∙ ap (λ b. take n rest ++ b ∷ []) at.1) in
    record {
      inside = take n rest;
      whole = whole;
      clear = λ k d h.
          let below : k < n = omega (arith, h, length-take n rest) in
          rw (get_or-take n rest k d below, get_or_default rest k d 0 (omega (arith, below, at.0))) (at.2 k below);
    }

clash : {X : Type 0} (j k : Kind) (n size : ℕ) → is_quoted j ≡ false → is_quoted k ≡ true → Path (Option (Kind × ℕ)) (Some (j, n)) (Some (k, size)) → X
clash j k n size other is_one is = absurd (false≢true (sym other ∙ ap is_quoted (some_pair_parts j k n size is).0 ∙ is_one))

not_quoted_if : (c : Bool) (k : Kind) (other : Option Kind) → is_quoted k ≡ false → IfSome other (λ k. is_quoted k ≡ false) → IfSome (if c then Some k else other) (λ k. is_quoted k ≡ false)
not_quoted_if true k other is others = is
not_quoted_if false k other is others = others

single_is_other : (b : ℕ) → IfSome (single_mark b) (λ k. is_quoted k ≡ false)
single_is_other b =
    not_quoted_if (b == 58) kind.Colon _ refl
    (not_quoted_if (b == 61) kind.Equals _ refl
    (not_quoted_if (b == 63) kind.Question _ refl
    (not_quoted_if (b == 42) kind.Star _ refl
    (not_quoted_if (b == 43) kind.Plus _ refl
    (not_quoted_if (b == 64) kind.At _ refl
    (not_quoted_if (b == 44) kind.Comma _ refl
    (not_quoted_if (b == 40) kind.ParenOpen _ refl
    (not_quoted_if (b == 41) kind.ParenClose _ refl
    (not_quoted_if (b == 91) kind.BracketOpen _ refl
    (not_quoted_if (b == 93) kind.BracketClose None refl tt))))))))))

double_is_other : (b : ℕ) (rest : List ℕ) → IfSome (double_mark b rest) (λ k. is_quoted k ≡ false)
double_is_other b [] = tt
double_is_other b (c ∷ rest) = not_quoted_if (b == 58 && c == 61) kind.Assign _ refl (not_quoted_if (b == 38 && c == 38) kind.And None refl tt)

mark_is_other : (double single : Option Kind) (k : Kind) (size : ℕ) → IfSome double (λ k. is_quoted k ≡ false) → IfSome single (λ k. is_quoted k ≡ false) → mark double single ≡ Some (k, size) → is_quoted k ≡ true → ⊥
mark_is_other (Some j) single k size d s is q = clash j k 2 size d q is
mark_is_other None (Some j) k size d s is q = clash j k 1 size s q is
mark_is_other None None k size d s is q = cc

-- only a quoted text is one
quoted_only : (a d : Bool) (n : ℕ) (others marks : Option (Kind × ℕ)) (k : Kind) (size : ℕ) → is_quoted k ≡ true → (marks ≡ Some (k, size) → ⊥)
    → if◌then◌else◌ {A = Option (Kind × ℕ)} a (Some (kind.Name, n)) (if d then others else marks) ≡ Some (k, size)
    → (d ≡ true) × (others ≡ Some (k, size))
quoted_only true d n others marks k size q never is = clash kind.Name k n size refl q is
quoted_only false true n others marks k size q never is = (refl, is)
quoted_only false false n others marks k size q never is = absurd (never is)

quoted_size : (o : Option ℕ) (k : Kind) (size : ℕ) → option_map {U = Kind × ℕ} (λ inside. (kind.Quoted, inside + 2)) o ≡ Some (k, size) → (n : ℕ) × (o ≡ Some n) × (size ≡ n + 2)
quoted_size None k size is = cc
quoted_size (Some n) k size is = (n, refl, sym (some_pair_parts kind.Quoted k (n + 2) size is).1)

-- a lexeme of this kind at the front is a quoted text, and is there
first_quoted : (bytes : List ℕ) (k : Kind) (size : ℕ) → first bytes ≡ Some (k, size) → is_quoted k ≡ true → IsQuoted (take size bytes)
first_quoted [] k size is q = cc
first_quoted (b ∷ rest) k size is q =
    let marks : mark (double_mark b rest) (single_mark b) ≡ Some (k, size) → ⊥ = λ here. mark_is_other (double_mark b rest) (single_mark b) k size (double_is_other b rest) (single_is_other b) here q in
    let only = quoted_only (is_identifier_start b) (is_quote b) (prefix_len is_identifier_continue rest + 1) (quoted rest) (mark (double_mark b rest) (single_mark b)) k size q marks is in
    let found = quoted_size (position is_quote rest) k size only.1 in
    let n = found.0 in
    let quote : b ≡ 39 = grind (arith, only.0) in
    rw (quote, found.2) (quoted_front rest n (sym found.1))

-- the lexemes of a line
pub sound_lexemes : (path text : List ℕ) (line : TextLine) (start end : ℕ) → IsLineOf text line → IfSome (lexemes path text line start end) (All HasQuotes)
sound_lexemes path text line start end of = each_lexeme HasQuotes path text line of (λ bytes k size at here is quoted. subst IsQuoted (sym is) (first_quoted bytes k size here quoted)) start end

-- those that were read, where nothing is left
pub read_quoted : (path text : List ℕ) (line : TextLine) (start end : ℕ) (found : List Lexeme) (at : ℕ) → IsLineOf text line
    → Lexed path text line start end found at → length (take end line.text) ≤ at → All HasQuotes found
read_quoted path text line start end found at of read none =
    let is : lexemes path text line start end ≡ Some found =
    read.whole ∙ ap (λ rest. option_map (λ more. found ++ more) (lexemes_from (lexeme_place path text line) at 0 rest)) (drop_all at (take end line.text) none) ∙ ap Some (append-nil found) in
    subst (λ all. IfSome all (All HasQuotes)) is (sound_lexemes path text line start end of)

-- the text between the quotes is cut at characters
pub quote_starts : (text : List ℕ) → IsUtf8 text → IsQuoted text → IsCharBoundary text 1
quote_starts text utf8 q =
    let some : 0 < length text = rw q.whole (omega arith) in
    let front : get_or text 0 0 < 128 = rw q.whole (omega arith) in
    IsCharBoundary-after_ascii text 0 utf8 some front

pub quote_ends : (text : List ℕ) → IsQuoted text → IsCharBoundary text (length text - 1)
quote_ends text q =
    let size : length text ≡ length q.inside + 2 = ap length q.whole ∙ omega (arith, length-append q.inside (39 ∷ [])) in
    let at : length text - 1 ≡ suc (length q.inside) = omega (arith, size) in
    let back : get_or text (length text - 1) 0 ≡ 39 = rw at (ap (λ t. get_or t (suc (length q.inside)) 0) q.whole ∙ get_or-append_seam q.inside 39 [] 0) in
    IsCharBoundary-before_ascii text (length text - 1) (omega (arith, size)) (omega (arith, back))

-- the text between the quotes, with the quotes
pub quotes_stand_round : (text : List ℕ) → IsQuoted text → 39 ∷ between_quotes text ++ 39 ∷ [] ≡ text
quotes_stand_round text q =
    let size : length text ≡ length q.inside + 2 = ap length q.whole ∙ omega (arith, length-append q.inside (39 ∷ [])) in
    let count : length text - 1 - 1 ≡ length q.inside = omega (arith, size) in
    let inside : between_quotes text ≡ q.inside = ap (λ n. take n (drop 1 text)) count ∙ ap (λ t. take (length q.inside) (drop 1 t)) q.whole ∙ take-append_seam q.inside (39 ∷ []) in
    ap (λ t. 39 ∷ t ++ 39 ∷ []) inside ∙ sym q.whole
