-- Marks are spelled as their kind says.
use Rattle.std.proofs.Common.{◌≡◌, ℕ, ◌+◌, refl, List, [], ◌∷◌, take, Bool, true, false, arith, Option, Some, None, IfSome, ◌==◌}
use Rattle.std.specs.Prelude.{if◌then◌else◌, ◌&&◌}
use Rattle.std.specs.List.{All, position, prefix_len}
use Rattle.std.specs.Option.{option_map}
use Rattle.just_names.specs.Token.{lexeme}
use Rattle.just_names.specs.Identifier.{is_identifier_start, is_identifier_continue}
use Rattle.just_bench_expressions.specs.declared.lines.TextLine.{TextLine}
use Rattle.just_bench_expressions.specs.declared.lexer.Kind.{Kind}
use Rattle.just_bench_expressions.specs.declared.lexer.Kind.TheVariants as kind
use Rattle.just_bench_expressions.specs.declared.lexer.Lexeme.{Lexeme}
use Rattle.just_bench_expressions.specs.Lines.{IsLineOf}
use Rattle.just_bench_expressions.specs.Lexemes.{is_quote, quoted, double_mark, single_mark, mark, first, lexemes}
use Rattle.just_bench_expressions.proofs.Each.{some_if, each_lexeme}

-- the text of the marks that expressions have
abbrev pub mark_text : Kind → Option (List ℕ)
mark_text kind.Plus = Some (43 ∷ [])
mark_text kind.Comma = Some (44 ∷ [])
mark_text kind.ParenOpen = Some (40 ∷ [])
mark_text kind.ParenClose = Some (41 ∷ [])
mark_text kind.BracketOpen = Some (91 ∷ [])
mark_text kind.BracketClose = Some (93 ∷ [])
mark_text _ = None

-- the text is that of the mark, if it is one
abbrev pub IsTextOf : Kind → List ℕ → Type 0
IsTextOf k text = IfSome (mark_text k) (λ m. text ≡ m)

abbrev pub IsPlain : Lexeme → Type 0
IsPlain l = IsTextOf l.kind (lexeme l.token)

-- a kind and a size at the front of bytes
abbrev IsFront : List ℕ → Kind × ℕ → Type 0
IsFront bytes found = IsTextOf found.0 (take found.1 bytes)

same_byte : (b m : ℕ) → (b == m) ≡ true → b ∷ [] ≡ m ∷ []
same_byte b m h = grind arith

one_of : (b m : ℕ) (c : Bool) (k : Kind) (others : Option Kind) → (b == m) ≡ c → ((b ∷ [] ≡ m ∷ []) → IsTextOf k (b ∷ [])) → IfSome others (λ k. IsTextOf k (b ∷ [])) → IfSome (if c then Some k else others) (λ k. IsTextOf k (b ∷ []))
one_of b m true k others is here more = here (same_byte b m is)
one_of b m false k others is here more = more

single_is_plain : (b : ℕ) → IfSome (single_mark b) (λ k. IsTextOf k (b ∷ []))
single_is_plain b =
    one_of b 58 (b == 58) kind.Colon _ refl (λ _. tt)
    (one_of b 61 (b == 61) kind.Equals _ refl (λ _. tt)
    (one_of b 63 (b == 63) kind.Question _ refl (λ _. tt)
    (one_of b 42 (b == 42) kind.Star _ refl (λ _. tt)
    (one_of b 43 (b == 43) kind.Plus _ refl (λ h. h)
    (one_of b 64 (b == 64) kind.At _ refl (λ _. tt)
    (one_of b 44 (b == 44) kind.Comma _ refl (λ h. h)
    (one_of b 40 (b == 40) kind.ParenOpen _ refl (λ h. h)
    (one_of b 41 (b == 41) kind.ParenClose _ refl (λ h. h)
    (one_of b 91 (b == 91) kind.BracketOpen _ refl (λ h. h)
    (one_of b 93 (b == 93) kind.BracketClose None refl (λ h. h) tt))))))))))

double_is_plain : (b : ℕ) (rest text : List ℕ) → IfSome (double_mark b rest) (λ k. IsTextOf k text)
double_is_plain b [] text = tt
double_is_plain b (c ∷ rest) text =
    some_if (λ k. IsTextOf k text) (b == 58 && c == 61) (Some kind.Assign) _ tt (some_if (λ k. IsTextOf k text) (b == 38 && c == 38) (Some kind.And) None tt tt)

mark_is_plain : (b : ℕ) (rest : List ℕ) (double single : Option Kind) → IfSome double (λ k. IsTextOf k (take 2 (b ∷ rest))) → IfSome single (λ k. IsTextOf k (b ∷ [])) → IfSome (mark double single) (IsFront (b ∷ rest))
mark_is_plain b rest (Some k) single d s = d
mark_is_plain b rest None None d s = tt
mark_is_plain b rest None (Some k) d s = s

quoted_is_plain : (b : ℕ) (rest : List ℕ) (o : Option ℕ) → IfSome (option_map {U = Kind × ℕ} (λ inside. (kind.Quoted, inside + 2)) o) (IsFront (b ∷ rest))
quoted_is_plain b rest None = tt
quoted_is_plain b rest (Some n) = tt

first_is_plain : (bytes : List ℕ) → IfSome (first bytes) (IsFront bytes)
first_is_plain [] = tt
first_is_plain (b ∷ rest) =
    some_if (IsFront (b ∷ rest)) (is_identifier_start b) (Some (kind.Name, prefix_len is_identifier_continue rest + 1)) _ tt
    (some_if (IsFront (b ∷ rest)) (is_quote b) (quoted rest) (mark (double_mark b rest) (single_mark b)) (quoted_is_plain b rest (position is_quote rest))
    (mark_is_plain b rest (double_mark b rest) (single_mark b) (double_is_plain b rest (take 2 (b ∷ rest))) (single_is_plain b)))

front_of_some : (bytes : List ℕ) (o : Option (Kind × ℕ)) (k : Kind) (size : ℕ) → o ≡ Some (k, size) → IfSome o (IsFront bytes) → IsTextOf k (take size bytes)
front_of_some bytes o k size is plain = rw is at plain

-- the lexemes of a line
pub plain_lexemes : (path text : List ℕ) (line : TextLine) (start end : ℕ) → IsLineOf text line → IfSome (lexemes path text line start end) (All IsPlain)
plain_lexemes path text line start end of =
    each_lexeme IsPlain path text line of
    (λ bytes k size at here is. rw is (front_of_some bytes (first bytes) k size here (first_is_plain bytes)))
    start end
