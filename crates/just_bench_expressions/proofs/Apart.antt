-- The lexemes of a part of a line are all of it.
use Rattle.std.proofs.Common.{suc, zero, ◌≡◌, ℕ, ◌+◌, ◌-◌, ◌<◌, ◌≤◌, sym, ◌∙◌, ap, refl, subst, List, [], ◌∷◌, ◌++◌, map, take, drop, Bool, true, false, arith, Option, Some, None, IfSome}
use Rattle.std.specs.Prelude.{if◌then◌else◌, slice_range}
use Rattle.std.specs.List.{position, prefix_len}
use Rattle.std.specs.Option.{option_map}
use Rattle.std.proofs.lemmas.List.{take-append-drop, drop-take}
use Rattle.std.proofs.lemmas.List.Elements.{All-nil, All-cons}
use Rattle.just_names.specs.Token.{Place, lexeme}
use Rattle.just_names.specs.Texts.{Text}
use Rattle.just_names.specs.Identifier.{is_identifier_start, is_identifier_continue}
use Rattle.just_bench_expressions.specs.declared.lines.TextLine.{TextLine}
use Rattle.just_bench_expressions.specs.declared.lexer.Kind.{Kind}
use Rattle.just_bench_expressions.specs.declared.lexer.Kind.TheVariants as kind
use Rattle.just_bench_expressions.specs.declared.lexer.Lexeme.{Lexeme}
use Rattle.just_bench_expressions.specs.Apart.{StandApart, nothing, after}
use Rattle.just_bench_expressions.specs.Lines.{IsLineOf}
use Rattle.just_bench_expressions.specs.Lexemes.{is_blank, is_quote, quoted, double_mark, single_mark, mark, first, lexeme_place, before, lexemes_from, lexemes}
use Rattle.just_bench_expressions.proofs.Each.{some_if, drop_next, lexeme_taken}

-- a lexeme at the front is some bytes
abbrev IsSomething : Kind × ℕ → Type 0
IsSomething found = 0 < found.1

quoted_some : (o : Option ℕ) → IfSome (option_map {U = Kind × ℕ} (λ inside. (kind.Quoted, inside + 2)) o) IsSomething
quoted_some None = tt
quoted_some (Some n) = omega arith

mark_some : (double single : Option Kind) → IfSome (mark double single) IsSomething
mark_some (Some k) single = omega arith
mark_some None None = tt
mark_some None (Some k) = omega arith

first_some : (bytes : List ℕ) → IfSome (first bytes) IsSomething
first_some [] = tt
first_some (b ∷ rest) =
    some_if IsSomething (is_identifier_start b) (Some (kind.Name, prefix_len is_identifier_continue rest + 1)) _ (omega arith)
    (some_if IsSomething (is_quote b) (quoted rest) (mark (double_mark b rest) (single_mark b)) (quoted_some (position is_quote rest)) (mark_some (double_mark b rest) (single_mark b)))

abbrev texts_of : List Lexeme → List Text
texts_of all = map (λ (l : Lexeme). lexeme l.token) all

-- a blank more before them
blank_before : (b : ℕ) (texts : List Text) (text : Text) → is_blank b ≡ true → StandApart texts text → StandApart texts (b ∷ text)
blank_before b texts text is (nothing blanks all) = nothing (b ∷ blanks) (All-cons (λ c. is_blank c ≡ true) b blanks is all)
blank_before b texts text is (after blanks first rest others all apart) = after (b ∷ blanks) first rest others (All-cons (λ c. is_blank c ≡ true) b blanks is all) apart

dropped_one : (size b : ℕ) (rest : List ℕ) → 0 < size → drop size (b ∷ rest) ≡ drop (size - 1) rest
dropped_one zero b rest some = absurd (omega (arith, some))
dropped_one (suc n) b rest some = let same : suc n - 1 ≡ n = omega arith in ap (λ m. drop m rest) (sym same)

-- a lexeme before others
lexeme_before : (l : Lexeme) (size b : ℕ) (rest : List ℕ) (o : Option (List Lexeme)) → lexeme l.token ≡ take size (b ∷ rest) → 0 < size
    → IfSome o (λ ls. StandApart (texts_of ls) (drop (size - 1) rest)) → IfSome (option_map (λ ls. l ∷ ls) o) (λ ls. StandApart (texts_of ls) (b ∷ rest))
lexeme_before l size b rest None is some apart = tt
lexeme_before l size b rest (Some ls) is some apart =
    let whole : lexeme l.token ++ drop (size - 1) rest ≡ b ∷ rest = ap (λ t. t ++ drop (size - 1) rest) is ∙ ap (λ t. take size (b ∷ rest) ++ t) (sym (dropped_one size b rest some)) ∙ take-append-drop size (b ∷ rest) in
    subst (StandApart (texts_of (l ∷ ls))) whole (after [] (lexeme l.token) (drop (size - 1) rest) (texts_of ls) (All-nil (λ c. is_blank c ≡ true)) apart)

if_either : {A : Type 0} (P : A → Type 0) (c : Bool) (a b : Option A) → (c ≡ true → IfSome a P) → (c ≡ false → IfSome b P) → IfSome (if c then a else b) P
if_either P true a b p q = p refl
if_either P false a b p q = q refl

if_more : {A : Type 0} (P Q : A → Type 0) (o : Option A) → ((x : A) → P x → Q x) → IfSome o P → IfSome o Q
if_more P Q None all one = tt
if_more P Q (Some x) all one = all x one

some_of : (o : Option (Kind × ℕ)) (k : Kind) (size : ℕ) → o ≡ Some (k, size) → IfSome o IsSomething → 0 < size
some_of o k size is some = rw is at some

none_dropped : (n : ℕ) → drop {A = ℕ} n [] ≡ []
none_dropped zero = refl
none_dropped (suc n) = refl

module _ (path text : List ℕ) (line : TextLine) (of : IsLineOf text line) (end : ℕ) where
  abbrev token : ℕ → ℕ → Place
  token = lexeme_place path text line

  apart_first : (at b : ℕ) (rest : List ℕ) (f : Option (Kind × ℕ)) → b ∷ rest ≡ drop at (take end line.text) → first (b ∷ rest) ≡ f
      → ((skip : ℕ) → IfSome (lexemes_from token (at + 1) skip rest) (λ ls. StandApart (texts_of ls) (drop skip rest)))
      → IfSome (before token at f (λ more. lexemes_from token (at + 1) more rest)) (λ ls. StandApart (texts_of ls) (b ∷ rest))
  apart_first at b rest None is here more = tt
  apart_first at b rest (Some found) is here more =
      lexeme_before (record { kind = found.0; token = token at found.1 }) found.1 b rest (lexemes_from token (at + 1) (found.1 - 1) rest)
      (lexeme_taken path text line of end at b rest found.0 found.1 is here) (some_of (first (b ∷ rest)) found.0 found.1 here (first_some (b ∷ rest))) (more (found.1 - 1))

  apart_from : (at skip : ℕ) (bytes : List ℕ) → bytes ≡ drop at (take end line.text) → IfSome (lexemes_from token at skip bytes) (λ ls. StandApart (texts_of ls) (drop skip bytes))
  apart_from at skip [] is = subst (StandApart []) (sym (none_dropped skip)) (nothing [] (All-nil (λ c. is_blank c ≡ true)))
  apart_from at (suc skip) (b ∷ rest) is = apart_from (at + 1) skip rest (drop_next (take end line.text) at b rest is)
  apart_from at zero (b ∷ rest) is =
      let more : (skip : ℕ) → IfSome (lexemes_from token (at + 1) skip rest) (λ ls. StandApart (texts_of ls) (drop skip rest)) = λ skip. apart_from (at + 1) skip rest (drop_next (take end line.text) at b rest is) in
      if_either (λ ls. StandApart (texts_of ls) (b ∷ rest)) (is_blank b) _ _
      (λ blank. if_more (λ ls. StandApart (texts_of ls) rest) (λ ls. StandApart (texts_of ls) (b ∷ rest)) (lexemes_from token (at + 1) 0 rest) (λ ls apart. blank_before b (texts_of ls) rest blank apart) (more 0))
      (λ sharp. apart_first at b rest (first (b ∷ rest)) is refl more)

cut_is : (bytes : List ℕ) (start end : ℕ) → start ≤ end → drop start (take end bytes) ≡ slice_range bytes start end
cut_is bytes start end ordered =
    let whole : start + (end - start) ≡ end = omega (arith, ordered) in
    ap (λ n. drop start (take n bytes)) (sym whole) ∙ drop-take start (end - start) bytes

-- the lexemes of a part of a line
pub lexemes_apart : (path text : List ℕ) (line : TextLine) (start end : ℕ) (all : List Lexeme) → IsLineOf text line → start ≤ end → lexemes path text line start end ≡ Some all
    → StandApart (map (λ (l : Lexeme). lexeme l.token) all) (slice_range line.text start end)
unfolding lexemes
lexemes_apart path text line start end all of ordered is =
    subst (StandApart (texts_of all)) (cut_is line.text start end ordered)
    (subst (λ o. IfSome o (λ ls. StandApart (texts_of ls) (drop start (take end line.text)))) is (apart_from path text line of end start 0 (drop start (take end line.text)) refl))
