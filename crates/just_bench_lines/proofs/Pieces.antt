-- The pieces of a line of a body are the line.
use Rattle.std.proofs.Common.{suc, zero, inl, inr, ◌≡◌, ℕ, ◌+◌, ◌-◌, ◌<◌, ◌≤◌, sym, ◌∙◌, ap, refl, subst, List, [], ◌∷◌, ◌++◌, length, map, take, drop, Bool, true, false, arith, append_assoc, length-append, length-drop, Option, Some, None, IfSome}
use Rattle.std.specs.Prelude.{if◌then◌else◌, codes, ◌==◌, ◌&&◌, not}
use Rattle.std.specs.Option.{option_map}
use Rattle.std.proofs.lemmas.Bool.{cases_lt, false≢true}
use Rattle.std.proofs.lemmas.List.{drop_all, drop-drop, take-append-drop, length-take, take_all}
use Rattle.std.proofs.lemmas.List.Concat.{flat_map-cons}
use Rattle.just_names.specs.Texts.{Text}
use Rattle.just_ast_expressions.specs.declared.expression.Expression.{Expression}
use Rattle.just_ast_definitions.specs.declared.line.Fragment.{Fragment}
use Rattle.just_ast_definitions.specs.declared.line.Fragment.TheVariants as fragment
use Rattle.just_bench_expressions.specs.declared.lexer.Lexeme.{Lexeme}
use Rattle.just_bench_expressions.specs.declared.lines.TextLine.{TextLine}
use Rattle.just_bench_expressions.specs.Features.{list_features}
use Rattle.just_bench_expressions.specs.Lexemes.{lexemes}
use Rattle.just_bench_expressions.specs.Lines.{IsLineOf}
use Rattle.just_bench_expressions.proofs.Each.{part_of_line}
use Rattle.just_bench_lines.specs.declared.body.BodyLine.{BodyLine}
use Rattle.just_bench_lines.specs.declared.body.Part.{Part}
use Rattle.just_bench_lines.specs.Body.{before_others, body_line, close_at, close_from, closed, closes, closes_twice, in_quotes, interpolated, interpolation_of, line_of_parts, part, part_by, parts_from, text_part_at, twice_at}
use Rattle.just_bench_lines.specs.Definitions.{whole_expression}
use Rattle.just_bench_lines.specs.Pieces.{ArePieces, AreFrom, HasNoOpening, IsPiece}
use Rattle.just_bench_lines.proofs.Bounds.{twice_found, TwiceAt, close_found, ClosesAt}
use Rattle.just_bench_lines.proofs.Joined.{at_one, rest_after}

-- no two of these stand side by side
abbrev NoTwice : ℕ → List ℕ → Type 0
NoTwice byte xs = (before after : List ℕ) → xs ≡ before ++ byte ∷ byte ∷ after → ⊥

head_is : (x y : ℕ) (xs ys : List ℕ) → x ∷ xs ≡ y ∷ ys → (x ≡ y) × (xs ≡ ys)
head_is x y xs ys is = (cc, cc)

no_twice-nil : (byte : ℕ) → NoTwice byte []
no_twice-nil byte [] after is = cc
no_twice-nil byte (b ∷ before) after is = cc

two_are : (b c byte : ℕ) → b ≡ byte → c ≡ byte → (b == byte && c == byte) ≡ true
two_are b c byte first second = grind (arith, first, second)

no_twice-cons : (byte b c : ℕ) (xs : List ℕ) → NoTwice byte xs → ((d : ℕ) (ys : List ℕ) → xs ≡ d ∷ ys → d ≡ c) → (b == byte && c == byte) ≡ false → NoTwice byte (b ∷ xs)
no_twice-cons byte b c xs none front other [] after is =
    let parts = head_is b byte xs (byte ∷ after) is in
    false≢true (sym other ∙ two_are b c byte parts.0 (sym (front byte after parts.1)))
no_twice-cons byte b c xs none front other (d ∷ before) after is = none before after (head_is b d xs (before ++ byte ∷ byte ∷ after) is).1

no_twice-one : (byte b : ℕ) → NoTwice byte (b ∷ [])
no_twice-one byte b [] after is = cc
no_twice-one byte b (d ∷ before) after is = no_twice-nil byte before after (head_is b d [] (before ++ byte ∷ byte ∷ after) is).1

none_of_suc : (o : Option ℕ) → option_map suc o ≡ None → o ≡ None
none_of_suc None is = refl
none_of_suc (Some n) is = cc

some_of_suc : (o : Option ℕ) (n : ℕ) → option_map suc o ≡ Some n → (m : ℕ) × (o ≡ Some m) × (n ≡ suc m)
some_of_suc None n is = cc
some_of_suc (Some m) n is = (m, refl, cc)

twice_none_by : (byte b c : ℕ) (rest : List ℕ) (t : Bool) → (b == byte && c == byte) ≡ t → (if t then Some 0 else option_map suc (twice_at byte (c ∷ rest))) ≡ None
    → (twice_at byte (c ∷ rest) ≡ None → NoTwice byte (c ∷ rest)) → NoTwice byte (b ∷ c ∷ rest)
twice_none_by byte b c rest true test is more = cc
twice_none_by byte b c rest false test is more = no_twice-cons byte b c (c ∷ rest) (more (none_of_suc (twice_at byte (c ∷ rest)) is)) (λ d ys same. sym (head_is c d rest ys same).0) test

twice_none : (byte : ℕ) (bytes : List ℕ) → twice_at byte bytes ≡ None → NoTwice byte bytes
twice_none byte [] is = no_twice-nil byte
twice_none byte (b ∷ []) is = no_twice-one byte b
twice_none byte (b ∷ c ∷ rest) is = twice_none_by byte b c rest (b == byte && c == byte) refl is (λ none. twice_none byte (c ∷ rest) none)

taken_front : (m c d : ℕ) (rest ys : List ℕ) → take m (c ∷ rest) ≡ d ∷ ys → d ≡ c
taken_front zero c d rest ys is = cc
taken_front (suc m) c d rest ys is = sym (head_is c d (take m rest) ys is).0

twice_some_by : (byte b c : ℕ) (rest : List ℕ) (n : ℕ) (t : Bool) → (b == byte && c == byte) ≡ t → (if t then Some 0 else option_map suc (twice_at byte (c ∷ rest))) ≡ Some n
    → ((m : ℕ) → twice_at byte (c ∷ rest) ≡ Some m → NoTwice byte (take m (c ∷ rest))) → NoTwice byte (take n (b ∷ c ∷ rest))
twice_some_by byte b c rest n true test is more = subst (λ (o : Option ℕ). IfSome o (λ k. NoTwice byte (take k (b ∷ c ∷ rest)))) is (no_twice-nil byte)
twice_some_by byte b c rest n false test is more =
    let found = some_of_suc (twice_at byte (c ∷ rest)) n is in
    let m = found.0 in
    subst (λ k. NoTwice byte (take k (b ∷ c ∷ rest))) (sym found.2) (no_twice-cons byte b c (take m (c ∷ rest)) (more m found.1) (λ d ys same. taken_front m c d rest ys same) test)

-- before the first two
twice_some : (byte : ℕ) (bytes : List ℕ) (n : ℕ) → twice_at byte bytes ≡ Some n → NoTwice byte (take n bytes)
twice_some byte [] n is = cc
twice_some byte (b ∷ []) n is = cc
twice_some byte (b ∷ c ∷ rest) n is = twice_some_by byte b c rest n (b == byte && c == byte) refl is (λ m found. twice_some byte (c ∷ rest) m found)

twice_front_by : (byte b c : ℕ) (rest : List ℕ) (t : Bool) → (b == byte && c == byte) ≡ t → (if t then Some 0 else option_map suc (twice_at byte (c ∷ rest))) ≡ Some 0
    → (after : List ℕ) × (b ∷ c ∷ rest ≡ byte ∷ byte ∷ after)
twice_front_by byte b c rest true test is =
    let first : b ≡ byte = grind (arith, test) in
    let second : c ≡ byte = grind (arith, test) in
    (rest, λ i. first i ∷ second i ∷ rest)
twice_front_by byte b c rest false test is = let found = some_of_suc (twice_at byte (c ∷ rest)) 0 is in absurd (never found.0 found.2)
  where
    never : (m : ℕ) → 0 ≡ suc m → ⊥
    never m h = omega (arith, h)

-- two at the front
pub twice_front : (byte : ℕ) (bytes : List ℕ) → twice_at byte bytes ≡ Some 0 → (after : List ℕ) × (bytes ≡ byte ∷ byte ∷ after)
twice_front byte [] is = cc
twice_front byte (b ∷ []) is = cc
twice_front byte (b ∷ c ∷ rest) is = twice_front_by byte b c rest (b == byte && c == byte) refl is

-- `}}` stands at a place
abbrev ClosedAt : List ℕ → ℕ → Type 0
ClosedAt bytes n = (after : List ℕ) × (drop n bytes ≡ 125 ∷ 125 ∷ after)

last_two : (x y z : Bool) → (x && (y && z)) ≡ true → (y ≡ true) × (z ≡ true)
last_two true true true h = (refl, refl)
last_two true true false h = absurd (false≢true h)
last_two true false z h = absurd (false≢true h)
last_two false y z h = absurd (false≢true h)

closes_is : (rest : List ℕ) → closes rest ≡ true → (after : List ℕ) × (rest ≡ 125 ∷ after)
closes_is [] h = absurd (false≢true h)
closes_is (b ∷ rest) h = let is : b ≡ 125 = grind (arith, h) in (rest, λ i. is i ∷ rest)

close_by : (quoted : Bool) (b : ℕ) (rest : List ℕ) (n : ℕ) (t : Bool) → (not (in_quotes quoted b) && closes_twice (b ∷ rest)) ≡ t
    → (if t then Some 0 else option_map suc (close_from (in_quotes quoted b) rest)) ≡ Some n → ((m : ℕ) → close_from (in_quotes quoted b) rest ≡ Some m → ClosedAt rest m) → ClosedAt (b ∷ rest) n
close_by quoted b rest n true test is more =
    let two = last_two (not (in_quotes quoted b)) (b == 125) (closes rest) test in
    let first : b ≡ 125 = grind (arith, two.0) in
    let second = closes_is rest two.1 in
    subst (λ (o : Option ℕ). IfSome o (λ k. ClosedAt (b ∷ rest) k)) is (second.0, λ i. first i ∷ second.1 i)
close_by quoted b rest n false test is more =
    let found = some_of_suc (close_from (in_quotes quoted b) rest) n is in
    subst (λ k. ClosedAt (b ∷ rest) k) (sym found.2) (more found.0 found.1)

close_is : (quoted : Bool) (bytes : List ℕ) (n : ℕ) → close_from quoted bytes ≡ Some n → ClosedAt bytes n
close_is quoted [] n is = cc
close_is quoted (b ∷ rest) n is = close_by quoted b rest n (not (in_quotes quoted b) && closes_twice (b ∷ rest)) refl is (λ m found. close_is (in_quotes quoted b) rest m found)

no_opening : (piece : Text) → NoTwice 123 piece → HasNoOpening piece
no_opening piece none = λ before after is. none before after (is ∙ append_assoc before (123 ∷ 123 ∷ []) after)

module _ (path text : List ℕ) (line : TextLine) (of : IsLineOf text line) where
  -- the piece that a part takes
  record PieceOf (at : ℕ) (p : Part) : Type 0 where
    piece : Text
    is : IsPiece path text line at p.fragment piece
    whole : drop at line.text ≡ piece ++ drop p.end line.text
    size : at + length piece ≡ p.end
    onward : at < p.end
    within : p.end ≤ length line.text

  text_piece : (at end : ℕ) → at < end → end ≤ length line.text → NoTwice 123 (take (end - at) (drop at line.text)) → PieceOf at (text_part_at path text line at end)
  text_piece at end onward within none =
      let place_is : at + (end - at) ≡ end = omega (arith, onward) in
      record {
        piece = take (end - at) (drop at line.text);
        is = (refl, part_of_line path text line at (end - at) of (omega (arith, onward, within)), no_opening _ none);
        whole = sym (take-append-drop (end - at) (drop at line.text)) ∙ ap (λ t. take (end - at) (drop at line.text) ++ t) (drop-drop (end - at) at line.text ∙ ap (λ n. drop n line.text) place_is);
        size = omega (arith, onward, within, length-take (end - at) (drop at line.text), length-drop at line.text);
        onward = onward;
        within = within;
      }

  braces_piece : (at size : ℕ) (all : List Lexeme) (e : Expression) → twice_at 123 (drop at line.text) ≡ Some 0 → close_at (drop (at + 2) line.text) ≡ Some size
      → lexemes path text line (at + 2) (at + 2 + size) ≡ Some all → whole_expression all 0 ≡ Some e
      → PieceOf at (record { fragment = fragment.Interpolation e; lists = list_features all; end = at + 2 + size + 2 })
  braces_piece at size all e opens closes_there lexed read =
      let begun = twice_front 123 (drop at line.text) opens in
      let ended = close_is false (drop (at + 2) line.text) size closes_there in
      let room = subst (λ o. IfSome o (ClosesAt (drop (at + 2) line.text))) closes_there (close_found false (drop (at + 2) line.text)) in
      let rest = drop (at + 2) line.text in
      let inner = take size rest in
      let inner_size : length inner ≡ size = omega (arith, length-take size rest, room.0) in
      let front : begun.0 ≡ rest = ap (drop 2) (sym begun.1) ∙ drop-drop 2 at line.text in
      let back : ended.0 ≡ drop (at + 2 + size + 2) line.text = ap (drop 2) (sym ended.1) ∙ ap (drop 2) (drop-drop size (at + 2) line.text) ∙ drop-drop 2 (at + 2 + size) line.text in
      let middle : rest ≡ inner ++ 125 ∷ 125 ∷ drop (at + 2 + size + 2) line.text = sym (take-append-drop size rest) ∙ ap (λ t. inner ++ t) (ended.1 ∙ ap (λ t. 125 ∷ 125 ∷ t) back) in
      record {
        piece = codes "{{" ++ inner ++ codes "}}";
        is = (inner, refl, (all, ap (λ n. lexemes path text line (at + 2) (at + 2 + n)) inner_size ∙ lexed, read));
        whole = begun.1 ∙ ap (λ t. 123 ∷ 123 ∷ t) (front ∙ middle ∙ sym (append_assoc inner (125 ∷ 125 ∷ []) (drop (at + 2 + size + 2) line.text)));
        size = omega (arith, inner_size, length-append inner (125 ∷ 125 ∷ []));
        onward = omega arith;
        within = omega (arith, room.0, length-drop (at + 2) line.text);
      }

  read_piece : (at size : ℕ) (all : List Lexeme) (o : Option Expression) (p : Part) → twice_at 123 (drop at line.text) ≡ Some 0 → close_at (drop (at + 2) line.text) ≡ Some size
      → lexemes path text line (at + 2) (at + 2 + size) ≡ Some all → whole_expression all 0 ≡ o → interpolated all (at + 2 + size) o ≡ Some p → PieceOf at p
  read_piece at size all None p opens closes_there lexed read is = cc
  read_piece at size all (Some e) p opens closes_there lexed read is = subst (λ o. IfSome o (PieceOf at)) is (braces_piece at size all e opens closes_there lexed read)

  lexed_piece : (at size : ℕ) (o : Option (List Lexeme)) (p : Part) → twice_at 123 (drop at line.text) ≡ Some 0 → close_at (drop (at + 2) line.text) ≡ Some size
      → lexemes path text line (at + 2) (at + 2 + size) ≡ o → interpolation_of (at + 2 + size) o ≡ Some p → PieceOf at p
  lexed_piece at size None p opens closes_there lexed is = cc
  lexed_piece at size (Some all) p opens closes_there lexed is = read_piece at size all (whole_expression all 0) p opens closes_there lexed refl is

  closed_piece : (at : ℕ) (o : Option ℕ) (p : Part) → twice_at 123 (drop at line.text) ≡ Some 0 → close_at (drop (at + 2) line.text) ≡ o → closed path text line (at + 2) o ≡ Some p → PieceOf at p
  closed_piece at None p opens closes_there is = cc
  closed_piece at (Some size) p opens closes_there is = lexed_piece at size (lexemes path text line (at + 2) (at + 2 + size)) p opens closes_there refl is

  by_piece : (at : ℕ) (o : Option ℕ) (p : Part) → at < length line.text → twice_at 123 (drop at line.text) ≡ o → part_by path text line at o ≡ Some p → PieceOf at p
  by_piece at None p left there is =
      let all : take (length line.text - at) (drop at line.text) ≡ drop at line.text = take_all (length line.text - at) (drop at line.text) (omega (arith, length-drop at line.text)) in
      subst (λ o. IfSome o (PieceOf at)) is (text_piece at (length line.text) left (omega arith) (subst (NoTwice 123) (sym all) (twice_none 123 (drop at line.text) there)))
  by_piece at (Some zero) p left there is = closed_piece at (close_at (drop (at + 2) line.text)) p there refl is
  by_piece at (Some (suc n)) p left there is =
      let found = subst (λ o. IfSome o (TwiceAt 123 (drop at line.text))) there (twice_found 123 (drop at line.text)) in
      let count : at + suc n - at ≡ suc n = omega arith in
      subst (λ o. IfSome o (PieceOf at)) is
      (text_piece at (at + suc n) (omega arith) (omega (arith, found.0, length-drop at line.text)) (subst (λ m. NoTwice 123 (take m (drop at line.text))) (sym count) (twice_some 123 (drop at line.text) (suc n) there)))

  part_piece : (at : ℕ) (p : Part) → at < length line.text → part path text line at ≡ Some p → PieceOf at p
  unfolding part
  part_piece at p left is = by_piece at (twice_at 123 (drop at line.text)) p left refl is

  -- the fragments of parts
  abbrev fragments_of : List Part → List Fragment
  fragments_of parts = map (λ (p : Part). p.fragment) parts

  abbrev From : ℕ → List Part → Type 0
  From at parts = AreFrom path text line at (fragments_of parts)

  from_cons : (at : ℕ) (p : Part) (more : List Part) → PieceOf at p → From p.end more → From at (p ∷ more)
  from_cons at p more it rest = (
    it.piece ∷ rest.0,
    (it.is, subst (λ n. ArePieces path text line n (fragments_of more) rest.0) (sym it.size) rest.1),
    flat_map-cons (λ piece. piece) it.piece rest.0 ∙ ap (λ t. it.piece ++ t) rest.2 ∙ sym it.whole,
  )

  from_more : (at : ℕ) (p : Part) (o : Option (List Part)) (ps : List Part) → option_map (λ more. p ∷ more) o ≡ Some ps → PieceOf at p → ((more : List Part) → o ≡ Some more → From p.end more) → From at ps
  from_more at p None ps is it rest = cc
  from_more at p (Some more) ps is it rest = subst (λ o. IfSome o (From at)) is (from_cons at p more it (rest more refl))

  from_part : (at : ℕ) (o : Option Part) (ps : List Part) → at < length line.text → part path text line at ≡ o → before_others at o (λ skip. parts_from (part path text line) (at + 1) skip (drop (at + 1) line.text)) ≡ Some ps
      → ((end : ℕ) (more : List Part) → at < end → parts_from (part path text line) end 0 (drop end line.text) ≡ Some more → From end more) → From at ps
  from_part at None ps left here is rest = cc
  from_part at (Some p) ps left here is rest =
      let it = part_piece at p left here in
      let same = rest_after (part path text line) at p.end line.text it.onward it.within in
      from_more at p (parts_from (part path text line) (at + 1) (p.end - (at + 1)) (drop (at + 1) line.text)) ps is it (λ more found. rest p.end more it.onward (sym same ∙ found))

  from_end : (at : ℕ) (ps : List Part) → length line.text ≤ at → parts_from (part path text line) at 0 (drop at line.text) ≡ Some ps → From at ps
  from_end at ps past is =
      let none : drop at line.text ≡ [] = drop_all at line.text past in
      subst (λ o. IfSome o (From at)) (sym (ap (parts_from (part path text line) at 0) none) ∙ is) ([], tt, sym none)

  from_any : (n at : ℕ) (ps : List Part) → length line.text ≤ at + n → parts_from (part path text line) at 0 (drop at line.text) ≡ Some ps → From at ps
  from_any zero at ps enough is = from_end at ps (omega (arith, enough)) is
  from_any (suc n) at ps enough is = elim (cases_lt at (length line.text)) [
    | inl left ↦ from_part at (part path text line at) ps left refl (sym (at_one (part path text line) at line.text left) ∙ is)
        (λ end more onward found. from_any n end more (omega (arith, enough, onward)) found)
    | inr past ↦ from_end at ps past is
  ]

  from_line : (start : ℕ) (o : Option (List Part)) (b : BodyLine) → option_map (line_of_parts line.number) o ≡ Some b → ((ps : List Part) → o ≡ Some ps → From start ps) → AreFrom path text line start b.line.fragments
  from_line start None b is all = cc
  from_line start (Some ps) b is all = subst (λ o. IfSome o (λ (b : BodyLine). AreFrom path text line start b.line.fragments)) is (all ps refl)

  line_from : (start : ℕ) (b : BodyLine) → body_line path text line start ≡ Some b → AreFrom path text line start b.line.fragments
  unfolding body_line
  line_from start b is =
      from_line start (parts_from (part path text line) start 0 (drop start line.text)) b is (λ ps found. from_any (length line.text) start ps (omega arith) found)

-- a line of a body is its fragments
pub pieces_are_line : (path text : List ℕ) (line : TextLine) (start : ℕ) (b : BodyLine) → IsLineOf text line → body_line path text line start ≡ Some b → AreFrom path text line start b.line.fragments
pieces_are_line path text line start b of is = line_from path text line of start b is
