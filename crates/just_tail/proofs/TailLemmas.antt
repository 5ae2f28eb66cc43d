-- What the reader of a tail does, piece by piece.
use Rattle.std.proofs.Common.{◌≡◌, ℕ, zero, suc, ◌+◌, ◌-◌, ◌<◌, ◌≤◌, List, [], ◌∷◌, ◌++◌, length, take, drop, sym, ap, ◌∙◌, subst, arith, append_assoc}
use Rattle.std.proofs.lemmas.List.{append-nil, map-append, take-append-drop, drop_all}
use Rattle.std.specs.List.{flat_map}
use Rattle.std.specs.Borrow.{Bor}
use Rattle.just_names.specs.Texts.{Text, texts}
use Rattle.just_ast_definitions.specs.declared.parameter.Parameter.{Parameter}
use Rattle.just_tail.specs.declared.progress.Progress.{Progress}
use Rattle.just_tail.specs.Words.{Words, as_texts}
use Rattle.just_tail.specs.Pieces.{Piece, words_of, HasOptionName}
use Rattle.just_tail.specs.Steps.{Step, steps_of_piece, StepsFollow, PiecesFollow, Ends}
use Rattle.just_tail.specs.Tail.{IsTail}
use Rattle.just_tail.specs.loops.Reader.{HasRead}
use Rattle.just_tail.proofs.OptionLemmas.{take_none}

-- the first of some words, and the others
pub take_front : (n : ℕ) (words rest : List (Bor Text)) (word : Bor Text) → 0 < n → words ≡ word ∷ rest →
    texts (take n words) ≡ word.now ∷ texts (take (n - 1) rest)
take_front zero words rest word h e = absurd (omega arith)
take_front (suc m) words rest word h e =
    let less : m ≡ suc m - 1 = omega arith in
    ap (λ ws. texts (take (suc m) ws)) e ∙ ap (λ k. word.now ∷ texts (take k rest)) less

take_add : {X : Type 0} (t n : ℕ) (ws : List X) → take (t + n) ws ≡ take t ws ++ take n (drop t ws)
take_add zero n ws = let e : 0 + n ≡ n = omega arith in ap (λ k. take k ws) e
take_add (suc t) n [] = let e : suc t + n ≡ suc (t + n) = omega arith in ap (λ k. take k []) e ∙ sym (take_none n)
take_add (suc t) n (x ∷ xs) = let e : suc t + n ≡ suc (t + n) = omega arith in ap (λ k. take k (x ∷ xs)) e ∙ ap (λ l. x ∷ l) (take_add t n xs)

-- some words and some more
pub texts_add : (t n : ℕ) (ws : List (Bor Text)) → texts (take (t + n) ws) ≡ texts (take t ws) ++ texts (take n (drop t ws))
texts_add t n ws = ap texts (take_add t n ws) ∙ map-append (λ w. w.now) (take t ws) (take n (drop t ws))

-- some words and the others
pub texts_cut : (n : ℕ) (words : List (Bor Text)) → texts words ≡ texts (take n words) ++ texts (drop n words)
texts_cut n words = ap texts (sym (take-append-drop n words)) ∙ map-append (λ w. w.now) (take n words) (drop n words)

-- a piece more
pub pieces_push : (ps : List Parameter) (before : List Step) (xs : List Piece) (x : Piece) → PiecesFollow ps before xs → HasOptionName x →
    StepsFollow ps (before ++ flat_map steps_of_piece xs) (steps_of_piece x) → PiecesFollow ps before (xs ++ x ∷ [])
pieces_push ps before [] x p w q = (w, subst (λ b. StepsFollow ps b (steps_of_piece x)) (append-nil before) q, tt)
pieces_push ps before (y ∷ ys) x p w q =
    (p.0, p.1, pieces_push ps (before ++ steps_of_piece y) ys x p.2 w (subst (λ b. StepsFollow ps b (steps_of_piece x)) (sym (append_assoc before (steps_of_piece y) (flat_map steps_of_piece ys))) q))

-- its words
pub words_push : (xs : List Piece) (x : Piece) → flat_map words_of (xs ++ x ∷ []) ≡ flat_map words_of xs ++ words_of x
words_push [] x = append-nil (words_of x)
words_push (y ∷ ys) x = ap (λ t. words_of y ++ t) (words_push ys x) ∙ sym (append_assoc (words_of y) (flat_map words_of ys) (words_of x))

-- its steps
pub flat_push : (xs : List Piece) (x : Piece) → flat_map steps_of_piece (xs ++ x ∷ []) ≡ flat_map steps_of_piece xs ++ steps_of_piece x
flat_push [] x = append-nil (steps_of_piece x)
flat_push (y ∷ ys) x = ap (λ t. steps_of_piece y ++ t) (flat_push ys x) ∙ sym (append_assoc (steps_of_piece y) (flat_map steps_of_piece ys) (steps_of_piece x))

-- no words are left after the last
pub ends_at_end : (ps : List Parameter) (before : List Step) (words : List (Bor Text)) (t : ℕ) → length words ≤ t → Ends ps before (texts (drop t words))
ends_at_end ps before words t h = subst (λ ws. Ends ps before (texts ws)) (sym (drop_all t words h)) tt

-- the words that were read are a tail, where it ends
pub tail_read : (ps : List Parameter) (words : List (Bor Text)) (t : ℕ) (pieces : List Piece) (p : Progress) →
    texts (take t words) ≡ flat_map words_of pieces → PiecesFollow ps [] pieces → HasRead ps (flat_map steps_of_piece pieces) p →
    Ends ps (flat_map steps_of_piece pieces) (texts (drop t words)) → IsTail ps (texts (take t words)) (texts (drop t words)) p.placed (as_texts p.groups.items)
tail_read ps words t pieces p e reads stands ends =
    record {
      pieces = pieces;
      whole = e;
      reads = reads;
      ends = ends;
      counts = stands.count;
      each_one = stands.groups;
      each = stands.each;
    }

-- the same of a reader that stands alike
pub tail_alike : (ps : List Parameter) (tail after : Words) (p q : Progress) → q ≡ p → IsTail ps tail after p.placed (as_texts p.groups.items) →
    IsTail ps tail after q.placed (as_texts q.groups.items)
tail_alike ps tail after p q e read = subst (λ (r : Progress). IsTail ps tail after r.placed (as_texts r.groups.items)) (sym e) read
