-- Words begin with at most one piece, and with one front of pieces before what stops them.
use Rattle.std.proofs.Common.{◌≡◌, ◌≢◌, ℕ, Bool, true, false, ◌&&◌, List, [], ◌∷◌, ◌++◌, map, refl, sym, ap, ◌∙◌, subst, append_assoc}
use Rattle.std.specs.List.{flat_map}
use Rattle.std.proofs.lemmas.Bool.{false≢true}
use Rattle.std.proofs.lemmas.List.{append-nil}
use Rattle.std.specs.Str.{chars}
use Rattle.just_names.specs.Texts.{Text}
use Rattle.just_ast_definitions.specs.declared.parameter.Parameter.{Parameter}
use Rattle.just_errors.specs.declared.switch.Switch.{Switch}
use Rattle.just_errors.specs.declared.switch.Switch.TheVariants.{Short}
use Rattle.just_tail.specs.Words.{Words}
use Rattle.just_tail.specs.Pieces.{OptionName, long, cluster, Supplied, nothing, equals, next, Piece, positional, dashes, option, option_word, value_of, next_of, words_of, switches_of, IsOptionName, HasOptionName, is_dashed}
use Rattle.just_tail.specs.Steps.{Step, use_switch, give, steps_of_piece, is_open, Need, unknown, duplicate, no_text, some_text, need, FitsNeed, StepsFollow, PiecesFollow, Ends}
use Rattle.just_tail.proofs.Names.{option_once, option_dashed, not_dashes}

-- the words of an option, with those that follow
pub option_words : (n : OptionName) (g : Supplied) (rest : Words) → words_of (option n g) ++ rest ≡ option_word n (value_of g) ∷ (next_of g ++ rest)
option_words n g rest = refl

-- a positional word does not begin with `-` where options may come
pub plain_clash : (opened dash : Bool) → (opened && dash) ≡ false → opened ≡ true → dash ≡ true → ⊥
plain_clash true true e f g = false≢true (sym e)
plain_clash true false e f g = false≢true g
plain_clash false dash e f g = false≢true f

some_chars : (cs : List ℕ) → cs ≢ [] → map Short cs ≢ []
some_chars [] h e = h refl
some_chars (c ∷ cs) h e = (cc)

-- an option has a switch
pub some_switch : (n : OptionName) → IsOptionName n → switches_of n ≢ []
some_switch (long name) p = λ e. (cc)
some_switch (cluster name) p = some_chars (chars name) p.0

-- a list with something in its middle is not empty
pub some_middle : (front after : List Switch) (s : Switch) → front ++ s ∷ after ≢ []
some_middle [] after s e = (cc)
some_middle (x ∷ xs) after s e = (cc)

-- before the last, a switch is given nothing
pub give_more : (s : Switch) (ss : List Switch) (g : Supplied) → ss ≢ [] → give (s ∷ ss) g ≡ use_switch s nothing ∷ give ss g
give_more s [] g h = absurd (h refl)
give_more s (t ∷ ss) g h = refl

steps_open : (ps : List Parameter) (before : List Step) (ss : List Switch) (g : Supplied) → ss ≢ [] → StepsFollow ps before (give ss g) → is_open ps before ≡ true
steps_open ps before [] g h p = absurd (h refl)
steps_open ps before (s ∷ []) g h p = p.0.0
steps_open ps before (s ∷ t ∷ ss) g h p = p.0.0

-- what a switch asks for says what it is given
clash : (k : Need) (w : Text) → FitsNeed k nothing → FitsNeed k (next w) → ⊥
clash unknown w p q = p
clash duplicate w p q = p
clash no_text w p q = q
clash some_text w p q = p

same_given : (k : Need) (g h : Supplied) (a c : Words) → FitsNeed k g → FitsNeed k h → value_of g ≡ value_of h → next_of g ++ a ≡ next_of h ++ c → (g ≡ h) × (a ≡ c)
same_given k nothing nothing a c p q e f = (refl, f)
same_given k nothing (equals v) a c p q e f = absurd (let x : ⊥ = (cc) in x)
same_given k nothing (next w) a c p q e f = absurd (clash k w p q)
same_given k (equals v) nothing a c p q e f = absurd (let x : ⊥ = (cc) in x)
same_given k (equals v) (equals w) a c p q e f = ((let x : v ≡ w = (cc) in ap equals x), f)
same_given k (equals v) (next w) a c p q e f = absurd (let x : ⊥ = (cc) in x)
same_given k (next v) nothing a c p q e f = absurd (clash k v q p)
same_given k (next v) (equals w) a c p q e f = absurd (let x : ⊥ = (cc) in x)
same_given k (next v) (next w) a c p q e f = ((let x : v ≡ w = (cc) in ap next x), (cc))

give_once : (ps : List Parameter) (before : List Step) (ss : List Switch) (g h : Supplied) (a c : Words) → ss ≢ [] →
    StepsFollow ps before (give ss g) → StepsFollow ps before (give ss h) → value_of g ≡ value_of h → next_of g ++ a ≡ next_of h ++ c → (g ≡ h) × (a ≡ c)
give_once ps before [] g h a c some p q e f = absurd (some refl)
give_once ps before (s ∷ []) g h a c some p q e f = same_given (need ps before s) g h a c p.0.1 q.0.1 e f
give_once ps before (s ∷ t ∷ ss) g h a c some p q e f =
    give_once ps (before ++ use_switch s nothing ∷ []) (t ∷ ss) g h a c (λ x. (cc)) p.1 q.1 e f

-- words begin with at most one piece
pub not_plain : (ps : List Parameter) (before : List Step) (w : Text) (n : OptionName) (g : Supplied) → w ≡ option_word n (value_of g) → IsOptionName n →
    (is_open ps before && is_dashed w) ≡ false → StepsFollow ps before (give (switches_of n) g) → ⊥
not_plain ps before w n g e named p q =
    plain_clash (is_open ps before) (is_dashed w) p (steps_open ps before (switches_of n) g (some_switch n named) q) (ap is_dashed e ∙ option_dashed n (value_of g) named)

piece_once : (ps : List Parameter) (before : List Step) (x y : Piece) (a c : Words) → words_of x ++ a ≡ words_of y ++ c →
    HasOptionName x → HasOptionName y → StepsFollow ps before (steps_of_piece x) → StepsFollow ps before (steps_of_piece y) → (x ≡ y) × (a ≡ c)
piece_once ps before (positional v) (positional w) a c e p q f g = ((let h : v ≡ w = (cc) in ap positional h), (cc))
piece_once ps before (positional v) dashes a c e p q f g =
    absurd (plain_clash (is_open ps before) (is_dashed v) f.0.0 g.0 (let h : v ≡ 45 ∷ (45 ∷ []) = (cc) in ap is_dashed h))
piece_once ps before (positional v) (option n h) a c e p q f g =
    let whole = e ∙ option_words n h c in absurd (not_plain ps before v n h (cc) q f.0.0 g)
piece_once ps before dashes (positional w) a c e p q f g =
    absurd (plain_clash (is_open ps before) (is_dashed w) g.0.0 f.0 (let h : w ≡ 45 ∷ (45 ∷ []) = (cc) in ap is_dashed h))
piece_once ps before dashes dashes a c e p q f g = (refl, (cc))
piece_once ps before dashes (option n h) a c e p q f g =
    let whole = e ∙ option_words n h c in absurd (not_dashes n (value_of h) q (cc))
piece_once ps before (option n h) (positional w) a c e p q f g =
    let whole = sym e ∙ option_words n h a in absurd (not_plain ps before w n h (cc) p g.0.0 f)
piece_once ps before (option n h) dashes a c e p q f g =
    let whole = sym e ∙ option_words n h a in absurd (not_dashes n (value_of h) p (cc))
piece_once ps before (option n h) (option m k) a c e p q f g =
    let whole = sym (option_words n h a) ∙ e ∙ option_words m k c in
    let o = option_once n m (value_of h) (value_of k) p q (cc) in
    let r = give_once ps before (switches_of m) h k a c (some_switch m q) (subst (λ i. StepsFollow ps before (give (switches_of i) h)) o.0 f) g o.1 (cc) in
    (ap (λ i. option i h) o.0 ∙ ap (λ i. option m i) r.0, r.1)

-- what stops a tail, before words that begin with no piece
abbrev pub Stop : List Parameter → (List Step → Words → Type 0) → Type 0
Stop ps P = (before : List Step) (x : Piece) (t : Words) → P before (words_of x ++ t) → HasOptionName x → StepsFollow ps before (steps_of_piece x) → ⊥

-- no piece begins where a tail ends
pub ends_first : (ps : List Parameter) → Stop ps (Ends ps)
ends_first ps before (positional w) t p q f = f.0.1 p.1
ends_first ps before dashes t p q f = plain_clash (is_open ps before) true p.0 f.0 refl
ends_first ps before (option n g) t p q f =
    let h = subst (Ends ps before) (option_words n g t) p in
    not_plain ps before (option_word n (value_of g)) n g refl q h.0 f

-- words have one front of pieces before what stops them
pub fronts_once : (ps : List Parameter) (P Q : List Step → Words → Type 0) → Stop ps P → Stop ps Q → (before : List Step) (xs ys : List Piece) (a c : Words) →
    flat_map words_of xs ++ a ≡ flat_map words_of ys ++ c → PiecesFollow ps before xs → PiecesFollow ps before ys →
    P (before ++ flat_map steps_of_piece xs) a → Q (before ++ flat_map steps_of_piece ys) c → (xs ≡ ys) × (a ≡ c)
fronts_once ps P Q s t before [] [] a c e p q f g = (refl, e)
fronts_once ps P Q s t before [] (y ∷ ys) a c e p q f g =
    absurd (s before y (flat_map words_of ys ++ c)
    (subst (P before) (e ∙ append_assoc (words_of y) (flat_map words_of ys) c) (subst (λ b. P b a) (append-nil before) f)) q.0 q.1)
fronts_once ps P Q s t before (x ∷ xs) [] a c e p q f g =
    absurd (t before x (flat_map words_of xs ++ a)
    (subst (Q before) (sym e ∙ append_assoc (words_of x) (flat_map words_of xs) a) (subst (λ b. Q b c) (append-nil before) g)) p.0 p.1)
fronts_once ps P Q s t before (x ∷ xs) (y ∷ ys) a c e p q f g =
    let one = piece_once ps before x y (flat_map words_of xs ++ a) (flat_map words_of ys ++ c)
    (sym (append_assoc (words_of x) (flat_map words_of xs) a) ∙ e ∙ append_assoc (words_of y) (flat_map words_of ys) c) p.0 q.0 p.1 q.1 in
    let rest = fronts_once ps P Q s t (before ++ steps_of_piece y) xs ys a c one.1
    (subst (λ z. PiecesFollow ps (before ++ steps_of_piece z) xs) one.0 p.2) q.2
    (subst (λ b. P b a) (ap (λ z. before ++ (steps_of_piece z ++ flat_map steps_of_piece xs)) one.0 ∙ sym (append_assoc before (steps_of_piece y) (flat_map steps_of_piece xs))) f)
    (subst (λ b. Q b c) (sym (append_assoc before (steps_of_piece y) (flat_map steps_of_piece ys))) g) in
    (ap (λ z. z ∷ xs) one.0 ∙ ap (λ zs. y ∷ zs) rest.0, rest.1)
