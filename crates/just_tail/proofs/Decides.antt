-- Words begin with a tail, or have a fault of one.
use Rattle.std.proofs.Common.{◌≡◌, ◌≢◌, ◌⊎◌, inl, inr, ℕ, zero, suc, ◌+◌, ◌<◌, Bool, true, false, ◌&&◌, ◌||◌, List, [], ◌∷◌, ◌++◌, Option, Some, None, length, get_or, take, refl, sym, ap, ◌∙◌, subst, arith, append_assoc, length-append}
use Rattle.std.specs.List.{flat_map, AllByRecursion}
use Rattle.std.specs.Str.{IsUtf8}
use Rattle.std.proofs.lemmas.Bool.{cases_eq, false≢true, eqb-true, ne_eqb}
use Rattle.std.proofs.lemmas.List.{append-nil}
use Rattle.std.proofs.lemmas.Str.{IsUtf8-take, IsUtf8-drop, IsCharBoundary-before_ascii, IsCharBoundary-after_ascii}
use Rattle.just_names.specs.Texts.{Text}
use Rattle.just_ast_definitions.specs.declared.parameter.Parameter.{Parameter}
use Rattle.just_errors.specs.declared.switch.Switch.{Switch}
use Rattle.just_tail.specs.Words.{Words}
use Rattle.just_tail.specs.Options.{place}
use Rattle.just_tail.specs.Pieces.{OptionName, long, cluster, Supplied, nothing, equals, next, Piece, positional, dashes, option, with_value, option_word, value_of, next_of, words_of, switches_of, has_equals, IsOptionName, HasOptionName, is_dashed, IsNameless}
use Rattle.just_tail.specs.Steps.{Step, use_switch, give, steps_of_piece, positionals_among, is_open, group_of, Need, unknown, duplicate, no_text, some_text, need, FitsNeed, StepsFollow, PiecesFollow, Ends}
use Rattle.just_tail.specs.Cause.{ArgumentFault, invalid_option, unknown_option, duplicate_option, flag_with_value, option_missing_value}
use Rattle.just_tail.specs.Tail.{IsTail, RefusesSwitch, given_nothing, SwitchIsRefused, BadOption, NoTail}
use Rattle.just_tail.specs.Checks.{CountFault, refusal, TakesArguments, StopsTail}
use Rattle.just_tail.proofs.Fronts.{some_switch}
use Rattle.just_tail.proofs.WordLemmas.{some_chars, with_dashes, with_dash, no_dash}
use Rattle.just_tail.proofs.OptionLemmas.{open_more}

-- a switch in the middle of a cluster is given nothing, or refused
middle : (k : Need) (s : Switch) (after : List Switch) (value : Option Text) (rest : Words) → after ≢ [] →
    FitsNeed k nothing ⊎ ((cause : ArgumentFault) × RefusesSwitch k s after value rest cause)
middle unknown s after value rest h = inr (unknown_option s, refl)
middle duplicate s after value rest h = inr (duplicate_option s, refl)
middle no_text s after value rest h = inl tt
middle some_text s after value rest h = inr (option_missing_value s, (inl h, refl))

-- the last switch is given what fits, or refused
abbrev Last : Need → Switch → Option Text → Words → Type 0
Last k s value rest =
    ((g : Supplied) × (more : Words) × (value_of g ≡ value) × (rest ≡ next_of g ++ more) × FitsNeed k g) ⊎ ((cause : ArgumentFault) × RefusesSwitch k s [] value rest cause)

last : (k : Need) (s : Switch) (value : Option Text) (rest : Words) → Last k s value rest
last unknown s value rest = inr (unknown_option s, refl)
last duplicate s value rest = inr (duplicate_option s, refl)
last no_text s None rest = inl (nothing, rest, refl, refl, tt)
last no_text s (Some v) rest = inr (flag_with_value s, (refl, (λ e. (cc)), refl))
last some_text s (Some v) rest = inl (equals v, rest, refl, refl, tt)
last some_text s None [] = inr (option_missing_value s, (inr (refl, refl), refl))
last some_text s None (w ∷ ws) = inl (next w, ws, refl, refl, tt)

-- the switches are given what fits, or one is refused
abbrev Switches : List Parameter → List Step → List Switch → Option Text → Words → Type 0
Switches ps before ss value rest =
    ((g : Supplied) × (more : Words) × (value_of g ≡ value) × (rest ≡ next_of g ++ more) × StepsFollow ps before (give ss g))
    ⊎ ((cause : ArgumentFault) × SwitchIsRefused ps before ss value rest cause)

refused_here : (ps : List Parameter) (before : List Step) (s : Switch) (after : List Switch) (value : Option Text) (rest : Words) (cause : ArgumentFault) →
    RefusesSwitch (need ps before s) s after value rest cause → SwitchIsRefused ps before (s ∷ after) value rest cause
refused_here ps before s after value rest cause p =
    record {
      front = [];
      switch = s;
      after = after;
      whole = refl;
      reads = tt;
      refuses = subst (λ b. RefusesSwitch (need ps b s) s after value rest cause) (sym (append-nil before)) p;
    }

refused_later : (ps : List Parameter) (before : List Step) (s : Switch) (ss : List Switch) (value : Option Text) (rest : Words) (cause : ArgumentFault) →
    is_open ps before ≡ true → FitsNeed (need ps before s) nothing → SwitchIsRefused ps (before ++ use_switch s nothing ∷ []) ss value rest cause →
    SwitchIsRefused ps before (s ∷ ss) value rest cause
refused_later ps before s ss value rest cause o f p =
    record {
      front = s ∷ p.front;
      switch = p.switch;
      after = p.after;
      whole = ap (λ t. s ∷ t) p.whole;
      reads = ((o, f), p.reads);
      refuses = subst (λ b. RefusesSwitch (need ps b p.switch) p.switch p.after value rest cause) (append_assoc before (use_switch s nothing ∷ []) (given_nothing p.front)) p.refuses;
    }

last_of : (ps : List Parameter) (before : List Step) (s : Switch) (value : Option Text) (rest : Words) → is_open ps before ≡ true →
    Last (need ps before s) s value rest → Switches ps before (s ∷ []) value rest
last_of ps before s value rest o (inl (g, more, e, f, fits)) = inl (g, more, e, f, ((o, fits), tt))
last_of ps before s value rest o (inr (cause, p)) = inr (cause, refused_here ps before s [] value rest cause p)

more_of : (ps : List Parameter) (before : List Step) (s t : Switch) (ss : List Switch) (value : Option Text) (rest : Words) → is_open ps before ≡ true →
    FitsNeed (need ps before s) nothing ⊎ ((cause : ArgumentFault) × RefusesSwitch (need ps before s) s (t ∷ ss) value rest cause) →
    Switches ps (before ++ use_switch s nothing ∷ []) (t ∷ ss) value rest → Switches ps before (s ∷ (t ∷ ss)) value rest
more_of ps before s t ss value rest o (inr (cause, p)) q = inr (cause, refused_here ps before s (t ∷ ss) value rest cause p)
more_of ps before s t ss value rest o (inl fits) (inl (g, more, e, f, steps)) = inl (g, more, e, f, ((o, fits), steps))
more_of ps before s t ss value rest o (inl fits) (inr (cause, p)) = inr (cause, refused_later ps before s (t ∷ ss) value rest cause o fits p)

switches : (ps : List Parameter) (before : List Step) (ss : List Switch) (value : Option Text) (rest : Words) → ss ≢ [] → is_open ps before ≡ true →
    Switches ps before ss value rest
switches ps before [] value rest h o = absurd (h refl)
switches ps before (s ∷ []) value rest h o = last_of ps before s value rest o (last (need ps before s) s value rest)
switches ps before (s ∷ t ∷ ss) value rest h o =
    more_of ps before s t ss value rest o (middle (need ps before s) s (t ∷ ss) value rest (λ e. (cc)))
    (switches ps (before ++ use_switch s nothing ∷ []) (t ∷ ss) value rest (λ e. (cc)) (open_more ps before (s ∷ []) o))

-- a text is cut at its first `=`
abbrev Cut : Text → Type 0
Cut t = (name : Text) × (value : Option Text) × (has_equals name ≡ false) × (t ≡ with_value name value)

cut_more : (b : ℕ) (name : Text) (value : Option Text) → b ∷ with_value name value ≡ with_value (b ∷ name) value
cut_more b name None = refl
cut_more b name (Some v) = refl

cut_step : (b : ℕ) (bs : Text) → (b ≡ 61) ⊎ (b ≢ 61) → Cut bs → Cut (b ∷ bs)
cut_step b bs (inl e) c = ([], Some bs, refl, ap (λ x. x ∷ bs) e)
cut_step b bs (inr n) (name, value, h, e) =
    (b ∷ name, value, ap (λ t. t || has_equals name) (ne_eqb b 61 n) ∙ h, ap (λ t. b ∷ t) e ∙ cut_more b name value)

cut : (t : Text) → Cut t
cut [] = ([], None, refl, refl)
cut (b ∷ bs) = cut_step b bs (cases_eq b 61) (cut bs)

-- a word that begins with `-` and isn't `-` is `--`, has no name, or is an option
abbrev Written : Text → Type 0
Written w = (w ≡ 45 ∷ (45 ∷ [])) ⊎ (IsNameless w ⊎ ((n : OptionName) × (value : Option Text) × IsOptionName n × (w ≡ option_word n value)))

utf8_rest : (b : ℕ) (bs : Text) → b < 128 → IsUtf8 (b ∷ bs) → IsUtf8 bs
utf8_rest b bs small u = IsUtf8-drop (b ∷ bs) 1 u (IsCharBoundary-after_ascii (b ∷ bs) 0 u (omega arith) small)

take_all : (xs ys : Text) → take (length xs) (xs ++ ys) ≡ xs
take_all [] ys = refl
take_all (x ∷ xs) ys = ap (λ t. x ∷ t) (take_all xs ys)

at_seam : (xs ys : Text) (y : ℕ) → get_or (xs ++ y ∷ ys) (length xs) 0 ≡ y
at_seam [] ys y = refl
at_seam (x ∷ xs) ys y = at_seam xs ys y

utf8_name : (name : Text) (value : Option Text) → IsUtf8 (with_value name value) → IsUtf8 name
utf8_name name None u = u
utf8_name name (Some v) u =
    let byte : get_or (name ++ 61 ∷ v) (length name) 0 < 128 = let e = at_seam name v 61 in omega arith in
    let within : length name < length (name ++ 61 ∷ v) = omega (arith, length-append name (61 ∷ v)) in
    subst IsUtf8 (take_all name (61 ∷ v)) (IsUtf8-take (name ++ 61 ∷ v) (length name) u (IsCharBoundary-before_ascii (name ++ 61 ∷ v) (length name) within byte))

long_written : (t : Text) → Cut t → Written (45 ∷ (45 ∷ t))
long_written t ([], None, h, e) = inl (ap (λ x. 45 ∷ (45 ∷ x)) e)
long_written t ([], Some v, h, e) = inr (inl (v, inr (ap (λ x. 45 ∷ (45 ∷ x)) e)))
long_written t (c ∷ cs, value, h, e) =
    inr (inr (long (c ∷ cs), value, ((λ f. (cc)), h), ap (λ x. 45 ∷ (45 ∷ x)) e ∙ with_dashes (c ∷ cs) value))

short_written : (t : Text) → t ≢ [] → IsUtf8 t → ((rest : Text) → t ≢ 45 ∷ rest) → Cut t → Written (45 ∷ t)
short_written t some u other ([], None, h, e) = absurd (some e)
short_written t some u other ([], Some v, h, e) = inr (inl (v, inl (ap (λ x. 45 ∷ x) e)))
short_written t some u other (c ∷ cs, value, h, e) =
    inr (inr (
      cluster (c ∷ cs),
      value,
      (some_chars (c ∷ cs) (utf8_name (c ∷ cs) value (subst IsUtf8 e u)) (λ f. (cc)), h, no_dash t (c ∷ cs) value e other),
      ap (λ x. 45 ∷ x) e ∙ with_dash (c ∷ cs) value,
    ))

dashed_written : (c : ℕ) (cs : Text) → IsUtf8 (c ∷ cs) → (c ≡ 45) ⊎ (c ≢ 45) → Written (45 ∷ (c ∷ cs))
dashed_written c cs u (inl e) = subst (λ x. Written (45 ∷ (x ∷ cs))) (sym e) (long_written cs (cut cs))
dashed_written c cs u (inr n) = short_written (c ∷ cs) (λ f. (cc)) u (λ rest f. let g : c ≡ 45 = (cc) in n g) (cut (c ∷ cs))

written : (w : Text) → IsUtf8 w → is_dashed w ≡ true → Written w
written [] u e = absurd (false≢true e)
written (b ∷ []) u e = absurd (false≢true e)
written (b ∷ c ∷ cs) u e =
    let dash : b ≡ 45 = eqb-true b 45 e in
    let small : b < 128 = omega arith in
    subst (λ x. Written (x ∷ (c ∷ cs))) (sym dash) (dashed_written c cs (utf8_rest b (c ∷ cs) small u) (cases_eq c 45))

-- words end a tail, begin with a piece, or with no option
abbrev Utf8 : Words → Type 0
Utf8 = AllByRecursion IsUtf8

-- the words end a tail, begin with a piece, or with an option that is none
abbrev Onward : List Parameter → List Step → Words → Type 0
Onward ps before words =
    Ends ps before words
    ⊎ (((x : Piece) × (rest : Words) × (words ≡ words_of x ++ rest) × HasOptionName x × StepsFollow ps before (steps_of_piece x) × (length rest < length words) × Utf8 rest)
    ⊎ ((cause : ArgumentFault) × BadOption ps before words cause))

plain_onward : (ps : List Parameter) (before : List Step) (w : Text) (ws : Words) → Utf8 ws → (is_open ps before && is_dashed w) ≡ false →
    (o : Option ℕ) → place ps (positionals_among before) ≡ o → Onward ps before (w ∷ ws)
plain_onward ps before w ws u p None e = inl (p, e)
plain_onward ps before w ws u p (Some j) e =
    inr (inl (positional w, ws, refl, tt, ((p, (λ f. let g = sym e ∙ f in (cc))), tt), omega arith, u))

option_onward : (ps : List Parameter) (before : List Step) (w : Text) (ws : Words) (n : OptionName) (value : Option Text) → Utf8 ws → is_open ps before ≡ true →
    IsOptionName n → w ≡ option_word n value → Switches ps before (switches_of n) value ws → Onward ps before (w ∷ ws)
option_onward ps before w ws n value u o named e (inl (g, more, f, h, steps)) =
    inr (inl (
      option n g,
      more,
      ap (λ x. x ∷ ws) e ∙ ap (λ v. option_word n v ∷ ws) (sym f) ∙ ap (λ t. option_word n (value_of g) ∷ t) h,
      named,
      steps,
      (let k = ap length h in omega (arith, length-append (next_of g) more)),
      utf8_more g ws more h u,
    ))
  where
    utf8_more : (g : Supplied) (ws more : Words) → ws ≡ next_of g ++ more → Utf8 ws → Utf8 more
    utf8_more nothing ws more h u = subst Utf8 h u
    utf8_more (equals v) ws more h u = subst Utf8 h u
    utf8_more (next w) ws more h u = let t = subst Utf8 h u in t.1
option_onward ps before w ws n value u o named e (inr (cause, p)) =
    inr (inr (cause, (o, inr (record { name = n; value = value; rest = ws; whole = ap (λ x. x ∷ ws) e; named = named; refused = p }))))

dashed_onward : (ps : List Parameter) (before : List Step) (w : Text) (ws : Words) → Utf8 ws → is_open ps before ≡ true → Written w → Onward ps before (w ∷ ws)
dashed_onward ps before w ws u o (inl e) = inr (inl (dashes, ws, ap (λ x. x ∷ ws) e, tt, (o, tt), omega arith, u))
dashed_onward ps before w ws u o (inr (inl p)) = inr (inr (invalid_option w, (o, inl (p, refl))))
dashed_onward ps before w ws u o (inr (inr (n, value, named, e))) =
    option_onward ps before w ws n value u o named e (switches ps before (switches_of n) value ws (some_switch n named) o)

word_onward : (ps : List Parameter) (before : List Step) (w : Text) (ws : Words) → IsUtf8 w → Utf8 ws → (o d : Bool) → is_open ps before ≡ o → is_dashed w ≡ d →
    Onward ps before (w ∷ ws)
word_onward ps before w ws v u true true e f = dashed_onward ps before w ws u e (written w v f)
word_onward ps before w ws v u true false e f =
    plain_onward ps before w ws u (ap (λ o. o && is_dashed w) e ∙ f) (place ps (positionals_among before)) refl
word_onward ps before w ws v u false d e f =
    plain_onward ps before w ws u (ap (λ o. o && is_dashed w) e) (place ps (positionals_among before)) refl

onward : (ps : List Parameter) (before : List Step) (words : Words) → Utf8 words → Onward ps before words
onward ps before [] u = inl tt
onward ps before (w ∷ ws) u = word_onward ps before w ws u.0 u.1 (is_open ps before) (is_dashed w) refl refl

-- pieces that end a tail, or end before no option
abbrev Read : List Parameter → List Step → Words → Type 0
Read ps before words =
    (pieces : List Piece) × (rest : Words) × (words ≡ flat_map words_of pieces ++ rest) × PiecesFollow ps before pieces
    × (Ends ps (before ++ flat_map steps_of_piece pieces) rest ⊎ ((cause : ArgumentFault) × BadOption ps (before ++ flat_map steps_of_piece pieces) rest cause))

read_more : (ps : List Parameter) (before : List Step) (words rest : Words) (x : Piece) → words ≡ words_of x ++ rest → HasOptionName x → StepsFollow ps before (steps_of_piece x) →
    Read ps (before ++ steps_of_piece x) rest → Read ps before words
read_more ps before words rest x e w s (xs, after, f, p, q) = (
  x ∷ xs,
  after,
  e ∙ ap (λ t. words_of x ++ t) f ∙ sym (append_assoc (words_of x) (flat_map words_of xs) after),
  (w, s, p),
  subst (λ b. Ends ps b after ⊎ ((cause : ArgumentFault) × BadOption ps b after cause)) (append_assoc before (steps_of_piece x) (flat_map steps_of_piece xs)) q,
)

read_on : (fuel : ℕ) → ((ps : List Parameter) (before : List Step) (words : Words) → length words < fuel → Utf8 words → Read ps before words) →
    (ps : List Parameter) (before : List Step) (words : Words) → length words < suc fuel → Onward ps before words → Read ps before words
read_on fuel more ps before words h (inl e) = ([], words, refl, tt, inl (subst (λ b. Ends ps b words) (sym (append-nil before)) e))
read_on fuel more ps before words h (inr (inl (x, rest, e, w, s, less, u))) =
    read_more ps before words rest x e w s (more ps (before ++ steps_of_piece x) rest (omega arith) u)
read_on fuel more ps before words h (inr (inr (cause, p))) =
    ([], words, refl, tt, inr (cause, subst (λ b. BadOption ps b words cause) (sym (append-nil before)) p))

read : (fuel : ℕ) (ps : List Parameter) (before : List Step) (words : Words) → length words < fuel → Utf8 words → Read ps before words
read zero ps before words h u = absurd (omega arith)
read (suc n) ps before words h u = read_on n (read n) ps before words h (onward ps before words u)

-- the groups of n places, from the j-th on
group_at : (ps : List Parameter) (steps : List Step) (j n : ℕ) (groups : List Words) → ((k : ℕ) → k < n → get_or groups k [] ≡ group_of ps steps (suc j + k)) →
    (k : ℕ) → k < suc n → get_or (group_of ps steps j ∷ groups) k [] ≡ group_of ps steps (j + k)
group_at ps steps j n groups each zero h = let e : j ≡ j + 0 = omega arith in ap (group_of ps steps) e
group_at ps steps j n groups each (suc k) h =
    let e : suc j + k ≡ j + suc k = omega arith in
    each k (omega arith) ∙ ap (group_of ps steps) e

groups_of : (ps : List Parameter) (steps : List Step) (j n : ℕ) → (groups : List Words) × (length groups ≡ n) × ((k : ℕ) → k < n → get_or groups k [] ≡ group_of ps steps (j + k))
groups_of ps steps j zero = ([], refl, (λ k h. absurd (omega arith)))
groups_of ps steps j (suc n) =
    let more = groups_of ps steps (suc j) n in
    (group_of ps steps j ∷ more.0, ap suc more.1, group_at ps steps j n more.0 more.2)

-- the words begin with a tail, or have a fault of one
abbrev TailOr : List Parameter → Words → Type 0
TailOr ps words =
    ((tail : Words) × (after : Words) × (found : ℕ) × (groups : List Words) × (words ≡ tail ++ after) × IsTail ps tail after found groups)
    ⊎ ((cause : ArgumentFault) × NoTail ps words cause)

tail_of : (ps : List Parameter) (words : Words) → Read ps [] words → TailOr ps words
tail_of ps words (xs, rest, e, p, inl ends) =
    let g = groups_of ps (flat_map steps_of_piece xs) 0 (length ps) in
    inl (
      flat_map words_of xs,
      rest,
      positionals_among (flat_map steps_of_piece xs),
      g.0,
      e,
      record {
        pieces = xs;
        whole = refl;
        reads = p;
        ends = ends;
        counts = refl;
        each_one = g.1;
        each = λ j h. g.2 j h ∙ ap (group_of ps (flat_map steps_of_piece xs)) (let e : 0 + j ≡ j = omega arith in e);
      },
    )
tail_of ps words (xs, rest, e, p, inr (cause, bad)) =
    inr (cause, record { pieces = xs; rest = rest; whole = e; reads = p; bad = bad })

-- texts as words do
pub tail_or_fault : (ps : List Parameter) (words : Words) → Utf8 words → TailOr ps words
tail_or_fault ps words u = tail_of ps words (read (suc (length words)) ps [] words (omega arith) u)

-- the words begin with arguments, or are refused
abbrev ReadingOr : CountFault → List Parameter → Words → Type 0
ReadingOr counts ps words =
    ((tail : Words) × (after : Words) × (groups : List Words) × (words ≡ tail ++ after) × TakesArguments counts ps tail after groups)
    ⊎ ((cause : ArgumentFault) × StopsTail counts ps words cause)

reading_of : (counts : CountFault) (ps : List Parameter) (tail after words : Words) (found : ℕ) (groups : List Words) →
    words ≡ tail ++ after → IsTail ps tail after found groups → (o : Option ArgumentFault) → refusal counts ps groups found ≡ o → ReadingOr counts ps words
reading_of counts ps tail after words found groups e t None f = inl (tail, after, groups, e, record { found = found; reads = t; passes = f })
reading_of counts ps tail after words found groups e t (Some cause) f =
    inr (cause, inr (record { tail = tail; after = after; found = found; groups = groups; whole = e; reads = t; refused = f }))

reading_from : (counts : CountFault) (ps : List Parameter) (words : Words) → TailOr ps words → ReadingOr counts ps words
reading_from counts ps words (inl (tail, after, found, groups, e, t)) =
    reading_of counts ps tail after words found groups e t (refusal counts ps groups found) refl
reading_from counts ps words (inr (cause, p)) = inr (cause, inl p)

-- texts as words do
pub reading_or_stop : (counts : CountFault) (ps : List Parameter) (words : Words) → Utf8 words → ReadingOr counts ps words
reading_or_stop counts ps words u = reading_from counts ps words (tail_or_fault ps words u)
