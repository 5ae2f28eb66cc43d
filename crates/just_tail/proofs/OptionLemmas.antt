-- What the reader of options does, as steps.
use Rattle.std.proofs.Common.{◌≡◌, ◌≢◌, inl, ℕ, zero, suc, ◌+◌, ◌<◌, Bool, true, false, not, ◌&&◌, List, [], ◌∷◌, ◌++◌, Option, Some, None, length, get_or, set, take, drop, refl, sym, ap, ◌∙◌, subst, append_assoc, Result, IfOk}
use Rattle.std.proofs.lemmas.List.{append-nil, map-append, take_more, drop_more, take-append-drop}
use Rattle.std.specs.Borrow.{Bor}
use Rattle.just_names.specs.Texts.{Text, texts}
use Rattle.just_ast_definitions.specs.declared.parameter.Parameter.{Parameter}
use Rattle.just_errors.specs.declared.switch.Switch.{Switch}
use Rattle.just_errors.specs.declared.switch.Switch.TheVariants.{Short}
use Rattle.just_tail.specs.declared.error.TailError.{TailError}
use Rattle.just_tail.specs.declared.progress.Progress.{Progress}
use Rattle.just_tail.specs.Words.{Words, as_texts}
use Rattle.just_tail.specs.Options.{option_of, has_options}
use Rattle.just_tail.specs.Pieces.{Supplied, nothing, equals, next, value_of, next_of, letters}
use Rattle.just_tail.specs.Steps.{Step, take_word, close_options, use_switch, give, ends_options, is_open, text_given, Need, unknown, duplicate, no_text, some_text, asks, need, FitsNeed, IsNext, StepsFollow}
use Rattle.just_tail.specs.Cause.{ArgumentFault}
use Rattle.just_tail.specs.Tail.{RefusesSwitch, given_nothing, SwitchIsRefused}
use Rattle.just_tail.specs.loops.Reader.{HasRead, HoldsAfter, HoldsOpen}
use Rattle.just_tail.proofs.Outcomes.{IfOk_then}
use Rattle.just_tail.proofs.GroupLemmas.{stands_use}

-- a switch that is given what it asks for
pub used : (ps : List Parameter) (before : List Step) (s : Switch) (g : Supplied) (takes : Bool) (old new : Progress) (j : ℕ) (text : Text) →
    need ps before s ≡ asks takes → FitsNeed (asks takes) g → (p : Parameter) × (option_of ps s ≡ Some (j, p)) → text ≡ text_given g → j < length ps →
    HasRead ps before old → new.opened ≡ old.opened → new.placed ≡ old.placed →
    as_texts new.groups.items ≡ set (as_texts old.groups.items) j (get_or (as_texts old.groups.items) j [] ++ text ∷ []) →
    FitsNeed (need ps before s) g × HasRead ps (before ++ use_switch s g ∷ []) new
used ps before s g takes old new j text e fits p f small stands o c pushed =
    (subst (λ k. FitsNeed k g) (sym e) fits, stands_use ps before s g old new j p.0 text p.1 f small stands o c pushed)

-- none of no words
pub take_none : {X : Type 0} (n : ℕ) → take {A = X} n [] ≡ []
take_none zero = refl
take_none (suc n) = refl

given_none : (g : Supplied) (n : ℕ) (rest : List (Bor Text)) → value_of g ≡ None → next_of g ≡ texts (take n []) → g ≡ nothing
given_none nothing n rest e f = refl
given_none (equals v) n rest e f = (cc)
given_none (next w) n rest e f = let h : (w ∷ []) ≡ [] = f ∙ ap texts (take_none n) in (cc)

closed_none : (ss : List Switch) → ends_options (given_nothing ss) ≡ false
closed_none [] = refl
closed_none (s ∷ ss) = closed_none ss

closed_more : (before : List Step) (ss : List Switch) → ends_options (before ++ given_nothing ss) ≡ ends_options before
closed_more [] ss = closed_none ss
closed_more (take_word w ∷ steps) ss = closed_more steps ss
closed_more (close_options ∷ steps) ss = refl
closed_more (use_switch s g ∷ steps) ss = closed_more steps ss

-- options may come after options
pub open_more : (ps : List Parameter) (before : List Step) (ss : List Switch) → is_open ps before ≡ true → is_open ps (before ++ given_nothing ss) ≡ true
open_more ps before ss e = ap (λ b. has_options ps && not b) (closed_more before ss) ∙ e

-- a step more
pub steps_push : (ps : List Parameter) (before xs : List Step) (x : Step) → StepsFollow ps before xs → IsNext ps (before ++ xs) x → StepsFollow ps before (xs ++ x ∷ [])
steps_push ps before [] x p q = (subst (λ b. IsNext ps b x) (append-nil before) q, tt)
steps_push ps before (y ∷ ys) x p q =
    (p.0, steps_push ps (before ++ y ∷ []) ys x p.1 (subst (λ b. IsNext ps b x) (sym (append_assoc before (y ∷ []) ys)) q))

-- the last switch is given that
pub give_snoc : (front : List Switch) (s : Switch) (g : Supplied) → give (front ++ s ∷ []) g ≡ given_nothing front ++ use_switch s g ∷ []
give_snoc [] s g = refl
give_snoc (x ∷ []) s g = refl
give_snoc (x ∷ y ∷ ys) s g = ap (λ t. use_switch x nothing ∷ t) (give_snoc (y ∷ ys) s g)

given_snoc : (front : List Switch) (s : Switch) → given_nothing (front ++ s ∷ []) ≡ given_nothing front ++ use_switch s nothing ∷ []
given_snoc front s = map-append (λ t. use_switch t nothing) front (s ∷ [])

shorts_snoc : (cs : List ℕ) (i c : ℕ) → i < length cs → c ≡ get_or cs i c → letters (take (i + 1) cs) ≡ letters (take i cs) ++ Short c ∷ []
shorts_snoc cs i c h e =
    ap letters (take_more cs i c h ∙ ap (λ d. take i cs ++ d ∷ []) (sym e)) ∙ map-append Short (take i cs) (c ∷ [])

shorts_cut : (cs : List ℕ) (i c : ℕ) (after : List Switch) → i < length cs → c ≡ get_or cs i c →
    letters cs ++ after ≡ letters (take i cs) ++ Short c ∷ (letters (drop (i + 1) cs) ++ after)
shorts_cut cs i c after h e =
    ap (λ ds. letters ds ++ after) (sym (take-append-drop i cs) ∙ ap (λ ds. take i cs ++ ds) (drop_more cs i c h ∙ ap (λ d. d ∷ drop (i + 1) cs) (sym e)))
    ∙ ap (λ ss. ss ++ after) (map-append Short (take i cs) (c ∷ drop (i + 1) cs))
    ∙ append_assoc (letters (take i cs)) (Short c ∷ letters (drop (i + 1) cs)) after

-- a switch more that is given what fits
pub step_more : (ps : List Parameter) (before steps : List Step) (s : Switch) (g : Supplied) (new : Progress) → is_open ps before ≡ true → is_open ps (before ++ steps) ≡ true →
    StepsFollow ps before steps → FitsNeed (need ps (before ++ steps) s) g → HasRead ps ((before ++ steps) ++ use_switch s g ∷ []) new →
    StepsFollow ps before (steps ++ use_switch s g ∷ []) × HasRead ps (before ++ (steps ++ use_switch s g ∷ [])) new
step_more ps before steps s g new first opened reads fits stands =
    (steps_push ps before steps (use_switch s g) reads (opened, fits), subst (λ b. HasRead ps b new) (append_assoc before steps (use_switch s g ∷ [])) stands)

-- one switch of the front more
pub front_more : (ps : List Parameter) (before : List Step) (cs : List ℕ) (i c n : ℕ) (g : Supplied) (new : Progress) → i < length cs → c ≡ get_or cs i c → is_open ps before ≡ true →
    StepsFollow ps before (given_nothing (letters (take i cs))) → value_of g ≡ None → next_of g ≡ texts (take n []) →
    FitsNeed (need ps (before ++ given_nothing (letters (take i cs))) (Short c)) g →
    HasRead ps ((before ++ given_nothing (letters (take i cs))) ++ use_switch (Short c) g ∷ []) new →
    StepsFollow ps before (given_nothing (letters (take (i + 1) cs))) × HasRead ps (before ++ given_nothing (letters (take (i + 1) cs))) new
front_more ps before cs i c n g new h e opened reads v w fits stands =
    let none = given_none g n [] v w in
    let r = step_more ps before (given_nothing (letters (take i cs))) (Short c) nothing new opened (open_more ps before (letters (take i cs)) opened) reads
    (subst (FitsNeed (need ps (before ++ given_nothing (letters (take i cs))) (Short c))) none fits)
    (subst (λ k. HasRead ps ((before ++ given_nothing (letters (take i cs))) ++ use_switch (Short c) k ∷ []) new) none stands) in
    let more : given_nothing (letters (take (i + 1) cs)) ≡ given_nothing (letters (take i cs)) ++ use_switch (Short c) nothing ∷ [] =
    ap given_nothing (shorts_snoc cs i c h e) ∙ given_snoc (letters (take i cs)) (Short c) in
    (subst (StepsFollow ps before) (sym more) r.0, subst (λ xs. HasRead ps (before ++ xs) new) (sym more) r.1)

refuses_middle : (k : Need) (s : Switch) (after : List Switch) (value : Option Text) (rest : Words) (cause : ArgumentFault) → after ≢ [] →
    RefusesSwitch k s [] None [] cause → RefusesSwitch k s after value rest cause
refuses_middle unknown s after value rest cause some p = p
refuses_middle duplicate s after value rest cause some p = p
refuses_middle no_text s after value rest cause some p = absurd (p.1 refl)
refuses_middle some_text s after value rest cause some p = (inl some, p.1)

more_after : (xs after : List Switch) → after ≢ [] → xs ++ after ≢ []
more_after [] after h e = h e
more_after (x ∷ xs) after h e = (cc)

-- a switch of the front is refused
pub front_refused : (ps : List Parameter) (before : List Step) (cs : List ℕ) (i c : ℕ) (cause : ArgumentFault) → i < length cs → c ≡ get_or cs i c →
    StepsFollow ps before (given_nothing (letters (take i cs))) →
    RefusesSwitch (need ps (before ++ given_nothing (letters (take i cs))) (Short c)) (Short c) [] None [] cause →
    (after : List Switch) (value : Option Text) (rest : Words) → after ≢ [] → SwitchIsRefused ps before (letters cs ++ after) value rest cause
front_refused ps before cs i c cause h e reads refuses after value rest some =
    record {
      front = letters (take i cs);
      switch = Short c;
      after = letters (drop (i + 1) cs) ++ after;
      whole = shorts_cut cs i c after h e;
      reads = reads;
      refuses = refuses_middle (need ps (before ++ given_nothing (letters (take i cs))) (Short c)) (Short c) (letters (drop (i + 1) cs) ++ after) value rest cause
          (more_after (letters (drop (i + 1) cs)) after some) refuses;
    }

shorts_last : (cs front : List ℕ) (last : ℕ) → cs ≡ front ++ last ∷ [] → letters cs ≡ letters front ++ Short last ∷ []
shorts_last cs front last e = ap letters e ∙ map-append Short front (last ∷ [])

-- the last switch of a cluster
pub last_more : (ps : List Parameter) (before : List Step) (cs front : List ℕ) (last : ℕ) (g : Supplied) (new : Progress) → cs ≡ front ++ last ∷ [] → is_open ps before ≡ true →
    StepsFollow ps before (given_nothing (letters front)) →
    FitsNeed (need ps (before ++ given_nothing (letters front)) (Short last)) g →
    HasRead ps ((before ++ given_nothing (letters front)) ++ use_switch (Short last) g ∷ []) new →
    StepsFollow ps before (give (letters cs) g) × HasRead ps (before ++ give (letters cs) g) new
last_more ps before cs front last g new e opened reads fits stands =
    let r = step_more ps before (given_nothing (letters front)) (Short last) g new opened (open_more ps before (letters front) opened) reads fits stands in
    let more : give (letters cs) g ≡ given_nothing (letters front) ++ use_switch (Short last) g ∷ [] =
    ap (λ ss. give ss g) (shorts_last cs front last e) ∙ give_snoc (letters front) (Short last) g in
    (subst (StepsFollow ps before) (sym more) r.0, subst (λ xs. HasRead ps (before ++ xs) new) (sym more) r.1)

-- a cluster whose last switch is given what fits, after the others are given nothing
pub cluster_read : (ps : List Parameter) (old middle new : Progress) (cs front : List ℕ) (last : ℕ) (value : Option Text) (rest : List (Bor Text)) (r : Result ℕ TailError) →
    cs ≡ front ++ last ∷ [] →
    HoldsOpen ps old (λ before. StepsFollow ps before (given_nothing (letters front)) × HasRead ps (before ++ given_nothing (letters front)) middle) →
    IfOk r (λ n. HoldsAfter ps middle (λ before. (g : Supplied) × (value_of g ≡ value) × (next_of g ≡ texts (take n rest)) × FitsNeed (need ps before (Short last)) g
    × HasRead ps (before ++ use_switch (Short last) g ∷ []) new)) →
    IfOk r (λ n. HoldsOpen ps old (λ before. (g : Supplied) × (value_of g ≡ value) × (next_of g ≡ texts (take n rest)) × StepsFollow ps before (give (letters cs) g)
    × HasRead ps (before ++ give (letters cs) g) new))
cluster_read ps old middle new cs front last value rest r whole first given =
    IfOk_then r given
    (λ n p before stands opened.
    let f = first before stands opened in
    let u = p (before ++ given_nothing (letters front)) f.1 in
    let m = last_more ps before cs front last u.0 new whole opened f.0 u.3 u.4 in
    (u.0, u.1, u.2, m.0, m.1))

-- the last switch of a cluster is refused
pub last_refused : (ps : List Parameter) (before : List Step) (cs front : List ℕ) (last : ℕ) (value : Option Text) (rest : Words) (cause : ArgumentFault) → cs ≡ front ++ last ∷ [] →
    StepsFollow ps before (given_nothing (letters front)) →
    RefusesSwitch (need ps (before ++ given_nothing (letters front)) (Short last)) (Short last) [] value rest cause →
    SwitchIsRefused ps before (letters cs) value rest cause
last_refused ps before cs front last value rest cause e reads refuses =
    record {
      front = letters front;
      switch = Short last;
      after = [];
      whole = shorts_last cs front last e;
      reads = reads;
      refuses = refuses;
    }

-- the only switch of an option is refused
pub single_refused : (ps : List Parameter) (before : List Step) (s : Switch) (value : Option Text) (rest : Words) (cause : ArgumentFault) →
    RefusesSwitch (need ps before s) s [] value rest cause → SwitchIsRefused ps before (s ∷ []) value rest cause
single_refused ps before s value rest cause p =
    record {
      front = [];
      switch = s;
      after = [];
      whole = refl;
      reads = tt;
      refuses = subst (λ b. RefusesSwitch (need ps b s) s [] value rest cause) (sym (append-nil before)) p;
    }
