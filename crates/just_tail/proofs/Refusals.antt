-- Words that begin with a bad option begin with no piece, end no tail, and are bad for one cause.
use Rattle.std.proofs.Common.{◌≡◌, ◌≢◌, inl, inr, true, List, [], ◌∷◌, ◌++◌, Option, refl, sym, ap, ◌∙◌, subst, append_assoc}
use Rattle.std.proofs.lemmas.List.{append-nil}
use Rattle.just_names.specs.Texts.{Text}
use Rattle.just_ast_definitions.specs.declared.parameter.Parameter.{Parameter}
use Rattle.just_errors.specs.declared.switch.Switch.{Switch}
use Rattle.just_tail.specs.Words.{Words}
use Rattle.just_tail.specs.Pieces.{Supplied, nothing, equals, next, Piece, positional, dashes, option, option_word, value_of, next_of, words_of, switches_of, HasOptionName, is_dashed, IsNameless}
use Rattle.just_tail.specs.Steps.{Step, use_switch, give, steps_of_piece, is_open, Need, unknown, duplicate, no_text, some_text, need, FitsNeed, StepsFollow, Ends}
use Rattle.just_tail.specs.Cause.{ArgumentFault}
use Rattle.just_tail.specs.Tail.{RefusesSwitch, given_nothing, BadSwitch, NamelessOption, BadOption}
use Rattle.just_tail.proofs.Names.{option_once, option_dashed, not_dashes, is_named, nameless_dashed, nameless_dashes}
use Rattle.just_tail.proofs.Fronts.{plain_clash, some_middle, give_more, Stop, option_words}

-- a switch that is refused is given nothing that fits
refused_last : (k : Need) (s : Switch) (g : Supplied) (value : Option Text) (rest t : Words) (cause : ArgumentFault) →
    value_of g ≡ value → next_of g ++ t ≡ rest → FitsNeed k g → RefusesSwitch k s [] value rest cause → ⊥
refused_last unknown s nothing value rest t cause e f p q = p
refused_last unknown s (equals v) value rest t cause e f p q = p
refused_last unknown s (next w) value rest t cause e f p q = p
refused_last duplicate s nothing value rest t cause e f p q = p
refused_last duplicate s (equals v) value rest t cause e f p q = p
refused_last duplicate s (next w) value rest t cause e f p q = p
refused_last no_text s nothing value rest t cause e f p q = q.1 (sym e)
refused_last no_text s (equals v) value rest t cause e f p q = p
refused_last no_text s (next w) value rest t cause e f p q = p
refused_last some_text s nothing value rest t cause e f p q = p
refused_last some_text s (equals v) value rest t cause e f p (inl n, x) = n refl
refused_last some_text s (equals v) value rest t cause e f p (inr n, x) = let y = n.0 in (cc)
refused_last some_text s (next w) value rest t cause e f p (inl n, x) = n refl
refused_last some_text s (next w) value rest t cause e f p (inr n, x) = let y = n.1 in (cc)

refused_middle : (k : Need) (s : Switch) (after : List Switch) (value : Option Text) (rest : Words) (cause : ArgumentFault) →
    after ≢ [] → FitsNeed k nothing → RefusesSwitch k s after value rest cause → ⊥
refused_middle unknown s after value rest cause h p q = p
refused_middle duplicate s after value rest cause h p q = p
refused_middle no_text s after value rest cause h p q = h q.0
refused_middle some_text s after value rest cause h p q = p

-- a switch is refused after those that are given nothing
abbrev RefusesAt : List Parameter → List Step → List Switch → Switch → List Switch → Option Text → Words → ArgumentFault → Type 0
RefusesAt ps before front s after value rest cause = RefusesSwitch (need ps (before ++ given_nothing front) s) s after value rest cause

at_none : (ps : List Parameter) (before : List Step) (s : Switch) (after : List Switch) (value : Option Text) (rest : Words) (cause : ArgumentFault) →
    RefusesAt ps before [] s after value rest cause → RefusesSwitch (need ps before s) s after value rest cause
at_none ps before s after value rest cause p = subst (λ b. RefusesSwitch (need ps b s) s after value rest cause) (append-nil before) p

at_more : (ps : List Parameter) (before : List Step) (x : Switch) (front : List Switch) (s : Switch) (after : List Switch) (value : Option Text) (rest : Words) (cause : ArgumentFault) →
    RefusesAt ps before (x ∷ front) s after value rest cause → RefusesAt ps (before ++ use_switch x nothing ∷ []) front s after value rest cause
at_more ps before x front s after value rest cause p =
    subst (λ b. RefusesSwitch (need ps b s) s after value rest cause) (sym (append_assoc before (use_switch x nothing ∷ []) (given_nothing front))) p

refused : (ps : List Parameter) (before : List Step) (front : List Switch) (s : Switch) (after : List Switch) (g : Supplied) (value : Option Text) (rest t : Words) (cause : ArgumentFault) →
    value_of g ≡ value → next_of g ++ t ≡ rest → StepsFollow ps before (give (front ++ s ∷ after) g) → RefusesAt ps before front s after value rest cause → ⊥
refused ps before [] s [] g value rest t cause e f p q =
    refused_last (need ps before s) s g value rest t cause e f p.0.1 (at_none ps before s [] value rest cause q)
refused ps before [] s (u ∷ us) g value rest t cause e f p q =
    refused_middle (need ps before s) s (u ∷ us) value rest cause (λ x. (cc)) p.0.1 (at_none ps before s (u ∷ us) value rest cause q)
refused ps before (x ∷ xs) s after g value rest t cause e f p q =
    let h = subst (StepsFollow ps before) (give_more x (xs ++ s ∷ after) g (some_middle xs after s)) p in
    refused ps (before ++ use_switch x nothing ∷ []) xs s after g value rest t cause e f h.1 (at_more ps before x xs s after value rest cause q)

not_next : (ps : List Parameter) (before : List Step) (x : Piece) (t : Words) (cause : ArgumentFault) →
    is_open ps before ≡ true → NamelessOption (words_of x ++ t) cause → HasOptionName x → StepsFollow ps before (steps_of_piece x) → ⊥
not_next ps before (positional w) t cause o b q f = plain_clash (is_open ps before) (is_dashed w) f.0.0 o (nameless_dashed w b.0)
not_next ps before dashes t cause o b q f = nameless_dashes (45 ∷ (45 ∷ [])) refl b.0
not_next ps before (option n g) t cause o b q f =
    let h = subst (λ ws. NamelessOption ws cause) (option_words n g t) b in is_named n (value_of g) q h.0

not_good : (ps : List Parameter) (before : List Step) (x : Piece) (t : Words) (cause : ArgumentFault) →
    is_open ps before ≡ true → BadSwitch ps before (words_of x ++ t) cause → HasOptionName x → StepsFollow ps before (steps_of_piece x) → ⊥
not_good ps before (positional w) t cause o b q f =
    let e = b.whole in
    plain_clash (is_open ps before) (is_dashed w) f.0.0 o (let h : w ≡ option_word b.name b.value = (cc) in ap is_dashed h ∙ option_dashed b.name b.value b.named)
not_good ps before dashes t cause o b q f = let e = b.whole in not_dashes b.name b.value b.named (cc)
not_good ps before (option n g) t cause o b q f =
    let e = sym (option_words n g t) ∙ b.whole in
    let r = option_once n b.name (value_of g) b.value q b.named (cc) in
    refused ps before b.refused.front b.refused.switch b.refused.after g b.value b.rest t cause r.1 (cc)
    (subst (λ ss. StepsFollow ps before (give ss g)) (ap switches_of r.0 ∙ b.refused.whole) f) b.refused.refuses

-- no piece begins where a bad option does
pub bad_first : (ps : List Parameter) (cause : ArgumentFault) → Stop ps (λ before words. BadOption ps before words cause)
bad_first ps cause before x t (o, inl b) q f = not_next ps before x t cause o b q f
bad_first ps cause before x t (o, inr b) q f = not_good ps before x t cause o b q f

-- no tail ends before a bad option
pub ends_bad : (ps : List Parameter) (before : List Step) (words : Words) (cause : ArgumentFault) → Ends ps before words → BadOption ps before words cause → ⊥
ends_bad ps before [] cause p (o, inl b) = b
ends_bad ps before [] cause p (o, inr b) = let e = b.whole in (cc)
ends_bad ps before (w ∷ ws) cause p (o, inl b) = plain_clash (is_open ps before) (is_dashed w) p.0 o (nameless_dashed w b.0)
ends_bad ps before (w ∷ ws) cause p (o, inr b) =
    let e = b.whole in
    plain_clash (is_open ps before) (is_dashed w) p.0 o (let h : w ≡ option_word b.name b.value = (cc) in ap is_dashed h ∙ option_dashed b.name b.value b.named)

refuses_once : (k : Need) (s : Switch) (after : List Switch) (value : Option Text) (rest : Words) (a b : ArgumentFault) →
    RefusesSwitch k s after value rest a → RefusesSwitch k s after value rest b → a ≡ b
refuses_once unknown s after value rest a b p q = p ∙ sym q
refuses_once duplicate s after value rest a b p q = p ∙ sym q
refuses_once no_text s after value rest a b p q = p.2 ∙ sym q.2
refuses_once some_text s after value rest a b p q = p.1 ∙ sym q.1

refused_once : (ps : List Parameter) (before : List Step) (front more : List Switch) (s t : Switch) (after rest : List Switch) (value : Option Text) (words : Words) (a b : ArgumentFault) →
    front ++ s ∷ after ≡ more ++ t ∷ rest → StepsFollow ps before (given_nothing front) → StepsFollow ps before (given_nothing more) →
    RefusesAt ps before front s after value words a → RefusesAt ps before more t rest value words b → a ≡ b
refused_once ps before [] [] s t after rest value words a b e p q f g =
    let same : s ≡ t = (cc) in let tails : after ≡ rest = (cc) in
    refuses_once (need ps before t) t rest value words a b
    (subst (λ u. RefusesSwitch (need ps before u) u rest value words a) same
    (subst (λ us. RefusesSwitch (need ps before s) s us value words a) tails (at_none ps before s after value words a f))) (at_none ps before t rest value words b g)
refused_once ps before [] (y ∷ ys) s t after rest value words a b e p q f g =
    let same : y ≡ s = (cc) in let tails : ys ++ t ∷ rest ≡ after = (cc) in
    absurd (refused_middle (need ps before s) s after value words a (λ x. some_middle ys rest t (tails ∙ x))
    (subst (λ u. FitsNeed (need ps before u) nothing) same q.0.1) (at_none ps before s after value words a f))
refused_once ps before (x ∷ xs) [] s t after rest value words a b e p q f g =
    let same : x ≡ t = (cc) in let tails : xs ++ s ∷ after ≡ rest = (cc) in
    absurd (refused_middle (need ps before t) t rest value words b (λ y. some_middle xs after s (tails ∙ y))
    (subst (λ u. FitsNeed (need ps before u) nothing) same p.0.1) (at_none ps before t rest value words b g))
refused_once ps before (x ∷ xs) (y ∷ ys) s t after rest value words a b e p q f g =
    let same : y ≡ x = (cc) in let tails : xs ++ s ∷ after ≡ ys ++ t ∷ rest = (cc) in
    refused_once ps (before ++ use_switch x nothing ∷ []) xs ys s t after rest value words a b tails p.1
    (subst (λ u. StepsFollow ps (before ++ use_switch u nothing ∷ []) (given_nothing ys)) same q.1)
    (at_more ps before x xs s after value words a f)
    (subst (λ u. RefusesAt ps (before ++ use_switch u nothing ∷ []) ys t rest value words b) same (at_more ps before y ys t rest value words b g))

switch_once : (ps : List Parameter) (before : List Step) (words : Words) (a b : ArgumentFault) → BadSwitch ps before words a → BadSwitch ps before words b → a ≡ b
switch_once ps before words a b p q =
    let e = sym p.whole ∙ q.whole in
    let r = option_once p.name q.name p.value q.value p.named q.named (cc) in
    let more : p.rest ≡ q.rest = (cc) in
    refused_once ps before p.refused.front q.refused.front p.refused.switch q.refused.switch p.refused.after q.refused.after q.value q.rest a b
    (sym p.refused.whole ∙ ap switches_of r.0 ∙ q.refused.whole) p.refused.reads q.refused.reads
    (subst (λ ws. RefusesAt ps before p.refused.front p.refused.switch p.refused.after q.value ws a) more
    (subst (λ v. RefusesAt ps before p.refused.front p.refused.switch p.refused.after v p.rest a) r.1 p.refused.refuses)) q.refused.refuses

name_clash : (ps : List Parameter) (before : List Step) (words : Words) (a b : ArgumentFault) → NamelessOption words a → BadSwitch ps before words b → ⊥
name_clash ps before [] a b p q = p
name_clash ps before (w ∷ ws) a b p q =
    let e = q.whole in let h : w ≡ option_word q.name q.value = (cc) in is_named q.name q.value q.named (subst IsNameless h p.0)

name_once : (words : Words) (a b : ArgumentFault) → NamelessOption words a → NamelessOption words b → a ≡ b
name_once [] a b p q = absurd p
name_once (w ∷ ws) a b p q = p.1 ∙ sym q.1

-- words are a bad option for at most one cause
pub bad_once : (ps : List Parameter) (before : List Step) (words : Words) (a b : ArgumentFault) → BadOption ps before words a → BadOption ps before words b → a ≡ b
bad_once ps before words a b (o, inl p) (u, inl q) = name_once words a b p q
bad_once ps before words a b (o, inl p) (u, inr q) = absurd (name_clash ps before words a b p q)
bad_once ps before words a b (o, inr p) (u, inl q) = absurd (name_clash ps before words b a q p)
bad_once ps before words a b (o, inr p) (u, inr q) = switch_once ps before words a b p q
