-- The groups of a tail, one text more.
use Rattle.std.proofs.Common.{◌≡◌, ◌≢◌, ℕ, ◌+◌, ◌<◌, Bool, true, false, not, ◌&&◌, cond, eqb, Some, List, [], ◌∷◌, ◌++◌, length, get_or, set, refl, sym, ap, ◌∙◌, arith, eq-eqb, ⊎_elim, append_assoc}
use Rattle.std.proofs.Math.ListN.{length-set}
use Rattle.std.proofs.lemmas.List.{append-nil, map-append, map-set, get_or-map, get_or-set_same, get_or-set_other}
use Rattle.std.proofs.lemmas.Bool.{cases_eq, ne_eqb}
use Rattle.std.specs.Borrow.{Bor}
use Rattle.std.specs.declared.vec.Vec.{Vec}
use Rattle.std.specs.declared.alloc.Global.{Global}
use Rattle.just_names.specs.Texts.{Text, texts}
use Rattle.just_ast_definitions.specs.declared.parameter.Parameter.{Parameter}
use Rattle.just_errors.specs.declared.switch.Switch.{Switch}
use Rattle.just_tail.specs.declared.progress.Progress.{Progress}
use Rattle.just_tail.specs.Words.{Words, as_texts}
use Rattle.just_tail.specs.Options.{option_of, has_options, place}
use Rattle.just_tail.specs.Pieces.{Supplied}
use Rattle.just_tail.specs.Steps.{Step, take_word, close_options, use_switch, positionals_among, ends_options, text_given, Uses, use_at, use_by, uses_from, group}
use Rattle.just_tail.specs.loops.Reader.{HasRead}

-- a word more in one group
pub shown_pushed_at : (xs : List (Vec (Bor Text) Global)) (i : ℕ) (old new : Vec (Bor Text) Global) (w : Bor Text) → i < length xs →
    old ≡ get_or xs i old → new.items ≡ old.items ++ w ∷ [] →
    as_texts (set xs i new) ≡ set (as_texts xs) i (get_or (as_texts xs) i [] ++ w.now ∷ [])
shown_pushed_at xs i old new w h e f =
    map-set (λ v. texts v.items) xs i new
    ∙ ap (λ g. set (as_texts xs) i g) (ap texts f ∙ map-append (λ v. v.now) old.items (w ∷ [])
    ∙ ap (λ g. g ++ w.now ∷ []) (ap (λ v. texts v.items) e ∙ sym (get_or-map (λ v. texts v.items) xs i old [] h)))

cond-append : (b : Bool) (x : Text) (xs ys : Words) → cond b (x ∷ (xs ++ ys)) (xs ++ ys) ≡ cond b (x ∷ xs) xs ++ ys
cond-append true x xs ys = refl
cond-append false x xs ys = refl

group-append : (j : ℕ) (us vs : List (ℕ × Text)) → group j (us ++ vs) ≡ group j us ++ group j vs
group-append j [] vs = refl
group-append j (u ∷ us) vs =
    ap (λ g. cond (eqb u.0 j) (u.1 ∷ g) g) (group-append j us vs) ∙ cond-append (eqb u.0 j) u.1 (group j us) (group j vs)

group_same : (i j : ℕ) (w : Text) → i ≡ j → group j ((i, w) ∷ []) ≡ w ∷ []
group_same i j w e = ap (λ b. cond b (w ∷ []) []) (eq-eqb i j e)

group_other : (i j : ℕ) (w : Text) → i ≢ j → group j ((i, w) ∷ []) ≡ []
group_other i j w e = ap (λ b. cond b (w ∷ []) []) (ne_eqb i j e)

-- a text more in one group
pub group_more : (gs more : List Words) (uses : Uses) (i : ℕ) (w : Text) (n : ℕ) →
    more ≡ set gs i (get_or gs i [] ++ w ∷ []) → i < length gs →
    ((j : ℕ) → j < n → get_or gs j [] ≡ group j uses) →
    (j : ℕ) → j < n → get_or more j [] ≡ group j (uses ++ (i, w) ∷ [])
group_more gs more uses i w n e h each j small =
    let both : group j (uses ++ (i, w) ∷ []) ≡ group j uses ++ group j ((i, w) ∷ []) = group-append j uses ((i, w) ∷ []) in
    let here : get_or more j [] ≡ get_or (set gs i (get_or gs i [] ++ w ∷ [])) j [] = ap (λ g. get_or g j []) e in
    ⊎_elim
    (λ (same : i ≡ j).
    here ∙ ap (λ m. get_or (set gs i (get_or gs i [] ++ w ∷ [])) m []) (sym same) ∙ get_or-set_same gs i (get_or gs i [] ++ w ∷ []) [] h
    ∙ ap (λ m. get_or gs m [] ++ w ∷ []) same ∙ ap (λ g. g ++ w ∷ []) (each j small)
    ∙ ap (λ g. group j uses ++ g) (sym (group_same i j w same)) ∙ sym both)
    (λ (other : i ≢ j).
    here ∙ get_or-set_other gs i j (get_or gs i [] ++ w ∷ []) [] (λ q. other (sym q)) ∙ each j small
    ∙ sym (append-nil (group j uses))
    ∙ ap (λ g. group j uses ++ g) (sym (group_other i j w other)) ∙ sym both)
    (cases_eq i j)

-- the uses of one step more
uses_push : (ps : List Parameter) (k : ℕ) (steps : List Step) (x : Step) →
    uses_from ps k (steps ++ x ∷ []) ≡ uses_from ps k steps ++ uses_from ps (k + positionals_among steps) (x ∷ [])
uses_push ps k [] x = let e : k ≡ k + 0 = omega arith in ap (λ m. uses_from ps m (x ∷ [])) e
uses_push ps k (take_word w ∷ steps) x =
    let e : k + 1 + positionals_among steps ≡ k + (positionals_among steps + 1) = omega arith in
    ap (λ us. use_at (place ps k) w ++ us) (uses_push ps (k + 1) steps x ∙ ap (λ m. uses_from ps (k + 1) steps ++ uses_from ps m (x ∷ [])) e)
    ∙ sym (append_assoc (use_at (place ps k) w) (uses_from ps (k + 1) steps) (uses_from ps (k + (positionals_among steps + 1)) (x ∷ [])))
uses_push ps k (close_options ∷ steps) x = uses_push ps k steps x
uses_push ps k (use_switch s g ∷ steps) x =
    ap (λ us. use_by (option_of ps s) (text_given g) ++ us) (uses_push ps k steps x)
    ∙ sym (append_assoc (use_by (option_of ps s) (text_given g)) (uses_from ps k steps) (uses_from ps (k + positionals_among steps) (x ∷ [])))

uses_before : (ps : List Parameter) (before : List Step) (x : Step) →
    uses_from ps 0 (before ++ x ∷ []) ≡ uses_from ps 0 before ++ uses_from ps (positionals_among before) (x ∷ [])
uses_before ps before x =
    let e : 0 + positionals_among before ≡ positionals_among before = omega arith in
    uses_push ps 0 before x ∙ ap (λ k. uses_from ps 0 before ++ uses_from ps k (x ∷ [])) e

placed_push : (steps : List Step) (x : Step) → positionals_among (steps ++ x ∷ []) ≡ positionals_among steps + positionals_among (x ∷ [])
placed_push [] x = let e : positionals_among (x ∷ []) ≡ 0 + positionals_among (x ∷ []) = omega arith in e
placed_push (take_word w ∷ steps) x =
    let e : positionals_among steps + positionals_among (x ∷ []) + 1 ≡ positionals_among steps + 1 + positionals_among (x ∷ []) = omega arith in
    ap (λ n. n + 1) (placed_push steps x) ∙ e
placed_push (close_options ∷ steps) x = placed_push steps x
placed_push (use_switch s g ∷ steps) x = placed_push steps x

closed_same : (steps : List Step) (x : Step) → ends_options (x ∷ []) ≡ false → ends_options (steps ++ x ∷ []) ≡ ends_options steps
closed_same [] x e = e
closed_same (take_word w ∷ steps) x e = closed_same steps x e
closed_same (close_options ∷ steps) x e = refl
closed_same (use_switch s g ∷ steps) x e = closed_same steps x e

close_closes : (steps : List Step) → ends_options (steps ++ close_options ∷ []) ≡ true
close_closes [] = refl
close_closes (take_word w ∷ steps) = close_closes steps
close_closes (close_options ∷ steps) = refl
close_closes (use_switch s g ∷ steps) = close_closes steps

and_false : (a b : Bool) → b ≡ true → (a && not b) ≡ false
and_false true b e = ap not e
and_false false b e = refl

-- a step more whose parameter gains a text
stands_text : (ps : List Parameter) (before : List Step) (x : Step) (old new : Progress) (j : ℕ) (text : Text) →
    uses_from ps (positionals_among before) (x ∷ []) ≡ (j, text) ∷ [] → ends_options (x ∷ []) ≡ false → j < length ps → HasRead ps before old →
    new.opened ≡ old.opened → new.placed ≡ old.placed + positionals_among (x ∷ []) →
    as_texts new.groups.items ≡ set (as_texts old.groups.items) j (get_or (as_texts old.groups.items) j [] ++ text ∷ []) →
    HasRead ps (before ++ x ∷ []) new
stands_text ps before x old new j text e open_still small s f g pushed =
    let within : j < length (as_texts old.groups.items) = let h = s.groups in omega arith in
    record {
      opened = f ∙ s.opened ∙ sym (ap (λ b. has_options ps && not b) (closed_same before x open_still));
      count = g ∙ ap (λ n. n + positionals_among (x ∷ [])) s.count ∙ sym (placed_push before x);
      groups = ap length pushed ∙ length-set (as_texts old.groups.items) j (get_or (as_texts old.groups.items) j [] ++ text ∷ []) ∙ s.groups;
      each = λ i h.
          group_more (as_texts old.groups.items) (as_texts new.groups.items) (uses_from ps 0 before) j text (length ps) pushed within s.each i h
          ∙ sym (ap (group i) (uses_before ps before x ∙ ap (λ us. uses_from ps 0 before ++ us) e));
    }

-- a positional word more
pub stands_take : (ps : List Parameter) (before : List Step) (w : Text) (old new : Progress) (j : ℕ) →
    place ps (positionals_among before) ≡ Some j → j < length ps → HasRead ps before old →
    new.opened ≡ old.opened → new.placed ≡ old.placed + 1 →
    as_texts new.groups.items ≡ set (as_texts old.groups.items) j (get_or (as_texts old.groups.items) j [] ++ w ∷ []) →
    HasRead ps (before ++ take_word w ∷ []) new
stands_take ps before w old new j e small s f g pushed =
    let one : positionals_among (take_word w ∷ []) ≡ 1 = let h : 0 + 1 ≡ 1 = omega arith in h in
    stands_text ps before (take_word w) old new j w (ap (λ o. use_at o w ++ []) e) refl small s f (g ∙ ap (λ n. old.placed + n) (sym one)) pushed

-- a switch more
pub stands_use : (ps : List Parameter) (before : List Step) (s : Switch) (g : Supplied) (old new : Progress) (j : ℕ) (p : Parameter) (text : Text) →
    option_of ps s ≡ Some (j, p) → text ≡ text_given g → j < length ps → HasRead ps before old →
    new.opened ≡ old.opened → new.placed ≡ old.placed →
    as_texts new.groups.items ≡ set (as_texts old.groups.items) j (get_or (as_texts old.groups.items) j [] ++ text ∷ []) →
    HasRead ps (before ++ use_switch s g ∷ []) new
stands_use ps before s g old new j p text e f small stands o c pushed =
    let none : old.placed ≡ old.placed + 0 = omega arith in
    stands_text ps before (use_switch s g) old new j text
    (ap (λ x. use_by x (text_given g) ++ []) e ∙ ap (λ t. (j, t) ∷ []) (sym f)) refl small stands o (c ∙ none) pushed

-- the `--`
pub stands_close : (ps : List Parameter) (before : List Step) (old new : Progress) → HasRead ps before old →
    new.opened ≡ false → new.placed ≡ old.placed → new.groups ≡ old.groups → HasRead ps (before ++ close_options ∷ []) new
stands_close ps before old new s o c same =
    let none : positionals_among before ≡ positionals_among before + 0 = omega arith in
    let shows : as_texts new.groups.items ≡ as_texts old.groups.items = ap (λ g. as_texts g.items) same in
    record {
      opened = o ∙ sym (and_false (has_options ps) (ends_options (before ++ close_options ∷ [])) (close_closes before));
      count = c ∙ s.count ∙ none ∙ sym (placed_push before close_options);
      groups = ap length shows ∙ s.groups;
      each = λ i h.
          ap (λ gs. get_or gs i []) shows ∙ s.each i h
          ∙ sym (ap (group i) (uses_before ps before close_options ∙ append-nil (uses_from ps 0 before)));
    }
