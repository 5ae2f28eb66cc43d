use Rattle.std.proofs.Common.{◌≡◌, ◌≢◌, ℕ, ◌<◌, suc, true, List, [], ◌∷◌, ◌++◌, length, get_or, refl, sym, ap, ◌∙◌, subst, arith}
use Rattle.std.specs.List.{list_all}
use Rattle.std.proofs.lemmas.List.{append-nil}
use Rattle.std.proofs.lemmas.Bool.{and_parts, false≢true}
use Rattle.just_names.specs.Identifier.{is_identifier_start, is_identifier_continue, is_identifier}
use Rattle.just_names.specs.Texts.{Text, joined}
use Rattle.just_paths.specs.Modulepath.{IsWordPath}

abbrev pub LacksColon : List ℕ → Type 0
LacksColon [] = Unit {0}
LacksColon (b ∷ bs) = (b ≢ 58) × LacksColon bs

pub lacks_by_index : (bs : List ℕ) → ((i : ℕ) → i < length bs → get_or bs i 0 ≢ 58) → LacksColon bs
lacks_by_index [] h = tt
lacks_by_index (b ∷ bs) h = (h 0 (omega arith), lacks_by_index bs (λ i q. h (suc i) (omega arith)))

not_start : (b : ℕ) → is_identifier_start b ≡ true → b ≢ 58
not_start b h e = let f : is_identifier_start 58 ≡ true = subst (λ x. is_identifier_start x ≡ true) e h in false≢true f

not_continue : (b : ℕ) → is_identifier_continue b ≡ true → b ≢ 58
not_continue b h e = let f : is_identifier_continue 58 ≡ true = subst (λ x. is_identifier_continue x ≡ true) e h in false≢true f

lacks_rest : (bs : List ℕ) → list_all is_identifier_continue bs ≡ true → LacksColon bs
lacks_rest [] h = tt
lacks_rest (b ∷ bs) h = let p = and_parts (is_identifier_continue b) (list_all is_identifier_continue bs) h in (not_continue b p.0, lacks_rest bs p.1)

pub lacks_identifier : (bs : List ℕ) → is_identifier bs ≡ true → LacksColon bs
lacks_identifier [] h = tt
lacks_identifier (b ∷ bs) h = let p = and_parts (is_identifier_start b) (list_all is_identifier_continue bs) h in (not_start b p.0, lacks_rest bs p.1)

-- a text is cut at its first colon in one way
pub cut_once : (xs ys a b : List ℕ) → LacksColon xs → LacksColon ys → xs ++ 58 ∷ a ≡ ys ++ 58 ∷ b → (xs ≡ ys) × (a ≡ b)
cut_once [] [] a b l m e = (refl, (cc))
cut_once [] (y ∷ ys) a b l m e = let p : y ≡ 58 = (cc) in absurd (m.0 p)
cut_once (x ∷ xs) [] a b l m e = let p : x ≡ 58 = (cc) in absurd (l.0 p)
cut_once (x ∷ xs) (y ∷ ys) a b l m e =
    let tails : xs ++ 58 ∷ a ≡ ys ++ 58 ∷ b = (cc) in
    let r = cut_once xs ys a b l.1 m.1 tails in
    let same : x ≡ y = (cc) in
    (let q : xs ≡ ys = r.0 in (cc), r.1)

pub uncut : (xs ys b : List ℕ) → LacksColon xs → xs ≡ ys ++ 58 ∷ b → ⊥
uncut [] [] b l e = (cc)
uncut [] (y ∷ ys) b l e = (cc)
uncut (x ∷ xs) [] b l e = let p : x ≡ 58 = (cc) in l.0 p
uncut (x ∷ xs) (y ∷ ys) b l e = let t : xs ≡ ys ++ 58 ∷ b = (cc) in uncut xs ys b l.1 t

-- the word is one identifier
pub path_one : (name : Text) → is_identifier name ≡ true → IsWordPath name (name ∷ [])
path_one name h = ((λ e. (cc)), (h, tt), sym (append-nil name))

pub path_cons : (name more : Text) (cs : List Text) → is_identifier name ≡ true → IsWordPath more cs → IsWordPath (name ++ 58 ∷ (58 ∷ more)) (name ∷ cs)
path_cons name more [] h p = absurd (p.0 refl)
path_cons name more (c ∷ cs) h p = ((λ e. (cc)), (h, p.1), (let e : more ≡ joined (58 ∷ 58 ∷ []) (c ∷ cs) = p.2 in ap (λ m. name ++ 58 ∷ (58 ∷ m)) e))

-- with no colon in it a word has one component
pub only_one : (word : Text) (cs : List Text) → LacksColon word → IsWordPath word cs → (cs ≡ word ∷ []) × (is_identifier word ≡ true)
only_one word [] l p = absurd (p.0 refl)
only_one word (c ∷ []) l p = let e : word ≡ c = p.2 ∙ append-nil c in ((cc), subst (λ w. is_identifier w ≡ true) (sym e) p.1.0)
only_one word (c ∷ d ∷ ds) l p = absurd (uncut word c (58 ∷ joined (58 ∷ 58 ∷ []) (d ∷ ds)) l p.2)

-- the first component ends at the first colon
pub only_cons : (name after : Text) (cs : List Text) → LacksColon name → IsWordPath (name ++ 58 ∷ after) cs →
    (is_identifier name ≡ true) × (more : Text) × (rest : List Text) × (after ≡ 58 ∷ more) × (cs ≡ name ∷ rest) × IsWordPath more rest
only_cons name after [] l p = absurd (p.0 refl)
only_cons name after (c ∷ []) l p = absurd (uncut c name after (lacks_identifier c p.1.0) (sym (append-nil c) ∙ sym p.2))
only_cons name after (c ∷ d ∷ ds) l p =
    let r = cut_once name c after (58 ∷ joined (58 ∷ 58 ∷ []) (d ∷ ds)) l (lacks_identifier c p.1.0) p.2 in
    let same : name ≡ c = r.0 in (
      subst (λ w. is_identifier w ≡ true) (sym same) p.1.0,
      joined (58 ∷ 58 ∷ []) (d ∷ ds),
      d ∷ ds,
      r.1,
      (cc),
      ((λ e. (cc)), p.1.1, refl),
    )

pub components_push : (xs : List Text) (s : Text) (name : Text) (more : List Text) → s ≡ name → (xs ++ s ∷ []) ++ more ≡ xs ++ name ∷ more
components_push [] s name more e = ap (λ n. n ∷ more) e
components_push (x ∷ xs) s name more e = ap (λ t. x ∷ t) (components_push xs s name more e)
