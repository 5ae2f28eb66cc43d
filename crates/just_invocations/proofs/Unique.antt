-- Words are invocations in one way.
use Rattle.std.proofs.Common.{◌≡◌, ◌≢◌, ◌<◌, Bool, true, false, List, [], ◌∷◌, ◌++◌, Some, length, refl, sym, ap, ◌∙◌, subst, arith, length-append}
use Rattle.std.specs.Bool.{MatchBool}
use Rattle.just_names.specs.Texts.{Text}
use Rattle.just_paths.proofs.PathTexts.{word_path_once, argument_path_once}
use Rattle.just_recipe.specs.declared.dependency.Dependency.{Dependency}
use Rattle.just_recipe.specs.declared.recipe.Recipe.{Recipe}
use Rattle.just_tail.specs.Words.{Words}
use Rattle.just_justfile.specs.declared.justfile.Justfile.{Justfile}
use Rattle.just_justfile.specs.Closed.{HeldRecipes}
use Rattle.just_invocations.specs.Words.{IsPathWord, has_colon, is_empty}
use Rattle.just_invocations.specs.Meaning.{Meaning, a_module, a_recipe, disabled_recipe, disabled_alias, absent_module, nothing, meaning}
use Rattle.just_invocations.specs.Head.{MeaningLeads, WordsLead, IsHead, PathLeads}
use Rattle.just_invocations.specs.Split.{Counts, RecipeTakesArguments, Invoked, Invokes, Chain, IsSplit}
use Rattle.just_invocations.proofs.Readings.{reading_once}

-- one front, one rest and one recipe
abbrev pub Agree : Words → Words → Words → Words → Recipe Dependency → Recipe Dependency → Type 0
Agree xs ys a b r s = (xs ≡ ys) × (a ≡ b) × (r ≡ s)

-- a name of one meaning leads one way
leads_step : (m : Meaning) (On Onn : Justfile → Type 0) (xs ys a b : Words) (r s : Recipe Dependency) → xs ++ a ≡ ys ++ b →
    ((next : Justfile) → On next → Onn next → Agree xs ys a b r s) → MeaningLeads m On xs r → MeaningLeads m Onn ys s → Agree xs ys a b r s
leads_step (a_module next) On Onn xs ys a b r s e on p q = on next p q
leads_step (a_recipe found) On Onn xs ys a b r s e on p q =
    (p.0 ∙ sym q.0, ap (λ t. t ++ a) (sym p.0) ∙ e ∙ ap (λ t. t ++ b) q.0, sym p.1 ∙ q.1)
leads_step (disabled_recipe modules) On Onn xs ys a b r s e on p q = absurd p
leads_step (disabled_alias modules) On Onn xs ys a b r s e on p q = absurd p
leads_step absent_module On Onn xs ys a b r s e on p q = absurd p
leads_step nothing On Onn xs ys a b r s e on p q = absurd p

pub leads_once : (root : Justfile) (recipes : HeldRecipes) (here : Justfile) (xs ys a b : Words) (r s : Recipe Dependency) → xs ++ a ≡ ys ++ b →
    WordsLead root recipes here xs a r → WordsLead root recipes here ys b s → Agree xs ys a b r s
leads_once root recipes here [] [] a b r s e p q =
    let f : Some r ≡ Some s = sym p.1.0 ∙ q.1.0 in
    (refl, e, (cc))
leads_once root recipes here [] (y ∷ ys) a b r s e p q = absurd (let f = p.0 in let g : ⊥ = (cc) in g)
leads_once root recipes here (x ∷ xs) [] a b r s e p q = absurd (let f = q.0 in let g : ⊥ = (cc) in g)
leads_once root recipes here (x ∷ xs) (y ∷ ys) a b r s e p q =
    let same : x ≡ y = (cc) in
    let tails : xs ++ a ≡ ys ++ b = (cc) in
    let t = leads_step (meaning root recipes here x) (λ next. WordsLead root recipes next xs a r) (λ next. WordsLead root recipes next ys b s) xs ys a b r s tails
    (λ next. leads_once root recipes next xs ys a b r s tails)
    p (subst (λ z. WordsLead root recipes here (z ∷ ys) b s) (sym same) q) in
    ((let h : xs ≡ ys = t.0 in (cc)), t.1, t.2)

pub path_word_once : (last : Bool) (word : Text) (cs ds : Words) → IsPathWord last word cs → IsPathWord last word ds → cs ≡ ds
path_word_once true word cs ds p q = argument_path_once word cs ds p q
path_word_once false word cs ds p q = word_path_once word cs ds p q

path_leads_once : (root : Justfile) (recipes : HeldRecipes) (last : Bool) (word : Text) (r s : Recipe Dependency) → PathLeads root recipes last word r → PathLeads root recipes last word s → r ≡ s
path_leads_once root recipes last word r s p q =
    let same = path_word_once last word p.0 q.0 p.1 q.1 in
    (leads_once root recipes root q.0 q.0 [] [] r s refl (subst (λ names. WordsLead root recipes root names [] r) same p.2) q.2).2

head_step : (root : Justfile) (recipes : HeldRecipes) (w : Text) (xs ys a b : Words) (r s : Recipe Dependency) (colon : Bool) → xs ++ a ≡ ys ++ b →
    MatchBool colon ((xs ≡ []) × PathLeads root recipes (is_empty a) w r) (WordsLead root recipes root (w ∷ xs) a r) →
    MatchBool colon ((ys ≡ []) × PathLeads root recipes (is_empty b) w s) (WordsLead root recipes root (w ∷ ys) b s) → Agree (w ∷ xs) (w ∷ ys) a b r s
head_step root recipes w xs ys a b r s true e p q =
    let rest : a ≡ b = ap (λ t. t ++ a) (sym p.0) ∙ e ∙ ap (λ t. t ++ b) q.0 in (
      ap (λ t. w ∷ t) (p.0 ∙ sym q.0),
      rest,
      path_leads_once root recipes (is_empty b) w r s (subst (λ t. PathLeads root recipes (is_empty t) w r) rest p.1) q.1,
    )
head_step root recipes w xs ys a b r s false e p q = leads_once root recipes root (w ∷ xs) (w ∷ ys) a b r s (ap (λ t. w ∷ t) e) p q

pub head_once : (root : Justfile) (recipes : HeldRecipes) (xs ys a b : Words) (r s : Recipe Dependency) → xs ++ a ≡ ys ++ b →
    IsHead root recipes xs a r → IsHead root recipes ys b s → Agree xs ys a b r s
head_once root recipes [] [] a b r s e p q = leads_once root recipes root [] [] a b r s e p q
head_once root recipes [] (y ∷ ys) a b r s e p q = absurd (let f = p.0 in let g : ⊥ = (cc) in g)
head_once root recipes (x ∷ xs) [] a b r s e p q = absurd (let f = q.0 in let g : ⊥ = (cc) in g)
head_once root recipes (x ∷ xs) (y ∷ ys) a b r s e p q =
    let same : x ≡ y = (cc) in
    let tails : xs ++ a ≡ ys ++ b = (cc) in
    let t = head_step root recipes x xs ys a b r s (has_colon x) tails p (subst (λ z. IsHead root recipes (z ∷ ys) b s) (sym same) q) in
    ((let h : x ∷ xs ≡ x ∷ ys = t.0 in (cc)), t.1, t.2)

pub invokes_once : (counts : Counts) (root : Justfile) (recipes : HeldRecipes) (words a b : Words) (i j : Invoked) → Invokes counts root recipes words a i → Invokes counts root recipes words b j → (a ≡ b) × (i ≡ j)
invokes_once counts root recipes words a b i j p q =
    let heads = head_once root recipes p.head q.head (p.tail ++ a) (q.tail ++ b) i.recipe j.recipe (sym p.whole ∙ q.whole) p.names q.names in
    let same : i.recipe ≡ j.recipe = heads.2 in
    let tails = reading_once counts j.recipe p.tail q.tail a b i.groups j.groups heads.1
    (subst (λ (r : Recipe Dependency). RecipeTakesArguments counts r p.tail a i.groups) same p.takes) q.takes in
    let P : Recipe Dependency → List Words → Invoked = λ r g. record { recipe = r; groups = g } in
    (tails.1, ap (λ r. P r i.groups) same ∙ ap (λ g. P j.recipe g) tails.2)

chain_once : (counts : Counts) (root : Justfile) (recipes : HeldRecipes) (words : Words) (is js : List Invoked) → Chain counts root recipes words is [] → Chain counts root recipes words js [] → is ≡ js
chain_once counts root recipes words [] [] p q = refl
chain_once counts root recipes words [] (j ∷ js) p q = absurd (q.0 p)
chain_once counts root recipes words (i ∷ is) [] p q = absurd (p.0 q)
chain_once counts root recipes words (i ∷ is) (j ∷ js) p q =
    let o = invokes_once counts root recipes words p.1 q.1 i j p.2 q.2 in
    let rest = chain_once counts root recipes q.1 is js (subst (λ ws. Chain counts root recipes ws is []) o.0 p.3) q.3 in
    ap (λ k. k ∷ is) o.1 ∙ ap (λ ks. j ∷ ks) rest

pub split_once : (counts : Counts) (root : Justfile) (recipes : HeldRecipes) (words : Words) (is js : List Invoked) → IsSplit counts root recipes words is → IsSplit counts root recipes words js → is ≡ js
split_once counts root recipes [] is js p q =
    let o = invokes_once counts root recipes [] [] [] p.0 q.0 p.2 q.2 in
    p.1 ∙ ap (λ i. i ∷ []) o.1 ∙ sym q.1
split_once counts root recipes (w ∷ ws) is js p q = chain_once counts root recipes (w ∷ ws) is js p q

head_takes : (root : Justfile) (recipes : HeldRecipes) (words head tail after : Words) (r : Recipe Dependency) → words ≢ [] → words ≡ head ++ (tail ++ after) →
    IsHead root recipes head (tail ++ after) r → length after < length words
head_takes root recipes words [] tail after r h e p = absurd (h (e ∙ p.0))
head_takes root recipes words (x ∷ xs) tail after r h e p = omega (arith, ap length e, length-append xs (tail ++ after), length-append tail after)

pub invokes_takes : (counts : Counts) (root : Justfile) (recipes : HeldRecipes) (words after : Words) (i : Invoked) → words ≢ [] → Invokes counts root recipes words after i → length after < length words
invokes_takes counts root recipes words after i h p = head_takes root recipes words p.head p.tail after i.recipe h p.whole p.names
