-- Words are invocations, or have a fault.
use Rattle.std.proofs.Common.{◌≡◌, ◌≢◌, ◌⊎◌, inl, inr, ℕ, zero, suc, ◌<◌, Bool, true, false, not, List, [], ◌∷◌, ◌++◌, Option, Some, None, length, refl, sym, ap, ◌∙◌, subst, arith}
use Rattle.std.specs.Bool.{MatchBool}
use Rattle.std.proofs.lemmas.Bool.{cases_eq, false≢true}
use Rattle.std.proofs.lemmas.List.{append-nil}
use Rattle.just_ast_definitions.specs.Parameter.{least_arguments}
use Rattle.just_names.specs.Texts.{Text, text_of}
use Rattle.just_paths.proofs.PathTexts.{PathOrNone, decide_argument_path, decide_word_path}
use Rattle.just_recipe.specs.declared.dependency.Dependency.{Dependency}
use Rattle.just_recipe.specs.declared.recipe.Recipe.{Recipe}
use Rattle.just_tail.specs.Words.{Words}
use Rattle.just_justfile.specs.declared.justfile.Justfile.{Justfile, out-Justfile}
use Rattle.just_justfile.specs.declared.justfile.RecipeKey.{RecipeKey}
use Rattle.just_justfile.specs.Closed.{HeldRecipes, default_recipe, resolved_name}
use Rattle.just_invocations.specs.Cause.{InvocationFault, with_recipe, unknown_recipe, unknown_submodule, expected_submodule, recipe_disabled, alias_disabled, module_absent, no_recipes, no_default, default_requires}
use Rattle.just_invocations.specs.Words.{IsPathWord, has_colon, is_empty}
use Rattle.just_invocations.specs.Meaning.{Meaning, a_module, a_recipe, disabled_recipe, disabled_alias, absent_module, nothing, meaning}
use Rattle.just_invocations.specs.Head.{NoDefault, MeaningLeads, MeaningMisleads, goes_on, absolute_path_of, WordsLead, WordsMislead, NoPath, NoHead, IsHead, PathLeads}
use Rattle.just_invocations.specs.Split.{Counts, Invoked, Invokes, Chain, IsSplit, NoInvocation, HasWordsFault}
use Rattle.just_invocations.proofs.Unique.{invokes_takes}
use Rattle.just_invocations.proofs.Readings.{ReadingOr, AreUtf8, reading_or_stop}

decide_path : (last : Bool) (word : Text) → PathOrNone (IsPathWord last word)
decide_path true word = decide_argument_path word
decide_path false word = decide_word_path word

-- the default is taken, or there is a cause
default_or : (table : List (Text × RecipeKey)) (o : Option (Recipe Dependency)) →
    ((r : Recipe Dependency) × (o ≡ Some r) × (least_arguments r.parameters ≡ 0)) ⊎ ((cause : InvocationFault) × NoDefault table o cause)
default_or [] None = inr (no_recipes, refl)
default_or (x ∷ xs) None = inr (no_default, refl)
default_or table (Some r) = elim (cases_eq (least_arguments r.parameters) 0) [
  | inl e ↦ inl (r, refl, e)
  | inr n ↦ inr (default_requires (resolved_name r) (least_arguments r.parameters), (n, refl))
]

-- some of the names lead to a recipe, all of them if they are one word, or there is a cause
abbrev LeadsOr : Justfile → HeldRecipes → Justfile → Bool → Words → Words → Type 0
LeadsOr root recipes here one path names =
    ((head : Words) × (rest : Words) × (r : Recipe Dependency) × (names ≡ head ++ rest) × (one ≡ true → rest ≡ []) × WordsLead root recipes here head rest r)
    ⊎ ((cause : InvocationFault) × WordsMislead root recipes here one path names cause)

none_follow : (names : Words) → goes_on true names ≡ false → names ≡ []
none_follow [] e = refl
none_follow (n ∷ ns) e = absurd (false≢true (sym e))

ends_all : (one : Bool) (names : Words) → goes_on one names ≡ false → one ≡ true → names ≡ []
ends_all true names e f = none_follow names e
ends_all false names e f = absurd (false≢true f)

-- where a name of this meaning leads, or why it does not
abbrev StepOr : Meaning → (Words → Words → Recipe Dependency → Justfile → Type 0) → (InvocationFault → Justfile → Type 0) → Bool → Bool → Words → Text → Words → Type 0
StepOr m On Off one go path place names =
    ((head : Words) × (rest : Words) × (r : Recipe Dependency) × (names ≡ head ++ rest) × (one ≡ true → rest ≡ []) × MeaningLeads m (On head rest r) head r)
    ⊎ ((cause : InvocationFault) × MeaningMisleads m (Off cause) one go path place cause)

step_or : (m : Meaning) (On : Words → Words → Recipe Dependency → Justfile → Type 0) (Off : InvocationFault → Justfile → Type 0) (one go : Bool) (path : Words) (place : Text) (names : Words) →
    (go ≡ false → one ≡ true → names ≡ []) →
    ((next : Justfile) → ((head : Words) × (rest : Words) × (r : Recipe Dependency) × (names ≡ head ++ rest) × (one ≡ true → rest ≡ []) × On head rest r next) ⊎ ((cause : InvocationFault) × Off cause next)) →
    StepOr m On Off one go path place names
step_or (a_module next) On Off one go path place names ends on = on next
step_or (a_recipe found) On Off one true path place names ends on = inr (expected_submodule (text_of path false), refl)
step_or (a_recipe found) On Off one false path place names ends on = inl ([], names, found, refl, ends refl, (refl, refl))
step_or (disabled_recipe modules) On Off one go path place names ends on = inr (recipe_disabled (text_of path (not one)) modules, refl)
step_or (disabled_alias modules) On Off one go path place names ends on = inr (alias_disabled (text_of path (not one)) modules, refl)
step_or absent_module On Off one go path place names ends on = inr (module_absent place, refl)
step_or nothing On Off one true path place names ends on = inr (unknown_submodule (text_of path false), refl)
step_or nothing On Off one false path place names ends on = inr (unknown_recipe (text_of path (not one)), refl)

leads_or : (root : Justfile) (recipes : HeldRecipes) (here : Justfile) (one : Bool) (path names : Words) → LeadsOr root recipes here one path names
leads_or root recipes here one path [] = elim (default_or (out-Justfile here).recipes (default_recipe here recipes)) [
  | inl p ↦ inl ([], [], p.0, refl, (λ e. refl), (refl, (p.1, p.2)))
  | inr q ↦ inr q
]
leads_or root recipes here one path (n ∷ ns) =
    elim (step_or (meaning root recipes here n) (λ head rest r next. WordsLead root recipes next head rest r) (λ cause next. WordsMislead root recipes next one (path ++ n ∷ []) ns cause)
    one (goes_on one ns) (path ++ n ∷ []) (absolute_path_of here n) ns (ends_all one ns)
    (λ next. leads_or root recipes next one (path ++ n ∷ []) ns)) [
      | inl (head, rest, r, e, all, p) ↦ inl (n ∷ head, rest, r, ap (λ t. n ∷ t) e, all, p)
      | inr q ↦ inr q
    ]

-- names that lead with nothing left of them
one_word : (root : Justfile) (recipes : HeldRecipes) (names head rest : Words) (r : Recipe Dependency) → names ≡ head ++ rest → rest ≡ [] → WordsLead root recipes root head rest r →
    WordsLead root recipes root names [] r
one_word root recipes names head rest r e f p =
    let g : head ≡ names = sym (append-nil head) ∙ ap (λ t. head ++ t) (sym f) ∙ sym e in
    subst (λ ns. WordsLead root recipes root ns [] r) g (subst (λ t. WordsLead root recipes root head t r) f p)

path_or : (root : Justfile) (recipes : HeldRecipes) (last : Bool) (w : Text) → PathOrNone (IsPathWord last w) →
    ((r : Recipe Dependency) × PathLeads root recipes last w r) ⊎ ((cause : InvocationFault) × NoPath root recipes last w cause)
path_or root recipes last w (inr none) = inr (unknown_recipe w, inl (none, refl))
path_or root recipes last w (inl p) = elim (leads_or root recipes root true [] p.0) [
  | inl (head, rest, r, e, all, q) ↦ inl (r, (p.0, p.1, one_word root recipes p.0 head rest r e (all refl) q))
  | inr q ↦ inr (q.0, inr (p.0, p.1, q.1))
]

-- the words begin with a head, or there is a cause
abbrev HeadOr : Justfile → HeldRecipes → Words → Type 0
HeadOr root recipes words =
    ((head : Words) × (rest : Words) × (r : Recipe Dependency) × (words ≡ head ++ rest) × IsHead root recipes head rest r)
    ⊎ ((cause : InvocationFault) × NoHead root recipes words cause)

-- words in turn, of which the first has no colon, are a head
head_in_turn : (root : Justfile) (recipes : HeldRecipes) (w : Text) (ws head rest : Words) (r : Recipe Dependency) → has_colon w ≡ false → w ∷ ws ≡ head ++ rest →
    WordsLead root recipes root head rest r → IsHead root recipes head rest r
head_in_turn root recipes w ws [] rest r e f p = p
head_in_turn root recipes w ws (x ∷ xs) rest r e f p =
    let same : x ≡ w = (cc) in
    let none : has_colon x ≡ false = ap has_colon same ∙ e in
    subst (λ b. MatchBool b ((xs ≡ []) × PathLeads root recipes (is_empty rest) x r) (WordsLead root recipes root (x ∷ xs) rest r)) (sym none) p

no_head_in_turn : (root : Justfile) (recipes : HeldRecipes) (w : Text) (ws : Words) (c : InvocationFault) → has_colon w ≡ false → WordsMislead root recipes root false [] (w ∷ ws) c → NoHead root recipes (w ∷ ws) c
no_head_in_turn root recipes w ws c e p =
    subst (λ b. MatchBool b (NoPath root recipes (is_empty ws) w c) (WordsMislead root recipes root false [] (w ∷ ws) c)) (sym e) p

word_or : (root : Justfile) (recipes : HeldRecipes) (w : Text) (ws : Words) (colon : Bool) → has_colon w ≡ colon → HeadOr root recipes (w ∷ ws)
word_or root recipes w ws true e = elim (path_or root recipes (is_empty ws) w (decide_path (is_empty ws) w)) [
  | inl p ↦ inl (w ∷ [], ws, p.0, refl, subst (λ b. MatchBool b ((◌≡◌ {A = Words} [] []) × PathLeads root recipes (is_empty ws) w p.0) (WordsLead root recipes root (w ∷ []) ws p.0)) (sym e) (refl, p.1))
  | inr q ↦ inr (q.0, subst (λ b. MatchBool b (NoPath root recipes (is_empty ws) w q.0) (WordsMislead root recipes root false [] (w ∷ ws) q.0)) (sym e) q.1)
]
word_or root recipes w ws false e = elim (leads_or root recipes root false [] (w ∷ ws)) [
  | inl (head, rest, r, f, all, p) ↦ inl (head, rest, r, f, head_in_turn root recipes w ws head rest r e f p)
  | inr q ↦ inr (q.0, no_head_in_turn root recipes w ws q.0 e q.1)
]

no_words : (root : Justfile) (recipes : HeldRecipes) (head rest : Words) (r : Recipe Dependency) → [] ≡ head ++ rest → WordsLead root recipes root head rest r → WordsLead root recipes root [] [] r
no_words root recipes [] rest r e p = (refl, p.1)
no_words root recipes (x ∷ xs) rest r e p = absurd (let f : ⊥ = (cc) in f)

heads : (root : Justfile) (recipes : HeldRecipes) (words : Words) → HeadOr root recipes words
heads root recipes [] = elim (leads_or root recipes root false [] []) [
  | inl (head, rest, r, f, all, p) ↦ inl ([], [], r, refl, no_words root recipes head rest r f p)
  | inr q ↦ inr q
]
heads root recipes (w ∷ ws) = word_or root recipes w ws (has_colon w) refl

-- an invocation begins the words, or there is a cause
abbrev BeginsOr : Counts → Justfile → HeldRecipes → Words → Type 0
BeginsOr counts root recipes words = ((after : Words) × (i : Invoked) × Invokes counts root recipes words after i) ⊎ ((cause : InvocationFault) × NoInvocation counts root recipes words cause)

begins_after : (counts : Counts) (root : Justfile) (recipes : HeldRecipes) (words head rest : Words) (r : Recipe Dependency) → words ≡ head ++ rest → IsHead root recipes head rest r →
    ReadingOr counts r rest → BeginsOr counts root recipes words
begins_after counts root recipes words head rest r whole names (inl (tail, after, groups, e, takes)) =
    inl (
      after,
      record { recipe = r; groups = groups },
      record {
        head = head;
        tail = tail;
        whole = whole ∙ ap (λ ws. head ++ ws) e;
        names = subst (λ ws. IsHead root recipes head ws r) e names;
        takes = takes;
      },
    )
begins_after counts root recipes words head rest r whole names (inr (why, stops)) =
    inr (
      with_recipe (resolved_name r) why,
      inr (record { recipe = r; head = head; rest = rest; why = why; whole = whole; names = names; stops = stops; says = refl }),
    )

-- what follows a front of texts are texts
utf8_after : (front after : Words) → AreUtf8 (front ++ after) → AreUtf8 after
utf8_after [] after u = u
utf8_after (w ∷ ws) after u = utf8_after ws after u.1

begins_head : (counts : Counts) (root : Justfile) (recipes : HeldRecipes) (words : Words) → AreUtf8 words → HeadOr root recipes words → BeginsOr counts root recipes words
begins_head counts root recipes words u (inr q) = inr (q.0, inl q.1)
begins_head counts root recipes words u (inl (head, rest, r, whole, names)) =
    begins_after counts root recipes words head rest r whole names (reading_or_stop counts r rest (utf8_after head rest (subst AreUtf8 whole u)))

begins : (counts : Counts) (root : Justfile) (recipes : HeldRecipes) (words : Words) → AreUtf8 words → BeginsOr counts root recipes words
begins counts root recipes words u = begins_head counts root recipes words u (heads root recipes words)

-- the words are invocations, or there is a cause after some
abbrev ChainOr : Counts → Justfile → HeldRecipes → Words → Type 0
ChainOr counts root recipes words =
    ((is : List Invoked) × Chain counts root recipes words is [])
    ⊎ ((cause : InvocationFault) × (is : List Invoked) × (rest : Words) × Chain counts root recipes words is rest × (rest ≢ []) × NoInvocation counts root recipes rest cause)

chain_more : (counts : Counts) (root : Justfile) (recipes : HeldRecipes) (words after : Words) (i : Invoked) → words ≢ [] → Invokes counts root recipes words after i → ChainOr counts root recipes after →
    ChainOr counts root recipes words
chain_more counts root recipes words after i h p (inl q) = inl (i ∷ q.0, (h, after, p, q.1))
chain_more counts root recipes words after i h p (inr q) = inr (q.0, i ∷ q.1, q.2, (h, after, p, q.3), q.4, q.5)

utf8_invoked : (counts : Counts) (root : Justfile) (recipes : HeldRecipes) (words after : Words) (i : Invoked) → Invokes counts root recipes words after i → AreUtf8 words → AreUtf8 after
utf8_invoked counts root recipes words after i p u = utf8_after p.tail after (utf8_after p.head (p.tail ++ after) (subst AreUtf8 p.whole u))

chain_step : (counts : Counts) (root : Justfile) (recipes : HeldRecipes) (fuel : ℕ) → ((words : Words) → length words < fuel → AreUtf8 words → ChainOr counts root recipes words) →
    (words : Words) → words ≢ [] → length words < suc fuel → AreUtf8 words → BeginsOr counts root recipes words → ChainOr counts root recipes words
chain_step counts root recipes fuel chain words h small u (inl (after, i, p)) =
    chain_more counts root recipes words after i h p
    (chain after (let less = invokes_takes counts root recipes words after i h p in omega arith) (utf8_invoked counts root recipes words after i p u))
chain_step counts root recipes fuel chain words h small u (inr q) = inr (q.0, [], words, refl, h, q.1)

chain_or : (counts : Counts) (root : Justfile) (recipes : HeldRecipes) (fuel : ℕ) (words : Words) → length words < fuel → AreUtf8 words → ChainOr counts root recipes words
chain_or counts root recipes zero words h u = absurd (omega arith)
chain_or counts root recipes (suc n) [] h u = inl ([], refl)
chain_or counts root recipes (suc n) (w ∷ ws) h u =
    chain_step counts root recipes n (chain_or counts root recipes n) (w ∷ ws) (λ e. (cc)) h u (begins counts root recipes (w ∷ ws) u)

none_after : (head tail after : Words) → [] ≡ head ++ (tail ++ after) → after ≡ []
none_after [] [] after e = sym e
none_after [] (t ∷ ts) after e = (cc)
none_after (h ∷ hs) tail after e = (cc)

-- no words are an invocation, or have a fault
empty_or : (counts : Counts) (root : Justfile) (recipes : HeldRecipes) → BeginsOr counts root recipes [] →
    ((is : List Invoked) × IsSplit counts root recipes [] is) ⊎ ((cause : InvocationFault) × HasWordsFault counts root recipes [] cause)
empty_or counts root recipes (inl (after, i, p)) =
    inl (i ∷ [], (i, refl, subst (λ ws. Invokes counts root recipes [] ws i) (none_after p.head p.tail after p.whole) p))
empty_or counts root recipes (inr q) = inr (q.0, ([], [], refl, inr refl, q.1))

pub split_or_fault : (counts : Counts) (root : Justfile) (recipes : HeldRecipes) (words : Words) → AreUtf8 words →
    ((is : List Invoked) × IsSplit counts root recipes words is) ⊎ ((cause : InvocationFault) × HasWordsFault counts root recipes words cause)
split_or_fault counts root recipes [] u = empty_or counts root recipes (begins counts root recipes [] u)
split_or_fault counts root recipes (w ∷ ws) u = elim (chain_or counts root recipes (suc (length (w ∷ ws))) (w ∷ ws) (omega arith) u) [
  | inl p ↦ inl p
  | inr (cause, is, rest, p, h, s) ↦ inr (cause, (is, rest, p, inl h, s))
]
