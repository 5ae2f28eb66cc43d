-- Words have one fault, and none where they are invocations.
use Rattle.std.proofs.Common.{◌≡◌, ◌≢◌, inl, inr, Bool, true, false, List, [], ◌∷◌, ◌++◌, Option, Some, None, refl, sym, ap, ◌∙◌, subst}
use Rattle.std.specs.Bool.{MatchBool}
use Rattle.std.proofs.lemmas.Bool.{false≢true}
use Rattle.std.proofs.lemmas.List.{append-nil}
use Rattle.just_names.specs.Texts.{Text}
use Rattle.just_recipe.specs.declared.dependency.Dependency.{Dependency}
use Rattle.just_recipe.specs.declared.recipe.Recipe.{Recipe}
use Rattle.just_tail.specs.Words.{Words}
use Rattle.just_justfile.specs.declared.justfile.Justfile.{Justfile, out-Justfile}
use Rattle.just_justfile.specs.declared.justfile.RecipeKey.{RecipeKey}
use Rattle.just_justfile.specs.Closed.{HeldRecipes, default_recipe, resolved_name}
use Rattle.just_invocations.specs.Cause.{InvocationFault, with_recipe}
use Rattle.just_invocations.specs.Words.{has_colon, is_empty}
use Rattle.just_invocations.specs.Meaning.{Meaning, a_module, a_recipe, disabled_recipe, disabled_alias, absent_module, nothing, meaning}
use Rattle.just_invocations.specs.Head.{NoDefault, MeaningLeads, MeaningMisleads, goes_on, absolute_path_of, WordsLead, WordsMislead, NoPath, NoHead, IsHead, PathLeads}
use Rattle.just_invocations.specs.Split.{Counts, RecipeTakesArguments, NoArguments, Invoked, Invokes, Chain, IsSplit, Rejects, NoInvocation, HasWordsFault}
use Rattle.just_invocations.proofs.Unique.{path_word_once, head_once, invokes_once}
use Rattle.just_invocations.proofs.Readings.{reading_no_stop, stop_once}

no_default_once : (table : List (Text × RecipeKey)) (o : Option (Recipe Dependency)) (c d : InvocationFault) → NoDefault table o c → NoDefault table o d → c ≡ d
no_default_once table (Some r) c d p q = p.1 ∙ sym q.1
no_default_once [] None c d p q = p ∙ sym q
no_default_once (x ∷ xs) None c d p q = p ∙ sym q

-- a name of one meaning misleads for one cause
misleads_step : (m : Meaning) (On Onn : Justfile → Type 0) (one go : Bool) (path : Words) (place : Text) (c d : InvocationFault) →
    ((next : Justfile) → On next → Onn next → c ≡ d) → MeaningMisleads m On one go path place c → MeaningMisleads m Onn one go path place d → c ≡ d
misleads_step (a_module next) On Onn one go path place c d on p q = on next p q
misleads_step (a_recipe found) On Onn one true path place c d on p q = p ∙ sym q
misleads_step (a_recipe found) On Onn one false path place c d on p q = absurd p
misleads_step (disabled_recipe modules) On Onn one go path place c d on p q = p ∙ sym q
misleads_step (disabled_alias modules) On Onn one go path place c d on p q = p ∙ sym q
misleads_step absent_module On Onn one go path place c d on p q = p ∙ sym q
misleads_step nothing On Onn one true path place c d on p q = p ∙ sym q
misleads_step nothing On Onn one false path place c d on p q = p ∙ sym q

misleads_once : (root : Justfile) (recipes : HeldRecipes) (here : Justfile) (one : Bool) (path ns : Words) (c d : InvocationFault) →
    WordsMislead root recipes here one path ns c → WordsMislead root recipes here one path ns d → c ≡ d
misleads_once root recipes here one path [] c d p q = no_default_once (out-Justfile here).recipes (default_recipe here recipes) c d p q
misleads_once root recipes here one path (n ∷ ns) c d p q =
    misleads_step (meaning root recipes here n) (λ next. WordsMislead root recipes next one (path ++ n ∷ []) ns c) (λ next. WordsMislead root recipes next one (path ++ n ∷ []) ns d)
    one (goes_on one ns) (path ++ n ∷ []) (absolute_path_of here n) c d
    (λ next. misleads_once root recipes next one (path ++ n ∷ []) ns c d) p q

not_on : (one : Bool) (a : Words) → (one ≡ true → a ≡ []) → goes_on one a ≡ false
not_on true [] h = refl
not_on true (x ∷ a) h = absurd (let e : x ∷ a ≡ [] = h refl in let f : ⊥ = (cc) in f)
not_on false [] h = refl
not_on false (x ∷ a) h = refl

-- a name of one meaning does not both lead and mislead
leads_no_step : (m : Meaning) (On Off : Justfile → Type 0) (one go : Bool) (path : Words) (place : Text) (ns : Words) (r : Recipe Dependency) (c : InvocationFault) →
    (ns ≡ [] → go ≡ false) → ((next : Justfile) → On next → Off next → ⊥) → MeaningLeads m On ns r → MeaningMisleads m Off one go path place c → ⊥
leads_no_step (a_module next) On Off one go path place ns r c h on p q = on next p q
leads_no_step (a_recipe found) On Off one true path place ns r c h on p q = false≢true (sym (h p.0))
leads_no_step (a_recipe found) On Off one false path place ns r c h on p q = q
leads_no_step (disabled_recipe modules) On Off one go path place ns r c h on p q = p
leads_no_step (disabled_alias modules) On Off one go path place ns r c h on p q = p
leads_no_step absent_module On Off one go path place ns r c h on p q = p
leads_no_step nothing On Off one go path place ns r c h on p q = p

no_leads : (root : Justfile) (recipes : HeldRecipes) (here : Justfile) (one : Bool) (path xs a : Words) (r : Recipe Dependency) (c : InvocationFault) → (one ≡ true → a ≡ []) →
    WordsLead root recipes here xs a r → WordsMislead root recipes here one path (xs ++ a) c → ⊥
no_leads root recipes here one path [] a r c h p q =
    (subst (λ o. NoDefault (out-Justfile here).recipes o c) p.1.0 (subst (λ t. WordsMislead root recipes here one path t c) p.0 q)).0 p.1.1
no_leads root recipes here one path (n ∷ ns) a r c h p q =
    leads_no_step (meaning root recipes here n) (λ next. WordsLead root recipes next ns a r) (λ next. WordsMislead root recipes next one (path ++ n ∷ []) (ns ++ a) c)
    one (goes_on one (ns ++ a)) (path ++ n ∷ []) (absolute_path_of here n) ns r c
    (λ none. ap (λ t. goes_on one (t ++ a)) none ∙ not_on one a h)
    (λ next. no_leads root recipes next one (path ++ n ∷ []) ns a r c h) p q

no_path : (root : Justfile) (recipes : HeldRecipes) (last : Bool) (w : Text) (r : Recipe Dependency) (c : InvocationFault) → PathLeads root recipes last w r → NoPath root recipes last w c → ⊥
no_path root recipes last w r c p (inl q) = q.0 p.0 p.1
no_path root recipes last w r c p (inr q) =
    let same = path_word_once last w p.0 q.0 p.1 q.1 in
    no_leads root recipes root true [] q.0 [] r c (λ e. refl) (subst (λ names. WordsLead root recipes root names [] r) same p.2)
    (subst (λ names. WordsMislead root recipes root true [] names c) (sym (append-nil q.0)) q.2)

no_head_step : (root : Justfile) (recipes : HeldRecipes) (w : Text) (xs a : Words) (r : Recipe Dependency) (c : InvocationFault) (colon : Bool) →
    MatchBool colon ((xs ≡ []) × PathLeads root recipes (is_empty a) w r) (WordsLead root recipes root (w ∷ xs) a r) →
    MatchBool colon (NoPath root recipes (is_empty (xs ++ a)) w c) (WordsMislead root recipes root false [] (w ∷ (xs ++ a)) c) → ⊥
no_head_step root recipes w xs a r c true p q = no_path root recipes (is_empty a) w r c p.1 (subst (λ t. NoPath root recipes (is_empty (t ++ a)) w c) p.0 q)
no_head_step root recipes w xs a r c false p q = no_leads root recipes root false [] (w ∷ xs) a r c (λ e. absurd (false≢true e)) p q

no_head : (root : Justfile) (recipes : HeldRecipes) (xs a : Words) (r : Recipe Dependency) (c : InvocationFault) → IsHead root recipes xs a r → NoHead root recipes (xs ++ a) c → ⊥
no_head root recipes [] a r c p q = no_leads root recipes root false [] [] [] r c (λ e. refl) (refl, p.1) (subst (λ t. NoHead root recipes t c) p.0 q)
no_head root recipes (w ∷ xs) a r c p q = no_head_step root recipes w xs a r c (has_colon w) p q

no_path_once : (root : Justfile) (recipes : HeldRecipes) (last : Bool) (w : Text) (c d : InvocationFault) → NoPath root recipes last w c → NoPath root recipes last w d → c ≡ d
no_path_once root recipes last w c d (inl p) (inl q) = p.1 ∙ sym q.1
no_path_once root recipes last w c d (inl p) (inr q) = absurd (p.0 q.0 q.1)
no_path_once root recipes last w c d (inr p) (inl q) = absurd (q.0 p.0 p.1)
no_path_once root recipes last w c d (inr p) (inr q) =
    misleads_once root recipes root true [] q.0 c d
    (subst (λ names. WordsMislead root recipes root true [] names c) (path_word_once last w p.0 q.0 p.1 q.1) p.2) q.2

no_head_once_step : (root : Justfile) (recipes : HeldRecipes) (w : Text) (ws : Words) (c d : InvocationFault) (colon : Bool) →
    MatchBool colon (NoPath root recipes (is_empty ws) w c) (WordsMislead root recipes root false [] (w ∷ ws) c) →
    MatchBool colon (NoPath root recipes (is_empty ws) w d) (WordsMislead root recipes root false [] (w ∷ ws) d) → c ≡ d
no_head_once_step root recipes w ws c d true p q = no_path_once root recipes (is_empty ws) w c d p q
no_head_once_step root recipes w ws c d false p q = misleads_once root recipes root false [] (w ∷ ws) c d p q

no_head_once : (root : Justfile) (recipes : HeldRecipes) (words : Words) (c d : InvocationFault) → NoHead root recipes words c → NoHead root recipes words d → c ≡ d
no_head_once root recipes [] c d p q = misleads_once root recipes root false [] [] c d p q
no_head_once root recipes (w ∷ ws) c d p q = no_head_once_step root recipes w ws c d (has_colon w) p q

no_reject : (counts : Counts) (root : Justfile) (recipes : HeldRecipes) (words after : Words) (i : Invoked) (c : InvocationFault) → Invokes counts root recipes words after i → Rejects counts root recipes words c → ⊥
no_reject counts root recipes words after i c p q =
    let heads = head_once root recipes p.head q.head (p.tail ++ after) q.rest i.recipe q.recipe (sym p.whole ∙ q.whole) p.names q.names in
    reading_no_stop counts q.recipe p.tail after i.groups q.why
    (subst (λ (r : Recipe Dependency). RecipeTakesArguments counts r p.tail after i.groups) heads.2 p.takes)
    (subst (λ ws. NoArguments counts q.recipe ws q.why) (sym heads.1) q.stops)

no_stop : (counts : Counts) (root : Justfile) (recipes : HeldRecipes) (words after : Words) (i : Invoked) (c : InvocationFault) → Invokes counts root recipes words after i → NoInvocation counts root recipes words c → ⊥
no_stop counts root recipes words after i c p (inl q) = no_head root recipes p.head (p.tail ++ after) i.recipe c p.names (subst (λ ws. NoHead root recipes ws c) p.whole q)
no_stop counts root recipes words after i c p (inr q) = no_reject counts root recipes words after i c p q

rejects_once : (counts : Counts) (root : Justfile) (recipes : HeldRecipes) (words : Words) (c d : InvocationFault) → Rejects counts root recipes words c → Rejects counts root recipes words d → c ≡ d
rejects_once counts root recipes words c d p q =
    let heads = head_once root recipes p.head q.head p.rest q.rest p.recipe q.recipe (sym p.whole ∙ q.whole) p.names q.names in
    let why : p.why ≡ q.why = stop_once counts q.recipe q.rest p.why q.why
    (subst (λ (r : Recipe Dependency). NoArguments counts r q.rest p.why) heads.2
    (subst (λ ws. NoArguments counts p.recipe ws p.why) heads.1 p.stops)) q.stops in
    p.says ∙ ap (λ (r : Recipe Dependency). with_recipe (resolved_name r) p.why) heads.2 ∙ ap (with_recipe (resolved_name q.recipe)) why ∙ sym q.says

no_head_no_reject : (counts : Counts) (root : Justfile) (recipes : HeldRecipes) (words : Words) (c d : InvocationFault) → NoHead root recipes words c → Rejects counts root recipes words d → ⊥
no_head_no_reject counts root recipes words c d p q = no_head root recipes q.head q.rest q.recipe c q.names (subst (λ ws. NoHead root recipes ws c) q.whole p)

stops_once : (counts : Counts) (root : Justfile) (recipes : HeldRecipes) (words : Words) (c d : InvocationFault) → NoInvocation counts root recipes words c → NoInvocation counts root recipes words d → c ≡ d
stops_once counts root recipes words c d (inl p) (inl q) = no_head_once root recipes words c d p q
stops_once counts root recipes words c d (inl p) (inr q) = absurd (no_head_no_reject counts root recipes words c d p q)
stops_once counts root recipes words c d (inr p) (inl q) = absurd (no_head_no_reject counts root recipes words d c q p)
stops_once counts root recipes words c d (inr p) (inr q) = rejects_once counts root recipes words c d p q

chain_no_fault : (counts : Counts) (root : Justfile) (recipes : HeldRecipes) (words : Words) (is js : List Invoked) (rest : Words) (c : InvocationFault) →
    Chain counts root recipes words is [] → Chain counts root recipes words js rest → rest ≢ [] → NoInvocation counts root recipes rest c → ⊥
chain_no_fault counts root recipes words [] [] rest c p q h s = h (sym q ∙ p)
chain_no_fault counts root recipes words [] (j ∷ js) rest c p q h s = q.0 p
chain_no_fault counts root recipes words (i ∷ is) [] rest c p q h s = no_stop counts root recipes words p.1 i c p.2 (subst (λ ws. NoInvocation counts root recipes ws c) (sym q) s)
chain_no_fault counts root recipes words (i ∷ is) (j ∷ js) rest c p q h s =
    let o = invokes_once counts root recipes words p.1 q.1 i j p.2 q.2 in
    chain_no_fault counts root recipes q.1 is js rest c (subst (λ ws. Chain counts root recipes ws is []) o.0 p.3) q.3 h s

pub split_no_fault : (counts : Counts) (root : Justfile) (recipes : HeldRecipes) (words : Words) (is : List Invoked) (c : InvocationFault) → IsSplit counts root recipes words is → HasWordsFault counts root recipes words c → ⊥
split_no_fault counts root recipes [] is c p ([], rest, q, h, s) = no_stop counts root recipes [] [] p.0 c p.2 (subst (λ ws. NoInvocation counts root recipes ws c) (sym q) s)
split_no_fault counts root recipes [] is c p (j ∷ js, rest, q, h, s) = q.0 refl
split_no_fault counts root recipes (w ∷ ws) is c p (js, rest, q, inl h, s) = chain_no_fault counts root recipes (w ∷ ws) is js rest c p q h s
split_no_fault counts root recipes (w ∷ ws) is c p (js, rest, q, inr h, s) = (cc)

chain_fault_once : (counts : Counts) (root : Justfile) (recipes : HeldRecipes) (words : Words) (is js : List Invoked) (a b : Words) (c d : InvocationFault) →
    Chain counts root recipes words is a → Chain counts root recipes words js b → NoInvocation counts root recipes a c → NoInvocation counts root recipes b d → c ≡ d
chain_fault_once counts root recipes words [] [] a b c d p q s t = stops_once counts root recipes words c d (subst (λ ws. NoInvocation counts root recipes ws c) (sym p) s) (subst (λ ws. NoInvocation counts root recipes ws d) (sym q) t)
chain_fault_once counts root recipes words [] (j ∷ js) a b c d p q s t = absurd (no_stop counts root recipes words q.1 j c q.2 (subst (λ ws. NoInvocation counts root recipes ws c) (sym p) s))
chain_fault_once counts root recipes words (i ∷ is) [] a b c d p q s t = absurd (no_stop counts root recipes words p.1 i d p.2 (subst (λ ws. NoInvocation counts root recipes ws d) (sym q) t))
chain_fault_once counts root recipes words (i ∷ is) (j ∷ js) a b c d p q s t =
    let o = invokes_once counts root recipes words p.1 q.1 i j p.2 q.2 in
    chain_fault_once counts root recipes q.1 is js a b c d (subst (λ ws. Chain counts root recipes ws is a) o.0 p.3) q.3 s t

pub fault_once : (counts : Counts) (root : Justfile) (recipes : HeldRecipes) (words : Words) (c d : InvocationFault) → HasWordsFault counts root recipes words c → HasWordsFault counts root recipes words d → c ≡ d
fault_once counts root recipes words c d p q = chain_fault_once counts root recipes words p.0 q.0 p.1 q.1 c d p.2 q.2 p.4 q.4
