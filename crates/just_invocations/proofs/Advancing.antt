-- Names in turn, and where a walk along them stands.
use Rattle.std.proofs.Common.{◌≡◌, ℕ, ◌+◌, ◌<◌, ◌≤◌, Bool, true, false, List, [], ◌∷◌, ◌++◌, Option, Some, None, length, get_or, take, drop, refl, sym, ap, ◌∙◌, subst, arith, add-one}
use Rattle.std.proofs.Math.Seq.{drop-cons, take-suc}
use Rattle.std.proofs.lemmas.Bool.{true≢false}
use Rattle.std.proofs.lemmas.List.{append_assoc, append-nil, map-append, drop_all, length-drop}
use Rattle.std.specs.Prelude.{if◌then◌else◌, is_some}
use Rattle.std.specs.Borrow.{Bor}
use Rattle.std.specs.Option.{option_and_then}
use Rattle.just_ast_definitions.specs.declared.alias.Alias.{Alias}
use Rattle.just_names.specs.Texts.{Text, texts}
use Rattle.just_paths.specs.declared.modulepath.Modulepath.{Modulepath}
use Rattle.just_recipe.specs.declared.dependency.Dependency.{Dependency}
use Rattle.just_recipe.specs.declared.recipe.Recipe.{Recipe}
use Rattle.just_table.specs.Entries.{find}
use Rattle.just_tail.specs.Words.{Words}
use Rattle.just_justfile.proofs.Leading.{along_walk, end_ordered, named_ordered}
use Rattle.just_justfile.specs.Closed.{HeldRecipes, recipe_aliased, recipe_named}
use Rattle.just_justfile.specs.Walks.{AreModulesOrdered, inner_along, module_named}
use Rattle.just_justfile.specs.declared.justfile.Justfile.{Justfile, out-Justfile}
use Rattle.just_invocations.specs.Cause.{InvocationFault}
use Rattle.just_evaluate.specs.Destination.{submodule_aliased}
use Rattle.just_invocations.specs.Meaning.{Meaning, a_module, a_recipe, disabled_recipe, disabled_alias, absent_module, nothing, disabling, found_or, meaning}
use Rattle.just_invocations.specs.Head.{MeaningLeads, MeaningMisleads, WordsLead, WordsMislead, goes_on, absolute_path_of}
use Rattle.just_invocations.specs.loops.Head.{BadName, IsEnd, IsNoEnd, IsStep}
use Rattle.just_invocations.specs.declared.walk.Step.{Step}
use Rattle.just_invocations.specs.declared.walk.Step.TheVariants as step

some_same : {A : Type 0} (x y : A) → Some x ≡ Some y → x ≡ y
some_same x y e = (cc)

-- a module that a name means has modules whose names rise, as the root has
along_ordered : (root j : Justfile) (names : List Text) → AreModulesOrdered root → inner_along root names ≡ Some j → AreModulesOrdered j
along_ordered root j [] order e = subst AreModulesOrdered (some_same root j e) order
along_ordered root j (name ∷ names) order e = end_ordered (name ∷ names) (out-Justfile root).absent_modules (out-Justfile root).modules j order (along_walk root j name names e)

alias_ordered : (root k : Justfile) (o : Option (Alias Modulepath)) → AreModulesOrdered root → option_and_then (λ (alias : Alias Modulepath). inner_along root alias.target.components) o ≡ Some k → AreModulesOrdered k
alias_ordered root k None order e = absurd (let f : ⊥ = (cc) in f)
alias_ordered root k (Some alias) order e = along_ordered root k alias.target.components order e

abbrev MeansOrdered : Meaning → Type 0
MeansOrdered (a_module next) = AreModulesOrdered next
MeansOrdered _ = Unit {0}

by_module : (o : Option Justfile) (m : Meaning) → ((j : Justfile) → o ≡ Some j → AreModulesOrdered j) → MeansOrdered m → MeansOrdered (found_or a_module o m)
by_module (Some j) m found h = found j refl
by_module None m found h = h

by_recipe : (o : Option (Recipe Dependency)) (m : Meaning) → MeansOrdered m → MeansOrdered (found_or a_recipe o m)
by_recipe (Some r) m h = tt
by_recipe None m h = h

by_disabled : (o : Option (List Text)) (m : Meaning) → MeansOrdered m → MeansOrdered (found_or disabled_recipe o m)
by_disabled (Some modules) m h = tt
by_disabled None m h = h

by_disabled_alias : (o : Option (List Text)) (m : Meaning) → MeansOrdered m → MeansOrdered (found_or disabled_alias o m)
by_disabled_alias (Some modules) m h = tt
by_disabled_alias None m h = h

by_absent : (b : Bool) → MeansOrdered (if b then absent_module else nothing)
by_absent true = tt
by_absent false = tt

means_ordered : (root : Justfile) (recipes : HeldRecipes) (here : Justfile) (name : Text) → AreModulesOrdered root → AreModulesOrdered here → MeansOrdered (meaning root recipes here name)
means_ordered root recipes here name root_order here_order =
    by_module (module_named name (out-Justfile here).modules) _ (λ j. named_ordered name (out-Justfile here).modules j here_order)
    (by_module (submodule_aliased root here name) _ (λ j. alias_ordered root j (find name (out-Justfile here).aliases.modules) root_order)
    (by_recipe (recipe_named here recipes name) _
    (by_recipe (recipe_aliased here recipes name) _
    (by_disabled (disabling (out-Justfile here).disabled_recipes name) _
    (by_disabled_alias (disabling (out-Justfile here).aliases.disabled name) _
    (by_absent (is_some (find name (out-Justfile here).absent_modules))))))))

-- a name that is no module misleads, wherever modules lead
bad_misleads : (m : Meaning) (On : Justfile → Type 0) (one go : Bool) (path : Words) (place : Text) (c : InvocationFault) → BadName m one go path place c → MeaningMisleads m On one go path place c
bad_misleads (a_module next) On one go path place c p = absurd p
bad_misleads (a_recipe found) On one true path place c p = p
bad_misleads (a_recipe found) On one false path place c p = p
bad_misleads (disabled_recipe modules) On one go path place c p = p
bad_misleads (disabled_alias modules) On one go path place c p = p
bad_misleads absent_module On one go path place c p = p
bad_misleads nothing On one true path place c p = p
bad_misleads nothing On one false path place c p = p

-- the first names, and those that are left
front_more : (names : List (Bor Text)) (at : ℕ) (d : Bor Text) → at < length names → texts (take (at + 1) names) ≡ texts (take at names) ++ (get_or names at d).now ∷ []
front_more names at d h =
    ap (λ n. texts (take n names)) (add-one at) ∙ (ap texts (take-suc names at d h) ∙ map-append (λ (w : Bor Text). w.now) (take at names) (get_or names at d ∷ []))

rest_more : (names : List (Bor Text)) (at : ℕ) (d : Bor Text) → at < length names → texts (drop at names) ≡ (get_or names at d).now ∷ texts (drop (at + 1) names)
rest_more names at d h = ap texts (drop-cons names at d h) ∙ ap (λ n. (get_or names at d).now ∷ texts (drop n names)) (sym (add-one at))

-- where no names of one word follow, those are all
none_follow : (xs : List (Bor Text)) → goes_on true (texts xs) ≡ false → length xs ≡ 0
none_follow [] e = refl
none_follow (x ∷ xs) e = absurd (true≢false e)

ends_all : (names : List (Bor Text)) (at : ℕ) → at < length names → goes_on true (texts (drop (at + 1) names)) ≡ false → at + 1 ≡ length names
ends_all names at h e = omega (arith, none_follow (drop (at + 1) names) e, length-drop (at + 1) names)

module _ (root : Justfile) (recipes : HeldRecipes) (one : Bool) (names : List (Bor Text)) where
  -- what leads on from a module leads from the root, and what misleads there misleads
  pub record IsReached (at : ℕ) (here : Justfile) : Type 0 where
    pub ordered : AreModulesOrdered here
    pub leads : (head rest : Words) (r : Recipe Dependency) → WordsLead root recipes here head rest r → WordsLead root recipes root (texts (take at names) ++ head) rest r
    pub misleads : (c : InvocationFault) → WordsMislead root recipes here one (texts (take at names)) (texts (drop at names)) c → WordsMislead root recipes root one [] (texts names) c

  -- the names up to a place lead to the recipe
  pub record AreEnded (at : ℕ) (r : Recipe Dependency) : Type 0 where
    pub some : 0 < at
    pub all : one ≡ true → at ≡ length names
    pub leads : WordsLead root recipes root (texts (take at names)) (texts (drop at names)) r

  -- where a walk stands after so many names
  abbrev pub Stands : ℕ → Step → Type 0
  Stands at (step.On here) = IsReached at here.now
  Stands at (step.End r) = AreEnded at r.now

  pub begins : (here : Bor Justfile) → here.now ≡ root → AreModulesOrdered root → Stands 0 (step.On here)
  begins here is order = record {
    ordered = subst AreModulesOrdered (sym is) order;
    leads = λ head rest r p. subst (λ j. WordsLead root recipes j head rest r) is p;
    misleads = λ c p. subst (λ j. WordsMislead root recipes j one [] (texts names) c) is p;
  }

  module _ (at : ℕ) (here : Justfile) (h : at < length names) (reached : IsReached at here) (name : Bor Text) (d : Bor Text) (named : name ≡ get_or names at d) where
    front : texts (take (at + 1) names) ≡ texts (take at names) ++ name.now ∷ []
    front = front_more names at d h ∙ ap (λ (n : Bor Text). texts (take at names) ++ n.now ∷ []) (sym named)

    rest : texts (drop at names) ≡ name.now ∷ texts (drop (at + 1) names)
    rest = rest_more names at d h ∙ ap (λ (n : Bor Text). n.now ∷ texts (drop (at + 1) names)) (sym named)

    module _ (m : Meaning) (is : meaning root recipes here name.now ≡ m) where
      leads_on : (head rest : Words) (r : Recipe Dependency) → MeaningLeads m (λ next. WordsLead root recipes next head rest r) head r → WordsLead root recipes root (texts (take (at + 1) names) ++ head) rest r
      leads_on head rest r p =
          subst (λ ws. WordsLead root recipes root ws rest r) (sym (append_assoc (texts (take at names)) (name.now ∷ []) head) ∙ ap (λ ws. ws ++ head) (sym front))
          (reached.leads (name.now ∷ head) rest r (subst (λ m. MeaningLeads m (λ next. WordsLead root recipes next head rest r) head r) (sym is) p))

      misleads_on : (c : InvocationFault) → MeaningMisleads m (λ next. WordsMislead root recipes next one (texts (take (at + 1) names)) (texts (drop (at + 1) names)) c)
          one (goes_on one (texts (drop (at + 1) names))) (texts (take (at + 1) names)) (absolute_path_of here name.now) c → WordsMislead root recipes root one [] (texts names) c
      misleads_on c p =
          reached.misleads c
          (subst (λ ws. WordsMislead root recipes here one (texts (take at names)) ws c) (sym rest)
          (subst (λ path. MeaningMisleads (meaning root recipes here name.now) (λ next. WordsMislead root recipes next one path (texts (drop (at + 1) names)) c) one (goes_on one (texts (drop (at + 1) names))) path (absolute_path_of here name.now) c) front
          (subst (λ m. MeaningMisleads m (λ next. WordsMislead root recipes next one (texts (take (at + 1) names)) (texts (drop (at + 1) names)) c)
          one (goes_on one (texts (drop (at + 1) names))) (texts (take (at + 1) names)) (absolute_path_of here name.now) c) (sym is) p)))

      -- a module leads on
      reached_on : (next : Justfile) → AreModulesOrdered root → m ≡ a_module next → IsReached (at + 1) next
      reached_on next order on = record {
        ordered = subst MeansOrdered (is ∙ on) (means_ordered root recipes here name.now order reached.ordered);
        leads = λ head rest r p. leads_on head rest r (subst (λ m. MeaningLeads m (λ next. WordsLead root recipes next head rest r) head r) (sym on) p);
        misleads = λ c p. misleads_on c (subst (λ m. MeaningMisleads m (λ next. WordsMislead root recipes next one (texts (take (at + 1) names)) (texts (drop (at + 1) names)) c)
            one (goes_on one (texts (drop (at + 1) names))) (texts (take (at + 1) names)) (absolute_path_of here name.now) c) (sym on) p);
      }

      -- a recipe ends the names
      ended_at : (r : Recipe Dependency) → m ≡ a_recipe r → goes_on one (texts (drop (at + 1) names)) ≡ false → AreEnded (at + 1) r
      ended_at r on none = record {
        some = omega arith;
        all = λ alone. ends_all names at h (subst (λ b. goes_on b (texts (drop (at + 1) names)) ≡ false) alone none);
        leads = subst (λ ws. WordsLead root recipes root ws (texts (drop (at + 1) names)) r) (append-nil (texts (take (at + 1) names)))
            (leads_on [] (texts (drop (at + 1) names)) r (subst (λ m. MeaningLeads m (λ next. WordsLead root recipes next [] (texts (drop (at + 1) names)) r) [] r) (sym on) (refl, refl)));
      }

    -- one name more
    pub stands_next : (s : Step) → AreModulesOrdered root → IsStep (meaning root recipes here name.now) (goes_on one (texts (drop (at + 1) names))) s → Stands (at + 1) s
    stands_next (step.On next) order e = reached_on (meaning root recipes here name.now) refl next.now order e
    stands_next (step.End r) order e = ended_at (meaning root recipes here name.now) refl r.now e.0 e.1

    -- a name that misleads
    pub misleads_here : (c : InvocationFault) → BadName (meaning root recipes here name.now) one (goes_on one (texts (drop (at + 1) names))) (texts (take (at + 1) names)) (absolute_path_of here name.now) c →
        WordsMislead root recipes root one [] (texts names) c
    misleads_here c p =
        misleads_on (meaning root recipes here name.now) refl c
        (bad_misleads (meaning root recipes here name.now) (λ next. WordsMislead root recipes next one (texts (take (at + 1) names)) (texts (drop (at + 1) names)) c)
        one (goes_on one (texts (drop (at + 1) names))) (texts (take (at + 1) names)) (absolute_path_of here name.now) c p)

  -- the names end where a walk stands
  none_after : (n : ℕ) → length names ≤ n → [] ≡ texts (drop n names)
  none_after n h = ap texts (sym (drop_all n names h))

  pub leads_end : (place : Step) (n : ℕ) (r : Recipe Dependency) → length names ≤ n → Stands n place → IsEnd recipes place r → WordsLead root recipes root (texts (take n names)) (texts (drop n names)) r
  leads_end (step.On here) n r h reached takes =
      subst (λ rest. WordsLead root recipes root (texts (take n names)) rest r) (none_after n h)
      (subst (λ ws. WordsLead root recipes root ws [] r) (append-nil (texts (take n names))) (reached.leads [] [] r (refl, takes)))
  leads_end (step.End found) n r h ended is = subst (WordsLead root recipes root (texts (take n names)) (texts (drop n names))) (sym is) ended.leads

  pub misleads_end : (place : Step) (n : ℕ) (c : InvocationFault) → length names ≤ n → Stands n place → IsNoEnd recipes place c → WordsMislead root recipes root one [] (texts names) c
  misleads_end (step.On here) n c h reached none =
      reached.misleads c (subst (λ ws. WordsMislead root recipes here.now one (texts (take n names)) ws c) (none_after n h) none)
  misleads_end (step.End found) n c h ended none = absurd none
