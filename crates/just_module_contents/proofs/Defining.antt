-- Definitions of one name, and names that are unexported twice.
use Rattle.std.proofs.Common.{◌≡◌, ◌≢◌, ℕ, zero, suc, ◌+◌, ◌<◌, Bool, true, false, List, [], ◌∷◌, ◌++◌, map, length, Option, None, Some, refl, sym, ◌∙◌, ap, subst, arith, inl, inr}
use Rattle.std.specs.Prelude.{if◌then◌else◌}
use Rattle.std.specs.List.{slice_get}
use Rattle.std.proofs.lemmas.Bool.{cases_lt}
use Rattle.std.proofs.lemmas.List.{get_or_append_left, get_or-append-add, length-append, length-map, map-append}
use Rattle.std.proofs.lemmas.Option.{get_or_from_slice_get, slice_get_read, slice_get_within}
use Rattle.just_graph.proofs.Index.{map_get, some_same}
use Rattle.just_names.specs.Name.{text_of_name}
use Rattle.just_names.specs.Token.{Place}
use Rattle.just_names.specs.declared.name.Name.{Name}
use Rattle.just_errors.specs.Causes.{Broken, Keeps}
use Rattle.just_errors.specs.declared.compile_error.CompileErrorKind.{CompileErrorKind}
use Rattle.just_errors.specs.declared.compile_error.CompileErrorKind.TheVariants as kind
use Rattle.just_errors.specs.declared.compile_error.Definition.TheVariants as definition
use Rattle.just_recipe.specs.declared.dependency.UnresolvedDependency.{UnresolvedDependency}
use Rattle.just_recipe.specs.declared.recipe.Recipe.{Recipe}
use Rattle.just_module_contents.specs.Contents.{Contents, Defined, all_defined, defined_in, defined_naming, defined_recipe, function_texts, signatures, texts_of_defined, texts_of_named, variable_names}
use Rattle.just_module_contents.specs.declared.definitions.Naming.{Naming}
use Rattle.just_module_contents.specs.declared.definitions.Naming.TheVariants as naming
use Rattle.just_names.specs.Index.{texts_of_names, AreDifferent, IsLast, NoneRepeats, Repeats, name_at}
use Rattle.just_names.specs.loops.Index.{AreApart}
use Rattle.just_module_contents.specs.Recipes.{name_of_recipe, names_of}
use Rattle.just_module_contents.specs.Settings.{Conflicts, allows_variables}
use Rattle.just_module_contents.specs.Shells.{BreaksShells}
use Rattle.just_parts.specs.Syntax.{SyntaxAnswers}
use Rattle.just_ast_expressions.specs.declared.settings.Settings.{Settings}
use Rattle.just_module_contents.specs.Rules.{AssignedTwice, BreaksBodies, BreaksFunctions, BreaksHeaders, IsRedefinition, BreaksLists, BreaksNamings, BreaksDefinitions, BreaksParameters, BreaksRedefinition, BreaksSettings, Unexported, BreaksUnexports, BreaksVariables, assigned_twice, duplicate_unexport, duplicate_variable, export_unexported, of_defined, of_functions, of_lists, of_shells, of_variables, unexported, named_redefinition, of_named, of_parameters, of_sets, of_unexports, redefinition}

-- what stands in the first list, and in the second
get_left : {A : Type 0} (xs ys : List A) (i : ℕ) (x : A) → slice_get xs i ≡ Some x → slice_get (xs ++ ys) i ≡ Some x
get_left xs ys i x e =
    let h = slice_get_within xs i x e in
    slice_get_read (xs ++ ys) (length (xs ++ ys)) i x refl (omega (arith, h, length-append xs ys)) (sym (get_or_append_left xs ys x i h ∙ get_or_from_slice_get xs i x x e))

get_right : {A : Type 0} (xs ys : List A) (i : ℕ) (y : A) → slice_get ys i ≡ Some y → slice_get (xs ++ ys) (length xs + i) ≡ Some y
get_right xs ys i y e =
    let h = slice_get_within ys i y e in
    slice_get_read (xs ++ ys) (length (xs ++ ys)) (length xs + i) y refl (omega (arith, h, length-append xs ys)) (sym (get_or-append-add xs ys i y ∙ get_or_from_slice_get ys i y y e))

-- the names of definitions
texts_recipes : (rs : List (Recipe UnresolvedDependency)) → texts_of_defined (map defined_recipe rs) ≡ names_of rs
texts_recipes [] = refl
texts_recipes (r ∷ rs) = ap (λ ts. name_of_recipe r ∷ ts) (texts_recipes rs)

pub texts_all : (ns : List Naming) (rs : List (Recipe UnresolvedDependency)) → texts_of_defined (all_defined ns rs) ≡ texts_of_named ns ++ names_of rs
texts_all ns rs = map-append (λ (d : Defined). text_of_name d.name) (map defined_naming ns) (map defined_recipe rs) ∙ ap (λ ts. texts_of_named ns ++ ts) (texts_recipes rs)

-- two modules and aliases of one name
pub named_again : (ns : List Naming) (i j : ℕ) (first second : Defined) (place : Place) (told : CompileErrorKind) → Repeats (texts_of_named ns) i j → slice_get (map defined_naming ns) i ≡ Some first → slice_get (map defined_naming ns) j ≡ Some second
    → IsRedefinition first second place told → BreaksNamings ns (Broken place told)
named_again ns i j first second place told repeats a b is = named_redefinition (record { i = i; j = j; first = first; second = second; repeats = repeats; first_is = a; second_is = b; told_is = is })

-- a variable that is unexported twice
pub unexported_twice : (ns : List Name) (i j : ℕ) (second : Name) (place : Place) (variable : List ℕ) → Repeats (texts_of_names ns) i j → slice_get ns j ≡ Some second → place ≡ second.token → variable ≡ text_of_name second
    → BreaksUnexports ns (Broken place (kind.DuplicateUnexport variable))
unexported_twice ns i j second place variable repeats b at is = subst (BreaksUnexports ns) (λ k. Broken (sym at k) (kind.DuplicateUnexport (sym is k))) (duplicate_unexport i j repeats b)

-- a variable that is assigned twice
pub assigned_again : (ns : List Name) (i j : ℕ) (second : Name) (place : Place) (variable : List ℕ) → Repeats (texts_of_names ns) i j → slice_get ns j ≡ Some second → place ≡ second.token → variable ≡ text_of_name second
    → AssignedTwice ns (Broken place (kind.DuplicateVariable variable))
assigned_again ns i j second place variable repeats b at is = subst (AssignedTwice ns) (λ k. Broken (sym at k) (kind.DuplicateVariable (sym is k))) (duplicate_variable i j repeats b)

-- one that is unexported
pub assigned_too : (ns us : List Name) (n : ℕ) (name : Name) (place : Place) (v variable : List ℕ) (found : Option ℕ) (at : ℕ) → slice_get ns n ≡ Some name → v ≡ text_of_name name → IsLast (texts_of_names us) (length (texts_of_names us)) v found → found ≡ Some at → place ≡ name.token → variable ≡ text_of_name name
    → Unexported ns us (Broken place (kind.ExportUnexported variable))
assigned_too ns us n name place v variable found at there named last e told is =
    let s = subst (IsLast (texts_of_names us) (length (texts_of_names us)) v) e last in
    subst (Unexported ns us) (λ k. Broken (sym told k) (kind.ExportUnexported (sym is k))) (export_unexported n at there s.0 (s.1 ∙ named))

-- the variables of a module
pub variables_kept : (allowed : Bool) (ns us : List Name) → (allowed ≡ false → AreDifferent (texts_of_names ns)) → AreApart (texts_of_names ns) (texts_of_names us) → Keeps (BreaksVariables allowed ns us)
variables_kept allowed ns us different apart _ (assigned_twice off (duplicate_variable i j r e)) = different off i j r.apart r.within r.same
variables_kept allowed ns us different apart _ (unexported (export_unexported {name} i j there inside same)) =
    let at = map_get text_of_name ns i name there in
    apart i j (slice_get_within (texts_of_names ns) i (text_of_name name) at) inside (get_or_from_slice_get (texts_of_names ns) i (text_of_name name) [] at ∙ sym same)

-- the names of a module
pub names_kept : (m : Contents) → Keeps (BreaksVariables (allows_variables m.sets) (variable_names m.variables) m.unexports) → Keeps (BreaksFunctions (signatures m.functions)) → Keeps (BreaksDefinitions m)
names_kept m variables functions c (of_variables b) = variables c b
names_kept m variables functions c (of_functions b) = functions c b

-- the bodies of a module
pub bodies_kept : (answers : SyntaxAnswers) (s : Settings) (m : Contents) → Keeps (BreaksLists s.lists (function_texts m) m.lists) → Keeps (BreaksRedefinition s.allow_duplicate_recipes (defined_in m)) → Keeps (BreaksShells answers s m.recipes) → Keeps (BreaksBodies answers s m)
bodies_kept answers s m lists defined shells c (of_lists b) = lists c b
bodies_kept answers s m lists defined shells c (of_defined b) = defined c b
bodies_kept answers s m lists defined shells c (of_shells b) = shells c b

-- the headers of a module
pub headers_kept : (conflicts : Conflicts) (m : Contents) → Keeps (BreaksParameters m.recipes) → Keeps (BreaksSettings conflicts m.sets) → AreDifferent (texts_of_names m.unexports) → AreDifferent (texts_of_named m.named) → Keeps (BreaksHeaders conflicts m)
headers_kept conflicts m kept sets unexports named c (of_parameters h) = kept c h
headers_kept conflicts m kept sets unexports named c (of_sets h) = sets c h
headers_kept conflicts m kept sets unexports named _ (of_unexports (duplicate_unexport i j r e)) = unexports i j r.apart r.within r.same
headers_kept conflicts m kept sets unexports named _ (of_named (named_redefinition r)) = named r.i r.j r.repeats.apart r.repeats.within r.repeats.same

-- one more name that stands not among others
pub apart_more : (ns : List Name) (others : List (List ℕ)) (n : ℕ) (name : Name) (v : List ℕ) (found : Option ℕ) → slice_get ns n ≡ Some name → v ≡ text_of_name name → IsLast others (length others) v found → found ≡ None
    → ((i j : ℕ) → i < n → j < length others → name_at (texts_of_names ns) i ≢ name_at others j) → (i j : ℕ) → i < n + 1 → j < length others → name_at (texts_of_names ns) i ≢ name_at others j
apart_more ns others n name v None at is last e before i j h l = elim (cases_lt i n) [
  | inl b ↦ before i j b l
  | inr b ↦
      let same : i ≡ n = omega (arith, b, h) in
      λ eq. last j l (sym eq ∙ (ap (name_at (texts_of_names ns)) same ∙ (get_or_from_slice_get (texts_of_names ns) n (text_of_name name) [] (map_get text_of_name ns n name at) ∙ sym is)))
]
apart_more ns others n name v (Some k) at is last e before i j h l = cc

-- modules and aliases stand first
named_sort : (ns : List Naming) (rs : List (Recipe UnresolvedDependency)) (i : ℕ) (d : Defined) → slice_get (all_defined ns rs) i ≡ Some d → i < length ns → d.sort ≢ definition.Recipe
named_sort [] rs i d e h = absurd (omega (arith, h))
named_sort (naming.Alias n ∷ ns) rs zero d e h = λ is. let same : definition.Alias ≡ definition.Recipe = ap (λ (x : Defined). x.sort) (some_same e) ∙ is in cc
named_sort (naming.Module n ∷ ns) rs zero d e h = λ is. let same : definition.Module ≡ definition.Recipe = ap (λ (x : Defined). x.sort) (some_same e) ∙ is in cc
named_sort (n ∷ ns) rs (suc i) d e h = named_sort ns rs i d e (omega (arith, h))

recipe_sort : (rs : List (Recipe UnresolvedDependency)) (i : ℕ) (d : Defined) → slice_get (map defined_recipe rs) i ≡ Some d → d.sort ≢ definition.Recipe → ⊥
recipe_sort [] i d e isnt = cc
recipe_sort (r ∷ rs) zero d e isnt = isnt (sym (ap (λ (x : Defined). x.sort) (some_same e)))
recipe_sort (r ∷ rs) (suc i) d e isnt = recipe_sort rs i d e isnt

named_place : (ns : List Naming) (rs : List (Recipe UnresolvedDependency)) (i : ℕ) (d : Defined) → slice_get (all_defined ns rs) i ≡ Some d → d.sort ≢ definition.Recipe → i < length ns
named_place [] rs i d e isnt = absurd (recipe_sort rs i d e isnt)
named_place (n ∷ ns) rs zero d e isnt = omega arith
named_place (n ∷ ns) rs (suc i) d e isnt = let l = named_place ns rs i d e isnt in omega (arith, l)

module _ (ns : List Naming) (rs : List (Recipe UnresolvedDependency)) where
  -- what is defined at a place
  pub named_there : (i : ℕ) (d : Defined) → slice_get (map defined_naming ns) i ≡ Some d → slice_get (all_defined ns rs) i ≡ Some d
  named_there i d e = get_left (map defined_naming ns) (map defined_recipe rs) i d e

  pub recipe_there : (j : ℕ) (r : Recipe UnresolvedDependency) → slice_get rs j ≡ Some r → slice_get (all_defined ns rs) (length ns + j) ≡ Some (defined_recipe r)
  recipe_there j r e = subst (λ n. slice_get (all_defined ns rs) (n + j) ≡ Some (defined_recipe r)) (length-map ns defined_naming) (get_right (map defined_naming ns) (map defined_recipe rs) j (defined_recipe r) (map_get defined_recipe rs j r e))

  -- the places whose names may not be repeated
  abbrev pub bound_of : Bool → ℕ
  bound_of allowed = if allowed then length ns else length (texts_of_defined (all_defined ns rs))

  may_be : (allowed : Bool) (i : ℕ) (first : Defined) → slice_get (all_defined ns rs) i ≡ Some first → i < bound_of allowed → allowed ≡ true → first.sort ≢ definition.Recipe
  may_be true i first at below e = named_sort ns rs i first at below
  may_be false i first at below e = cc

  -- two of one name
  pub defined_twice : (allowed : Bool) (i j bound : ℕ) (first second : Defined) (place : Place) (told : CompileErrorKind) → bound ≡ bound_of allowed → i < bound → Repeats (texts_of_defined (all_defined ns rs)) i j → slice_get (all_defined ns rs) i ≡ Some first → slice_get (all_defined ns rs) j ≡ Some second
      → IsRedefinition first second place told → BreaksRedefinition allowed (all_defined ns rs) (Broken place told)
  defined_twice allowed i j bound first second place told is below repeats a b redefines =
      redefinition (record { i = i; j = j; first = first; second = second; repeats = repeats; first_is = a; second_is = b; told_is = redefines }) (may_be allowed i first a (subst (λ n. i < n) is below))

  is_below : (allowed : Bool) (i j : ℕ) (first : Defined) → slice_get (all_defined ns rs) i ≡ Some first → (allowed ≡ true → first.sort ≢ definition.Recipe) → i < j → j < length (texts_of_defined (all_defined ns rs)) → i < bound_of allowed
  is_below true i j first at may l h = named_place ns rs i first at (may refl)
  is_below false i j first at may l h = omega (arith, l, h)

  -- no two of them have one that may not
  pub defined_kept : (allowed : Bool) (bound : ℕ) → bound ≡ bound_of allowed → NoneRepeats (texts_of_defined (all_defined ns rs)) (length (texts_of_defined (all_defined ns rs))) bound → Keeps (BreaksRedefinition allowed (all_defined ns rs))
  defined_kept allowed bound is none _ (redefinition r may) =
      none r.i r.j r.repeats r.repeats.within (subst (λ n. r.i < n) (sym is) (is_below allowed r.i r.j r.first r.first_is may r.repeats.apart r.repeats.within))
