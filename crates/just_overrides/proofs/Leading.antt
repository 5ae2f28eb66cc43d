-- Names lead alike through the modules of a tree and through what they are compiled to, also through aliases.
use Rattle.std.proofs.Common.{◌≡◌, ◌∙◌, List, [], ◌∷◌, Option, None, Some, refl, sym, ap, subst, inl, inr}
use Rattle.std.specs.Option.{option_and_then, option_or}
use Rattle.just_ast_definitions.specs.declared.alias.Alias.{Alias}
use Rattle.just_graph.proofs.Index.{some_same}
use Rattle.just_graph.proofs.Members.{In, contained, from_flat, in_flat, is_in}
use Rattle.just_justfile.proofs.Leading.{named_there, stands_along, walk_along}
use Rattle.just_justfile.proofs.Returning.{found_by_path}
use Rattle.just_justfile.specs.Closed as standing
use Rattle.just_justfile.specs.Closed.{AreClosed, StandsIn}
use Rattle.just_justfile.specs.Walks as walks
use Rattle.just_justfile.specs.Walks.{End, end_of_names, inner_along, module_named, recipe_from}
use Rattle.just_justfile.specs.declared.aliases.Aliases.{Aliases}
use Rattle.just_justfile.specs.declared.justfile.Justfile.{Justfile, out-Justfile}
use Rattle.just_module_aliases.specs.Aliased.{aimed, as_module_alias, as_recipe, alias_meant, modules_among, name_of_alias, targets_of}
use Rattle.just_module_aliases.specs.declared.aliases.AliasMeaning.{AliasMeaning}
use Rattle.just_module_aliases.specs.declared.aliases.AliasMeaning.TheVariants as meaning
use Rattle.just_module_tree.specs.Modules.{Forest, Module, contents_of}
use Rattle.just_module_tree.specs.Overrides.{Reaches, StepsTo, at_end, by_step, to_aliased, to_inner}
use Rattle.just_module_tree.specs.Standing as trees
use Rattle.just_module_tree.specs.Standing.{WalkEnd, find_inner, follow}
use Rattle.just_names.specs.Name.{text_of_name, texts_of_path}
use Rattle.just_names.specs.Texts.{Text}
use Rattle.just_names.specs.declared.name.Namepath.{Namepath}
use Rattle.just_parts.specs.Asts.{AstKey}
use Rattle.just_parts.specs.Items.{Ast}
use Rattle.just_parts.specs.Layers.{Given}
use Rattle.just_paths.specs.declared.modulepath.Modulepath.{Modulepath}
use Rattle.just_recipe.specs.declared.dependency.Dependency.{Dependency}
use Rattle.just_recipe.specs.declared.recipe.Recipe.{Recipe}
use Rattle.just_table.specs.Entries.{find}
use Rattle.just_compiled.specs.Justfiles.{Built}
use Rattle.just_compiled.proofs.Agreeing.{Agree, FoundAs, Shows, both, both_absent, both_inside, both_nowhere, found, neither}
use Rattle.just_compiled.proofs.Aliasing.{all_agree, module_led, of_module_alias}
use Rattle.just_compiled.proofs.Meanings.{meaning_at, meant_by}
use Rattle.just_compiled.proofs.NamedModules.{found_sorted}
use Rattle.just_compiled.proofs.RecipeKeys.{found_among, not_found}
use Rattle.just_overrides.specs.Reached.{aliased, reached_from, module_step}
use Rattle.just_overrides.proofs.Kept.{OnceAll, once_followed, once_inner}
use Rattle.just_overrides.proofs.Once.{OnceNamed}

-- a module that stands in one that stands in the root stands there
stands_through : {root j c : Justfile} → StandsIn root j → StandsIn j c → StandsIn root c
stands_through standing.itself s = s
stands_through (standing.inside there t) s = standing.inside there (stands_through t s)

-- an alias of a module has the name of what it was made of
module_alias_name : (a : Alias Namepath) (made : Alias Modulepath) (o : Option AliasMeaning) → In made (as_module_alias a o) → made.name ≡ a.name
module_alias_name a made None i = absurd i
module_alias_name a made (Some (meaning.Disabled set)) i = absurd i
module_alias_name a made (Some (meaning.Module path)) (inl e) = ap (λ (x : Alias Modulepath). x.name) e
module_alias_name a made (Some (meaning.Module path)) (inr i) = absurd i
module_alias_name a made (Some (meaning.Recipe number)) i = absurd i

-- what is kept by each step is kept by all
by_steps : (R : Module → Forest → List Text → Module → Forest → Type 0) → ((m : Module) (inside : Forest) → R m inside [] m inside)
    → ((m n to : Module) (inside within under : Forest) (name : Text) (names : List Text) → StepsTo m inside name n within → R n within names to under → R m inside (name ∷ names) to under)
    → {m n : Module} {inside within : Forest} {names : List Text} → Reaches m inside names n within → R m inside names n within
by_steps R here onward (at_end {m} {inside}) = here m inside
by_steps R here onward (by_step {m} {n} {to} {inside} {within} {under} {name} {names} s r) = onward m n to inside within under name names s (by_steps R here onward r)

module _ (given : Given) (asts : AstKey → Option Ast) (loaded : List Text) (built : List Built) where
  one_place : (n m : Module) (within under : Forest) → trees.InModule n within ≡ trees.InModule m under → ◌≡◌ {A = Module × Forest} (n, within) (m, under)
  one_place n m within under e =
      let en : n ≡ m = cc in
      let ew : within ≡ under = cc in
      λ i. (en i, ew i)

  -- what is shown of one is shown of what is the same
  moved : (n : Module) (within : Forest) (k c : Justfile) → k ≡ c → Shows given asts loaded built n within k → Shows given asts loaded built n within c
  moved n within k c same shows = subst (Shows given asts loaded built n within) same shows

  placed : (p q : Module × Forest) (c : Justfile) → p ≡ q → Shows given asts loaded built p.0 p.1 c → Shows given asts loaded built q.0 q.1 c
  placed p q c same shows = subst (λ (x : Module × Forest). Shows given asts loaded built x.0 x.1 c) same shows

  -- by cases, whatever is said
  agree_cases : (R : WalkEnd → End → Type 0) → ((n : Module) (below : Forest) (c : Justfile) → Shows given asts loaded built n below c → R (trees.InModule n below) (walks.Inside c))
      → ((names : List Text) → R (trees.Missing names) (walks.Absent names)) → R trees.Nowhere walks.Nowhere → {p : WalkEnd} {e : End} → Agree given asts loaded built p e → R p e
  agree_cases R in_both absent nowhere (both_inside {n} {below} {c} shows) = in_both n below c shows
  agree_cases R in_both absent nowhere (both_absent {names}) = absent names
  agree_cases R in_both absent nowhere both_nowhere = nowhere

  found_cases : (R : Option (Module × Forest) → Option Justfile → Type 0) → ((n : Module) (below : Forest) (c : Justfile) → Shows given asts loaded built n below c → R (Some (n, below)) (Some c)) → R None None
      → {o : Option (Module × Forest)} {q : Option Justfile} → FoundAs given asts loaded built o q → R o q
  found_cases R in_both none (both {n} {below} {c} shows) = in_both n below c shows
  found_cases R in_both none neither = none

  -- a walk that ends in a justfile ends in its module, and the other way
  abbrev ModuleOf : WalkEnd → End → Type 0
  ModuleOf p e = (c : Justfile) → e ≡ walks.Inside c → (n : Module) × (within : Forest) × (p ≡ trees.InModule n within) × Shows given asts loaded built n within c

  one_end : (k c : Justfile) → walks.Inside k ≡ walks.Inside c → k ≡ c
  one_end k c e = cc

  absent_inside : (names : List Text) (c : Justfile) → walks.Absent names ≡ walks.Inside c → ⊥
  absent_inside names c e = cc

  nowhere_inside : (c : Justfile) → walks.Nowhere ≡ walks.Inside c → ⊥
  nowhere_inside c e = cc

  module_of : {p : WalkEnd} {e : End} → Agree given asts loaded built p e → ModuleOf p e
  module_of = agree_cases ModuleOf (λ n below k shows c e. (n, below, refl, moved n below k c (one_end k c e) shows)) (λ names c e. absurd (absent_inside names c e)) (λ c e. absurd (nowhere_inside c e))

  justfile_of : {p : WalkEnd} {e : End} → Agree given asts loaded built p e → (n : Module) (within : Forest) → p ≡ trees.InModule n within → (c : Justfile) × (e ≡ walks.Inside c)
  justfile_of (both_inside {c} shows) n within e = (c, refl)
  justfile_of both_absent n within e = cc
  justfile_of both_nowhere n within e = cc

  module _ (m : Module) (inside : Forest) (j : Justfile) (shows : Shows given asts loaded built m inside j) where
    -- what is found under one name
    inner_found : (name : Text) → FoundAs given asts loaded built (find_inner name inside) (module_named name (out-Justfile j).modules)
    inner_found name =
        subst (FoundAs given asts loaded built (find_inner name inside)) (sym (ap (module_named name) shows.is.modules ∙ found_sorted name shows.inner shows.is.different))
        (found given asts loaded built name shows.compiled shows.inner_says)

    -- An alias of a name leads to a module with this path, which stands in this one.
    record IsAliased (name : Text) (target : Modulepath) : Type 0 where
      alias : Alias Namepath
      there : In alias (contents_of m).aliases
      named : text_of_name alias.name ≡ name
      n : Module
      within : Forest
      c : Justfile
      leads : follow (texts_of_path alias.target) m inside ≡ trees.InModule n within
      showing : Shows given asts loaded built n within c
      stands : StandsIn j c
      path : target ≡ (out-Justfile c).module_path

    alias_back : (name : Text) (made : Alias Modulepath) → find name (out-Justfile j).aliases.modules ≡ Some made → IsAliased name made.target
    alias_back name made f =
        let t = targets_of j in
        elim (found_among name_of_alias name made [] (modules_among t _) (ap (λ (it : Aliases). find name it.modules) (sym shows.is.fields.aliases_are) ∙ f)) [
          | inr wrong ↦ absurd (cc)
          | inl k ↦ (
              let a = from_flat (λ (a : Alias Namepath). as_module_alias a (alias_meant t a.target)) made _ k.0 in
              let is = of_module_alias a.0 made (alias_meant t a.0.target) a.2 in
              let led = module_led (end_of_names t.absent t.modules (texts_of_path a.0.target)) (recipe_from j a.0.target) made.target (sym (meant_by t a.0.target) ∙ is) in
              let to = module_of (all_agree given asts loaded built m inside j shows a.0.target.front a.0.target.last) led.0 led.1 in
              record {
                alias = a.0;
                there = subst (In a.0) shows.says.aliases a.1;
                named = ap text_of_name (sym (module_alias_name a.0 made (alias_meant t a.0.target) a.2)) ∙ k.1;
                n = to.0;
                within = to.1;
                c = led.0;
                leads = to.2;
                showing = to.3;
                stands = stands_along j led.0 (texts_of_path a.0.target) (walk_along j led.0 (texts_of_path a.0.target) led.1);
                path = led.2;
              })
        ]

    module _ (once : OnceNamed (contents_of m).aliases) (alias : Alias Namepath) (there : In alias (contents_of m).aliases) (n : Module) (within : Forest) (leads : follow (texts_of_path alias.target) m inside ≡ trees.InModule n within) where
      not_lost : find (text_of_name alias.name) (out-Justfile j).aliases.modules ≡ None → ⊥
      not_lost f =
          let t = targets_of j in
          let to = justfile_of (all_agree given asts loaded built m inside j shows alias.target.front alias.target.last) n within leads in
          let is : alias_meant t alias.target ≡ Some (meaning.Module (out-Justfile to.0).module_path) = meant_by t alias.target ∙ ap (λ e. meaning_at e (as_recipe (recipe_from j alias.target))) to.1 in
          let made : Alias Modulepath = aimed alias (out-Justfile to.0).module_path in
          not_found name_of_alias (text_of_name alias.name) [] (modules_among t _) (ap (λ (it : Aliases). find (text_of_name alias.name) it.modules) (sym shows.is.fields.aliases_are) ∙ f) made
          (in_flat (λ (a : Alias Namepath). as_module_alias a (alias_meant t a.target)) made alias _ (subst (In alias) (sym shows.says.aliases) there) (subst (λ o. In made (as_module_alias alias o)) (sym is) (inl refl))) refl

      -- so the alias of the name leads there
      pub alias_on : (made : Alias Modulepath) → find (text_of_name alias.name) (out-Justfile j).aliases.modules ≡ Some made
          → (c : Justfile) × (made.target ≡ (out-Justfile c).module_path) × Shows given asts loaded built n within c × StandsIn j c
      alias_on made f =
          let a = alias_back (text_of_name alias.name) made f in
          let same : a.alias ≡ alias = once a.alias alias a.there there a.named in
          let e : trees.InModule a.n a.within ≡ trees.InModule n within = sym a.leads ∙ ap (λ (x : Alias Namepath). follow (texts_of_path x.target) m inside) same ∙ leads in
          (a.c, a.path, placed (a.n, a.within) (n, within) a.c (one_place a.n n a.within within e) a.showing, a.stands)

  module _ (recipes : List (Recipe Dependency)) (root : Justfile) (closed : AreClosed recipes root) (rooted : (out-Justfile root).module_path.components ≡ []) where
    -- A module with those in it, whose aliases have names of their own, is compiled to a justfile that stands in the root.
    pub record At (m : Module) (inside : Forest) (j : Justfile) : Type 0 where
      pub shows : Shows given asts loaded built m inside j
      pub once : OnceNamed (contents_of m).aliases
      pub inner_once : OnceAll inside
      pub stands : StandsIn root j

    at_justfile : (m : Module) (inside : Forest) (j k : Justfile) → j ≡ k → At m inside j → At m inside k
    at_justfile m inside j k same at = subst (At m inside) same at

    at_place : (p q : Module × Forest) (c : Justfile) → p ≡ q → At p.0 p.1 c → At q.0 q.1 c
    at_place p q c same at = subst (λ (x : Module × Forest). At x.0 x.1 c) same at

    abbrev by_alias : Option (Alias Modulepath) → Option Justfile
    by_alias = option_and_then (λ (alias : Alias Modulepath). inner_along root alias.target.components)

    module _ (m : Module) (inside : Forest) (j : Justfile) (at : At m inside j) (name : Text) where
      abbrev Led : Justfile → Type 0
      Led k = (n : Module) × (within : Forest) × StepsTo m inside name n within × At n within k

      inner_at : (n : Module) (within : Forest) (c : Justfile) → find_inner name inside ≡ Some (n, within) → module_named name (out-Justfile j).modules ≡ Some c → Shows given asts loaded built n within c → At n within c
      inner_at n within c e f shows =
          let o = once_inner name inside n within at.inner_once e in
          record { shows = shows; once = o.0; inner_once = o.1; stands = stands_through at.stands (standing.inside (named_there name (out-Justfile j).modules c f) standing.itself) }

      alias_at : (alias : Alias Namepath) (n : Module) (within : Forest) (c : Justfile) → follow (texts_of_path alias.target) m inside ≡ trees.InModule n within → Shows given asts loaded built n within c → StandsIn j c → At n within c
      alias_at alias n within c e shows stands =
          let o = once_followed (texts_of_path alias.target) m inside n within at.once at.inner_once e in
          record { shows = shows; once = o.0; inner_once = o.1; stands = stands_through at.stands stands }

      -- the path of one that stands in the root leads to it
      returns : (c : Justfile) (path : Modulepath) → StandsIn j c → path ≡ (out-Justfile c).module_path → inner_along root path.components ≡ Some c
      returns c path stands e = ap (λ (p : Modulepath). inner_along root p.components) e ∙ found_by_path recipes root c closed rooted (stands_through at.stands stands)

      alias_made : find_inner name inside ≡ None → (k : Justfile) (made : Alias Modulepath) → find name (out-Justfile j).aliases.modules ≡ Some made → by_alias (Some made) ≡ Some k → Led k
      alias_made none k made f g =
          let a = alias_back m inside j at.shows name made f in
          let same : a.c ≡ k = some_same (sym (returns a.c made.target a.stands a.path) ∙ g) in
          (a.n, a.within, to_aliased a.alias none (contained a.alias (contents_of m).aliases a.there) a.named a.leads, at_justfile a.n a.within a.c k same (alias_at a.alias a.n a.within a.c a.leads a.showing a.stands))

      none_led : (k : Justfile) → by_alias None ≡ Some k → ⊥
      none_led k e = cc

      alias_led : find_inner name inside ≡ None → (k : Justfile) (o : Option (Alias Modulepath)) → find name (out-Justfile j).aliases.modules ≡ o → by_alias o ≡ Some k → Led k
      alias_led none k None f g = absurd (none_led k g)
      alias_led none k (Some made) f g = alias_made none k made f g

      abbrev LedBy : Justfile → Option (Module × Forest) → Option Justfile → Type 0
      LedBy k o q = find_inner name inside ≡ o → module_named name (out-Justfile j).modules ≡ q → option_or q (aliased root j name) ≡ Some k → Led k

      inner_led : (k : Justfile) (n : Module) (below : Forest) (c : Justfile) → Shows given asts loaded built n below c → LedBy k (Some (n, below)) (Some c)
      inner_led k n below c shows e f g = (n, below, to_inner e, at_justfile n below c k (some_same g) (inner_at n below c e f shows))

      led : (k : Justfile) {o : Option (Module × Forest)} {q : Option Justfile} → FoundAs given asts loaded built o q → LedBy k o q
      led k = found_cases (LedBy k) (inner_led k) (λ e f g. alias_led e k (find name (out-Justfile j).aliases.modules) refl g)

      -- where a name leads through justfiles it leads in the tree
      pub step_back : (k : Justfile) → module_step root j name ≡ Some k → Led k
      step_back k e = led k (inner_found m inside j at.shows name) refl refl e

      abbrev Stepped : Module → Forest → Type 0
      Stepped n within = (k : Justfile) × (module_step root j name ≡ Some k) × At n within k

      abbrev SteppedBy : Module → Forest → Option (Module × Forest) → Option Justfile → Type 0
      SteppedBy n within o q = find_inner name inside ≡ o → module_named name (out-Justfile j).modules ≡ q → o ≡ Some (n, within) → Stepped n within

      both_step : (n : Module) (within : Forest) (x : Module) (below : Forest) (c : Justfile) → Shows given asts loaded built x below c → SteppedBy n within (Some (x, below)) (Some c)
      both_step n within x below c shows e f g =
          (c, ap (λ q. option_or q (aliased root j name)) f, at_place (x, below) (n, within) c (some_same g) (inner_at x below c e f shows))

      none_step : (n : Module) (within : Forest) → ◌≡◌ {A = Option (Module × Forest)} None (Some (n, within)) → ⊥
      none_step n within e = cc

      inner_step : (n : Module) (within : Forest) {o : Option (Module × Forest)} {q : Option Justfile} → FoundAs given asts loaded built o q → SteppedBy n within o q
      inner_step n within = found_cases (SteppedBy n within) (both_step n within) (λ e f g. absurd (none_step n within g))

      none_inner : {o : Option (Module × Forest)} {q : Option Justfile} → FoundAs given asts loaded built o q → o ≡ None → q ≡ None
      none_inner (both shows) e = cc
      none_inner neither e = refl

      alias_step : (alias : Alias Namepath) (n : Module) (within : Forest) → find_inner name inside ≡ None → In alias (contents_of m).aliases → text_of_name alias.name ≡ name → follow (texts_of_path alias.target) m inside ≡ trees.InModule n within
          → (o : Option (Alias Modulepath)) → find name (out-Justfile j).aliases.modules ≡ o → Stepped n within
      alias_step alias n within none there named leads None f =
          absurd (not_lost m inside j at.shows at.once alias there n within leads (ap (λ t. find t (out-Justfile j).aliases.modules) named ∙ f))
      alias_step alias n within none there named leads (Some made) f =
          let a = alias_on m inside j at.shows at.once alias there n within leads made (ap (λ t. find t (out-Justfile j).aliases.modules) named ∙ f) in (
            a.0,
            ap (λ q. option_or q (aliased root j name)) (none_inner (inner_found m inside j at.shows name) none) ∙ ap by_alias f ∙ returns a.0 made.target a.3 a.1,
            alias_at alias n within a.0 leads a.2 a.3,
          )

      -- and the other way
      pub step_on : (n : Module) (within : Forest) → StepsTo m inside name n within → Stepped n within
      step_on n within (to_inner e) = inner_step n within (inner_found m inside j at.shows name) refl refl e
      step_on n within (to_aliased alias none there named leads) =
          alias_step alias n within none (is_in alias (contents_of m).aliases there) named leads (find name (out-Justfile j).aliases.modules) refl

    abbrev ReachedBack : List Text → Module → Forest → Justfile → Type 0
    ReachedBack names m inside k = (n : Module) × (within : Forest) × Reaches m inside names n within × At n within k

    here_back : (m : Module) (inside : Forest) (j k : Justfile) → At m inside j → Some j ≡ Some k → ReachedBack [] m inside k
    here_back m inside j k at e = (m, inside, at_end, at_justfile m inside j k (some_same e) at)

    one_back : (name : Text) (names : List Text) (m : Module) (inside : Forest) (j next k : Justfile) → At m inside j → ((n : Module) (within : Forest) → At n within next → ReachedBack names n within k)
        → module_step root j name ≡ Some next → ReachedBack (name ∷ names) m inside k
    one_back name names m inside j next k at later f =
        let s = step_back m inside j at name next f in
        let r = later s.0 s.1 s.3 in
        (r.0, r.1, by_step s.2 r.2, r.3)

    none_back : (k : Justfile) (names : List Text) → option_and_then (λ (next : Justfile). reached_from root next names) None ≡ Some k → ⊥
    none_back k names e = cc

    -- so do names, one after another
    pub reached_back : (names : List Text) (m : Module) (inside : Forest) (j k : Justfile) → At m inside j → reached_from root j names ≡ Some k → ReachedBack names m inside k
    reached_back [] m inside j k at e = here_back m inside j k at e
    reached_back (name ∷ names) m inside j k at e = go (λ n within next. reached_back names n within next k) (module_step root j name) refl e
      where
        go : ((n : Module) (within : Forest) (next : Justfile) → At n within next → reached_from root next names ≡ Some k → ReachedBack names n within k)
            → (o : Option Justfile) → module_step root j name ≡ o → option_and_then (λ (next : Justfile). reached_from root next names) o ≡ Some k → ReachedBack (name ∷ names) m inside k
        go later None f g = absurd (none_back k names g)
        go later (Some next) f g = one_back name names m inside j next k at (λ n within x. later n within next x g) f

    abbrev ReachedOn : Module → Forest → List Text → Module → Forest → Type 0
    ReachedOn m inside names n within = (j : Justfile) → At m inside j → (k : Justfile) × (reached_from root j names ≡ Some k) × At n within k

    one_on : (m n to : Module) (inside within under : Forest) (name : Text) (names : List Text) → StepsTo m inside name n within → ReachedOn n within names to under → ReachedOn m inside (name ∷ names) to under
    one_on m n to inside within under name names s later j at =
        let x = step_on m inside j at name n within s in
        let y = later x.0 x.2 in
        (y.0, ap (option_and_then (λ (next : Justfile). reached_from root next names)) x.1 ∙ y.1, y.2)

    pub reached_on : {m n : Module} {inside within : Forest} {names : List Text} → Reaches m inside names n within → ReachedOn m inside names n within
    reached_on = by_steps ReachedOn (λ m inside j at. (j, refl, at)) one_on
