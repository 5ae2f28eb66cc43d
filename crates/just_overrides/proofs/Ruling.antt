-- The rule of overrides is kept in the tree of modules exactly where each key means a variable of what they are compiled to.
use Rattle.std.proofs.Common.{◌≡◌, ◌∙◌, List, [], ◌∷◌, ◌++◌, Option, None, Some, inl, inr, refl, sym, ap, subst}
use Rattle.std.specs.Map.{keys_of}
use Rattle.std.specs.Option.{option_and_then, option_map}
use Rattle.just_ast_definitions.specs.declared.assignment.Assignment.{Assignment}
use Rattle.just_errors.specs.Causes.{Cause, Keeps}
use Rattle.just_graph.proofs.Members.{In}
use Rattle.just_justfile.specs.Closed.{AreClosed, itself}
use Rattle.just_justfile.specs.declared.justfile.Justfile.{Justfile, out-Justfile}
use Rattle.just_module_headers.specs.Reading.{Reading, reading_of}
use Rattle.just_module_tree.specs.Groups.{KeepsModules}
use Rattle.just_module_tree.specs.Modules.{AreModules, Empty, Forest, Heading, Module, Tree, a_module, first, in_it, no_module}
use Rattle.just_module_tree.specs.Overrides.{AreUnknown, BreaksOverrides, OverrideKey, MeansVariable, NamesNone, is_known, is_unknown, no_key, no_variables, shown_key}
use Rattle.just_names.specs.Texts.{Text}
use Rattle.just_names.specs.declared.number.Number.{Number}
use Rattle.just_parts.specs.Asts.{AstKey}
use Rattle.just_parts.specs.Items.{Ast}
use Rattle.just_parts.specs.Layers.{Given}
use Rattle.just_paths.specs.declared.modulepath.Modulepath.{Modulepath}
use Rattle.just_recipe.specs.declared.dependency.Dependency.{Dependency}
use Rattle.just_recipe.specs.declared.recipe.Recipe.{Recipe}
use Rattle.just_table.specs.Entries.{find}
use Rattle.just_compiled.proofs.Agreeing.{SayAll, Shows}
use Rattle.just_compiled.proofs.Saying.{Says, forest_says}
use Rattle.just_compiled.specs.Justfiles.{AreCompiled, Built, IsCompiled, Made, none, one, recipes_of_all}
use Rattle.just_overrides.specs.Applied.{TellsUnknown}
use Rattle.just_overrides.specs.Reached.{number_in_module, reached, told_of, unknown, variable_of}
use Rattle.just_overrides.proofs.Kept.{all_once}
use Rattle.just_overrides.proofs.Leading.{At, reached_back, reached_on}
use Rattle.just_overrides.proofs.Variables.{kept_variable, variable_kept}

-- the first module of headings is that of the first
first_heading : {R : Reading} {hs : List Heading} {f : Forest} → AreModules R hs f → (h : Heading) (rest : List Heading) (m : Module) (inside after : Forest) → hs ≡ h ∷ rest → f ≡ Tree m inside after → m.heading ≡ h
first_heading no_module h rest m inside after e f = cc
first_heading (a_module {h = g} {m = n} is a b) h rest m inside after e f =
    let eg : g ≡ h = cc in
    let en : n ≡ m = cc in
    ap (λ (x : Module). x.heading) (sym en) ∙ is.heading ∙ eg

module _ (given : Given) (asts : AstKey → Option Ast) (loaded : List Text) (built : List Built) where
  shown_one : (n : Module) (within : Forest) (k : Justfile) (made : Made) (inner : List Justfile) → AreCompiled given asts loaded built within inner → IsCompiled given asts loaded (recipes_of_all built) n within inner made k
      → Says given asts n → SayAll given asts within → Shows given asts loaded built n within k
  shown_one n within k made inner below is says all = record { made = made; inner = inner; compiled = below; is = is; says = says; inner_says = all }

  moved : (p q : Module × (Forest × Justfile)) → p ≡ q → Shows given asts loaded built p.0 p.1.0 p.1.1 → Shows given asts loaded built q.0 q.1.0 q.1.1
  moved p q same shows = subst (λ (x : Module × (Forest × Justfile)). Shows given asts loaded built x.0 x.1.0 x.1.1) same shows

  one_first : (n m : Module) (within inside others after : Forest) (k j : Justfile) (js rest : List Justfile) → Tree n within others ≡ Tree m inside after → k ∷ js ≡ j ∷ rest
      → ◌≡◌ {A = Module × (Forest × Justfile)} (n, (within, k)) (m, (inside, j))
  one_first n m within inside others after k j js rest e f =
      let en : n ≡ m = cc in
      let ew : within ≡ inside = cc in
      let ek : k ≡ j = cc in
      λ i. (en i, (ew i, ek i))

  none_first : (m : Module) (inside after : Forest) → Empty ≡ Tree m inside after → ⊥
  none_first m inside after e = cc

  compiled_cases : (R : Forest → List Justfile → Type 0) → R Empty [] → ((n : Module) (within others : Forest) (k : Justfile) (js inner : List Justfile) (made : Made) → AreCompiled given asts loaded built within inner
      → IsCompiled given asts loaded (recipes_of_all built) n within inner made k → R (Tree n within others) (k ∷ js)) → {f : Forest} {js : List Justfile} → AreCompiled given asts loaded built f js → R f js
  compiled_cases R nothing more none = nothing
  compiled_cases R nothing more (one {m = n} {inside = within} {after = others} {inner} {js} {j = k} made there below is aliased rest) = more n within others k js inner made below is

  -- it is compiled to the first justfile
  abbrev FirstShows : Forest → List Justfile → Type 0
  FirstShows f js = SayAll given asts f → (m : Module) (inside after : Forest) (j : Justfile) (rest : List Justfile) → f ≡ Tree m inside after → js ≡ j ∷ rest → Shows given asts loaded built m inside j

  first_shows : {f : Forest} {js : List Justfile} → AreCompiled given asts loaded built f js → FirstShows f js
  first_shows =
      compiled_cases FirstShows (λ says m inside after j rest e f. absurd (none_first m inside after e))
      (λ n within others k js inner made below is says m inside after j rest e f.
      moved (n, (within, k)) (m, (inside, j)) (one_first n m within inside others after k j js rest e f) (shown_one n within k made inner below is (says n within first) (λ x under has. says x under (in_it has))))

  module _ (top : Heading) (rooted : top.key.0.components ≡ []) (m : Module) (inside : Forest) (are : AreModules (reading_of given.syntax.enabled asts) (top ∷ []) (Tree m inside Empty)) (kept : KeepsModules given (Tree m inside Empty))
      (recipes : List (Recipe Dependency)) (root : Justfile) (compiled : AreCompiled given asts loaded built (Tree m inside Empty) (root ∷ [])) (closed : AreClosed recipes root) where
    shows : Shows given asts loaded built m inside root
    shows = first_shows compiled (forest_says given asts are) m inside Empty root [] refl refl

    -- the path of the root has no names
    pub at_root : (out-Justfile root).module_path.components ≡ []
    at_root = ap (λ (p : Modulepath). p.components) shows.is.path ∙ ap (λ (h : Heading). h.key.0.components) (first_heading are top [] m inside Empty refl refl) ∙ rooted

    at : At given asts loaded built recipes root closed at_root m inside root
    at = record { shows = shows; once = all_once given _ kept m inside first; inner_once = λ n under has. all_once given _ kept n under (in_it has); stands = itself }

    abbrev Means : OverrideKey → Type 0
    Means = MeansVariable m inside

    number_some : (o : Option Assignment) (number : Number) → option_map (λ (a : Assignment). a.number) o ≡ Some number → (a : Assignment) × (o ≡ Some a)
    number_some None number e = cc
    number_some (Some a) number e = (a, refl)

    means_at : (key : OverrideKey) (number : Number) (k : Justfile) → reached root key.0.components ≡ Some k → number_in_module key.1 k ≡ Some number → Means key
    means_at key number k f g =
        let r = reached_back given asts loaded built recipes root closed at_root key.0.components m inside root k at f in
        let a = number_some (find key.1 (out-Justfile k).assignments) number g in
        record { n = r.0; within = r.1; reaches = r.2; named = variable_kept given asts loaded built r.0 r.1 k r.3.shows key.1 a.0 a.1 }

    none_meant : (key : OverrideKey) (number : Number) → option_and_then (number_in_module key.1) None ≡ Some number → ⊥
    none_meant key number e = cc

    -- a key that means a variable of the compiled modules means one of the tree
    pub means_back : (key : OverrideKey) (number : Number) → variable_of root key ≡ Some number → Means key
    means_back key number e = go (reached root key.0.components) refl e
      where
        go : (o : Option Justfile) → reached root key.0.components ≡ o → option_and_then (number_in_module key.1) o ≡ Some number → Means key
        go None f g = absurd (none_meant key number g)
        go (Some k) f g = means_at key number k f g

    lost_number : (o : Option Assignment) → option_map (λ (a : Assignment). a.number) o ≡ None → o ≡ None
    lost_number None e = refl
    lost_number (Some a) e = cc

    -- and the other way
    pub means_on : (key : OverrideKey) → variable_of root key ≡ None → Means key → ⊥
    means_on key e means =
        let r = reached_on given asts loaded built recipes root closed at_root means.reaches root at in
        kept_variable given asts loaded built means.n means.within r.0 r.2.shows key.1 means.named (lost_number (find key.1 (out-Justfile r.0).assignments) (ap (option_and_then (number_in_module key.1)) (sym r.1) ∙ e))

    -- so the same are unknown
    are_unknown : (entries : List (OverrideKey × Text)) → AreUnknown Means (keys_of entries) (unknown root entries)
    are_unknown [] = no_key
    are_unknown (entry ∷ entries) = go (are_unknown entries) (variable_of root entry.0) refl
      where
        go : AreUnknown Means (keys_of entries) (unknown root entries) → (o : Option Number) → variable_of root entry.0 ≡ o → AreUnknown Means (entry.0 ∷ keys_of entries) (told_of (shown_key entry.0) o ++ unknown root entries)
        go rest None e = is_unknown (means_on entry.0 e) rest
        go rest (Some number) e = is_known (means_back entry.0 number e) rest

    -- what is told is broken
    pub tells_broken : (entries : List (OverrideKey × Text)) (c : Cause) → TellsUnknown (unknown root entries) c → BreaksOverrides (keys_of entries) (Tree m inside Empty) c
    tells_broken entries c tells = subst (NamesNone Means (keys_of entries)) (sym tells.1) (no_variables (are_unknown entries) tells.0)

    all_known : (entries : List (OverrideKey × Text)) → unknown root entries ≡ [] → (key : OverrideKey) → In key (keys_of entries) → Means key
    all_known [] e key i = absurd i
    all_known (entry ∷ entries) e key i = go (λ g. all_known entries g key) (variable_of root entry.0) refl e i
      where
        go : (unknown root entries ≡ [] → In key (keys_of entries) → Means key) → (o : Option Number) → variable_of root entry.0 ≡ o → told_of (shown_key entry.0) o ++ unknown root entries ≡ [] → In key (entry.0 ∷ keys_of entries) → Means key
        go rest None f g i = cc
        go rest (Some number) f g (inl same) = subst Means (sym same) (means_back entry.0 number f)
        go rest (Some number) f g (inr i) = rest g i

    none_told : {keys : List OverrideKey} {texts : List Text} → AreUnknown Means keys texts → ((key : OverrideKey) → In key keys → Means key) → texts ≡ []
    none_told no_key all = refl
    none_told (is_known means rest) all = none_told rest (λ key i. all key (inr i))
    none_told (is_unknown {key} lost rest) all = absurd (lost (all key (inl refl)))

    none_named : (entries : List (OverrideKey × Text)) → unknown root entries ≡ [] → Keeps (NamesNone Means (keys_of entries))
    none_named entries e _ (no_variables are some) = some (none_told are (all_known entries e))

    -- where none is told nothing is broken
    pub none_broken : (entries : List (OverrideKey × Text)) → unknown root entries ≡ [] → Keeps (BreaksOverrides (keys_of entries) (Tree m inside Empty))
    none_broken entries e = none_named entries e
