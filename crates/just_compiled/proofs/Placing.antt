-- Each recipe that is compiled is that of a module that stands in the root.
use Rattle.std.proofs.Common.{◌≡◌, ◌≢◌, ◌∙◌, suc, Bool, List, [], ◌∷◌, map, Option, None, Some, refl, sym, ap, subst, inl, inr, arith}
use Rattle.std.specs.Prelude.{flat_map}
use Rattle.std.specs.List.{Contains}
use Rattle.std.specs.Map.{values_of}
use Rattle.std.specs.Str.{bytes_eq}
use Rattle.std.proofs.lemmas.Bool.{cases_Bool}
use Rattle.std.proofs.lemmas.List.{get_or_default}
use Rattle.std.proofs.lemmas.Slice.Eq.{bytes_eq-Decides}
use Rattle.just_graph.proofs.Index.{some_same}
use Rattle.just_ast_items.specs.declared.item.Item.TheVariants as item
use Rattle.just_graph.proofs.Members.{In, contained, from_flat}
use Rattle.just_table.specs.Entries.{find, put}
use Rattle.just_table.proofs.Puts.{find_put}
use Rattle.just_names.specs.Name.{text_if_named}
use Rattle.just_names.specs.Texts.{Text}
use Rattle.just_ast_expressions.specs.declared.expression.Expression.{Expression}
use Rattle.just_names.specs.Index.{AreDifferent, texts_of_names}
use Rattle.just_parts.specs.Asts.{AstKey}
use Rattle.just_parts.specs.Items.{Ast, Item}
use Rattle.just_parts.specs.Layers.{Given}
use Rattle.just_paths.specs.declared.modulepath.Modulepath.{Modulepath}
use Rattle.just_recipe.specs.declared.dependency.Dependency.{Dependency}
use Rattle.just_recipe.specs.declared.dependency.UnresolvedDependency.{UnresolvedDependency}
use Rattle.just_recipe.specs.declared.recipe.Recipe.{Recipe}
use Rattle.just_module_contents.specs.declared.labels.Label.{Label}
use Rattle.just_justfile.specs.Closed.{StandsIn, itself, inside}
use Rattle.just_justfile.specs.Module as naming
use Rattle.just_justfile.specs.declared.justfile.Justfile.{Justfile, out-Justfile}
use Rattle.just_module_variables.specs.Documented.{AreDocumented}
use Rattle.just_module_recipes.specs.Completing.{Completion}
use Rattle.just_module_recipes.specs.Linked.{AreLinked}
use Rattle.just_names.specs.declared.name.Namepath.{Namepath}
use Rattle.just_names.specs.declared.number.Number.{Number}
use Rattle.just_module_headers.specs.Reading.{Reading, Submodule, declared, items_in, submodules_of}
use Rattle.just_compiled.specs.Labelled.{by_name, held_by_name, label_in}
use Rattle.just_compiled.specs.Justfiles.{AreCompiled, Built, IsCompiled, Made, none, one, recipes_of_all}
use Rattle.just_module_tree.specs.Modules.{Forest, HasModule, Module, after_it, first, in_it, path_of}
use Rattle.just_module_tree.proofs.ModulePlaces.{nobody}

-- names that differ: the first is not among the others, which differ too
pub head_differs : (n : Text) (ns : List Text) → AreDifferent (n ∷ ns) → (m : Text) → In m ns → n ≢ m
head_differs n ns different m i same =
    let c = contained m ns i in
    different 0 (suc c.0) (omega arith) (omega (arith, c.1)) (same ∙ sym c.2 ∙ get_or_default ns c.0 m [] c.1)

pub tail_differs : (n : Text) (ns : List Text) → AreDifferent (n ∷ ns) → AreDifferent ns
tail_differs n ns different i j l h = different (suc i) (suc j) (omega (arith, l)) (omega (arith, h))

-- what is found under a name is among the values
found_in : {V : Type 0} (name : Text) (es : List (Text × V)) (v : V) → find name es ≡ Some v → In v (values_of es)
found_in name [] v e = cc
found_in name (x ∷ es) v e = elim (cases_Bool (bytes_eq name x.0)) [
  | inl h ↦ inl (let same : x.1 ≡ v = some_same (rw h at e) in sym same)
  | inr h ↦ inr (found_in name es v (rw h at e))
]

-- modules of different names are all held by their names
others_held : (held : List (Text × Justfile)) (js : List Justfile) (name : Text) → ((n : Text) → In n (map naming.module_name js) → n ≢ name) → find name (held_by_name held js) ≡ find name held
others_held held [] name apart = refl
others_held held (j ∷ js) name apart =
    others_held (put (naming.module_name j) j held) js name (λ n i. apart n (inr i)) ∙ find_put name (naming.module_name j) j held
    ∙ elim (cases_Bool (bytes_eq name (naming.module_name j))) [
      | inl h ↦ absurd (apart (naming.module_name j) (inl refl) (sym ((bytes_eq-Decides name (naming.module_name j)).0 h)))
      | inr h ↦ rw h refl
    ]

all_held : (held : List (Text × Justfile)) (js : List Justfile) → AreDifferent (map naming.module_name js) → (j : Justfile) → In j js → find (naming.module_name j) (held_by_name held js) ≡ Some j
all_held held [] different j i = absurd i
all_held held (k ∷ js) different j (inl e) =
    let name = naming.module_name k in
    subst (λ (x : Justfile). find (naming.module_name x) (held_by_name (put name k held) js) ≡ Some x) (sym e)
    (others_held (put name k held) js name (λ n i same. head_differs name (map naming.module_name js) different n i (sym same)) ∙ find_put name name k held ∙ rw ((bytes_eq-Decides name name).1 refl) refl)
all_held held (k ∷ js) different j (inr i) = all_held (put (naming.module_name k) k held) js (tail_differs (naming.module_name k) (map naming.module_name js) different) j i

pub each_named : (js : List Justfile) → AreDifferent (map naming.module_name js) → (j : Justfile) → In j js → In j (by_name js)
each_named js different j i = found_in (naming.module_name j) (held_by_name [] js) j (all_held [] js different j i)

-- evaluated labels have the names that are said
documented_names : (value : Expression → Option (List Text)) (said made : List Label) → AreDocumented value said made → map (λ (l : Label). text_if_named l.name) made ≡ map (λ (l : Label). text_if_named l.name) said
documented_names value [] made is = ap (map (λ (l : Label). text_if_named l.name)) is
documented_names value (l ∷ said) made (x, rest, are, is, more) =
    ap (map (λ (l : Label). text_if_named l.name)) are ∙ (λ i. text_if_named (is.name i) ∷ documented_names value said rest more i)

names_of_labels : (js : List Justfile) → map (λ (l : Label). text_if_named l.name) (map label_in js) ≡ map naming.module_name js
names_of_labels [] = refl
names_of_labels (j ∷ js) = ap (λ ns. naming.module_name j ∷ ns) (names_of_labels js)

labels_of_modules : (subs : List Submodule) → map (λ (l : Label). text_if_named l.name) (map (λ (s : Submodule). s.label) subs) ≡ map (λ (s : Submodule). text_if_named s.label.name) subs
labels_of_modules [] = refl
labels_of_modules (s ∷ subs) = ap (λ ns. text_if_named s.label.name ∷ ns) (labels_of_modules subs)

-- what declares a module says its name
declared_name : (path : Modulepath) (i : Item) (s : Submodule) → In s (declared path i) → s.label.name ≡ Some s.name
declared_name path (item.Module name relative None attributes doc optional) s h = absurd h
declared_name path (item.Module name relative (Some file) attributes doc optional) s (inl e) = ap (λ (x : Submodule). x.label.name) e ∙ sym (ap (λ (x : Submodule). Some x.name) e)
declared_name path (item.Module name relative (Some file) attributes doc optional) s (inr h) = absurd h
declared_name path _ s h = absurd h

pub declared_names : (R : Reading) (files : List AstKey) (s : Submodule) → In s (flat_map (submodules_of R) files) → s.label.name ≡ Some s.name
declared_names R files s i =
    let k = from_flat (submodules_of R) s files i in
    let x = from_flat (declared k.0.0) s (items_in (R k.0)) k.2 in
    declared_name k.0.0 x.0 s x.2

pub submodule_names : (subs : List Submodule) → ((s : Submodule) → In s subs → s.label.name ≡ Some s.name) → map (λ (s : Submodule). text_if_named s.label.name) subs ≡ texts_of_names (map (λ (s : Submodule). s.name) subs)
submodule_names [] named = refl
submodule_names (s ∷ subs) named = λ i. text_if_named (named s (inl refl) i) ∷ submodule_names subs (λ x h. named x (inr h)) i

-- the modules in one have the names that it declares
pub inner_names : (value : Expression → Option (List Text)) (subs : List Submodule) (inner : List Justfile) → AreDocumented value (map (λ (s : Submodule). s.label) subs) (map label_in inner)
    → map naming.module_name inner ≡ map (λ (s : Submodule). text_if_named s.label.name) subs
inner_names value subs inner documented = sym (names_of_labels inner) ∙ documented_names value (map (λ (s : Submodule). s.label) subs) (map label_in inner) documented ∙ labels_of_modules subs

-- a recipe that is linked at a path has that path
pub made_path : {Stands : Text → Type 0} {HasNumber : Namepath → Number → Type 0} {completed : Completion} {lists : Bool} {all : List (Recipe Dependency)} {sources : List (Recipe UnresolvedDependency)} {path : Modulepath} {added : List (Recipe Dependency)}
    → AreLinked Stands HasNumber completed lists all sources path added → (r : Recipe Dependency) → In r added → r.module_path ≡ Some path
made_path {added = added} linked r i = (linked.only r (contained r added i)).1.made_of.resolved.module_path

module _ (given : Given) (asts : AstKey → Option Ast) (paths : (k : AstKey) (a : Ast) → asts k ≡ Some a → a.module_path ≡ k.0) (loaded : List Text) (built : List Built) where
  -- the justfile of a module of a forest, which adds what is built of it, stands in one of those that the forest is compiled to
  pub record Standing (js : List Justfile) (m : Module) : Type 0 where
    pub top : Justfile
    pub among : In top js
    pub it : Justfile
    pub stands : StandsIn top it
    pub path : (out-Justfile it).module_path ≡ path_of m
    pub made : Made
    pub said : Contains built (m.heading.key, made)
    pub below : Forest
    pub inner : List Justfile
    pub compiled : IsCompiled given asts loaded (recipes_of_all built) m below inner made it

  pub standing : {f : Forest} {js : List Justfile} → AreCompiled given asts loaded built f js → {m : Module} {below : Forest} → HasModule f m below → Standing js m
  standing none has = absurd (nobody has refl)
  standing (one {m = x} {inside = within} {inner = inner} {j = j} made there below is aliased after) first = record {
    top = j;
    among = inl refl;
    it = j;
    stands = itself;
    path = is.fields.module_path ∙ paths x.heading.key is.own is.own_said;
    made = made;
    said = there;
    below = within;
    inner = inner;
    compiled = is;
  }
  standing (one {m = x} {inner = inner} {j = j} made there below is aliased after) (in_it has) =
      let s = standing below has in
      let there : In s.top (out-Justfile j).modules = subst (In s.top) (sym is.modules) (each_named inner is.different s.top s.among) in
      record { top = j; among = inl refl; it = s.it; stands = inside (contained s.top (out-Justfile j).modules there) s.stands; path = s.path; made = s.made; said = s.said; below = s.below; inner = s.inner; compiled = s.compiled }
  standing (one made there below is aliased after) (after_it has) =
      let s = standing after has in
      record { top = s.top; among = inr s.among; it = s.it; stands = s.stands; path = s.path; made = s.made; said = s.said; below = s.below; inner = s.inner; compiled = s.compiled }
