-- The modules in a module, by their names and paths.
use Rattle.std.proofs.Common.{◌≡◌, ◌∙◌, List, [], ◌∷◌, map, Option, None, Some, refl, sym, ap, subst, inl, inr}
use Rattle.std.specs.Cmp.Lexicographic.{slice_cmp}
use Rattle.std.specs.Prelude.{flat_map}
use Rattle.std.specs.List.Sorted.{IsStrictlySortedBy}
use Rattle.std.specs.Ordering.{nat_cmp}
use Rattle.std.proofs.lemmas.List.Elements.{All-nil}
use Rattle.just_ast_items.specs.declared.item.Item.TheVariants as item
use Rattle.just_graph.proofs.Mapped.{every_level}
use Rattle.just_graph.proofs.Members.{In, from_flat}
use Rattle.just_table.specs.Entries.{IsKeyed, IsSorted, put, put_all}
use Rattle.just_table.proofs.Shown.{put_keyed}
use Rattle.just_names.specs.Name.{text_if_named, text_of_name}
use Rattle.just_names.specs.Texts.{Text}
use Rattle.just_parts.specs.Asts.{AstKey, same_ast_key}
use Rattle.just_parts.specs.Items.{Ast, Item}
use Rattle.just_parts.specs.Layers.{Given}
use Rattle.just_paths.specs.declared.modulepath.Modulepath.{Modulepath}
use Rattle.just_justfile.specs.Closed.{path_on}
use Rattle.just_justfile.specs.Module as naming
use Rattle.just_justfile.specs.declared.justfile.Justfile.{Justfile, out-Justfile}
use Rattle.just_module_contents.specs.Resolved.{path_to}
use Rattle.just_module_headers.specs.Reading.{Reading, Submodule, declared, imported, imports_of, items_in, submodules_of}
use Rattle.just_module_tree.specs.Modules.{AreModules, Forest, Heading, IsModule, Module, a_module, heading_of, no_module}
use Rattle.just_module_variables.proofs.Substituted.{made_sorted}
use Rattle.just_compiled.specs.Justfiles.{AreCompiled, Built, none, one}
use Rattle.just_compiled.specs.Labelled.{by_name, held_by_name}
use Rattle.just_compiled.proofs.Placing.{declared_names}
use Rattle.just_compiled.proofs.TableValues.{keyed_values}

held_as_put : (held : List (Text × Justfile)) (js : List Justfile) → held_by_name held js ≡ put_all naming.module_name held js
held_as_put held [] = refl
held_as_put held (j ∷ js) = held_as_put (put (naming.module_name j) j held) js

-- each module is held under its name
pub held_keyed : (held : List (Text × Justfile)) (js : List Justfile) → IsKeyed naming.module_name held → IsKeyed naming.module_name (held_by_name held js)
held_keyed held [] keyed = keyed
held_keyed held (j ∷ js) keyed = held_keyed (put (naming.module_name j) j held) js (put_keyed naming.module_name j held keyed)

-- modules by name stand in byte order of their names, each once
pub names_sorted : (js : List Justfile) → IsStrictlySortedBy (slice_cmp nat_cmp) (map naming.module_name (by_name js))
names_sorted js =
    subst (IsStrictlySortedBy (slice_cmp nat_cmp)) (sym (keyed_values naming.module_name (held_by_name [] js) (held_keyed [] js (All-nil (λ (e : Text × Justfile). naming.module_name e.1 ≡ e.0)))))
    (subst IsSorted (sym (held_as_put [] js)) (made_sorted naming.module_name js))

-- an import stays in its module
import_path : (path : Modulepath) (k : AstKey) (i : Item) → In k (imported path i) → k.0 ≡ path
import_path path k (item.Import relative None optional) h = absurd h
import_path path k (item.Import relative (Some file) optional) (inl e) = ap (λ (x : AstKey). x.0) e
import_path path k (item.Import relative (Some file) optional) (inr h) = absurd h
import_path path k _ h = absurd h

-- a module is one name further
declared_path : (path : Modulepath) (s : Submodule) (i : Item) → In s (declared path i) → s.key.0 ≡ path_to path (text_of_name s.name)
declared_path path s (item.Module name relative None attributes doc optional) h = absurd h
declared_path path s (item.Module name relative (Some file) attributes doc optional) (inl e) = ap (λ (x : Submodule). x.key.0) e ∙ ap (λ (x : Submodule). path_to path (text_of_name x.name)) (sym e)
declared_path path s (item.Module name relative (Some file) attributes doc optional) (inr h) = absurd h
declared_path path s _ h = absurd h

same_list : {A : Type 0} (xs : List A) → map (λ x. x) xs ≡ xs
same_list [] = refl
same_list (x ∷ xs) = ap (λ ys. x ∷ ys) (same_list xs)

module _ (R : Reading) where
  -- the files of a module have its path
  pub files_path : (h : Heading) (m : Module) → IsModule R h m → (k : AstKey) → In k m.files → k.0 ≡ h.key.0
  files_path h m is = every_level same_ast_key same_ast_key (λ k. k) (λ k. k.0 ≡ h.key.0) (imports_of R) (imports_of R) (λ a b x y. refl) (λ a x. same_list (imports_of R a))
      (λ a b x i. let f = from_flat (imported a.0) b (items_in (R a)) i in import_path a.0 b f.0 f.2 ∙ x) h.key m.files refl is.files

  -- a module that it declares lies one name further, and has this name
  IsDeclared : Modulepath → Submodule → Type 0
  IsDeclared path s = (s.key.0 ≡ path_to path (text_of_name s.name)) × (s.label.name ≡ Some s.name)

  declared_in : (h : Heading) (m : Module) → IsModule R h m → (s : Submodule) → In s m.modules → IsDeclared h.key.0 s
  unfolding IsDeclared
  declared_in h m is s i =
      let j : In s (flat_map (submodules_of R) m.files) = subst (In s) is.modules i in
      let k = from_flat (submodules_of R) s m.files j in
      let d = from_flat (declared k.0.0) s (items_in (R k.0)) k.2 in
      (declared_path k.0.0 s d.0 d.2 ∙ ap (λ p. path_to p (text_of_name s.name)) (files_path h m is k.0 k.1), declared_names R m.files s j)

  -- justfiles of these paths and names lie one name further
  inner_paths : (path : Modulepath) (subs : List Submodule) (js : List Justfile) → ((s : Submodule) → In s subs → IsDeclared path s)
      → map (λ (j : Justfile). (out-Justfile j).module_path) js ≡ map (λ (s : Submodule). s.key.0) subs → map naming.module_name js ≡ map (λ (s : Submodule). text_if_named s.label.name) subs
      → (j : Justfile) → In j js → (out-Justfile j).module_path ≡ path_on path (naming.module_name j)
  unfolding IsDeclared
  inner_paths path subs [] are paths names j i = absurd i
  inner_paths path [] (k ∷ js) are paths names j i = cc
  inner_paths path (s ∷ subs) (k ∷ js) are paths names j (inl e) =
      let p : (out-Justfile k).module_path ≡ s.key.0 = cc in
      let n : naming.module_name k ≡ text_if_named s.label.name = cc in
      let d = are s (inl refl) in
      let name : naming.module_name j ≡ text_of_name s.name = ap naming.module_name e ∙ n ∙ ap text_if_named d.1 in
      ap (λ (x : Justfile). (out-Justfile x).module_path) e ∙ p ∙ d.0 ∙ ap (path_on path) (sym name)
  inner_paths path (s ∷ subs) (k ∷ js) are paths names j (inr h) =
      let p : map (λ (j : Justfile). (out-Justfile j).module_path) js ≡ map (λ (s : Submodule). s.key.0) subs = cc in
      let n : map naming.module_name js ≡ map (λ (s : Submodule). text_if_named s.label.name) subs = cc in
      inner_paths path subs js (λ x g. are x (inr g)) p n j h

  module _ (given : Given) (asts : AstKey → Option Ast) (paths : (k : AstKey) (a : Ast) → asts k ≡ Some a → a.module_path ≡ k.0) (loaded : List Text) (built : List Built) where
    -- the justfiles of a forest have the paths of its headings
    forest_paths : {hs : List Heading} {f : Forest} {js : List Justfile} → AreModules R hs f → AreCompiled given asts loaded built f js → map (λ (j : Justfile). (out-Justfile j).module_path) js ≡ map (λ (h : Heading). h.key.0) hs
    forest_paths no_module none = refl
    forest_paths (a_module {h = h} {m = m} i inside after) (one made there below is aliased more) =
        λ x. (is.fields.module_path ∙ paths m.heading.key is.own is.own_said ∙ ap (λ (g : Heading). g.key.0) i.heading) x ∷ forest_paths after more x

    headed : (subs : List Submodule) → map (λ (h : Heading). h.key.0) (map heading_of subs) ≡ map (λ (s : Submodule). s.key.0) subs
    headed [] = refl
    headed (s ∷ subs) = ap (λ ps. s.key.0 ∷ ps) (headed subs)

    -- so those in a module lie one name further than it
    pub paths_inside : (h : Heading) (m : Module) → IsModule R h m → {f : Forest} (inner : List Justfile) → AreModules R (map heading_of m.modules) f → AreCompiled given asts loaded built f inner
        → map naming.module_name inner ≡ map (λ (s : Submodule). text_if_named s.label.name) m.modules → (j : Justfile) → In j inner → (out-Justfile j).module_path ≡ path_on h.key.0 (naming.module_name j)
    paths_inside h m is inner are compiled names = inner_paths h.key.0 m.modules inner (declared_in h m is) (forest_paths are compiled ∙ headed m.modules) names
