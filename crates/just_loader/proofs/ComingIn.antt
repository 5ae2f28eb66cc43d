-- How files come in.
use Rattle.std.proofs.Common.{◌≡◌, ℕ, zero, suc, ◌<◌, List, [], ◌∷◌, ◌++◌, map, take, length, get_or, Option, None, Some, Result, Ok, Err, IfOk, inl, inr, refl, sym, ap, subst, ◌∙◌, arith}
use Rattle.std.specs.List.{All, cons_option, slice_get}
use Rattle.std.specs.Option.{option_and_then, option_map}
use Rattle.std.specs.declared.vec.Vec.{Vec}
use Rattle.std.specs.declared.alloc.Global.{Global}
use Rattle.std.proofs.lemmas.List.{append-nil, length_push, map-append}
use Rattle.std.proofs.lemmas.List.Elements.{All-contains, filter_map-append}
use Rattle.std.proofs.lemmas.Option.{get_or_from_slice_get, slice_get_read, slice_get_within}
use Rattle.just_graph.specs.Unfolding.{Node, AreFirst, Unfolds, nothing, tree, IsLeastDepth, HasStep, child, key, offsets_after, path_after, root_node, steps}
use Rattle.just_graph.specs.Unfolded.{AreLeast, CameFrom, IsUnfolded, Tells, unfolded_key}
use Rattle.just_graph.specs.declared.unfolding.Origin.{Origin}
use Rattle.just_graph.specs.declared.unfolding.Step.{Step}
use Rattle.just_graph.specs.declared.unfolding.Unfolded.{Unfolded}
use Rattle.just_graph.proofs.Preorder.{firsts_in}
use Rattle.just_graph.proofs.Members.{In, contained, is_in, in_cases, in_map}
use Rattle.just_graph.proofs.Walks.{child_of}
use Rattle.just_paths.specs.Clean.{IsClean, folder_of}
use Rattle.just_names.specs.Name.{names_of_path, submodule_path, text_of_name}
use Rattle.just_parts.specs.Syntax.{components_of}
use Rattle.just_errors.specs.declared.error.Error.{Error}
use Rattle.just_names.specs.declared.name.Name.{Name}
use Rattle.just_names.specs.declared.name.Namepath.{Namepath}
use Rattle.just_source.specs.declared.source.Source.{Source}
use Rattle.just_loader.specs.Keys.{FileStep}
use Rattle.just_loader.specs.Loaded.{entered, names_in, names_on, own_after}
use Rattle.just_loader.specs.loops.Placed.{scanned_path, scanned_name, text_step}
use Rattle.just_loader.specs.loops.Loading.{AreNodes, AreUnfolded, CameInSoFar, CameInWorlds, ComesNext, components_after, folder_after}
use Rattle.just_loader.specs.loops.Numbering.{IsNamed}
use Rattle.just_loader.specs.Reached.{World}
use Rattle.just_loader.specs.loops.Scanned.{EntersName, IsScan, paths_in}
use Rattle.just_loader.specs.declared.scan_result.Scan.{Scan}
use Rattle.just_loader.specs.declared.scan_result.ScannedFile.{ScannedFile}
use Rattle.just_loader.proofs.FileKeys.{least_mapped, root_at, to_steps}
use Rattle.just_loader.proofs.FileRows.{known, named_here}
use Rattle.just_loader.proofs.Numberings.{get_cases, got, map_get, none_some, read_at}

-- the file at a place
pub file_is : (files : List ScannedFile) (k : ℕ) (f : ScannedFile) → k < length files → f ≡ get_or files k f → slice_get (paths_in files) k ≡ Some f.path
file_is files k f h is = map_get (λ (x : ScannedFile). x.path) files k f (slice_get_read files (length files) k f refl h is)

pub path_is : (scan : Scan) (k : ℕ) (f : ScannedFile) → k < length scan.files.items → f ≡ get_or scan.files.items k f → f.path ≡ scanned_path scan k
path_is scan k f h is = sym (get_or_from_slice_get (paths_in scan.files.items) k f.path [] (file_is scan.files.items k f h is))

pub path_clean : (scan : Scan) (k : ℕ) (f : ScannedFile) → k < length scan.files.items → f ≡ get_or scan.files.items k f → All IsClean (paths_in scan.files.items) → IsClean f.path
path_clean scan k f h is all = All-contains IsClean (paths_in scan.files.items) f.path all (got (paths_in scan.files.items) k f.path (file_is scan.files.items k f h is))

-- the name at a step's tag
pub name_is : (scan : Scan) (number tag : ℕ) (n : Name) → (name : Name) × IsNamed scan.names.items number tag name → n ≡ get_or scan.names.items tag n → IsNamed scan.names.items number tag n
name_is scan number tag n named is = subst (IsNamed scan.names.items number tag) (sym (is ∙ get_or_from_slice_get scan.names.items tag named.0 n named.1.1)) named.1

-- the components of a submodule
pub module_components : (parent : Option Namepath) (name : Name) → components_of (Some (submodule_path parent name)) ≡ components_of parent ++ text_of_name name ∷ []
module_components None name = refl
module_components (Some path) name = map-append text_of_name (names_of_path path) (name ∷ [])

module_names : (parent : Option Namepath) (name : Name) → names_in (Some (submodule_path parent name)) ≡ names_in parent ++ name ∷ []
module_names None name = refl
module_names (Some path) name = refl

one_name : (s : FileStep) (name : Name) → s.name ≡ Some name → names_on (s ∷ []) ≡ name ∷ []
one_name s name e = ap (λ o. cons_option o []) e

-- what a module's step gives
pub module_next : (scan : Scan) (before : Source) (s : Step) (number : ℕ) (name : Name) (path : List ℕ) (r : Result Source Error) → s.enters ≡ Some number → IsNamed scan.names.items number s.tag name → path ≡ scanned_path scan s.target
    → IfOk r (λ source. source.file_path ≡ before.file_path ++ path ∷ []) → IfOk r (λ source. source.import_offsets ≡ []) → IfOk r (λ source. source.namepath ≡ Some (submodule_path before.namepath name)) → IfOk r (λ source. source.path ≡ path)
    → IfOk r (λ source. source.working_directory ≡ folder_of path) → IfOk r (ComesNext scan before s)
module_next scan before s number name path (Ok source) enters named is chain offsets namepath source_path folder =
    let text : text_of_name name ≡ scanned_name scan number = known scan number (text_of_name name) named.0.0 in
    let own : (text_step scan s).name ≡ Some name = ap (option_and_then (λ (number : ℕ). slice_get scan.names.items s.tag)) enters ∙ named.1 in
    record {
      chain = chain ∙ ap (λ p. before.file_path ++ p ∷ []) is;
      offsets = offsets ∙ sym (ap (offsets_after before.import_offsets s.offset) enters);
      components = ap components_of namepath ∙ module_components before.namepath name ∙ ap (λ t. components_of before.namepath ++ t ∷ []) text ∙ sym (ap (components_after scan (components_of before.namepath)) enters);
      names = ap names_in namepath ∙ module_names before.namepath name ∙ ap (λ ns. names_in before.namepath ++ ns) (sym (one_name (text_step scan s) name own));
      path = source_path ∙ is;
      folder = folder ∙ ap folder_of is ∙ sym (ap (λ o. folder_after before.working_directory o (scanned_path scan s.target)) enters);
    }
module_next scan before s number name path (Err e) enters named is chain offsets namepath source_path folder = tt

no_name : (s : FileStep) → s.name ≡ None → names_on (s ∷ []) ≡ []
no_name s e = ap (λ o. cons_option o []) e

-- what an import's step gives
pub import_next : (scan : Scan) (before : Source) (s : Step) (path : List ℕ) (r : Result Source Error) → s.enters ≡ None → path ≡ scanned_path scan s.target
    → IfOk r (λ source. source.file_path ≡ before.file_path ++ path ∷ []) → IfOk r (λ source. source.import_offsets ≡ before.import_offsets ++ s.offset ∷ []) → IfOk r (λ source. source.namepath ≡ before.namepath) → IfOk r (λ source. source.path ≡ path)
    → IfOk r (λ source. source.working_directory ≡ before.working_directory) → IfOk r (ComesNext scan before s)
import_next scan before s path (Ok source) enters is chain offsets namepath source_path folder =
    let own : (text_step scan s).name ≡ None = ap (option_and_then (λ (number : ℕ). slice_get scan.names.items s.tag)) enters in
    record {
      chain = chain ∙ ap (λ p. before.file_path ++ p ∷ []) is;
      offsets = offsets ∙ sym (ap (offsets_after before.import_offsets s.offset) enters);
      components = ap components_of namepath ∙ sym (ap (components_after scan (components_of before.namepath)) enters);
      names = ap names_in namepath ∙ sym (ap (λ ns. names_in before.namepath ++ ns) (no_name (text_step scan s) own) ∙ append-nil (names_in before.namepath));
      path = source_path ∙ is;
      folder = folder ∙ sym (ap (λ o. folder_after before.working_directory o (scanned_path scan s.target)) enters);
    }
import_next scan before s path (Err e) enters is chain offsets namepath source_path folder = tt

-- a step at the end of a trail
own_last : (own : List ℕ) (ss : List FileStep) (s : FileStep) → own_after own (ss ++ s ∷ []) ≡ entered (own_after own ss) s.enters s.to
own_last own [] s = refl
own_last own (t ∷ ts) s = own_last (entered own t.enters t.to) ts s

names_last : (scan : Scan) (path : List ℕ) (o : Option ℕ) → components_after scan (map (scanned_name scan) path) o ≡ map (scanned_name scan) (path_after path o)
names_last scan path None = refl
names_last scan path (Some number) = sym (map-append (scanned_name scan) path (number ∷ []))

folder_last : (scan : Scan) (own path : List ℕ) (o : Option ℕ) → folder_after (folder_of own) o path ≡ folder_of (entered own (option_map (scanned_name scan) o) path)
folder_last scan own path None = refl
folder_last scan own path (Some number) = refl

pub came_next : (scan : Scan) (n : Node) (s : Step) (before source : Source) (depth : ℕ) → CameInWorlds scan n before → ComesNext scan before s source → IsLeastDepth (steps scan.rows.items) 0 (key (child n s)) depth → CameInWorlds scan (child n s) (record source { file_depth = depth })
came_next scan n s before source depth came next least = λ w is.
    let at = came w is in
    let trail = map (text_step scan) n.trail in
    let last : trail ++ text_step scan s ∷ [] ≡ map (text_step scan) (n.trail ++ s ∷ []) = sym (map-append (text_step scan) n.trail (s ∷ [])) in
    record {
      chain = next.chain ∙ ap (λ c. c ++ scanned_path scan s.target ∷ []) at.chain ∙ ap (λ c. w.root ∷ c) (sym (map-append (λ (x : FileStep). x.to) trail (text_step scan s ∷ [])) ∙ ap (map (λ (x : FileStep). x.to)) last);
      offsets = next.offsets ∙ ap (λ o. offsets_after o s.offset s.enters) at.offsets;
      components = next.components ∙ ap (λ c. components_after scan c s.enters) at.components ∙ names_last scan n.path s.enters;
      names = next.names ∙ ap (λ ns. ns ++ names_on (text_step scan s ∷ [])) at.names ∙ sym (filter_map-append (λ (x : FileStep). x.name) trail (text_step scan s ∷ [])) ∙ ap names_on last;
      path = next.path;
      folder = next.folder ∙ ap (λ f. folder_after f s.enters (scanned_path scan s.target)) at.folder ∙ folder_last scan (own_after w.root trail) (scanned_path scan s.target) s.enters
          ∙ ap folder_of (sym (own_last w.root trail (text_step scan s)) ∙ ap (own_after w.root) last);
      depth = least_mapped w scan is (key (child n s)) depth least;
    }

-- an element that is read is what is there
pub element_is : {A : Type 0} (xs : List A) (k : ℕ) (x y : A) → x ≡ get_or xs k x → slice_get xs k ≡ Some y → x ≡ y
element_is xs k x y is at = is ∙ get_or_from_slice_get xs k y x at

-- what has no trail is where the unfolding begins
rooted : (S : ℕ → List Step) {ns pre : List Node} → Unfolds S ns pre → (x : Node) → In x pre → x.trail ≡ [] → In x ns
rooted S nothing x h e = h
rooted S (tree {n = n} {below = below} {after = after} b a) x h e = elim h [
  | inl is ↦ inl is
  | inr i ↦ elim (in_cases x below after i) [
    | inl j ↦
        let c = child_of S n x (rooted S b x j e) in
        let none_there : length (n.trail ++ c.0 ∷ []) ≡ 0 = ap length (sym (ap (λ (y : Node). y.trail) c.2) ∙ e) in
        absurd (omega (arith, none_there, length_push n.trail c.0))
    | inr j ↦ inr (rooted S a x j e)
  ]
]

pub root_first : (S : ℕ → List Step) (root : ℕ) (ns : List Node) (k : ℕ) (n : Node) → AreFirst S root ns → slice_get ns k ≡ Some n → n.trail ≡ [] → n ≡ root_node root
root_first S root ns k n f at e = elim (firsts_in f.2 n (is_in n ns (got ns k n at))) [
  | inl h ↦ absurd h
  | inr p ↦ elim (rooted S f.1 n p e) [ inl is ↦ is | inr z ↦ absurd z ]
]

pub get_take : {A : Type 0} (xs : List A) (k i : ℕ) (x : A) → slice_get (take k xs) i ≡ Some x → (i < k) × (slice_get xs i ≡ Some x)
get_take [] zero i x e = absurd (none_some e)
get_take [] (suc k) i x e = absurd (none_some e)
get_take (y ∷ xs) zero i x e = absurd (none_some e)
get_take (y ∷ xs) (suc k) zero x e = (omega arith, e)
get_take (y ∷ xs) (suc k) (suc i) x e = let r = get_take xs k i x e in (omega (arith, r.0), r.1)

-- a row is what the steps are
row_steps : (rows : List (Vec Step Global)) (a i : ℕ) (s : Step) → slice_get (steps rows a) i ≡ Some s → (row : Vec Step Global) × (slice_get rows a ≡ Some row) × (slice_get row.items i ≡ Some s)
row_steps [] a i s e = absurd (none_some e)
row_steps (row ∷ rows) zero i s e = (row, refl, e)
row_steps (row ∷ rows) (suc a) i s e = row_steps rows a i s e

-- What is known of the node from which another came.
pub record CameOver (scan : Scan) (us : List Unfolded) (sources : List Source) (n : Node) (o : Origin) : Type 0 where
  pub parent : Node
  pub step : Step
  pub element : Unfolded
  pub before : Source
  pub row : Vec Step Global
  pub place : o.parent < length sources
  pub inside : o.parent < length us
  pub element_at : slice_get us o.parent ≡ Some element
  pub before_at : slice_get sources o.parent ≡ Some before
  pub row_at : slice_get scan.rows.items element.node ≡ Some row
  pub step_at : slice_get row.items o.step ≡ Some step
  pub target : step.target < length scan.files.items
  pub named : EntersName scan.names.items step
  pub came : CameInWorlds scan parent before
  pub shallow : before.file_depth < length us
  pub is_child : n ≡ child parent step

module _ {scan : Scan} {us : List Unfolded} {sources : List Source} {n : Node} {o : Origin} (h : CameOver scan us sources n o) (d : Unfolded) where
  pub element_node : get_or us o.parent d ≡ h.element
  element_node = get_or_from_slice_get us o.parent h.element d h.element_at

  pub row_inside : (get_or us o.parent d).node < length scan.rows.items
  row_inside = omega (arith, slice_get_within scan.rows.items h.element.node h.row h.row_at, ap (λ (x : Unfolded). x.node) element_node)

  module _ (row : Vec Step Global) (is_row : row ≡ get_or scan.rows.items (get_or us o.parent d).node row) where
    pub row_is : row ≡ h.row
    row_is = element_is scan.rows.items h.element.node row h.row (is_row ∙ ap (λ (x : Unfolded). get_or scan.rows.items x.node row) element_node) h.row_at

    pub step_inside : o.step < length row.items
    step_inside = omega (arith, slice_get_within h.row.items o.step h.step h.step_at, ap (λ (x : Vec Step Global). length x.items) row_is)

    pub step_is : (s : Step) → s ≡ get_or row.items o.step s → s ≡ h.step
    step_is s e = element_is h.row.items o.step s h.step (e ∙ ap (λ (x : Vec Step Global). get_or x.items o.step s) row_is) h.step_at

module _ (w : World) (scan : Scan) (is : IsScan w scan) (us : List Unfolded) (are : AreUnfolded scan us) (sources : List Source) (u : Unfolded) (at : slice_get us (length sources) ≡ Some u) where
  module _ (ns : List Node) (nodes : AreNodes scan us ns) (n : Node) (here : slice_get ns (length sources) ≡ Some n) where
    pub told : Tells (steps scan.rows.items) (take (length sources) ns) u n
    told = nodes.1.tells (length sources) u n at here

    key_is : unfolded_key u ≡ key n
    key_is = λ i. record { path = told.path i; node = told.node i }

    pub least : IsLeastDepth (steps scan.rows.items) 0 (key n) u.depth
    least = subst (λ k. IsLeastDepth (steps scan.rows.items) 0 k u.depth) key_is (are.depths (length sources) u at)

    -- the first node is the root's
    pub is_root : u.origin ≡ None → n ≡ root_node 0
    is_root e = root_first (steps scan.rows.items) 0 ns (length sources) n nodes.0 here (subst (CameFrom (steps scan.rows.items) (take (length sources) ns) n) e told.origin)

    pub came_root : (source : Source) (path : List ℕ) → u.origin ≡ None → path ≡ scanned_path scan u.node → source.file_path ≡ path ∷ [] → source.import_offsets ≡ [] → source.namepath ≡ None → source.path ≡ path → source.working_directory ≡ folder_of path
        → CameInWorlds scan n (record source { file_depth = u.depth })
    came_root source path e path_is chain offsets namepath source_path folder =
        let root : n ≡ root_node 0 = is_root e in
        let file : path ≡ scanned_path scan 0 = path_is ∙ ap (scanned_path scan) (told.node ∙ ap (λ (x : Node). x.node) root) in
        let at_root : CameInWorlds scan (root_node 0) (record source { file_depth = u.depth }) = λ v of. record {
          chain = chain ∙ ap (λ p. p ∷ []) (file ∙ root_at v scan of);
          offsets = offsets;
          components = ap components_of namepath;
          names = ap names_in namepath;
          path = source_path ∙ file;
          folder = folder ∙ ap folder_of (file ∙ root_at v scan of);
          depth = least_mapped v scan of (key (root_node 0)) u.depth (subst (λ (x : Node). IsLeastDepth (steps scan.rows.items) 0 (key x) u.depth) root least);
        } in
        subst (λ x. CameInWorlds scan x (record source { file_depth = u.depth })) (sym root) at_root

    pub came_by : (o : Origin) (h : CameOver scan us sources n o) (before source : Source) (s : Step) → before ≡ h.before → s ≡ h.step → ComesNext scan before s source → CameInWorlds scan n (record source { file_depth = u.depth })
    came_by o h before source s is_before is_step next =
        let last : ComesNext scan h.before h.step source = subst (λ (x : Step). ComesNext scan h.before x source) is_step (subst (λ (x : Source). ComesNext scan x s source) is_before next) in
        let deep : IsLeastDepth (steps scan.rows.items) 0 (key (child h.parent h.step)) u.depth = subst (λ (x : Node). IsLeastDepth (steps scan.rows.items) 0 (key x) u.depth) h.is_child least in
        subst (λ x. CameInWorlds scan x (record source { file_depth = u.depth })) (sym h.is_child) (came_next scan h.parent h.step h.before source u.depth h.came last deep)

    module _ (so : CameInSoFar scan ns sources) (o : Origin) (from : u.origin ≡ Some o) where
      pub came_over : CameOver scan us sources n o
      came_over =
          let c = subst (CameFrom (steps scan.rows.items) (take (length sources) ns) n) from told.origin in
          let parent = c.0 in let s = c.1 in
          let p = get_take ns (length sources) o.parent parent c.2 in
          let bound : length sources < length us = slice_get_within us (length sources) u at in
          let inside : o.parent < length us = omega (arith, bound, p.0) in
          let element = read_at us o.parent inside in
          let before = read_at sources o.parent p.0 in
          let tells = nodes.1.tells o.parent element.0 parent element.1 p.1 in
          let row = row_steps scan.rows.items parent.node o.step s c.3 in
          let here : In s (steps scan.rows.items parent.node) = is_in s (steps scan.rows.items parent.node) (got (steps scan.rows.items parent.node) o.step s c.3) in
          let leads : HasStep scan.rows.items parent.node s.target = contained s.target (map (λ (x : Step). x.target) (steps scan.rows.items parent.node)) (in_map (λ (x : Step). x.target) s (steps scan.rows.items parent.node) here) in
          let came : CameInWorlds scan parent before.0 = so o.parent parent before.0 p.1 before.1 in
          let same : unfolded_key element.0 ≡ key parent = λ i. record { path = tells.path i; node = tells.node i } in
          let depth : IsLeastDepth (steps scan.rows.items) 0 (key parent) element.0.depth = subst (λ k. IsLeastDepth (steps scan.rows.items) 0 k element.0.depth) same (are.depths o.parent element.0 element.1) in
          record {
            parent = parent;
            step = s;
            element = element.0;
            before = before.0;
            row = row.0;
            place = p.0;
            inside = inside;
            element_at = element.1;
            before_at = before.1;
            row_at = ap (slice_get scan.rows.items) tells.node ∙ row.1;
            step_at = row.2;
            target = omega (arith, is.within parent.node s.target leads, is.count);
            named = named_here w scan is parent.node s here;
            came = came;
            shallow = omega (arith, (came w is).depth.1 element.0.depth (to_steps w scan is (key parent) element.0.depth depth.0), are.shallow o.parent element.0 element.1);
            is_child = c.4;
          }

  module _ (so : (ns : List Node) → AreNodes scan us ns → CameInSoFar scan ns sources) where
    abbrev firsts : List Node
    firsts = are.unfolded.0

    pub node_here : (n : Node) × (slice_get firsts (length sources) ≡ Some n)
    node_here = read_at firsts (length sources) (omega (arith, are.unfolded.2.count, slice_get_within us (length sources) u at))

    pub over : (o : Origin) → u.origin ≡ Some o → CameOver scan us sources node_here.0 o
    over o from = came_over firsts (are.unfolded.1, are.unfolded.2) node_here.0 node_here.1 (so firsts (are.unfolded.1, are.unfolded.2)) o from

-- what is listed of rows that are lent
pub are_unfolded : (scan : Scan) (rows : List (Vec Step Global)) (us lent : List Unfolded) → rows ≡ scan.rows.items → lent ≡ us → IsUnfolded (steps rows) 0 us → AreLeast (steps rows) 0 us
    → ((k : ℕ) (u : Unfolded) → slice_get us k ≡ Some u → u.depth < length us) → AreUnfolded scan lent
are_unfolded scan rows us lent is_rows is_us listed depths shallow = subst (AreUnfolded scan) (sym is_us) (record {
  unfolded = subst (λ rs. IsUnfolded (steps rs) 0 us) is_rows listed;
  depths = subst (λ rs. AreLeast (steps rs) 0 us) is_rows depths;
  shallow = shallow;
})

-- one more file came in
pub came_none : (scan : Scan) (ns : List Node) (sources : List Source) → sources ≡ [] → CameInSoFar scan ns sources
came_none scan ns sources e k n source at here = absurd (none_some (ap (λ xs. slice_get xs k) (sym e) ∙ here))

pub came_more : (scan : Scan) (ns : List Node) (old new : List Source) (source : Source) → CameInSoFar scan ns old → ((n : Node) → slice_get ns (length old) ≡ Some n → CameInWorlds scan n source) → new ≡ old ++ source ∷ [] → CameInSoFar scan ns new
came_more scan ns old new source so one is k n s at here = elim (get_cases old source s k (ap (λ xs. slice_get xs k) (sym is) ∙ here)) [
  | inl before ↦ so k n s at before
  | inr last ↦ subst (CameInWorlds scan n) last.1 (one n (ap (slice_get ns) (sym last.0) ∙ at))
]
