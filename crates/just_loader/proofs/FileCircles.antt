-- Steps of a scan and edges of files.
use Rattle.std.proofs.Common.{◌≡◌, ℕ, zero, suc, ◌+◌, ◌-◌, ◌<◌, ◌≤◌, Bool, true, false, List, [], ◌∷◌, ◌++◌, map, take, drop, length, get_or, slice_index, Option, None, Some, refl, sym, ap, subst, ◌∙◌, arith, inl, inr}
use Rattle.std.specs.Prelude.{if◌then◌else◌, unwrap_or}
use Rattle.std.specs.List.{Contains, slice_get}
use Rattle.std.specs.declared.vec.Vec.{Vec}
use Rattle.std.specs.declared.alloc.Global.{Global}
use Rattle.std.proofs.lemmas.Bool.{cases_lt}
use Rattle.std.proofs.lemmas.List.{length-map, length-drop, length_push, get_or-drop, get_or_default}
use Rattle.std.proofs.lemmas.Option.{slice_get_within, get_or_from_slice_get}
use Rattle.just_graph.specs.Building.{targets_past}
use Rattle.just_graph.specs.Graph.{HasEdge}
use Rattle.just_graph.specs.Steps.{Leads, by_step, by_steps, in_take, IsWalk, IsOnce, IsCircle, circle_by, ClosesWalk, closes_by}
use Rattle.just_graph.specs.Unfolding.{HasStep, AreEdges, IsOrdered, steps}
use Rattle.just_graph.specs.declared.unfolding.Step.{Step}
use Rattle.just_graph.proofs.Members.{In, in_cases, the_one, contained, is_in, in_left, in_last, in_map, from_map, in_flat, from_flat}
use Rattle.just_graph.proofs.Pushes.{push_old, push_new}
use Rattle.just_graph.proofs.Trails.{of_reverse}
use Rattle.just_paths.specs.Clean.{folder_of}
use Rattle.just_names.specs.Name.{text_of_name}
use Rattle.just_parts.specs.Items.{Item}
use Rattle.just_parts.specs.Bare.{bare_item}
use Rattle.just_ast_items.specs.Edge.{Edge, Imports, Declares, edge_of}
use Rattle.just_loader.specs.FileCircles.{ChainTo, at_root, and_next, BreaksCircle, leads_back}
use Rattle.just_loader.specs.loops.FileCircles.{HasRows, FileLeadsOn, by_edge, by_edges}
use Rattle.just_loader.specs.Keys.{FileStep, end_of_link, items_at, steps_by, steps_of_file}
use Rattle.just_loader.specs.loops.Placed.{scanned_path, text_step}
use Rattle.just_loader.specs.Links.{Link, Unlinked, To, AtFault, edge_link}
use Rattle.just_loader.specs.Reached.{World, IsReachedFile, from_root, from_file, items_of_file, link, FileLeadsTo}
use Rattle.just_errors.specs.Causes.{LeadsBack}
use Rattle.just_loader.specs.loops.Scanned.{IsScan, paths_in}
use Rattle.just_loader.specs.declared.scan_result.Scan.{Scan}
use Rattle.just_loader.specs.declared.scan_result.ScannedFile.{ScannedFile}
use Rattle.just_loader.proofs.FileRows.{at, said, steps_here}
use Rattle.just_loader.proofs.Numberings.{got, read_at, some_same}

no_link : (b : Bool) (path : List ℕ) → (if b then Unlinked else Unlinked) ≡ To path → ⊥
no_link true path e = cc
no_link false path e = cc

-- an item that leads to a file has a step there
step_of_link : (w : World) (folder path : List ℕ) (b : Bool) (e : Option Edge) → (if b then edge_link w.files w.home folder e else Unlinked) ≡ To path → (s : FileStep) × In s (steps_by e (To path)) × (s.to ≡ path)
step_of_link w folder path b (Some (Imports literal optional)) l = (record { to = path; offset = literal.token.offset; enters = None; name = None }, inl refl, refl)
step_of_link w folder path b (Some (Declares name literal optional)) l = (record { to = path; offset = 0; enters = Some (text_of_name name); name = Some name }, inl refl, refl)
step_of_link w folder path b None l = absurd (no_link b path l)

-- and leads where its step does
link_of_end : (l : Link) (path : List ℕ) → In path (end_of_link l) → l ≡ To path
link_of_end Unlinked path h = absurd h
link_of_end (To p) path (inl e) = ap To (sym e)
link_of_end (To p) path (inr h) = absurd h
link_of_end (AtFault c) path h = absurd h

link_of_step : (e : Option Edge) (l : Link) (s : FileStep) → In s (steps_by e l) → l ≡ To s.to
link_of_step (Some (Imports literal optional)) l s h = let p = from_map _ s (end_of_link l) h in link_of_end l p.0 p.1 ∙ ap (λ (x : FileStep). To x.to) (sym p.2)
link_of_step (Some (Declares name literal optional)) l s h = let p = from_map _ s (end_of_link l) h in link_of_end l p.0 p.1 ∙ ap (λ (x : FileStep). To x.to) (sym p.2)
link_of_step None l s h = absurd h

-- a step from a place of the order leads to one
step_in_order : (rows : List (Vec Step Global)) (ordered : IsOrdered rows 0) (a b : ℕ) → Contains ordered.1 a → HasStep rows a b → Contains ordered.1 b
step_in_order rows ordered a b c h =
    let at : slice_index ordered.1 c.0 ≡ a = get_or_default ordered.1 c.0 0 a c.1 ∙ c.2 in
    let before : Contains (take c.0 ordered.1) b = ordered.3.steps_first c.0 b c.1 (subst (λ x. HasStep rows x b) (sym at) h) in
    let j = in_take ordered.1 c.0 b (omega (arith, c.1)) before in
    let inside : j.0 < length ordered.1 = omega (arith, j.1, c.1) in
    (j.0, inside, get_or_default ordered.1 j.0 b 0 inside ∙ j.2)

root_in_order : (rows : List (Vec Step Global)) (ordered : IsOrdered rows 0) → Contains ordered.1 0
root_in_order rows ordered =
    let c = ordered.2 in
    let at : slice_index ordered.0 c.0 ≡ 0 = c.2 in
    subst (Contains ordered.1) at (ordered.3.roots_listed c.0 0 c.1)

-- the edges of a list that is lent are those of the list
pub edges_lent : {rows lent : List (Vec Step Global)} {edges shown : List (Vec ℕ Global)} → lent ≡ rows → shown ≡ edges → AreEdges lent edges → AreEdges rows shown
edges_lent {rows} {lent} {edges} {shown} e f are = subst (λ r. AreEdges r shown) e (subst (AreEdges lent) (sym f) are)

-- an edge is a step
step_of_listed : (rows : List (Vec Step Global)) (edges : List (Vec ℕ Global)) → AreEdges rows edges → (a b : ℕ) → HasEdge edges a b → HasStep rows a b
step_of_listed rows edges are a b h = elim (cases_lt a (length rows)) [
  | inl l ↦ of_reverse b (map (λ (s : Step). s.target) (steps rows a)) (subst (λ row. Contains row b) (are.rows a l) h)
  | inr l ↦ absurd (is_in b [] (subst (λ row. Contains row b) (targets_past edges a (omega (arith, are.count))) h))
]

-- so a circle of edges is one of steps, and closes a walk of steps
pub circle_of_steps : (rows : List (Vec Step Global)) (edges : List (Vec ℕ Global)) (ns : List ℕ) → AreEdges rows edges → IsCircle (HasEdge edges) ns → IsCircle (HasStep rows) ns
circle_of_steps rows edges ns are c = circle_by (step_of_listed rows edges are) ns c

pub way_of_steps : (rows : List (Vec Step Global)) (edges : List (Vec ℕ Global)) (starts shown ns : List ℕ) → AreEdges rows edges → shown ≡ starts → ClosesWalk (HasEdge edges) shown ns → ClosesWalk (HasStep rows) starts ns
way_of_steps rows edges starts shown ns are e c = subst (λ xs. ClosesWalk (HasStep rows) xs ns) e (closes_by (step_of_listed rows edges are) shown ns c)

pub circle_inside : (rows : List (Vec Step Global)) (ns : List ℕ) → ((a b : ℕ) → HasStep rows a b → b < length rows) → IsCircle (HasStep rows) ns → (k : ℕ) → k < length ns → slice_index ns k < length rows
circle_inside rows ns within c zero h =
    let e : slice_index ns 0 ≡ slice_index ns (length ns - 2 + 1) = c.closed ∙ ap (slice_index ns) (omega (arith, c.steps)) in
    let l : slice_index ns (length ns - 2 + 1) < length rows = within _ _ (c.walk (length ns - 2) (omega (arith, c.steps))) in
    omega arith
circle_inside rows ns within c (suc k) h =
    let l : slice_index ns (k + 1) < length rows = within _ _ (c.walk k (omega arith)) in
    let e : slice_index ns (suc k) ≡ slice_index ns (k + 1) = ap (slice_index ns) (omega arith) in
    omega arith

-- a read of the circle is the place of a file
pub read_inside : (scan : Scan) (ns : List ℕ) → HasRows scan → IsCircle (HasStep scan.rows.items) ns → (k x : ℕ) → k < length ns → x ≡ get_or ns k x → x < length scan.files.items
read_inside scan ns has c k x h is =
    let at : x ≡ slice_index ns k = is ∙ get_or_default ns k x 0 h in
    let l : slice_index ns k < length scan.rows.items = circle_inside scan.rows.items ns has.within c k h in
    omega (arith, has.count)

module _ (w : World) (scan : Scan) (is : IsScan w scan) where
  abbrev paths : List (List ℕ)
  paths = paths_in scan.files.items

  abbrev rows : List (Vec Step Global)
  rows = scan.rows.items

  abbrev steps_in : List ℕ → Item → List FileStep
  steps_in p i = steps_by (edge_of i) (link w (folder_of p) i)

  inside : (a : ℕ) (p : List ℕ) → slice_get paths a ≡ Some p → a < length scan.files.items
  inside a p e = omega (arith, slice_get_within paths a p e, length-map scan.files.items (λ (f : ScannedFile). f.path))

  file_is : (a : ℕ) (p : List ℕ) → slice_get paths a ≡ Some p → scanned_path scan a ≡ p
  file_is a p e = get_or_from_slice_get paths a p [] e

  -- a step leads from file to file
  edge_of_step : (a b : ℕ) (p q : List ℕ) → slice_get paths a ≡ Some p → slice_get paths b ≡ Some q → HasStep rows a b → FileLeadsTo w p q
  edge_of_step a b p q from to h =
      let s = from_map (λ (s : Step). s.target) b (steps rows a) (is_in b (map (λ (s : Step). s.target) (steps rows a)) h) in
      let x = at w scan is a (inside a p from) in let f = scanned_path scan a in
      let i = from_flat (steps_in f) (text_step scan s.0) (items_at w f) (subst (In (text_step scan s.0)) (steps_here w scan is a (inside a p from)) (in_map (text_step scan) s.0 (steps rows a) s.1)) in
      let edge : FileLeadsTo w f (scanned_path scan s.0.target) = record {
        item = i.0;
        has = (x.scanned.items, ap (items_of_file w) (sym x.path_at) ∙ x.scanned.parsed, contained i.0 x.scanned.items (subst (In i.0) (said w scan is a x) i.1));
        leads = link_of_step (edge_of i.0) (link w (folder_of f) i.0) (text_step scan s.0) i.2;
      } in
      subst (λ f. FileLeadsTo w f q) (file_is a p from) (subst (FileLeadsTo w f) (ap (scanned_path scan) (sym s.2) ∙ file_is b q to) edge)

  -- an edge of a file that is there is a step
  step_of_edge : (a : ℕ) (p q : List ℕ) → slice_get paths a ≡ Some p → FileLeadsTo w p q → (b : ℕ) × (slice_get paths b ≡ Some q) × HasStep rows a b
  step_of_edge a p q from l =
      let t = step_of_link w (folder_of p) q (w.answers.enabled (bare_item l.item)) (edge_of l.item) l.leads in
      let listed : In l.item (items_at w p) = subst (λ o. In l.item (unwrap_or o [])) (sym l.has.1) (is_in l.item l.has.0 l.has.2) in
      let there : In t.0 (steps_of_file w p) = in_flat (steps_in p) t.0 l.item (items_at w p) listed (subst (λ k. In t.0 (steps_by (edge_of l.item) k)) (sym l.leads) t.1) in
      let s = from_map (text_step scan) t.0 (steps rows a) (subst (In t.0) (sym (steps_here w scan is a (inside a p from) ∙ ap (steps_of_file w) (file_is a p from))) there) in
      let step : HasStep rows a s.0.target = contained s.0.target (map (λ (s : Step). s.target) (steps rows a)) (in_map (λ (s : Step). s.target) s.0 (steps rows a) s.1) in
      let to = at w scan is s.0.target (omega (arith, is.count, is.within a s.0.target step)) in
      (s.0.target, to.path_is ∙ ap Some (ap (λ (x : FileStep). x.to) (sym s.2) ∙ t.2), step)

  pub leads_by_steps : (a : ℕ) (p q : List ℕ) → slice_get paths a ≡ Some p → FileLeadsOn w p q → (b : ℕ) × (slice_get paths b ≡ Some q) × Leads (HasStep rows) a b
  leads_by_steps a _ _ at (by_edge {f} {g} l) = let s = step_of_edge a f g at l in (s.0, s.1, by_step s.2)
  leads_by_steps a _ _ at (by_edges {f} {g} {h} l m) =
      let s = step_of_edge a f g at l in
      let r = leads_by_steps s.0 g h s.1 m in
      (r.0, r.1, by_steps s.2 r.2)

  module _ (ordered : IsOrdered rows 0) where
    -- a file that is reached is in the order
    pub place_in_order : (p : List ℕ) → IsReachedFile w p → (a : ℕ) × (slice_get paths a ≡ Some p) × Contains ordered.1 a
    place_in_order _ from_root = (0, is.root, root_in_order rows ordered)
    place_in_order _ (from_file {f} {g} r l) =
        let p = place_in_order f r in
        let s = step_of_edge p.0 f g p.1 l in
        (s.0, s.1, step_in_order rows ordered p.0 s.0 p.2 s.2)

    pub none_leads_back : (f : List ℕ) → IsReachedFile w f → FileLeadsOn w f f → ⊥
    none_leads_back f r l =
        let p = place_in_order f r in
        let s = leads_by_steps p.0 f f p.1 l in
        ordered.3.no_circle p.0 p.2 (subst (Leads (HasStep rows) p.0) (is.once s.0 p.0 f s.1 p.1) s.2)

  -- a walk of places from the root, none twice
  module _ (way : List ℕ) (begins : slice_index way 0 ≡ 0) (walk : IsWalk (HasStep rows) way) (once : IsOnce way) where
    place_inside : (k : ℕ) → k < length way → slice_index way k < length paths
    place_inside zero h = omega (arith, begins, slice_get_within paths 0 w.root is.root)
    place_inside (suc k) h =
        let l : slice_index way (k + 1) < length rows = is.within _ _ (walk k (omega arith)) in
        let e : slice_index way (suc k) ≡ slice_index way (k + 1) = ap (slice_index way) (omega arith) in
        omega (arith, is.count, length-map scan.files.items (λ (f : ScannedFile). f.path))

    -- a chain to p that has just the files at the first places of the walk
    record IsAlong (k : ℕ) (p : List ℕ) (files : List (List ℕ)) : Type 0 where
      chain : ChainTo w files p
      placed : (g : List ℕ) → In g files → (j : ℕ) × (j ≤ k) × (slice_get paths (slice_index way j) ≡ Some g)
      has : (j : ℕ) (g : List ℕ) → j ≤ k → slice_get paths (slice_index way j) ≡ Some g → In g files
      reached : IsReachedFile w p

    chain_along : (k : ℕ) (p : List ℕ) → k < length way → slice_get paths (slice_index way k) ≡ Some p → (files : List (List ℕ)) × IsAlong k p files
    chain_along zero p h to =
        let first : slice_get paths (slice_index way 0) ≡ Some w.root = ap (slice_get paths) begins ∙ is.root in
        let here : IsAlong 0 w.root (w.root ∷ []) = record {
          chain = at_root;
          placed = λ g i. elim i [ inl e ↦ (0, omega arith, first ∙ ap Some (sym e)) | inr none ↦ absurd none ];
          has = λ j g l at. let e : j ≡ 0 = omega arith in inl (some_same (sym at ∙ ap (λ n. slice_get paths (slice_index way n)) e ∙ first));
          reached = from_root;
        } in
        (w.root ∷ [], subst (λ q. IsAlong 0 q (w.root ∷ [])) (some_same (sym first ∙ to)) here)
    chain_along (suc k) p h to =
        let before = read_at paths (slice_index way k) (place_inside k (omega arith)) in
        let along = chain_along k before.0 (omega arith) before.1 in
        let files : List (List ℕ) = along.0 in let r = along.1 in
        let step : HasStep rows (slice_index way k) (slice_index way (suc k)) = subst (λ n. HasStep rows (slice_index way k) (slice_index way n)) (omega arith) (walk k (omega arith)) in
        let l : FileLeadsTo w before.0 p = edge_of_step (slice_index way k) (slice_index way (suc k)) before.0 p before.1 to step in
        let new : Contains files p → ⊥ = λ c. let j = r.placed p (is_in p files c) in once j.0 (suc k) (omega (arith, j.1)) h (is.once (slice_index way j.0) (slice_index way (suc k)) p j.2 to) in (
          files ++ p ∷ [],
          record {
            chain = and_next r.chain l new;
            placed = λ g i. elim (in_cases g files (p ∷ []) i) [
              | inl a ↦ let j = r.placed g a in (j.0, omega (arith, j.1), j.2)
              | inr (inl e) ↦ (suc k, omega arith, to ∙ ap Some (sym e))
              | inr (inr none) ↦ absurd none
            ];
            has = λ j g b at. elim (cases_lt j (suc k)) [
              | inl a ↦ in_left g files (p ∷ []) (r.has j g (omega arith) at)
              | inr a ↦
                  let e : j ≡ suc k = omega arith in
                  let same : p ≡ g = some_same (sym to ∙ ap (λ n. slice_get paths (slice_index way n)) (sym e) ∙ at) in
                  subst (λ x. In x (files ++ p ∷ [])) same (in_last p files)
            ];
            reached = from_file r.reached l;
          },
        )

  module _ (ns : List ℕ) (c : IsCircle (HasStep rows) ns) (closed : ClosesWalk (HasStep rows) (0 ∷ []) ns) where
    -- the files at the last two places of the circle
    pub names_circle : (n a b : ℕ) (current last : List ℕ) → n ≡ length ns → a ≡ get_or ns (n - 1 - 1) a → b ≡ get_or ns (n - 1) b → slice_get paths a ≡ Some current → slice_get paths b ≡ Some last → BreaksCircle w (LeadsBack current last)
    names_circle n a b current last len is_a is_b at to =
        let way : List ℕ = closed.way in
        let round : List ℕ = drop closed.place way in
        let back : ℕ = slice_index way closed.place in
        let round_len : length round ≡ length way - closed.place = length-drop closed.place way in
        let whole : length ns ≡ length round + 1 = ap length closed.closes ∙ length_push round back in
        let inside : closed.place < length way = closed.inside in
        let a_is : a ≡ slice_index ns (n - 1 - 1) = is_a ∙ get_or_default ns (n - 1 - 1) a 0 (omega arith) in
        let b_is : b ≡ slice_index ns (n - 1) = is_b ∙ get_or_default ns (n - 1) b 0 (omega arith) in
        let a_last : a ≡ slice_index way (length way - 1) =
        a_is ∙ ap (λ xs. slice_index xs (n - 1 - 1)) closed.closes ∙ push_old round back (n - 1 - 1) (omega arith) ∙ get_or-drop closed.place way (n - 1 - 1) 0 ∙ ap (slice_index way) (omega arith) in
        let b_back : b ≡ back = b_is ∙ ap (λ xs. slice_index xs (n - 1)) closed.closes ∙ push_new round back (n - 1) (omega arith) in
        let begins : 0 ≡ slice_index way 0 = the_one 0 (slice_index way 0) closed.begins in
        let r = chain_along way (sym begins) closed.walk closed.once (length way - 1) current (omega arith) (ap (slice_get paths) (sym a_last) ∙ at) in
        let has : In last r.0 = r.1.has closed.place last (omega arith) (ap (slice_get paths) (sym b_back) ∙ to) in
        let step : HasStep rows (slice_index ns (n - 1 - 1)) (slice_index ns (n - 1)) = subst (λ m. HasStep rows (slice_index ns (n - 1 - 1)) (slice_index ns m)) (omega (arith, c.steps)) (c.walk (n - 1 - 1) (omega (arith, c.steps))) in
        let edge : HasStep rows a b = subst (λ x. HasStep rows x b) (sym a_is) (subst (HasStep rows (slice_index ns (n - 1 - 1))) (sym b_is) step) in
        leads_back r.0 r.1.reached (edge_of_step a b current last at to edge) r.1.chain (contained last r.0 has)
