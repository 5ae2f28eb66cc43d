-- The steps of the depth-first search as its loop takes them: the last frame is taken off the path, and put back if an
-- edge is left.
use Rattle.std.proofs.Common.{◌≡◌, ℕ, ◌+◌, ◌<◌, ◌≤◌, Bool, true, false, cond, List, [], ◌∷◌, ◌++◌, length, set, slice_index, refl, sym, ◌∙◌, ap, subst, arith}
use Rattle.std.proofs.lemmas.List.{length_push, map_push}
use Rattle.std.proofs.lemmas.List.Elements.{Contains-get_or}
use Rattle.std.proofs.lemmas.List.Sums.{sum_by-set}
use Rattle.std.specs.List.{Contains}
use Rattle.std.specs.declared.vec.Vec.{Vec}
use Rattle.std.specs.declared.alloc.Global.{Global}
use Rattle.just_graph.specs.Steps.{from_start, from_member}
use Rattle.just_graph.specs.Graph.{targets, HasEdge, IsGraph}
use Rattle.just_graph.specs.Found.{is_seen, unseen}
use Rattle.just_graph_order.specs.loops.Finished.{Finishing}
use Rattle.just_graph_order.specs.loops.Path.{nodes, frame_counts}
use Rattle.just_graph_order.specs.declared.finish_order.Frame.{Frame}
use Rattle.just_graph.proofs.Targets.{target_inside}
use Rattle.just_graph_order.proofs.Inside.{marked_inside}
use Rattle.just_graph.proofs.Pushes.{push_new, each_last}
use Rattle.just_graph_order.proofs.Finishes.{opened, advanced, closed}

module _ (g : List (Vec ℕ Global)) (roots : List ℕ) (s : List Bool) (o : List ℕ) where
  -- a root is put on the path
  pub begun : (root : ℕ) (path : List Frame) → Finishing g roots s [] [] o → root < length g → is_seen s root ≡ false → Contains roots root → path ≡ record { node = root; passed = 0 } ∷ [] → Finishing g roots (set s root true) (nodes path) (frame_counts path) o
  begun root path f inside is_new is_root is_path =
      subst (λ x. Finishing g roots (set s root true) (nodes x) (frame_counts x) o) (sym is_path)
      (opened g roots s [] [] o root f inside is_new (from_start is_root) (λ k h. absurd (omega arith)))

  module _ (path rest : List Frame) (top : Frame) (row : List ℕ) (to : ℕ) (f : Finishing g roots s (nodes path) (frame_counts path) o) (popped : path ≡ rest ++ top ∷ []) where
    at_top : Finishing g roots s (nodes rest ++ top.node ∷ []) (frame_counts rest ++ top.passed ∷ []) o
    at_top =
        subst (λ p. Finishing g roots s p (frame_counts rest ++ top.passed ∷ []) o) (ap nodes popped ∙ map_push (λ (x : Frame). x.node) rest top)
        (subst (λ n. Finishing g roots s (nodes path) n o) (ap frame_counts popped ∙ map_push (λ (x : Frame). x.passed) rest top) f)

    top_seen : is_seen s top.node ≡ true
    top_seen = each_last (λ a. is_seen s a ≡ true) (nodes rest) top.node at_top.path_seen

    pub top_inside : top.node < length g
    top_inside = omega (arith, f.seen_len, marked_inside s top.node top_seen)

    module _ (is_row : row ≡ targets g top.node) (passed : (j : ℕ) → top.passed ≤ j → j < to → is_seen s (slice_index row j) ≡ true) where
      at_next : Finishing g roots s (nodes rest ++ top.node ∷ []) (frame_counts rest ++ to ∷ []) o
      at_next = advanced g roots s (nodes rest) (frame_counts rest) o top.node top.passed to at_top (λ j h l. subst (λ xs. is_seen s (slice_index xs j) ≡ true) is_row (passed j h l))

      -- the next edge leads to a node that isn't seen
      module _ (graph : IsGraph g) (left : to < length row) where
        pub next_inside : slice_index row to < length g
        next_inside = subst (λ xs. slice_index xs to < length g) (sym is_row) (target_inside g top.node to graph (subst (λ xs. to < length xs) is_row left))

        next_edge : HasEdge g top.node (slice_index row to)
        next_edge = subst (λ xs. Contains xs (slice_index row to)) is_row (Contains-get_or row to 0 left)

        last_edge : (k : ℕ) → k + 1 ≡ length (nodes rest ++ top.node ∷ []) → HasEdge g (slice_index (nodes rest ++ top.node ∷ []) k) (slice_index row to)
        last_edge k e = subst (λ a. HasEdge g a (slice_index row to)) (sym (push_new (nodes rest) top.node k (omega (arith, length_push (nodes rest) top.node)))) next_edge

        pub went_down : (back down : List Frame) → back ≡ rest ++ record { node = top.node; passed = to } ∷ [] → down ≡ back ++ record { node = slice_index row to; passed = 0 } ∷ [] → is_seen s (slice_index row to) ≡ false → Finishing g roots (set s (slice_index row to) true) (nodes down) (frame_counts down) o
        went_down back down is_back is_down is_new =
            let v : ℕ = slice_index row to in
            let s' : List Bool = set s v true in
            let below : Frame = record { node = top.node; passed = to } in
            let next : Frame = record { node = v; passed = 0 } in
            let is_nodes : nodes down ≡ nodes rest ++ top.node ∷ [] ++ v ∷ [] =
            ap nodes is_down ∙ (map_push (λ (x : Frame). x.node) back next ∙ ap (λ xs. xs ++ v ∷ []) (ap nodes is_back ∙ map_push (λ (x : Frame). x.node) rest below)) in
            let is_counts : frame_counts down ≡ frame_counts rest ++ to ∷ [] ++ 0 ∷ [] =
            ap frame_counts is_down ∙ (map_push (λ (x : Frame). x.passed) back next ∙ ap (λ xs. xs ++ 0 ∷ []) (ap frame_counts is_back ∙ map_push (λ (x : Frame). x.passed) rest below)) in
            subst (λ p. Finishing g roots s' p (frame_counts down) o) (sym is_nodes)
            (subst (λ n. Finishing g roots s' (nodes rest ++ top.node ∷ [] ++ v ∷ []) n o) (sym is_counts)
            (opened g roots s (nodes rest ++ top.node ∷ []) (frame_counts rest ++ to ∷ []) o v at_next next_inside is_new (from_member (f.reached top.node top_seen) refl next_edge) last_edge))

      -- no edge is left
      pub went_up : (order : List ℕ) → length row ≤ to → order ≡ o ++ top.node ∷ [] → Finishing g roots s (nodes rest) (frame_counts rest) order
      went_up order all is_order =
          subst (Finishing g roots s (nodes rest) (frame_counts rest)) (sym is_order) (closed g roots s (nodes rest) (frame_counts rest) o top.node to at_next
          (λ j h l. absurd (let e : length row ≡ length (targets g top.node) = ap length is_row in omega arith)))

-- a step down makes the loop's measure smaller: one node more is seen, and the path has one frame more
pub fewer_down : (s : List Bool) (v : ℕ) (path rest back down : List Frame) (top over next : Frame) → v < length s → is_seen s v ≡ false → path ≡ rest ++ top ∷ [] → back ≡ rest ++ over ∷ [] → down ≡ back ++ next ∷ [] → unseen (set s v true) + unseen (set s v true) + length down < unseen s + unseen s + length path
fewer_down s v path rest back down top over next in_s is_new is_path is_back is_down =
    let one : ℕ = 1 in
    let weight : cond (is_seen s v) 0 1 ≡ one = ap {B = ℕ} (λ b. cond b 0 1) is_new in
    let a : length path ≡ length rest + 1 = ap length is_path ∙ length_push rest top in
    let b : length back ≡ length rest + 1 = ap length is_back ∙ length_push rest over in
    let c : length down ≡ length back + 1 = ap length is_down ∙ length_push back next in
    omega (arith, sum_by-set (λ b. cond b 0 1) s v true false in_s, weight)
