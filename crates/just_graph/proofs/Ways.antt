-- The way from a root to the last node of the path, and on into a circle.
use Rattle.std.proofs.Common.{◌≡◌, ℕ, ◌<◌, List, [], ◌∷◌, ◌++◌, length, drop, slice_index, sym, ◌∙◌, ap, subst, arith, inl}
use Rattle.std.proofs.lemmas.List.{length_push, map_push}
use Rattle.std.specs.List.{Contains}
use Rattle.std.specs.declared.vec.Vec.{Vec}
use Rattle.std.specs.declared.alloc.Global.{Global}
use Rattle.just_graph.specs.Steps.{ClosesWalk}
use Rattle.just_graph.specs.Graph.{HasEdge}
use Rattle.just_graph.specs.loops.Search.{Searching}
use Rattle.just_graph.specs.loops.Path.{nodes, BeginsAt, IsBackFrom}
use Rattle.just_graph.specs.declared.Frame.{Frame}
use Rattle.just_graph.specs.declared.Mark.{Mark}
use Rattle.just_graph.proofs.Members.{contained, the_one}
use Rattle.just_graph.proofs.Pushes.{push_old, below_push}

begins_push : (ns : List ℕ) (x y root : ℕ) → BeginsAt (ns ++ x ∷ []) root → BeginsAt (ns ++ x ∷ [] ++ y ∷ []) root
begins_push ns x y root b h = let l : 0 < length (ns ++ x ∷ []) = omega (arith, length_push ns x) in push_old (ns ++ x ∷ []) y 0 l ∙ b l

begins_front : (ns : List ℕ) (x root : ℕ) → BeginsAt (ns ++ x ∷ []) root → BeginsAt ns root
begins_front ns x root b h = sym (push_old ns x 0 h) ∙ b (below_push ns x 0 h)

module _ (root : ℕ) (path rest : List Frame) (top : Frame) (popped : path ≡ rest ++ top ∷ []) (begins : BeginsAt (nodes path) root) where
  begins_top : BeginsAt (nodes rest ++ top.node ∷ []) root
  begins_top = subst (λ ns. BeginsAt ns root) (ap nodes popped ∙ map_push (λ f. f.node) rest top) begins

  -- where the last frame is taken off
  pub begins_up : BeginsAt (nodes rest) root
  begins_up = begins_front (nodes rest) top.node root begins_top

  module _ (to : ℕ) (back : List Frame) (is_back : back ≡ rest ++ record { node = top.node; passed = to } ∷ []) where
    back_is : nodes back ≡ nodes rest ++ top.node ∷ []
    back_is = ap nodes is_back ∙ map_push (λ f. f.node) rest (record { node = top.node; passed = to })

    -- where it is put back
    pub begins_back : BeginsAt (nodes back) root
    begins_back = subst (λ ns. BeginsAt ns root) (sym back_is) begins_top

    -- and one more
    pub begins_down : (down : List Frame) (next : Frame) → down ≡ back ++ next ∷ [] → BeginsAt (nodes down) root
    begins_down down next is_down =
        let are : nodes down ≡ nodes rest ++ top.node ∷ [] ++ next.node ∷ [] = ap nodes is_down ∙ (map_push (λ f. f.node) back next ∙ ap (λ ns. ns ++ next.node ∷ []) back_is) in
        subst (λ ns. BeginsAt ns root) (sym are) (begins_push (nodes rest) top.node next.node root begins_top)

-- an edge from the last node of the path back to one of its nodes
pub closes_walk : (g : List (Vec ℕ Global)) (m : List Mark) (root v : ℕ) (ns passed order members : List ℕ) → Searching g m ns passed order → BeginsAt ns root → IsBackFrom ns v members → ClosesWalk (HasEdge g) (root ∷ []) members
closes_walk g m root v ns passed order members s begins (i, inside, is_i, are) =
    let first : root ≡ slice_index ns 0 = sym (begins (omega arith)) in
    record {
      way = ns;
      begins = contained (slice_index ns 0) (root ∷ []) (inl (sym first));
      walk = s.path_walk;
      once = s.path_once;
      place = i;
      inside = inside;
      closes = are ∙ ap (λ x. drop i ns ++ x ∷ []) (sym is_i);
    }

-- a walk from one of the roots is one from the roots
pub closes_among : (R : ℕ → ℕ → Type 0) (root : ℕ) (roots circle : List ℕ) → Contains roots root → ClosesWalk R (root ∷ []) circle → ClosesWalk R roots circle
closes_among R root roots circle listed c = record {
  way = c.way;
  begins = subst (Contains roots) (the_one root (slice_index c.way 0) c.begins) listed;
  walk = c.walk;
  once = c.once;
  place = c.place;
  inside = c.inside;
  closes = c.closes;
}
