-- An order of the solid nodes is an evaluation order of the variables.
use Rattle.std.proofs.Common.{◌≡◌, ℕ, ◌<◌, ◌≤◌, Bool, List, [], length, map, get_or, slice_index, take, sym, ◌∙◌, ap, subst, arith}
use Rattle.std.specs.List.{All, Contains}
use Rattle.std.specs.Option.{IsSome, is_some}
use Rattle.std.specs.declared.alloc.Global.{Global}
use Rattle.std.specs.declared.vec.Vec.{Vec}
use Rattle.std.proofs.lemmas.List.{get_or-map, get_or_default, length-map, take-map}
use Rattle.std.proofs.lemmas.Map.Entries.{length-keys_of}
use Rattle.just_errors.specs.Causes.{Cause}
use Rattle.just_graph.proofs.Members.{contained, in_map, is_in}
use Rattle.just_graph.specs.Graph.{HasEdge}
use Rattle.just_graph.specs.Steps.{from_start}
use Rattle.just_names.specs.Index.{AreDifferent, name_at}
use Rattle.just_names.specs.Texts.{Text}
use Rattle.just_table.specs.Entries.{find}
use Rattle.just_graph_order.specs.Through.{IsOrderThrough}
use Rattle.just_parts.specs.Known.{Known}
use Rattle.just_parts.specs.Misnaming.{Expressions, HaveFunctionNames, HaveNames, circular_variables, in_body, in_value}
use Rattle.just_parts.specs.Reading.{IsEvaluationOrder, ReadsOn}
use Rattle.just_module_variables.specs.loops.Steps.{AreNodeRows, IsOrderAt, functions_of, rows_of, solid_of, variables_of}
use Rattle.just_module_variables.proofs.Between.{place_of, reads_variable, to_reads, variable_at}
use Rattle.just_module_variables.proofs.Circles.{circle_leads}
use Rattle.just_module_variables.proofs.Edges.{solid_inside, solid_variable}
use Rattle.just_name_resolution.proofs.Placed.{one_place}

-- a name that places have stands at one of them
named_at : (name : ℕ → Text) (ns : List ℕ) (x : Text) → Contains (map name ns) x → (k : ℕ) × (k < length ns) × (name (slice_index ns k) ≡ x)
named_at name ns x c =
    let h : c.0 < length ns = omega (arith, c.1, length-map ns name) in
    (c.0, h, sym (get_or-map name ns c.0 0 x h) ∙ c.2)

has_name : (name : ℕ → Text) (ns : List ℕ) (a : ℕ) → Contains ns a → Contains (map name ns) (name a)
has_name name ns a c = contained (name a) (map name ns) (in_map name a ns (is_in a ns c))

at_index : (ns : List ℕ) (k : ℕ) → k < length ns → Contains ns (slice_index ns k)
at_index ns k h = (k, h, get_or_default ns k (slice_index ns k) 0 h)

-- the numbers below n, in order
pub roots_all : (roots : List ℕ) (n : ℕ) → length roots ≡ n → ((k : ℕ) → k < n → slice_index roots k ≡ k) → (a : ℕ) → a < n → Contains roots a
roots_all roots n count at a h = subst (Contains roots) (at a h) (at_index roots a (omega arith))

pub roots_inside : (roots : List ℕ) (n limit : ℕ) → length roots ≡ n → ((k : ℕ) → k < n → slice_index roots k ≡ k) → n ≤ limit → All (λ a. a < limit) roots
roots_inside roots n limit count at within = λ k d h.
    let e : get_or roots k d ≡ k = get_or_default roots k d 0 h ∙ at k (omega arith) in omega arith

-- the order that a search answers, over the rows and the marks that it was handed
pub order_in : (m : Known) (g edges : List (Vec ℕ Global)) (solid : List Bool) (roots order : List ℕ) → edges ≡ g → solid ≡ solid_of m → IsOrderThrough (HasEdge edges) solid roots order → IsOrderThrough (HasEdge g) (solid_of m) roots order
order_in m g edges solid roots order eg es o =
    subst (λ s. IsOrderThrough (HasEdge g) s roots order) es (subst (λ x. IsOrderThrough (HasEdge x) solid roots order) eg o)

module _ (m : Known) (variables : AreDifferent (variables_of m)) (functions : AreDifferent (functions_of m)) (g : List (Vec ℕ Global)) (rows : AreNodeRows m (rows_of g)) (roots order : List ℕ) (all_roots : (a : ℕ) → a < length m.assignments → Contains roots a) (o : IsOrderThrough (HasEdge g) (solid_of m) roots order) where
  listed : (a : ℕ) → a < length m.assignments → Contains order a
  listed a h = (o.lists a).1 (solid_variable m a h, from_start (all_roots a h))

  listed_inside : (k : ℕ) → k < length order → slice_index order k < length m.assignments
  listed_inside k h = solid_inside m (slice_index order k) ((o.lists (slice_index order k)).0 (at_index order k h)).0

  is_evaluation_order : IsEvaluationOrder m (map (name_at (variables_of m)) order)
  is_evaluation_order =
      let name : ℕ → Text = name_at (variables_of m) in
      let long : length (map name order) ≡ length order = length-map order name in
      let at : ((k : ℕ) → k < length order → name_at (map name order) k ≡ name (slice_index order k)) = (λ k h. get_or-map name order k 0 [] h) in
      record {
        lists = λ x. (
          λ (c : Contains (map name order) x).
              let n = named_at name order x c in
              let v = variable_at m variables functions (slice_index order n.0) (listed_inside n.0 n.1) in
              ap is_some (ap (λ y. find y m.assignments) (sym n.2) ∙ v.1),
          λ (s : IsSome (find x m.assignments)).
              let a = place_of m variables functions x s in
              subst (Contains (map name order)) a.2 (has_name name order a.0 (listed a.0 a.1)),
        );
        once = λ i j l h same.
            let kj : j < length order = omega arith in
            let ki : i < length order = omega arith in
            let e : name (slice_index order i) ≡ name (slice_index order j) = sym (at i ki) ∙ (same ∙ at j kj) in
            o.once i j l kj (one_place (variables_of m) variables (slice_index order i) (slice_index order j)
            (omega (arith, listed_inside i ki, length-keys_of m.assignments)) (omega (arith, listed_inside j kj, length-keys_of m.assignments)) e);
        reads_first = λ k x h r.
            let kk : k < length order = omega arith in
            let b = place_of m variables functions x (reads_variable r.reads) in
            let step = to_reads m variables functions g rows (slice_index order k) b.0 (listed_inside k kk) b.1
            (subst (λ y. ReadsOn m y (name b.0)) (at k kk) (subst (ReadsOn m (name_at (map name order) k)) (sym b.2) r)) in
            subst (λ xs. Contains xs x) (sym (take-map name k order)) (subst (Contains (map name (take k order))) b.2 (has_name name (take k order) b.0 (o.reads_first k b.0 kk step)));
      }

  pub order_at : IsOrderAt m order
  order_at = record {
    inside = λ k d h. subst (λ x. x < length m.assignments) (get_or_default order k 0 d h) (listed_inside k h);
    order = is_evaluation_order;
  }

  pub expressions_kept : HaveNames m → HaveFunctionNames m → (c : Cause) → Expressions m c → ⊥
  expressions_kept values bodies c (in_value {a = a} there wrong) = values a there c wrong
  expressions_kept values bodies c (in_body {f = f} there wrong) = bodies f there c wrong
  expressions_kept values bodies c (circular_variables {variable} {circle} is found) =
      let back = circle_leads m variables functions g rows variable circle is in
      o.no_circle back.0 (listed back.0 back.1) back.2
