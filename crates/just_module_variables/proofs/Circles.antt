-- Circles of places and circles of names.
use Rattle.std.proofs.Common.{◌≡◌, ℕ, zero, suc, ◌+◌, ◌-◌, ◌<◌, Bool, List, [], length, map, get_or, Some, slice_index, sym, ◌∙◌, ap, subst, arith, inl, inr, add-one}
use Rattle.std.specs.Option.{is_some}
use Rattle.std.specs.declared.alloc.Global.{Global}
use Rattle.std.specs.declared.vec.Vec.{Vec}
use Rattle.std.proofs.lemmas.Bool.{cases_lt}
use Rattle.std.proofs.lemmas.List.{get_or-map, get_or_default, length-map}
use Rattle.std.proofs.lemmas.Map.Entries.{length-keys_of}
use Rattle.just_errors.specs.Causes.{Broken}
use Rattle.just_errors.specs.declared.compile_error.CompileErrorKind.TheVariants as kind
use Rattle.just_graph.specs.Graph.{HasEdge}
use Rattle.just_graph.specs.Steps.{IsCircle, Leads, by_step}
use Rattle.just_graph.proofs.Walks.{then_step}
use Rattle.just_names.specs.Index.{AreDifferent, name_at}
use Rattle.just_names.specs.Texts.{Text}
use Rattle.just_names.specs.Token.{Place}
use Rattle.just_ast_definitions.specs.declared.assignment.Assignment.{Assignment}
use Rattle.just_table.specs.Entries.{find}
use Rattle.just_graph_order.specs.Through as graph
use Rattle.just_parts.specs.Known.{Known}
use Rattle.just_parts.specs.Misnaming.{Expressions, IsCircleOf, circular_variables}
use Rattle.just_parts.specs.Reading.{ReadsOn}
use Rattle.just_module_variables.specs.loops.Steps.{AreNodeRows, IsCircleAt, functions_of, variable_names_at, rows_of, solid_of, variables_of}
use Rattle.just_module_variables.proofs.Between.{from_reads, place_of, reads_variable, to_reads}
use Rattle.just_module_variables.proofs.Edges.{solid_inside}

module _ (m : Known) (variables : AreDifferent (variables_of m)) (functions : AreDifferent (functions_of m)) (g : List (Vec ℕ Global)) (rows : AreNodeRows m (rows_of g)) where
  -- what reads is a variable
  reader_there : (from to : Text) → ReadsOn m from to → (a : ℕ) × (a < length m.assignments) × (name_at (variables_of m) a ≡ from)
  reader_there from to r = place_of m variables functions from (ap is_some r.is)

  read_there : (from to : Text) → ReadsOn m from to → (a : ℕ) × (a < length m.assignments) × (name_at (variables_of m) a ≡ to)
  read_there from to r = place_of m variables functions to (reads_variable r.reads)

  step_of : (i j : ℕ) (from to : Text) → i < length m.assignments → name_at (variables_of m) i ≡ from → j < length m.assignments → name_at (variables_of m) j ≡ to → ReadsOn m from to → graph.ReadsThrough (HasEdge g) (solid_of m) i j
  step_of i j from to ki ei kj ej r =
      to_reads m variables functions g rows i j ki kj (subst (λ x. ReadsOn m x (name_at (variables_of m) j)) (sym ei) (subst (ReadsOn m from) (sym ej) r))

  walk_leads : (ns : List Text) → ((k : ℕ) → k + 1 < length ns → ReadsOn m (get_or ns k []) (get_or ns (k + 1) [])) → (k i j : ℕ) → k + 1 < length ns → i < length m.assignments → name_at (variables_of m) i ≡ get_or ns 0 [] → j < length m.assignments → name_at (variables_of m) j ≡ get_or ns (k + 1) [] → Leads (graph.ReadsThrough (HasEdge g) (solid_of m)) i j
  walk_leads ns walk zero i j h ki ei kj ej = by_step (step_of i j _ _ ki ei kj ej (walk zero h))
  walk_leads ns walk (suc k) i j h ki ei kj ej =
      let r : ReadsOn m (get_or ns (suc k) []) (get_or ns (suc k + 1) []) = walk (suc k) h in
      let b = reader_there _ _ r in
      let at : name_at (variables_of m) b.0 ≡ get_or ns (k + 1) [] = b.2 ∙ ap (λ n. get_or ns n []) (sym (add-one k)) in
      then_step (walk_leads ns walk k i b.0 (omega arith) ki ei b.1 at) (step_of b.0 j _ _ b.1 b.2 kj ej r)

  -- a circle of names leads from the place of its first back to it
  pub circle_leads : (variable : Text) (ns : List Text) → IsCircleOf m variable ns → (i : ℕ) × (i < length m.assignments) × Leads (graph.ReadsThrough (HasEdge g) (solid_of m)) i i
  circle_leads variable ns c =
      let i = reader_there _ _ (c.walk 0 (omega (arith, c.steps))) in
      let back : name_at (variables_of m) i.0 ≡ get_or ns ((length ns - 2) + 1) [] = i.2 ∙ (c.begins ∙ (sym c.ends ∙ ap (λ n. get_or ns n []) (omega (arith, c.steps)))) in
      (i.0, i.1, walk_leads ns c.walk (length ns - 2) i.0 i.0 (omega (arith, c.steps)) i.1 i.2 i.1 back)

  module _ (ns : List ℕ) (c : IsCircle (graph.ReadsThrough (HasEdge g) (solid_of m)) ns) where
    member_inside : (k : ℕ) → k < length ns → slice_index ns k < length m.assignments
    member_inside k h = elim (cases_lt (k + 1) (length ns)) [
      | inl l ↦ solid_inside m (slice_index ns k) (c.walk k l).reader
      | inr l ↦
          let first : slice_index ns 0 < length m.assignments = solid_inside m (slice_index ns 0) (c.walk 0 (omega (arith, c.steps))).reader in
          let same : slice_index ns k ≡ slice_index ns 0 = ap (slice_index ns) (omega arith) ∙ sym c.closed in omega arith
    ]

    -- the names at the places of a circle
    pub circle_at : IsCircleAt m ns
    circle_at =
        let name : ℕ → Text = name_at (variables_of m) in
        let long : length (map name ns) ≡ length ns = length-map ns name in
        let at : ((k : ℕ) → k < length ns → get_or (map name ns) k [] ≡ name (slice_index ns k)) = (λ k h. get_or-map name ns k 0 [] h) in
        record {
          inside = λ k d h. subst (λ x. x < length m.assignments) (get_or_default ns k 0 d h) (member_inside k h);
          circle = record {
            steps = omega (arith, c.steps);
            begins = at 0 (omega (arith, c.steps));
            ends = ap (λ n. get_or (map name ns) (n - 1) []) long ∙ (at (length ns - 1) (omega (arith, c.steps)) ∙ ap name (sym c.closed));
            walk = λ k h.
                let l : k + 1 < length ns = omega arith in
                let r = from_reads m variables functions g rows (slice_index ns k) (slice_index ns (k + 1)) (c.walk k l) in
                subst (λ x. ReadsOn m x (get_or (map name ns) (k + 1) [])) (sym (at k (omega arith))) (subst (ReadsOn m (name (slice_index ns k))) (sym (at (k + 1) l)) r);
          };
        }

-- the circle that a search tells, over the rows and the marks that it was handed
pub circle_in : (m : Known) (g edges : List (Vec ℕ Global)) (solid : List Bool) (ns circle : List ℕ) → edges ≡ g → solid ≡ solid_of m → ns ≡ circle → IsCircle (graph.ReadsThrough (HasEdge edges) solid) circle → IsCircle (graph.ReadsThrough (HasEdge g) (solid_of m)) ns
circle_in m g edges solid ns circle eg es en c =
    subst (IsCircle (graph.ReadsThrough (HasEdge g) (solid_of m))) (sym en)
    (subst (λ s. IsCircle (graph.ReadsThrough (HasEdge g) s) circle) es (subst (λ x. IsCircle (graph.ReadsThrough (HasEdge x) solid) circle) eg c))

-- a circle that is told where its first variable is assigned
pub circle_told : (m : Known) (keys : List Text) (circle : List ℕ) (variable : Text) (names : List Text) (a : Assignment) (token : Place) → keys ≡ variables_of m → variable ≡ get_or keys (slice_index circle 0) variable → names ≡ map (name_at keys) circle
    → IsCircleAt m circle → find variable m.assignments ≡ Some a → token ≡ a.name.token
    → Expressions m (Broken token (kind.CircularVariableDependency variable names))
circle_told m keys circle variable names a token are first listed c found told =
    let h : slice_index circle 0 < length m.assignments = c.inside 0 0 (omega (arith, c.circle.steps, length-map circle (name_at (variables_of m)))) in
    let v : variable ≡ name_at (variables_of m) (slice_index circle 0) = first ∙ (ap (λ ks. get_or ks (slice_index circle 0) variable) are
    ∙ get_or_default (variables_of m) (slice_index circle 0) variable [] (omega (arith, length-keys_of m.assignments))) in
    let ns : names ≡ variable_names_at m circle = listed ∙ ap (λ ks. map (name_at ks) circle) are in
    subst (λ p. Expressions m (Broken p (kind.CircularVariableDependency variable names))) (sym told)
    (circular_variables (subst (λ x. IsCircleOf m x names) (sym v) (subst (IsCircleOf m (name_at (variables_of m) (slice_index circle 0))) (sym ns) c.circle)) found)
