-- What variables read is what solid nodes read.
use Rattle.std.proofs.Common.{◌≡◌, ℕ, ◌+◌, ◌<◌, Bool, false, List, get_or, ◌⊎◌, length, Some, sym, ◌∙◌, ap, subst, arith, inl, inr}
use Rattle.std.specs.List.{Contains, slice_get}
use Rattle.std.specs.Option.{IsSome, is_some}
use Rattle.std.specs.declared.alloc.Global.{Global}
use Rattle.std.specs.declared.vec.Vec.{Vec}
use Rattle.std.proofs.lemmas.Bool.{false≢true}
use Rattle.std.proofs.lemmas.Option.{slice_get_within}
use Rattle.std.proofs.lemmas.Map.Entries.{length-keys_of}
use Rattle.just_graph.proofs.Index.{some_same, some_at}
use Rattle.just_graph.specs.Graph.{HasEdge, IsGraph}
use Rattle.just_names.specs.Index.{AreDifferent, name_at}
use Rattle.just_names.specs.Texts.{Text}
use Rattle.just_ast_definitions.specs.declared.assignment.Assignment.{Assignment}
use Rattle.just_ast_expressions.specs.declared.expression.Expression.{Expression}
use Rattle.just_ast_definitions.specs.declared.function_definition.FunctionDefinition.{FunctionDefinition}
use Rattle.just_graph_order.specs.Through.{Passes}
use Rattle.just_graph_order.specs.Through as graph
use Rattle.just_table.specs.Entries.{find}
use Rattle.just_parts.specs.Known.{Known}
use Rattle.just_parts.specs.Reading.{Reads, ReadsOn, at_once, through}
use Rattle.just_parts.specs.Scopes.{Scoped, scoped}
use Rattle.just_parts.specs.loops.Scopes.{body_scoped, value_scoped}
use Rattle.just_module_variables.specs.loops.Steps.{AreNodeRows, functions_of, nodes_of, rows_of, solid_of, variables_of}
use Rattle.just_module_variables.proofs.Edges.{ToFunction, ToVariable, has_function, has_variable, node_at, node_of_function, node_of_variable, nodes_long, passing_function, row_of, solid_inside, solid_variable, targets_are}
use Rattle.just_name_resolution.proofs.Placed.{entry_at, entry_found, found_at, found_there, key_at, the_value}

-- what is read is a variable
pub reads_variable : {m : Known} {hidden : Text → Bool} {e : Expression} {name : Text} → Reads m hidden e name → IsSome (find name m.assignments)
reads_variable (at_once c h s) = s
reads_variable (through n c f r) = reads_variable r

module _ (m : Known) (variables : AreDifferent (variables_of m)) (functions : AreDifferent (functions_of m)) where
  -- the place of a variable
  pub place_of : (name : Text) → IsSome (find name m.assignments) → (a : ℕ) × (a < length m.assignments) × (name_at (variables_of m) a ≡ name)
  place_of name s =
      let v = the_value (find name m.assignments) s in
      let e = entry_found m.assignments name v.0 v.1 in
      let k = key_at m.assignments e.0 (name, v.0) e.1 in
      (e.0, omega (arith, k.0, length-keys_of m.assignments), k.1)

  -- the variable at a place
  pub variable_at : (a : ℕ) → a < length m.assignments → (v : Assignment) × (find (name_at (variables_of m) a) m.assignments ≡ Some v) × (slice_get (nodes_of m) a ≡ Some (value_scoped v))
  variable_at a h =
      let e = some_at m.assignments a h in
      let k = key_at m.assignments a e.0 e.1 in
      (e.0.1, ap (λ n. find n m.assignments) k.1 ∙ entry_at m.assignments variables a e.0.0 e.0.1 e.1, node_of_variable m a e.0.0 e.0.1 e.1)

  module _ (g : List (Vec ℕ Global)) (rows : AreNodeRows m (rows_of g)) where
    inside : (name : Text) (b : ℕ) → rows.variable name ≡ Some b → (b < length m.assignments) × (name_at (variables_of m) b ≡ name)
    inside name b e =
        let f = found_there (variables_of m) rows.variable rows.variables name b e in
        (omega (arith, f.0, length-keys_of m.assignments), f.1)

    to_variable : (a b : ℕ) (s : Scoped) → slice_get (nodes_of m) a ≡ Some s → ToVariable rows.variable s b → HasEdge g a b
    to_variable a b s is t = subst (λ xs. Contains xs b) (sym (row_of m g rows a s is)) (has_variable rows.variable rows.function (length m.assignments) s b t)

    edge_is : (a b : ℕ) (s : Scoped) → slice_get (nodes_of m) a ≡ Some s → HasEdge g a b → ToVariable rows.variable s b ⊎ ToFunction rows.function (length m.assignments) s b
    edge_is a b s is e = targets_are rows.variable rows.function (length m.assignments) s b (subst (λ xs. Contains xs b) (row_of m g rows a s is) e)

    pub to_passes : {hidden : Text → Bool} {e : Expression} {name : Text} → Reads m hidden e name → (a b : ℕ) → slice_get (nodes_of m) a ≡ Some (scoped hidden e) → rows.variable name ≡ Some b → Passes (HasEdge g) (solid_of m) a b
    to_passes {hidden} {e} {name} (at_once c h s) a b is place =
        graph.at_once (to_variable a b (scoped hidden e) is (record { name = name; named = c; open_there = h; place = place }))
    to_passes {hidden} {e} {name} (through {function = function} {f = f} n c found r) a b is place =
        let there = entry_found m.functions function f found in
        let j : ℕ = there.0 in
        let key = key_at m.functions j (function, f) there.1 in
        let at : rows.function function ≡ Some j = subst (λ x. rows.function x ≡ Some j) key.1 (found_at (functions_of m) rows.function functions rows.functions j key.0) in
        let edge : HasEdge g a (length m.assignments + j) = subst (λ xs. Contains xs (length m.assignments + j)) (sym (row_of m g rows a (scoped hidden e) is)) (has_function rows.variable rows.function (length m.assignments) (scoped hidden e) j function n c at) in
        graph.passing edge (passing_function m (length m.assignments + j) (omega arith)) (to_passes r (length m.assignments + j) b (node_of_function m j function f there.1) place)

    -- a function that is called stands at its node
    function_at : (s : Scoped) (b : ℕ) (t : ToFunction rows.function (length m.assignments) s b) → (f : FunctionDefinition) × (find t.name m.functions ≡ Some f) × (slice_get (nodes_of m) b ≡ Some (body_scoped f))
    function_at s b t =
        let there = found_there (functions_of m) rows.function rows.functions t.name t.at t.place in
        let e = some_at m.functions t.at (omega (arith, there.0, length-keys_of m.functions)) in
        let k = key_at m.functions t.at e.0 e.1 in
        let name : t.name ≡ e.0.0 = sym there.1 ∙ k.1 in
        (e.0.1, ap (λ n. find n m.functions) name ∙ entry_at m.functions functions t.at e.0.0 e.0.1 e.1, subst (λ x. slice_get (nodes_of m) x ≡ Some (body_scoped e.0.1)) (sym t.is) (node_of_function m t.at e.0.0 e.0.1 e.1))

    read_at_once : (s : Scoped) (b : ℕ) → b < length m.assignments → ToVariable rows.variable s b ⊎ ToFunction rows.function (length m.assignments) s b → Reads m s.hidden s.expression (name_at (variables_of m) b)
    read_at_once s b h (inl t) =
        let there = inside t.name b t.place in
        let v = variable_at b h in
        subst (Reads m s.hidden s.expression) (sym there.1) (at_once t.named t.open_there (ap is_some (ap (λ n. find n m.assignments) (sym there.1) ∙ v.1)))
    read_at_once s b h (inr t) = absurd (omega (arith, t.is))

    -- what is read through a node that passes is read through a call
    read_through : (s : Scoped) (b : ℕ) (name : Text) → get_or (solid_of m) b false ≡ false → ToVariable rows.variable s b ⊎ ToFunction rows.function (length m.assignments) s b → ((t : Scoped) → slice_get (nodes_of m) b ≡ Some t → Reads m t.hidden t.expression name) → Reads m s.hidden s.expression name
    read_through s b name p (inl t) rest =
        let there = inside t.name b t.place in absurd (false≢true (sym p ∙ solid_variable m b there.0))
    read_through s b name p (inr t) rest =
        let f = function_at s b t in through t.arguments t.called f.1 (rest (body_scoped f.0) f.2)

    pub from_passes : {a b : ℕ} → Passes (HasEdge g) (solid_of m) a b → b < length m.assignments → (s : Scoped) → slice_get (nodes_of m) a ≡ Some s → Reads m s.hidden s.expression (name_at (variables_of m) b)
    from_passes {a} {b} (graph.at_once e) h s is = read_at_once s b h (edge_is a b s is e)
    from_passes {a} {b} (graph.passing {b = mid} e p w) h s is = read_through s mid (name_at (variables_of m) b) p (edge_is a mid s is e) (from_passes w h)

    -- each edge leads to a node
    pub is_graph : IsGraph g
    is_graph a b e =
        let s = node_at m g rows a b e in
        elim (edge_is a b s.0 s.1 e) [
          | inl t ↦ let v = variable_at b (inside t.name b t.place).0 in omega (arith, slice_get_within (nodes_of m) b (value_scoped v.0) v.2, nodes_long m g rows)
          | inr t ↦ let f = function_at s.0 b t in omega (arith, slice_get_within (nodes_of m) b (body_scoped f.0) f.2, nodes_long m g rows)
        ]

    pub to_reads : (a b : ℕ) → a < length m.assignments → b < length m.assignments → ReadsOn m (name_at (variables_of m) a) (name_at (variables_of m) b) → graph.ReadsThrough (HasEdge g) (solid_of m) a b
    to_reads a b ka kb r =
        let v = variable_at a ka in
        let same : r.assigned ≡ v.0 = some_same (sym r.is ∙ v.1) in
        let node : slice_get (nodes_of m) a ≡ Some (value_scoped r.assigned) = v.2 ∙ ap (λ x. Some (value_scoped x)) (sym same) in
        record {
          reader = solid_variable m a ka;
          read = solid_variable m b kb;
          way = to_passes r.reads a b node (found_at (variables_of m) rows.variable variables rows.variables b (omega (arith, length-keys_of m.assignments)));
        }

    pub from_reads : (a b : ℕ) → graph.ReadsThrough (HasEdge g) (solid_of m) a b → ReadsOn m (name_at (variables_of m) a) (name_at (variables_of m) b)
    from_reads a b r =
        let v = variable_at a (solid_inside m a r.reader) in
        record { assigned = v.0; is = v.1; reads = from_passes r.way (solid_inside m b r.read) (value_scoped v.0) v.2 }
