-- The edges of the graph: what a node's expression mentions.
use Rattle.std.proofs.Common.{◌≡◌, ℕ, zero, suc, ◌+◌, ◌-◌, ◌<◌, ◌≤◌, ◌⊎◌, Bool, true, false, List, [], ◌∷◌, length, map, get_or, replicate, Option, None, Some, refl, sym, ◌∙◌, ap, subst, arith, inl, inr, if◌then◌else◌}
use Rattle.std.specs.List.{Contains, slice_get}
use Rattle.std.specs.Map.{values_of}
use Rattle.std.specs.Option.{option_map, option_to_list}
use Rattle.std.specs.declared.alloc.Global.{Global}
use Rattle.std.specs.declared.vec.Vec.{Vec}
use Rattle.std.proofs.lemmas.Bool.{cases_lt, false≢true}
use Rattle.std.proofs.lemmas.List.{get_or-append_right, get_or-replicate, get_or_append_left, get_or_past, length-append, length-map, length-replicate}
use Rattle.std.proofs.lemmas.Map.Entries.{length-values_of}
use Rattle.just_graph.proofs.Index.{map_get, some_same, some_at}
use Rattle.just_graph.proofs.Members.{In, contained, from_flat, in_flat, is_in}
use Rattle.just_graph.specs.Building.{targets_past}
use Rattle.just_graph.specs.Graph.{HasEdge, targets}
use Rattle.just_names.specs.Texts.{Text}
use Rattle.just_ast_definitions.specs.declared.assignment.Assignment.{Assignment}
use Rattle.just_ast_definitions.specs.declared.function_definition.FunctionDefinition.{FunctionDefinition}
use Rattle.just_ast_references.specs.Mentions.{Calls, Mention, Names}
use Rattle.just_parts.specs.Known.{Known}
use Rattle.just_parts.specs.Reading.{mentions}
use Rattle.just_parts.specs.Scopes.{Scoped}
use Rattle.just_parts.specs.loops.Scopes.{body_scoped, value_scoped}
use Rattle.just_module_variables.specs.loops.Steps.{AreNodeRows, nodes_of, rows_of, solid_of, target_of, node_targets}
use Rattle.just_name_resolution.proofs.Placed.{at_left, at_right}

-- it mentions a variable that is found at the place
pub record ToVariable (variable : Text → Option ℕ) (s : Scoped) (b : ℕ) : Type 0 where
  pub name : Text
  pub named : Contains (mentions s.expression) (Names name)
  pub open_there : s.hidden name ≡ false
  pub place : variable name ≡ Some b

-- it calls a function whose node is the place
pub record ToFunction (function : Text → Option ℕ) (count : ℕ) (s : Scoped) (b : ℕ) : Type 0 where
  pub name : Text
  pub arguments : ℕ
  pub called : Contains (mentions s.expression) (Calls name arguments)
  pub at : ℕ
  pub place : function name ≡ Some at
  pub is : b ≡ count + at

in_option : (o : Option ℕ) (b : ℕ) → In b (option_to_list o) → o ≡ Some b
in_option None b h = absurd h
in_option (Some c) b (inl e) = ap Some (sym e)
in_option (Some c) b (inr h) = absurd h

option_in : (o : Option ℕ) (b : ℕ) → o ≡ Some b → In b (option_to_list o)
option_in None b e = cc
option_in (Some c) b e = inl (sym (some_same e))

in_named : (h : Bool) (o : Option ℕ) (b : ℕ) → In b (if h then [] else option_to_list o) → (h ≡ false) × (o ≡ Some b)
in_named true o b i = absurd i
in_named false o b i = (refl, in_option o b i)

named_in : (h : Bool) (o : Option ℕ) (b : ℕ) → h ≡ false → o ≡ Some b → In b (if h then [] else option_to_list o)
named_in true o b e is = absurd (false≢true (sym e))
named_in false o b e is = option_in o b is

in_called : (o : Option ℕ) (count b : ℕ) → In b (option_to_list (option_map (λ place. count + place) o)) → (j : ℕ) × (o ≡ Some j) × (b ≡ count + j)
in_called None count b h = absurd h
in_called (Some j) count b (inl e) = (j, refl, e)
in_called (Some j) count b (inr h) = absurd h

called_in : (o : Option ℕ) (count j : ℕ) → o ≡ Some j → In (count + j) (option_to_list (option_map (λ place. count + place) o))
called_in None count j e = cc
called_in (Some k) count j e = inl (ap (λ n. count + n) (sym (some_same e)))

module _ (variable function : Text → Option ℕ) (count : ℕ) (s : Scoped) where
  target_cases : (x : Mention) (b : ℕ) → Contains (mentions s.expression) x → In b (target_of variable function count s.hidden x) → ToVariable variable s b ⊎ ToFunction function count s b
  target_cases (Names name) b c i =
      let p = in_named (s.hidden name) (variable name) b i in
      inl (record { name = name; named = c; open_there = p.0; place = p.1 })
  target_cases (Calls name arguments) b c i =
      let p = in_called (function name) count b i in
      inr (record { name = name; arguments = arguments; called = c; at = p.0; place = p.1; is = p.2 })

  pub targets_are : (b : ℕ) → Contains (node_targets variable function count s) b → ToVariable variable s b ⊎ ToFunction function count s b
  targets_are b c =
      let ms = mentions s.expression in
      let f = from_flat (target_of variable function count s.hidden) b ms (is_in b (node_targets variable function count s) c) in
      target_cases f.0 b (contained f.0 ms f.1) f.2

  pub has_variable : (b : ℕ) → ToVariable variable s b → Contains (node_targets variable function count s) b
  has_variable b t =
      let ms = mentions s.expression in
      contained b (node_targets variable function count s)
      (in_flat (target_of variable function count s.hidden) b (Names t.name) ms (is_in (Names t.name) ms t.named) (named_in (s.hidden t.name) (variable t.name) b t.open_there t.place))

  pub has_function : (j : ℕ) (name : Text) (arguments : ℕ) → Contains (mentions s.expression) (Calls name arguments) → function name ≡ Some j → Contains (node_targets variable function count s) (count + j)
  has_function j name arguments c e =
      let ms = mentions s.expression in
      contained (count + j) (node_targets variable function count s)
      (in_flat (target_of variable function count s.hidden) (count + j) (Calls name arguments) ms (is_in (Calls name arguments) ms c) (called_in (function name) count j e))

-- the row at a place
pub row_at : (g : List (Vec ℕ Global)) (a : ℕ) (row : List ℕ) → slice_get (rows_of g) a ≡ Some row → targets g a ≡ row
row_at [] a row e = cc
row_at (r ∷ g) zero row e = some_same e
row_at (r ∷ g) (suc a) row e = row_at g a row e

module _ (m : Known) where
  pub node_of_variable : (i : ℕ) (name : Text) (a : Assignment) → slice_get m.assignments i ≡ Some (name, a) → slice_get (nodes_of m) i ≡ Some (value_scoped a)
  node_of_variable i name a e =
      at_left (map value_scoped (values_of m.assignments)) (map body_scoped (values_of m.functions)) i (value_scoped a)
      (map_get value_scoped (values_of m.assignments) i a (map_get (λ (x : Text × Assignment). x.1) m.assignments i (name, a) e))

  variables_long : length (map value_scoped (values_of m.assignments)) ≡ length m.assignments
  variables_long = length-map (values_of m.assignments) value_scoped ∙ length-values_of m.assignments

  pub node_of_function : (j : ℕ) (name : Text) (f : FunctionDefinition) → slice_get m.functions j ≡ Some (name, f) → slice_get (nodes_of m) (length m.assignments + j) ≡ Some (body_scoped f)
  node_of_function j name f e =
      at_right (map value_scoped (values_of m.assignments)) (map body_scoped (values_of m.functions)) j (length m.assignments + j) (body_scoped f)
      (ap (λ n. n + j) (sym variables_long))
      (map_get body_scoped (values_of m.functions) j f (map_get (λ (x : Text × FunctionDefinition). x.1) m.functions j (name, f) e))

  pub solid_variable : (a : ℕ) → a < length m.assignments → get_or (solid_of m) a false ≡ true
  solid_variable a h =
      get_or_append_left (replicate (length m.assignments) true) (replicate (length m.functions) false) false a (omega (arith, length-replicate (length m.assignments) true))
      ∙ get_or-replicate (length m.assignments) a true false h

  pub passing_function : (a : ℕ) → length m.assignments ≤ a → get_or (solid_of m) a false ≡ false
  passing_function a h =
      get_or-append_right (replicate (length m.assignments) true) (replicate (length m.functions) false) (length m.assignments) a false (length-replicate (length m.assignments) true) h
      ∙ elim (cases_lt (a - length m.assignments) (length m.functions)) [
        | inl l ↦ get_or-replicate (length m.functions) (a - length m.assignments) false false l
        | inr l ↦ get_or_past (replicate (length m.functions) false) (a - length m.assignments) false (omega (arith, length-replicate (length m.functions) false))
      ]

  pub solid_inside : (a : ℕ) → get_or (solid_of m) a false ≡ true → a < length m.assignments
  solid_inside a e = elim (cases_lt a (length m.assignments)) [
    | inl l ↦ l
    | inr l ↦ absurd (false≢true (sym (passing_function a l) ∙ e))
  ]

  module _ (g : List (Vec ℕ Global)) (rows : AreNodeRows m (rows_of g)) where
    pub row_of : (a : ℕ) (s : Scoped) → slice_get (nodes_of m) a ≡ Some s → targets g a ≡ node_targets rows.variable rows.function (length m.assignments) s
    row_of a s e =
        row_at g a (node_targets rows.variable rows.function (length m.assignments) s)
        (ap (λ xs. slice_get xs a) rows.are ∙ map_get (node_targets rows.variable rows.function (length m.assignments)) (nodes_of m) a s e)

    pub nodes_long : length g ≡ length (nodes_of m)
    nodes_long = sym (length-map g (λ (r : Vec ℕ Global). r.items)) ∙ (ap length rows.are ∙ length-map (nodes_of m) (node_targets rows.variable rows.function (length m.assignments)))

    pub variables_within : length m.assignments ≤ length g
    variables_within = omega (arith, nodes_long, length-append (map value_scoped (values_of m.assignments)) (map body_scoped (values_of m.functions)), variables_long)

    -- what has an edge is a node
    pub node_at : (a b : ℕ) → HasEdge g a b → (s : Scoped) × (slice_get (nodes_of m) a ≡ Some s)
    node_at a b e = elim (cases_lt a (length g)) [
      | inl l ↦ some_at (nodes_of m) a (omega (arith, nodes_long))
      | inr l ↦ let c : Contains [] b = subst (λ xs. Contains xs b) (targets_past g a (omega arith)) e in absurd (omega (arith, c.1))
    ]
