-- Rows, one by one.
use Rattle.std.proofs.Common.{◌≡◌, ℕ, Bool, List, [], ◌∷◌, ◌++◌, map, Option, sym, ◌∙◌, ap, arith}
use Rattle.std.specs.Borrow.{Bor}
use Rattle.std.specs.declared.alloc.Global.{Global}
use Rattle.std.specs.declared.vec.Vec.{Vec}
use Rattle.std.proofs.lemmas.List.{map-append}
use Rattle.std.proofs.lemmas.Grind.{common_steps}
use Rattle.just_names.specs.Texts.{Text}
use Rattle.just_ast_definitions.specs.declared.function_definition.FunctionDefinition.{FunctionDefinition}
use Rattle.just_ast_definitions.specs.declared.function_definition.FunctionParameter.{FunctionParameter}
use Rattle.just_parts.specs.Known.{hides}
use Rattle.just_parts.specs.Scopes.{Scoped, scoped}
use Rattle.just_parts.specs.loops.Scopes.{body_scoped}
use Rattle.just_module_variables.specs.loops.Steps.{rows_of, node_targets}

-- the row of one more body
pub body_row_more : (t : Scoped → List ℕ) (first : List (List ℕ)) (rows more : List (Vec ℕ Global)) (row : Vec ℕ Global) (fs : List (Bor FunctionDefinition)) (f : Bor FunctionDefinition) (ps : List FunctionParameter) (hidden : Text → Bool)
    → rows_of rows ≡ first ++ map t (map body_scoped (map (λ (r : Bor FunctionDefinition). r.now) fs))
    → more ≡ rows ++ row ∷ [] → row.items ≡ t (scoped hidden f.now.body) → ((name : Text) → hidden name ≡ hides ps name) → ps ≡ f.now.parameters
    → rows_of more ≡ first ++ map t (map body_scoped (map (λ (r : Bor FunctionDefinition). r.now) (fs ++ f ∷ [])))
body_row_more t first rows more row fs f ps hidden so is one same whole =
    let last : row.items ≡ t (body_scoped f.now) = one ∙ ((λ i. t (scoped (λ name. same name i) f.now.body)) ∙ ap (λ qs. t (scoped (hides qs) f.now.body)) whole) in
    grind (arith, common_steps)

-- the rows of the values, then those of the bodies
pub rows_are : (variable function : Text → Option ℕ) (count n : ℕ) (values bodies : List Scoped) (first all : List (List ℕ)) → count ≡ n → first ≡ map (node_targets variable function count) values → all ≡ first ++ map (node_targets variable function count) bodies → all ≡ map (node_targets variable function n) (values ++ bodies)
rows_are variable function count n values bodies first all is before e =
    e ∙ (ap (λ xs. xs ++ map (node_targets variable function count) bodies) before ∙ (sym (map-append (node_targets variable function count) values bodies) ∙ ap (λ k. map (node_targets variable function k) (values ++ bodies)) is))
