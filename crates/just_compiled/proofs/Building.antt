-- Each justfile that stands in what is compiled is what a module of the forest is compiled to.
use Rattle.std.proofs.Common.{◌∙◌, List, Option, inl, inr, sym, subst}
use Rattle.std.specs.List.{Contains}
use Rattle.just_graph.proofs.Members.{In, is_in}
use Rattle.just_justfile.specs.Closed.{StandsIn}
use Rattle.just_justfile.specs.declared.justfile.Justfile.{Justfile, out-Justfile}
use Rattle.just_module_tree.specs.Modules.{Forest, Module}
use Rattle.just_names.specs.Texts.{Text}
use Rattle.just_parts.specs.Asts.{AstKey}
use Rattle.just_parts.specs.Items.{Ast}
use Rattle.just_parts.specs.Layers.{Given}
use Rattle.just_compiled.specs.Justfiles.{AreCompiled, Built, IsCompiled, Made, none, one, recipes_of_all}
use Rattle.just_compiled.proofs.Closing.{named_in, stands_cases}

module _ (given : Given) (asts : AstKey → Option Ast) (loaded : List Text) (built : List Built) where
  -- a module is compiled to the justfile
  pub record IsOfModule (j : Justfile) : Type 0 where
    pub m : Module
    pub below : Forest
    pub inner : List Justfile
    pub made : Made
    pub compiled : IsCompiled given asts loaded (recipes_of_all built) m below inner made j

  pub of_module : {f : Forest} {js : List Justfile} → AreCompiled given asts loaded built f js → (root : Justfile) → In root js → (j : Justfile) → StandsIn root j → IsOfModule j
  of_module none root h j s = absurd h
  of_module (one {m = m} {inside = within} {inner = inner} {j = top} made there below is aliased after) root (inl e) j s = elim (stands_cases s) [
    | inl same ↦ subst IsOfModule (sym e ∙ same) (record { m = m; below = within; inner = inner; made = made; compiled = is })
    | inr deeper ↦
        (let c : Contains (out-Justfile top).modules deeper.0 = subst (λ (k : Justfile). Contains (out-Justfile k).modules deeper.0) e deeper.1 in
        of_module below deeper.0 (named_in inner deeper.0 (subst (In deeper.0) is.modules (is_in deeper.0 (out-Justfile top).modules c))) j deeper.2)
  ]
  of_module (one made there below is aliased after) root (inr h) j s = of_module after root h j s
