-- What names stand for in a module, with the numbers of its definitions and without them.
use Rattle.std.proofs.Common.{◌≡◌, ◌∙◌, Bool, true, false, List, [], ◌∷◌, map, refl, sym, ap, subst}
use Rattle.std.specs.Prelude.{if◌then◌else◌}
use Rattle.just_errors.specs.Causes.{Cause, Keeps}
use Rattle.just_names.specs.Name.{text_of_name}
use Rattle.just_names.specs.declared.name.Name.{Name}
use Rattle.just_parts.specs.Bare.{bare_function, bare_function_parameter}
use Rattle.just_parts.specs.Located.{located_assignment}
use Rattle.just_parts.specs.Syntax.{SyntaxAnswers}
use Rattle.just_ast_definitions.specs.declared.assignment.Assignment.{Assignment}
use Rattle.just_ast_definitions.specs.declared.function_definition.FunctionDefinition.{FunctionDefinition}
use Rattle.just_ast_definitions.specs.declared.function_definition.FunctionParameter.{FunctionParameter}
use Rattle.just_table.specs.Entries.{put_all}
use Rattle.just_parts.specs.Known.{Known, known}
use Rattle.just_parts.specs.Misnaming.{Expressions}
use Rattle.just_name_resolution.proofs.Alike.{alike_changed, changed, changed_alike, expressions_alike, parameter_names, put_changed}
use Rattle.just_module_contents.specs.Contents.{Contents}
use Rattle.just_module_contents.specs.Known.{functions_under, known_of, variables_under}
use Rattle.just_module_variables.specs.Variables.{known_with_numbers}
use Rattle.just_module_contents.specs.Kept.{claim_of_variable, gives_way, kept, kept_variables, left_of}
use Rattle.just_module_contents.specs.declared.precedence.Claim.{Claim}

-- what is kept goes by claims
module _ {A : Type 0} (claim : A → Claim) (f : A → A) (same : (x : A) → claim (f x) ≡ claim x) where
  claims_same : (xs : List A) → map claim (map f xs) ≡ map claim xs
  claims_same [] = refl
  claims_same (x ∷ xs) = λ i. same x i ∷ claims_same xs i

  left_if : (b : Bool) (all xs : List A) (x : A) → left_of claim (map f all) (map f xs) ≡ map f (left_of claim all xs)
      → (if b then left_of claim (map f all) (map f xs) else f x ∷ left_of claim (map f all) (map f xs)) ≡ map f (if b then left_of claim all xs else x ∷ left_of claim all xs)
  left_if true all xs x rest = rest
  left_if false all xs x rest = ap (λ (ys : List A). f x ∷ ys) rest

  left_same : (all xs : List A) → left_of claim (map f all) (map f xs) ≡ map f (left_of claim all xs)
  left_same all [] = refl
  left_same all (x ∷ xs) =
      ap (λ b. if b then left_of claim (map f all) (map f xs) else f x ∷ left_of claim (map f all) (map f xs)) (λ i. gives_way (claims_same all i) (claims_same xs i) (same x i))
      ∙ left_if (gives_way (map claim all) (map claim xs) (claim x)) all xs x (left_same all xs)

  kept_same : (xs : List A) → kept claim (map f xs) ≡ map f (kept claim xs)
  kept_same xs = left_same xs xs

bare_names : (ps : List FunctionParameter) → map (λ (p : FunctionParameter). p.name) (map bare_function_parameter ps) ≡ map (λ (p : FunctionParameter). p.name) ps
bare_names [] = refl
bare_names (p ∷ ps) = ap (λ (ns : List Name). p.name ∷ ns) (bare_names ps)

parameters_same : (x : FunctionDefinition) → parameter_names (bare_function x) ≡ parameter_names x
parameters_same x = bare_names x.parameters

module _ (answers : SyntaxAnswers) (m : Contents) where
  abbrev pub bare_of : Known
  bare_of = known answers (changed located_assignment (variables_under m.variables)) (changed bare_function (functions_under m.functions))

  pub bare_is : bare_of ≡ known_of answers m
  bare_is =
      let variables = ap (put_all (λ (a : Assignment). text_of_name a.name) []) (kept_same claim_of_variable located_assignment (λ a. refl) m.variables)
      ∙ put_changed located_assignment (λ (a : Assignment). text_of_name a.name) (λ (a : Assignment). text_of_name a.name) (λ a. refl) (kept_variables m.variables) in
      let functions = put_changed bare_function (λ (f : FunctionDefinition). text_of_name f.name) (λ (f : FunctionDefinition). text_of_name f.name) (λ f. refl) m.functions in
      λ i. known answers (sym variables i) (sym functions i)

  pub keeps_known : Keeps (Expressions (known_with_numbers answers m)) → Keeps (Expressions (known_of answers m))
  keeps_known kept c b =
      kept c (expressions_alike bare_of (known_with_numbers answers m) (alike_changed answers located_assignment bare_function (λ a. refl) (λ a. refl) parameters_same (λ f. refl) (variables_under m.variables) (functions_under m.functions)) c
      (subst (λ (k : Known). Expressions k c) (sym bare_is) b))

  pub breaks_known : (c : Cause) → Expressions (known_with_numbers answers m) c → Expressions (known_of answers m) c
  breaks_known c b =
      subst (λ (k : Known). Expressions k c) bare_is
      (expressions_alike (known_with_numbers answers m) bare_of (changed_alike answers located_assignment bare_function (λ a. refl) (λ a. refl) parameters_same (λ f. refl) (variables_under m.variables) (functions_under m.functions)) c b)
