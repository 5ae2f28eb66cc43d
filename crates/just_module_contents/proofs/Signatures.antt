-- The functions of a module.
use Rattle.std.proofs.Common.{◌≡◌, ℕ, ◌+◌, List, [], ◌∷◌, ◌++◌, take, Some, refl, sym, ◌∙◌, ap, subst}
use Rattle.std.specs.List.{slice_get}
use Rattle.std.proofs.lemmas.List.{take_more}
use Rattle.std.proofs.lemmas.Option.{get_or_from_slice_get, slice_get_within}
use Rattle.just_graph.proofs.Index.{get_map}
use Rattle.just_names.specs.Name.{text_of_name}
use Rattle.just_names.specs.Token.{Place}
use Rattle.just_names.specs.declared.name.Name.{Name}
use Rattle.just_ast_definitions.specs.declared.function_definition.FunctionDefinition.{FunctionDefinition}
use Rattle.just_errors.specs.Causes.{Broken, Cause, Keeps}
use Rattle.just_errors.specs.declared.compile_error.CompileErrorKind.{CompileErrorKind}
use Rattle.just_errors.specs.declared.compile_error.CompileErrorKind.TheVariants as kind
use Rattle.just_errors.specs.declared.compile_error.Definition.TheVariants as definition
use Rattle.just_module_contents.specs.Contents.{Signature, function_names, signature, signatures}
use Rattle.just_names.specs.Index.{texts_of_names, AreDifferent, Repeats}
use Rattle.just_module_contents.specs.Rules.{BreaksFunctions, RepeatsParameter, duplicate_function_parameter, function_redefinition, of_function}

-- the names of functions one after another
names_append : (fs gs : List FunctionDefinition) → function_names (signatures (fs ++ gs)) ≡ function_names (signatures fs) ++ function_names (signatures gs)
names_append [] gs = refl
names_append (f ∷ fs) gs = ap (λ (ns : List Name). f.name ∷ ns) (names_append fs gs)

-- one more name
pub function_more : (fs : List FunctionDefinition) (names more : List Name) (i : ℕ) (f : FunctionDefinition) (n : Name) → names ≡ function_names (signatures (take i fs)) → slice_get fs i ≡ Some f → n ≡ f.name → more ≡ names ++ n ∷ []
    → more ≡ function_names (signatures (take (i + 1) fs))
function_more fs names more i f n so at is e =
    e ∙ (ap (λ ns. ns ++ n ∷ []) so ∙ (ap (λ y. function_names (signatures (take i fs)) ++ y ∷ []) is ∙ (sym (names_append (take i fs) (f ∷ []))
    ∙ ap (λ gs. function_names (signatures gs)) (ap (λ y. take i fs ++ y ∷ []) (sym (get_or_from_slice_get fs i f f at)) ∙ sym (take_more fs i f (slice_get_within fs i f at))))))

-- two functions of one name
pub functions_redefined : (ss : List Signature) (i j : ℕ) (first second : Name) (place : Place) (told : CompileErrorKind) → Repeats (texts_of_names (function_names ss)) i j → slice_get (function_names ss) i ≡ Some first → slice_get (function_names ss) j ≡ Some second
    → place ≡ second.token → told ≡ kind.Redefinition definition.Function definition.Function (text_of_name second) first.token.line → BreaksFunctions ss (Broken place told)
functions_redefined ss i j first second place told repeats a b at is =
    subst (λ p. BreaksFunctions ss (Broken p told)) (sym at) (subst (λ k. BreaksFunctions ss (Broken second.token k)) (sym is) (function_redefinition i j repeats a b))

-- a function with two parameters of one name
pub parameter_repeated : (s : Signature) (p q : ℕ) (second : Name) (place : Place) (function parameter : List ℕ) → Repeats (texts_of_names s.parameters) p q → slice_get s.parameters q ≡ Some second
    → place ≡ second.token → function ≡ text_of_name s.name → parameter ≡ text_of_name second → RepeatsParameter s (Broken place (kind.DuplicateFunctionParameter function parameter))
parameter_repeated s p q second place function parameter repeats b at of is =
    subst (λ x. RepeatsParameter s (Broken x (kind.DuplicateFunctionParameter function parameter))) (sym at)
    (subst (λ f. RepeatsParameter s (Broken second.token (kind.DuplicateFunctionParameter f parameter))) (sym of)
    (subst (λ t. RepeatsParameter s (Broken second.token (kind.DuplicateFunctionParameter (text_of_name s.name) t))) (sym is) (duplicate_function_parameter p q repeats b)))

-- no name of a parameter is repeated
parameters_differ : (s : Signature) → AreDifferent (texts_of_names s.parameters) → (c : Cause) → RepeatsParameter s c → ⊥
parameters_differ s different _ (duplicate_function_parameter p q r at) = different p q r.apart r.within r.same

-- no rule on functions is broken
pub functions_kept : (fs : List FunctionDefinition) → AreDifferent (texts_of_names (function_names (signatures fs))) → ((k : ℕ) (f : FunctionDefinition) → slice_get fs k ≡ Some f → AreDifferent (texts_of_names (signature f).parameters)) → Keeps (BreaksFunctions (signatures fs))
functions_kept fs different each _ (function_redefinition i j r a b) = different i j r.apart r.within r.same
functions_kept fs different each c (of_function {s} i at b) =
    let x = get_map signature fs i s at in
    parameters_differ s (subst (λ (t : Signature). AreDifferent (texts_of_names t.parameters)) (sym x.2) (each i x.0 x.1)) c b
