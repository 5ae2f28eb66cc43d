-- A function behind others.
use Rattle.std.proofs.Common.{◌≡◌, refl, sym, ◌∙◌, ap, Bool, true, false, cond, List, [], ◌∷◌, ◌++◌, Option, None, Some}
use Rattle.std.specs.Prelude.{if◌then◌else◌}
use Rattle.std.specs.Option.{option_or}
use Rattle.std.specs.Str.{bytes_eq}
use Rattle.just_names.specs.Texts.{Text}
use Rattle.just_names.specs.Name.{text_of_name}
use Rattle.just_ast_definitions.specs.declared.function_definition.FunctionDefinition.{FunctionDefinition}
use Rattle.just_table.specs.Entries.{find}
use Rattle.just_bench_values.specs.Lookup.{behind}
use Rattle.just_bench_values.specs.loops.Lookup.{named_so}

first_of : (b : Bool) (g : FunctionDefinition) (o p q : Option FunctionDefinition) → o ≡ option_or p q → cond b (Some g) o ≡ option_or (cond b (Some g) p) q
first_of true g o p q rest = refl
first_of false g o p q rest = rest

same_test : (b : Bool) (f : FunctionDefinition) → cond b (Some f) None ≡ (if b then Some f else None)
same_test true f = refl
same_test false f = refl

pub find_behind : (name : Text) (f : FunctionDefinition) (table : List (Text × FunctionDefinition)) →
    find name (behind f table) ≡ option_or (find name table) (named_so f name)
find_behind name f [] = same_test (bytes_eq name (text_of_name f.name)) f
find_behind name f (e ∷ es) = first_of (bytes_eq name e.0) e.1 (find name (behind f es)) (find name es) (named_so f name) (find_behind name f es)
