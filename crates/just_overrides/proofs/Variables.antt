-- A justfile has a variable of a name exactly where its module keeps one.
use Rattle.std.proofs.Common.{◌≡◌, ◌∙◌, List, [], is_some, Option, None, Some, inl, inr, refl, sym, ap, subst}
use Rattle.std.specs.List.{Contains}
use Rattle.std.specs.Option.{option_map}
use Rattle.just_ast_definitions.specs.declared.assignment.Assignment.{Assignment}
use Rattle.just_graph.proofs.Members.{In, contained, from_map, in_map, is_in}
use Rattle.just_justfile.specs.declared.justfile.Justfile.{Justfile, out-Justfile}
use Rattle.just_module_contents.specs.Contents.{Contents, variable_names}
use Rattle.just_module_contents.specs.Kept.{kept_variables}
use Rattle.just_module_contents.specs.Known.{known_of, variables_under}
use Rattle.just_module_tree.specs.Modules.{Forest, Module, contents_of}
use Rattle.just_module_variables.proofs.Judging.{bare_is}
use Rattle.just_module_variables.specs.Numbered.{name_of_assignment, numbered_assignment}
use Rattle.just_module_variables.specs.Variables.{known_with_numbers}
use Rattle.just_name_resolution.proofs.Alike.{find_changed}
use Rattle.just_names.specs.Index.{texts_of_names}
use Rattle.just_names.specs.Name.{text_of_name}
use Rattle.just_names.specs.Texts.{Text}
use Rattle.just_parts.specs.Asts.{AstKey}
use Rattle.just_parts.specs.Items.{Ast}
use Rattle.just_parts.specs.Known.{Known}
use Rattle.just_parts.specs.Layers.{Given}
use Rattle.just_parts.specs.Located.{located_assignment}
use Rattle.just_parts.specs.Syntax.{SyntaxAnswers}
use Rattle.just_table.specs.Entries.{find}
use Rattle.just_compiled.proofs.Agreeing.{Shows}
use Rattle.just_compiled.proofs.RecipeKeys.{found_among, not_found}
use Rattle.just_compiled.specs.Justfiles.{Built, contents_read}

some_mapped : (f : Assignment → Assignment) (o : Option Assignment) → is_some (option_map f o) ≡ is_some o
some_mapped f None = refl
some_mapped f (Some a) = refl

-- the names of the variables that are kept of these
abbrev kept_names : List Assignment → List Text
kept_names vs = texts_of_names (variable_names (kept_variables vs))

kept_named : (vs : List Assignment) (name : Text) (a : Assignment) → find name (variables_under vs) ≡ Some a → Contains (kept_names vs) name
kept_named vs name a e = elim (found_among name_of_assignment name a [] (kept_variables vs) e) [
  | inr wrong ↦ absurd (cc)
  | inl k ↦ contained name (kept_names vs)
      (subst (λ t. In t (kept_names vs)) k.1 (in_map text_of_name a.name (variable_names (kept_variables vs)) (in_map (λ (x : Assignment). x.name) a (kept_variables vs) k.0)))
]

named_kept : (vs : List Assignment) (name : Text) → Contains (kept_names vs) name → find name (variables_under vs) ≡ None → ⊥
named_kept vs name there e =
    let n = from_map text_of_name name (variable_names (kept_variables vs)) (is_in name (kept_names vs) there) in
    let a = from_map (λ (x : Assignment). x.name) n.0 (kept_variables vs) n.1 in
    not_found name_of_assignment name [] (kept_variables vs) e a.0 a.1 (ap text_of_name (sym a.2) ∙ sym n.2)

-- numbers and locations make no difference
bare_found : (answers : SyntaxAnswers) (m : Contents) (name : Text) → is_some (find name (variables_under m.variables)) ≡ is_some (find name (known_of answers m).assignments)
bare_found answers m name =
    sym (ap is_some (find_changed located_assignment name (variables_under m.variables)) ∙ some_mapped located_assignment (find name (variables_under m.variables)))
    ∙ ap (λ (k : Known). is_some (find name k.assignments)) (bare_is answers m)

module _ (given : Given) (asts : AstKey → Option Ast) (loaded : List Text) (built : List Built) (m : Module) (inside : Forest) (j : Justfile) (shows : Shows given asts loaded built m inside j) (name : Text) where
  abbrev here : Contents
  here = contents_read given.syntax.enabled asts m.files

  same_found : is_some (find name (out-Justfile j).assignments) ≡ is_some (find name (variables_under (contents_of m).variables))
  same_found =
      let number = numbered_assignment (known_with_numbers given.syntax here) in
      ap (λ es. is_some (find name es)) shows.is.variables.assignments_are
      ∙ ap is_some (find_changed number name (variables_under here.variables)) ∙ some_mapped number (find name (variables_under here.variables))
      ∙ bare_found given.syntax here name
      ∙ ap (λ (k : Known). is_some (find name k.assignments)) (shows.says.known given.syntax)
      ∙ sym (bare_found given.syntax (contents_of m) name)

  is_found : (o p : Option Assignment) → is_some o ≡ is_some p → (a : Assignment) → o ≡ Some a → (b : Assignment) × (p ≡ Some b)
  is_found None p e a f = cc
  is_found (Some x) None e a f = cc
  is_found (Some x) (Some b) e a f = (b, refl)

  is_lost : (o p : Option Assignment) → is_some o ≡ is_some p → o ≡ None → p ≡ None
  is_lost o None e f = refl
  is_lost None (Some b) e f = cc
  is_lost (Some x) (Some b) e f = cc

  pub variable_kept : (a : Assignment) → find name (out-Justfile j).assignments ≡ Some a → Contains (kept_names (contents_of m).variables) name
  variable_kept a e =
      let b = is_found (find name (out-Justfile j).assignments) (find name (variables_under (contents_of m).variables)) same_found a e in
      kept_named (contents_of m).variables name b.0 b.1

  pub kept_variable : Contains (kept_names (contents_of m).variables) name → find name (out-Justfile j).assignments ≡ None → ⊥
  kept_variable there e =
      named_kept (contents_of m).variables name there (is_lost (find name (out-Justfile j).assignments) (find name (variables_under (contents_of m).variables)) same_found e)
