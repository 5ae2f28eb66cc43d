-- The texts of what a source text says: body lines, variables, aliases.
use Rattle.std.specs.Prelude.{ℕ, Bool, List, [], ◌∷◌, ◌++◌, Option, Some, codes, if◌then◌else◌}
use Rattle.std.specs.List.{flat_map}
use Rattle.std.specs.Fmt.{◌++?◌}
use Rattle.just_names.specs.Token.{lexeme}
use Rattle.just_ast_expressions.specs.ExpressionText.{expression_text}
use Rattle.just_ast_definitions.specs.declared.assignment.Assignment.{Assignment}
use Rattle.just_ast_definitions.specs.declared.line.Fragment.{Fragment}
use Rattle.just_ast_definitions.specs.declared.line.Fragment.TheVariants as fragment
use Rattle.just_ast_definitions.specs.declared.line.Line.{Line}

-- text as it stands, or an expression in double braces
abbrev pub body_fragment_text : Fragment → List ℕ
body_fragment_text (fragment.Text token) = lexeme token
body_fragment_text (fragment.Interpolation expression) = codes "{{ " ++ (expression_text expression ++ codes " }}")

-- fragments, one after another, behind four blanks; nothing where there are none
abbrev pub indented : List Fragment → List ℕ
indented [] = []
indented (f ∷ fs) = codes "    " ++ flat_map body_fragment_text (f ∷ fs)

abbrev pub body_line_text : Line → List ℕ
body_line_text line = indented line.fragments

-- the text where it holds, and else none
abbrev pub text_if : Bool → List ℕ → List ℕ
text_if holds text = if holds then text else []

abbrev pub assignment_text : Assignment → List ℕ
assignment_text a = text_if a.export (codes "export ") ++ (lexeme a.name.token ++ (codes " := " ++ expression_text a.value))

-- another name for what has a text, if that text is known
abbrev pub alias_text : List ℕ → Option (List ℕ) → Option (List ℕ)
alias_text name target = Some (codes "alias ") ++? Some name ++? Some (codes " := ") ++? target
