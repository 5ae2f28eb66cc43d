-- What the attributes that are read say of parameters is kept beside them.
use Rattle.std.proofs.Common.{inl, ℕ, ◌+◌, refl, List, [], true, Option, Some, None}
use Rattle.std.specs.Prelude.{if◌then◌else◌, codes}
use Rattle.std.specs.Option.{option_to_list}
use Rattle.std.specs.Str.{bytes_eq}
use Rattle.just_names.specs.Token.{lexeme}
use Rattle.just_names.specs.declared.name.Name.{Name}
use Rattle.just_ast_definitions.specs.declared.attribute.Attribute.{Attribute}
use Rattle.just_ast_definitions.specs.declared.attribute.Attribute.TheVariants as attribute
use Rattle.just_ast_expressions.specs.declared.expression.Expression.{Expression}
use Rattle.just_ast_expressions.specs.declared.string_literal.StringLiteral.{StringLiteral}
use Rattle.just_bench_expressions.specs.declared.expressions.Found.{Found}
use Rattle.just_bench_expressions.specs.declared.lexer.Lexeme.{Lexeme}
use Rattle.just_bench_expressions.specs.Expressions.{expression}
use Rattle.just_bench_lines.specs.declared.attributes.Mark.{Mark}
use Rattle.just_bench_lines.specs.declared.attributes.Properties.{Properties}
use Rattle.just_bench_lines.specs.Attributes as marks
use Rattle.just_bench_lines.specs.Definitions.{after_part}
use Rattle.just_bench_lines.specs.Places.{literal_at, read_name_at, stands, is_bracket_open, is_paren_open}
use Rattle.just_bench_syntax.proofs.Proper.{IsSaid, either}

-- what a mark says of a parameter is there
abbrev pub MarkSaid : Option Mark → Type 0
MarkSaid None = Unit {0}
MarkSaid (Some m) = IsSaid (option_to_list m.options) m.named.attribute

-- an attribute of no parameter
abbrev pub SaysNothing : Option (Attribute Expression) → Type 0
SaysNothing None = Unit {0}
SaysNothing (Some a) = IsSaid [] a

nothing_marked : (name : Name) (a : Option (Attribute Expression)) → SaysNothing a → MarkSaid (marks.marked name a)
nothing_marked name None nothing = tt
nothing_marked name (Some a) nothing = nothing

chain : (w : List ℕ) (word : List ℕ) (x y : Option (Attribute Expression)) → SaysNothing x → SaysNothing y → SaysNothing (if bytes_eq w word then x else y)
chain w word x y p q = either SaysNothing (bytes_eq w word) x y p q

bare_nothing : (w : List ℕ) → SaysNothing (marks.word_alone w)
bare_nothing w = chain w (codes "default") _ _ tt (chain w (codes "private") _ _ tt (chain w (codes "parallel") _ _ tt (chain w (codes "confirm") _ _ tt (chain w (codes "no-quiet") _ _ tt tt))))

group_nothing : (all : List Lexeme) (at : ℕ) (text : Option StringLiteral) → SaysNothing (marks.group_attribute all at text)
group_nothing all at None = tt
group_nothing all at (Some text) = either SaysNothing (marks.closes_at all (at + 1)) (Some (attribute.Group text)) None tt tt

doc_nothing : (all : List Lexeme) (found : Option Found) → SaysNothing (marks.doc_attribute all found)
doc_nothing all None = tt
doc_nothing all (Some found) = either SaysNothing (marks.closes_at all found.end) (Some (attribute.Doc (Some found.made))) None tt tt

arg_said : (all : List Lexeme) (name : Name) (parameter : StringLiteral) (found : Option (Properties × ℕ)) → MarkSaid (marks.arg_ends all name parameter found)
arg_said all name parameter None = tt
arg_said all name parameter (Some found) =
    either MarkSaid (marks.ends_at all (found.1 + 1)) (Some (marks.made_arg name parameter parameter.cooked found.0)) None (inl refl, refl, refl) tt

from_said : (all : List Lexeme) (name : Name) (parameter : StringLiteral) (next : Option ℕ) → MarkSaid (marks.arg_from all name parameter next)
from_said all name parameter None = tt
from_said all name parameter (Some next) = arg_said all name parameter (marks.with_properties all next marks.no_properties)

of_said : (all : List Lexeme) (name : Name) (at : ℕ) (parameter : Option StringLiteral) → MarkSaid (marks.arg_of all name at parameter)
of_said all name at None = tt
of_said all name at (Some parameter) = from_said all name parameter (after_part all (at + 1))

argument_said : (all : List Lexeme) (name : Name) → MarkSaid (marks.with_argument all name)
unfolding marks.arg marks.group_in_line marks.doc
argument_said all name =
    either MarkSaid (bytes_eq (lexeme name.token) (codes "group")) _ _ (nothing_marked name (marks.group_in_line all 3) (group_nothing all 3 (literal_at all 3)))
    (either MarkSaid (bytes_eq (lexeme name.token) (codes "doc")) _ _ (nothing_marked name (marks.doc all 3) (doc_nothing all (expression true all 3)))
    (either MarkSaid (bytes_eq (lexeme name.token) (codes "arg")) _ _ (of_said all name 3 (literal_at all 3)) tt))

name_said : (all : List Lexeme) (name : Option Name) → MarkSaid (marks.attribute_of all name)
name_said all None = tt
name_said all (Some name) =
    either MarkSaid (marks.ends_at all 2) _ _ (nothing_marked name (marks.word_alone (lexeme name.token)) (bare_nothing (lexeme name.token)))
    (either MarkSaid (stands is_paren_open all 2) _ _ (argument_said all name) tt)

pub mark_said : (all : List Lexeme) → MarkSaid (marks.attribute all)
unfolding marks.attribute
mark_said all = either MarkSaid (stands is_bracket_open all 0) (marks.attribute_of all (read_name_at all 1)) None (name_said all (read_name_at all 1)) tt
