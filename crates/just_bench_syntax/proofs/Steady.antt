-- What lines say stays without numbers, and the attributes before an item speak of parameters as it is said beside them.
use Rattle.std.proofs.Common.{zero, suc, inl, inr, ◌≡◌, ℕ, ◌+◌, sym, ap, refl, subst, List, [], ◌∷◌, ◌++◌, length, map, get_or, Bool, true, false, arith, Option, Some, None, Result, Ok, Err}
use Rattle.std.specs.Prelude.{◌==◌, codes, drop, IfOk}
use Rattle.std.specs.List.{All}
use Rattle.std.specs.Option.{option_map, option_to_list}
use Rattle.std.proofs.lemmas.List.{map-append}
use Rattle.std.proofs.lemmas.List.Elements.{All-push}
use Rattle.just_names.specs.Token.{Place}
use Rattle.just_names.specs.declared.name.Name.{Name}
use Rattle.just_parts.specs.Bare.{bare_assignment, bare_function, bare_function_parameter}
use Rattle.just_parts.specs.Items.{Item}
use Rattle.just_ast_items.specs.declared.item.Item.TheVariants as item
use Rattle.just_recipe.specs.declared.dependency.UnresolvedDependency.{UnresolvedDependency}
use Rattle.just_recipe.specs.declared.recipe.Recipe.{Recipe}
use Rattle.just_ast_definitions.specs.declared.attribute.Attribute.{Attribute}
use Rattle.just_ast_definitions.specs.declared.attribute.Attribute.TheVariants as attribute
use Rattle.just_ast_definitions.specs.declared.attribute.NamedAttribute.{NamedAttribute}
use Rattle.just_ast_definitions.specs.declared.assignment.Assignment.{Assignment}
use Rattle.just_ast_expressions.specs.declared.expression.Expression.{Expression}
use Rattle.just_ast_definitions.specs.declared.function_definition.FunctionDefinition.{FunctionDefinition}
use Rattle.just_ast_definitions.specs.declared.function_definition.FunctionParameter.{FunctionParameter}
use Rattle.just_ast_definitions.specs.declared.line.Line.{Line}
use Rattle.just_ast_expressions.specs.declared.list_use.ListUse.{ListUse}
use Rattle.just_ast_definitions.specs.declared.setting.Set.{Set}
use Rattle.just_ast_expressions.specs.declared.string_literal.StringLiteral.{StringLiteral}
use Rattle.just_bench_expressions.specs.declared.lexer.Lexeme.{Lexeme}
use Rattle.just_bench_expressions.specs.declared.lines.TextLine.{TextLine}
use Rattle.just_bench_expressions.specs.Lexemes.{is_blank, lexemes}
use Rattle.just_bench_expressions.specs.Lines.{line_place, lines_of}
use Rattle.just_bench_lines.specs.declared.attributes.Mark.{Mark}
use Rattle.just_bench_lines.specs.declared.attributes.Options.{Options}
use Rattle.just_bench_lines.specs.declared.alias.AliasLine.{AliasLine}
use Rattle.just_bench_lines.specs.declared.body.BodyLine.{BodyLine}
use Rattle.just_bench_lines.specs.declared.heading.Heading.{Heading}
use Rattle.just_bench_syntax.specs.declared.items.Items.{Items}
use Rattle.just_bench_syntax.specs.declared.items.Reading.{Reading}
use Rattle.just_bench_syntax.specs.declared.recipe.Spoken.{Spoken}
use Rattle.just_bench_lines.specs.declared.meaning.Declaration.{Declaration}
use Rattle.just_bench_lines.specs.declared.meaning.Meaning.{Meaning}
use Rattle.just_bench_lines.specs.declared.meaning.Meaning.TheVariants as meaning
use Rattle.just_bench_lines.specs.declared.meaning.Said.{Said}
use Rattle.just_bench_lines.specs.declared.meaning.Statement.{Statement}
use Rattle.just_bench_lines.specs.declared.meaning.Statement.TheVariants as statements
use Rattle.just_bench_lines.specs.Alias.{alias_line}
use Rattle.just_bench_lines.specs.Attributes.{attribute as attribute_line}
use Rattle.just_bench_lines.specs.Body.{body_line, indent}
use Rattle.just_bench_lines.specs.Definitions as definitions
use Rattle.just_bench_lines.specs.Heading.{heading_in_line}
use Rattle.just_bench_syntax.specs.Items as items
use Rattle.just_bench_lines.specs.Meaning as said
use Rattle.just_bench_lines.specs.Places.{literal_at, read_name_at, stands, word_at, is_assign, is_comma, is_name_kind, is_paren_close, is_paren_open}
use Rattle.just_bench_syntax.specs.Proper.{IsProper}
use Rattle.just_bench_syntax.specs.Recipe.{recipe}
use Rattle.just_bench_syntax.proofs.Marks.{MarkSaid, mark_said}
use Rattle.just_bench_syntax.proofs.Proper.{AreFresh, HeadingFresh, IsSaid, RecipeProper, SpeakOf, either, heading_fresh, recipe_proper, said_of}

-- what lines say so far
pub record IsSteady (r : Reading) : Type 0 where
  pub proper : All IsProper r.items
  pub said : All (λ (n : NamedAttribute Expression). IsSaid (said_of r.spoken) n.attribute) r.attributes

-- a line that has no numbers
abbrev pub IsFine : Meaning → Type 0
IsFine (meaning.Begins h) = AreFresh h.parameters
IsFine (meaning.Marks m) = MarkSaid (Some m)
IsFine (meaning.States s) = IsProper (items.item_of s)
IsFine _ = Unit {0}

abbrev pub MaybeFine : Option Meaning → Type 0
MaybeFine None = Unit {0}
MaybeFine (Some m) = IsFine m

or_fine : (x y : Option Meaning) → MaybeFine x → MaybeFine y → MaybeFine (said.first_there x y)
or_fine None y p q = q
or_fine (Some x) y p q = p

declared_fine : (d : Option Declaration) → MaybeFine (option_map meaning.Declares d)
declared_fine None = tt
declared_fine (Some d) = tt

marked_fine : (m : Option Mark) → MarkSaid m → MaybeFine (option_map meaning.Marks m)
marked_fine None p = tt
marked_fine (Some m) p = p

alias_fine : (a : Option AliasLine) → MaybeFine (option_map meaning.Aliases a)
alias_fine None = tt
alias_fine (Some a) = tt

begun_fine : (h : Option Heading) → HeadingFresh h → MaybeFine (option_map meaning.Begins h)
begun_fine None p = tt
begun_fine (Some h) p = p

-- a variable without a number
abbrev pub AssignmentBare : Option Assignment → Type 0
AssignmentBare None = Unit {0}
AssignmentBare (Some a) = bare_assignment a ≡ a

assigned_bare : (name : Name) (eager export : Bool) (value : Option Expression) → AssignmentBare (definitions.assigned name eager export value)
assigned_bare name eager export None = tt
assigned_bare name eager export (Some value) = refl

by_bare : (all : List Lexeme) (at : ℕ) (eager export : Bool) (name : Option Name) → AssignmentBare (definitions.assignment_in_line all at eager export name)
by_bare all at eager export None = tt
by_bare all at eager export (Some name) =
    either AssignmentBare (stands is_assign all (at + 1)) (definitions.assigned name eager export (definitions.whole_expression all (at + 2))) None
    (assigned_bare name eager export (definitions.whole_expression all (at + 2))) tt

at_bare : (all : List Lexeme) (at : ℕ) (eager export : Bool) → AssignmentBare (definitions.assignment_at all at eager export)
unfolding definitions.assignment_at
at_bare all at eager export = by_bare all at eager export (read_name_at all at)

assignment_bare : (all : List Lexeme) → AssignmentBare (definitions.assignment all)
assignment_bare all =
    either AssignmentBare (stands is_assign all 1) _ _ (at_bare all 0 false false)
    (either AssignmentBare (word_at (codes "export") all 0) _ _ (at_bare all 1 false true)
    (either AssignmentBare (word_at (codes "eager") all 0) _ _ (at_bare all 1 true false) tt))

-- parameters of a function without numbers
abbrev pub ManyBare : Option (List FunctionParameter × ℕ) → Type 0
ManyBare None = Unit {0}
ManyBare (Some found) = map bare_function_parameter found.0 ≡ found.0

and_bare : (l : Lexeme) (more : Option (List FunctionParameter × ℕ)) → ManyBare more → ManyBare (definitions.and_parameter l more)
and_bare l None p = tt
and_bare l (Some more) p = ap (λ ps. definitions.function_parameter l ∷ ps) p

parameters_bare : (at : ℕ) (ls : List Lexeme) → ManyBare (definitions.parameters_from at ls)
parameters_bare at [] = tt
parameters_bare at (l ∷ []) = either ManyBare (is_paren_close l.kind) (Some ([], at + 1)) None refl tt
parameters_bare at (l ∷ m ∷ rest) =
    either ManyBare (is_name_kind l.kind) _ _
    (either ManyBare (is_comma m.kind) _ _
    (either ManyBare (definitions.closes rest) None _ tt (and_bare l (definitions.parameters_from (at + 2) rest) (parameters_bare (at + 2) rest)))
    (either ManyBare (is_paren_close m.kind) (Some (definitions.function_parameter l ∷ [], at + 2)) None refl tt))
    (either ManyBare (is_paren_close l.kind) (Some ([], at + 1)) None refl tt)

abbrev pub FunctionBare : Option FunctionDefinition → Type 0
FunctionBare None = Unit {0}
FunctionBare (Some f) = bare_function f ≡ f

body_bare : (name : Name) (ps : List FunctionParameter) (body : Option Expression) → map bare_function_parameter ps ≡ ps → FunctionBare (definitions.with_body name ps body)
body_bare name ps None p = tt
body_bare name ps (Some body) p = ap (λ qs. record { name = name; parameters = qs; body = body }) p

with_bare : (all : List Lexeme) (name : Name) (found : Option (List FunctionParameter × ℕ)) → ManyBare found → FunctionBare (definitions.with_parameters all name found)
with_bare all name None p = tt
with_bare all name (Some found) p =
    either FunctionBare (stands is_assign all found.1) (definitions.with_body name found.0 (definitions.whole_expression all (found.1 + 1))) None
    (body_bare name found.0 (definitions.whole_expression all (found.1 + 1)) p) tt

function_bare : (all : List Lexeme) (name : Option Name) → FunctionBare (definitions.function_in_line all name)
unfolding definitions.parameters
function_bare all None = tt
function_bare all (Some name) =
    either FunctionBare (stands is_paren_open all 1) (definitions.with_parameters all name (definitions.parameters all 2)) None
    (with_bare all name (definitions.parameters all 2) (parameters_bare 2 (drop 2 all))) tt

-- an item that takes no attributes is without numbers
abbrev pub StatementProper : Option Statement → Type 0
StatementProper None = Unit {0}
StatementProper (Some s) = IsProper (items.item_of s)

or_proper : (x y : Option Statement) → StatementProper x → StatementProper y → StatementProper (said.first_there x y)
or_proper None y p q = q
or_proper (Some x) y p q = p

path_proper : (all : List Lexeme) (optional : Bool) (at : ℕ) (path : Option StringLiteral) → StatementProper (said.import_of all optional at path)
path_proper all optional at None = tt
path_proper all optional at (Some path) =
    either StatementProper (at + 1 == length all) (Some (statements.Imports path optional)) None (record { bare = refl; priors = tt; attributes = tt }) tt

import_proper : (all : List Lexeme) → StatementProper (said.import all)
import_proper all = either StatementProper (word_at (codes "import") all 0) _ _ (path_proper all (said.is_optional all) (said.after_word (said.is_optional all)) (literal_at all (said.after_word (said.is_optional all)))) tt

set_proper : (s : Option Set) → StatementProper (option_map statements.Sets s)
set_proper None = tt
set_proper (Some s) = record { bare = refl; priors = tt; attributes = tt }

unexport_proper : (n : Option Name) → StatementProper (option_map statements.Unexports n)
unexport_proper None = tt
unexport_proper (Some n) = record { bare = refl; priors = tt; attributes = tt }

assign_proper : (a : Option Assignment) → AssignmentBare a → StatementProper (option_map statements.Assigns a)
assign_proper None p = tt
assign_proper (Some a) p = record { bare = ap item.Assignment p; priors = tt; attributes = tt }

define_proper : (f : Option FunctionDefinition) → FunctionBare f → StatementProper (option_map statements.Defines f)
define_proper None p = tt
define_proper (Some f) p = record { bare = ap item.Function p; priors = tt; attributes = tt }

statement_proper : (all : List Lexeme) → StatementProper (said.statement all)
unfolding said.statement
statement_proper all =
    or_proper (said.import all) _ (import_proper all)
    (or_proper (option_map statements.Sets (definitions.set all)) _ (set_proper (definitions.set all))
    (or_proper (option_map statements.Unexports (definitions.unexport all)) _ (unexport_proper (definitions.unexport all))
    (or_proper (option_map statements.Assigns (definitions.assignment all)) _ (assign_proper (definitions.assignment all) (assignment_bare all))
    (define_proper (definitions.function all) (function_bare all (read_name_at all 0))))))

stated_fine : (s : Option Statement) → StatementProper s → MaybeFine (option_map meaning.States s)
stated_fine None p = tt
stated_fine (Some s) p = p

bad_fine : (m : Option Meaning) → MaybeFine m → IsFine (said.or_bad m)
bad_fine None p = tt
bad_fine (Some m) p = p

sorted_fine : (all : List Lexeme) → IsFine (said.sorted all)
unfolding said.sorted
sorted_fine all = bad_fine _
    (or_fine (option_map meaning.Declares (said.module_line all)) _ (declared_fine (said.module_line all))
    (or_fine (option_map meaning.Marks (attribute_line all)) _ (marked_fine (attribute_line all) (mark_said all))
    (or_fine (option_map meaning.Aliases (alias_line all)) _ (alias_fine (alias_line all))
    (or_fine (option_map meaning.States (said.statement all)) _ (stated_fine (said.statement all) (statement_proper all))
    (begun_fine (heading_in_line all) (heading_fresh all))))))

lexemes_fine : (found : Option (List Lexeme)) → IsFine (said.or_plain (said.sharp_by found)).meaning
lexemes_fine None = tt
lexemes_fine (Some all) = sorted_fine all

from_fine : (path text : List ℕ) (line : TextLine) (bytes : List ℕ) → IsFine (said.said_by_front path text line bytes).meaning
unfolding said.sharp
from_fine path text line [] = tt
from_fine path text line (b ∷ rest) =
    either (λ (s : Said). IsFine s.meaning) (b == 35) (said.plain meaning.Ignored) _ tt
    (either (λ (s : Said). IsFine s.meaning) (is_blank b) (said.plain meaning.Indented) _ tt
    (lexemes_fine (lexemes path text line 0 (length line.text))))

said_fine : (path text : List ℕ) (line : TextLine) → IsFine (said.said_by_line path text line).meaning
unfolding said.said_by_line
said_fine path text line = from_fine path text line line.text

-- attributes with more said beside them
speak_more : (xs ys : List Options) (name : List ℕ) → SpeakOf xs name → SpeakOf (xs ++ ys) name
speak_more [] ys name s = absurd s
speak_more (x ∷ xs) ys name (inl e) = inl e
speak_more (x ∷ xs) ys name (inr s) = inr (speak_more xs ys name s)

speak_last : (xs ys : List Options) (name : List ℕ) → SpeakOf ys name → SpeakOf (xs ++ ys) name
speak_last [] ys name s = s
speak_last (x ∷ xs) ys name s = inr (speak_last xs ys name s)

said_more : (xs ys : List Options) (a : Attribute Expression) → IsSaid xs a → IsSaid (xs ++ ys) a
said_more xs ys (attribute.Arg a) s = (speak_more xs ys a.name.cooked s.0, s.1, s.2)
said_more xs ys _ s = tt

said_last : (xs ys : List Options) (a : Attribute Expression) → IsSaid ys a → IsSaid (xs ++ ys) a
said_last xs ys (attribute.Arg a) s = (speak_last xs ys a.name.cooked s.0, s.1, s.2)
said_last xs ys _ s = tt

spoken_more : (xs : List Spoken) (at : Place) (o : Option Options) (a : Attribute Expression) → IsSaid (said_of xs) a → IsSaid (said_of (items.and_spoken xs at o)) a
spoken_more xs at None a s = s
spoken_more xs at (Some o) a s = subst (λ ys. IsSaid ys a) (sym (map-append (λ (x : Spoken). x.options) xs (record { options = o; at = at } ∷ []))) (said_more (said_of xs) (o ∷ []) a s)

said_nothing : (xs : List Options) (a : Attribute Expression) → IsSaid [] a → IsSaid xs a
said_nothing xs (attribute.Arg a) s = absurd s.0
said_nothing xs _ s = tt

spoken_last : (xs : List Spoken) (at : Place) (o : Option Options) (a : Attribute Expression) → IsSaid (option_to_list o) a → IsSaid (said_of (items.and_spoken xs at o)) a
spoken_last xs at None a s = said_nothing (said_of xs) a s
spoken_last xs at (Some o) a s = subst (λ ys. IsSaid ys a) (sym (map-append (λ (x : Spoken). x.options) xs (record { options = o; at = at } ∷ []))) (said_last (said_of xs) (o ∷ []) a s)

-- steady steps
abbrev pub Goes : Result Reading Place → Type 0
Goes r = IfOk r IsSteady

item_steady_by : (r : Reading) (it : Item) (first : Option Place) → IsSteady r → IsProper it → Goes (items.item_by r it first)
item_steady_by r it None steady proper = record { proper = All-push IsProper r.items it steady.proper proper; said = steady.said }
item_steady_by r it (Some first) steady proper = tt

item_steady : (r : Reading) (it : Item) → IsSteady r → IsProper it → Goes (items.with_item r it)
item_steady r it steady proper = item_steady_by r it r.first steady proper

alias_proper : (a : AliasLine) → IsProper (items.alias_item a)
alias_proper a = record { bare = refl; priors = tt; attributes = tt }

mark_steady : (r : Reading) (at : Place) (m : Mark) → IsSteady r → MarkSaid (Some m) → IsSteady (items.with_mark r at m)
mark_steady r at m steady marked = record {
  proper = steady.proper;
  said = All-push (λ (n : NamedAttribute Expression). IsSaid (said_of (items.and_spoken r.spoken at m.options)) n.attribute) r.attributes m.named
      (λ k d within. spoken_more r.spoken at m.options (get_or r.attributes k d).attribute (steady.said k d within)) (spoken_last r.spoken at m.options m.named.attribute marked);
}

recipe_steady : (r : Reading) (made : Result (Recipe UnresolvedDependency) Place) → IsSteady r → RecipeProper made → Goes (items.with_recipe_of r made)
recipe_steady r (Err at) steady proper = tt
recipe_steady r (Ok made) steady proper = record {
  proper = All-push IsProper r.items (item.Recipe made) steady.proper proper;
  said = λ k d within. absurd (omega (arith, within));
}

module_steady_by : (r : Reading) (d : Declaration) (spoken : List Spoken) → IsSteady r → Goes (items.module_after r d spoken)
module_steady_by r d [] steady = record {
  proper = All-push IsProper r.items (item.Module d.name d.path None r.attributes None d.optional) steady.proper (record { bare = refl; priors = tt; attributes = tt });
  said = λ k d within. absurd (omega (arith, within));
}
module_steady_by r d (s ∷ rest) steady = tt

module_steady : (r : Reading) (d : Declaration) → IsSteady r → Goes (items.with_module r d)
module_steady r d steady = module_steady_by r d r.spoken steady

-- a line more
line_proper : (line : Line) (it : Item) → IsProper it → IsProper (items.add_line line it)
line_proper line (item.Recipe r) p = record {
  bare = ap (items.add_line line) p.bare;
  priors = p.priors;
  attributes = record { parameters = p.attributes.parameters; attributes = p.attributes.attributes };
}
line_proper line _ p = p

last_proper : (f : Item → Item) (xs : List Item) → ((x : Item) → IsProper x → IsProper (f x)) → All IsProper xs → All IsProper (items.with_last f xs)
last_proper f [] keeps all k d within = absurd (omega (arith, within))
last_proper f (x ∷ []) keeps all zero d within = keeps x (all 0 d (omega arith))
last_proper f (x ∷ []) keeps all (suc k) d within = absurd (omega (arith, within))
last_proper f (x ∷ y ∷ rest) keeps all zero d within = all 0 d (omega arith)
last_proper f (x ∷ y ∷ rest) keeps all (suc k) d within = last_proper f (y ∷ rest) keeps (λ n e h. all (suc n) e (omega (arith, h))) k d (omega (arith, within))

body_steady : (path text : List ℕ) (line : TextLine) (size start : ℕ) (r : Reading) (made : Option BodyLine) → IsSteady r → Goes (items.with_body_line path text line size start r made)
body_steady path text line size start r None steady = tt
body_steady path text line size start r (Some made) steady = record { proper = last_proper (items.add_line made.line) r.items (line_proper made.line) steady.proper; said = steady.said }

dropped_steady : (path text : List ℕ) (line : TextLine) (size : ℕ) (r : Reading) (start : Option ℕ) → IsSteady r → Goes (items.with_dropped path text line size r start)
dropped_steady path text line size r None steady = tt
dropped_steady path text line size r (Some start) steady = body_steady path text line size start r (body_line path text line start) steady

meaning_steady : (path text : List ℕ) (line : TextLine) (m : Meaning) (r : Reading) → IsSteady r → IsFine m → Goes (items.after_meaning path text line m r)
meaning_steady path text line meaning.Bad r steady fine = tt
meaning_steady path text line meaning.Ignored r steady fine = steady
meaning_steady path text line meaning.Indented r steady fine =
    either Goes (indent line == length line.text) (Ok r) _ steady (dropped_steady path text line (indent line) r (items.dropped r.body line (indent line)) steady)
meaning_steady path text line (meaning.Marks m) r steady fine = mark_steady r (line_place path text line) m steady fine
meaning_steady path text line (meaning.Begins h) r steady fine = recipe_steady r (recipe h r.attributes r.spoken) steady (recipe_proper h r.attributes r.spoken fine steady.said)
meaning_steady path text line (meaning.Declares d) r steady fine = module_steady r d steady
meaning_steady path text line (meaning.Aliases a) r steady fine = item_steady r (items.alias_item a) steady (alias_proper a)
meaning_steady path text line (meaning.States s) r steady fine = item_steady r (items.item_of s) steady fine

onward_steady : {B : Type 0} (P : B → Type 0) (r : Result Reading Place) (more : Reading → Result B Place) → Goes r → ((x : Reading) → IsSteady x → IfOk (more x) P) → IfOk (items.onward r more) P
onward_steady P (Err n) more goes next = tt
onward_steady P (Ok x) more goes next = next x goes

uses_steady : (lists : List ListUse) (r : Result Reading Place) → Goes r → Goes (items.with_uses lists r)
uses_steady lists (Err n) steady = tt
uses_steady lists (Ok r) steady = record { proper = steady.proper; said = steady.said }

lines_steady : (path text : List ℕ) (r : Reading) (ls : List TextLine) → IsSteady r → Goes (items.with_lines path text r ls)
lines_steady path text r [] steady = steady
lines_steady path text r (line ∷ rest) steady =
    onward_steady IsSteady (items.with_said path text line (said.said_by_line path text line) r) (λ more. items.with_lines path text more rest)
    (uses_steady (said.said_by_line path text line).lists (items.after_meaning path text line (said.said_by_line path text line).meaning r)
    (meaning_steady path text line (said.said_by_line path text line).meaning r steady (said_fine path text line)))
    (λ more s. lines_steady path text more rest s)

finished_proper_by : (r : Reading) (first : Option Place) → IsSteady r → IfOk (items.finished_by r first) (λ (i : Items). All IsProper i.items)
finished_proper_by r None steady = steady.proper
finished_proper_by r (Some first) steady = tt

finished_proper : (r : Reading) → IsSteady r → IfOk (items.finished r) (λ (i : Items). All IsProper i.items)
finished_proper r steady = finished_proper_by r r.first steady

-- the items of a text have no numbers, their priors are dependencies, and their attributes name parameters
pub items_proper : (path text : List ℕ) → IfOk (items.items_in_text path text) (λ (i : Items). All IsProper i.items)
unfolding items.items_in_text
items_proper path text =
    onward_steady (λ (i : Items). All IsProper i.items) (items.with_lines path text items.unread (lines_of text)) items.finished
    (lines_steady path text items.unread (lines_of text) (record { proper = λ k d within. absurd (omega (arith, within)); said = λ k d within. absurd (omega (arith, within)) }))
    finished_proper

pub found_proper : (path text : List ℕ) (found : Result Items Place) → found ≡ items.items_in_text path text → IfOk found (λ (i : Items). All IsProper i.items)
found_proper path text found is = subst (λ r. IfOk r (λ (i : Items). All IsProper i.items)) (sym is) (items_proper path text)
