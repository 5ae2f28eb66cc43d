-- The items of a text, line by line, without numbers.
use Rattle.std.specs.Prelude.{ℕ, ◌==◌, Bool, true, false, if◌then◌else◌, List, [], ◌∷◌, ◌++◌, length, take, codes, nat_eq, Option, Some, None, Result, Ok, Err}
use Rattle.std.specs.List.{starts_with}
use Rattle.just_names.specs.Token.{Place, lexeme}
use Rattle.just_parts.specs.Items.{Item}
use Rattle.just_ast_items.specs.declared.item.Item.TheVariants as item
use Rattle.just_recipe.specs.declared.dependency.UnresolvedDependency.{UnresolvedDependency}
use Rattle.just_recipe.specs.declared.recipe.Recipe.{Recipe}
use Rattle.just_ast_definitions.specs.declared.line.Fragment.{Fragment}
use Rattle.just_ast_definitions.specs.declared.line.Fragment.TheVariants as fragment
use Rattle.just_ast_definitions.specs.declared.line.Line.{Line}
use Rattle.just_ast_expressions.specs.declared.list_use.ListUse.{ListUse}
use Rattle.just_bench_expressions.specs.declared.lines.TextLine.{TextLine}
use Rattle.just_bench_expressions.specs.Lines.{line_place, lines_of}
use Rattle.just_bench_lines.specs.declared.alias.AliasLine.{AliasLine}
use Rattle.just_bench_lines.specs.declared.attributes.Mark.{Mark}
use Rattle.just_bench_lines.specs.declared.attributes.Options.{Options}
use Rattle.just_bench_lines.specs.declared.body.BodyLine.{BodyLine}
use Rattle.just_bench_lines.specs.declared.heading.Heading.{Heading}
use Rattle.just_bench_syntax.specs.declared.items.Body.{Body}
use Rattle.just_bench_syntax.specs.declared.items.Body.TheVariants as body
use Rattle.just_bench_syntax.specs.declared.items.Items.{Items}
use Rattle.just_bench_syntax.specs.declared.items.Reading.{Reading}
use Rattle.just_bench_syntax.specs.declared.recipe.Spoken.{Spoken}
use Rattle.just_bench_lines.specs.declared.meaning.Declaration.{Declaration}
use Rattle.just_bench_lines.specs.declared.meaning.Meaning.{Meaning}
use Rattle.just_bench_lines.specs.declared.meaning.Meaning.TheVariants as meaning
use Rattle.just_bench_lines.specs.declared.meaning.Said.{Said}
use Rattle.just_bench_lines.specs.declared.meaning.Statement.{Statement}
use Rattle.just_bench_lines.specs.declared.meaning.Statement.TheVariants as statements
use Rattle.just_bench_lines.specs.Body.{body_line, indent}
use Rattle.just_bench_lines.specs.Meaning.{said_by_line}
use Rattle.just_bench_stops.specs.Body.{body_stop}
use Rattle.just_bench_stops.specs.Stops.{line_stop}
use Rattle.just_bench_syntax.specs.Recipe.{recipe}

abbrev pub is_nil : {A : Type 0} → List A → Bool
is_nil [] = true
is_nil (x ∷ rest) = false

-- for the private functions: what was changed, or where the text does not follow the grammar
abbrev pub told : Result (Unit {0}) Place → Reading → Result Reading Place
told (Ok done) reading = Ok reading
told (Err at) reading = Err at

-- the item that a line is
abbrev pub item_of : Statement → Item
item_of (statements.Imports path optional) = item.Import path None optional
item_of (statements.Sets it) = item.Setting it
item_of (statements.Unexports name) = item.Unexport name
item_of (statements.Assigns it) = item.Assignment it
item_of (statements.Defines it) = item.Function it

-- the alias that a line is, without attributes
abbrev pub alias_item : AliasLine → Item
alias_item line = item.Alias (record { attributes = []; name = line.name; target = line.target })

-- an item that takes no attributes
abbrev pub item_by : Reading → Item → Option Place → Result Reading Place
item_by reading it None = Ok (record reading { items = reading.items ++ it ∷ []; body = body.Closed })
item_by reading it (Some first) = Err first

abbrev pub with_item : Reading → Item → Result Reading Place
with_item reading it = item_by reading it reading.first

-- an attribute of the next item, which is a line
abbrev pub and_spoken : List Spoken → Place → Option Options → List Spoken
and_spoken spoken at None = spoken
and_spoken spoken at (Some options) = spoken ++ record { options = options; at = at } ∷ []

abbrev pub or_first : Option Place → Place → Place
or_first None at = at
or_first (Some first) at = first

abbrev pub with_mark : Reading → Place → Mark → Reading
with_mark reading at mark = record reading {
  attributes = reading.attributes ++ mark.named ∷ [];
  spoken = and_spoken reading.spoken at mark.options;
  first = Some (or_first reading.first at);
  body = body.Closed;
}

-- a recipe with the attributes before it
abbrev pub with_recipe_of : Reading → Result (Recipe UnresolvedDependency) Place → Result Reading Place
with_recipe_of reading (Err at) = Err at
with_recipe_of reading (Ok r) = Ok (record reading { items = reading.items ++ item.Recipe r ∷ []; attributes = []; spoken = []; first = None; body = body.Begins })

abbrev pub after_recipe : Reading → Heading → Result Reading Place
after_recipe reading h = with_recipe_of reading (recipe h reading.attributes reading.spoken)

-- a module with the attributes before it, none of which speaks of a parameter
abbrev pub module_after : Reading → Declaration → List Spoken → Result Reading Place
module_after reading declared [] = Ok (record reading { items = reading.items ++ item.Module declared.name declared.path None reading.attributes None declared.optional ∷ []; attributes = []; first = None; body = body.Closed })
module_after reading declared (s ∷ rest) = Err s.at

abbrev pub with_module : Reading → Declaration → Result Reading Place
with_module reading declared = module_after reading declared reading.spoken

-- a line that begins with `#!`
abbrev pub begins_shebang : List Fragment → Bool
begins_shebang [] = false
begins_shebang (fragment.Text token ∷ rest) = starts_with nat_eq (lexeme token) (codes "#!")
begins_shebang (fragment.Interpolation it ∷ rest) = false

abbrev pub is_shebang : Line → Bool
is_shebang line = begins_shebang line.fragments

-- a recipe with another line; the first line says whether it is a script
abbrev pub add_line : Line → Item → Item
add_line line (item.Recipe r) = item.Recipe (record r { body = r.body ++ line ∷ []; shebang = if is_nil r.body then is_shebang line else r.shebang })
add_line line it = it

-- the last of a list changed
abbrev pub with_last : {A : Type 0} → (A → A) → List A → List A
with_last f [] = []
with_last f (x ∷ []) = f x ∷ []
with_last f (x ∷ y ∷ rest) = x ∷ with_last f (y ∷ rest)

-- how many blanks and tabs are dropped from a line that begins with so many, if it may stand in a body there
abbrev pub dropped : Body → TextLine → ℕ → Option ℕ
dropped body.Closed line size = None
dropped body.Begins line size = Some size
dropped (body.Goes first) line size = if starts_with nat_eq (take size line.text) first then Some (length first) else None

-- the first line of a body says which blanks and tabs are dropped
abbrev pub begun_body : TextLine → ℕ → Body → Body
begun_body line size body.Begins = body.Goes (take size line.text)
begun_body line size it = it

abbrev pub with_body_line : List ℕ → List ℕ → TextLine → ℕ → ℕ → Reading → Option BodyLine → Result Reading Place
with_body_line path text line size start reading None = Err (body_stop path text line start)
with_body_line path text line size start reading (Some made) =
    Ok (record reading { items = with_last (add_line made.line) reading.items; lists = reading.lists ++ made.lists; body = begun_body line size reading.body })

-- an indented line: one of a body, or told as a whole where none may stand
abbrev pub with_dropped : List ℕ → List ℕ → TextLine → ℕ → Reading → Option ℕ → Result Reading Place
with_dropped path text line size reading None = Err (line_place path text line)
with_dropped path text line size reading (Some start) = with_body_line path text line size start reading (body_line path text line start)

-- an indented line; one of blanks and tabs alone is none
abbrev pub with_body : List ℕ → List ℕ → TextLine → Reading → Result Reading Place
with_body path text line reading =
    if indent line == length line.text then Ok reading else with_dropped path text line (indent line) reading (dropped reading.body line (indent line))

-- after a line that means this
abbrev pub after_meaning : List ℕ → List ℕ → TextLine → Meaning → Reading → Result Reading Place
after_meaning path text line meaning.Bad reading = Err (line_stop path text line)
after_meaning path text line meaning.Ignored reading = Ok reading
after_meaning path text line meaning.Indented reading = with_body path text line reading
after_meaning path text line (meaning.Marks mark) reading = Ok (with_mark reading (line_place path text line) mark)
after_meaning path text line (meaning.Begins h) reading = after_recipe reading h
after_meaning path text line (meaning.Declares declared) reading = with_module reading declared
after_meaning path text line (meaning.Aliases it) reading = with_item reading (alias_item it)
after_meaning path text line (meaning.States it) reading = with_item reading (item_of it)

-- for what follows
abbrev pub onward : {A B : Type 0} → Result A Place → (A → Result B Place) → Result B Place
onward (Err at) more = Err at
onward (Ok x) more = more x

-- after a line, with where it needs lists
abbrev pub with_uses : List ListUse → Result Reading Place → Result Reading Place
with_uses lists (Err at) = Err at
with_uses lists (Ok reading) = Ok (record reading { lists = reading.lists ++ lists })

abbrev pub with_said : List ℕ → List ℕ → TextLine → Said → Reading → Result Reading Place
with_said path text line it reading = with_uses it.lists (after_meaning path text line it.meaning reading)

-- after lines
abbrev pub with_lines : List ℕ → List ℕ → Reading → List TextLine → Result Reading Place
with_lines path text reading [] = Ok reading
with_lines path text reading (line ∷ rest) = onward (with_said path text line (said_by_line path text line) reading) (λ more. with_lines path text more rest)

-- before any line
abbrev pub unread : Reading
unread = record { items = []; lists = []; attributes = []; spoken = []; first = None; body = body.Closed }

-- at the end of a text no attribute is left
abbrev pub finished_by : Reading → Option Place → Result Items Place
finished_by reading None = Ok (record { items = reading.items; lists = reading.lists })
finished_by reading (Some first) = Err first

abbrev pub finished : Reading → Result Items Place
finished reading = finished_by reading reading.first

-- the items of a text, or where it does not follow the grammar: at the line of an attribute that does not fit, at an indented line that may not stand there, or where reading of a line stops
unfoldable pub items_in_text : List ℕ → List ℕ → Result Items Place
items_in_text path text = onward (with_lines path text unread (lines_of text)) finished
