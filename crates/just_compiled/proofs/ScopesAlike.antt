-- What a recipe that is made reads in its scopes is what its source reads there.
use Rattle.std.proofs.Common.{◌≡◌, ◌∙◌, Bool, true, false, ◌&&◌, ◌||◌, not, List, [], ◌∷◌, ◌++◌, map, Option, None, Some, refl, sym, ap, if◌then◌else◌}
use Rattle.std.specs.Prelude.{flat_map, option_to_list}
use Rattle.std.specs.List.{AllZip, list_any}
use Rattle.std.specs.Option.{option_map}
use Rattle.std.specs.Str.{bytes_eq}
use Rattle.std.proofs.lemmas.Grind.{flat_map-append}
use Rattle.std.proofs.lemmas.List.{map-append}
use Rattle.just_ast_definitions.specs.declared.attribute.ArgumentProperty.{ArgumentProperty}
use Rattle.just_ast_definitions.specs.declared.attribute.Attribute.{Attribute}
use Rattle.just_ast_definitions.specs.declared.attribute.Attribute.TheVariants as attribute
use Rattle.just_ast_definitions.specs.declared.attribute.NamedAttribute.{NamedAttribute}
use Rattle.just_ast_definitions.specs.declared.line.Fragment.{Fragment}
use Rattle.just_ast_definitions.specs.declared.line.Fragment.TheVariants as fragment
use Rattle.just_ast_definitions.specs.declared.line.Line.{Line}
use Rattle.just_ast_definitions.specs.declared.parameter.Parameter.{Parameter}
use Rattle.just_ast_expressions.specs.declared.expression.Expression.{Expression}
use Rattle.just_ast_expressions.specs.declared.settings.Settings.{Settings}
use Rattle.just_ast_references.specs.Mentions.{Mention, mention_of}
use Rattle.just_ast_references.specs.Numbers.{with_numbers}
use Rattle.just_ast_references.proofs.Renumbering.{keeps_references, numbers_stay}
use Rattle.just_names.specs.Name.{text_of_name}
use Rattle.just_names.specs.Texts.{Text}
use Rattle.just_names.specs.declared.number.Number.{Number}
use Rattle.just_parts.specs.Groups.{ends_group}
use Rattle.just_parts.specs.Reading.{mentions}
use Rattle.just_parts.specs.Scopes.{Scoped, attribute_expressions, compiled_expressions, environment_expressions, fragment_expressions, inner_expressions, is_parameter, line_expressions, lines_read, in_attributes, parameter_expressions, parameter_scopes, property_expressions, read_lines, scoped, scopes_of}
use Rattle.just_parts.specs.Known.{none_hidden}
use Rattle.just_parts.specs.Syntax.{SyntaxAnswers}
use Rattle.just_recipe.specs.declared.dependency.Dependency.{Dependency}
use Rattle.just_recipe.specs.Script.{is_script, is_shell, says_shell}
use Rattle.just_recipe.specs.declared.dependency.DependencyArgument.{DependencyArgument}
use Rattle.just_recipe.specs.declared.dependency.UnresolvedDependency.{UnresolvedDependency}
use Rattle.just_recipe.specs.declared.recipe.Recipe.{Recipe}
use Rattle.just_recipe_names.specs.Numbered.{attribute_by, dependency_by, fragment_by, argument_given_by, line_by, attribute_with, numbered_body, numbered_parameters, parameter_by, property_by, shell_lines_by, under_parameters}
use Rattle.just_recipe.specs.Recipes.{arguments_of}
use Rattle.just_parts.specs.Bare.{bare_fragment, bare_line}
use Rattle.just_recipe_values.specs.Valued.{informed, valued_attribute, valued_named}

-- what is seen of an expression in its scope: which names are hidden there, and what it mentions
abbrev pub Seen : Type 0
Seen = (Text → Bool) × List Mention

abbrev pub seen : Scoped → Seen
seen s = (s.hidden, mentions s.expression)

-- of both parts of a list
both_alike : {A B : Type 0} (f : A → B) (xs ys us vs : List A) → map f xs ≡ map f us → map f ys ≡ map f vs → map f (xs ++ ys) ≡ map f (us ++ vs)
both_alike f xs ys us vs first second = map-append f xs ys ∙ (λ i. first i ++ second i) ∙ sym (map-append f us vs)

-- in one scope
seen_there : (hidden : Text → Bool) (es : List Expression) → map seen (map (scoped hidden) es) ≡ map (λ (ms : List Mention). (hidden, ms)) (map mentions es)
seen_there hidden [] = refl
seen_there hidden (e ∷ es) = ap (λ (rest : List Seen). (hidden, mentions e) ∷ rest) (seen_there hidden es)

seen_alike : (hidden shown : Text → Bool) (es ds : List Expression) → hidden ≡ shown → map mentions es ≡ map mentions ds → map seen (map (scoped hidden) es) ≡ map seen (map (scoped shown) ds)
seen_alike hidden shown es ds scope said = seen_there hidden es ∙ (λ i. map (λ (ms : List Mention). (scope i, ms)) (said i)) ∙ sym (seen_there shown ds)

-- an expression that is changed in nothing that it mentions
module _ (by : Expression → Expression) (same : (e : Expression) → mentions (by e) ≡ mentions e) where
  option_alike : (o : Option Expression) → map mentions (option_to_list (option_map by o)) ≡ map mentions (option_to_list o)
  option_alike None = refl
  option_alike (Some e) = λ i. same e i ∷ []

  property_alike : (o : Option (ArgumentProperty Expression)) → map mentions (property_expressions (option_map (property_by by) o)) ≡ map mentions (property_expressions o)
  property_alike None = refl
  property_alike (Some p) = λ i. same p.value i ∷ []

  fragments_alike : (fs : List Fragment) → map mentions (flat_map fragment_expressions (map (fragment_by by) fs)) ≡ map mentions (flat_map fragment_expressions fs)
  fragments_alike [] = refl
  fragments_alike (fragment.Text token ∷ fs) = fragments_alike fs
  fragments_alike (fragment.Interpolation e ∷ fs) = λ i. same e i ∷ fragments_alike fs i

  lines_alike : (lines : List Line) → map mentions (flat_map line_expressions (map (line_by by) lines)) ≡ map mentions (flat_map line_expressions lines)
  lines_alike [] = refl
  lines_alike (line ∷ lines) =
      both_alike mentions (line_expressions (line_by by line)) (flat_map line_expressions (map (line_by by) lines)) (line_expressions line) (flat_map line_expressions lines) (fragments_alike line.fragments) (lines_alike lines)

  -- the lines of a shell body that are read, where such a change makes no comment and no continuation of a line
  module _ (answers : SyntaxAnswers) (settings : Settings) (comments : (line : Line) → answers.is_comment (line_by by line) ≡ answers.is_comment line) (continuations : (line : Line) → answers.is_continuation (line_by by line) ≡ answers.is_continuation line) where
    abbrev skips : Bool → Line → Bool
    skips begins line = begins && (settings.ignore_comments && answers.is_comment line)

    abbrev read_of : Bool → List Line → List Expression
    read_of begins lines = flat_map line_expressions (read_lines answers settings begins lines)

    ends_alike : (begins : Bool) (line : Line) → ends_group answers settings (line_by by line) begins ≡ ends_group answers settings line begins
    ends_alike begins line = λ i. not (continuations line i) || (begins && (settings.ignore_comments && comments line i))

    -- lines before others
    lines_before : (xs ys us vs : List Line) → map mentions (flat_map line_expressions xs) ≡ map mentions (flat_map line_expressions us) → map mentions (flat_map line_expressions ys) ≡ map mentions (flat_map line_expressions vs)
        → map mentions (flat_map line_expressions (xs ++ ys)) ≡ map mentions (flat_map line_expressions (us ++ vs))
    lines_before xs ys us vs first second =
        ap (map mentions) (flat_map-append line_expressions xs ys)
        ∙ both_alike mentions (flat_map line_expressions xs) (flat_map line_expressions ys) (flat_map line_expressions us) (flat_map line_expressions vs) first second
        ∙ sym (ap (map mentions) (flat_map-append line_expressions us vs))

    abbrev kept_if : Bool → Line → List Line
    kept_if skip line = if skip then [] else line ∷ []

    kept_alike : (line : Line) (skip : Bool) → map mentions (flat_map line_expressions (kept_if skip (line_by by line))) ≡ map mentions (flat_map line_expressions (kept_if skip line))
    kept_alike line true = refl
    kept_alike line false = lines_alike (line ∷ [])

    abbrev next : Bool → Line → Bool
    next begins line = ends_group answers settings line begins

    -- one more line, skipped or changed
    line_alike : (begins : Bool) (line : Line) (made lines : List Line) → map mentions (read_of (next begins line) made) ≡ map mentions (read_of (next begins line) lines)
        → (skip : Bool) → map mentions (read_of begins ((if skip then line else line_by by line) ∷ made)) ≡ map mentions (read_of begins (line ∷ lines))
    line_alike begins line made lines rest true =
        lines_before (kept_if (skips begins line) line) (read_lines answers settings (next begins line) made) (kept_if (skips begins line) line) (read_lines answers settings (next begins line) lines) refl rest
    line_alike begins line made lines rest false =
        (λ i. map mentions (flat_map line_expressions (kept_if (begins && (settings.ignore_comments && comments line i)) (line_by by line) ++ read_lines answers settings (ends_alike begins line i) made)))
        ∙ lines_before (kept_if (skips begins line) (line_by by line)) (read_lines answers settings (next begins line) made) (kept_if (skips begins line) line) (read_lines answers settings (next begins line) lines) (kept_alike line (skips begins line)) rest

    shell_alike : (begins : Bool) (lines : List Line) → map mentions (read_of begins (shell_lines_by by answers settings begins lines)) ≡ map mentions (read_of begins lines)
    shell_alike begins [] = refl
    shell_alike begins (line ∷ lines) = line_alike begins line (shell_lines_by by answers settings (next begins line) lines) lines (shell_alike (next begins line) lines) (skips begins line)

-- attributes that are changed so, and say what they come to
module _ (value : Expression → Option (List Text)) (outer inner : Expression → Expression) where
  abbrev pub changed : Attribute Expression → Attribute Expression
  changed a = valued_attribute value (attribute_by outer inner a)

  abbrev pub all_changed : List (NamedAttribute Expression) → List (NamedAttribute Expression)
  all_changed attributes = map (valued_named value) (map (attribute_with outer inner) attributes)

  module _ (outer_same : (e : Expression) → mentions (outer e) ≡ mentions e) (inner_same : (e : Expression) → mentions (inner e) ≡ mentions e) where
    compiled_alike : (a : Attribute Expression) → map mentions (compiled_expressions (changed a)) ≡ map mentions (compiled_expressions a)
    compiled_alike (attribute.Arg a) =
        both_alike mentions (property_expressions (option_map (property_by outer) a.help_property)) (property_expressions (option_map (property_by outer) a.pattern_property)) (property_expressions a.help_property) (property_expressions a.pattern_property)
        (property_alike outer outer_same a.help_property) (property_alike outer outer_same a.pattern_property)
    compiled_alike (attribute.Doc e) = option_alike outer outer_same e
    compiled_alike _ = refl

    environment_alike : (a : Attribute Expression) → map mentions (environment_expressions (changed a)) ≡ map mentions (environment_expressions a)
    environment_alike (attribute.Env e) = λ i. outer_same e.name i ∷ outer_same e.value i ∷ []
    environment_alike _ = refl

    attribute_alike : (a : Attribute Expression) → map mentions (attribute_expressions (changed a)) ≡ map mentions (attribute_expressions a)
    attribute_alike (attribute.Cache c) =
        both_alike mentions (option_to_list (option_map inner c.extra)) (option_to_list (option_map inner c.inputs) ++ option_to_list (option_map inner c.outputs)) (option_to_list c.extra) (option_to_list c.inputs ++ option_to_list c.outputs)
        (option_alike inner inner_same c.extra)
        (both_alike mentions (option_to_list (option_map inner c.inputs)) (option_to_list (option_map inner c.outputs)) (option_to_list c.inputs) (option_to_list c.outputs) (option_alike inner inner_same c.inputs) (option_alike inner inner_same c.outputs))
    attribute_alike (attribute.Confirm e) = option_alike inner inner_same e
    attribute_alike (attribute.Timestamp e) = option_alike inner inner_same e
    attribute_alike (attribute.WorkingDirectory e) = λ i. inner_same e i ∷ []
    attribute_alike _ = refl

    shell_said : (a : Attribute Expression) → says_shell (changed a) ≡ says_shell a
    shell_said (attribute.Arg a) = refl
    shell_said _ = refl

    shells_said : (attributes : List (NamedAttribute Expression)) → list_any is_shell (all_changed attributes) ≡ list_any is_shell attributes
    shells_said [] = refl
    shells_said (a ∷ attributes) = λ i. shell_said a.attribute i || shells_said attributes i

    all_alike : (has : Attribute Expression → List Expression) → ((a : Attribute Expression) → map mentions (has (changed a)) ≡ map mentions (has a)) → (attributes : List (NamedAttribute Expression))
        → map mentions (flat_map (λ (named : NamedAttribute Expression). has named.attribute) (all_changed attributes)) ≡ map mentions (flat_map (λ (named : NamedAttribute Expression). has named.attribute) attributes)
    all_alike has same [] = refl
    all_alike has same (a ∷ attributes) =
        let of = λ (named : NamedAttribute Expression). has named.attribute in
        both_alike mentions (has (changed a.attribute)) (flat_map of (all_changed attributes)) (has a.attribute) (flat_map of attributes) (same a.attribute) (all_alike has same attributes)

-- parameters of the same names
abbrev texts : List Parameter → List Text
texts = map (λ (p : Parameter). text_of_name p.name)

by_texts : (ps : List Parameter) (name : Text) → is_parameter ps name ≡ list_any (λ (t : Text). bytes_eq t name) (texts ps)
by_texts [] name = refl
by_texts (p ∷ ps) name = ap (λ (b : Bool). bytes_eq (text_of_name p.name) name || b) (by_texts ps name)

hidden_alike : (ps qs : List Parameter) → texts ps ≡ texts qs → is_parameter ps ≡ is_parameter qs
hidden_alike ps qs same = λ i name. (by_texts ps name ∙ ap (λ (ts : List Text). list_any (λ (t : Text). bytes_eq t name) ts) same ∙ sym (by_texts qs name)) i

module _ (number : List Parameter → Text → Option Number) (attributes : List (NamedAttribute Expression)) (same : (ps : List Parameter) (e : Expression) → mentions (under_parameters number ps e) ≡ mentions e) where
  abbrev made_of : List Parameter → List Parameter → List Parameter
  made_of before ps = map (informed attributes) (numbered_parameters number before ps)

  texts_made : (before ps : List Parameter) → texts (made_of before ps) ≡ texts ps
  texts_made before [] = refl
  texts_made before (p ∷ ps) = ap (λ (ts : List Text). text_of_name p.name ∷ ts) (texts_made (before ++ p ∷ []) ps)

  texts_more : (made before : List Parameter) (p : Parameter) → texts made ≡ texts before → texts (made ++ informed attributes (parameter_by (under_parameters number before) p) ∷ []) ≡ texts (before ++ p ∷ [])
  texts_more made before p named =
      map-append (λ (q : Parameter). text_of_name q.name) made (informed attributes (parameter_by (under_parameters number before) p) ∷ []) ∙ ap (λ (ts : List Text). ts ++ text_of_name p.name ∷ []) named ∙ sym (map-append (λ (q : Parameter). text_of_name q.name) before (p ∷ []))

  parameter_alike : (before : List Parameter) (p : Parameter) → map mentions (parameter_expressions (informed attributes (parameter_by (under_parameters number before) p))) ≡ map mentions (parameter_expressions p)
  parameter_alike before p =
      both_alike mentions (option_to_list (option_map (under_parameters number before) p.default)) (option_to_list (option_map (under_parameters number before) p.value)) (option_to_list p.default) (option_to_list p.value)
      (option_alike (under_parameters number before) (same before) p.default) (option_alike (under_parameters number before) (same before) p.value)

  parameters_alike : (made before ps : List Parameter) → texts made ≡ texts before → map seen (parameter_scopes made (made_of before ps)) ≡ map seen (parameter_scopes before ps)
  parameters_alike made before [] named = refl
  parameters_alike made before (p ∷ ps) named =
      let q : Parameter = informed attributes (parameter_by (under_parameters number before) p) in
      both_alike seen (map (scoped (is_parameter made)) (parameter_expressions q)) (parameter_scopes (made ++ q ∷ []) (made_of (before ++ p ∷ []) ps)) (map (scoped (is_parameter before)) (parameter_expressions p)) (parameter_scopes (before ++ p ∷ []) ps)
      (seen_alike (is_parameter made) (is_parameter before) (parameter_expressions q) (parameter_expressions p) (hidden_alike made before named) (parameter_alike before p))
      (parameters_alike (made ++ q ∷ []) (before ++ p ∷ []) ps (texts_more made before p named))

-- other numbers change nothing that an expression mentions
keeps_mentions : (number_of : Text → Option Number) (e : Expression) → mentions (with_numbers number_of e) ≡ mentions e
keeps_mentions number_of e = ap (map mention_of) (keeps_references number_of e)

-- nor what a line is without numbers
fragments_bare : (number_of : Text → Option Number) (fs : List Fragment) → map bare_fragment (map (fragment_by (with_numbers number_of)) fs) ≡ map bare_fragment fs
fragments_bare number_of [] = refl
fragments_bare number_of (fragment.Text token ∷ fs) = ap (λ (rest : List Fragment). fragment.Text token ∷ rest) (fragments_bare number_of fs)
fragments_bare number_of (fragment.Interpolation e ∷ fs) = λ i. fragment.Interpolation (numbers_stay number_of (λ name. None) e i) ∷ fragments_bare number_of fs i

line_bare : (number_of : Text → Option Number) (line : Line) → bare_line (line_by (with_numbers number_of) line) ≡ bare_line line
line_bare number_of line = λ i. record line { fragments = fragments_bare number_of line.fragments i }

abbrev expression_of : DependencyArgument → Expression
expression_of a = a.expression

abbrev written_of : UnresolvedDependency → List Expression
written_of d = map expression_of d.arguments

abbrev linked_of : Dependency → List Expression
linked_of d = map expression_of (arguments_of d)

-- the arguments of dependencies that are linked whole
whole_alike : (ds : List UnresolvedDependency) (ms : List Dependency) → AllZip (λ (d : UnresolvedDependency) (m : Dependency). arguments_of m ≡ d.arguments) ds ms → flat_map linked_of ms ≡ flat_map written_of ds
whole_alike [] [] all = refl
whole_alike [] (m ∷ ms) all = absurd all
whole_alike (d ∷ ds) [] all = absurd all
whole_alike (d ∷ ds) (m ∷ ms) all = λ i. map expression_of (all.0 i) ++ whole_alike ds ms all.1 i

-- and of those that are changed
module _ (by : Expression → Expression) (same : (e : Expression) → mentions (by e) ≡ mentions e) where
  given_alike : (given : List DependencyArgument) → map mentions (map expression_of (map (argument_given_by by) given)) ≡ map mentions (map expression_of given)
  given_alike [] = refl
  given_alike (a ∷ given) = λ i. same a.expression i ∷ given_alike given i

  dependencies_alike : (ds : List UnresolvedDependency) → map mentions (flat_map written_of (map (dependency_by by) ds)) ≡ map mentions (flat_map written_of ds)
  dependencies_alike [] = refl
  dependencies_alike (d ∷ ds) = both_alike mentions (written_of (dependency_by by d)) (flat_map written_of (map (dependency_by by) ds)) (written_of d) (flat_map written_of ds) (given_alike d.arguments) (dependencies_alike ds)

-- A recipe that is made of a source: its attributes, parameters and lines with numbers and values, and its arguments whole.
pub record IsNumberedOf (answers : SyntaxAnswers) (settings : Settings) (value : Expression → Option (List Text)) (number : List Parameter → Text → Option Number) (source : Recipe UnresolvedDependency) (made : Recipe Dependency) : Type 0 where
  pub attributes : made.attributes ≡ all_changed value (under_parameters number []) (under_parameters number source.parameters) source.attributes
  pub parameters : made.parameters ≡ map (informed (all_changed value (under_parameters number []) (under_parameters number source.parameters) source.attributes)) (numbered_parameters number [] source.parameters)
  pub body : made.body ≡ numbered_body number answers settings source
  pub shebang : made.shebang ≡ source.shebang
  pub dependencies : AllZip (λ (d : UnresolvedDependency) (m : Dependency). arguments_of m ≡ d.arguments) (map (dependency_by (under_parameters number source.parameters)) source.dependencies) made.dependencies

module _ (answers : SyntaxAnswers) (settings : Settings) (value : Expression → Option (List Text)) (number : List Parameter → Text → Option Number) (source : Recipe UnresolvedDependency) (made : Recipe Dependency) (is : IsNumberedOf answers settings value number source made) where
  abbrev by : Expression → Expression
  by = under_parameters number source.parameters

  outer_same : (e : Expression) → mentions (under_parameters number [] e) ≡ mentions e
  outer_same = keeps_mentions (number [])

  by_same : (e : Expression) → mentions (by e) ≡ mentions e
  by_same = keeps_mentions (number source.parameters)

  comments : (line : Line) → answers.is_comment (line_by by line) ≡ answers.is_comment line
  comments line = sym (answers.comments (line_by by line)) ∙ ap answers.is_comment (line_bare (number source.parameters) line) ∙ answers.comments line

  continuations : (line : Line) → answers.is_continuation (line_by by line) ≡ answers.is_continuation line
  continuations line = sym (answers.continuations (line_by by line)) ∙ ap answers.is_continuation (line_bare (number source.parameters) line) ∙ answers.continuations line

  attributes_alike : (has : Attribute Expression → List Expression) → ((a : Attribute Expression) → map mentions (has (changed value (under_parameters number []) by a)) ≡ map mentions (has a))
      → map mentions (in_attributes has made) ≡ map mentions (in_attributes has source)
  attributes_alike has same =
      ap (λ (all : List (NamedAttribute Expression)). map mentions (flat_map (λ (named : NamedAttribute Expression). has named.attribute) all)) is.attributes
      ∙ all_alike value (under_parameters number []) by outer_same by_same has same source.attributes

  script_alike : is_script made settings ≡ is_script source settings
  script_alike = λ i. not ((ap (list_any is_shell) is.attributes ∙ shells_said value (under_parameters number []) by outer_same by_same source.attributes) i) && (is.shebang i || settings.default_script)

  -- all lines of a script, or those that are read
  abbrev body_by : Bool → List Line
  body_by script = if script then map (line_by by) source.body else shell_lines_by by answers settings true source.body

  read_alike : (script : Bool) → map mentions (flat_map line_expressions (if script then body_by script else read_lines answers settings true (body_by script))) ≡ map mentions (flat_map line_expressions (if script then source.body else read_lines answers settings true source.body))
  read_alike true = lines_alike by by_same source.body
  read_alike false = shell_alike by by_same answers settings comments continuations true source.body

  body_alike : map mentions (flat_map line_expressions (lines_read answers settings made)) ≡ map mentions (flat_map line_expressions (lines_read answers settings source))
  body_alike = (λ i. map mentions (flat_map line_expressions (if script_alike i then is.body i else read_lines answers settings true (is.body i)))) ∙ read_alike (is_script source settings)

  arguments_alike : map mentions (flat_map linked_of made.dependencies) ≡ map mentions (flat_map written_of source.dependencies)
  arguments_alike = ap (map mentions) (whole_alike (map (dependency_by by) source.dependencies) made.dependencies is.dependencies) ∙ dependencies_alike by by_same source.dependencies

  abbrev told : List (NamedAttribute Expression)
  told = all_changed value (under_parameters number []) by source.attributes

  same_under : (ps : List Parameter) (e : Expression) → mentions (under_parameters number ps e) ≡ mentions e
  same_under ps = keeps_mentions (number ps)

  abbrev numbered : List Parameter
  numbered = made_of number told same_under [] source.parameters

  parameters_hidden : is_parameter made.parameters ≡ is_parameter source.parameters
  parameters_hidden = ap is_parameter is.parameters ∙ hidden_alike numbered source.parameters (texts_made number told same_under [] source.parameters)

  scopes_of_parameters : map seen (parameter_scopes [] made.parameters) ≡ map seen (parameter_scopes [] source.parameters)
  scopes_of_parameters = ap (λ (ps : List Parameter). map seen (parameter_scopes [] ps)) is.parameters ∙ parameters_alike number told same_under [] [] source.parameters refl

  -- what is evaluated where no parameter is known, and where all are
  outer_alike : map mentions (in_attributes compiled_expressions made ++ in_attributes environment_expressions made) ≡ map mentions (in_attributes compiled_expressions source ++ in_attributes environment_expressions source)
  outer_alike =
      both_alike mentions (in_attributes compiled_expressions made) (in_attributes environment_expressions made) (in_attributes compiled_expressions source) (in_attributes environment_expressions source)
      (attributes_alike compiled_expressions (compiled_alike value (under_parameters number []) by outer_same by_same)) (attributes_alike environment_expressions (environment_alike value (under_parameters number []) by outer_same by_same))

  inner_alike : map mentions (inner_expressions arguments_of answers settings made) ≡ map mentions (inner_expressions (λ (d : UnresolvedDependency). d.arguments) answers settings source)
  inner_alike =
      let lines = flat_map line_expressions (lines_read answers settings made) in
      let read = flat_map line_expressions (lines_read answers settings source) in
      both_alike mentions (in_attributes attribute_expressions made) (lines ++ flat_map linked_of made.dependencies) (in_attributes attribute_expressions source) (read ++ flat_map written_of source.dependencies)
      (attributes_alike attribute_expressions (attribute_alike value (under_parameters number []) by outer_same by_same))
      (both_alike mentions lines (flat_map linked_of made.dependencies) read (flat_map written_of source.dependencies) body_alike arguments_alike)

  -- so in its scopes there is what is in those of its source
  pub scopes_alike : map seen (scopes_of arguments_of answers settings made) ≡ map seen (scopes_of (λ (d : UnresolvedDependency). d.arguments) answers settings source)
  scopes_alike =
      let outer = in_attributes compiled_expressions made ++ in_attributes environment_expressions made in
      let first = in_attributes compiled_expressions source ++ in_attributes environment_expressions source in
      let inner = inner_expressions arguments_of answers settings made in
      let last = inner_expressions (λ (d : UnresolvedDependency). d.arguments) answers settings source in
      both_alike seen (map (scoped none_hidden) outer) (parameter_scopes [] made.parameters ++ map (scoped (is_parameter made.parameters)) inner) (map (scoped none_hidden) first) (parameter_scopes [] source.parameters ++ map (scoped (is_parameter source.parameters)) last)
      (seen_alike none_hidden none_hidden outer first refl outer_alike)
      (both_alike seen (parameter_scopes [] made.parameters) (map (scoped (is_parameter made.parameters)) inner) (parameter_scopes [] source.parameters) (map (scoped (is_parameter source.parameters)) last)
      scopes_of_parameters (seen_alike (is_parameter made.parameters) (is_parameter source.parameters) inner last parameters_hidden inner_alike))
