-- What is read has no numbers, and its attributes fit.
use Rattle.std.proofs.Common.{zero, suc, ◌⊎◌, inl, inr, get_or, ◌≡◌, ◌≢◌, ℕ, ◌+◌, ◌-◌, sym, ◌∙◌, ap, refl, subst, List, [], ◌∷◌, ◌++◌, map, drop, Bool, true, false, arith, Option, Some, None, Result, Ok, Err}
use Rattle.std.specs.Prelude.{if◌then◌else◌, is_some, not}
use Rattle.std.specs.List.{All, Contains}
use Rattle.std.specs.Option.{option_map}
use Rattle.std.specs.Str.{bytes_eq}
use Rattle.std.proofs.lemmas.Bool.{or_cases}
use Rattle.std.proofs.lemmas.List.{length-append}
use Rattle.std.proofs.lemmas.List.Elements.{Contains-append_right}
use Rattle.std.proofs.lemmas.Slice.Eq.{bytes_eq-Decides}
use Rattle.just_names.specs.Token.{Place, lexeme}
use Rattle.just_names.specs.declared.name.Name.{Name}
use Rattle.just_parts.specs.Bare.{bare_parameter}
use Rattle.just_parts.specs.Syntax.{IsPlain, NamesParameter}
use Rattle.just_ast_items.specs.declared.item.Item.TheVariants as item
use Rattle.just_recipe.specs.declared.dependency.UnresolvedDependency.{UnresolvedDependency}
use Rattle.just_recipe.specs.declared.recipe.Recipe.{Recipe}
use Rattle.just_ast_definitions.specs.declared.attribute.Attribute.{Attribute}
use Rattle.just_ast_definitions.specs.declared.attribute.Attribute.TheVariants as attribute
use Rattle.just_ast_definitions.specs.declared.attribute.NamedAttribute.{NamedAttribute}
use Rattle.just_ast_expressions.specs.declared.expression.Expression.{Expression}
use Rattle.just_ast_definitions.specs.declared.parameter.Parameter.{Parameter}
use Rattle.just_ast_definitions.specs.declared.parameter.ParameterKind.{ParameterKind}
use Rattle.just_ast_definitions.specs.declared.parameter.ParameterKind.TheVariants as parameter_kind
use Rattle.just_bench_expressions.specs.declared.expressions.Found.{Found}
use Rattle.just_bench_expressions.specs.declared.lexer.Lexeme.{Lexeme}
use Rattle.just_bench_expressions.specs.Expressions.{expression}
use Rattle.just_bench_lines.specs.declared.attributes.Options.{Options}
use Rattle.just_bench_lines.specs.declared.heading.Heading.{Heading}
use Rattle.just_bench_lines.specs.Heading as heading
use Rattle.just_bench_lines.specs.Parts.{before_others, read_parts, parts_from}
use Rattle.just_bench_syntax.specs.declared.recipe.Spoken.{Spoken}
use Rattle.just_bench_syntax.specs.Proper.{IsProper}
use Rattle.just_bench_lines.specs.Places.{read_name_at, stands, is_at_sign, is_colon, is_equals, is_plus, is_star}
use Rattle.just_bench_syntax.specs.Recipe as recipe

-- one of two
pub either : {A : Type 0} (P : A → Type 0) (b : Bool) (x y : A) → P x → P y → P (if b then x else y)
either P true x y p q = p
either P false x y p q = q

-- parameters up to a `:`
abbrev parameters_from : List Lexeme → ℕ → ℕ → List Lexeme → Option (List Parameter × ℕ)
parameters_from = parts_from false is_colon heading.parameter

-- a parameter without a number, of which nothing is evaluated
abbrev pub IsFresh : Parameter → Type 0
IsFresh p = (bare_parameter p ≡ p) × IsPlain p

abbrev pub AreFresh : List Parameter → Type 0
AreFresh [] = Unit {0}
AreFresh (p ∷ ps) = IsFresh p × AreFresh ps

abbrev pub OneFresh : Option (Parameter × ℕ) → Type 0
OneFresh None = Unit {0}
OneFresh (Some found) = IsFresh found.0

abbrev pub ManyFresh : Option (List Parameter × ℕ) → Type 0
ManyFresh None = Unit {0}
ManyFresh (Some found) = AreFresh found.0

default_fresh : (name : Name) (kind : ParameterKind) (found : Option Found) → OneFresh (heading.with_default name kind found)
default_fresh name kind None = tt
default_fresh name kind (Some found) = (refl, (refl, refl))

name_fresh : (all : List Lexeme) (at : ℕ) (kind : ParameterKind) (name : Option Name) → OneFresh (heading.parameter_by_name all at kind name)
name_fresh all at kind None = tt
name_fresh all at kind (Some name) =
    either OneFresh (stands is_equals all (at + 1)) (heading.with_default name kind (expression false all (at + 2))) (Some (heading.made_of name kind None, at + 1))
    (default_fresh name kind (expression false all (at + 2))) (refl, (refl, refl))

named_fresh : (all : List Lexeme) (at : ℕ) (kind : ParameterKind) → OneFresh (heading.named_parameter all at kind)
unfolding heading.named_parameter
named_fresh all at kind = name_fresh all at kind (read_name_at all at)

parameter_fresh : (all : List Lexeme) (at : ℕ) → OneFresh (heading.parameter all at)
unfolding heading.parameter
parameter_fresh all at =
    let rest = if stands is_plus all at then heading.named_parameter all (at + 1) parameter_kind.Plus else heading.named_parameter all at parameter_kind.Singular in
    either OneFresh (stands is_star all at) (heading.named_parameter all (at + 1) parameter_kind.Star) rest (named_fresh all (at + 1) parameter_kind.Star)
    (either OneFresh (stands is_plus all at) (heading.named_parameter all (at + 1) parameter_kind.Plus) (heading.named_parameter all at parameter_kind.Singular)
    (named_fresh all (at + 1) parameter_kind.Plus) (named_fresh all at parameter_kind.Singular))

and_fresh : (p : Parameter) (more : Option (List Parameter × ℕ)) → IsFresh p → ManyFresh more → ManyFresh (option_map {U = List Parameter × ℕ} (λ m. (p ∷ m.0, m.1)) more)
and_fresh p None one many = tt
and_fresh p (Some more) one many = (one, many)

before_fresh : (at : ℕ) (found : Option (Parameter × ℕ)) (others : ℕ → Option (List Parameter × ℕ)) → OneFresh found → ((n : ℕ) → ManyFresh (others n)) → ManyFresh (before_others at found others)
before_fresh at None others one many = tt
before_fresh at (Some found) others one many = and_fresh found.0 (others (found.1 - (at + 1))) one (many (found.1 - (at + 1)))

from_fresh : (all : List Lexeme) (at skip : ℕ) (rest : List Lexeme) → ManyFresh (parameters_from all at skip rest)
from_fresh all at skip [] = tt
from_fresh all at (suc skip) (l ∷ rest) = from_fresh all (at + 1) skip rest
from_fresh all at zero (l ∷ rest) =
    either ManyFresh (is_colon l.kind) (Some ([], at)) (before_others at (heading.parameter all at) (λ skip. parameters_from all (at + 1) skip rest))
    tt (before_fresh at (heading.parameter all at) (λ skip. parameters_from all (at + 1) skip rest) (parameter_fresh all at) (λ skip. from_fresh all (at + 1) skip rest))

parameters_fresh : (all : List Lexeme) (start : ℕ) → ManyFresh (heading.parameters all start)
unfolding read_parts
parameters_fresh all start = from_fresh all start 0 (drop start all)

-- a heading of such parameters
abbrev pub HeadingFresh : Option Heading → Type 0
HeadingFresh None = Unit {0}
HeadingFresh (Some h) = AreFresh h.parameters

dependencies_fresh : (quiet : Bool) (name : Name) (ps : List Parameter) (d : Option (List UnresolvedDependency × List UnresolvedDependency)) → AreFresh ps → HeadingFresh (heading.with_dependencies quiet name ps d)
dependencies_fresh quiet name ps None fresh = tt
dependencies_fresh quiet name ps (Some d) fresh = fresh

with_fresh : (all : List Lexeme) (quiet : Bool) (name : Name) (found : Option (List Parameter × ℕ)) → ManyFresh found → HeadingFresh (heading.with_parameters all quiet name found)
with_fresh all quiet name None fresh = tt
with_fresh all quiet name (Some found) fresh = dependencies_fresh quiet name found.0 (heading.dependencies all (found.1 + 1)) fresh

at_fresh : (all : List Lexeme) (quiet : Bool) (at : ℕ) (name : Option Name) → HeadingFresh (heading.heading_at all quiet at name)
unfolding heading.after_name
at_fresh all quiet at None = tt
at_fresh all quiet at (Some name) = with_fresh all quiet name (heading.parameters all (at + 1)) (parameters_fresh all (at + 1))

pub heading_fresh : (all : List Lexeme) → HeadingFresh (heading.heading_in_line all)
unfolding heading.heading_in_line
heading_fresh all =
    either HeadingFresh (stands is_at_sign all 0) (heading.heading_at all (stands is_at_sign all 0) 1 (read_name_at all 1)) (heading.heading_at all (stands is_at_sign all 0) 0 (read_name_at all 0))
    (at_fresh all (stands is_at_sign all 0) 1 (read_name_at all 1)) (at_fresh all (stands is_at_sign all 0) 0 (read_name_at all 0))

-- one of them speaks of the parameter of this name
abbrev pub SpeakOf : List Options → List ℕ → Type 0
SpeakOf [] name = ⊥
SpeakOf (o ∷ rest) name = (o.parameter ≡ name) ⊎ SpeakOf rest name

-- what an attribute says of a parameter is among these
abbrev pub IsSaid : List Options → Attribute Expression → Type 0
IsSaid options (attribute.Arg a) = SpeakOf options a.name.cooked × (a.pattern ≡ None) × (a.help ≡ None)
IsSaid options _ = Unit {0}

-- what attributes say
abbrev pub said_of : List Spoken → List Options
said_of = map (λ (s : Spoken). s.options)

-- options leave a parameter without a number
given_fresh : (o : Option Spoken) (p : Parameter) → IsFresh p → IsFresh (recipe.with_spoken o p)
given_fresh None p fresh = fresh
given_fresh (Some s) p fresh = (ap (λ (q : Parameter). record q { long = s.options.long; short = s.options.short; flag = s.options.flag }) fresh.0, fresh.1)

options_fresh : (options : List Spoken) (ps : List Parameter) → AreFresh ps → AreFresh (map (recipe.with_options options) ps)
options_fresh options [] fresh = tt
options_fresh options (p ∷ ps) fresh = (given_fresh (recipe.options_of options (lexeme p.name.token)) p fresh.0, options_fresh options ps fresh.1)

bare_of : (ps : List Parameter) → AreFresh ps → map bare_parameter ps ≡ ps
bare_of [] fresh = refl
bare_of (p ∷ ps) fresh = ap (λ q. q ∷ map bare_parameter ps) fresh.0.0 ∙ ap (λ qs. p ∷ qs) (bare_of ps fresh.1)

plain_of : (ps : List Parameter) → AreFresh ps → All IsPlain ps
plain_of [] fresh k d h = absurd (omega (arith, h))
plain_of (p ∷ ps) fresh zero d h = fresh.0.1
plain_of (p ∷ ps) fresh (suc k) d h = plain_of ps fresh.1 k d (omega (arith, h))

-- the parameter that an attribute speaks of is there
named_in : (ps : List Parameter) (name : List ℕ) → recipe.names_parameter ps name ≡ true → Contains (map (λ (p : Parameter). lexeme p.name.token) ps) name
named_in [] name h = cc
named_in (p ∷ ps) name h = elim (or_cases (bytes_eq (lexeme p.name.token) name) (recipe.names_parameter ps name) h) [
  | inl e ↦ (0, omega arith, (bytes_eq-Decides (lexeme p.name.token) name).0 e)
  | inr e ↦ Contains-append_right (lexeme p.name.token ∷ []) (map (λ (q : Parameter). lexeme q.name.token) ps) name (named_in ps name e)
]

both_hold : (a b : Bool) (x at : Option Place) → at ≢ None → (if (if a then b else false) then x else at) ≡ None → (a ≡ true) × (x ≡ None)
both_hold true true x at some h = (refl, h)
both_hold true false x at some h = absurd (some h)
both_hold false b x at some h = absurd (some h)

some_there : (at : Place) → Some at ≢ None
some_there at h = cc

fits_named : (ps : List Parameter) (before spoken : List Spoken) (name : List ℕ) → recipe.misfit_from ps before spoken ≡ None → SpeakOf (said_of spoken) name
    → Contains (map (λ (p : Parameter). lexeme p.name.token) ps) name
fits_named ps before [] name fits said = absurd said
fits_named ps before (s ∷ rest) name fits said =
    let b = both_hold (recipe.names_parameter ps s.options.parameter) (not (is_some (recipe.options_of before s.options.parameter))) (recipe.misfit_from ps (before ++ s ∷ []) rest) (Some s.at) (some_there s.at) fits in
    elim said [
      | inl e ↦ subst (λ n. Contains (map (λ (p : Parameter). lexeme p.name.token) ps) n) e (named_in ps s.options.parameter b.0)
      | inr more ↦ fits_named ps (before ++ s ∷ []) rest name b.1 more
    ]

-- options leave a parameter its name
given_name : (o : Option Spoken) (p : Parameter) → (recipe.with_spoken o p).name ≡ p.name
given_name None p = refl
given_name (Some o) p = refl

options_names : (options : List Spoken) (ps : List Parameter) → map (λ (p : Parameter). lexeme p.name.token) (map (recipe.with_options options) ps) ≡ map (λ (p : Parameter). lexeme p.name.token) ps
options_names options [] = refl
options_names options (p ∷ ps) =
    ap (λ (n : Name). lexeme n.token ∷ map (λ (q : Parameter). lexeme q.name.token) (map (recipe.with_options options) ps)) (given_name (recipe.options_of options (lexeme p.name.token)) p)
    ∙ ap (λ ns. lexeme p.name.token ∷ ns) (options_names options ps)

said_named : (ps : List Parameter) (spoken : List Spoken) (a : Attribute Expression) → recipe.misfit ps spoken ≡ None → IsSaid (said_of spoken) a → NamesParameter (map (recipe.with_options spoken) ps) a
said_named ps spoken (attribute.Arg a) fits said =
    (subst (λ ns. Contains ns a.name.cooked) (sym (options_names spoken ps)) (fits_named ps [] spoken a.name.cooked fits said.0), said.1, said.2)
said_named ps spoken _ fits said = tt

-- a recipe as it is made of a heading
abbrev pub RecipeProper : Result (Recipe UnresolvedDependency) Place → Type 0
RecipeProper (Err at) = Unit {0}
RecipeProper (Ok r) = IsProper (item.Recipe r)

made_proper : (h : Heading) (attributes : List (NamedAttribute Expression)) (spoken : List Spoken) → AreFresh h.parameters → recipe.misfit h.parameters spoken ≡ None
    → All (λ (n : NamedAttribute Expression). IsSaid (said_of spoken) n.attribute) attributes → IsProper (item.Recipe (recipe.made_of h attributes spoken))
made_proper h attributes spoken fresh fits said = record {
  bare = ap (λ ps. item.Recipe (record (recipe.made_of h attributes spoken) { parameters = ps })) (bare_of (map (recipe.with_options spoken) h.parameters) (options_fresh spoken h.parameters fresh));
  priors = rw (length-append h.priors h.subsequents) (omega arith);
  attributes = record {
    parameters = plain_of (map (recipe.with_options spoken) h.parameters) (options_fresh spoken h.parameters fresh);
    attributes = λ k d within. said_named h.parameters spoken (get_or attributes k d).attribute fits (said k d within);
  };
}

by_proper : (h : Heading) (attributes : List (NamedAttribute Expression)) (spoken : List Spoken) (o : Option Place) → (o ≡ None → IsProper (item.Recipe (recipe.made_of h attributes spoken))) → RecipeProper (recipe.recipe_after h attributes spoken o)
by_proper h attributes spoken None proper = proper refl
by_proper h attributes spoken (Some at) proper = tt

pub recipe_proper : (h : Heading) (attributes : List (NamedAttribute Expression)) (spoken : List Spoken) → AreFresh h.parameters
    → All (λ (n : NamedAttribute Expression). IsSaid (said_of spoken) n.attribute) attributes → RecipeProper (recipe.recipe h attributes spoken)
unfolding recipe.recipe
recipe_proper h attributes spoken fresh said = by_proper h attributes spoken (recipe.misfit h.parameters spoken) (λ fits. made_proper h attributes spoken fresh fits said)
