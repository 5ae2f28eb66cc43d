-- The parameters that switches name, and those to which positional words belong.
use Rattle.std.specs.Prelude.{ℕ, ◌+◌, Bool, false, not, ◌||◌, ◌==◌, is_some, Option, Some, None, List, [], ◌∷◌, filter, min, slice_get, if◌then◌else◌}
use Rattle.std.specs.List.{position_or_len, list_any}
use Rattle.std.specs.Str.{bytes_eq}
use Rattle.just_names.specs.Texts.{Text}
use Rattle.just_ast_definitions.specs.Parameter.{is_option, is_variadic}
use Rattle.just_ast_definitions.specs.declared.parameter.Parameter.{Parameter}
use Rattle.just_errors.specs.declared.switch.Switch.{Switch}
use Rattle.just_errors.specs.declared.switch.Switch.TheVariants.{Long, Short}

-- the first of two that is there
abbrev pub first_of : {A : Type 0} → Option A → Option A → Option A
first_of None other = other
first_of (Some x) other = Some x

-- the parameter's long name is this one
abbrev pub has_long : Option Text → Text → Bool
has_long None name = false
has_long (Some long) name = bytes_eq long name

-- the parameter's letter is this one
abbrev pub has_short : Option ℕ → ℕ → Bool
has_short None c = false
has_short (Some short) c = short == c

-- the parameter has the switch
abbrev pub has_switch : Switch → Parameter → Bool
has_switch (Long name) p = has_long p.long name
has_switch (Short c) p = has_short p.short c

-- the last parameter that has the switch, with its place from k on
abbrev pub option_from : ℕ → List Parameter → Switch → Option (ℕ × Parameter)
option_from k [] s = None
option_from k (p ∷ ps) s = first_of (option_from (k + 1) ps s) (if has_switch s p then Some (k, p) else None)

-- the parameter that a switch names, with its place: of those that have the switch the last
abbrev pub option_of : List Parameter → Switch → Option (ℕ × Parameter)
option_of = option_from 0

-- some parameter is named by a switch
abbrev pub has_options : List Parameter → Bool
has_options ps = list_any is_option ps

-- its switch takes no text: a use gives it the empty one
abbrev pub takes_nothing : Parameter → Bool
takes_nothing p = p.flag || is_some p.value

-- the places of the positional parameters, from k on
abbrev pub positions_from : ℕ → List Parameter → List ℕ
positions_from k [] = []
positions_from k (p ∷ ps) = if is_option p then positions_from (k + 1) ps else k ∷ positions_from (k + 1) ps

-- the positional parameters
abbrev pub positionals : List Parameter → List Parameter
positionals ps = filter (λ p. not (is_option p)) ps

-- among the positional parameters, the first that takes all words from there on, or their number
abbrev pub first_variadic : List Parameter → ℕ
first_variadic ps = position_or_len (λ (p : Parameter). is_variadic p.kind) (positionals ps)

-- the place of the parameter to which the k-th positional word belongs: of the k-th positional one, or of the first
-- variadic one if that comes before
abbrev pub place : List Parameter → ℕ → Option ℕ
place ps k = slice_get (positions_from 0 ps) (min k (first_variadic ps))
