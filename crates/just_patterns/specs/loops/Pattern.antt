-- What private functions say beside `Pattern.antt`.
use Rattle.std.specs.Prelude.{ℕ, List}
use Rattle.regex.specs.declared.error.Error as regex
use Rattle.regex.specs.declared.error.Error.TheVariants as regex_error
use Rattle.just_errors.specs.declared.error.Error.{Error}
use Rattle.just_patterns.specs.Pattern.{IsReadable, IsRefused}

-- the same by what the compiler of regular expressions says; want of memory aside
abbrev pub IsRefusal : List ℕ → regex.Error → Type 0
IsRefusal pattern (regex_error.Syntax e) = IsRefused pattern
IsRefusal pattern regex_error.CompiledTooBig = IsReadable pattern
IsRefusal pattern regex_error.Internal = ⊥
IsRefusal pattern regex_error.OutOfMemory = Unit {0}
