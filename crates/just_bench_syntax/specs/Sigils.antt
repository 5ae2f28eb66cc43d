-- What a line of a body is.
use Rattle.std.specs.Prelude.{ℕ, ◌-◌, ◌==◌, Bool, true, false, ◌&&◌, not, if◌then◌else◌, nat_eq, List, [], ◌∷◌, length, codes, Option, Some, None, slice_get}
use Rattle.std.specs.List.{before_first, ends_with, starts_with}
use Rattle.just_names.specs.Token.{lexeme}
use Rattle.just_ast_definitions.specs.declared.line.Fragment.{Fragment}
use Rattle.just_ast_definitions.specs.declared.line.Fragment.TheVariants as fragment
use Rattle.just_ast_definitions.specs.declared.line.Line.{Line}
use Rattle.just_ast_expressions.specs.declared.sigil.Sigil.{Sigil}
use Rattle.just_ast_expressions.specs.declared.sigil.Sigil.TheVariants as sigil

-- the text of a part, where it is text
abbrev pub text_of_fragment : Option Fragment → List ℕ
text_of_fragment None = []
text_of_fragment (Some (fragment.Text token)) = lexeme token
text_of_fragment (Some (fragment.Interpolation expression)) = []

-- the text that parts begin with, and that they end with
abbrev pub front_text : List Fragment → List ℕ
front_text parts = text_of_fragment (slice_get parts 0)

abbrev pub back : List Fragment → List ℕ
back parts = text_of_fragment (slice_get parts (length parts - 1))

-- the sigil that a byte is
abbrev pub sigil_of : ℕ → Option Sigil
sigil_of byte = if byte == 64 then Some sigil.Quiet else (if byte == 45 then Some sigil.Infallible else (if byte == 63 then Some sigil.Guard else None))

abbrev pub same : Sigil → Sigil → Bool
same sigil.Guard sigil.Guard = true
same sigil.Infallible sigil.Infallible = true
same sigil.Quiet sigil.Quiet = true
same _ _ = false

-- a sigil, and those after it as far as it does not stand there again; nothing where there is none
abbrev pub sigils_begun : Option Sigil → List Sigil → List Sigil
sigils_begun None after = []
sigils_begun (Some s) after = s ∷ before_first (same s) after

-- the sigils that a text begins with, as far as each stands there once
abbrev pub leading : List ℕ → List Sigil
leading [] = []
leading (byte ∷ rest) = sigils_begun (sigil_of byte) (leading rest)

abbrev pub sigils : Line → List Sigil
sigils line = leading (front_text line.fragments)

abbrev pub is_shebang : Line → Bool
is_shebang line = starts_with nat_eq (front_text line.fragments) (codes "#!")

-- it begins with `#` and is no shebang
abbrev pub is_comment : Line → Bool
is_comment line = starts_with nat_eq (front_text line.fragments) (codes "#") && not (is_shebang line)

-- it ends with a backslash
abbrev pub is_continuation : Line → Bool
is_continuation line = ends_with nat_eq (back line.fragments) (92 ∷ [])
