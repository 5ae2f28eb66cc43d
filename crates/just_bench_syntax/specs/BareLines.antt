-- What a line is to the plain grammar does not hang on the numbers in it.
use Rattle.std.proofs.Common.{◌≡◌, ◌∙◌, ℕ, ◌-◌, ◌&&◌, not, List, [], ◌∷◌, map, length, Option, None, Some, refl, ap}
use Rattle.std.specs.Prelude.{codes, nat_eq, slice_get}
use Rattle.std.specs.List.{ends_with, starts_with}
use Rattle.std.specs.Option.{option_map}
use Rattle.std.proofs.lemmas.List.{length-map}
use Rattle.std.proofs.lemmas.Option.{slice_get-map}
use Rattle.just_ast_definitions.specs.declared.line.Fragment.{Fragment}
use Rattle.just_ast_definitions.specs.declared.line.Fragment.TheVariants as fragment
use Rattle.just_ast_definitions.specs.declared.line.Line.{Line}
use Rattle.just_bench_syntax.specs.Sigils.{back, front_text, is_comment, is_continuation, text_of_fragment}
use Rattle.just_parts.specs.Bare.{bare_fragment, bare_line}

text_bare : (o : Option Fragment) → text_of_fragment (option_map bare_fragment o) ≡ text_of_fragment o
text_bare None = refl
text_bare (Some (fragment.Text token)) = refl
text_bare (Some (fragment.Interpolation e)) = refl

-- the text at a place
text_at : (parts : List Fragment) (k : ℕ) → text_of_fragment (slice_get (map bare_fragment parts) k) ≡ text_of_fragment (slice_get parts k)
text_at parts k = ap text_of_fragment (slice_get-map bare_fragment parts k) ∙ text_bare (slice_get parts k)

front_bare : (parts : List Fragment) → front_text (map bare_fragment parts) ≡ front_text parts
front_bare parts = text_at parts 0

back_bare : (parts : List Fragment) → back (map bare_fragment parts) ≡ back parts
back_bare parts = ap (λ (n : ℕ). text_of_fragment (slice_get (map bare_fragment parts) (n - 1))) (length-map parts bare_fragment) ∙ text_at parts (length parts - 1)

pub comment_bare : (line : Line) → is_comment (bare_line line) ≡ is_comment line
comment_bare line = ap (λ (text : List ℕ). starts_with nat_eq text (codes "#") && not (starts_with nat_eq text (codes "#!"))) (front_bare line.fragments)

pub continuation_bare : (line : Line) → is_continuation (bare_line line) ≡ is_continuation line
continuation_bare line = ap (λ (text : List ℕ). ends_with nat_eq text (92 ∷ [])) (back_bare line.fragments)
