-- The characters of a text, one after another.
use Rattle.std.proofs.Common.{◌≡◌, ℕ, sym, ◌∙◌, ap, refl, List, [], ◌∷◌, ◌++◌, true, false, Option, Some, None}
use Rattle.std.specs.Prelude.{is_some}
use Rattle.std.specs.Char.{encode_utf8}
use Rattle.std.specs.List.{slice_get}
use Rattle.std.specs.Str.{IsUtf8, chars}
use Rattle.std.proofs.lemmas.Bool.{false≢true}
use Rattle.std.proofs.lemmas.Str.{chars_past_char}
use Rattle.just_bench_lines.specs.Attributes.{only_char, only_of}

alone : (c : ℕ) (cs : List ℕ) → is_some (slice_get cs 0) ≡ false → only_of (c ∷ cs) ≡ Some c
alone c [] h = refl
alone c (d ∷ cs) h = absurd (false≢true (sym h))

crowded : (c : ℕ) (cs : List ℕ) → is_some (slice_get cs 0) ≡ true → only_of (c ∷ cs) ≡ None
crowded c [] h = absurd (false≢true h)
crowded c (d ∷ cs) h = refl

pub one_char : (text rest : List ℕ) (c : ℕ) (second : Option ℕ) → IsUtf8 text → text ≡ encode_utf8 c ++ rest → second ≡ slice_get (chars rest) 0 → is_some second ≡ false → Some c ≡ only_char text
one_char text rest c second utf8 first is none = sym (ap only_of (chars_past_char text rest c utf8 first) ∙ alone c (chars rest) (sym (ap is_some is) ∙ none))

pub more_chars : (text rest : List ℕ) (c : ℕ) (second : Option ℕ) → IsUtf8 text → text ≡ encode_utf8 c ++ rest → second ≡ slice_get (chars rest) 0 → is_some second ≡ true → None ≡ only_char text
more_chars text rest c second utf8 first is some = sym (ap only_of (chars_past_char text rest c utf8 first) ∙ crowded c (chars rest) (sym (ap is_some is) ∙ some))
