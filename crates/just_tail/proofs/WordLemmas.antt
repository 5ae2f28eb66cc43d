-- How the words of options are written.
use Rattle.std.proofs.Common.{◌≡◌, ◌≢◌, inl, inr, ℕ, true, List, [], ◌∷◌, ◌++◌, Option, Some, None, length, refl, sym, ap, ◌∙◌, arith}
use Rattle.std.proofs.lemmas.Bool.{false≢true, eqb-true}
use Rattle.std.proofs.lemmas.Str.{encodes-chars}
use Rattle.std.specs.Str.{chars, IsUtf8, encode_utf8_all}
use Rattle.just_names.specs.Texts.{Text}
use Rattle.just_tail.specs.Pieces.{long, cluster, with_value, option_word, BeginsWithDash, is_dashed, IsNameless}

-- a text that is not empty has a character
pub some_chars : (w : Text) → IsUtf8 w → w ≢ [] → chars w ≡ [] → ⊥
some_chars w utf8 some e = some (sym (encodes-chars w utf8) ∙ ap encode_utf8_all e)

-- a text without bytes is empty
pub no_length : (xs : List ℕ) → length xs ≡ 0 → xs ≡ []
no_length [] e = refl
no_length (x ∷ xs) e = absurd (omega arith)

-- a word with a dash begins with one
pub dashed_begins : (w : Text) → is_dashed w ≡ true → ((rest : Text) → w ≢ 45 ∷ rest) → ⊥
dashed_begins [] e h = false≢true e
dashed_begins (b ∷ []) e h = false≢true e
dashed_begins (b ∷ c ∷ cs) e h = h (c ∷ cs) (ap (λ x. x ∷ (c ∷ cs)) (eqb-true b 45 e))

-- two dashes before a name, and its value after it
pub with_dashes : (name : Text) (value : Option Text) → 45 ∷ (45 ∷ with_value name value) ≡ with_value (45 ∷ (45 ∷ name)) value
with_dashes name None = refl
with_dashes name (Some v) = refl

-- one dash before a name, and its value after it
pub with_dash : (name : Text) (value : Option Text) → 45 ∷ with_value name value ≡ with_value (45 ∷ name) value
with_dash name None = refl
with_dash name (Some v) = refl

-- a word after whose two dashes a name stands
pub long_word : (word short text name : Text) (value : Option Text) → word ≡ 45 ∷ short → short ≡ 45 ∷ text → text ≡ with_value name value →
    word ≡ option_word (long name) value
long_word word short text name value e f g = e ∙ ap (λ t. 45 ∷ t) f ∙ ap (λ t. 45 ∷ (45 ∷ t)) g ∙ with_dashes name value

-- a word after whose dash a cluster stands
pub short_word : (word short name : Text) (value : Option Text) → word ≡ 45 ∷ short → short ≡ with_value name value → word ≡ option_word (cluster name) value
short_word word short name value e f = e ∙ ap (λ t. 45 ∷ t) f ∙ with_dash name value

-- a word other than `--` after whose dashes no name stands
pub nameless_long : (word : Text) (value : Option Text) → word ≡ option_word (long []) value → word ≢ 45 ∷ (45 ∷ []) → IsNameless word
nameless_long word None e h = absurd (h e)
nameless_long word (Some v) e h = (v, inr e)

-- a word after whose dash no cluster stands
pub nameless_short : (word : Text) (value : Option Text) → word ≡ option_word (cluster []) value → is_dashed word ≡ true → IsNameless word
nameless_short word None e h = absurd (false≢true (sym (ap is_dashed e) ∙ h))
nameless_short word (Some v) e h = (v, inl e)

-- a cluster begins with no second dash
pub no_dash : (short name : Text) (value : Option Text) → short ≡ with_value name value → ((rest : Text) → short ≢ 45 ∷ rest) → BeginsWithDash name → ⊥
no_dash short name None e h (rest, f) = h rest (e ∙ f)
no_dash short name (Some v) e h (rest, f) = h (rest ++ 61 ∷ v) (e ∙ ap (λ t. t ++ 61 ∷ v) f)
