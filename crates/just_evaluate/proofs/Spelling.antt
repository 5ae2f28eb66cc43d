-- Texts of which some bytes, all ASCII, are spelled otherwise, character by character.
use Rattle.std.proofs.Common.{◌≡◌, ◌⊎◌, inl, inr, ℕ, ◌+◌, ◌/◌, ◌%◌, ◌≤◌, ◌<◌, Bool, true, false, cond, if◌then◌else◌, List, [], ◌∷◌, ◌++◌, refl, sym, ◌∙◌, ap, arith, ◌==◌, leb, ltb}
use Rattle.std.proofs.Math.Utf8.{encode, encodes}
use Rattle.std.proofs.lemmas.Bool.Decides.{leb_tells, nat_tests}
use Rattle.std.proofs.lemmas.Grind.{flat_map-append}
use Rattle.std.proofs.lemmas.List.{append-nil, append_assoc, map-append}
use Rattle.std.proofs.lemmas.List.Concat.{flat_map_single}
use Rattle.std.proofs.lemmas.Str.{encode_ascii, encodes-append}
use Rattle.std.specs.List.{flat_map}
use Rattle.just_evaluate.specs.Lines.{escape, escaped, is_special, undashed, underscored}

module _ (f : ℕ → List ℕ) (others : (b : ℕ) → 128 ≤ b → f b ≡ b ∷ []) where
  one : (a : ℕ) → 128 ≤ a → flat_map f (a ∷ []) ≡ a ∷ []
  one a h = append-nil (f a) ∙ others a h

  more : (a : ℕ) (bs : List ℕ) → 128 ≤ a → flat_map f bs ≡ bs → flat_map f (a ∷ bs) ≡ a ∷ bs
  more a bs h e = ap (λ x. x ++ flat_map f bs) (others a h) ∙ ap (λ x. a ∷ x) e

  by_length : (x y z : Bool) (c b d e g h i : ℕ) → 128 ≤ c → 128 ≤ b → 128 ≤ d → 128 ≤ e → 128 ≤ g → 128 ≤ h → 128 ≤ i →
      flat_map f (cond x (c ∷ []) (cond y (b ∷ g ∷ []) (cond z (d ∷ h ∷ g ∷ []) (e ∷ i ∷ h ∷ g ∷ []))))
      ≡ cond x (c ∷ []) (cond y (b ∷ g ∷ []) (cond z (d ∷ h ∷ g ∷ []) (e ∷ i ∷ h ∷ g ∷ [])))
  by_length true y z c b d e g h i hc hb hd he hg hh hi = one c hc
  by_length false true z c b d e g h i hc hb hd he hg hh hi = more b (g ∷ []) hb (one g hg)
  by_length false false true c b d e g h i hc hb hd he hg hh hi = more d (h ∷ g ∷ []) hd (more h (g ∷ []) hh (one g hg))
  by_length false false false c b d e g h i hc hb hd he hg hh hi = more e (i ∷ h ∷ g ∷ []) he (more i (h ∷ g ∷ []) hi (more h (g ∷ []) hh (one g hg)))

  -- a character that is not ASCII stays
  pub beyond_ascii : (c : ℕ) → 128 ≤ c → flat_map f (encode c) ≡ encode c
  unfolding encode
  beyond_ascii c h =
      by_length (ltb c 128) (ltb c 2048) (ltb c 65536) c (192 + c / 64) (224 + c / 4096) (240 + c / 262144) (128 + c % 64) (128 + (c / 64) % 64) (128 + (c / 4096) % 64)
      h (omega arith) (omega arith) (omega arith) (omega arith) (omega arith) (omega arith)

-- an ASCII one is spelled as its byte
pub of_ascii : (f : ℕ → List ℕ) (c : ℕ) → c < 128 → flat_map f (encode c) ≡ f c
of_ascii f c h = ap (flat_map f) (encode_ascii c h) ∙ append-nil (f c)

-- one character more
pub spelled_more : (f : ℕ → List ℕ) (cs : List ℕ) (c : ℕ) → flat_map f (encodes (cs ++ c ∷ [])) ≡ flat_map f (encodes cs) ++ flat_map f (encode c)
spelled_more f cs c = ap (flat_map f) (encodes-append cs (c ∷ []) ∙ ap (λ x. encodes cs ++ x) (append-nil (encode c))) ∙ flat_map-append f (encodes cs) (encode c)

-- what means something in double quotes is ASCII
special_is_ascii : (c : ℕ) → is_special c ≡ true → c < 128
special_is_ascii c h = grind (arith, nat_tests)

plain_beyond : (c : ℕ) → 128 ≤ c → is_special c ≡ false
plain_beyond c h = grind (arith, nat_tests)

plain : (b : ℕ) → is_special b ≡ false → escape b ≡ b ∷ []
plain b e = ap (λ (x : Bool). if x then 92 ∷ b ∷ [] else b ∷ []) e

plain_stays : (c : ℕ) → is_special c ≡ false → escaped (encode c) ≡ encode c
plain_stays c e = go (leb_tells 128 c)
  where
    go : ((leb 128 c ≡ true) × (128 ≤ c)) ⊎ ((leb 128 c ≡ false) × (c < 128)) → escaped (encode c) ≡ encode c
    go (inl h) = beyond_ascii escape (λ b k. plain b (plain_beyond b k)) c h.1
    go (inr h) = of_ascii escape c h.1 ∙ plain c e ∙ sym (encode_ascii c h.1)

special_escaped : (c : ℕ) → is_special c ≡ true → escaped (encode c) ≡ encode 92 ++ encode c
special_escaped c e =
    of_ascii escape c (special_is_ascii c e) ∙ ap (λ (x : Bool). if x then 92 ∷ c ∷ [] else c ∷ []) e
    ∙ sym (ap (λ x. x ++ encode c) (encode_ascii 92 (omega arith)) ∙ ap (λ x. 92 ∷ x) (encode_ascii c (special_is_ascii c e)))

-- a text, with one character more
module _ (start text : List ℕ) (cs : List ℕ) (c : ℕ) (so_far : text ≡ start ++ escaped (encodes cs)) where
  spelled : (bytes : List ℕ) → escaped (encode c) ≡ bytes → text ++ bytes ≡ start ++ escaped (encodes (cs ++ c ∷ []))
  spelled bytes e =
      ap (λ x. x ++ bytes) so_far ∙ append_assoc start (escaped (encodes cs)) bytes
      ∙ ap (λ x. start ++ x) (ap (λ x. escaped (encodes cs) ++ x) (sym e) ∙ sym (spelled_more escape cs c))

  pub escaped_plain : is_special c ≡ false → text ++ encode c ≡ start ++ escaped (encodes (cs ++ c ∷ []))
  escaped_plain e = spelled (encode c) (plain_stays c e)

  pub escaped_special : is_special c ≡ true → (text ++ encode 92) ++ encode c ≡ start ++ escaped (encodes (cs ++ c ∷ []))
  escaped_special e = append_assoc text (encode 92) (encode c) ∙ spelled (encode 92 ++ encode c) (special_escaped c e)

-- `-` is spelled as `_`, and nothing else is spelled otherwise
other_kept : (b : ℕ) → (b == 45) ≡ false → undashed b ≡ b
other_kept b e = ap (λ (x : Bool). if x then 95 else b) e

other_beyond : (b : ℕ) → 128 ≤ b → (b == 45) ≡ false
other_beyond b h = grind (arith, nat_tests)

dash_spelled : (c : ℕ) (b : Bool) → (c == 45) ≡ b → underscored (encode c) ≡ encode (undashed c)
dash_spelled c true e =
    let is : c ≡ 45 = grind (arith, nat_tests) in
    ap (λ x. underscored (encode x)) is ∙ ap underscored (encode_ascii 45 (omega arith)) ∙ sym (encode_ascii 95 (omega arith)) ∙ sym (ap (λ x. encode (undashed x)) is)
dash_spelled c false e = go (leb_tells 128 c) ∙ ap encode (sym (other_kept c e))
  where
    go : ((leb 128 c ≡ true) × (128 ≤ c)) ⊎ ((leb 128 c ≡ false) × (c < 128)) → underscored (encode c) ≡ encode c
    go (inl h) =
        sym (flat_map_single undashed (encode c)) ∙ beyond_ascii (λ b. undashed b ∷ []) (λ b k. ap (λ x. x ∷ []) (other_kept b (other_beyond b k))) c h.1
    go (inr h) = ap underscored (encode_ascii c h.1) ∙ ap (λ x. x ∷ []) (other_kept c e) ∙ sym (encode_ascii c h.1)

-- a name, with one character more
pub underscored_more : (start text : List ℕ) (cs : List ℕ) (c d : ℕ) → text ≡ start ++ underscored (encodes cs) → d ≡ undashed c →
    text ++ encode d ≡ start ++ underscored (encodes (cs ++ c ∷ []))
underscored_more start text cs c d so_far is =
    ap (λ x. x ++ encode d) so_far ∙ append_assoc start (underscored (encodes cs)) (encode d)
    ∙ ap (λ x. start ++ x) (ap (λ x. underscored (encodes cs) ++ x) (ap encode is ∙ sym (dash_spelled c (c == 45) refl)) ∙ sym whole)
  where
    whole : underscored (encodes (cs ++ c ∷ [])) ≡ underscored (encodes cs) ++ underscored (encode c)
    whole = ap underscored (encodes-append cs (c ∷ []) ∙ ap (λ x. encodes cs ++ x) (append-nil (encode c))) ∙ map-append undashed (encodes cs) (encode c)
