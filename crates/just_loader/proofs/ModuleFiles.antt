-- What a text has after a prefix.
use Rattle.std.proofs.Common.{◌≡◌, ◌≢◌, ℕ, ◌+◌, ◌==◌, Bool, true, false, List, [], ◌∷◌, ◌++◌, length, drop, refl, sym, ap, ◌∙◌, Option, None, Some, MatchOption, if◌then◌else◌}
use Rattle.std.specs.Borrow.{Bor}
use Rattle.std.specs.Option.{option_map}
use Rattle.std.specs.Str.Pattern.{FindsTextPrefix}
use Rattle.std.proofs.lemmas.Bool.{cond-true, eqb-true, eq-eqb}
use Rattle.just_loader.specs.ModuleFile.{after}

pub after_prefix : (prefix rest : List ℕ) → after prefix (prefix ++ rest) ≡ Some rest
after_prefix [] rest = refl
after_prefix (p ∷ ps) rest = cond-true (p == p) (after ps (ps ++ rest)) None (eq-eqb p p refl) ∙ after_prefix ps rest

pub after_none : (prefix text : List ℕ) → ((rest : List ℕ) → text ≢ prefix ++ rest) → after prefix text ≡ None
after_none [] text h = absurd (h text refl)
after_none (p ∷ ps) [] h = refl
after_none (p ∷ ps) (b ∷ bs) h = go (p == b) refl (λ e. after_none ps bs (λ rest q. let same : p ≡ b = eqb-true p b e in h rest (cc)))
  where
    go : (t : Bool) → (p == b) ≡ t → ((p == b) ≡ true → after ps bs ≡ None) → (if t then after ps bs else None) ≡ None
    go true e ih = ih e
    go false e ih = refl

-- the clause of `strip_prefix` at a text
abbrev pub StripsText : List ℕ → List ℕ → Option (Bor (List ℕ)) → Type 0
StripsText prefix text r = MatchOption r (FindsTextPrefix prefix text None) (λ x. (n : ℕ) × FindsTextPrefix prefix text (Some n) × (x.now ≡ drop n text) × (length x.now + n ≡ length text))

pub after_strip : (prefix text : List ℕ) (r : Option (Bor (List ℕ))) → StripsText prefix text r → option_map (λ x. x.now) r ≡ after prefix text
after_strip prefix text None h = sym (after_none prefix text h)
after_strip prefix text (Some x) h =
    let whole : text ≡ prefix ++ x.now = h.1.1 ∙ ap (λ rest. prefix ++ rest) (sym h.2) in
    sym (ap (after prefix) whole ∙ after_prefix prefix x.now)
