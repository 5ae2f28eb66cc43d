-- Parts one after another read exactly where they are read to their ends, if each of them does.
use Rattle.std.proofs.Common.{inl, inr, ◌⊎◌, zero, suc, ◌≡◌, ℕ, ◌+◌, ◌<◌, ◌≤◌, sym, ◌∙◌, ap, refl, subst, List, [], ◌∷◌, ◌++◌, length, Bool, true, false, arith, Option, Some, None, Result, Ok, Err}
use Rattle.std.proofs.lemmas.Bool.{cases_lt}
use Rattle.just_bench_expressions.specs.declared.lexer.Kind.{Kind}
use Rattle.just_bench_expressions.specs.declared.lexer.Lexeme.{Lexeme}
use Rattle.just_bench_lines.specs.Parts.{read_parts}
use Rattle.just_bench_lines.specs.Places.{GoesOn, stands}
use Rattle.just_bench_lines.proofs.Parts as lines
use Rattle.just_bench_stops.specs.declared.halt.Halt.TheVariants as halt
use Rattle.just_bench_stops.specs.Parts.{parts_end}
use Rattle.just_bench_stops.proofs.Walks as ends

-- a part and its end; one behind which nothing goes on may have none
pub record Stuck {A : Type 0} (stop : Kind → Bool) (part : List Lexeme → ℕ → Option (A × ℕ)) (all : List Lexeme) (at : ℕ) : Type 0 where
  pub within : at < length all
  pub sharp : stands stop all at ≡ false
  pub none : None ≡ part all at

abbrev pub Alike : {A : Type 0} → (Kind → Bool) → (List Lexeme → ℕ → Option (A × ℕ)) → List Lexeme → ℕ → Option (A × ℕ) → Result ℕ ℕ → Type 0
Alike stop part all at None (Ok end) = ⊥
Alike stop part all at None (Err e) = Unit {0}
Alike stop part all at (Some found) (Ok end) = (found.1 ≡ end) × GoesOn all at end
Alike stop part all at (Some found) (Err e) = GoesOn all at found.1 × Stuck stop part all found.1

-- parts and their end
abbrev pub Both : {A : Type 0} → Bool → List Lexeme → ℕ → Option (List A × ℕ) → Result ℕ ℕ → Type 0
Both may_end all start None (Ok end) = ⊥
Both may_end all start None (Err e) = Unit {0}
Both may_end all start (Some found) (Ok end) = (found.1 ≡ end) × (start ≤ end) × ((end < length all) ⊎ (may_end ≡ true))
Both may_end all start (Some found) (Err e) = ⊥

module _ {A : Type 0} (may_end : Bool) (stop : Kind → Bool) (part : List Lexeme → ℕ → Option (A × ℕ)) (end : List Lexeme → ℕ → Result ℕ ℕ) (all : List Lexeme)
    (alike : (at : ℕ) → at < length all → stands stop all at ≡ false → Alike stop part all at (part all at) (end all at)) (start : ℕ) where
  abbrev whole : Option (List A × ℕ)
  whole = read_parts may_end stop part all start

  abbrev whole_end : Result ℕ ℕ
  whole_end = parts_end may_end stop end all start

  abbrev Made : List A → ℕ → Type 0
  Made made at = lines.Parts may_end stop part all start made at

  abbrev Gone : ℕ → Type 0
  Gone at = ends.Walked may_end stop end all start at

  abbrev Are : Option (List A × ℕ) → Result ℕ ℕ → Type 0
  Are o r = Both may_end all start o r

  none_both : (o : Option (List A × ℕ)) (r : Result ℕ ℕ) (at : ℕ) → None ≡ o → Err at ≡ r → Are o r
  none_both o r at none is = subst (λ (q : Option (List A × ℕ)). Are q r) none (subst (λ (q : Result ℕ ℕ). Are None q) is tt)

  some_both : (o : Option (List A × ℕ)) (r : Result ℕ ℕ) (made : List A) (at : ℕ) → start ≤ at → (at < length all) ⊎ (may_end ≡ true) → Some (made, at) ≡ o → Ok at ≡ r → Are o r
  some_both o r made at onward within some is =
      subst (λ (q : Option (List A × ℕ)). Are q r) some (subst (λ (q : Result ℕ ℕ). Are (Some (made, at)) q) is (refl, onward, within))

  abbrev More : ℕ → Type 0
  More at = (next : ℕ) (made : List A) → at < next → Made made next → Gone next → Are whole whole_end

  -- a part
  one_both : (at : ℕ) (made : List A) (o : Option (A × ℕ)) (r : Result ℕ ℕ) → at < length all → Made made at → Gone at → stands stop all at ≡ false → o ≡ part all at → r ≡ end all at → Alike stop part all at o r → More at
      → Are whole whole_end
  one_both at made None (Ok e) within so_far gone sharp is to alike more = absurd alike
  one_both at made None (Err e) within so_far gone sharp is to alike more =
      none_both whole whole_end e (lines.parts_fail may_end stop part all start made at so_far within sharp is) (ends.parts_fail may_end stop end all start at (halt.At e) gone within sharp to)
  one_both at made (Some found) (Ok e) within so_far gone sharp is to alike more =
      more e (made ++ found.0 ∷ []) alike.1.onward
      (lines.parts_push may_end stop part all start made at found.0 e (made ++ found.0 ∷ []) so_far within sharp (ap (λ n. Some (found.0, n)) (sym alike.0) ∙ is) alike.1 refl)
      (ends.parts_push may_end stop end all start at e gone within sharp to alike.1)
  one_both at made (Some found) (Err e) within so_far gone sharp is to alike more =
      let pushed = lines.parts_push may_end stop part all start made at found.0 found.1 (made ++ found.0 ∷ []) so_far within sharp is alike.0 refl in
      none_both whole whole_end e (lines.parts_fail may_end stop part all start (made ++ found.0 ∷ []) found.1 pushed alike.1.within alike.1.sharp alike.1.none)
      (ends.parts_fail may_end stop end all start at (halt.At e) gone within sharp to)

  at_stop : (at : ℕ) (made : List A) (b : Bool) → at < length all → Made made at → Gone at → stands stop all at ≡ b → More at → Are whole whole_end
  at_stop at made true within so_far gone is more =
      some_both whole whole_end made at gone.onward (inl within) (lines.parts_stop may_end stop part all start made at so_far within is) (ends.parts_stop may_end stop end all start at gone within is)
  at_stop at made false within so_far gone is more = one_both at made (part all at) (end all at) within so_far gone is refl refl (alike at within is) more

-- at the end of the line
past : {A : Type 0} (may_end : Bool) (stop : Kind → Bool) (part : List Lexeme → ℕ → Option (A × ℕ)) (end : List Lexeme → ℕ → Result ℕ ℕ) (all : List Lexeme)
    (alike : (at : ℕ) → at < length all → stands stop all at ≡ false → Alike stop part all at (part all at) (end all at)) (start at : ℕ) (made : List A)
    → length all ≤ at → lines.Parts may_end stop part all start made at → ends.Walked may_end stop end all start at → Both may_end all start (read_parts may_end stop part all start) (parts_end may_end stop end all start)
past true stop part end all alike start at made out so_far gone =
    some_both true stop part end all alike start (read_parts true stop part all start) (parts_end true stop end all start) made at gone.onward (inr refl) (lines.parts_past stop part all start made at so_far out) (ends.parts_past true stop end all start at gone out)
past false stop part end all alike start at made out so_far gone =
    none_both false stop part end all alike start (read_parts false stop part all start) (parts_end false stop end all start) at (lines.parts_cut stop part all start made at so_far out) (ends.parts_past false stop end all start at gone out)

module _ {A : Type 0} (may_end : Bool) (stop : Kind → Bool) (part : List Lexeme → ℕ → Option (A × ℕ)) (end : List Lexeme → ℕ → Result ℕ ℕ) (all : List Lexeme)
    (alike : (at : ℕ) → at < length all → stands stop all at ≡ false → Alike stop part all at (part all at) (end all at)) (start : ℕ) where
  walk : (n at : ℕ) (made : List A) → length all ≤ at + n → lines.Parts may_end stop part all start made at → ends.Walked may_end stop end all start at → Both may_end all start (read_parts may_end stop part all start) (parts_end may_end stop end all start)
  walk zero at made h so_far gone = past may_end stop part end all alike start at made (omega (arith, h)) so_far gone
  walk (suc n) at made h so_far gone = elim (cases_lt at (length all)) [
    | inl within ↦ at_stop may_end stop part end all alike start at made (stands stop all at) within so_far gone refl (λ next more less read on. walk n next more (omega (arith, h, less)) read on)
    | inr out ↦ past may_end stop part end all alike start at made (omega (arith, out)) so_far gone
  ]

  pub parts_both : Both may_end all start (read_parts may_end stop part all start) (parts_end may_end stop end all start)
  parts_both = walk (length all) start [] (omega arith) (lines.parts_start may_end stop part all start [] refl) (ends.parts_start may_end stop end all start)
