-- What stands at a place of a list, and what follows it.
use Rattle.std.proofs.Common.{◌≡◌, ℕ, ◌+◌, ◌<◌, sym, ◌∙◌, ap, List, ◌∷◌, length, drop, get_or, arith, add-one, inl, inr, Bool, Some}
use Rattle.std.proofs.Math.Seq.{drop-cons}
use Rattle.std.specs.List.{slice_get}
use Rattle.std.proofs.lemmas.Option.{slice_get_cases}
use Rattle.just_bench_expressions.specs.declared.lexer.Kind.{Kind}
use Rattle.just_bench_expressions.specs.declared.lexer.Lexeme.{Lexeme}
use Rattle.just_bench_lines.specs.Places.{stands, stands_there}

-- it stands there
pub record Front {A : Type 0} (all : List A) (at : ℕ) (x : A) : Type 0 where
  pub dropped : drop at all ≡ x ∷ drop (at + 1) all
  pub there : slice_get all at ≡ Some x

pub front : {A : Type 0} (all : List A) (at : ℕ) → at < length all → (x : A) × Front all at x
front all at within = elim ((slice_get_cases all at).1) [
  | inl here ↦ (
    here.0,
    record {
      dropped = drop-cons all at here.0 within ∙ ap (λ m. get_or all at here.0 ∷ drop m all) (sym (add-one at)) ∙ ap (λ x. x ∷ drop (at + 1) all) here.3;
      there = here.2;
    },
  )
  | inr past ↦ absurd (omega (arith, within, past.0))
]

-- whether a lexeme of such a kind stands there
pub stands_front : (is : Kind → Bool) (all : List Lexeme) (at : ℕ) (l : Lexeme) (b : Bool) → Front all at l → stands is all at ≡ b → is l.kind ≡ b
stands_front is all at l b here told = sym (ap (stands_there is) here.there) ∙ told
