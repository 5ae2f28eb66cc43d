-- How far the names in a recipe are checked.
use Rattle.std.proofs.Common.{◌≡◌, arith, sym, subst, inl, inr, Bool, List, [], ◌∷◌}
use Rattle.std.specs.Prelude.{◌||◌}
use Rattle.std.specs.List.{Contains}
use Rattle.std.specs.Str.{bytes_eq}
use Rattle.std.proofs.lemmas.List.Elements.{Contains-push_cases}
use Rattle.just_errors.specs.Causes.{Cause, Keeps}
use Rattle.just_names.specs.Name.{text_of_name}
use Rattle.just_names.specs.Texts.{Text}
use Rattle.just_ast_definitions.specs.declared.parameter.Parameter.{Parameter}
use Rattle.just_ast_expressions.specs.declared.expression.Expression.{Expression}
use Rattle.just_parts.specs.Known.{Known, none_hidden}
use Rattle.just_parts.specs.Misnaming.{Misnames}
use Rattle.just_parts.specs.Scopes.{Scoped, scoped}
use Rattle.just_recipe_names.specs.Steps.{Event, Hides, Reads, scopes_from}
use Rattle.just_recipe_names.proofs.Walking.{Stands, all_done, next_hidden, next_read}

-- no name is at fault in the scopes before the place of a walk
pub record CheckedSoFar (m : Known) (all : List Scoped) (hidden : Text → Bool) (left : List Event) : Type 0 where
  pub stands : Stands all hidden left
  pub kept : (s : Scoped) → Contains stands.done s → Keeps (Misnames m s.hidden s.expression)

module _ {m : Known} {all : List Scoped} {hidden : Text → Bool} {left : List Event} where
  pub check_begins : hidden ≡ none_hidden → scopes_from [] left ≡ all → CheckedSoFar m all hidden left
  check_begins none is = record {
    stands = record { before = []; done = []; hides = none; whole = is };
    kept = λ s there. absurd (omega (arith, there.1));
  }

  pub check_read : (e : Expression) (rest : List Event) → left ≡ Reads e ∷ rest → Keeps (Misnames m hidden e) → CheckedSoFar m all hidden left → CheckedSoFar m all hidden rest
  check_read e rest is kept s = record {
    stands = next_read e rest is s.stands;
    kept = λ x there. elim (Contains-push_cases s.stands.done (scoped hidden e) x there) [
      | inl before ↦ s.kept x before
      | inr same ↦ subst (λ (n : Scoped). Keeps (Misnames m n.hidden n.expression)) same kept
    ];
  }

  pub check_hidden : (p : Parameter) (rest : List Event) (more : Text → Bool) → left ≡ Hides p ∷ rest
      → ((name : Text) → more name ≡ (bytes_eq (text_of_name p.name) name || hidden name)) → CheckedSoFar m all hidden left → CheckedSoFar m all more rest
  check_hidden p rest more is hides s = record { stands = next_hidden p rest more is hides s.stands; kept = s.kept }

  pub check_ends : left ≡ [] → CheckedSoFar m all hidden left → (s : Scoped) → Contains all s → Keeps (Misnames m s.hidden s.expression)
  check_ends is s x there = s.kept x (subst (λ (l : List Scoped). Contains l x) (sym (all_done s.stands is)) there)
