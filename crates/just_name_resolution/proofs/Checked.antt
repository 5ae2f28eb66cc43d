-- Steps of checking names.
use Rattle.std.proofs.Common.{◌≡◌, sym, ◌∙◌, ap, subst, subst₂, inl, inr, ℕ, Bool, false, List, [], ◌∷◌, ◌++◌, Option, None, Some}
use Rattle.std.specs.List.{Contains, list_any}
use Rattle.std.specs.Str.{bytes_eq}
use Rattle.std.proofs.lemmas.List.{append_assoc, append-nil}
use Rattle.std.proofs.lemmas.List.Elements.{Contains-append_left, Contains-append_right, Contains-push, Contains-push_cases}
use Rattle.just_errors.specs.Causes.{Cause, Broken, Keeps}
use Rattle.just_errors.specs.Wording.{takes}
use Rattle.just_errors.specs.declared.compile_error.CompileErrorKind.TheVariants as kind
use Rattle.just_errors.specs.declared.phrases.ArgumentRange.{ArgumentRange}
use Rattle.just_names.specs.Texts.{Text}
use Rattle.just_names.specs.Name.{text_of_name}
use Rattle.just_names.specs.Token.{Place}
use Rattle.just_names.specs.declared.name.Name.{Name}
use Rattle.just_ast_references.specs.declared.references.Reference.TheVariants as reference
use Rattle.just_parts.specs.Known.{Known, defines, none_hidden, range_of}
use Rattle.just_parts.specs.Misnaming.{MisnamesAt, MisnamesCall, undefined_function, argument_count, undefined_variable}

-- how many arguments a function takes, which was asked by an equal text
pub range_asked : (m : Known) (text asked : Text) (range found : Option ArgumentRange) → range ≡ range_of m asked → asked ≡ text → range ≡ found → range_of m text ≡ found
range_asked m text asked range found is same e = sym (is ∙ ap (range_of m) same) ∙ e

-- a call is at fault whatever is hidden
pub call_told : {m : Known} {hidden : Text → Bool} {name : Name} {arguments : ℕ} {c : Cause} → MisnamesAt m hidden (reference.Call name arguments) c → MisnamesCall m name arguments c
call_told (undefined_function missing) = undefined_function missing
call_told (argument_count found apart) = argument_count found apart

pub call_under : {m : Known} {name : Name} {arguments : ℕ} (hidden : Text → Bool) {c : Cause} → MisnamesCall m name arguments c → MisnamesAt m hidden (reference.Call name arguments) c
call_under hidden (undefined_function missing) = undefined_function missing
call_under hidden (argument_count found apart) = argument_count found apart

-- a name at fault is told at its place, by its text
module _ (m : Known) (hidden : Text → Bool) (name : Name) (token : Place) (told : Text) (here : token ≡ name.token) (same : told ≡ text_of_name name) where
  pub no_function_told : (arguments : ℕ) → range_of m (text_of_name name) ≡ None → MisnamesAt m hidden (reference.Call name arguments) (Broken token (kind.UndefinedFunction told))
  no_function_told arguments missing =
      subst₂ (λ (p : Place) (t : Text). MisnamesAt m hidden (reference.Call name arguments) (Broken p (kind.UndefinedFunction t))) (sym here) (sym same) (undefined_function missing)

  pub count_told : (arguments : ℕ) (expected : ArgumentRange) → range_of m (text_of_name name) ≡ Some expected → takes expected arguments ≡ false
      → MisnamesAt m hidden (reference.Call name arguments) (Broken token (kind.FunctionArgumentCountMismatch told arguments expected))
  count_told arguments expected found apart =
      subst₂ (λ (p : Place) (t : Text). MisnamesAt m hidden (reference.Call name arguments) (Broken p (kind.FunctionArgumentCountMismatch t arguments expected))) (sym here) (sym same) (argument_count found apart)

  pub variable_told : defines m hidden (text_of_name name) ≡ false → MisnamesAt m hidden (reference.Variable name) (Broken token (kind.UndefinedVariable told))
  variable_told missing =
      subst₂ (λ (p : Place) (t : Text). MisnamesAt m hidden (reference.Variable name) (Broken p (kind.UndefinedVariable t))) (sym here) (sym same) (undefined_variable missing)

-- The elements before those that are left keep what is asked of each.
pub record Walked {A : Type 0} (group : A → Cause → Type 0) (all left : List A) : Type 0 where
  pub done : List A
  pub whole : done ++ left ≡ all
  pub kept : (x : A) → Contains done x → Keeps (group x)

module _ {A : Type 0} (group : A → Cause → Type 0) (all left : List A) where
  pub walked_all : Walked group all left → left ≡ [] → (x : A) → Contains all x → Keeps (group x)
  walked_all w e x there = w.kept x (subst (λ (l : List A). Contains l x) (sym w.whole ∙ ap (λ l. w.done ++ l) e ∙ append-nil w.done) there)

  module _ (rest : List A) (next : A) (w : Walked group all left) (e : left ≡ next ∷ rest) where
    split : w.done ++ next ∷ rest ≡ all
    split = sym (ap (λ l. w.done ++ l) e) ∙ w.whole

    pub walked_there : Contains all next
    walked_there = subst (λ (l : List A). Contains l next) split
        (Contains-append_right w.done (next ∷ rest) next (Contains-append_left (next ∷ []) rest next (Contains-push [] next)))

    pub walked_more : Keeps (group next) → Walked group all rest
    walked_more kept = record {
      done = w.done ++ next ∷ [];
      whole = append_assoc w.done (next ∷ []) rest ∙ split;
      kept = λ x there. elim (Contains-push_cases w.done next x there) [
        | inl before ↦ w.kept x before
        | inr same ↦ subst (λ (n : A). Keeps (group n)) same kept
      ];
    }

-- a set of no names hides none
pub nothing_hides : (names : List Text) → names ≡ [] → (λ (name : Text). list_any (bytes_eq name) names) ≡ none_hidden
nothing_hides names empty = λ i name. list_any (bytes_eq name) (empty i)
