-- One name more of a walk.
use Rattle.std.proofs.Common.{◌≡◌, ℕ, zero, suc, ◌+◌, ◌<◌, ◌≤◌, true, false, List, [], ◌∷◌, ◌++◌, length, map, take, drop, get_or, is_some, if◌then◌else◌, Option, Some, None, refl, sym, ◌∙◌, ap, arith, add-one}
use Rattle.std.proofs.lemmas.List.{append_assoc, get_or-map, take_more}
use Rattle.just_names.specs.Name.{text_of_name}
use Rattle.just_names.specs.declared.name.Name.{Name}
use Rattle.std.proofs.Math.Seq.{drop-cons}
use Rattle.just_names.specs.Texts.{Text}
use Rattle.just_table.specs.Entries.{find}
use Rattle.just_justfile.specs.declared.justfile.Justfile.{Justfile, out-Justfile}
use Rattle.just_justfile.specs.Walks.{Absent, End, Here, Inside, Nowhere, beyond, end_of_names, inner_along, module_named}

abbrev pub here_as : Option Justfile → End
here_as None = Here
here_as (Some j) = Inside j

-- where names lead after those that were walked, which led into a module unless there are none
abbrev pub resumed : List Text → Option Justfile → End → End
resumed walked o Here = here_as o
resumed walked o (Inside j) = Inside j
resumed walked o (Absent names) = Absent (walked ++ names)
resumed walked o Nowhere = Nowhere

pub resumed_first : (e : End) → e ≡ resumed [] None e
resumed_first Here = refl
resumed_first (Inside j) = refl
resumed_first (Absent names) = refl
resumed_first Nowhere = refl

resumed_beyond : (walked : List Text) (o : Option Justfile) (name : Text) (j : Justfile) (e : End) → resumed walked o (beyond name j e) ≡ resumed (walked ++ name ∷ []) (Some j) e
resumed_beyond walked o name j Here = refl
resumed_beyond walked o name j (Inside k) = refl
resumed_beyond walked o name j (Absent names) = ap Absent (sym (append_assoc walked (name ∷ []) names))
resumed_beyond walked o name j Nowhere = refl

-- where a name and more lead, by the module of the name
stepped : List Text → Option Justfile → Text → List (Text × Text) → End
stepped names found name absent = elim found as (λ _. End) [
  | Some j ↦ beyond name j (end_of_names (out-Justfile j).absent_modules (out-Justfile j).modules names)
  | None ↦ if is_some (find name absent) then Absent (name ∷ []) else Nowhere
]

module _ (names : List Text) (at : ℕ) (more : at < length names) (absent : List (Text × Text)) (modules : List Justfile) (o : Option Justfile) (name : Text) (is : get_or names at [] ≡ name) where
  taken : take (at + 1) names ≡ take at names ++ name ∷ []
  taken = take_more names at [] more ∙ ap (λ x. take at names ++ x ∷ []) is

  dropped : drop at names ≡ name ∷ drop (at + 1) names
  dropped = drop-cons names at [] more ∙ (λ i. is i ∷ drop (sym (add-one at) i) names)

  here : resumed (take at names) o (end_of_names absent modules (drop at names)) ≡ resumed (take at names) o (stepped (drop (at + 1) names) (module_named name modules) name absent)
  unfolding stepped
  here = ap (λ xs. resumed (take at names) o (end_of_names absent modules xs)) dropped

  pub entered : (j : Justfile) (modules' : List Justfile) → module_named name modules ≡ Some j → modules' ≡ (out-Justfile j).modules
      → resumed (take at names) o (end_of_names absent modules (drop at names)) ≡ resumed (take (at + 1) names) (Some j) (end_of_names (out-Justfile j).absent_modules modules' (drop (at + 1) names))
  unfolding stepped
  entered j modules' e em =
      here ∙ ap (λ f. resumed (take at names) o (stepped (drop (at + 1) names) f name absent)) e
      ∙ resumed_beyond (take at names) o name j (end_of_names (out-Justfile j).absent_modules (out-Justfile j).modules (drop (at + 1) names))
      ∙ (λ i. resumed (sym taken i) (Some j) (end_of_names (out-Justfile j).absent_modules (sym em i) (drop (at + 1) names)))

  pub missed : module_named name modules ≡ None → is_some (find name absent) ≡ true → resumed (take at names) o (end_of_names absent modules (drop at names)) ≡ Absent (take (at + 1) names)
  unfolding stepped
  missed e h =
      here ∙ ap (λ f. resumed (take at names) o (stepped (drop (at + 1) names) f name absent)) e
      ∙ ap (λ b. resumed (take at names) o (if b then Absent (name ∷ []) else Nowhere)) h ∙ ap Absent (sym taken)

  pub lost : module_named name modules ≡ None → is_some (find name absent) ≡ false → resumed (take at names) o (end_of_names absent modules (drop at names)) ≡ Nowhere
  unfolding stepped
  lost e h =
      here ∙ ap (λ f. resumed (take at names) o (stepped (drop (at + 1) names) f name absent)) e
      ∙ ap (λ b. resumed (take at names) o (if b then Absent (name ∷ []) else Nowhere)) h

-- the text of a name that is read
pub name_read : (front : List Name) (at : ℕ) (name : Name) → at < length front → name ≡ get_or front at name → get_or (map text_of_name front) at [] ≡ text_of_name name
name_read front at name more is = get_or-map text_of_name front at name [] more ∙ ap text_of_name (sym is)

-- at the end of the names
all_dropped : (names : List Text) (at : ℕ) → length names ≤ at → drop at names ≡ []
all_dropped [] zero h = refl
all_dropped [] (suc at) h = refl
all_dropped (x ∷ names) zero h = absurd (omega arith)
all_dropped (x ∷ names) (suc at) h = all_dropped names at (omega arith)

pub ended : (names : List Text) (at : ℕ) (absent : List (Text × Text)) (modules : List Justfile) (o : Option Justfile) → length names ≤ at → resumed (take at names) o (end_of_names absent modules (drop at names)) ≡ here_as o
ended names at absent modules o h = ap (λ xs. resumed (take at names) o (end_of_names absent modules xs)) (all_dropped names at h)

-- the same of modules alone, where names may have led to none
abbrev pub along_from : Option Justfile → List Text → Option Justfile
along_from None names = None
along_from (Some j) names = inner_along j names

along : List Text → Option Justfile → Option Justfile
along names found = elim found as (λ _. Option Justfile) [
  | Some inner ↦ inner_along inner names
  | None ↦ None
]

along_same : (names : List Text) (found : Option Justfile) → along names found ≡ along_from found names
unfolding along
along_same names None = refl
along_same names (Some j) = refl

pub inner_next : (names : List Text) (at : ℕ) (j : Justfile) (found : Option Justfile) → at < length names → found ≡ module_named (get_or names at []) (out-Justfile j).modules
    → inner_along j (drop at names) ≡ along_from found (drop (at + 1) names)
unfolding along
inner_next names at j found more e =
    ap (inner_along j) (drop-cons names at [] more ∙ (λ i. get_or names at [] ∷ drop (sym (add-one at) i) names))
    ∙ ap (along (drop (at + 1) names)) (sym e) ∙ along_same (drop (at + 1) names) found

pub inner_end : (names : List Text) (at : ℕ) (o : Option Justfile) → length names ≤ at → along_from o (drop at names) ≡ o
inner_end names at None h = refl
inner_end names at (Some j) h = ap (inner_along j) (all_dropped names at h)
