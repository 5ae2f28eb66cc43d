-- Modules that are taken one after another.
use Rattle.std.proofs.Common.{◌≡◌, ◌<◌, ℕ, zero, suc, ◌+◌, List, [], ◌∷◌, ◌++◌, map, take, length, get_or, slice_index, Option, Some, refl, sym, ap, subst, ◌∙◌, arith, inl}
use Rattle.std.specs.List.{Contains, slice_get}
use Rattle.std.proofs.lemmas.List.{get_or_default, take_more}
use Rattle.std.proofs.lemmas.Option.{slice_get_read}
use Rattle.just_graph.specs.Steps.{IsOnce, in_take}
use Rattle.just_graph.proofs.Members.{contained, in_left, in_right, is_in}
use Rattle.just_graph.proofs.Index.{get_map, map_get, some_same}
use Rattle.just_table.specs.Entries.{put}
use Rattle.just_names.specs.Texts.{Text}
use Rattle.just_module_contents.specs.declared.labels.Label.{Label}
use Rattle.just_justfile.specs.Module.{module_name}
use Rattle.just_justfile.specs.declared.justfile.Justfile.{Justfile}
use Rattle.just_compiled.specs.Labelled.{held_by_name, labelled_as, slot, with_labels}

pub held_more : (held : List (Text × Justfile)) (js : List Justfile) (j : Justfile) → held_by_name held (js ++ j ∷ []) ≡ put (module_name j) j (held_by_name held js)
held_more held [] j = refl
held_more held (k ∷ js) j = held_more (put (module_name k) k held) js j

labels_next : (js : List Justfile) (labels : List Label) (n : ℕ) (j : Justfile) (label : Label) → slice_get js n ≡ Some j → slice_get labels n ≡ Some label
    → with_labels (take (suc n) js) (take (suc n) labels) ≡ with_labels (take n js) (take n labels) ++ labelled_as label j ∷ []
labels_next [] labels n j label e f = cc
labels_next (k ∷ js) [] n j label e f = cc
labels_next (k ∷ js) (m ∷ labels) zero j label e f = λ i. labelled_as (some_same f i) (some_same e i) ∷ []
labels_next (k ∷ js) (m ∷ labels) (suc n) j label e f = ap (λ (ks : List Justfile). labelled_as m k ∷ ks) (labels_next js labels n j label e f)

pub labels_more : (js : List Justfile) (labels : List Label) (n : ℕ) (j : Justfile) (label : Label) → slice_get js n ≡ Some j → slice_get labels n ≡ Some label
    → with_labels (take (n + 1) js) (take (n + 1) labels) ≡ with_labels (take n js) (take n labels) ++ labelled_as label j ∷ []
labels_more js labels n j label e f = let one : n + 1 ≡ suc n = omega arith in ap (λ k. with_labels (take k js) (take k labels)) one ∙ labels_next js labels n j label e f

get_or_same : (row : List ℕ) (n : ℕ) → n < length row → slice_index row n ≡ get_or row n (slice_index row n)
get_or_same row n h = get_or_default row n 0 (slice_index row n) h

-- what the slots of a row hold
pub held_at : (js : List Justfile) (slots : List (Option Justfile)) (row : List ℕ) (n : ℕ) → map Some js ≡ map (slot slots) row → n < length row → (j : Justfile) × (slice_get js n ≡ Some j) × (slot slots (slice_index row n) ≡ Some j)
held_at js slots row n e h =
    let at : slice_get row n ≡ Some (slice_index row n) = slice_get_read row (length row) n (slice_index row n) refl h (get_or_same row n h) in
    let there : slice_get (map (slot slots) row) n ≡ Some (slot slots (slice_index row n)) = map_get (slot slots) row n (slice_index row n) at in
    let j = get_map Some js n (slot slots (slice_index row n)) (ap (λ xs. slice_get xs n) e ∙ there) in
    (j.0, j.1, j.2)

-- the next place of a row was not taken
pub not_taken : (row : List ℕ) (n : ℕ) → IsOnce row → n < length row → Contains (take n row) (slice_index row n) → ⊥
not_taken row n once h c = let i = in_take row n (slice_index row n) (omega (arith, h)) c in once i.0 n i.1 h i.2

pub not_in_more : (row : List ℕ) (n q : ℕ) → n < length row → (Contains (take (n + 1) row) q → ⊥) → (Contains (take n row) q → ⊥) × (q ≡ slice_index row n → ⊥)
not_in_more row n q h none = (
  λ c. none (subst (λ xs. Contains xs q) (sym (take_more row n 0 h)) (contained q (take n row ++ slice_index row n ∷ []) (in_left q (take n row) (slice_index row n ∷ []) (is_in q (take n row) c)))),
  λ e. none (subst (λ xs. Contains xs q) (sym (take_more row n 0 h)) (contained q (take n row ++ slice_index row n ∷ []) (in_right q (take n row) (slice_index row n ∷ []) (inl e)))),
)
