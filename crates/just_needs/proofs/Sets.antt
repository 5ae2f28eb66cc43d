-- Whether a variable is needed, and whether a number is that of one.
use Rattle.std.proofs.Common.{◌≡◌, ◌↔◌, ℕ, Bool, true, false, Some, ap}
use Rattle.std.specs.Map.{keys_of}
use Rattle.just_ast_definitions.specs.declared.assignment.Assignment.{Assignment}
use Rattle.just_graph.proofs.Members.{In}
use Rattle.just_names.specs.Texts.{Text}
use Rattle.just_names.specs.declared.number.Number.{Number}
use Rattle.just_parts.specs.Known.{Known}
use Rattle.just_parts.specs.Needs.{IsNumberIn, Needs, onward, starts}
use Rattle.just_parts.specs.Reading.{ReadsOn}
use Rattle.just_table.specs.Entries.{find}
use Rattle.just_needs.proofs.Decisions.{dec-and, dec-by, dec-found, dec-is, dec-number, dec-some, test, tests}
use Rattle.just_needs.proofs.Passages as passages
use Rattle.just_needs.proofs.Passages.{Passes, dec-passes}
use Rattle.just_needs.proofs.Readers.{among-keys, dec-reads-on}

module _ (m : Known) (overridden : Text → Bool) (start : Text → Type 0) where
  -- a variable is read by one that is not overridden
  abbrev IsReadOn : Text → Text → Type 0
  IsReadOn to from = (overridden from ≡ false) × ReadsOn m from to

  -- steps back lead from what is needed to a start
  needed-back : (x : Text) → Needs m overridden start x → Passes IsReadOn (keys_of m.assignments) start x
  needed-back x (starts s) = passages.here s
  needed-back x (onward {name = from} n free reads) = passages.onward (free, reads) (among-keys from reads.assigned m.assignments reads.is) (needed-back from n)

  back-needed : (x : Text) → Passes IsReadOn (keys_of m.assignments) start x → Needs m overridden start x
  back-needed x (passages.here s) = starts s
  back-needed x (passages.onward {b = from} r i rest) = onward (back-needed from rest) r.0 r.1

  -- so whether a variable is needed is decided with what it is needed from
  dec-needs : ((x : Text) → Dec (start x)) → (x : Text) → Dec (Needs m overridden start x)
  dec-needs d x = dec-by (back-needed x) (needed-back x)
      (dec-passes IsReadOn (λ to from. dec-and (dec-is (overridden from) false) (dec-reads-on m from to)) (keys_of m.assignments) start d x)

-- whether two numbers are one
dec-same-number : (a b : Number) → Dec (a ≡ b)
dec-same-number a b = dec-by {A = a.0 ≡ b.0} (λ e. let made : ℕ → Number = λ k. record { 0 = k } in ap made e) (λ e. ap (λ (n : Number). n.0) e) (dec-number a.0 b.0)

-- whether a number is that of a variable in a set
dec-number-in : (m : Known) (set : Text → Type 0) → ((x : Text) → Dec (set x)) → (n : Number) → Dec (IsNumberIn m set n)
dec-number-in m set d n = dec-by {A = (x : Text) × In x (keys_of m.assignments) × ((a : Assignment) × (find x m.assignments ≡ Some a) × ((a.number ≡ n) × set x))}
    (λ h. record { name = h.0; assigned = h.2.0; is = h.2.1; number = h.2.2.0; there = h.2.2.1 })
    (λ i. (i.name, among-keys i.name i.assigned m.assignments i.is, (i.assigned, i.is, (i.number, i.there))))
    (dec-some _ (λ x. dec-found (λ a. (a.number ≡ n) × set x) (λ a. dec-and (dec-same-number a.number n) (d x)) (find x m.assignments)) (keys_of m.assignments))

-- so there is a set of numbers that has exactly those of what is needed
pub some-set : (m : Known) (overridden : Text → Bool) (start : Text → Type 0) → ((x : Text) → Dec (start x)) →
    (set : Number → Bool) × ((n : Number) → (set n ≡ true) ↔ IsNumberIn m (Needs m overridden start) n)
some-set m overridden start d =
    let needed : (n : Number) → Dec (IsNumberIn m (Needs m overridden start) n) = dec-number-in m (Needs m overridden start) (dec-needs m overridden start d) in
    (λ n. test (needed n), λ n. tests (needed n))
