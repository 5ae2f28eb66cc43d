-- One turn of the loop that opens modules.
use Rattle.std.proofs.Common.{◌≡◌, ◌∙◌, ℕ, zero, suc, ◌+◌, Bool, List, [], ◌∷◌, ◌++◌, drop, length, map, take, Option, Some, Ok, Err, refl, sym, ap, subst, arith}
use Rattle.std.specs.Prelude.{Result}
use Rattle.std.specs.List.{All, Contains, slice_get}
use Rattle.std.proofs.Math.Seq.{drop-length, take-length}
use Rattle.std.proofs.lemmas.List.{append_assoc, map-append}
use Rattle.std.proofs.lemmas.List.Elements.{All-nil, All-push, Contains-append_right}
use Rattle.just_errors.specs.declared.halt.Halt.{Halt}
use Rattle.just_justfile.specs.Running.{known_by_tables}
use Rattle.just_justfile.specs.declared.justfile.Justfile.{Justfile}
use Rattle.just_names.specs.declared.number.Number.{Number}
use Rattle.just_parts.specs.Needs.{IsClosed}
use Rattle.just_run_layers.proofs.InteractionLemmas.{took-stop, took-then}
use Rattle.just_run_layers.specs.Evaluation.{NumberSet, in_set}
use Rattle.just_run_layers.specs.Host.{Answer, KeepsPromises}
use Rattle.just_run_layers.specs.Interactions.{Log, Question, HasTrace}
use Rattle.just_scopes.proofs.Needed.{closed-set, found-one}
use Rattle.just_scopes.specs.Need.{IsFound, IsNeededAtOnce, NumberSets, asked}
use Rattle.just_scopes.specs.Open.{whose_opened, whose_placed}
use Rattle.just_scopes.specs.Opening.{Handed, Opened, all_opened, around, open_steps, openings}
use Rattle.just_scopes.specs.loops.Opens.{AreFoundSets, CanOpen, IsOpenedBy, IsSetFor, all, some}
use Rattle.just_scopes.specs.Preorder.{Placed}
use Rattle.just_scopes.specs.loops.Preorder.{placed}
use Rattle.just_scopes.specs.declared.modules.PlacedModule.{PlacedModule}

-- what a module is asked for is the set that is named
pub set-asked : {used : Number → Bool} {j : Justfile} {lazy : Bool} {set : NumberSet} → IsSetFor used j lazy set → (sets : NumberSets) → IsFound used j (sets j) → set ≡ asked sets lazy j
set-asked {used = used} {j = j} (some {set = set} found) sets other = ap (λ s. Some s) (found-one used j set (sets j) found other)
set-asked all sets other = refl

-- and it is closed
pub set-closed : {used overridden : Number → Bool} {j : Justfile} {lazy : Bool} {set : NumberSet} → IsSetFor used j lazy set → CanOpen overridden j → IsClosed (known_by_tables j) overridden (in_set set)
set-closed {used = used} {overridden} {j = j} (some {set = set} found) can = closed-set j (IsNeededAtOnce used j) set overridden can.apart found can.held
set-closed all can = λ from to a b found there reads free inside. refl

-- where modules are opened in turn: what is left goes on from what is open, which are those before, each by what it was asked for
pub record IsOpening (used : Number → Bool) (handed : Handed) (p q : Question → Option Answer) (every done left : List Placed) (initial now : Log) (opened : List Opened) : Type 0 where
  pub listed : every ≡ done ++ left
  pub goes : (sets : NumberSets) → AreFoundSets used every sets → (new : Log) (r : Result (List Opened) Halt) → HasTrace q (openings sets handed left opened) now new r → HasTrace p (all_opened sets handed every) initial new r
  pub whose : map whose_opened opened ≡ map whose_placed done
  pub bound : All (IsOpenedBy used handed) opened

module _ (used : Number → Bool) (handed : Handed) where
  pub begins : (p : Question → Option Answer) (every : List Placed) (initial : Log) → IsOpening used handed p p every [] every initial initial []
  begins p every initial = record { listed = refl; goes = λ sets found new r t. t; whose = refl; bound = All-nil (IsOpenedBy used handed) }

  module _ (p q : Question → Option Answer) (every done more : List Placed) (m : Placed) (initial now : Log) (opened : List Opened) (are : IsOpening used handed p q every done (m ∷ more) initial now opened) where
    pub is-listed : Contains every m
    is-listed = subst (λ ps. Contains ps m) (sym are.listed) (Contains-append_right done (m ∷ more) m (0, omega arith, refl))

    abbrev Takes : Log → Result Opened Halt → Type 0
    Takes mid r = (sets : NumberSets) → IsFound used m.justfile (sets m.justfile) → HasTrace q (open_steps sets handed m (around opened m.parent)) now mid r

    pub turns : (s : Question → Option Answer) → KeepsPromises q s → (mid : Log) (o : Opened) → Takes mid (Ok o) → whose_opened o ≡ whose_placed m → IsOpenedBy used handed o → (later : List Opened) → later ≡ opened ++ o ∷ [] →
        IsOpening used handed p s every (done ++ m ∷ []) more initial mid later
    turns s keeps mid o takes same bound later pushed = record {
      listed = are.listed ∙ sym (append_assoc done (m ∷ []) more);
      goes = λ sets found new r t. are.goes sets found new r
          (took-then q s keeps (open_steps sets handed m (around opened m.parent)) (λ o. openings sets handed more (opened ++ o ∷ [])) now mid new o r (takes sets (found m is-listed))
          (subst (λ os. HasTrace s (openings sets handed more os) mid new r) pushed t));
      whose = ap (map whose_opened) pushed ∙ map-append whose_opened opened (o ∷ []) ∙ (λ i. are.whose i ++ same i ∷ []) ∙ sym (map-append whose_placed done (m ∷ []));
      bound = subst (All (IsOpenedBy used handed)) (sym pushed) (All-push (IsOpenedBy used handed) opened o are.bound bound);
    }

    pub stops : (mid : Log) (e : Halt) → Takes mid (Err e) → (sets : NumberSets) → AreFoundSets used every sets → HasTrace p (all_opened sets handed every) initial mid (Err e)
    stops mid e takes sets found = are.goes sets found mid (Err e)
        (took-stop q (open_steps sets handed m (around opened m.parent)) (λ o. openings sets handed more (opened ++ o ∷ [])) now mid e (takes sets (found m is-listed)))

-- the loop at a place: what stands there, and what is left behind it
drop-at : {A : Type 0} (xs : List A) (k : ℕ) (x : A) → slice_get xs k ≡ Some x → drop k xs ≡ x ∷ drop (suc k) xs
drop-at [] k x h = cc
drop-at (y ∷ xs) zero x h = let same : y ≡ x = cc in ap (λ z. z ∷ xs) same
drop-at (y ∷ xs) (suc k) x h = drop-at xs k x h

pub take-at : {A : Type 0} (xs : List A) (k : ℕ) (x : A) → slice_get xs k ≡ Some x → take (suc k) xs ≡ take k xs ++ x ∷ []
take-at [] k x h = cc
take-at (y ∷ xs) zero x h = let same : y ≡ x = cc in ap (λ z. z ∷ []) same
take-at (y ∷ xs) (suc k) x h = ap (λ ys. y ∷ ys) (take-at xs k x h)

module _ (used : Number → Bool) (handed : Handed) (p q : Question → Option Answer) (modules : List PlacedModule) (place : ℕ) (m : PlacedModule) (at : slice_get modules place ≡ Some m) (initial now : Log) (opened : List Opened)
    (are : IsOpening used handed p q (map placed modules) (map placed (take place modules)) (map placed (drop place modules)) initial now opened) where
  after : place + 1 ≡ suc place
  after = omega arith

  pub at-place : IsOpening used handed p q (map placed modules) (map placed (take place modules)) (placed m ∷ map placed (drop (place + 1) modules)) initial now opened
  at-place = subst (λ left. IsOpening used handed p q (map placed modules) (map placed (take place modules)) left initial now opened)
      (ap (map placed) (drop-at modules place m at) ∙ ap (λ k. placed m ∷ map placed (drop k modules)) (sym after)) are

  pub past-place : (s : Question → Option Answer) (mid : Log) (later : List Opened) → IsOpening used handed p s (map placed modules) (map placed (take place modules) ++ placed m ∷ []) (map placed (drop (place + 1) modules)) initial mid later →
      IsOpening used handed p s (map placed modules) (map placed (take (place + 1) modules)) (map placed (drop (place + 1) modules)) initial mid later
  past-place s mid later = subst (λ done. IsOpening used handed p s (map placed modules) done (map placed (drop (place + 1) modules)) initial mid later)
      (sym (map-append placed (take place modules) (m ∷ [])) ∙ ap (map placed) (sym (take-at modules place m at)) ∙ ap (λ k. map placed (take k modules)) (sym after))

-- the end of it
module _ (used : Number → Bool) (handed : Handed) (p q : Question → Option Answer) (modules : List PlacedModule) (place : ℕ) (end : place ≡ length modules) (initial now : Log) (opened : List Opened)
    (are : IsOpening used handed p q (map placed modules) (map placed (take place modules)) (map placed (drop place modules)) initial now opened) where
  pub at-end : IsOpening used handed p q (map placed modules) (map placed modules) [] initial now opened
  at-end =
      subst (λ done. IsOpening used handed p q (map placed modules) done [] initial now opened) (ap (λ k. map placed (take k modules)) end ∙ ap (map placed) (take-length modules))
      (subst (λ left. IsOpening used handed p q (map placed modules) (map placed (take place modules)) left initial now opened) (ap (λ k. map placed (drop k modules)) end ∙ ap (map placed) (drop-length modules)) are)
