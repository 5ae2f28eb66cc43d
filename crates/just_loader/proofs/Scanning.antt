-- Places and steps of items, as more files and names are found.
use Rattle.std.proofs.Common.{◌≡◌, ℕ, ◌+◌, ◌<◌, List, [], ◌∷◌, ◌++◌, map, length, take, get_or, Option, None, Some, refl, sym, ap, subst, ◌∙◌, arith, inl, inr}
use Rattle.std.specs.List.{Contains}
use Rattle.std.proofs.lemmas.List.{append_assoc, append-nil, map-append, take_more}
use Rattle.std.proofs.lemmas.List.Elements.{Contains-append_cases}
use Rattle.just_graph.specs.declared.unfolding.Step.{Step}
use Rattle.just_names.specs.declared.name.Name.{Name}
use Rattle.just_parts.specs.Items.{Item}
use Rattle.just_ast_items.specs.Edge.{Edge, Imports, Declares, edge_of}
use Rattle.just_loader.specs.Links.{Link, Unlinked, To, AtFault}
use Rattle.just_loader.specs.loops.Scanned.{IsLinkPlace, ArePlacesOf, IsStepTo, IsStepOf, AreSteps, Grows, Extends, HasFault}
use Rattle.just_errors.specs.Causes.{Cause}
use Rattle.just_loader.proofs.Numberings.{get_more, map_get, got, named_more}
use Rattle.std.proofs.lemmas.Option.{slice_get_read}

-- more files are found
pub place_more : (old more : List (List ℕ)) (l : Link) (t : Option ℕ) → IsLinkPlace old l t → IsLinkPlace (old ++ more) l t
place_more old more Unlinked None p = tt
place_more old more Unlinked (Some k) p = absurd p
place_more old more (To path) None p = absurd p
place_more old more (To path) (Some k) p = get_more old more k path p
place_more old more (AtFault c) t p = absurd p

pub places_more : (old more : List (List ℕ)) (ls : List Link) (ts : List (Option ℕ)) → ArePlacesOf old ls ts → ArePlacesOf (old ++ more) ls ts
places_more old more [] [] p = tt
places_more old more [] (t ∷ ts) p = absurd p
places_more old more (l ∷ ls) [] p = absurd p
places_more old more (l ∷ ls) (t ∷ ts) p = (place_more old more l t p.0, places_more old more ls ts p.1)

-- one more item
pub places_push : (paths : List (List ℕ)) (ls : List Link) (ts : List (Option ℕ)) (l : Link) (t : Option ℕ) → ArePlacesOf paths ls ts → IsLinkPlace paths l t → ArePlacesOf paths (ls ++ l ∷ []) (ts ++ t ∷ [])
places_push paths [] [] l t ps p = (p, tt)
places_push paths [] (x ∷ ts) l t ps p = absurd ps
places_push paths (x ∷ ls) [] l t ps p = absurd ps
places_push paths (x ∷ ls) (y ∷ ts) l t ps p = (ps.0, places_push paths ls ts l t ps.1 p)

pub places_count : (paths : List (List ℕ)) (ls : List Link) (ts : List (Option ℕ)) → ArePlacesOf paths ls ts → length ts ≡ length ls
places_count paths [] [] p = refl
places_count paths [] (t ∷ ts) p = absurd p
places_count paths (l ∷ ls) [] p = absurd p
places_count paths (l ∷ ls) (t ∷ ts) p = omega (arith, places_count paths ls ts p.1)

-- more names are numbered
step_to_more : (old more : List Name) (place : ℕ) (e : Option Edge) (steps : List Step) → IsStepTo old place e steps → IsStepTo (old ++ more) place e steps
step_to_more old more place (Some (Imports literal optional)) steps s = s
step_to_more old more place (Some (Declares name literal optional)) steps s = (s.0, s.1, named_more old more s.0 s.1 name s.2, s.3)
step_to_more old more place None steps s = s

pub step_more : (old more : List Name) (i : Item) (t : Option ℕ) (steps : List Step) → IsStepOf old i t steps → IsStepOf (old ++ more) i t steps
step_more old more i None steps s = s
step_more old more i (Some place) steps s = step_to_more old more place (edge_of i) steps s

pub steps_more : (old more : List Name) (is : List Item) (ts : List (Option ℕ)) (row : List Step) → AreSteps old is ts row → AreSteps (old ++ more) is ts row
steps_more old more [] [] row s = s
steps_more old more [] (t ∷ ts) row s = absurd s
steps_more old more (i ∷ is) [] row s = absurd s
steps_more old more (i ∷ is) (t ∷ ts) row s = (s.0, s.1, step_more old more i t s.0 s.2, steps_more old more is ts s.1 s.3, s.4)

pub steps_push : (names : List Name) (is : List Item) (ts : List (Option ℕ)) (row : List Step) (i : Item) (t : Option ℕ) (steps : List Step) → AreSteps names is ts row → IsStepOf names i t steps
    → AreSteps names (is ++ i ∷ []) (ts ++ t ∷ []) (row ++ steps)
steps_push names [] [] row i t steps s p = (steps, [], p, refl, ap (λ r. r ++ steps) s ∙ sym (append-nil steps))
steps_push names [] (x ∷ ts) row i t steps s p = absurd s
steps_push names (x ∷ is) [] row i t steps s p = absurd s
steps_push names (x ∷ is) (y ∷ ts) row i t steps s p =
    (s.0, s.1 ++ steps, s.2, steps_push names is ts s.1 i t steps s.3 p, ap (λ r. r ++ steps) s.4 ∙ append_assoc s.0 s.1 steps)

pub grows_on : (P Q : List ℕ → Type 0) (old mid new : List (List ℕ)) → Grows Q old mid → Grows P mid new → ((t : List ℕ) → P t → Q t) → Grows Q old new
grows_on P Q old mid new g h f = (g.0 ++ h.0, h.1 ∙ ap (λ xs. xs ++ h.0) g.1 ∙ append_assoc old g.0 h.0, λ t c. elim (Contains-append_cases g.0 h.0 t c) [ inl a ↦ g.2 t a | inr b ↦ f t (h.2 t b) ])

pub grows_by : (P Q : List ℕ → Type 0) (old new : List (List ℕ)) → Grows P old new → ((t : List ℕ) → P t → Q t) → Grows Q old new
grows_by P Q old new g f = (g.0, g.1, λ t c. f t (g.2 t c))

pub extends_on : {A : Type 0} (old mid new : List A) → Extends old mid → Extends mid new → Extends old new
extends_on old mid new g h = (g.0 ++ h.0, h.1 ∙ ap (λ xs. xs ++ h.0) g.1 ∙ append_assoc old g.0 h.0)

contains_map : {A B : Type 0} (f : A → B) (xs : List A) (i : ℕ) (x : A) → i < length xs → x ≡ get_or xs i x → Contains (map f xs) (f x)
contains_map f xs i x h is = got (map f xs) i (f x) (map_get f xs i x (slice_get_read xs (length xs) i x refl h is))

-- the next item
pub targets_step : (L : Item → Link) (items : List Item) (i : ℕ) (x : Item) (old mid new : List (List ℕ)) (ts more : List (Option ℕ)) (t : Option ℕ) → i < length items → x ≡ get_or items i x
    → ArePlacesOf mid (map L (take i items)) ts → Grows (λ p. Contains (map L items) (To p)) old mid → IsLinkPlace new (L x) t → Grows (λ p. L x ≡ To p) mid new → more ≡ ts ++ t ∷ []
    → ArePlacesOf new (map L (take (i + 1) items)) more × Grows (λ p. Contains (map L items) (To p)) old new
targets_step L items i x old mid new ts more t h is places grows place one e =
    let all : take (i + 1) items ≡ take i items ++ x ∷ [] = take_more items i x h ∙ ap (λ y. take i items ++ y ∷ []) (sym is) in
    let before : ArePlacesOf new (map L (take i items)) ts = subst (λ ps. ArePlacesOf ps (map L (take i items)) ts) (sym one.1) (places_more mid one.0 (map L (take i items)) ts places) in
    let pushed : ArePlacesOf new (map L (take i items) ++ L x ∷ []) (ts ++ t ∷ []) = places_push new (map L (take i items)) ts (L x) t before place in
    let links : map L (take (i + 1) items) ≡ map L (take i items) ++ L x ∷ [] = ap (map L) all ∙ map-append L (take i items) (x ∷ []) in (
      subst (λ us. ArePlacesOf new (map L (take (i + 1) items)) us) (sym e) (subst (λ ls. ArePlacesOf new ls (ts ++ t ∷ [])) (sym links) pushed),
      grows_on (λ p. L x ≡ To p) (λ p. Contains (map L items) (To p)) old mid new grows one (λ p to. subst (Contains (map L items)) to (contains_map L items i x h is)),
    )

-- the fault of one of the items is a fault of a link
pub fault_among : (L : Item → Link) (items : List Item) (i : ℕ) (x : Item) → i < length items → x ≡ get_or items i x → (cause : Cause) → L x ≡ AtFault cause → HasFault (map L items) cause
fault_among L items i x h is cause at_fault = subst (Contains (map L items)) at_fault (contains_map L items i x h is)

pub row_step : (items : List Item) (targets : List (Option ℕ)) (i : ℕ) (x : Item) (t : Option ℕ) (old mid new : List Name) (row more : List Step) → i < length items → length targets ≡ length items → x ≡ get_or items i x → t ≡ get_or targets i t
    → AreSteps mid (take i items) (take i targets) row → Extends old mid → (steps : List Step) × IsStepOf new x t steps × (more ≡ row ++ steps) → Extends mid new
    → AreSteps new (take (i + 1) items) (take (i + 1) targets) more × Extends old new
row_step items targets i x t old mid new row more h count is at before extends one on =
    let all : take (i + 1) items ≡ take i items ++ x ∷ [] = take_more items i x h ∙ ap (λ y. take i items ++ y ∷ []) (sym is) in
    let both : take (i + 1) targets ≡ take i targets ++ t ∷ [] = take_more targets i t (omega arith) ∙ ap (λ y. take i targets ++ y ∷ []) (sym at) in
    let old_steps : AreSteps new (take i items) (take i targets) row = subst (λ ns. AreSteps ns (take i items) (take i targets) row) (sym on.1) (steps_more mid on.0 (take i items) (take i targets) row before) in
    let pushed : AreSteps new (take i items ++ x ∷ []) (take i targets ++ t ∷ []) (row ++ one.0) = steps_push new (take i items) (take i targets) row x t one.0 old_steps one.1 in (
      subst (AreSteps new (take (i + 1) items) (take (i + 1) targets)) (sym one.2) (subst (λ is. AreSteps new is (take (i + 1) targets) (row ++ one.0)) (sym all) (subst (λ ts. AreSteps new (take i items ++ x ∷ []) ts (row ++ one.0)) (sym both) pushed)),
      extends_on old mid new extends on,
    )
