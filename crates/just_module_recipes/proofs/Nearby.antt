-- What rows of targets have.
use Rattle.std.proofs.Common.{◌≡◌, ℕ, ◌+◌, ◌<◌, List, [], ◌∷◌, ◌++◌, length, take, get_or, inl, inr, refl, sym, ◌∙◌, ap, append_assoc}
use Rattle.std.specs.List.{Contains, All}
use Rattle.std.specs.BTreeSet.{BTreeSet}
use Rattle.std.proofs.lemmas.List.Elements.{All-nil, All-cons, All-contains}
use Rattle.just_graph.proofs.Members.{In, contained, is_in}
use Rattle.just_module_recipes.specs.Rows.{keys_at}
use Rattle.just_module_recipes.specs.loops.Rows.{gathered_paths, near}
use Rattle.just_module_recipes.specs.declared.targets.Target.{Target}
use Rattle.just_module_recipes.specs.declared.targets.Target.TheVariants.{Near, Far, Gone}
use Rattle.just_module_recipes.proofs.SameSets.{taken}
use Rattle.just_paths.specs.declared.modulepath.Modulepath.{Modulepath}

pub near-append : (xs ys : List Target) → near (xs ++ ys) ≡ near xs ++ near ys
near-append [] ys = refl
near-append (Near j ∷ xs) ys = ap (λ zs. j ∷ zs) (near-append xs ys)
near-append (Far n ∷ xs) ys = near-append xs ys
near-append (Gone ps ∷ xs) ys = near-append xs ys

pub near_next : (ts : List Target) (i : ℕ) (x : Target) → i < length ts → x ≡ get_or ts i x → near (take (i + 1) ts) ≡ near (take i ts) ++ near (x ∷ [])
near_next ts i x h is = ap near (taken ts i x h is) ∙ near-append (take i ts) (x ∷ [])

pub gathered-append : (sets : List (BTreeSet Modulepath)) (xs ys : List Target) → gathered_paths sets (xs ++ ys) ≡ gathered_paths sets xs ++ gathered_paths sets ys
gathered-append sets [] ys = refl
gathered-append sets (Near j ∷ xs) ys = ap (λ zs. keys_at sets j ++ zs) (gathered-append sets xs ys) ∙ sym (append_assoc (keys_at sets j) (gathered_paths sets xs) (gathered_paths sets ys))
gathered-append sets (Far n ∷ xs) ys = gathered-append sets xs ys
gathered-append sets (Gone ps ∷ xs) ys = ap (λ zs. ps.keys ++ zs) (gathered-append sets xs ys) ∙ sym (append_assoc ps.keys (gathered_paths sets xs) (gathered_paths sets ys))

pub gathered_next : (sets : List (BTreeSet Modulepath)) (ts : List Target) (i : ℕ) (x : Target) → i < length ts → x ≡ get_or ts i x → gathered_paths sets (take (i + 1) ts) ≡ gathered_paths sets (take i ts) ++ gathered_paths sets (x ∷ [])
gathered_next sets ts i x h is = ap (gathered_paths sets) (taken ts i x h is) ∙ gathered-append sets (take i ts) (x ∷ [])

in-near : (ts : List Target) (j : ℕ) → In (Near j) ts → In j (near ts)
in-near [] j h = h
in-near (Near k ∷ ts) j (inl e) = inl (cc)
in-near (Near k ∷ ts) j (inr h) = inr (in-near ts j h)
in-near (Far n ∷ ts) j (inl e) = absurd (cc)
in-near (Far n ∷ ts) j (inr h) = in-near ts j h
in-near (Gone ps ∷ ts) j (inl e) = absurd (cc)
in-near (Gone ps ∷ ts) j (inr h) = in-near ts j h

from-near : (ts : List Target) (j : ℕ) → In j (near ts) → In (Near j) ts
from-near [] j h = h
from-near (Near k ∷ ts) j (inl e) = inl (ap Near e)
from-near (Near k ∷ ts) j (inr h) = inr (from-near ts j h)
from-near (Far n ∷ ts) j h = inr (from-near ts j h)
from-near (Gone ps ∷ ts) j h = inr (from-near ts j h)

pub near_has : (ts : List Target) (j : ℕ) → Contains ts (Near j) → Contains (near ts) j
near_has ts j c = contained j (near ts) (in-near ts j (is_in (Near j) ts c))

pub near_is : (ts : List Target) (j : ℕ) → Contains (near ts) j → Contains ts (Near j)
near_is ts j c = contained (Near j) ts (from-near ts j (is_in j (near ts) c))

-- what holds of all places holds of one that a target is
pub near_one : (P : ℕ → Type 0) (ts : List Target) (x : Target) → Contains ts x → All P (near ts) → All P (near (x ∷ []))
near_one P ts (Near j) c a = All-cons P j [] (All-contains P (near ts) j a (near_has ts j c)) (All-nil P)
near_one P ts (Far n) c a = All-nil P
near_one P ts (Gone ps) c a = All-nil P
