-- Features that are refused, module after module.
use Rattle.std.proofs.Common.{◌≡◌, ℕ, ◌+◌, ◌<◌, Bool, List, [], ◌∷◌, ◌++◌, length, get_or, take, drop, Option, None, Some, sym, ap, subst, ◌∙◌}
use Rattle.std.specs.Borrow.{Bor}
use Rattle.std.specs.List.{All}
use Rattle.std.proofs.lemmas.List.{append_assoc, map-append, take-append-drop}
use Rattle.std.proofs.lemmas.List.Elements.{All-push}
use Rattle.just_errors.specs.declared.error.Error.TheVariants.{Run}
use Rattle.just_errors.specs.declared.run_error.RunError.TheVariants.{UnstableFeature}
use Rattle.just_names.specs.Texts.{Text}
use Rattle.just_justfile.specs.declared.justfile.Justfile.{Justfile}
use Rattle.just_listings.specs.Order.{referents}
use Rattle.just_listings.specs.Preorder.{AreInPreorder}
use Rattle.just_listings.specs.Unstable.{IsUnstableRefusal, refused, unstable}
use Rattle.just_listings.specs.declared.walk.Choice.TheVariants as choice
use Rattle.just_listings.proofs.Listed.{behind_more}

abbrev pub IsAllowed : Bool → Justfile → Type 0
IsAllowed allowed j = refused allowed j ≡ None

pub allowed_more : (allowed : Bool) (items : List (Bor Justfile)) (i : ℕ) (x : Bor Justfile) → i < length items → x ≡ get_or items i x → refused allowed x.now ≡ None → All (IsAllowed allowed) (referents (take i items)) →
    All (IsAllowed allowed) (referents (take (i + 1) items))
allowed_more allowed items i x within at none all = subst (All (IsAllowed allowed)) (sym (behind_more items i x within at)) (All-push (IsAllowed allowed) (referents (take i items)) x.now all none)

parted : (items : List (Bor Justfile)) (i : ℕ) (x : Bor Justfile) → i < length items → x ≡ get_or items i x → referents items ≡ referents (take i items) ++ x.now ∷ referents (drop (i + 1) items)
parted items i x within at =
    ap referents (sym (take-append-drop (i + 1) items)) ∙ map-append (λ (it : Bor Justfile). it.now) (take (i + 1) items) (drop (i + 1) items)
    ∙ ap (λ xs. xs ++ referents (drop (i + 1) items)) (behind_more items i x within at) ∙ append_assoc (referents (take i items)) (x.now ∷ []) (referents (drop (i + 1) items))

pub refuses : (allowed : Bool) (root : Justfile) (items : List (Bor Justfile)) (i : ℕ) (x : Bor Justfile) (feature told : Text) → i < length items → x ≡ get_or items i x → AreInPreorder choice.All (root ∷ []) (referents items) →
    All (IsAllowed allowed) (referents (take i items)) → refused allowed x.now ≡ Some feature → told ≡ feature → IsUnstableRefusal allowed root (Run (UnstableFeature told))
refuses allowed root items i x feature told within at walked all here same =
    subst (λ (text : Text). IsUnstableRefusal allowed root (Run (UnstableFeature text))) (sym same)
    (unstable (referents (take i items)) (referents (drop (i + 1) items)) x.now feature (subst (AreInPreorder choice.All (root ∷ [])) (parted items i x within at) walked) all here)
