-- What a variable needs is closed: with a variable that is not overridden it has what that reads.
use Rattle.std.proofs.Common.{◌≡◌, ◌∙◌, Bool, false, Option, Some, BuildHasherDefault, FoldHasher, refl, sym, ap, subst}
use Rattle.std.specs.HashSet.{HashSet, contains}
use Rattle.std.specs.Option.{option_map_or}
use Rattle.std.specs.Prelude.{IfSome}
use Rattle.just_ast_definitions.specs.declared.assignment.Assignment.{Assignment}
use Rattle.just_names.specs.Texts.{Text}
use Rattle.just_names.specs.declared.number.Number.{Number}
use Rattle.just_parts.specs.Known.{Known}
use Rattle.just_parts.specs.Needs.{AreNeeded, HaveNumbersApart, IsClosed, Needs, onward, overridden_by, same_number}

needed_closed : (m : Known) (overridden : Number → Bool) (name : Text) (set : Number → Bool) → HaveNumbersApart m → AreNeeded m overridden name set → IsClosed m overridden set
needed_closed m overridden name set apart needed from to a b is_a is_b step free there =
    let i = (needed apart a.number).0 there in
    let at : Needs m (overridden_by overridden m) (λ (start : Text). start ≡ name) from =
    subst (Needs m (overridden_by overridden m) (λ (start : Text). start ≡ name)) (apart i.name from i.assigned a i.is is_a i.number) i.there in
    let on : overridden_by overridden m from ≡ false = ap (λ o. option_map_or (λ (x : Assignment). overridden x.number) o false) is_a ∙ free in
    (needed apart b.number).1 (record { name = to; assigned = b; is = is_b; number = refl; there = onward at on step })

-- so is the set of what one needs, where there is one
abbrev Numbers : Type 0
Numbers = HashSet Number (BuildHasherDefault FoldHasher)

abbrev IsNeeded : (m : Known) → (Number → Bool) → Text → Option Numbers → Type 0
IsNeeded m overridden name found = IfSome found (λ (set : Numbers). AreNeeded m overridden name (contains same_number set))

pub found_closed : (m : Known) (overridden : Number → Bool) (name : Text) (found : Option Numbers) (set shared : Numbers) → HaveNumbersApart m → IsNeeded m overridden name found
    → found ≡ Some set → shared ≡ set → IsClosed m overridden (contains same_number shared)
found_closed m overridden name found set shared apart needed is same =
    subst (λ (s : Numbers). IsClosed m overridden (contains same_number s)) (sym same)
    (needed_closed m overridden name (contains same_number set) apart (subst (IsNeeded m overridden name) is needed))
