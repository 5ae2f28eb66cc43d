use Rattle.std.proofs.Common.{◌≡◌, ◌<◌, List, Some, arith, length, refl, subst}
use Rattle.std.specs.List.{slice_get}
use Rattle.std.proofs.lemmas.List.{length-map}
use Rattle.std.proofs.lemmas.Option.{slice_get_read}
use Rattle.just_names.specs.Name.{text_of_name}
use Rattle.just_names.specs.declared.name.Name.{Name}
use Rattle.just_module_contents.specs.Contents.{signatures}
use Rattle.just_names.specs.Index.{texts_of_names, Repeats}
use Rattle.just_module_contents.specs.Definitions.{functions_in}
use Rattle.just_module_contents.proofs.Signatures.{functions_redefined}
use Rattle.just_module_headers.proofs.functions.check_different.Goals as goal

pub returns-clause-named : goal.returns-clause-named
returns-clause-named c =
    let first = c.in-Some.first in
    let second = c.in-Some.second in
    let made = c.in_ok-names.names.items in
    let read : Repeats (texts_of_names c.as_slice.result.now) first second = rw c.in-Some.is at c.in_ok-repeated_name.ensures.repeated in
    let repeats : Repeats (texts_of_names made) first second = subst (λ (ns : List Name). Repeats (texts_of_names ns) first second) c.as_slice.ensures.value read in
    let inside : second < length made = omega (arith, repeats.within, length-map made text_of_name) in
    let at_first : slice_get made first ≡ Some c.index.result.now = slice_get_read made (length made) first c.index.result.now refl (omega (arith, repeats.apart, inside)) c.index.ensures in
    let at_second : slice_get made second ≡ Some c.index-in-Some.result.now = slice_get_read made (length made) second c.index-in-Some.result.now refl inside c.index-in-Some.ensures in
    functions_redefined (signatures (functions_in c.args.definitions.now)) first second c.index.result.now c.index-in-Some.result.now c.told.result.token c.told.result.kind
    (subst (λ (ns : List Name). Repeats (texts_of_names ns) first second) c.in_ok-names.ensures repeats)
    (subst (λ (ns : List Name). slice_get ns first ≡ Some c.index.result.now) c.in_ok-names.ensures at_first)
    (subst (λ (ns : List Name). slice_get ns second ≡ Some c.index-in-Some.result.now) c.in_ok-names.ensures at_second) c.told.ensures.token c.told.ensures.kind
