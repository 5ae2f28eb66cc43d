use Rattle.std.proofs.Common.{◌≡◌, ◌<◌, ◌∙◌, Some, arith, length, refl}
use Rattle.std.specs.List.{slice_get}
use Rattle.std.proofs.lemmas.List.{length-map}
use Rattle.std.proofs.lemmas.Option.{slice_get_read}
use Rattle.just_names.specs.Name.{text_of_name}
use Rattle.just_names.specs.Index.{texts_of_names, Repeats}
use Rattle.just_module_contents.proofs.Defining.{assigned_again}
use Rattle.just_module_headers.proofs.variables.check_once.Goals as goal

pub returns-in-Some-clause-named : goal.returns-in-Some-clause-named
returns-in-Some-clause-named c =
    let lent = c.args.names.now in
    let second = c.in-Some.second in
    let told = c.index-names-second.result in
    let repeats : Repeats (texts_of_names lent) c.in-Some.field-0-0 second = rw c.in-Some.is at c.in_ok-repeated_name.ensures.repeated in
    let inside : second < length lent = omega (arith, repeats.within, length-map lent text_of_name) in
    let at : slice_get lent second ≡ Some told = slice_get_read lent (length lent) second told refl inside c.index-names-second.is in
    assigned_again lent c.in-Some.field-0-0 second told c.copied.result c.new.result repeats at c.copied.ensures (c.new.ensures ∙ c.lexeme.ensures)
