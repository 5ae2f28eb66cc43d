use Rattle.std.proofs.Common.{◌≡◌, ◌<◌, ◌∙◌, Some, ap, arith, length, map, refl, subst, sym}
use Rattle.std.specs.List.{slice_get}
use Rattle.std.proofs.lemmas.List.{length-map}
use Rattle.std.proofs.lemmas.Option.{slice_get_read}
use Rattle.just_graph.proofs.Index.{map_get}
use Rattle.just_names.specs.Name.{text_of_name}
use Rattle.just_names.specs.Index.{Repeats}
use Rattle.just_module_contents.specs.Contents.{Defined, defined, defined_naming, texts_of_named}
use Rattle.just_module_contents.proofs.Defining.{named_again}
use Rattle.just_module_headers.proofs.headers.check_named.Goals as goal

pub returns-clause-named : goal.returns-clause-named
returns-clause-named c =
    let ns = c.args.namings.now in
    let i = c.in-Err.first in
    let j = c.in-Err.second in
    let one : Defined = defined c.defined-first.result.0 c.defined-first.result.1.now in
    let other : Defined = defined c.defined-second.result.0 c.defined-second.result.1.now in
    let repeated : Repeats c.as_slice.result.now i j = rw c.in-Err.is at c.in_ok-index_names.ensures.repeated in
    let repeats : Repeats (texts_of_named ns) i j = subst (λ ts. Repeats ts i j) (c.as_slice.ensures.value ∙ c.in_ok-texts.ensures) repeated in
    let many : length (texts_of_named ns) ≡ length ns = length-map (map defined_naming ns) (λ (d : Defined). text_of_name d.name) ∙ length-map ns defined_naming in
    let inside : j < length ns = omega (arith, repeats.within, many) in
    let first : slice_get (map defined_naming ns) i ≡ Some one =
    map_get defined_naming ns i c.index-namings-first.result (slice_get_read ns (length ns) i c.index-namings-first.result refl (omega (arith, repeats.apart, inside)) c.index-namings-first.is)
    ∙ ap Some (sym c.defined-first.ensures) in
    let second : slice_get (map defined_naming ns) j ≡ Some other =
    map_get defined_naming ns j c.index-namings-second.result (slice_get_read ns (length ns) j c.index-namings-second.result refl inside c.index-namings-second.is)
    ∙ ap Some (sym c.defined-second.ensures) in
    named_again ns i j one other c.redefinition.result.token c.redefinition.result.kind repeats first second c.redefinition.ensures
