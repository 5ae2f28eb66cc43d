use Rattle.std.proofs.Common.{◌∙◌, sym, ap, map, get_or, slice_index}
use Rattle.std.specs.Option.{option_copied}
use Rattle.just_names.specs.Index.{name_at}
use Rattle.just_table.specs.Entries.{find}
use Rattle.just_name_resolution.specs.Lent.{known_in}
use Rattle.just_module_variables.proofs.Circles.{circle_told}
use Rattle.just_module_variables.proofs.evaluation_order.circle_error.Goals as goal

pub returns : goal.returns
returns g c =
    let m = known_in (g.S.Syntax.answers c.args.known.now.syntax.now) c.args.known.now in
    let first = c.copied-variable.ensures ∙ (c.index.ensures ∙ ap (get_or c.in_ok-keys.keys.items (slice_index c.args.circle.now 0)) (sym c.copied-variable.ensures)) in
    let names = c.in_ok-names.ensures ∙ ap (λ ks. map (name_at ks) c.args.circle.now) c.as_slice.ensures.value in
    let found = ap (λ name. find name m.assignments) (sym c.as_str.ensures) ∙ (sym c.get.ensures ∙ ap option_copied c.in-Some.is) in
    circle_told m c.in_ok-keys.keys.items c.args.circle.now c.copied-variable.result c.in_ok-names.names c.in-Some.assignment.now c.copied.result
    c.in_ok-keys.ensures.keys first names c.requires found c.copied.ensures
