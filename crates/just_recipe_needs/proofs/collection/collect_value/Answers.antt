use Rattle.std.proofs.Common.{◌≡◌, ◌∙◌, sym, subst}
use Rattle.std.specs.HashSet.{contains}
use Rattle.std.specs.Str.{bytes_eq}
use Rattle.just_name_resolution.specs.Called.{GainsCalled}
use Rattle.just_name_resolution.specs.Lent.{tables_in}
use Rattle.just_parts.specs.Known.{hides, none_hidden}
use Rattle.just_parts.specs.Needs.{has_number, same_number}
use Rattle.just_parts.specs.Reading.{Reads}
use Rattle.just_recipe_needs.proofs.Gathering.{collected, value_collected}
use Rattle.just_recipe_needs.specs.Collected.{Collects}
use Rattle.just_recipe_needs.proofs.collection.collect_value.Goals as goal

pub returns : goal.returns
returns c =
    let m = tables_in c.args.sources.now.tables in
    let overridden = has_number c.args.sources.now.overrides.now in
    let old = contains same_number c.args.references.now in
    let visited = contains bytes_eq c.args.visited.now in
    let new = contains same_number c.collect_references.new.references in
    let more = contains bytes_eq c.collect_references.new.visited in
    let a = c.args.assignment.now in
    let done = c.in_ok-collect_references.ensures in
    let none : hides c.as_slice.result.now ≡ none_hidden = (λ i name. hides ((c.as_slice.ensures.value ∙ c.new-parameters.ensures.items) i) name) in
    value_collected m overridden old new visited more a (sym c.contains_key.ensures ∙ c.if-contains_key.false)
    (subst (λ h. Collects m overridden (Reads m h a.value) old visited new more) none
    (collected m overridden old new visited more (Reads m (hides c.as_slice.result.now) a.value) done.gains done.all done.whole))
    (subst (λ h. GainsCalled m overridden old h a.value visited more) none done.visited)
