use Rattle.std.proofs.Common.{◌≡◌, ◌∙◌, ◌<◌, length, subst, sym, arith}
use Rattle.std.specs.Str.{bytes_eq}
use Rattle.std.specs.HashMap.{get}
use Rattle.std.proofs.lemmas.Grind.{common_steps}
use Rattle.std.proofs.lemmas.List.{length-map}
use Rattle.just_names.specs.Name.{text_of_name}
use Rattle.just_ast_definitions.specs.declared.setting.Set.{Set}
use Rattle.just_module_contents.specs.Definitions.{sets_in}
use Rattle.just_names.specs.Index.{IsLast, name_at}
use Rattle.just_module_contents.specs.Settings.{setting_names}
use Rattle.just_module_headers.proofs.Excluded.{name_there, set_twice_told}
use Rattle.just_names.proofs.Indexing.{different_more, index_more, repeats, texts_apart}
use Rattle.just_module_contents.proofs.RecipePlaces.{length-lent}
use Rattle.just_module_headers.proofs.settings.index_sets.Goals as goal

pub loop-place-preserved : goal.loop-place-preserved
loop-place-preserved c =
    let sets = sets_in c.args.definitions.now in
    let is : c.in_ok-text.text ≡ name_at (setting_names sets) c.loop-place.place = c.in_ok-text.ensures ∙ c.lexeme.ensures ∙ name_there sets c.loop-place.place c.set_at.result.now c.set_at.ensures in
    record {
      index = index_more (setting_names sets) c.loop-place.place c.in_ok-text.text (get bytes_eq c.loop-place.index) (get bytes_eq c.insert.new.self) c.loop-place.invariant.index is
          c.in_ok-insert.ensures.updates.1 (λ q ne. c.in_ok-insert.ensures.updates.2 q (texts_apart c.in_ok-text.text q ne));
      different = different_more (setting_names sets) c.loop-place.place c.in_ok-text.text (get bytes_eq c.loop-place.index c.in_ok-text.text) c.loop-place.invariant.different (c.loop-place.invariant.index c.in_ok-text.text)
          (sym c.in_ok-insert.ensures.old ∙ c.in-None.is) is;
    }

pub returns-in-Some-clause-named : goal.returns-in-Some-clause-named
returns-in-Some-clause-named c =
    let sets = sets_in c.args.definitions.now in
    let is : c.in_ok-text.text ≡ name_at (setting_names sets) c.loop-place.place = c.in_ok-text.ensures ∙ c.lexeme.ensures ∙ name_there sets c.loop-place.place c.set_at.result.now c.set_at.ensures in
    let long : length sets ≡ length c.args.definitions.now.sets.items = length-lent c.args.definitions.now.sets.items in
    let inside : c.loop-place.place < length (setting_names sets) = omega (arith, long, length-map sets (λ (s : Set). text_of_name s.name)) in
    let twice = repeats (setting_names sets) c.loop-place.place c.in-Some.before c.in_ok-text.text (get bytes_eq c.loop-place.index c.in_ok-text.text) (c.loop-place.invariant.index c.in_ok-text.text)
    (sym c.in_ok-insert.ensures.old ∙ c.in-Some.is) is inside in
    set_twice_told sets c.in-Some.before c.loop-place.place c.set_at-in-Some.result.now c.set_at.result.now c.copied.result c.new.result c.line.result twice
    c.set_at-in-Some.ensures c.set_at.ensures c.copied.ensures (c.new.ensures ∙ c.lexeme-in-Some.ensures) c.line.ensures

pub returns-clause-index : goal.returns-clause-index
returns-clause-index c =
    let sets = sets_in c.args.definitions.now in
    let long : length sets ≡ length c.args.definitions.now.sets.items = length-lent c.args.definitions.now.sets.items in
    let many = length-map sets (λ (s : Set). text_of_name s.name) in
    let count : c.len-place-end.result ≡ length c.args.definitions.now.sets.items = grind (arith, common_steps) in
    let end : c.loop-place.place ≡ length (setting_names sets) = omega (arith, long, many, count) in
    λ name. subst (λ n. IsLast (setting_names sets) n name (get bytes_eq c.loop-place.index name)) end (c.loop-place.invariant.index name)
