use Rattle.std.proofs.Common.{◌≡◌, ◌∙◌, ap, sym, arith, length, true, false, None, Some, is_some}
use Rattle.std.specs.HashMap.{get}
use Rattle.std.specs.Str.{bytes_eq}
use Rattle.std.proofs.lemmas.Grind.{common_steps}
use Rattle.just_names.specs.Index.{name_at}
use Rattle.just_names.proofs.Indexing.{different_more, index_more, texts_apart}
use Rattle.just_bench_syntax.specs.loops.Recipe.{spoken_of}
use Rattle.just_bench_syntax.proofs.Spoken.{again_told, all_found, fits_on, name_spoken, named_index, unknown_told}
use Rattle.just_bench_syntax.proofs.recipe.places_of.Goals as goal

pub returns-then-not-contains_key-clause-misfit : goal.returns-then-not-contains_key-clause-misfit
returns-then-not-contains_key-clause-misfit c =
    let ps = c.args.parameters.now in
    let s = c.index-spoken-place.result in
    let no : c.contains_key.result ≡ false = grind (arith, common_steps) in
    let unknown = named_index ps c.as_slice.result.now (get bytes_eq c.in_ok-known.known) c.new-name.result s.options.parameter c.contains_key.result false
    (c.as_slice.ensures.value ∙ c.in_ok-names.ensures) c.in_ok-known.ensures (c.new-name.ensures ∙ c.as_str.ensures) c.contains_key.ensures no in
    unknown_told ps c.args.spoken.now c.loop-place.place s c.loop-place.invariant.so_far c.loop-place-test.true c.index-spoken-place.is unknown ∙ ap Some (sym c.copied.ensures)

pub loop-place-preserved : goal.loop-place-preserved
loop-place-preserved c =
    let ps = c.args.parameters.now in
    let ss = c.args.spoken.now in
    let n = c.loop-place.place in
    let s = c.index-spoken-place.result in
    let found = get bytes_eq c.loop-place.places in
    let yes : c.contains_key.result ≡ true = grind (arith, common_steps) in
    let key : c.new-name.result ≡ s.options.parameter = c.new-name.ensures ∙ c.as_str.ensures in
    let known = named_index ps c.as_slice.result.now (get bytes_eq c.in_ok-known.known) c.new-name.result s.options.parameter c.contains_key.result true
    (c.as_slice.ensures.value ∙ c.in_ok-names.ensures) c.in_ok-known.ensures key c.contains_key.ensures yes in
    let is : c.new-name.result ≡ name_at (spoken_of ss) n = key ∙ name_spoken ss n s c.loop-place-test.true c.index-spoken-place.is in
    let none : found c.new-name.result ≡ None = sym c.in_ok-insert.ensures.old ∙ c.in-None.is in
    let new : is_some (found s.options.parameter) ≡ false = ap (λ k. is_some (found k)) (sym key) ∙ ap is_some none in
    record {
      so_far = fits_on ps ss found n s c.loop-place.invariant c.loop-place-test.true c.index-spoken-place.is known new;
      index = index_more (spoken_of ss) n c.new-name.result found (get bytes_eq c.insert.new.self) c.loop-place.invariant.index is c.in_ok-insert.ensures.updates.1
          (λ q ne. c.in_ok-insert.ensures.updates.2 q (texts_apart c.new-name.result q ne));
      different = different_more (spoken_of ss) n c.new-name.result (found c.new-name.result) c.loop-place.invariant.different (c.loop-place.invariant.index c.new-name.result) none is;
    }

pub returns-in-Some-clause-misfit : goal.returns-in-Some-clause-misfit
returns-in-Some-clause-misfit c =
    let ps = c.args.parameters.now in
    let s = c.index-spoken-place.result in
    let found = get bytes_eq c.loop-place.places in
    let yes : c.contains_key.result ≡ true = grind (arith, common_steps) in
    let key : c.new-name.result ≡ s.options.parameter = c.new-name.ensures ∙ c.as_str.ensures in
    let known = named_index ps c.as_slice.result.now (get bytes_eq c.in_ok-known.known) c.new-name.result s.options.parameter c.contains_key.result true
    (c.as_slice.ensures.value ∙ c.in_ok-names.ensures) c.in_ok-known.ensures key c.contains_key.ensures yes in
    let again : is_some (found s.options.parameter) ≡ true = ap (λ k. is_some (found k)) (sym key) ∙ ap is_some (sym c.in_ok-insert.ensures.old ∙ c.in-Some.is) in
    again_told ps c.args.spoken.now found c.loop-place.place s c.loop-place.invariant c.loop-place-test.true c.index-spoken-place.is known again ∙ ap Some (sym c.copied-in-Some.ensures)

pub returns-clause-places : goal.returns-clause-places
returns-clause-places c =
    let count : length c.args.spoken.now ≡ c.loop-place.place = grind (arith, common_steps) in
    all_found c.args.parameters.now c.args.spoken.now (get bytes_eq c.loop-place.places) c.loop-place.place c.loop-place.invariant count
