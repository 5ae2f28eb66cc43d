use Rattle.std.proofs.Common.{◌≡◌, ◌∙◌, sym}
use Rattle.std.specs.Str.{bytes_eq}
use Rattle.std.specs.HashMap.{get}
use Rattle.just_names.specs.Index.{name_at}
use Rattle.just_names.proofs.Indexing.{texts_apart, index_more, different_more, repeats, read_name}
use Rattle.just_names.proofs.index.index_names.Goals as goal

pub loop-place-preserved : goal.loop-place-preserved
loop-place-preserved c =
    let is : c.copied.result ≡ name_at c.args.names.now c.loop-place.place = c.copied.ensures ∙ read_name c.args.names.now c.loop-place.place c.index-names-place.result c.loop-place-test.true c.index-names-place.is in
    record {
      index = index_more c.args.names.now c.loop-place.place c.copied.result (get bytes_eq c.loop-place.index) (get bytes_eq c.insert.new.self) c.loop-place.invariant.index is
          c.in_ok-before.ensures.updates.1 (λ q ne. c.in_ok-before.ensures.updates.2 q (texts_apart c.copied.result q ne));
      different = different_more c.args.names.now c.loop-place.place c.copied.result (get bytes_eq c.loop-place.index c.copied.result) c.loop-place.invariant.different (c.loop-place.invariant.index c.copied.result)
          (sym c.in_ok-before.ensures.old ∙ c.in-None.is) is;
    }

pub returns-in-Some-clause-repeated : goal.returns-in-Some-clause-repeated
returns-in-Some-clause-repeated c =
    let is : c.copied.result ≡ name_at c.args.names.now c.loop-place.place = c.copied.ensures ∙ read_name c.args.names.now c.loop-place.place c.index-names-place.result c.loop-place-test.true c.index-names-place.is in
    repeats c.args.names.now c.loop-place.place c.in-Some.before c.copied.result (get bytes_eq c.loop-place.index c.copied.result) (c.loop-place.invariant.index c.copied.result)
    (sym c.in_ok-before.ensures.old ∙ c.in-Some.is) is c.loop-place-test.true
