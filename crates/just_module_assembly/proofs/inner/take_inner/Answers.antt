use Rattle.std.proofs.Common.{◌≡◌, ◌∙◌, [], length, take, slice_index, refl, sym, ap, subst, arith}
use Rattle.std.specs.List.{Contains}
use Rattle.std.proofs.lemmas.List.{take_all}
use Rattle.std.proofs.lemmas.Option.{slice_get_read}
use Rattle.just_table.specs.Entries.{put}
use Rattle.just_justfile.specs.Module.{module_name}
use Rattle.just_graph.proofs.Index.{some_same}
use Rattle.just_compiled.specs.Labelled.{held_by_name, labelled_as, with_labels}
use Rattle.just_compiled.proofs.Taking.{held_at, held_more, labels_more, not_in_more, not_taken}
use Rattle.just_module_assembly.proofs.inner.take_inner.Goals as goal

pub take_at-justfile-requires-clause-there : goal.take_at-justfile-requires-clause-there
take_at-justfile-requires-clause-there c =
    let row = c.args.row.now in
    let h = held_at c.requires.there.0 c.args.slots.now.items row c.loop-at.at c.requires.there.1 (omega arith) in
    (h.0, c.loop-at.invariant.others (slice_index row c.loop-at.at) (not_taken row c.loop-at.at c.requires.once (omega arith)) ∙ h.2)

pub loop-at-preserved : goal.loop-at-preserved
loop-at-preserved c =
    let row = c.args.row.now in
    let at = c.loop-at.at in
    record {
      table = λ js e.
          let h = held_at js c.args.slots.now.items row at e (omega arith) in
          let same : c.take_at-justfile.result ≡ h.0 = some_same (sym c.take_at-justfile.ensures.taken ∙ (c.loop-at.invariant.others (slice_index row at) (not_taken row at c.requires.once (omega arith)) ∙ h.2)) in
          let label = slice_get_read c.args.labels.now (length c.args.labels.now) at c.index-labels-at.result refl (omega (arith, c.requires.labels)) c.index-labels-at.is in
          let next : labelled_as c.in_ok-label.label c.take_at-justfile.result ≡ labelled_as c.index-labels-at.result h.0 = λ i. labelled_as (c.in_ok-label.ensures i) (same i) in
          c.in_ok-insert.ensures.new ∙ (λ i. put (module_name (c.labelled.ensures i)) (c.labelled.ensures i) (c.loop-at.invariant.table js e i)) ∙ ap (λ j. put (module_name j) j (held_by_name [] (with_labels (take at js) (take at c.args.labels.now)))) next
          ∙ sym (ap (held_by_name []) (labels_more js c.args.labels.now at h.0 c.index-labels-at.result h.1 label) ∙ held_more [] (with_labels (take at js) (take at c.args.labels.now)) (labelled_as c.index-labels-at.result h.0));
      room = c.take_at-justfile.ensures.room ∙ c.loop-at.invariant.room;
      others = λ q none. let both = not_in_more row at q (omega arith) none in c.take_at-justfile.ensures.others q both.1 ∙ c.loop-at.invariant.others q both.0;
    }

pub returns-clause-others : goal.returns-clause-others
returns-clause-others c = λ q none. c.loop-at.invariant.others q (λ x. none (subst (λ xs. Contains xs q) (take_all c.loop-at.at c.args.row.now (omega arith)) x))
