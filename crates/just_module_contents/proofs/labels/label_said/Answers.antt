use Rattle.std.proofs.Common.{◌≡◌, ◌∙◌, Some, ap, rules}
use Rattle.just_module_contents.specs.Labels.{doc_of}
use Rattle.just_module_contents.proofs.labels.label_said.Goals as goal
use Rattle.just_module_contents.proofs.labels.label_said.Goals.{in-Some+in_ok-clone-in-Some, in-None}

pub returns : goal.returns
returns c =
    let doc : c.match-doc_of.doc_expression ≡ doc_of c.args.attributes.now = elim c.match-doc_of.branch [
      | in-Some+in_ok-clone-in-Some w ↦ w.doc_expression-is ∙ ap Some w.in_ok-clone-in-Some.ensures.cases ∙ w.in-Some.ensures
      | in-None w ↦ w.doc_expression-is ∙ w.in-None.ensures
    ] in
    let copy : c.in_ok-doc.doc ≡ c.args.doc.now = search rules in
    λ i. record {
      name = Some (c.copied.ensures i);
      doc = copy i;
      doc_expression = doc i;
      groups = c.in_ok-groups.ensures i;
      private = c.is_private.ensures i;
    }
