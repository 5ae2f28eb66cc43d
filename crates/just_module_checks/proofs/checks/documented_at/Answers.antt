use Rattle.std.proofs.Common.{◌∙◌, ap, sym}
use Rattle.just_module_variables.specs.Documented.{doc_expressions}
use Rattle.just_module_contents.specs.Definitions.{contents_in}
use Rattle.just_module_headers.specs.Files.{asts_in}
use Rattle.just_module_contents.specs.Contents.{Contents}
use Rattle.just_module_checks.proofs.Docs.{docs_covered, docs_said}
use Rattle.just_module_checks.proofs.checks.documented_at.Goals as goal
use Rattle.just_parts.specs.Evaluator.{scope_values}

pub document-requires-clause-docs : goal.document-requires-clause-docs
document-requires-clause-docs g c =
    ap (λ (m : Contents). m.docs) c.requires.said ∙ docs_said (g.S.Syntax.answers c.args.given.now.syntax.now).enabled (asts_in c.args.files.now) c.args.places.now
    ∙ ap doc_expressions (sym (c.as_slice.ensures.value ∙ c.in_ok-labels.ensures))

pub document-requires-clause-covered : goal.document-requires-clause-covered
document-requires-clause-covered g c = docs_covered c.args.variables.now (scope_values c.args.constants.now.scope) (contents_in c.args.definitions.now) c.requires.covered
