use Rattle.std.proofs.Common.{◌∙◌, ap}
use Rattle.std.specs.List.{flat_map}
use Rattle.std.proofs.lemmas.List.Elements.{All-same}
use Rattle.just_ast_references.specs.Parts.{borrowed, waiting}
use Rattle.just_ast_references.specs.References.{IsReference, mention}
use Rattle.just_ast_references.proofs.Stack.{waiting_reverse}
use Rattle.just_ast_references.proofs.references.References.new.Goals as goal

pub invariant_of-result : goal.invariant_of-result
invariant_of-result c =
    All-same IsReference (waiting c.reverse.new.self.items) (borrowed c.in_ok-left.left.items)
    (ap waiting c.reverse.ensures.items ∙ waiting_reverse c.in_ok-left.left.items) c.in_ok-left.ensures.each

pub returns : goal.returns
returns c =
    ap (λ left. flat_map mention (waiting left)) c.reverse.ensures.items
    ∙ ap (flat_map mention) (waiting_reverse c.in_ok-left.left.items) ∙ c.in_ok-left.ensures.found
