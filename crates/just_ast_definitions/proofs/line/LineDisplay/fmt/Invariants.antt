use Rattle.std.proofs.Common.{take}
use Rattle.std.specs.List.{flat_map}
use Rattle.std.specs.Fmt.{HasWritten, IsPlainFormatter}
use Rattle.just_ast_definitions.specs.DefinitionTexts.{body_fragment_text}
use Rattle.just_ast_definitions.proofs.line.LineDisplay.fmt.Given as goal

abbrev pub invariant-loop-fragment : goal.invariant-loop-fragment
invariant-loop-fragment g l =
    IsPlainFormatter l.initial.f → HasWritten g.W.Write.write_str_gives l.initial.f (flat_map body_fragment_text (take l.fragment-index l.fragments)) l.f
