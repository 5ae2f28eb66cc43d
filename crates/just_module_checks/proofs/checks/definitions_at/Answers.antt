use Rattle.std.proofs.Common.{◌∙◌, refl}
use Rattle.just_module_contents.specs.Definitions.{contents_in}
use Rattle.just_module_headers.specs.Files.{asts_in}
use Rattle.just_module_assembly.proofs.Adding.{contents_more}
use Rattle.just_module_checks.proofs.checks.definitions_at.Goals as goal

pub loop-place-preserved : goal.loop-place-preserved
loop-place-preserved g c =
    let e = c.in_ok-add.ensures in
    c.in_ok-add_lists.ensures ∙ contents_more (g.S.Syntax.answers c.args.syntax.now).enabled (asts_in c.args.files.now) c.args.places.now c.loop-place.place-index _ c.ast_at-ast.result.now
    c.loop-place-test.true refl c.ast_at-ast.ensures (contents_in c.loop-place.definitions) (contents_in c.add.new.self) c.as_slice.result.now c.as_slice-in-loop-place.result.now
    c.loop-place.invariant c.as_slice.ensures c.as_slice-in-loop-place.ensures e.recipes e.functions e.variables e.aliases e.modules e.named e.docs e.unexports e.sets e.lists
