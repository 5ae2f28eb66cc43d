use Rattle.std.proofs.Common.{ℕ, [], take}
use Rattle.std.specs.List.{Contains}
use Rattle.just_bench_bundle.specs.Places.{StandsOn}
use Rattle.just_bench_bundle.specs.loops.Walk.{LeadAmong, LeavesNone, Walks}
use Rattle.just_bench_syntax.specs.Answers.{answers}
use Rattle.just_errors.specs.Causes.{NoHome}
use Rattle.just_loader.specs.Links.{AtFault, link_by}
use Rattle.just_bench_bundle.proofs.walk.visit_items.Given as goal

abbrev pub invariant-loop-item : goal.invariant-loop-item
invariant-loop-item l = record {
  none : (line : ℕ) → StandsOn (Contains (take l.item-index l.items)) (link_by l.sources l.config (answers []) l.folder) (AtFault NoHome) line → ⊥;
  walks : Walks (LeadAmong l.items (link_by l.sources l.config (answers []) l.folder)) l.initial.walk l.walk;
  found : LeavesNone (LeadAmong (take l.item-index l.items) (link_by l.sources l.config (answers []) l.folder)) l.walk;
}
