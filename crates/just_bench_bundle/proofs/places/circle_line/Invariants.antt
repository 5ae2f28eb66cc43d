use Rattle.std.proofs.Common.{ℕ, [], take}
use Rattle.std.specs.List.{Contains}
use Rattle.just_bench_bundle.specs.Places.{StandsOn}
use Rattle.just_bench_syntax.specs.Answers.{answers}
use Rattle.just_loader.specs.Links.{To, link_by}
use Rattle.just_bench_bundle.proofs.places.circle_line.Given as goal

abbrev pub invariant-loop-item : goal.invariant-loop-item
invariant-loop-item l = (line : ℕ) → StandsOn (Contains (take l.item-index l.items)) (link_by l.sources l.config (answers []) l.folder) (To l.import) line → ⊥
