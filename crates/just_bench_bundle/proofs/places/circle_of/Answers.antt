use Rattle.std.proofs.Common.{◌≡◌, [], subst, sym}
use Rattle.std.specs.Prelude.{IfNone}
use Rattle.std.specs.List.{Contains}
use Rattle.std.specs.Map.{keys_of}
use Rattle.std.proofs.lemmas.List.Elements.{All-contains}
use Rattle.just_bench_bundle.specs.Places.{LinkStandsIn}
use Rattle.just_bench_bundle.specs.loops.Places.{FindsIn}
use Rattle.just_bench_bundle.proofs.Walking.{is_key}
use Rattle.just_bench_syntax.specs.Answers.{answers}
use Rattle.just_loader.specs.Links.{To}
use Rattle.just_loader.specs.Reached.{World, world_of}
use Rattle.just_paths.specs.Clean.{IsClean}
use Rattle.just_bench_bundle.proofs.places.circle_of.Goals as goal

pub returns-in_default : goal.returns-in_default
returns-in_default c = λ clean it is.
    let w : World = world_of c.args.sources.now c.args.config.now (answers []) c.args.root.now in
    let none = subst (λ found. IfNone found (Contains (keys_of c.args.sources.now) c.args.current.now → ⊥)) c.in_default.is c.path_in.ensures.none in
    none (is_key w c.args.current.now is.1.one.0 is.1.one.1)

pub returns-in-None : goal.returns-in-None
returns-in-None c = λ clean it is.
    let w : World = world_of c.args.sources.now c.args.config.now (answers []) c.args.root.now in
    let none = subst (FindsIn w c.in-Some.path.now (To c.args.import.now)) c.in-None.is c.in_ok-line.ensures in
    let same : c.in-Some.path.now ≡ c.args.current.now = c.in-Some.ensures.same in
    let key = is_key w c.args.current.now is.1.one.0 is.1.one.1 in
    none (subst IsClean (sym same) (All-contains IsClean (keys_of c.args.sources.now) c.args.current.now clean key)) it.line (subst (λ x. LinkStandsIn w x (To c.args.import.now) it.line) (sym same) is.1)
