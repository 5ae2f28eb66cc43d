use Rattle.std.proofs.Common.{◌≡◌, ◌<◌, ◌≤◌, [], Some, length, refl, subst, arith}
use Rattle.std.specs.Prelude.{IfNone}
use Rattle.std.specs.List.{slice_get}
use Rattle.std.proofs.lemmas.Grind.{common_steps}
use Rattle.std.proofs.lemmas.List.{length-map}
use Rattle.std.proofs.lemmas.Option.{slice_get_read}
use Rattle.just_bench_bundle.specs.loops.Places.{FindsIn}
use Rattle.just_bench_bundle.specs.loops.Walk.{LeavesNone, found_in}
use Rattle.just_bench_bundle.proofs.Walking.{none_home, started, told, visited}
use Rattle.just_bench_syntax.specs.Answers.{answers}
use Rattle.just_errors.specs.Causes.{NoHome}
use Rattle.just_loader.specs.Links.{AtFault}
use Rattle.just_loader.specs.Reached.{World, FileLeadsTo, world_of}
use Rattle.just_loader.proofs.Numberings.{map_get}
use Rattle.just_names.specs.Texts.{Text}
use Rattle.just_paths.specs.Clean.{IsClean}
use Rattle.just_bench_bundle.proofs.walk.home_of.Goals as goal

pub files-init : goal.files-init
files-init c =
    started (world_of c.args.sources.now c.args.config.now (answers []) c.args.root.now) c.in_ok-walk.walk c.find.new.self c.in_ok-walk.ensures.none c.in_ok-walk.ensures.all c.in_ok-find.ensures.walks c.in_ok-find.ensures.found

pub returns-in-Some : goal.returns-in-Some
returns-in-Some c =
    let w : World = world_of c.args.sources.now c.args.config.now (answers []) c.args.root.now in
    let path : Text = c.index-path.result.now.now in
    let items = c.files.walk.found.items in
    let inside : c.files.place < length items = grind (arith, common_steps) in
    let at : slice_get (found_in c.files.walk) c.files.place ≡ Some path = map_get (λ t. t.now) items c.files.place c.index-path.result.now (slice_get_read items (length items) c.files.place c.index-path.result.now refl inside c.index-path.ensures) in
    told w c.files.walk c.files.place c.files.invariant path (record { path = c.new-in-Some.result; line = c.in-Some.line }) at c.new-in-Some.ensures (subst (FindsIn w path (AtFault NoHome)) c.in-Some.is c.in_ok-line.ensures.line)

pub files-preserved : goal.files-preserved
files-preserved c =
    let w : World = world_of c.args.sources.now c.args.config.now (answers []) c.args.root.now in
    let path : Text = c.index-path.result.now.now in
    let items = c.files.walk.found.items in
    let inside : c.files.place < length items = grind (arith, common_steps) in
    let at : slice_get (found_in c.files.walk) c.files.place ≡ Some path = map_get (λ t. t.now) items c.files.place c.index-path.result.now (slice_get_read items (length items) c.files.place c.index-path.result.now refl inside c.index-path.ensures) in
    visited w c.files.walk c.files.place c.files.invariant path c.visit_file.new.walk at c.in_ok-line.ensures.walks (subst (FindsIn w path (AtFault NoHome)) c.in_default.is c.in_ok-line.ensures.line)
    (subst (λ line. IfNone line (IsClean path → LeavesNone (FileLeadsTo w path) c.visit_file.new.walk)) c.in_default.is c.in_ok-line.ensures.found)

pub returns : goal.returns
returns c =
    let items = c.files.walk.found.items in
    let past : length items ≤ c.files.place = grind (arith, common_steps) in
    none_home (world_of c.args.sources.now c.args.config.now (answers []) c.args.root.now) c.files.walk c.files.place c.files.invariant (omega (arith, past, length-map items (λ t. t.now)))
