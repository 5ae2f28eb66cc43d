use Rattle.std.proofs.Common.{rules, slice_index, refl, arith}
use Rattle.std.proofs.lemmas.Grind.{common_steps}
use Rattle.std.proofs.lemmas.Result.{IfErr-weaker}
use Rattle.just_errors.specs.Causes.{Reports}
use Rattle.just_parts.specs.Layers.{given_by}
use Rattle.just_compiler.specs.loops.Steps.{BreaksOver, made_in, not_yet}
use Rattle.just_compiler.proofs.Ordered.{all_so_far, apart_so_far, breaks_so_far, inner_so_far, more_so_far, room_so_far, settled_so_far}
use Rattle.just_compiler.proofs.modules.compile_in_order.Goals as goal

pub loop-place-init : goal.loop-place-init
loop-place-init g c =
    not_yet refl (grind (arith, common_steps)) (search rules) (search rules)

pub compile_place-requires-clause-fits : goal.compile_place-requires-clause-fits
compile_place-requires-clause-fits g c =
    record {
      keys = c.requires.keys;
      files_room = c.requires.files_room;
      modules_room = c.requires.modules_room;
      room = room_so_far (given_by g.S.Syntax.answers g.E.ConstantEvaluation.answers c.args.given.now) c.args.files.now c.args.joined.now c.args.loaded.now c.args.order.now c.requires c.loop-place.place-index (omega arith) c.loop-place.slots.items (made_in c.loop-place.gathered) c.loop-place.invariant;
      ready = c.requires.each c.loop-place.place-index (omega arith);
      inner = inner_so_far (given_by g.S.Syntax.answers g.E.ConstantEvaluation.answers c.args.given.now) c.args.files.now c.args.joined.now c.args.loaded.now c.args.order.now c.requires c.loop-place.place-index (omega arith) c.loop-place.slots.items (made_in c.loop-place.gathered) c.loop-place.invariant;
    }

pub compile_place-requires-clause-apart : goal.compile_place-requires-clause-apart
compile_place-requires-clause-apart g c =
    apart_so_far (given_by g.S.Syntax.answers g.E.ConstantEvaluation.answers c.args.given.now) c.args.files.now c.args.joined.now c.args.loaded.now c.args.order.now c.requires c.loop-place.place-index (omega arith) c.loop-place.slots.items (made_in c.loop-place.gathered) c.loop-place.invariant

pub compile_place-requires-clause-settled : goal.compile_place-requires-clause-settled
compile_place-requires-clause-settled g c =
    settled_so_far (given_by g.S.Syntax.answers g.E.ConstantEvaluation.answers c.args.given.now) c.args.files.now c.args.joined.now c.args.loaded.now c.args.order.now c.requires c.loop-place.place-index (omega arith) c.loop-place.slots.items (made_in c.loop-place.gathered) c.loop-place.invariant

pub returns-in_err-gathered-clause-named : goal.returns-in_err-gathered-clause-named
returns-in_err-gathered-clause-named g c =
    IfErr-weaker c.from_residual-in_err-gathered.result (Reports (BreaksOver (given_by g.S.Syntax.answers g.E.ConstantEvaluation.answers c.args.given.now) c.args.files.now c.args.joined.now (slice_index c.args.order.now c.loop-place.place-index) c.loop-place.slots.items c.loop-place.gathered.recipes)) _
    (λ e h. breaks_so_far (given_by g.S.Syntax.answers g.E.ConstantEvaluation.answers c.args.given.now) c.args.files.now c.args.joined.now c.args.loaded.now c.args.order.now c.loop-place.place-index (omega arith) c.loop-place.slots.items (made_in c.loop-place.gathered) c.loop-place.invariant e h)
    (search rules)

pub loop-place-preserved : goal.loop-place-preserved
loop-place-preserved g c =
    more_so_far (given_by g.S.Syntax.answers g.E.ConstantEvaluation.answers c.args.given.now) c.args.files.now c.args.joined.now c.args.loaded.now c.args.order.now c.requires c.loop-place.place-index (omega arith) c.loop-place.slots.items (made_in c.loop-place.gathered) c.loop-place.invariant
    c.compile_place.new.slots.items (made_in c.in_ok-gathered.gathered) c.in_ok-gathered.ensures.compiled

pub returns-clause-compiled : goal.returns-clause-compiled
returns-clause-compiled g c =
    all_so_far (given_by g.S.Syntax.answers g.E.ConstantEvaluation.answers c.args.given.now) c.args.files.now c.args.joined.now c.args.loaded.now c.args.order.now c.loop-place.place-index c.loop-place.slots.items (made_in c.loop-place.gathered) c.requires.some (omega arith) c.loop-place.invariant
