use Rattle.std.proofs.Common.{Some, sym, subst}
use Rattle.just_bench.proofs.Scripted.{steady-all}
use Rattle.just_bench.specs.declared.script.Script.{Script}
use Rattle.just_bench.specs.Promises.{EachIsPromised}
use Rattle.just_bench.specs.Recorder.{script_promises}
use Rattle.just_bench_evaluation.specs.Answered.{plain_answer}
use Rattle.just_bench.proofs.laws.each_answer_is_promised.Goals as goal

pub returns : goal.returns
returns c = λ over. subst (λ (script : Script). EachIsPromised (λ inquiry. Some (plain_answer inquiry)) (script_promises script)) (sym over) steady-all
