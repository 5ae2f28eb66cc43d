use Rattle.std.proofs.Common.{◌≡◌, drop, map, take}
use Rattle.std.specs.HashSet.{contains}
use Rattle.just_parts.specs.Needs.{same_number}
use Rattle.just_run_layers.specs.Host.{KeepsPromises, executed}
use Rattle.just_run_layers.specs.Interactions.{both, log_of}
use Rattle.just_scopes.specs.Opening.{handed_of, opened_of}
use Rattle.just_scopes.specs.loops.Preorder.{placed}
use Rattle.just_scopes.proofs.Turning.{IsOpening}
use Rattle.just_scopes.proofs.open_module.open_all.Given as goal

abbrev pub invariant-loop-place : goal.invariant-loop-place
invariant-loop-place g l =
    let first = log_of (g.H.Host.entries l.initial.host) (g.E.Evaluation.requests l.initial.evaluation) in
    let now = log_of (g.H.Host.entries l.host) (g.E.Evaluation.requests l.evaluation) in
    let p = both (g.E.Evaluation.promised l.initial.evaluation) (g.H.Host.promised l.initial.host) in
    let q = both (g.E.Evaluation.promised l.evaluation) (g.H.Host.promised l.host) in
    KeepsPromises (g.E.Evaluation.promised l.initial.evaluation) (g.E.Evaluation.promised l.evaluation)
    × KeepsPromises (g.H.Host.promised l.initial.host) (g.H.Host.promised l.host)
    × (executed (g.H.Host.entries l.host) ≡ executed (g.H.Host.entries l.initial.host))
    × IsOpening (contains same_number l.used) (handed_of l.config l.overrides) p q (map placed l.modules) (map placed (take l.place l.modules)) (map placed (drop l.place l.modules)) first now (map opened_of l.opened.items)
