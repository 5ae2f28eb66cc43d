use Rattle.std.proofs.Common.{◌≡◌, ◌≤◌, ◌+◌, [], ap, arith, drop, get_or, length, refl, subst, ◌∙◌, take}
use Rattle.std.proofs.lemmas.Option.{IfSome_then}
use Rattle.std.proofs.lemmas.Result.{IfErr-weaker, IfOk-weaker}
use Rattle.std.specs.Borrow.{Bor}
use Rattle.just_names.specs.Texts.{Text, texts}
use Rattle.just_invocations.specs.Cause.{cause_of}
use Rattle.just_invocations.specs.Meaning.{meaning}
use Rattle.just_invocations.specs.Head.{WordsLead, goes_on, absolute_path_of}
use Rattle.just_invocations.specs.loops.Head.{BadName, IsEnd, IsStep}
use Rattle.just_invocations.proofs.Advancing.{Stands, leads_end, misleads_end, misleads_here, stands_next}
use Rattle.just_invocations.proofs.walk.walk.Goals as goal

-- no word
abbrev nothing : Bor Text
nothing = record { ref_ptr = (0, 0); now = [] }

pub loop-at-preserved : goal.loop-at-preserved
loop-at-preserved c =
    let name = get_or c.args.names.now c.loop-at.at nothing in
    let reached = subst (Stands c.args.root.now c.args.recipes.now c.args.one c.args.names.now c.loop-at.at) c.in-On.is c.loop-at.invariant in
    let go : c.goes_on-go.result ≡ goes_on c.args.one (texts (drop (c.loop-at.at + 1) c.args.names.now)) = c.goes_on-go.ensures ∙ ap (λ ws. goes_on c.args.one (texts ws)) c.after.ensures in
    stands_next c.args.root.now c.args.recipes.now c.args.one c.args.names.now c.loop-at.at c.in-On.here.now (omega arith) reached name nothing refl c.in-Ok.step c.requires
    (subst (λ b. IsStep (meaning c.args.root.now c.args.recipes.now c.in-On.here.now name.now) b c.in-Ok.step) go c.in-Ok.ensures.ok)

pub returns-in-Err-clause-err : goal.returns-in-Err-clause-err
returns-in-Err-clause-err c =
    let name = get_or c.args.names.now c.loop-at.at nothing in
    let here = c.in-On.here.now in
    let reached = subst (Stands c.args.root.now c.args.recipes.now c.args.one c.args.names.now c.loop-at.at) c.in-On.is c.loop-at.invariant in
    let go : c.goes_on-go.result ≡ goes_on c.args.one (texts (drop (c.loop-at.at + 1) c.args.names.now)) = c.goes_on-go.ensures ∙ ap (λ ws. goes_on c.args.one (texts ws)) c.after.ensures in
    let path : texts c.before-path.result.now ≡ texts (take (c.loop-at.at + 1) c.args.names.now) = ap texts c.before-path.ensures in
    IfSome_then (cause_of c.in-Err.e) c.in-Err.ensures.err
    (λ cause p. misleads_here c.args.root.now c.args.recipes.now c.args.one c.args.names.now c.loop-at.at here (omega arith) reached name nothing refl cause
    (subst (λ b. BadName (meaning c.args.root.now c.args.recipes.now here name.now) c.args.one b (texts (take (c.loop-at.at + 1) c.args.names.now)) (absolute_path_of here name.now) cause) go
    (subst (λ ws. BadName (meaning c.args.root.now c.args.recipes.now here name.now) c.args.one c.goes_on-go.result ws (absolute_path_of here name.now) cause) path p)))

pub returns-clause-ok : goal.returns-clause-ok
returns-clause-ok c =
    let words = c.args.names.now in
    let ended : length words ≤ c.loop-at.at = omega arith in
    IfOk-weaker c.end.result (λ found. (found.1 ≡ length words) × IsEnd c.args.recipes.now c.loop-at.place found.0.now)
    (λ found. WordsLead c.args.root.now c.args.recipes.now c.args.root.now (texts (take found.1 words)) (texts (drop found.1 words)) found.0.now)
    (λ found p. leads_end c.args.root.now c.args.recipes.now c.args.one words c.loop-at.place found.1 found.0.now (omega (arith, p.0))
    (subst (λ n. Stands c.args.root.now c.args.recipes.now c.args.one words n c.loop-at.place) (omega (arith, p.0)) c.loop-at.invariant) p.1) c.end.ensures.ok

pub returns-clause-err : goal.returns-clause-err
returns-clause-err c =
    IfErr-weaker c.end.result _ _
    (λ e p. IfSome_then (cause_of e) p (λ cause q. misleads_end c.args.root.now c.args.recipes.now c.args.one c.args.names.now c.loop-at.place c.loop-at.at cause (omega arith) c.loop-at.invariant q)) c.end.ensures.err
