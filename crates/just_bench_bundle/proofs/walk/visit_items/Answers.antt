use Rattle.std.proofs.Common.{◌≡◌, ◌∙◌, [], ap, inl, inr}
use Rattle.just_bench_bundle.specs.loops.Walk.{LeadAmong}
use Rattle.just_bench_bundle.proofs.Standing.{among_all, among_more, is_among, none_all, none_more}
use Rattle.just_bench_bundle.proofs.Walking.{walks_on}
use Rattle.just_bench_syntax.specs.Answers.{answers}
use Rattle.just_errors.specs.Causes.{NoHome}
use Rattle.just_loader.specs.Links.{AtFault, To, link_by}
use Rattle.just_bench_bundle.proofs.walk.visit_items.Goals as goal

pub returns-in-Some-clause-walks : goal.returns-in-Some-clause-walks
returns-in-Some-clause-walks c =
    let leads = link_by c.args.sources.now c.args.config.now (answers []) c.args.folder.now in
    walks_on (λ path. leads c.item-item.result ≡ To path) (LeadAmong c.args.items.now leads) c.args.walk.now c.loop-item.walk c.visit.new.walk c.loop-item.invariant.walks c.in_ok-line.ensures.walks
    (λ path led. (c.item-item.result, is_among c.args.items.now c.loop-item.item-index c.item-item.result c.loop-item-test.true c.item-item.is, led))

pub loop-item-preserved : goal.loop-item-preserved
loop-item-preserved c =
    let leads = link_by c.args.sources.now c.args.config.now (answers []) c.args.folder.now in
    record {
      none = none_more c.args.items.now leads (AtFault NoHome) c.loop-item.item-index c.item-item.result c.in_ok-line.field-0 c.loop-item-test.true c.item-item.is c.in_default.is c.loop-item.invariant.none c.in_ok-line.ensures.line;
      walks =
          walks_on (λ path. leads c.item-item.result ≡ To path) (LeadAmong c.args.items.now leads) c.args.walk.now c.loop-item.walk c.visit.new.walk c.loop-item.invariant.walks c.in_ok-line.ensures.walks
          (λ path led. (c.item-item.result, is_among c.args.items.now c.loop-item.item-index c.item-item.result c.loop-item-test.true c.item-item.is, led));
      found = λ path l left. elim (among_more c.args.items.now c.loop-item.item-index c.item-item.result l.0 c.loop-item-test.true c.item-item.is l.1) [
        | inl before ↦ c.loop-item.invariant.found path (l.0, before, l.2) (c.in_ok-line.ensures.walks.fewer path left)
        | inr same ↦ c.in_ok-line.ensures.found path (ap leads same ∙ l.2) left
      ];
    }

pub returns-clause-line : goal.returns-clause-line
returns-clause-line c =
    none_all c.args.items.now (link_by c.args.sources.now c.args.config.now (answers []) c.args.folder.now) (AtFault NoHome) c.loop-item.item-index c.loop-item-test.false c.loop-item.invariant.none

pub returns-clause-found : goal.returns-clause-found
returns-clause-found c = λ path l left.
    c.loop-item.invariant.found path (l.0, among_all c.args.items.now c.loop-item.item-index l.0 c.loop-item-test.false l.1, l.2) left
