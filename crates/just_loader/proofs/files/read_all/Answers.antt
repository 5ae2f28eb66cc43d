use Rattle.std.proofs.Common.{◌≡◌, ◌∙◌, ◌<◌, ◌++◌, List, Some, length, get_or, map, take, IfErr, ap, sym, subst, arith, rules, refl}
use Rattle.std.specs.List.{slice_get}
use Rattle.std.proofs.lemmas.List.{append-nil, length_push, take_all}
use Rattle.std.proofs.lemmas.Option.{get_or_from_slice_get, slice_get_within}
use Rattle.just_graph.specs.declared.unfolding.Unfolded.{Unfolded}
use Rattle.just_parts.specs.Items.{Ast}
use Rattle.just_errors.specs.declared.error.Error.{Error}
use Rattle.just_loader.specs.Keys.{spends_at}
use Rattle.just_loader.specs.loops.Placed.{scanned_path}
use Rattle.just_loader.specs.loops.Loading.{IsScanBy, KeepsLaws, Stops, StopsAt, spent_by}
use Rattle.just_loader.specs.Reached.{World}
use Rattle.just_loader.specs.loops.Reading.{AreApartBelow}
use Rattle.just_loader.proofs.FileKeys.{node_inside}
use Rattle.just_loader.proofs.ParsedFiles.{spent_at}
use Rattle.just_loader.proofs.Parsings.{all_more, ast_at, err_by, parsed_more, parsed_none, read, spent_more, stops_at_last}
use Rattle.just_loader.proofs.ReadTexts.{apart_behind, apart_next, each_next, less_next, spent_next}
use Rattle.just_loader.proofs.WholeScans.{all_at}
use Rattle.just_loader.proofs.Numberings.{none_some}
use Rattle.just_loader.proofs.files.read_all.Goals as goal

pub loop-place-init : goal.loop-place-init
loop-place-init g c =
    let none : c.args.texts.asts.items ++ map Some c.new-asts.result.items ≡ c.args.texts.asts.items = ap (λ (xs : List Ast). c.args.texts.asts.items ++ map Some xs) c.new-asts.ensures.items ∙ append-nil c.args.texts.asts.items in
    record {
      count = ap length c.new-asts.ensures.items;
      parsed = λ w ns by nodes. parsed_none w c.args.scan.now ns c.new-asts.result.items c.new-asts.ensures.items;
      each = c.requires.read.each;
      numbers = subst (λ xs. AreApartBelow xs c.args.texts.numerator) (sym none) c.requires.read.apart;
      spent = λ w by. omega (arith, c.requires.read.spent);
      less = omega (arith, c.requires.read.spent);
      laws = all_at (KeepsLaws (g.S.Syntax.answers c.args.syntax.now)) c.new-asts.result.items (λ k x e. absurd (none_some (ap (λ xs. slice_get xs k) (sym c.new-asts.ensures.items) ∙ e)));
      few = c.requires.read.few;
    }

pub read_file-requires-clause-place : goal.read_file-requires-clause-place
read_file-requires-clause-place g c =
    let at = read c.args.nodes.now c.loop-place.place c.index-nodes-place.result c.loop-place-test.true c.index-nodes-place.is in
    let inside = node_inside c.requires.scan.0 c.args.scan.now c.requires.scan.1.is_scan c.args.nodes.now c.requires.nodes c.loop-place.place c.index-nodes-place.result at in
    subst (λ (u : Unfolded). u.node < length c.args.scan.now.files.items) c.index-nodes-place.is inside

pub returns-in_err-read_file-clause-stopped : goal.returns-in_err-read_file-clause-stopped
returns-in_err-read_file-clause-stopped g c =
    let same : IfErr c.from_residual.result (λ (e : Error). e ≡ c.in_err-read_file.field-0.0) = search rules in
    err_by (λ (e : Error). e ≡ c.in_err-read_file.field-0.0) (λ (e : Error). (w : World) → IsScanBy w c.args.scan.now (g.S.Syntax.answers c.args.syntax.now) → Stops w c.args.scan.now c.args.nodes.now c.args.texts.numerator e)
    c.from_residual.result same (λ e is w by.
    let stopped = subst (StopsAt c.loop-place.texts.numerator (spends_at w (scanned_path c.args.scan.now (get_or c.args.nodes.now c.loop-place.place c.index-nodes-place.result).node))) (sym is) (c.in_err-read_file.ensures.stopped w by) in
    stops_at_last w c.args.scan.now c.args.nodes.now c.loop-place.place c.index-nodes-place.result c.args.texts.numerator c.loop-place.texts.numerator e c.loop-place-test.true (omega (arith, c.loop-place.invariant.spent w by, c.loop-place.invariant.less)) stopped)

pub loop-place-preserved : goal.loop-place-preserved
loop-place-preserved g c =
    let answers = g.S.Syntax.answers c.args.syntax.now in
    let files = c.args.scan.now.files.items in
    let node = (get_or c.args.nodes.now c.loop-place.place c.index-nodes-place.result).node in
    let ast = c.in_ok-read_file.field-0 in
    let file = c.in_ok-read_file.ensures.takes.0 in
    let here = c.in_ok-read_file.ensures.takes.1 in
    let taken = c.in_ok-read_file.ensures.takes.2 in
    let inside = slice_get_within files node file here in
    let less = less_next answers files c.loop-place.texts c.read_file.new.texts node file here _ taken in
    record {
      count = omega (arith, c.loop-place.invariant.count, ap length c.in_ok-push.ensures.items, length_push c.loop-place.asts.items ast);
      parsed = λ w ns by nodes. parsed_more w c.args.scan.now ns c.loop-place.asts.items c.push.new.self.items ast (c.loop-place.invariant.parsed w ns by nodes)
          (λ n at. ast_at w c.args.scan.now by.is_scan c.args.nodes.now ns c.args.sources.now nodes (c.requires.sources ns nodes) c.loop-place.place c.index-nodes-place.result c.index-sources-place.result n ast
          c.loop-place-test.true c.index-nodes-place.is c.index-sources-place.is (ap (slice_get ns) (sym c.loop-place.invariant.count) ∙ at) (c.in_ok-read_file.ensures.said w by))
          c.in_ok-push.ensures.items;
      each = each_next answers files c.loop-place.texts c.read_file.new.texts node file here _ taken c.loop-place.invariant.each;
      numbers = apart_next answers files c.loop-place.texts c.read_file.new.texts node file here c.loop-place.asts.items c.push.new.self.items ast c.in_ok-push.ensures.items taken c.loop-place.invariant.numbers;
      spent = λ w by.
          let next = spent_next answers files c.loop-place.texts c.read_file.new.texts node file here _ (spent_by w c.args.scan.now (take c.loop-place.place c.args.nodes.now)) taken (c.loop-place.invariant.spent w by) in
          let here_spent = spent_at w c.args.scan.now answers by node file inside (sym (get_or_from_slice_get files node file file here)) file.relative file.text refl refl in
          omega (arith, next, here_spent, spent_more w c.args.scan.now c.args.nodes.now c.loop-place.place c.index-nodes-place.result c.loop-place-test.true);
      less = omega (arith, less, c.loop-place.invariant.less);
      laws = all_more (KeepsLaws answers) c.loop-place.asts.items c.push.new.self.items ast c.loop-place.invariant.laws c.in_ok-read_file.ensures.laws c.in_ok-push.ensures.items;
      few = c.in_ok-read_file.ensures.fits;
    }

pub returns-clause-parsed : goal.returns-clause-parsed
returns-clause-parsed g c =
    λ w ns by nodes. record {
      count = omega (arith, nodes.1.count, c.loop-place.invariant.count, c.loop-place.auto.place-end, c.loop-place-test.false);
      each = c.loop-place.invariant.parsed w ns by nodes;
    }

pub returns-clause-numbers : goal.returns-clause-numbers
returns-clause-numbers g c =
    (c.loop-place.texts.numerator, apart_behind c.loop-place.texts.asts.items (map Some c.loop-place.asts.items) c.loop-place.texts.numerator c.loop-place.invariant.numbers)

pub returns-clause-laws : goal.returns-clause-laws
returns-clause-laws g c =
    c.loop-place.invariant.laws

pub returns-clause-fits : goal.returns-clause-fits
returns-clause-fits g c =
    λ w by. omega (arith, c.loop-place.invariant.spent w by, ap (spent_by w c.args.scan.now) (take_all c.loop-place.place c.args.nodes.now c.loop-place-test.false), c.loop-place.invariant.few)
