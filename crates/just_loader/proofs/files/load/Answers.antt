use Rattle.std.proofs.Common.{◌≡◌, ◌≤◌, ◌^◌, Some, map, refl, sym, subst, rules}
use Rattle.std.specs.HashMap.{get}
use Rattle.std.specs.List.{slice_get}
use Rattle.just_graph.specs.Unfolded.{AllTold}
use Rattle.just_graph.specs.Unfolding.{IsOrdered, steps}
use Rattle.just_parts.specs.Asts.{same_ast_key}
use Rattle.just_loader.specs.Keys.{BreaksFiles, no_root, at_fault, in_circle}
use Rattle.just_loader.specs.FileCircles.{BreaksCircle}
use Rattle.just_errors.specs.Causes.{Reports}
use Rattle.just_loader.specs.loops.Placed.{at_first_places}
use Rattle.just_loader.specs.loops.Loading.{AreParsed, IsScanBy, spent_by}
use Rattle.just_loader.specs.loops.Parsed.{AreHeld, AreKeyed, relative_at}
use Rattle.just_loader.specs.Reached.{World, world_of, BreaksInScan}
use Rattle.just_loader.proofs.ComingIn.{are_unfolded}
use Rattle.just_loader.proofs.InPaths.{is_loaded}
use Rattle.just_loader.proofs.KeySums.{no_circle}
use Rattle.just_loader.proofs.LoadedPaths.{places_of}
use Rattle.just_errors.proofs.Lifts.{lifted}
use Rattle.just_loader.proofs.WholeLoads.{IsWhole, whole_lent, are_keyed, are_kept, nodes_inside, refused, stop_named}
use Rattle.just_loader.proofs.files.load.Goals as goal

pub returns-then-is_none : goal.returns-then-is_none
returns-then-is_none g c =
    let w : World = world_of c.args.sources.now c.args.config.now (g.S.Syntax.answers c.args.syntax.now) c.args.root.now in
    refused w _ (search rules) (no_root (search rules) (sym c.in_ok-from_str.ensures))

pub returns-in_err-scan : goal.returns-in_err-scan
returns-in_err-scan g c =
    let w : World = world_of c.args.sources.now c.args.config.now (g.S.Syntax.answers c.args.syntax.now) c.args.root.now in
    refused w c.from_residual-in_err-scan.result (search rules) (lifted (BreaksInScan w) (BreaksFiles w) (λ k n. at_fault n) c.from_residual-in_err-scan.result (search rules))

pub returns-in_err-check_circles : goal.returns-in_err-check_circles
returns-in_err-check_circles g c =
    let w : World = world_of c.args.sources.now c.args.config.now (g.S.Syntax.answers c.args.syntax.now) c.args.root.now in
    let here : Reports (BreaksCircle w) c.in_err-check_circles.field-0.0 = c.in_err-check_circles.ensures.named w c.in_ok-scan.ensures.scan in
    refused w c.from_residual-in_err-check_circles.result (search rules) (lifted (BreaksCircle w) (BreaksFiles w) (λ k n. in_circle n) c.from_residual-in_err-check_circles.result (search (rules, here)))

pub unfold-requires : goal.unfold-requires
unfold-requires g c = subst (λ rows. IsOrdered rows 0) (sym c.as_slice.ensures.value) c.in_ok-check_circles.ensures.ordered

pub parse_all-requires-clause-scan : goal.parse_all-requires-clause-scan
parse_all-requires-clause-scan g c =
    let w : World = world_of c.args.sources.now c.args.config.now (g.S.Syntax.answers c.args.syntax.now) c.args.root.now in
    let by : IsScanBy w c.in_ok-scan.scan (g.S.Syntax.answers c.args.syntax.now) = record { is_scan = c.in_ok-scan.ensures.scan; same = refl } in
    (w, by)

pub parse_all-requires-clause-nodes : goal.parse_all-requires-clause-nodes
parse_all-requires-clause-nodes g c =
    are_unfolded c.in_ok-scan.scan c.as_slice.result.now c.in_ok-nodes.nodes.items c.as_slice-2.result.now c.as_slice.ensures.value c.as_slice-2.ensures.value c.in_ok-nodes.ensures.first c.in_ok-nodes.ensures.depths c.in_ok-nodes.ensures.shallow

pub returns-in_err-asts : goal.returns-in_err-asts
returns-in_err-asts g c =
    let w : World = world_of c.args.sources.now c.args.config.now (g.S.Syntax.answers c.args.syntax.now) c.args.root.now in
    let by : IsScanBy w c.in_ok-scan.scan (g.S.Syntax.answers c.args.syntax.now) = record { is_scan = c.in_ok-scan.ensures.scan; same = refl } in
    let whole : IsWhole c.in_ok-scan.scan.rows.items c.as_slice-2.result.now =
    whole_lent c.as_slice.ensures.value c.as_slice-2.ensures.value (record { first = c.in_ok-nodes.ensures.first; keys = c.in_ok-nodes.ensures.keys; once = c.in_ok-nodes.ensures.once }) in
    let here : Reports (BreaksFiles w) c.in_err-asts.field-0.0 = stop_named w c.in_ok-scan.scan c.in_ok-scan.ensures.scan c.as_slice-2.result.now whole c.in_ok-scan.ensures.kept (no_circle w (c.in_ok-check_circles.ensures.none w c.in_ok-scan.ensures.scan)) c.in_err-asts.field-0.0 (c.in_err-asts.ensures.stopped w by) in
    refused w c.from_residual-in_err-asts.result (search rules) (search (rules, here))

pub hold-requires : goal.hold-requires
hold-requires g c =
    let w : World = world_of c.args.sources.now c.args.config.now (g.S.Syntax.answers c.args.syntax.now) c.args.root.now in
    let by : IsScanBy w c.in_ok-scan.scan (g.S.Syntax.answers c.args.syntax.now) = record { is_scan = c.in_ok-scan.ensures.scan; same = refl } in
    let whole : IsWhole c.in_ok-scan.scan.rows.items c.in_ok-nodes.nodes.items = whole_lent c.as_slice.ensures.value refl (record { first = c.in_ok-nodes.ensures.first; keys = c.in_ok-nodes.ensures.keys; once = c.in_ok-nodes.ensures.once }) in
    let told : AllTold (steps c.in_ok-scan.scan.rows.items) c.as_slice-2.result.now whole.first.0 = subst (λ us. AllTold (steps c.in_ok-scan.scan.rows.items) us whole.first.0) (sym c.as_slice-2.ensures.value) whole.first.2 in
    let parsed : AreParsed w c.in_ok-scan.scan whole.first.0 c.in_ok-asts.asts.items = c.in_ok-asts.ensures.parsed w whole.first.0 by (whole.first.1, told) in
    subst (λ us. AreKeyed c.in_ok-scan.scan us c.in_ok-asts.asts.items) (sym c.as_slice-3.ensures.value) (are_keyed w c.in_ok-scan.scan c.in_ok-scan.ensures.scan c.in_ok-nodes.nodes.items whole c.in_ok-asts.asts.items parsed)

pub loaded_paths-requires : goal.loaded_paths-requires
loaded_paths-requires g c =
    let w : World = world_of c.args.sources.now c.args.config.now (g.S.Syntax.answers c.args.syntax.now) c.args.root.now in
    let whole : IsWhole c.in_ok-scan.scan.rows.items c.in_ok-nodes.nodes.items = whole_lent c.as_slice.ensures.value refl (record { first = c.in_ok-nodes.ensures.first; keys = c.in_ok-nodes.ensures.keys; once = c.in_ok-nodes.ensures.once }) in
    λ k u e. nodes_inside w c.in_ok-scan.scan c.in_ok-scan.ensures.scan c.in_ok-nodes.nodes.items whole k u (subst (λ us. slice_get us k ≡ Some u) c.as_slice-4.ensures.value e)

pub returns : goal.returns
returns g c =
    let w : World = world_of c.args.sources.now c.args.config.now (g.S.Syntax.answers c.args.syntax.now) c.args.root.now in
    let scan = c.in_ok-scan.scan in
    let us = c.in_ok-nodes.nodes.items in
    let asts = c.in_ok-asts.asts.items in
    let is = c.in_ok-scan.ensures.scan in
    let by : IsScanBy w scan (g.S.Syntax.answers c.args.syntax.now) = record { is_scan = is; same = refl } in
    let whole : IsWhole scan.rows.items us = whole_lent c.as_slice.ensures.value refl (record { first = c.in_ok-nodes.ensures.first; keys = c.in_ok-nodes.ensures.keys; once = c.in_ok-nodes.ensures.once }) in
    let told : AllTold (steps scan.rows.items) c.as_slice-2.result.now whole.first.0 = subst (λ xs. AllTold (steps scan.rows.items) xs whole.first.0) (sym c.as_slice-2.ensures.value) whole.first.2 in
    let held : AreHeld scan us asts (get same_ast_key c.in_ok-asts-2.asts) = subst (λ xs. AreHeld scan xs asts (get same_ast_key c.in_ok-asts-2.asts)) c.as_slice-3.ensures.value c.in_ok-asts-2.ensures in
    let paths : c.in_ok-loaded.loaded ≡ map (relative_at scan) (at_first_places (places_of us)) = subst (λ xs. c.in_ok-loaded.loaded ≡ map (relative_at scan) (at_first_places (places_of xs))) c.as_slice-4.ensures.value c.in_ok-loaded.ensures in
    record {
      kept = are_kept w scan is us whole c.in_ok-scan.ensures.kept (c.in_ok-check_circles.ensures.none w is) (subst (λ xs. spent_by w scan xs ≤ 2 ^ 64) c.as_slice-2.ensures.value (c.in_ok-asts.ensures.fits w by));
      loaded = is_loaded w scan is us whole asts (c.in_ok-asts.ensures.parsed w whole.first.0 by (whole.first.1, told)) c.in_ok-asts.ensures.numbers c.in_ok-asts.ensures.laws
          (get same_ast_key c.in_ok-asts-2.asts) held c.in_ok-loaded.loaded paths;
      named = tt;
    }
