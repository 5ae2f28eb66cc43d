-- What is loaded, from what is scanned, unfolded and parsed.
use Rattle.std.proofs.Common.{◌≡◌, ℕ, ◌<◌, ◌≤◌, ◌^◌, false, List, map, length, Some, IsSome, Result, Ok, Err, IfOk, IfErr, refl, sym, ap, subst, ◌∙◌, arith}
use Rattle.std.specs.List.{slice_get}
use Rattle.std.specs.declared.vec.Vec.{Vec}
use Rattle.std.specs.declared.alloc.Global.{Global}
use Rattle.std.proofs.lemmas.Option.{slice_get_within}
use Rattle.just_graph.specs.Unfolding.{steps}
use Rattle.just_graph.specs.Unfolded.{AreDistinct, IsUnfolded, unfolded_key, AreReached}
use Rattle.just_graph.specs.declared.unfolding.Step.{Step}
use Rattle.just_graph.specs.declared.unfolding.Unfolded.{Unfolded}
use Rattle.just_parts.specs.Items.{Ast}
use Rattle.just_errors.specs.declared.error.Error.{Error}
use Rattle.just_errors.specs.declared.error.Error.TheVariants as error
use Rattle.just_parts.specs.Asts.{AstKey}
use Rattle.just_errors.specs.Causes.{Keeps, Reports}
use Rattle.just_loader.specs.FileCircles.{BreaksCircle}
use Rattle.just_loader.specs.loops.FileCircles.{FileLeadsOn}
use Rattle.just_loader.specs.Keys.{FileKey, BreaksFiles}
use Rattle.just_loader.specs.Loaded.{Loads}
use Rattle.just_loader.specs.loops.Placed.{scanned_name}
use Rattle.just_loader.specs.loops.Loading.{AreParsed, Stops, spent_by}
use Rattle.just_loader.specs.loops.Parsed.{AreKeyed}
use Rattle.just_loader.specs.Reached.{World, IsReachedFile, BreaksInScan}
use Rattle.just_loader.specs.loops.Scanned.{IsScan}
use Rattle.just_loader.specs.Sources.{text_at}
use Rattle.just_loader.specs.declared.loaded.Loaded.{Loaded}
use Rattle.just_loader.specs.declared.scan_result.Scan.{Scan}
use Rattle.just_loader.specs.declared.scan_result.ScannedFile.{ScannedFile}
use Rattle.just_loader.proofs.KeySums.{node_inside, one_place, many, files_kept}
use Rattle.just_loader.proofs.Numberings.{get_map, read_at}

-- what unfolding tells of the nodes
pub record IsWhole (rows : List (Vec Step Global)) (us : List Unfolded) : Type 0 where
  pub first : IsUnfolded (steps rows) 0 us
  pub keys : AreReached (steps rows) 0 (map unfolded_key us)
  pub once : AreDistinct (map unfolded_key us)

pub whole_lent : {rows lent : List (Vec Step Global)} {us shown : List Unfolded} → lent ≡ rows → shown ≡ us → IsWhole lent us → IsWhole rows shown
whole_lent {rows} {lent} {us} {shown} e f whole = subst (IsWhole rows) (sym f) (subst (λ r. IsWhole r us) e whole)

-- the root is there
root_there : (w : World) (scan : Scan) → IsScan w scan → IsSome (text_at w.files w.root)
root_there w scan is =
    let file = get_map (λ (f : ScannedFile). f.path) scan.files.items 0 w.root is.root in
    let row = read_at scan.rows.items 0 (omega (arith, is.count, slice_get_within scan.files.items 0 file.0 file.1)) in
    let text : text_at w.files file.0.path ≡ Some file.0.text = (is.scanned 0 file.0 row.0 file.1 row.1).text in
    subst (λ p. IsSome (text_at w.files p)) file.2 (subst IsSome (sym text) refl)

module _ (w : World) (scan : Scan) (is : IsScan w scan) (us : List Unfolded) (whole : IsWhole scan.rows.items us) where
  -- an error of parsing
  pub stop_named : Keeps (BreaksInScan w) → Keeps (BreaksCircle w) → (e : Error) → Stops w scan us 0 e → Reports (BreaksFiles w) e
  stop_named kept straight (error.Load e) h = absurd h
  stop_named kept straight (error.Compile e) h = absurd h
  stop_named kept straight (error.Invocation e) h = absurd h
  stop_named kept straight (error.Run e) h = absurd h
  stop_named kept straight error.Exhausted h = many w scan is us whole.keys whole.once kept straight h.0 (omega (arith, h.2))
  stop_named kept straight error.Memory h = tt

  pub nodes_inside : (k : ℕ) (u : Unfolded) → slice_get us k ≡ Some u → u.node < length scan.files.items
  nodes_inside = node_inside w scan is us whole.keys whole.once

  pub are_keyed : (asts : List Ast) → AreParsed w scan whole.first.0 asts → AreKeyed scan us asts
  are_keyed asts parsed = record {
    count = parsed.count ∙ sym whole.first.2.count;
    within = nodes_inside;
    apart = λ i j u v e f same. one_place w scan is us whole.keys whole.once i j u v e f (ap (λ (k : AstKey). let x : FileKey = record { path = k.0.components; node = k.1 } in x) same);
    paths = λ k u ast e f.
        let n = read_at whole.first.0 k (omega (arith, whole.first.2.count, slice_get_within us k u e)) in
        let tells = whole.first.2.tells k u n.0 e n.1 in
        let of = parsed.each k n.0 ast n.1 f in
        let texts : ast.module_path.components ≡ map (scanned_name scan) u.path.items = ap (λ (a : Ast). a.module_path.components) of.rest ∙ of.from.components ∙ of.came.components ∙ ap (map (scanned_name scan)) (sym tells.path) in
        let spaced : ast.module_path.spaced ≡ false = ap (λ (a : Ast). a.module_path.spaced) of.rest ∙ of.from.spaced in
        λ j. record { components = texts j; spaced = spaced j };
  }

  pub are_kept : Keeps (BreaksInScan w) → ((f : List ℕ) → IsReachedFile w f → FileLeadsOn w f f → ⊥) → spent_by w scan us ≤ 2 ^ 64 → Keeps (BreaksFiles w)
  are_kept kept none total = files_kept w scan is us whole.keys whole.once (root_there w scan is) kept none total

-- a rule that is broken
pub refused : (w : World) (r : Result Loaded Error) → IfOk r (λ _. ⊥) → IfErr r (Reports (BreaksFiles w)) → Loads w r
refused w (Ok l) none named = absurd none
refused w (Err e) none named = record { kept = tt; loaded = tt; named = named }
