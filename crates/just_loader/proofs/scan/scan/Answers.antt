use Rattle.std.proofs.Common.{◌≡◌, ◌∙◌, ◌<◌, ◌≤◌, Some, true, false, length, refl, ap, subst, sym, arith, rules}
use Rattle.std.specs.HashMap.{get}
use Rattle.std.specs.List.{slice_get}
use Rattle.std.specs.Str.{bytes_eq}
use Rattle.std.proofs.lemmas.Grind.{common_steps}
use Rattle.std.proofs.lemmas.List.{length-map, length_push}
use Rattle.std.proofs.lemmas.Option.{slice_get_read}
use Rattle.just_table.specs.Entries.{find}
use Rattle.just_loader.specs.loops.Numbering.{paths_of}
use Rattle.just_loader.specs.Reached.{World, world_of, BreaksAt, BreaksInScan}
use Rattle.just_loader.specs.loops.Reading.{AreRead}
use Rattle.just_loader.specs.declared.sources.SourceFile.{SourceFile}
use Rattle.just_errors.proofs.Lifts.{lifted}
use Rattle.just_loader.proofs.Numberings.{got, map_get, once}
use Rattle.just_loader.proofs.ReadTexts.{none_read, read_on}
use Rattle.just_loader.proofs.WholeScans.{start, text_file, scan_one, found_clean, found_few, is_scan, none_in_scan}
use Rattle.just_loader.proofs.scan.scan.Goals as goal
use Rattle.just_loader.proofs.scan.scan.Goals.{then-is_whole, else-is_whole, then-is_whole-2, else-is_whole-2}

pub place-requires-clause-found : goal.place-requires-clause-found
place-requires-clause-found g c = c.new-found.ensures.found c.args.sources.now

pub place-requires-clause-there : goal.place-requires-clause-there
place-requires-clause-there g c = text_file (find c.args.root.now c.args.sources.now) c.requires.there

pub loop-found-init : goal.loop-found-init
loop-found-init g c =
    let w : World = world_of c.args.sources.now c.args.config.now (g.S.Syntax.answers c.args.syntax.now) c.args.root.now in
    record {
      found = c.in_ok-place.ensures.found;
      numbered = c.new-names.ensures.numbered;
      so_far = start w (paths_of c.new-found.result.files.items) (paths_of c.place.new.self.files.items) c.new-names.result.names.items c.in_ok-place.field-0 c.new-files.result.items c.new-rows.result.items
          (ap paths_of c.new-found.ensures.none) c.in_ok-place.ensures.files c.in_ok-place.ensures.place c.new-files.ensures.items c.new-rows.ensures.items;
      count = ap length c.new-texts.ensures.none ∙ sym (ap length c.new-files.ensures.items);
      read = λ _. none_read (g.S.Syntax.answers c.args.syntax.now) c.new-files.result.items c.new-texts.result c.new-texts.ensures.none c.new-texts.ensures.given;
      few = omega (arith, c.new-texts.ensures.given);
    }

pub scan_file-requires-clause-file : goal.scan_file-requires-clause-file
scan_file-requires-clause-file g c =
    let inside : length c.loop-found.files.items < length c.loop-found.found.files.items = grind (arith, common_steps) in
    let place : c.len-in-loop-found-2.result ≡ length c.loop-found.files.items = grind (arith, common_steps) in
    let here : slice_get c.loop-found.found.files.items c.len-in-loop-found-2.result ≡ Some c.index.result.now =
    slice_get_read c.loop-found.found.files.items (length c.loop-found.found.files.items) c.len-in-loop-found-2.result c.index.result.now refl (omega (arith, inside, place)) c.index.ensures in
    let at : slice_get c.loop-found.found.files.items (length c.loop-found.files.items) ≡ Some c.copied-file.result = ap (slice_get c.loop-found.found.files.items) (sym place) ∙ here ∙ ap Some (sym c.copied-file.ensures) in
    c.loop-found.invariant.found.there (length c.loop-found.files.items) c.copied-file.result at

pub returns-in_err-scanned-clause-named : goal.returns-in_err-scanned-clause-named
returns-in_err-scanned-clause-named g c =
    let w : World = world_of c.args.sources.now c.args.config.now (g.S.Syntax.answers c.args.syntax.now) c.args.root.now in
    let inside : length c.loop-found.files.items < length c.loop-found.found.files.items = grind (arith, common_steps) in
    let place : c.len-in-loop-found-2.result ≡ length c.loop-found.files.items = grind (arith, common_steps) in
    let here : slice_get c.loop-found.found.files.items c.len-in-loop-found-2.result ≡ Some c.index.result.now =
    slice_get_read c.loop-found.found.files.items (length c.loop-found.found.files.items) c.len-in-loop-found-2.result c.index.result.now refl (omega (arith, inside, place)) c.index.ensures in
    let at : slice_get c.loop-found.found.files.items (length c.loop-found.files.items) ≡ Some c.copied-file.result = ap (slice_get c.loop-found.found.files.items) (sym place) ∙ here ∙ ap Some (sym c.copied-file.ensures) in
    let path : slice_get (paths_of c.loop-found.found.files.items) (length c.loop-found.files.items) ≡ Some c.copied-file.result.path = map_get (λ (f : SourceFile). f.path) c.loop-found.found.files.items (length c.loop-found.files.items) c.copied-file.result at in
    lifted (BreaksAt w c.copied-file.result.path) (BreaksInScan w)
    (λ k n. record { path = c.copied-file.result.path; reached = c.loop-found.invariant.so_far.reached c.copied-file.result.path (got (paths_of c.loop-found.found.files.items) (length c.loop-found.files.items) c.copied-file.result.path path); at_fault = n })
    c.from_residual-in_err-scanned.result (search rules)

pub loop-found-smaller : goal.loop-found-smaller
loop-found-smaller g c =
    let inside : length c.loop-found.files.items < length c.loop-found.found.files.items = grind (arith, common_steps) in
    let few = found_few c.args.sources.now c.loop-found.found c.loop-found.invariant.found (once (paths_of c.loop-found.found.files.items) (get bytes_eq c.loop-found.found.places) c.loop-found.invariant.found.numbering) in
    omega (arith, inside, few, ap length c.in_ok-push.ensures.items, length_push c.loop-found.files.items c.in_ok-scanned.scanned)

pub loop-found-preserved : goal.loop-found-preserved
loop-found-preserved g c =
    let w : World = world_of c.args.sources.now c.args.config.now (g.S.Syntax.answers c.args.syntax.now) c.args.root.now in
    let inside : length c.loop-found.files.items < length c.loop-found.found.files.items = grind (arith, common_steps) in
    let place : c.len-in-loop-found-2.result ≡ length c.loop-found.files.items = grind (arith, common_steps) in
    let here : slice_get c.loop-found.found.files.items c.len-in-loop-found-2.result ≡ Some c.index.result.now =
    slice_get_read c.loop-found.found.files.items (length c.loop-found.found.files.items) c.len-in-loop-found-2.result c.index.result.now refl (omega (arith, inside, place)) c.index.ensures in
    let at : slice_get c.loop-found.found.files.items (length c.loop-found.files.items) ≡ Some c.copied-file.result = ap (slice_get c.loop-found.found.files.items) (sym place) ∙ here ∙ ap Some (sym c.copied-file.ensures) in
    let path : slice_get (paths_of c.loop-found.found.files.items) (length c.loop-found.files.items) ≡ Some c.copied-file.result.path = map_get (λ (f : SourceFile). f.path) c.loop-found.found.files.items (length c.loop-found.files.items) c.copied-file.result at in
    record {
      found = c.in_ok-scanned.ensures.found;
      numbered = c.in_ok-scanned.ensures.numbered;
      so_far = scan_one w (paths_of c.loop-found.found.files.items) (paths_of c.scan_file.new.found.files.items) c.loop-found.names.names.items c.scan_file.new.names.names.items
          c.loop-found.files.items c.push.new.self.items c.loop-found.rows.items c.push-in-loop-found.new.self.items c.copied-file.result c.in_ok-scanned.scanned c.in_ok-scanned.row c.loop-found.invariant.so_far path
          c.in_ok-scanned.ensures.path c.in_ok-scanned.ensures.scanned c.in_ok-scanned.ensures.kept c.in_ok-scanned.ensures.grows c.in_ok-scanned.ensures.extends c.in_ok-push.ensures.items c.in_ok-push-2.ensures.items;
      count = omega (arith, c.loop-found.invariant.count, ap length c.in_ok-push.ensures.items, length_push c.loop-found.files.items c.in_ok-scanned.scanned, ap length c.in_ok-push-3.ensures.items, length_push c.loop-found.texts.asts.items c.in_ok-scanned.ast);
      read = λ whole. elim c.if-is_whole.branch [
        | then-is_whole w ↦
            read_on (g.S.Syntax.answers c.args.syntax.now) c.loop-found.files.items c.push.new.self.items c.loop-found.texts (record { asts = c.push-in-loop-found-2.new.self; numerator = c.scan_file.new.numerator }) c.in_ok-scanned.scanned c.in_ok-scanned.ast w.is_some-is_whole.result
            w.is_some-is_whole.ensures (sym w.is_whole-is ∙ whole) (c.loop-found.invariant.read w.if-is_whole.true) c.loop-found.invariant.count c.in_ok-scanned.ensures.read c.in_ok-push.ensures.items c.in_ok-push-3.ensures.items c.in_ok-scanned.ensures.fits
        | else-is_whole w ↦ let wrong : false ≡ true = sym w.if-is_whole.false ∙ sym w.is_whole-is ∙ whole in cc
      ];
      few = c.in_ok-scanned.ensures.fits;
    }

pub returns-clause-scan : goal.returns-clause-scan
returns-clause-scan g c =
    let w : World = world_of c.args.sources.now c.args.config.now (g.S.Syntax.answers c.args.syntax.now) c.args.root.now in
    let found : length c.loop-found.found.files.items ≤ length c.loop-found.files.items = grind (arith, common_steps) in
    let all : length (paths_of c.loop-found.found.files.items) ≤ length c.loop-found.files.items = omega (arith, found, length-map c.loop-found.found.files.items (λ (f : SourceFile). f.path)) in
    is_scan w (paths_of c.loop-found.found.files.items) (record { files = c.loop-found.files; rows = c.loop-found.rows; names = c.loop-found.names.names }) c.loop-found.invariant.so_far all
    (once (paths_of c.loop-found.found.files.items) (get bytes_eq c.loop-found.found.places) c.loop-found.invariant.found.numbering) (found_clean c.args.sources.now c.loop-found.found c.loop-found.invariant.found)

pub returns-clause-kept : goal.returns-clause-kept
returns-clause-kept g c =
    let w : World = world_of c.args.sources.now c.args.config.now (g.S.Syntax.answers c.args.syntax.now) c.args.root.now in
    let found : length c.loop-found.found.files.items ≤ length c.loop-found.files.items = grind (arith, common_steps) in
    let all : length (paths_of c.loop-found.found.files.items) ≤ length c.loop-found.files.items = omega (arith, found, length-map c.loop-found.found.files.items (λ (f : SourceFile). f.path)) in
    none_in_scan w (paths_of c.loop-found.found.files.items) c.loop-found.names.names.items c.loop-found.files.items c.loop-found.rows.items c.loop-found.invariant.so_far all

pub returns-clause-read : goal.returns-clause-read
returns-clause-read g c =
    elim c.if-is_whole-2.branch [
      | then-is_whole-2 w ↦ subst (AreRead (g.S.Syntax.answers c.args.syntax.now) c.loop-found.files.items) (sym w.texts2-is) (c.loop-found.invariant.read w.if-is_whole-2.true)
      | else-is_whole-2 w ↦ subst (AreRead (g.S.Syntax.answers c.args.syntax.now) c.loop-found.files.items) (sym w.texts2-is)
          (none_read (g.S.Syntax.answers c.args.syntax.now) c.loop-found.files.items w.new-texts-else-is_whole-2.result w.new-texts-else-is_whole-2.ensures.none w.new-texts-else-is_whole-2.ensures.given)
    ]
