use Rattle.std.proofs.Common.{◌≡◌, ◌∙◌, ◌≤◌, ◌^◌, Some, map, length, ap, sym, subst, rules}
use Rattle.std.specs.List.{Contains}
use Rattle.std.proofs.lemmas.List.{length-map}
use Rattle.just_parts.specs.Bare.{bare_item}
use Rattle.just_paths.specs.Clean.{folder_of}
use Rattle.just_loader.specs.Links.{To, AtFault, link_in}
use Rattle.just_loader.specs.ModuleFile.{relative}
use Rattle.just_loader.specs.loops.Numbering.{paths_of}
use Rattle.just_loader.specs.Reached.{World, world_of, FileLeadsTo, BreaksAt, items_said, relative_to_root}
use Rattle.just_loader.specs.loops.Scanned.{ArePlacesOf, AreSteps}
use Rattle.just_errors.proofs.Lifts.{lifted}
use Rattle.just_loader.proofs.Scanning.{places_count, grows_by}
use Rattle.just_loader.proofs.Scans.{refused_err, fault_at, leads_to, none_at, is_scanned}
use Rattle.just_loader.proofs.scan.scan_file.Goals as goal

pub returns-in_err-ast-clause-named : goal.returns-in_err-ast-clause-named
returns-in_err-ast-clause-named g c =
    let w : World = world_of c.args.sources.now c.args.config.now (g.S.Syntax.answers c.args.syntax.now) c.args.root.now in
    let shown : c.in_ok-relative.relative.now ≡ relative_to_root w c.args.file.now.path = c.in_ok-relative.ensures ∙ ap (λ x. relative x c.as_str-path.result.now) c.folder_of.ensures ∙ ap (relative_to_root w) c.as_str-path.ensures in
    refused_err w c.args.file.now c.requires.file.0 c.in_ok-relative.relative.now c.as_str-text.result.now c.from_residual-in_err-ast.result shown c.as_str-text.ensures (search rules)

pub returns-in_err-targets-clause-named : goal.returns-in_err-targets-clause-named
returns-in_err-targets-clause-named g c =
    let w : World = world_of c.args.sources.now c.args.config.now (g.S.Syntax.answers c.args.syntax.now) c.args.root.now in
    let shown : c.in_ok-relative.relative.now ≡ relative_to_root w c.args.file.now.path = c.in_ok-relative.ensures ∙ ap (λ x. relative x c.as_str-path.result.now) c.folder_of.ensures ∙ ap (relative_to_root w) c.as_str-path.ensures in
    let parsed : items_said (w.answers.parsed (relative_to_root w c.args.file.now.path) c.args.file.now.text) ≡ Some (map bare_item c.in_ok-ast.ast.items) = ap (λ x. items_said (w.answers.parsed x c.args.file.now.text)) (sym shown) ∙ ap (λ t. items_said (w.answers.parsed c.in_ok-relative.relative.now t)) (sym c.as_str-text.ensures) ∙ c.in_ok-ast.ensures.items in
    let folder : c.folder_of-folder.result.now ≡ folder_of c.args.file.now.path = c.folder_of-folder.ensures ∙ ap folder_of c.as_str-path.ensures in
    let links : map (link_in w.files w.home w.answers.enabled c.folder_of-folder.result.now) c.in_ok-ast.ast.items ≡ map (link_in w.files w.home w.answers.enabled (folder_of c.args.file.now.path)) c.in_ok-ast.ast.items =
    ap (λ x. map (link_in w.files w.home w.answers.enabled x) c.in_ok-ast.ast.items) folder in
    lifted (λ k. Contains (map (link_in w.files w.home w.answers.enabled c.folder_of-folder.result.now) c.in_ok-ast.ast.items) (AtFault k)) (BreaksAt w c.args.file.now.path)
    (λ k h. fault_at w c.args.file.now c.requires.file.0 c.in_ok-ast.ast.items parsed k (subst (λ ls. Contains ls (AtFault k)) links h))
    c.from_residual-in_err-targets.result (search rules)

pub row-requires-clause-count : goal.row-requires-clause-count
row-requires-clause-count g c =
    let L = link_in c.args.sources.now c.args.config.now.home ((g.S.Syntax.answers c.args.syntax.now).enabled) c.folder_of-folder.result.now in
    ap length c.as_slice.ensures.value ∙ places_count (paths_of c.targets.new.found.files.items) (map L c.in_ok-ast.ast.items) c.in_ok-targets.targets.items c.in_ok-targets.ensures.places ∙ length-map c.in_ok-ast.ast.items L

pub returns-clause-scanned : goal.returns-clause-scanned
returns-clause-scanned g c =
    let w : World = world_of c.args.sources.now c.args.config.now (g.S.Syntax.answers c.args.syntax.now) c.args.root.now in
    let shown : c.in_ok-relative.relative.now ≡ relative_to_root w c.args.file.now.path = c.in_ok-relative.ensures ∙ ap (λ x. relative x c.as_str-path.result.now) c.folder_of.ensures ∙ ap (relative_to_root w) c.as_str-path.ensures in
    let parsed : items_said (w.answers.parsed (relative_to_root w c.args.file.now.path) c.args.file.now.text) ≡ Some (map bare_item c.in_ok-ast.ast.items) = ap (λ x. items_said (w.answers.parsed x c.args.file.now.text)) (sym shown) ∙ ap (λ t. items_said (w.answers.parsed c.in_ok-relative.relative.now t)) (sym c.as_str-text.ensures) ∙ c.in_ok-ast.ensures.items in
    let folder : c.folder_of-folder.result.now ≡ folder_of c.args.file.now.path = c.folder_of-folder.ensures ∙ ap folder_of c.as_str-path.ensures in
    let links : map (link_in w.files w.home w.answers.enabled c.folder_of-folder.result.now) c.in_ok-ast.ast.items ≡ map (link_in w.files w.home w.answers.enabled (folder_of c.args.file.now.path)) c.in_ok-ast.ast.items =
    ap (λ x. map (link_in w.files w.home w.answers.enabled x) c.in_ok-ast.ast.items) folder in
    let places : ArePlacesOf (paths_of c.targets.new.found.files.items) (map (link_in w.files w.home w.answers.enabled (folder_of c.args.file.now.path)) c.in_ok-ast.ast.items) c.in_ok-targets.targets.items =
    subst (λ ls. ArePlacesOf (paths_of c.targets.new.found.files.items) ls c.in_ok-targets.targets.items) links c.in_ok-targets.ensures.places in
    let steps : AreSteps c.row.new.names.names.items c.in_ok-ast.ast.items c.in_ok-targets.targets.items c.in_ok-row.row.items =
    subst (λ ts. AreSteps c.row.new.names.names.items c.in_ok-ast.ast.items ts c.in_ok-row.row.items) c.as_slice.ensures.value c.in_ok-row.ensures.steps in
    is_scanned w c.args.file.now c.requires.file.0 c.in_ok-ast.ast.items parsed (paths_of c.targets.new.found.files.items) c.row.new.names.names.items
    (record { path = c.copied.result; text = c.copied-2.result; relative = c.new.result; targets = c.in_ok-targets.targets }) c.in_ok-row.row.items c.copied.ensures c.copied-2.ensures (c.new.ensures ∙ shown) places steps

pub returns-clause-kept : goal.returns-clause-kept
returns-clause-kept g c =
    let w : World = world_of c.args.sources.now c.args.config.now (g.S.Syntax.answers c.args.syntax.now) c.args.root.now in
    let shown : c.in_ok-relative.relative.now ≡ relative_to_root w c.args.file.now.path = c.in_ok-relative.ensures ∙ ap (λ x. relative x c.as_str-path.result.now) c.folder_of.ensures ∙ ap (relative_to_root w) c.as_str-path.ensures in
    let parsed : items_said (w.answers.parsed (relative_to_root w c.args.file.now.path) c.args.file.now.text) ≡ Some (map bare_item c.in_ok-ast.ast.items) = ap (λ x. items_said (w.answers.parsed x c.args.file.now.text)) (sym shown) ∙ ap (λ t. items_said (w.answers.parsed c.in_ok-relative.relative.now t)) (sym c.as_str-text.ensures) ∙ c.in_ok-ast.ensures.items in
    let folder : c.folder_of-folder.result.now ≡ folder_of c.args.file.now.path = c.folder_of-folder.ensures ∙ ap folder_of c.as_str-path.ensures in
    let links : map (link_in w.files w.home w.answers.enabled c.folder_of-folder.result.now) c.in_ok-ast.ast.items ≡ map (link_in w.files w.home w.answers.enabled (folder_of c.args.file.now.path)) c.in_ok-ast.ast.items =
    ap (λ x. map (link_in w.files w.home w.answers.enabled x) c.in_ok-ast.ast.items) folder in
    let places : ArePlacesOf (paths_of c.targets.new.found.files.items) (map (link_in w.files w.home w.answers.enabled (folder_of c.args.file.now.path)) c.in_ok-ast.ast.items) c.in_ok-targets.targets.items =
    subst (λ ls. ArePlacesOf (paths_of c.targets.new.found.files.items) ls c.in_ok-targets.targets.items) links c.in_ok-targets.ensures.places in
    let fits : w.answers.spends (relative_to_root w c.args.file.now.path) c.args.file.now.text ≤ 2 ^ 64 =
    subst (λ n. n ≤ 2 ^ 64) (ap (λ x. w.answers.spends x c.as_str-text.result.now) shown ∙ ap (w.answers.spends (relative_to_root w c.args.file.now.path)) c.as_str-text.ensures) c.in_ok-ast.ensures.takes in
    none_at w c.args.file.now c.requires.file.0 c.in_ok-ast.ast.items parsed (paths_of c.targets.new.found.files.items) c.in_ok-targets.targets.items places fits

pub returns-clause-grows : goal.returns-clause-grows
returns-clause-grows g c =
    let w : World = world_of c.args.sources.now c.args.config.now (g.S.Syntax.answers c.args.syntax.now) c.args.root.now in
    let shown : c.in_ok-relative.relative.now ≡ relative_to_root w c.args.file.now.path = c.in_ok-relative.ensures ∙ ap (λ x. relative x c.as_str-path.result.now) c.folder_of.ensures ∙ ap (relative_to_root w) c.as_str-path.ensures in
    let parsed : items_said (w.answers.parsed (relative_to_root w c.args.file.now.path) c.args.file.now.text) ≡ Some (map bare_item c.in_ok-ast.ast.items) = ap (λ x. items_said (w.answers.parsed x c.args.file.now.text)) (sym shown) ∙ ap (λ t. items_said (w.answers.parsed c.in_ok-relative.relative.now t)) (sym c.as_str-text.ensures) ∙ c.in_ok-ast.ensures.items in
    let folder : c.folder_of-folder.result.now ≡ folder_of c.args.file.now.path = c.folder_of-folder.ensures ∙ ap folder_of c.as_str-path.ensures in
    let links : map (link_in w.files w.home w.answers.enabled c.folder_of-folder.result.now) c.in_ok-ast.ast.items ≡ map (link_in w.files w.home w.answers.enabled (folder_of c.args.file.now.path)) c.in_ok-ast.ast.items =
    ap (λ x. map (link_in w.files w.home w.answers.enabled x) c.in_ok-ast.ast.items) folder in
    grows_by (λ p. Contains (map (link_in w.files w.home w.answers.enabled c.folder_of-folder.result.now) c.in_ok-ast.ast.items) (To p)) (FileLeadsTo w c.args.file.now.path) (paths_of c.args.found.now.files.items) (paths_of c.targets.new.found.files.items) c.in_ok-targets.ensures.grows
    (λ p h. leads_to w c.args.file.now c.requires.file.0 c.in_ok-ast.ast.items parsed p (subst (λ ls. Contains ls (To p)) links h))
