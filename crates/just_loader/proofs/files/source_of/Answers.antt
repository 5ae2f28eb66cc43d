use Rattle.std.proofs.Common.{◌≡◌, ◌∙◌, ◌<◌, length, ap, sym, subst, arith}
use Rattle.just_graph.specs.declared.unfolding.Step.{Step}
use Rattle.just_paths.specs.Clean.{IsClean}
use Rattle.just_source.specs.declared.source.Source.{Source}
use Rattle.just_loader.specs.loops.Loading.{CameInWorlds}
use Rattle.just_loader.specs.loops.Placed.{scanned_path}
use Rattle.just_loader.specs.loops.Scanned.{EntersName}
use Rattle.just_loader.proofs.ComingIn.{came_by, came_over, came_root, element_is, over, path_clean, path_is, row_inside, step_inside, step_is}
use Rattle.just_loader.proofs.FileKeys.{node_inside}
use Rattle.just_loader.proofs.files.source_of.Goals as goal
use Rattle.just_loader.proofs.files.source_of.Goals.{in-None+in_ok-source-in-None, in-Some+in_ok-source-in-Some}

pub index-requires : goal.index-requires
index-requires c =
    omega (arith, node_inside c.requires.scan.0 c.args.scan.now c.requires.scan.1 c.args.nodes.now c.requires.nodes (length c.args.sources.now) c.args.node.now c.requires.node, c.args.scan.now.files.ok)

pub root-requires : goal.root-requires
root-requires c =
    subst IsClean (sym c.as_str.ensures) (path_clean c.args.scan.now c.args.node.now.node c.index.result.now (node_inside c.requires.scan.0 c.args.scan.now c.requires.scan.1 c.args.nodes.now c.requires.nodes (length c.args.sources.now) c.args.node.now c.requires.node) c.index.ensures c.requires.scan.1.clean)

pub offset_bounds-nodes-origin : goal.offset_bounds-nodes-origin
offset_bounds-nodes-origin c =
    let h = over c.requires.scan.0 c.args.scan.now c.requires.scan.1 c.args.nodes.now c.requires.nodes c.args.sources.now c.args.node.now c.requires.node c.requires.sources c.in-Some.origin c.in-Some.is in
    omega (arith, h.inside)

pub bounds-nodes-origin : goal.bounds-nodes-origin
bounds-nodes-origin c =
    let h = over c.requires.scan.0 c.args.scan.now c.requires.scan.1 c.args.nodes.now c.requires.nodes c.args.sources.now c.args.node.now c.requires.node c.requires.sources c.in-Some.origin c.in-Some.is in
    h.inside

pub bounds-nodes-origin-in-Some : goal.bounds-nodes-origin-in-Some
bounds-nodes-origin-in-Some c =
    let h = over c.requires.scan.0 c.args.scan.now c.requires.scan.1 c.args.nodes.now c.requires.nodes c.args.sources.now c.args.node.now c.requires.node c.requires.sources c.in-Some.origin c.in-Some.is in
    h.inside

pub index-requires-in-Some : goal.index-requires-in-Some
index-requires-in-Some c =
    let h = over c.requires.scan.0 c.args.scan.now c.requires.scan.1 c.args.nodes.now c.requires.nodes c.args.sources.now c.args.node.now c.requires.node c.requires.sources c.in-Some.origin c.in-Some.is in
    omega (arith, row_inside h c.index-nodes-origin.result, c.args.scan.now.rows.ok)

pub index-step-requires : goal.index-step-requires
index-step-requires c =
    let h = over c.requires.scan.0 c.args.scan.now c.requires.scan.1 c.args.nodes.now c.requires.nodes c.args.sources.now c.args.node.now c.requires.node c.requires.sources c.in-Some.origin c.in-Some.is in
    omega (arith, step_inside h c.index-nodes-origin.result c.index-in-Some.result.now c.index-in-Some.ensures, c.index-in-Some.result.now.ok)

pub offset_bounds-sources-origin : goal.offset_bounds-sources-origin
offset_bounds-sources-origin c =
    let h = over c.requires.scan.0 c.args.scan.now c.requires.scan.1 c.args.nodes.now c.requires.nodes c.args.sources.now c.args.node.now c.requires.node c.requires.sources c.in-Some.origin c.in-Some.is in
    omega (arith, h.place)

pub bounds-sources-origin : goal.bounds-sources-origin
bounds-sources-origin c =
    let h = over c.requires.scan.0 c.args.scan.now c.requires.scan.1 c.args.nodes.now c.requires.nodes c.args.sources.now c.args.node.now c.requires.node c.requires.sources c.in-Some.origin c.in-Some.is in
    h.place

pub next_source-requires-clause-target : goal.next_source-requires-clause-target
next_source-requires-clause-target c =
    let h = over c.requires.scan.0 c.args.scan.now c.requires.scan.1 c.args.nodes.now c.requires.nodes c.args.sources.now c.args.node.now c.requires.node c.requires.sources c.in-Some.origin c.in-Some.is in
    let s : c.index-step.result.now ≡ h.step = step_is h c.index-nodes-origin.result c.index-in-Some.result.now c.index-in-Some.ensures c.index-step.result.now c.index-step.ensures in
    subst (λ (x : Step). x.target < length c.args.scan.now.files.items) (sym s) h.target

pub next_source-requires-clause-named : goal.next_source-requires-clause-named
next_source-requires-clause-named c =
    let h = over c.requires.scan.0 c.args.scan.now c.requires.scan.1 c.args.nodes.now c.requires.nodes c.args.sources.now c.args.node.now c.requires.node c.requires.sources c.in-Some.origin c.in-Some.is in
    let s : c.index-step.result.now ≡ h.step = step_is h c.index-nodes-origin.result c.index-in-Some.result.now c.index-in-Some.ensures c.index-step.result.now c.index-step.ensures in
    subst (EntersName c.args.scan.now.names.items) (sym s) h.named

pub next_source-requires-clause-shallow : goal.next_source-requires-clause-shallow
next_source-requires-clause-shallow c =
    let h = over c.requires.scan.0 c.args.scan.now c.requires.scan.1 c.args.nodes.now c.requires.nodes c.args.sources.now c.args.node.now c.requires.node c.requires.sources c.in-Some.origin c.in-Some.is in
    let b : c.index-sources-origin.result ≡ h.before = element_is c.args.sources.now c.in-Some.origin.parent c.index-sources-origin.result h.before c.index-sources-origin.is h.before_at in
    omega (arith, h.shallow, ap (λ (x : Source). x.file_depth) b)

pub returns-clause-came : goal.returns-clause-came
returns-clause-came c =
    λ ns n nodes here. elim c.match-node.branch [
      | in-None+in_ok-source-in-None w ↦
          let i = w.in_ok-source-in-None in
          let inside = node_inside c.requires.scan.0 c.args.scan.now c.requires.scan.1 c.args.nodes.now c.requires.nodes (length c.args.sources.now) c.args.node.now c.requires.node in
          let path : w.as_str.result.now ≡ scanned_path c.args.scan.now c.args.node.now.node = w.as_str.ensures ∙ path_is c.args.scan.now c.args.node.now.node w.index.result.now inside w.index.ensures in
          subst (λ (x : Source). CameInWorlds c.args.scan.now n (record x { file_depth = c.args.node.now.depth })) (sym w.source-is)
          (came_root c.requires.scan.0 c.args.scan.now c.requires.scan.1 c.args.nodes.now c.requires.nodes c.args.sources.now c.args.node.now c.requires.node ns nodes n here
          i.source w.as_str.result.now w.in-None.is path i.ensures.chain i.ensures.offsets i.ensures.module i.ensures.path i.ensures.folder)
      | in-Some+in_ok-source-in-Some w ↦
          let i = w.in_ok-source-in-Some in
          let h = came_over c.requires.scan.0 c.args.scan.now c.requires.scan.1 c.args.nodes.now c.requires.nodes c.args.sources.now c.args.node.now c.requires.node ns nodes n here (c.requires.sources ns nodes) w.in-Some.origin w.in-Some.is in
          let s : w.index-step.result.now ≡ h.step = step_is h w.index-nodes-origin.result w.index-in-Some.result.now w.index-in-Some.ensures w.index-step.result.now w.index-step.ensures in
          let b : w.index-sources-origin.result ≡ h.before = element_is c.args.sources.now w.in-Some.origin.parent w.index-sources-origin.result h.before w.index-sources-origin.is h.before_at in
          subst (λ (x : Source). CameInWorlds c.args.scan.now n (record x { file_depth = c.args.node.now.depth })) (sym w.source-is)
          (came_by c.requires.scan.0 c.args.scan.now c.requires.scan.1 c.args.nodes.now c.requires.nodes c.args.sources.now c.args.node.now c.requires.node ns nodes n here
          w.in-Some.origin h w.index-sources-origin.result i.source w.index-step.result.now b s i.ensures.next)
    ]
