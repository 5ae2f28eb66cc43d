use Rattle.std.proofs.Common.{rules, ◌≡◌, ◌<◌, ◌∙◌, nat_eq, List, ℕ, ap, length, refl, sym, subst, arith}
use Rattle.std.specs.Prelude.{flat_map}
use Rattle.std.proofs.lemmas.Grind.{common_steps}
use Rattle.std.specs.declared.vec.Vec.{Vec}
use Rattle.std.specs.declared.alloc.Global.{Global}
use Rattle.just_graph.specs.Graph.{IsGraph, targets}
use Rattle.just_graph.specs.Levels.{AreLevels}
use Rattle.just_module_headers.proofs.Joining.{all_below, all_joined, joined_here, joined_unless, row_read, stays_joined}
use Rattle.just_module_headers.proofs.join.join.Goals as goal

pub returns-then-not-is_empty-clause-here : goal.returns-then-not-is_empty-clause-here
returns-then-not-is_empty-clause-here c =
    let inside : c.args.place < length c.args.joined.now.files.items = omega (arith, c.requires.place, c.requires.joined.files) in
    joined_unless c.args.rows.now (length c.args.rows.now.imports.items) c.args.joined.now c.args.place c.requires.joined (λ none.
    let read : targets c.args.joined.now.files.items c.args.place ≡ c.index.result.now.items = row_read c.args.joined.now.files.items c.args.place c.index.result.now inside (search rules) in
    let empty : length c.index.result.now.items ≡ 0 = ap length (sym read ∙ none) in
    grind (arith, common_steps))

pub levels-requires-clause-graph : goal.levels-requires-clause-graph
levels-requires-clause-graph c = subst IsGraph (sym c.as_slice.ensures.value) c.requires.graphs.import_graph

pub rows_after-requires : goal.rows_after-requires
rows_after-requires c =
    let read = c.as_slice.ensures.value in
    all_below c.as_slice.result.now c.args.place (length c.as_slice-2.result.now) c.in_ok-files.files.items c.as_slice-3.result.now
    (subst IsGraph (sym read) c.requires.graphs.import_graph) (subst (λ (g : List (Vec ℕ Global)). c.args.place < length g) (sym read) c.requires.place)
    (ap length read ∙ sym c.requires.graphs.modules ∙ ap length (sym c.as_slice-2.ensures.value)) c.in_ok-files.ensures.reached c.as_slice-3.ensures.value

pub returns-clause-joined : goal.returns-clause-joined
returns-clause-joined c =
    all_joined c.args.rows.now (length c.args.rows.now.imports.items) c.args.joined.now _ c.args.place c.in_ok-files.files c.in_ok-joined.field-0 c.requires.place c.requires.joined
    (subst (λ (g : List (Vec ℕ Global)). AreLevels nat_eq (targets g) c.args.place c.in_ok-files.files.items) c.as_slice.ensures.value c.in_ok-files.ensures.levels)
    (c.in_ok-joined.ensures ∙ (λ i. flat_map (targets (c.as_slice-2.ensures.value i)) (c.as_slice-3.ensures.value i))) refl refl

pub returns-clause-here : goal.returns-clause-here
returns-clause-here c =
    joined_here c.args.rows.now (length c.args.rows.now.imports.items) c.args.joined.now _ c.args.place c.in_ok-files.files c.in_ok-joined.field-0 c.requires.place c.requires.joined
    (subst (λ (g : List (Vec ℕ Global)). AreLevels nat_eq (targets g) c.args.place c.in_ok-files.files.items) c.as_slice.ensures.value c.in_ok-files.ensures.levels)
    (c.in_ok-joined.ensures ∙ (λ i. flat_map (targets (c.as_slice-2.ensures.value i)) (c.as_slice-3.ensures.value i))) refl refl

pub returns-clause-stays : goal.returns-clause-stays
returns-clause-stays c =
    stays_joined c.args.rows.now (length c.args.rows.now.imports.items) c.args.joined.now _ c.args.place c.in_ok-files.files c.in_ok-joined.field-0 c.requires.place c.requires.joined
    (subst (λ (g : List (Vec ℕ Global)). AreLevels nat_eq (targets g) c.args.place c.in_ok-files.files.items) c.as_slice.ensures.value c.in_ok-files.ensures.levels)
    (c.in_ok-joined.ensures ∙ (λ i. flat_map (targets (c.as_slice-2.ensures.value i)) (c.as_slice-3.ensures.value i))) refl refl
