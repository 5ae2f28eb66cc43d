use Rattle.std.proofs.Common.{◌≡◌, ◌<◌, ◌∙◌, [], length, get_or, subst, sym, ap, inl, inr, arith}
use Rattle.std.specs.List.{Contains}
use Rattle.std.proofs.lemmas.Bool.{cases_lt}
use Rattle.std.proofs.lemmas.Grind.{common_steps}
use Rattle.just_graph.specs.Building.{targets_past}
use Rattle.just_graph.specs.Graph.{targets}
use Rattle.just_graph.proofs.Targets.{row_inside}
use Rattle.just_module_headers.specs.Joined.{IsJoined}
use Rattle.just_module_headers.proofs.Joining.{in_row, none_are_joined, row_read}
use Rattle.just_module_headers.proofs.join.join_modules.Goals as goal

pub join-requires-clause-joined : goal.join-requires-clause-joined
join-requires-clause-joined c =
    none_are_joined c.args.rows.now (length c.args.rows.now.imports.items) c.len.result c.in_ok-joined.joined (grind (arith, common_steps)) c.in_ok-joined.ensures.files c.in_ok-joined.ensures.modules

pub join_each-requires-clause-places : goal.join_each-requires-clause-places
join_each-requires-clause-places c =
    let rows = c.args.rows.now.modules.items in
    let inside : c.loop-row.row-index < length rows = omega (arith, c.deref-row-items.ensures.len) in
    let read : targets rows c.loop-row.row-index ≡ c.row-item.result.items = row_read rows c.loop-row.row-index c.row-item.result inside (c.row-item.is ∙ ap (λ rs. get_or rs c.loop-row.row-index c.row-item.result) c.deref-row-items.ensures.value) in
    row_inside rows c.loop-row.row-index (length c.args.rows.now.imports.items) c.as_slice.result.now c.requires.graphs.module_graph inside (c.as_slice.ensures.value ∙ sym read) (sym c.requires.graphs.modules)

pub loop-row-init : goal.loop-row-init
loop-row-init c = record { joined = c.in_ok-join.ensures.joined; root = c.in_ok-join.ensures.here; modules = λ a b h. absurd (omega arith) }

pub loop-row-preserved : goal.loop-row-preserved
loop-row-preserved c =
    let rows = c.args.rows.now.modules.items in
    let inside : c.loop-row.row-index < length rows = omega (arith, c.deref-row-items.ensures.len) in
    let read : targets rows c.loop-row.row-index ≡ c.row-item.result.items = row_read rows c.loop-row.row-index c.row-item.result inside (c.row-item.is ∙ ap (λ rs. get_or rs c.loop-row.row-index c.row-item.result) c.deref-row-items.ensures.value) in
    record {
      joined = c.in_ok-join_each.ensures.joined;
      root = c.in_ok-join_each.ensures.stays _ c.loop-row.invariant.root;
      modules = λ a b h e. elim (cases_lt a c.loop-row.row-index) [
        | inl l ↦ c.in_ok-join_each.ensures.stays _ (c.loop-row.invariant.modules a b l e)
        | inr l ↦
            let same : a ≡ c.loop-row.row-index = omega arith in
            in_row (IsJoined c.args.rows.now c.join_each.new.joined) c.as_slice.result.now b c.in_ok-join_each.ensures.each (subst (λ xs. Contains xs b) (ap (targets rows) same ∙ read ∙ sym c.as_slice.ensures.value) e)
      ];
    }

pub returns-clause-modules : goal.returns-clause-modules
returns-clause-modules c = λ a b e. elim (cases_lt a c.loop-row.row-index) [
  | inl l ↦ c.loop-row.invariant.modules a b l e
  | inr l ↦
      let none : targets c.args.rows.now.modules.items a ≡ [] = targets_past c.args.rows.now.modules.items a (omega (arith, l, c.deref-row-items.ensures.len)) in
      let wrong : Contains [] b = subst (λ xs. Contains xs b) none e in
      absurd (omega (arith, wrong.1))
]
