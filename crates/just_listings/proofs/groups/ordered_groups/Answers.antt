use Rattle.std.proofs.Common.{◌≡◌, List, refl, sym, subst, rules}
use Rattle.std.specs.Cmp.Lexicographic.{slice_cmp}
use Rattle.std.specs.Ordering.{is_lt, nat_cmp}
use Rattle.std.proofs.lemmas.Cmp.{nat_list_cmp_total}
use Rattle.std.proofs.lemmas.List.MinMax.{ranks_by}
use Rattle.std.proofs.lemmas.List.Sorted.{answers_always}
use Rattle.just_names.specs.Texts.{Text}
use Rattle.just_listings.specs.Groups.{group_order, itself}
use Rattle.just_listings.specs.Order.{IsByKey, placed_item}
use Rattle.just_listings.specs.declared.order.Placed.{Placed}
use Rattle.just_listings.proofs.Grouping.{by_place, by_text, group_total}
use Rattle.just_listings.proofs.Ordering.{sorted_by_key}
use Rattle.just_listings.proofs.groups.ordered_groups.Goals as goal
use Rattle.just_listings.proofs.groups.ordered_groups.Goals.{then-unsorted+in_ok-sort_by, else-unsorted+in_ok-sort_by-2}

pub returns : goal.returns
returns c =
    elim c.if-unsorted.branch [
      | then-unsorted+in_ok-sort_by w ↦
          let before = λ (a b : Placed Text). is_lt (group_order a b) in
          let strict = ranks_by group_total itself in
          let rising = w.in_ok-sort_by.ensures.sorted before strict (answers_always _ _ _ (λ f a r h called. search rules)) in
          let stable = w.sort_by.ensures.stable before strict (answers_always _ _ _ (λ f a r h called. search rules)) in
          let by = sorted_by_key group_order itself group_total (λ p k. k) (λ p k. refl) c.args.groups.items w.sort_by.new.self.items w.sort_by.ensures.permutation rising stable in
          let same : c.if-unsorted.groups.items ≡ w.sort_by.new.self.items = cc in
          by_place c.args.unsorted c.args.groups.items c.if-unsorted.groups.items w.if-unsorted.true (subst (λ (ys : List (Placed Text)). IsByKey itself group_order c.args.groups.items ys) (sym same) by)
      | else-unsorted+in_ok-sort_by-2 w ↦
          let before = λ (a b : Placed Text). is_lt (slice_cmp nat_cmp a.item b.item) in
          let strict = ranks_by nat_list_cmp_total (placed_item {T = Text}) in
          let rising = w.in_ok-sort_by-2.ensures.sorted before strict (answers_always _ _ _ (λ f a r h called. search rules)) in
          let stable = w.sort_by-else-unsorted.ensures.stable before strict (answers_always _ _ _ (λ f a r h called. search rules)) in
          let make = λ (p : Placed Text) (text : Text). record p { item = text } in
          let by = sorted_by_key (slice_cmp nat_cmp) (placed_item {T = Text}) nat_list_cmp_total make (λ p k. refl) c.args.groups.items w.sort_by-else-unsorted.new.self.items w.sort_by-else-unsorted.ensures.permutation rising stable in
          let same : c.if-unsorted.groups.items ≡ w.sort_by-else-unsorted.new.self.items = cc in
          by_text c.args.unsorted c.args.groups.items c.if-unsorted.groups.items w.if-unsorted.false (subst (λ (ys : List (Placed Text)). IsByKey placed_item (slice_cmp nat_cmp) c.args.groups.items ys) (sym same) by)
    ]
