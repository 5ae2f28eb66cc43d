use Rattle.std.proofs.Common.{◌≡◌, List, refl, sym, subst, rules}
use Rattle.std.specs.Ordering.{is_lt}
use Rattle.std.proofs.lemmas.List.MinMax.{ranks_by}
use Rattle.std.proofs.lemmas.List.Sorted.{answers_always}
use Rattle.just_listings.specs.Order.{IsByKey, place_order}
use Rattle.just_listings.specs.loops.Order.{placed_at}
use Rattle.just_listings.specs.declared.order.Place.{Place}
use Rattle.just_listings.specs.declared.order.Placed.{Placed}
use Rattle.just_listings.proofs.Ordering.{ordered, place_total, sorted_by_key, unordered}
use Rattle.just_listings.proofs.order.in_order.Goals as goal
use Rattle.just_listings.proofs.order.in_order.Goals.{then-unsorted+in_ok-sort_by, else-unsorted}

pub returns : goal.returns
returns g c =
    elim c.if-unsorted.branch [
      | then-unsorted+in_ok-sort_by w ↦
          let before = λ (a b : Placed g.row.T.Denot). is_lt (place_order a.place b.place) in
          let strict = ranks_by place_total (placed_at {T = g.row.T.Denot}) in
          let rising = w.in_ok-sort_by.ensures.sorted before strict (answers_always _ _ _ (λ f a r h called. search rules)) in
          let stable = w.sort_by.ensures.stable before strict (answers_always _ _ _ (λ f a r h called. search rules)) in
          let make = λ (p : Placed g.row.T.Denot) (k : Place). record p { place = k } in
          let by = sorted_by_key place_order (placed_at {T = g.row.T.Denot}) place_total make (λ p k. refl) c.args.placed.items w.sort_by.new.self.items w.sort_by.ensures.permutation rising stable in
          let same : c.if-unsorted.placed.items ≡ w.sort_by.new.self.items = cc in
          ordered placed_at place_order c.args.placed.items c.if-unsorted.placed.items c.args.unsorted w.if-unsorted.true
          (subst (λ (ys : List (Placed g.row.T.Denot)). IsByKey placed_at place_order c.args.placed.items ys) (sym same) by)
      | else-unsorted w ↦
          let same : c.if-unsorted.placed.items ≡ c.args.placed.items = cc in
          unordered placed_at place_order c.args.placed.items c.if-unsorted.placed.items c.args.unsorted w.if-unsorted.false same
    ]
