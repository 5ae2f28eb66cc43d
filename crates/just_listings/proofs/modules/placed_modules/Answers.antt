use Rattle.std.proofs.Common.{◌≡◌, ◌∙◌, List, Bor, ap, map, refl, subst, sym, true, false, rules}
use Rattle.std.specs.List.{All}
use Rattle.just_justfile.specs.declared.justfile.Justfile.{Justfile}
use Rattle.just_listings.specs.loops.Order.{item_behind}
use Rattle.just_listings.specs.Public.{is_public_module, module_place}
use Rattle.just_listings.specs.declared.order.Placed.{Placed}
use Rattle.just_listings.proofs.Listed.{all_passed, all_pushed, more_kept, more_left}
use Rattle.just_listings.proofs.modules.placed_modules.Goals as goal
use Rattle.just_listings.proofs.modules.placed_modules.Goals.{then-not-inner+in_ok-push, else-not-inner}

pub loop-inner-preserved : goal.loop-inner-preserved
loop-inner-preserved c = record {
  public = elim c.if-not-inner.branch [
    | then-not-inner+in_ok-push w ↦
        let same : c.if-not-inner.placed.items ≡ w.push.new.self.items = cc in
        let passes : is_public_module c.inner-item.result ≡ true = search rules in
        ap (map item_behind) same
        ∙ more_kept item_behind is_public_module c.args.modules.now c.loop-inner.inner-index c.inner-item.result c.loop-inner.placed.items w.push.new.self.items _ c.loop-inner-test.true c.inner-item.is passes refl w.in_ok-push.ensures.items
        c.loop-inner.invariant.public
    | else-not-inner w ↦
        let same : c.if-not-inner.placed.items ≡ c.loop-inner.placed.items = cc in
        let fails : is_public_module c.inner-item.result ≡ false = search rules in
        ap (map item_behind) same ∙ more_left item_behind is_public_module c.args.modules.now c.loop-inner.inner-index c.inner-item.result c.loop-inner.placed.items c.loop-inner-test.true c.inner-item.is fails c.loop-inner.invariant.public
  ];
  places = elim c.if-not-inner.branch [
    | then-not-inner+in_ok-push w ↦
        let same : c.if-not-inner.placed.items ≡ w.push.new.self.items = cc in
        all_pushed (λ (it : Placed (Bor Justfile)). it.place ≡ module_place it.item.now) c.loop-inner.placed.items c.if-not-inner.placed.items _ (same ∙ w.in_ok-push.ensures.items) c.loop-inner.invariant.places w.place_of_module.ensures
    | else-not-inner w ↦
        let same : c.if-not-inner.placed.items ≡ c.loop-inner.placed.items = cc in
        subst (λ (ps : List (Placed (Bor Justfile))). All (λ (it : Placed (Bor Justfile)). it.place ≡ module_place it.item.now) ps) (sym same) c.loop-inner.invariant.places
  ];
}

pub returns-clause-public : goal.returns-clause-public
returns-clause-public c = all_passed is_public_module c.args.modules.now c.loop-inner.inner-index _ c.loop-inner-test.false c.loop-inner.invariant.public
