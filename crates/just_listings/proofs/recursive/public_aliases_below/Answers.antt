use Rattle.std.proofs.Common.{◌≡◌, ◌≤◌, ◌∙◌, List, [], ◌∷◌, flat_map, length, ap, subst}
use Rattle.std.proofs.lemmas.List.{take_all}
use Rattle.std.specs.Borrow.{Bor}
use Rattle.just_justfile.specs.declared.justfile.Justfile.{Justfile}
use Rattle.just_listings.specs.Order.{referents}
use Rattle.just_listings.specs.Preorder.{AreInPreorder}
use Rattle.just_listings.specs.Public.{aliases_shown}
use Rattle.just_listings.specs.declared.walk.Choice.{Choice}
use Rattle.just_listings.proofs.recursive.public_aliases_below.Goals as goal

pub returns : goal.returns
returns c =
    let items = c.in_ok-modules.modules.items in
    let through : length items ≤ c.loop-at.at = subst (λ n. n ≤ c.loop-at.at) (c.len-at-end.ensures ∙ c.in_ok-modules.modules.ok.0) c.loop-at-test.false in
    let walked : AreInPreorder c.public_choice.result (c.args.root.now ∷ []) (referents items) = c.in_ok-modules.ensures in
    record {
      modules = referents items;
      walked = subst (λ (w : Choice). AreInPreorder w (c.args.root.now ∷ []) (referents items)) c.public_choice.ensures walked;
      joined = c.loop-at.invariant ∙ ap (λ (ms : List (Bor Justfile)). flat_map aliases_shown (referents ms)) (take_all c.loop-at.at items through);
    }
