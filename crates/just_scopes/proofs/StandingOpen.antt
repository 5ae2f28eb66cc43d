-- Open modules are those that stand in the root.
use Rattle.std.proofs.Common.{◌≡◌, ◌∙◌, Bool, List, map, sym, ap, subst}
use Rattle.std.specs.List.{Contains}
use Rattle.just_graph.proofs.Members.{In, contained, from_map, in_map, is_in}
use Rattle.just_justfile.specs.Closed.{StandsIn}
use Rattle.just_justfile.specs.declared.justfile.Justfile.{Justfile}
use Rattle.just_scopes.proofs.Standing.{placed-stand, standing-placed}
use Rattle.just_scopes.specs.Open.{Whose, whose_opened, whose_placed}
use Rattle.just_scopes.specs.Opening.{Opened}
use Rattle.just_scopes.specs.Preorder.{IsPreorderUnder, Placed}

module _ (above : Bool) (root : Justfile) (ps : List Placed) (order : IsPreorderUnder above root ps) (opened : List Opened) (whose : map whose_opened opened ≡ map whose_placed ps) where
  pub opened-placed : (o : Opened) → Contains opened o → (p : Placed) × In p ps × (whose_opened o ≡ whose_placed p)
  opened-placed o c = from_map whose_placed (whose_opened o) ps (subst (In (whose_opened o)) whose (in_map whose_opened o opened (is_in o opened c)))

  pub opened-stands : (o : Opened) → Contains opened o → StandsIn root o.justfile
  opened-stands o c =
      let f = opened-placed o c in
      subst (StandsIn root) (sym (ap (λ (w : Whose). w.0) f.2)) (placed-stand above root ps order f.0 f.1)

  -- each that stands in the root is open
  pub stands-opened : (j : Justfile) → StandsIn root j → (o : Opened) × Contains opened o × (o.justfile ≡ j)
  stands-opened j stands =
      let p = standing-placed above root ps order j stands in
      let i : In (whose_placed p.0) (map whose_opened opened) = subst (In (whose_placed p.0)) (sym whose) (in_map whose_placed p.0 ps p.1) in
      let f = from_map whose_opened (whose_placed p.0) opened i in
      (f.0, contained f.0 opened f.1, sym (ap (λ (w : Whose). w.0) f.2) ∙ p.2)
