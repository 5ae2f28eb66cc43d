-- What holds of modules that are opened lazily.
use Rattle.std.proofs.Common.{◌≡◌, ◌↔◌, ◌∙◌, ℕ, Bool, true, false, List, ◌∷◌, map, Option, Some, None, IsSome, is_some, refl, sym, ap, subst, inl, inr}
use Rattle.std.specs.List.{All, Contains}
use Rattle.std.specs.Option.{option_map_or}
use Rattle.std.proofs.lemmas.List.Elements.{All-contains}
use Rattle.just_ast_definitions.specs.declared.assignment.Assignment.{Assignment}
use Rattle.just_graph.proofs.Members.{In, contained, in_cases, is_in}
use Rattle.just_justfile.specs.Closed.{StandsIn}
use Rattle.just_justfile.specs.Running.{CanRun}
use Rattle.just_justfile.specs.declared.justfile.Justfile.{Justfile, out-Justfile}
use Rattle.just_name_resolution.proofs.Placed.{the_value}
use Rattle.just_name_resolution.proofs.Sets.{or_left}
use Rattle.just_names.specs.Texts.{Text}
use Rattle.just_names.specs.declared.number.Number.{Number}
use Rattle.just_parts.specs.Evaluator.{scope_values}
use Rattle.just_parts.specs.Needs.{onward, starts}
use Rattle.just_parts.specs.Syntax.{SyntaxAnswers}
use Rattle.just_paths.specs.contracts.modulepath.ModulepathPartialEq.TheImpl as path_eq
use Rattle.just_paths.specs.declared.modulepath.Modulepath.{Modulepath}
use Rattle.just_recipe.specs.declared.dependency.Dependency.{Dependency}
use Rattle.just_recipe.specs.declared.recipe.Recipe.{Recipe}
use Rattle.just_run_layers.specs.Evaluation.{NumberSet}
use Rattle.just_table.specs.Entries.{find}
use Rattle.just_scopes.proofs.Homes.{at-path, own-path, some-at}
use Rattle.just_scopes.proofs.Needed.{reads-some}
use Rattle.just_scopes.proofs.OwnPaths.{own_paths}
use Rattle.just_scopes.proofs.Standing.{one-order}
use Rattle.just_scopes.proofs.StandingOpen.{opened-placed, opened-stands, stands-opened}
use Rattle.just_scopes.specs.Need.{IsFound, IsNeededFrom}
use Rattle.just_scopes.specs.Open.{AreLazyModules, Whose, whose_opened, whose_placed}
use Rattle.just_scopes.specs.Opening.{Handed, Opened, opened_at}
use Rattle.just_scopes.specs.loops.Opens.{IsOpenedBy, IsSetFor, all, some, wanted_from}
use Rattle.just_scopes.specs.Preorder.{AreBelow, IsPreorderUnder, Placed, none, one, placed_under}

-- under a lazy module each is lazy
listed-lazy : {parent start : ℕ} {above : Bool} {js : List Justfile} {ps : List Placed} → AreBelow parent above start js ps → above ≡ true → (p : Placed) → In p ps → p.lazy ≡ true
listed-lazy none is p i = absurd i
listed-lazy (one {above = above} {j = j} inner after) is p (inl e) = ap (λ (q : Placed). q.lazy) e ∙ or_left above (out-Justfile j).settings.lazy is
listed-lazy (one {above = above} {j = j} {below = b} {rest = r} inner after) is p (inr i) = elim (in_cases p b r i) [
  | inl within ↦ listed-lazy inner (or_left above (out-Justfile j).settings.lazy is) p within
  | inr behind ↦ listed-lazy after is p behind
]

placed-lazy : (root : Justfile) (ps : List Placed) → IsPreorderUnder true root ps → (p : Placed) → In p ps → p.lazy ≡ true
placed-lazy root ps (below, is, rest) p i = found (subst (In p) is i)
  where
    found : In p (placed_under None true root ∷ below) → p.lazy ≡ true
    found (inl e) = ap (λ (q : Placed). q.lazy) e
    found (inr c) = listed-lazy rest refl p c

-- so it was asked for a set
found-set : {used : Number → Bool} {j : Justfile} {lazy : Bool} {set : NumberSet} → IsSetFor used j lazy set → lazy ≡ true → (s : Number → Bool) × (set ≡ Some s) × IsFound used j s
found-set (some {set = s} found) is = (s, refl, found)
found-set all is = cc

-- whatever is needed is a variable
from-some : {used : Number → Bool} {j : Justfile} (name : Text) → IsNeededFrom used j name → IsSome (find name (out-Justfile j).assignments)
from-some name (starts s) = ap is_some s.is
from-some name (onward n free reads) = reads-some reads.reads

module _ (answers : SyntaxAnswers) (root : Justfile) (recipes : List (Recipe Dependency)) (run : CanRun answers root recipes) (used : Number → Bool) (handed : Handed) where
  -- what is wanted of a module is what is needed from the numbers
  wanted-needed : (j : Justfile) (set : Number → Bool) → StandsIn root j → IsFound used j set → (name : Text) → ((wanted_from handed j (Some set)).needed name ≡ true) ↔ IsNeededFrom used j name
  wanted-needed j set stands found name = (
    (λ h. there (find name (out-Justfile j).assignments) refl h),
    (λ n. let v = the_value (find name (out-Justfile j).assignments) (from-some name n) in
        ap (λ o. option_map_or (λ (a : Assignment). set a.number) o false) v.1
        ∙ (found v.0.number).1 (record { name = name; assigned = v.0; is = v.1; number = refl; there = n })),
  )
    where
      there : (o : Option Assignment) → find name (out-Justfile j).assignments ≡ o → option_map_or (λ (a : Assignment). set a.number) o false ≡ true → IsNeededFrom used j name
      there None is h = cc
      there (Some a) is h =
          let i = (found a.number).0 h in
          subst (IsNeededFrom used j) (run.numbers j j i.name name i.assigned a stands stands i.is is i.number).1 i.there

  module _ (ps : List Placed) (order : IsPreorderUnder true root ps) (opened : List Opened) (whose : map whose_opened opened ≡ map whose_placed ps) (bound : All (IsOpenedBy used handed) opened) where
    each-lazy : (o : Opened) → Contains opened o → o.lazy ≡ true
    each-lazy o c = let f = opened-placed true root ps order opened whose o c in ap (λ (w : Whose). w.1) f.2 ∙ placed-lazy root ps order f.0 f.1

    bound-exactly : (o : Opened) → Contains opened o → (name : Text) → IsSome (scope_values o.scope name) ↔ IsNeededFrom used o.justfile name
    bound-exactly o c name =
        let b = All-contains (IsOpenedBy used handed) opened o bound c in
        let s = found-set b.is_set (each-lazy o c) in
        let same : (wanted_from handed o.justfile b.set).needed name ≡ (wanted_from handed o.justfile (Some s.0)).needed name = ap (λ set. (wanted_from handed o.justfile set).needed name) s.1 in
        let w = wanted-needed o.justfile s.0 (opened-stands true root ps order opened whose o c) s.2 name in
        ((λ i. w.0 (sym same ∙ sym (b.binds.exactly name) ∙ i)), (λ n. b.binds.exactly name ∙ same ∙ w.1 n))

    found-own : (j : Justfile) → StandsIn root j → (o : Opened) × (opened_at (out-Justfile j).module_path opened ≡ Some o) × (o.justfile ≡ j)
    found-own j stands =
        let path : Modulepath = (out-Justfile j).module_path in
        let first = stands-opened true root ps order opened whose j stands in
        let same : path_eq.ghosts.eq (out-Justfile first.0.justfile).module_path path ≡ true = ap (λ i. path_eq.ghosts.eq (out-Justfile i).module_path path) first.2 ∙ own-path path in
        let o = the_value (opened_at path opened) (some-at path opened first.0 (is_in first.0 opened first.1) same) in
        let there = at-path path opened o.0 o.1 in
        let own : StandsIn root o.0.justfile = opened-stands true root ps order opened whose o.0 (contained o.0 opened there.0) in
        (o.0, o.1, own_paths recipes root o.0.justfile j run.rooted.closed own stands there.1)

    pub are-lazy : AreLazyModules root used opened
    are-lazy = record {
      modules = λ qs other. whose ∙ ap (map whose_placed) (one-order true root ps qs order other);
      lazy = each-lazy;
      exactly = bound-exactly;
      found = found-own;
    }
