-- What the text of a scanned file says when it is parsed again.
use Rattle.std.proofs.Common.{◌≡◌, ℕ, ◌+◌, ◌<◌, ◌^◌, List, map, length, get_or, None, Some, Result, Ok, Err, IfErr, refl, sym, ap, subst, ◌∙◌, arith}
use Rattle.std.specs.List.{All, slice_get}
use Rattle.std.specs.Option.{option_and_then, option_map, unwrap_or}
use Rattle.std.specs.declared.vec.Vec.{Vec}
use Rattle.std.specs.declared.alloc.Global.{Global}
use Rattle.std.proofs.lemmas.List.Elements.{All-map, All-weaker}
use Rattle.std.proofs.lemmas.Option.{slice_get_read}
use Rattle.just_graph.specs.declared.unfolding.Step.{Step}
use Rattle.just_parts.specs.Bare.{bare_ast, bare_item}
use Rattle.just_paths.specs.Clean.{folder_of}
use Rattle.just_parts.specs.Syntax.{AttributesNameParameters, SyntaxAnswers, PriorsAreDependencies, Refuses}
use Rattle.just_parts.specs.Items.{Ast, Item}
use Rattle.just_errors.specs.declared.error.Error.{Error}
use Rattle.just_errors.specs.declared.error.Error.TheVariants as error
use Rattle.just_parts.proofs.Edges.{same_attributes, same_priors}
use Rattle.just_loader.specs.Keys.{spends_at}
use Rattle.just_loader.specs.Loaded.{path_of_link, with_path}
use Rattle.just_loader.specs.loops.Placed.{scanned_path}
use Rattle.just_loader.specs.loops.Loading.{IsScanBy, StopsAt}
use Rattle.just_loader.specs.Reached.{World, ast_of, items_said, link, relative_to_root}
use Rattle.just_loader.specs.loops.Scanned.{ArePlacesOf, IsScanned, paths_in}
use Rattle.just_loader.specs.declared.scan_result.Scan.{Scan}
use Rattle.just_loader.specs.declared.scan_result.ScannedFile.{ScannedFile}
use Rattle.just_loader.proofs.ComingIn.{path_is}
use Rattle.just_loader.proofs.Numberings.{read_at, some_same}
use Rattle.just_loader.proofs.Scans.{links_bare}

-- what items run before is no more with their paths
pub priors_kept : (w : World) (folder : List ℕ) (items : List Item) → All PriorsAreDependencies items → All PriorsAreDependencies (map (with_path w folder) items)
priors_kept w folder items all =
    All-map PriorsAreDependencies (with_path w folder) items (All-weaker PriorsAreDependencies (λ x. PriorsAreDependencies (with_path w folder x)) (λ x p. same_priors (path_of_link (link w folder x)) x p) items all)

-- nor are its attributes others
pub attributes_kept : (w : World) (folder : List ℕ) (items : List Item) → All AttributesNameParameters items → All AttributesNameParameters (map (with_path w folder) items)
attributes_kept w folder items all =
    All-map AttributesNameParameters (with_path w folder) items (All-weaker AttributesNameParameters (λ x. AttributesNameParameters (with_path w folder x)) (λ x p. same_attributes (path_of_link (link w folder x)) x p) items all)

module _ (w : World) (scan : Scan) (answers : SyntaxAnswers) (by : IsScanBy w scan answers) (place : ℕ) (file : ScannedFile) (inside : place < length scan.files.items) (is : file ≡ get_or scan.files.items place file) where
  row : (row : Vec Step Global) × (slice_get scan.rows.items place ≡ Some row)
  row = read_at scan.rows.items place (omega (arith, inside, by.is_scan.count))

  scanned : IsScanned w (paths_in scan.files.items) scan.names.items file row.0.items
  scanned = by.is_scan.scanned place file row.0 (slice_get_read scan.files.items (length scan.files.items) place file refl inside is) row.1

  pub path : file.path ≡ scanned_path scan place
  path = path_is scan place file inside is

  module _ (relative text : List ℕ) (r : relative ≡ file.relative) (t : text ≡ file.text) where
    says : ast_of w file.path ≡ answers.parsed relative text
    says = ap (option_and_then (w.answers.parsed (relative_to_root w file.path))) scanned.text ∙ ap (λ x. w.answers.parsed x file.text) (sym scanned.relative) ∙ ap (λ (a : SyntaxAnswers). a.parsed file.relative file.text) by.same
        ∙ ap (λ x. answers.parsed x file.text) (sym r) ∙ ap (answers.parsed relative) (sym t)

    takes : spends_at w file.path ≡ answers.spends relative text
    takes = ap (λ o. unwrap_or (option_map (w.answers.spends (relative_to_root w file.path)) o) 0) scanned.text ∙ ap (λ x. w.answers.spends x file.text) (sym scanned.relative) ∙ ap (λ (a : SyntaxAnswers). a.spends file.relative file.text) by.same
        ∙ ap (λ x. answers.spends x file.text) (sym r) ∙ ap (answers.spends relative) (sym t)

    pub spent_at : answers.spends relative text ≡ spends_at w (scanned_path scan place)
    spent_at = sym takes ∙ ap (spends_at w) path

    -- it is not refused again
    pub stops_at : (given : ℕ) (e : Error) → Refuses answers relative text given e → StopsAt given (spends_at w (scanned_path scan place)) e
    stops_at given (error.Load e) h = h
    stops_at given (error.Compile e) h = let both : Some scanned.items ≡ None = sym scanned.parsed ∙ ap items_said (says ∙ h.says_nothing) in cc
    stops_at given (error.Invocation e) h = h
    stops_at given (error.Run e) h = h
    stops_at given error.Exhausted h = subst (λ n. 2 ^ 64 < given + n) spent_at h
    stops_at given error.Memory h = tt

    module _ (ast : Ast) (p : answers.parsed relative text ≡ Some (bare_ast ast)) where
      pub places : ArePlacesOf (paths_in scan.files.items) (map (link w (folder_of (scanned_path scan place))) ast.items) file.targets.items
      places =
          let same : scanned.items ≡ map bare_item ast.items = some_same (sym scanned.parsed ∙ ap items_said (says ∙ p)) in
          let bare = links_bare w.files w.home w.answers.enabled (folder_of file.path) ast.items in
          subst (λ f. ArePlacesOf (paths_in scan.files.items) (map (link w (folder_of f)) ast.items) file.targets.items) path
          (subst (λ ls. ArePlacesOf (paths_in scan.files.items) ls file.targets.items) (ap (map (link w (folder_of file.path))) same ∙ bare) scanned.targets)

      pub said : ast_of w (scanned_path scan place) ≡ Some (bare_ast ast)
      said = ap (ast_of w) (sym path) ∙ says ∙ p

pub stopped_err : {A : Type 0} (r : Result A Error) (answers : SyntaxAnswers) (relative text : List ℕ) (given : ℕ) (P : Error → Type 0) → IfErr r (Refuses answers relative text given) → ((e : Error) → Refuses answers relative text given e → P e) → IfErr r P
stopped_err (Ok a) answers relative text given P h f = tt
stopped_err (Err e) answers relative text given P h f = f e h
