-- What a scan tells of the files that are reached.
use Rattle.std.specs.Prelude.{◌≡◌, ◌↔◌, ℕ, List, [], ◌∷◌, ◌++◌, Option, None, Some, map, length, slice_get, IfSome}
use Rattle.std.specs.List.{All, Contains}
use Rattle.std.specs.declared.vec.Vec.{Vec}
use Rattle.std.specs.declared.alloc.Global.{Global}
use Rattle.just_graph.specs.Unfolding.{LeadInside}
use Rattle.just_graph.specs.declared.unfolding.Step.{Step}
use Rattle.just_graph.specs.Unfolded.{AreDistinct}
use Rattle.just_errors.specs.Causes.{Cause}
use Rattle.just_paths.specs.Clean.{IsClean, folder_of}
use Rattle.just_ast_items.specs.Edge.{Edge, Imports, Declares, edge_of}
use Rattle.just_names.specs.declared.name.Name.{Name}
use Rattle.just_names.specs.Texts.{Text}
use Rattle.just_parts.specs.Items.{Item}
use Rattle.just_loader.specs.Links.{Link, Unlinked, To, AtFault}
use Rattle.just_loader.specs.loops.Numbering.{IsNamed, paths_found}
use Rattle.just_loader.specs.Reached.{World, IsReachedFile, items_of_file, link, relative_to_root}
use Rattle.just_loader.specs.Sources.{text_at}
use Rattle.just_loader.specs.declared.index.Found.{Found}
use Rattle.just_loader.specs.declared.index.NameNumbers.{NameNumbers}
use Rattle.just_loader.specs.declared.scan_result.Scan.{Scan}
use Rattle.just_loader.specs.declared.scan_result.ScannedFile.{ScannedFile}

-- the place of the path to which a link leads
abbrev pub IsLinkPlace : List Text → Link → Option ℕ → Type 0
IsLinkPlace paths Unlinked None = Unit {0}
IsLinkPlace paths Unlinked (Some place) = ⊥
IsLinkPlace paths (To path) None = ⊥
IsLinkPlace paths (To path) (Some place) = slice_get paths place ≡ Some path
IsLinkPlace paths (AtFault cause) place = ⊥

-- the same of each link, with the place beside it
abbrev pub ArePlacesOf : List Text → List Link → List (Option ℕ) → Type 0
ArePlacesOf paths [] [] = Unit {0}
ArePlacesOf paths [] (target ∷ targets) = ⊥
ArePlacesOf paths (link ∷ links) [] = ⊥
ArePlacesOf paths (link ∷ links) (target ∷ targets) = IsLinkPlace paths link target × ArePlacesOf paths links targets

-- The step to a place of what leads to a file: that of an import has the offset of its text, and that of a module enters the number of its name and
-- has the place of the name.
abbrev pub IsStepTo : List Name → ℕ → Option Edge → List Step → Type 0
IsStepTo names place (Some (Imports literal optional)) steps = steps ≡ record { target = place; offset = literal.token.offset; enters = None; tag = 0 } ∷ []
IsStepTo names place (Some (Declares name literal optional)) steps =
    (number tag : ℕ) × IsNamed names number tag name × (steps ≡ record { target = place; offset = 0; enters = Some number; tag = tag } ∷ [])
IsStepTo names place None steps = steps ≡ []

-- what a step enters is the number of the name at its tag
abbrev pub EntersName : List Name → Step → Type 0
EntersName names s = IfSome s.enters (λ number. (name : Name) × IsNamed names number s.tag name)

-- no step where there is no place
abbrev pub IsStepOf : List Name → Item → Option ℕ → List Step → Type 0
IsStepOf names i None steps = steps ≡ []
IsStepOf names i (Some place) steps = IsStepTo names place (edge_of i) steps

-- a row with the steps of an item behind it
abbrev pub HasAlsoSteps : List Name → Item → Option ℕ → List Step → List Step → Type 0
HasAlsoSteps names i target old new = (steps : List Step) × IsStepOf names i target steps × (new ≡ old ++ steps)

-- the steps of items to the places beside them, in order
abbrev pub AreSteps : List Name → List Item → List (Option ℕ) → List Step → Type 0
AreSteps names [] [] row = row ≡ []
AreSteps names [] (target ∷ targets) row = ⊥
AreSteps names (i ∷ is) [] row = ⊥
AreSteps names (i ∷ is) (target ∷ targets) row = (first rest : List Step) × IsStepOf names i target first × AreSteps names is targets rest × (row ≡ first ++ rest)

-- The file is as its path tells, and its targets and its steps are those of its items.
pub record IsScanned (w : World) (paths : List Text) (names : List Name) (file : ScannedFile) (row : List Step) : Type 0 where
  pub text : text_at w.files file.path ≡ Some file.text
  pub relative : file.relative ≡ relative_to_root w file.path
  pub items : List Item
  pub parsed : items_of_file w file.path ≡ Some items
  pub targets : ArePlacesOf paths (map (link w (folder_of file.path)) items) file.targets.items
  pub steps : AreSteps names items file.targets.items row

-- the paths of scanned files
abbrev pub paths_in : List ScannedFile → List Text
paths_in files = map (λ (f : ScannedFile). f.path) files

-- each file with the row at its place
abbrev pub AreScanned : World → List Text → List Name → List ScannedFile → List (Vec Step Global) → Type 0
AreScanned w paths names files rows = (k : ℕ) (file : ScannedFile) (row : Vec Step Global) → slice_get files k ≡ Some file → slice_get rows k ≡ Some row → IsScanned w paths names file row.items

-- The reached files, each once and under a clean path, the root first, each with its row, whose steps lead to rows.
pub record IsScan (w : World) (scan : Scan) : Type 0 where
  pub reached : (path : Text) → Contains (paths_in scan.files.items) path ↔ IsReachedFile w path
  pub once : AreDistinct (paths_in scan.files.items)
  pub clean : All IsClean (paths_in scan.files.items)
  pub root : slice_get (paths_in scan.files.items) 0 ≡ Some w.root
  pub count : length scan.rows.items ≡ length scan.files.items
  pub scanned : AreScanned w (paths_in scan.files.items) scan.names.items scan.files.items scan.rows.items
  pub within : LeadInside scan.rows.items

-- a list with more behind it that has a property
abbrev pub Grows : (Text → Type 0) → List Text → List Text → Type 0
Grows P old new = (more : List Text) × (new ≡ old ++ more) × ((text : Text) → Contains more text → P text)

-- a list with more behind it
abbrev pub Extends : {A : Type 0} → List A → List A → Type 0
Extends {A} old new = (more : List A) × (new ≡ old ++ more)

-- more is found, of the property
abbrev pub Finds : (Text → Type 0) → Found → Found → Type 0
Finds P old new = Grows P (paths_found old) (paths_found new)

-- what links lead to is found, and the files have places
abbrev pub FindsAll : List Link → Found → Found → Type 0
FindsAll links = Finds (λ path. Contains links (To path))

-- a link is at fault
abbrev pub HasFault : List Link → Cause → Type 0
HasFault links cause = Contains links (AtFault cause)

abbrev pub ArePlacesIn : Found → List Link → List (Option ℕ) → Type 0
ArePlacesIn found = ArePlacesOf (paths_found found)

-- the file is scanned as far as files and names are known
abbrev pub IsScannedIn : World → Found → NameNumbers → ScannedFile → List Step → Type 0
IsScannedIn w found names = IsScanned w (paths_found found) names.names.items
