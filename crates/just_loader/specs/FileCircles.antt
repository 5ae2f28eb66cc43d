-- Files that lead back to themselves.
use Rattle.std.specs.Prelude.{List, [], ◌∷◌, ◌++◌}
use Rattle.std.specs.List.{Contains}
use Rattle.just_names.specs.Texts.{Text}
use Rattle.just_loader.specs.Reached.{World, FileLeadsTo, IsReachedFile}
use Rattle.just_errors.specs.Causes.{Cause, LeadsBack}

-- files from the root to f, none twice, each of which leads to the next
pub data ChainTo (w : World) : List Text → Text → Type 0 where
  at_root : ChainTo w (w.root ∷ []) w.root
  and_next : {files : List Text} {f g : Text} → ChainTo w files f → FileLeadsTo w f g → (Contains files g → ⊥) → ChainTo w (files ++ g ∷ []) g

-- A reached file leads to one that stands in a chain to it.
pub data BreaksCircle (w : World) : Cause → Type 0 where
  leads_back : {current next : Text} (files : List Text) → IsReachedFile w current → FileLeadsTo w current next → ChainTo w files current → Contains files next → BreaksCircle w (LeadsBack current next)
