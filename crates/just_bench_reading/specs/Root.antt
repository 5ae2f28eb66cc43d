-- The source of a text that is read as the root.
use Rattle.std.specs.Prelude.{◌≡◌, [], ◌∷◌, None, codes}
use Rattle.just_source.specs.declared.source.Source.{Source}

-- the root, `/justfile`, which works in the folder `/`
pub record IsRootSource (source : Source) : Type 0 where
  pub depth : source.file_depth ≡ 0
  pub chain : source.file_path ≡ codes "/justfile" ∷ []
  pub offsets : source.import_offsets ≡ []
  pub namepath : source.namepath ≡ None
  pub path : source.path ≡ codes "/justfile"
  pub folder : source.working_directory ≡ codes "/"
