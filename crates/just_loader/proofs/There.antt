-- What an item leads to is there.
use Rattle.std.proofs.Common.{◌≡◌, ℕ, Bool, true, false, List, [], ◌∷◌, ◌++◌, get_or, Option, None, Some, IsSome, refl, subst}
use Rattle.std.specs.Prelude.{if◌then◌else◌, is_some, codes}
use Rattle.std.specs.List.{All}
use Rattle.std.specs.Map.{keys_of}
use Rattle.std.proofs.lemmas.Cmp.{nat_list_eq_equiv}
use Rattle.std.proofs.lemmas.List.Elements.{All-nil, All-cons, All-head, All-append, All-filter, Contains-get_or}
use Rattle.std.proofs.lemmas.Map.Views.{IsSome-lookup_from_Contains}
use Rattle.just_parts.specs.Bare.{bare_item}
use Rattle.just_table.specs.Entries.{find}
use Rattle.just_paths.specs.Join.{clean_join}
use Rattle.just_names.specs.Name.{text_of_name}
use Rattle.just_names.specs.Token.{Place}
use Rattle.just_names.specs.declared.name.Name.{Name}
use Rattle.just_parts.specs.Items.{Item}
use Rattle.just_ast_items.specs.Edge.{Edge, Imports, Declares, edge_of}
use Rattle.just_loader.specs.Links.{Link, Unlinked, To, expanded, given_path, unless, import_link, choice, module_link, edge_link, link_in}
use Rattle.just_loader.specs.ModuleFile.{candidates, file_at, files_in, is_module_file, or_else}
use Rattle.just_errors.specs.Causes.{Cause, NoImport, NoModule}
use Rattle.just_loader.specs.Sources.{Files}

module _ (files : Files) where
  abbrev pub IsThere : List ℕ → Type 0
  IsThere path = IsSome (find path files)

  file_there : (path : List ℕ) → All IsThere (file_at files path)
  file_there path = go (is_some (find path files)) refl
    where
      go : (b : Bool) → is_some (find path files) ≡ b → All IsThere (if b then path ∷ [] else [])
      go true e = All-cons IsThere path [] e (All-nil IsThere)
      go false e = All-nil IsThere

  keys_there : All IsThere (keys_of files)
  keys_there = λ k d h. IsSome-lookup_from_Contains nat_list_eq_equiv (get_or (keys_of files) k d) files (Contains-get_or (keys_of files) k d h)

  folder_there : (folder : List ℕ) → All IsThere (files_in files folder)
  folder_there folder = All-filter (is_module_file folder) IsThere (keys_of files) keys_there

  or_there : (xs ys : List (List ℕ)) → All IsThere xs → All IsThere ys → All IsThere (or_else xs ys)
  or_there [] ys a b = b
  or_there (x ∷ xs) ys a b = a

  -- the candidates of a module are there
  candidates_there : (folder name : List ℕ) (path : Option (List ℕ)) → All IsThere (candidates files folder name path)
  candidates_there folder name (Some path) = or_there (file_at files (clean_join folder path)) (files_in files (clean_join folder path)) (file_there (clean_join folder path)) (folder_there (clean_join folder path))
  candidates_there folder name None = All-append IsThere (files_in files (clean_join folder name)) (file_at files (clean_join folder (name ++ codes ".just"))) (folder_there (clean_join folder name)) (file_there (clean_join folder (name ++ codes ".just")))

  unless_not : (optional : Bool) (cause : Cause) (path : List ℕ) → unless optional cause ≡ To path → ⊥
  unless_not true cause path e = cc
  unless_not false cause path e = cc

  choice_there : (folder : List ℕ) (name : Name) (optional : Bool) (found : List (List ℕ)) (path : List ℕ) → All IsThere found → choice folder name optional found ≡ To path → IsThere path
  choice_there folder name optional [] path all e = absurd (unless_not optional (NoModule name) path e)
  choice_there folder name optional (p ∷ []) path all e = let same : p ≡ path = cc in subst IsThere same (All-head IsThere p [] all)
  choice_there folder name optional (p ∷ q ∷ more) path all e = cc

  module_there : (folder : List ℕ) (name : Name) (optional : Bool) (given_path : Option (Option (List ℕ))) (path : List ℕ) → module_link files folder name optional given_path ≡ To path → IsThere path
  module_there folder name optional None path e = cc
  module_there folder name optional (Some p) path e = choice_there folder name optional (candidates files folder (text_of_name name) p) path (candidates_there folder (text_of_name name) p) e

  import_there : (folder : List ℕ) (token : Place) (optional : Bool) (text : Option (List ℕ)) (path : List ℕ) → import_link files folder token optional text ≡ To path → IsThere path
  import_there folder token optional None path e = cc
  import_there folder token optional (Some text) path e = go (is_some (find (clean_join folder text) files)) refl e
    where
      go : (b : Bool) → is_some (find (clean_join folder text) files) ≡ b → (if b then To (clean_join folder text) else unless optional (NoImport token)) ≡ To path → IsThere path
      go true q e = let same : clean_join folder text ≡ path = cc in subst IsThere same q
      go false q e = absurd (unless_not optional (NoImport token) path e)

  edge_there : (home : Option (List ℕ)) (folder : List ℕ) (e : Option Edge) (path : List ℕ) → edge_link files home folder e ≡ To path → IsThere path
  edge_there home folder (Some (Imports literal optional)) path e = import_there folder literal.token optional (expanded home literal.cooked) path e
  edge_there home folder (Some (Declares name literal optional)) path e = module_there folder name optional (given_path home literal) path e
  edge_there home folder None path e = cc

  if_there : (b : Bool) (link : Link) (path : List ℕ) → (link ≡ To path → IsThere path) → (if b then link else Unlinked) ≡ To path → IsThere path
  if_there true link path f e = f e
  if_there false link path f e = cc

  -- what an item leads to is a key
  pub link_there : (home : Option (List ℕ)) (enabled : Item → Bool) (folder : List ℕ) (i : Item) (path : List ℕ) → link_in files home enabled folder i ≡ To path → IsThere path
  link_there home enabled folder i path e = if_there (enabled (bare_item i)) (edge_link files home folder (edge_of i)) path (edge_there home folder (edge_of i) path) e
