-- What private functions say beside `Places.antt`.
use Rattle.std.specs.Prelude.{◌≡◌, ℕ, List, [], Option, None, Some}
use Rattle.just_bench_bundle.specs.declared.leads.Lead.{Lead}
use Rattle.just_bench_bundle.specs.declared.leads.Lead.TheVariants as lead
use Rattle.just_bench_syntax.specs.Answers.{answers}
use Rattle.just_errors.specs.Causes.{NoHome}
use Rattle.just_errors.specs.declared.error.Error.{Error}
use Rattle.just_errors.specs.declared.error.Error.TheVariants as error
use Rattle.just_loader.specs.Links.{Link, Unlinked, To, AtFault}
use Rattle.just_loader.specs.Reached.{World, world_of, items_of_file}
use Rattle.just_loader.specs.Sources.{Files}
use Rattle.just_names.specs.Texts.{Text}
use Rattle.just_parts.specs.Items.{Item}
use Rattle.just_parts.specs.declared.layers.config.Config.{Config}
use Rattle.just_paths.specs.Clean.{IsClean}
use Rattle.just_bench_bundle.specs.Places.{LinkStandsIn}

-- one with a property is found, or there is none
abbrev pub Finds : (ℕ → Type 0) → Option ℕ → Type 0
Finds P (Some line) = P line
Finds P None = (line : ℕ) → P line → ⊥

-- the same of the items of a file, where its path is clean
abbrev pub FindsIn : World → Text → Link → Option ℕ → Type 0
FindsIn w path to (Some line) = LinkStandsIn w path to line
FindsIn w path to None = IsClean path → (line : ℕ) → LinkStandsIn w path to line → ⊥

-- the file at a path has these items, bare
abbrev pub HasItems : Files → Text → Text → Option (List Item) → Type 0
HasItems files root path items = (config : Config) → items_of_file (world_of files config (answers []) root) path ≡ items

-- what a search asks of what an item leads to
abbrev pub lead_of : Link → Lead
lead_of Unlinked = lead.Other
lead_of (To path) = lead.To path
lead_of (AtFault NoHome) = lead.Home
lead_of (AtFault _) = lead.Other

-- the error is not that memory or numbers are wanting
abbrev pub IsOfText : Error → Type 0
IsOfText error.Exhausted = ⊥
IsOfText error.Memory = ⊥
IsOfText _ = Unit {0}
