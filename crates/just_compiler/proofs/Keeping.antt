-- The rules of the modules at places.
use Rattle.std.proofs.Common.{◌≡◌, ◌<◌, ℕ, List, length, get_or, slice_index, Some, refl, sym, ap, subst, ◌∙◌, arith}
use Rattle.std.specs.Map.{keys_of, lookup}
use Rattle.just_graph.specs.Graph.{HasEdge, targets}
use Rattle.just_graph.specs.Steps.{ListsStepsFirst}
use Rattle.just_parts.specs.Asts.{AstKey, same_ast_key}
use Rattle.just_errors.specs.Causes.{Cause}
use Rattle.just_parts.specs.Items.{Ast}
use Rattle.just_parts.specs.Layers.{Given, layers_at}
use Rattle.just_module_contents.specs.Contents.{Contents}
use Rattle.just_module_headers.specs.Files.{ArePlaced, AreRows}
use Rattle.just_module_contents.specs.Groups.{OfHeaders}
use Rattle.just_module_tree.specs.Groups.{BreaksModules, in_module}
use Rattle.just_module_tree.specs.Standing.{told_in}
use Rattle.just_module_headers.specs.Joined.{IsJoined}
use Rattle.just_module_tree.specs.Modules.{Heading, IsHeading, Module, a_module, contents_of, no_module}
use Rattle.just_module_headers.specs.Reading.{Reading, reading_of}
use Rattle.just_module_contents.specs.Rules.{BreaksNamings, of_named}
use Rattle.just_module_headers.specs.OfPlaces.{namings_of_place}
use Rattle.just_module_headers.specs.loops.OfPlaces.{contents_of_place}
use Rattle.just_module_headers.specs.declared.files.Files.{Files}
use Rattle.just_module_headers.specs.declared.files.Rows.{Rows}
use Rattle.just_module_headers.specs.declared.join.Joined.{Joined}
use Rattle.just_module_headers.proofs.Alike.{AreAlikeContents}
use Rattle.just_module_headers.proofs.FilePlaces.{says}
use Rattle.just_compiler.specs.loops.Steps.{path_at, path_in}
use Rattle.just_module_tree.proofs.ModulePlaces.{file_inside, module_of, tree_at}
use Rattle.just_module_tree.proofs.Ready.{aliases_are, namings_are, docs_are, functions_are, lists_are, names_are, recipes_are, sets_are, unexports_are, variables_are}

module _ (given : Given) (entries : List (AstKey × Ast)) (d : AstKey) (files : Files) (placed : ArePlaced entries files) (rows : Rows) (are : AreRows given.syntax.enabled files rows)
    (paths : (k : AstKey) (a : Ast) → lookup (same_ast_key k) entries ≡ Some a → a.module_path ≡ k.0) (joined : Joined)
    (order : List ℕ) (below : (k : ℕ) → k < length order → slice_index order k < length (keys_of entries)) (joins : (k : ℕ) → k < length order → IsJoined rows joined (slice_index order k))
    (lists_first : ListsStepsFirst (HasEdge joined.modules.items) order) where
  abbrev R : Reading
  R = reading_of given.syntax.enabled (λ k. lookup (same_ast_key k) entries)

  abbrev key_at : ℕ → AstKey
  key_at p = get_or (keys_of entries) p d

  abbrev the_module : (k : ℕ) → k < length order → Heading → Module
  the_module = module_of given.syntax.enabled entries d files placed rows are paths joined order below joins lists_first

  abbrev here : ℕ → Contents
  here k = contents_of_place given.syntax.enabled files joined (slice_index order k)

  -- what files at places say of a module
  pub alike_at : (k : ℕ) (l : k < length order) (h : Heading) → AreAlikeContents (here k) (contents_of (the_module k l h))
  alike_at k l h =
      let row = targets joined.files.items (slice_index order k) in
      let in_files = file_inside given.syntax.enabled entries d files placed rows are paths joined (slice_index order k) (below k l) (joins k l) in
      record {
        functions = functions_are given.syntax.enabled entries d files placed rows are paths joined row in_files;
        variables = variables_are given.syntax.enabled entries d files placed rows are paths joined row in_files;
        lists = lists_are given.syntax.enabled entries d files placed rows are paths joined row in_files;
        recipes = recipes_are given.syntax.enabled entries d files placed rows are paths joined row in_files;
        docs = docs_are given.syntax.enabled entries d files placed rows are paths joined row in_files;
        aliases = aliases_are given.syntax.enabled entries d files placed rows are paths joined row in_files;
        named = namings_are given.syntax.enabled entries d files placed rows are paths joined row in_files;
        modules = names_are given.syntax.enabled entries d files placed rows are paths joined row in_files;
        unexports = unexports_are given.syntax.enabled entries d files placed rows are paths joined row in_files;
        sets = sets_are given.syntax.enabled entries d files placed rows are paths joined row in_files;
      }

  -- the path of the module at a place
  pub path_same : (k : ℕ) → k < length order → path_at files (slice_index order k) ≡ (key_at (slice_index order k)).0
  path_same k l =
      let s = says given.syntax.enabled entries d files placed rows are paths (slice_index order k) (below k l) in
      ap path_in s.listed ∙ paths (key_at (slice_index order k)) s.ast s.said

  -- what the layers answer there
  pub layers_there : (k : ℕ) (l : k < length order) (h : Heading) → h.key ≡ key_at (slice_index order k) → layers_at given (path_at files (slice_index order k)) ≡ layers_at given h.key.0
  layers_there k l h e = ap (layers_at given) (path_same k l ∙ ap (λ (x : AstKey). x.0) (sym e))

  -- two modules of one name are named
  pub names_repeated : (root : Heading) (k : ℕ) (l : k < length order) (h : Heading) → h.key ≡ key_at (slice_index order k) → IsHeading R root h → (c : Cause) → BreaksNamings (namings_of_place given.syntax.enabled files joined (slice_index order k)) c → BreaksModules told_in given R root c
  names_repeated root k l h e reached c b =
      let t = tree_at given.syntax.enabled entries d files placed rows are paths joined order below joins lists_first (λ f hs row. Unit {0}) tt (λ k l h inside after hs row e a b. tt) k l h e in
      in_module OfHeaders reached (a_module t.is t.are_modules no_module) (record { earlier = λ f lt. absurd (omega (arith, lt)); below = λ ne. absurd (ne refl) })
      (of_named (subst (λ ns. BreaksNamings ns c) (alike_at k l h).named b))
