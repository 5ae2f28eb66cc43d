-- Texts that are read in a scan, and taken where the first node of their file comes.
use Rattle.std.specs.Prelude.{◌≡◌, ℕ, ◌+◌, ◌≤◌, ◌^◌, false, List, [], ◌∷◌, map, Option, Some, None, set, slice_get}
use Rattle.std.specs.List.{Contains}
use Rattle.just_parts.specs.Bare.{bare_ast}
use Rattle.just_parts.specs.Syntax.{SyntaxAnswers, AreRising, IsFrom, components_of, numbers_of_items}
use Rattle.just_parts.specs.Items.{Ast, Item}
use Rattle.just_ast_items.specs.declared.item.Item.TheVariants as item
use Rattle.just_source.specs.declared.source.Source.{Source}
use Rattle.just_names.specs.Texts.{Text}
use Rattle.just_loader.specs.loops.Loading.{KeepsLaws}
use Rattle.just_loader.specs.declared.texts.ReadTexts.{ReadTexts}
use Rattle.just_loader.specs.declared.scan_result.Scan.{Scan}
use Rattle.just_loader.specs.declared.scan_result.ScannedFile.{ScannedFile}

-- an item with the depth and the offsets of another source
abbrev pub brought_in : Source → Item → Item
brought_in source (item.Recipe r) = item.Recipe (record r { file_depth = source.file_depth; import_offsets = source.import_offsets })
brought_in source (item.Assignment a) = item.Assignment (record a { file_depth = source.file_depth })
brought_in source i = i

-- What a text says, as another source tells.
pub record IsBroughtIn (source : Source) (ast made : Ast) : Type 0 where
  pub items : made.items ≡ map (brought_in source) ast.items
  pub components : made.module_path.components ≡ components_of source.namepath
  pub spaced : made.module_path.spaced ≡ false
  pub working_directory : made.working_directory ≡ source.working_directory
  pub rest : made ≡ record ast { items = made.items; module_path = made.module_path; working_directory = made.working_directory }

-- What a text under a relative path says, as the source tells.
pub record IsAstReadBy (answers : SyntaxAnswers) (relative text : Text) (source : Source) (ast : Ast) : Type 0 where
  pub said : answers.parsed relative text ≡ Some (bare_ast ast)
  pub from : IsFrom source ast
  pub laws : KeepsLaws answers ast

-- the same, as some source tells
abbrev pub IsAstRead : SyntaxAnswers → Text → Text → Ast → Type 0
IsAstRead answers relative text ast = (source : Source) × IsAstReadBy answers relative text source ast

-- The text is read, and its numbers go on from those that were given.
pub record GoesOn (answers : SyntaxAnswers) (relative text : Text) (given after : ℕ) (ast : Ast) : Type 0 where
  pub read : IsAstRead answers relative text ast
  pub rising : AreRising given (numbers_of_items ast.items) after
  pub spent : after ≡ given + answers.spends relative text

-- how many numbers the text of a file takes
abbrev pub takes_numbers : SyntaxAnswers → ScannedFile → ℕ
takes_numbers answers f = answers.spends f.relative f.text

-- how many those take together that stand beside what was read of them
abbrev pub spent_on : SyntaxAnswers → List ScannedFile → List (Option Ast) → ℕ
spent_on answers [] asts = 0
spent_on answers (f ∷ fs) [] = 0
spent_on answers (f ∷ fs) (None ∷ asts) = spent_on answers fs asts
spent_on answers (f ∷ fs) (Some ast ∷ asts) = takes_numbers answers f + spent_on answers fs asts

-- Numbers are below `high` and tell all definitions apart: those of a text rise, and no number is in two.
pub record AreApartBelow (asts : List (Option Ast)) (high : ℕ) : Type 0 where
  pub rising : (k : ℕ) (ast : Ast) → slice_get asts k ≡ Some (Some ast) → (low : ℕ) × AreRising low (numbers_of_items ast.items) high
  pub apart : (i j : ℕ) (a b : Ast) (n : ℕ) → slice_get asts i ≡ Some (Some a) → slice_get asts j ≡ Some (Some b) → Contains (numbers_of_items a.items) n → Contains (numbers_of_items b.items) n → i ≡ j

-- the same of texts of which none is taken
abbrev pub ShareNoNumbers : List Ast → Type 0
ShareNoNumbers asts = (high : ℕ) × AreApartBelow (map Some asts) high

-- what stands at a place is what the file there says
abbrev pub AreReadOf : SyntaxAnswers → List ScannedFile → List (Option Ast) → Type 0
AreReadOf answers files asts = (k : ℕ) (file : ScannedFile) (ast : Ast) → slice_get files k ≡ Some file → slice_get asts k ≡ Some (Some ast) → IsAstRead answers file.relative file.text ast

-- What was read of files, which took the numbers that were given.
pub record AreRead (answers : SyntaxAnswers) (files : List ScannedFile) (texts : ReadTexts) : Type 0 where
  pub each : AreReadOf answers files texts.asts.items
  pub apart : AreApartBelow texts.asts.items texts.numerator
  pub spent : texts.numerator ≡ spent_on answers files texts.asts.items
  pub few : texts.numerator ≤ 2 ^ 64

-- What is read of the text at a place has these numbers: it was read before and is taken, or it takes so many numbers now.
pub data TakesText (place spends : ℕ) (old new : ReadTexts) (ns : List ℕ) : Type 0 where
  was_read : (ast : Ast) → slice_get old.asts.items place ≡ Some (Some ast) → ns ≡ numbers_of_items ast.items → new.asts.items ≡ set old.asts.items place None → new.numerator ≡ old.numerator → TakesText place spends old new ns
  is_read : new.asts.items ≡ old.asts.items → AreRising old.numerator ns new.numerator → new.numerator ≡ old.numerator + spends → TakesText place spends old new ns

-- the same of the text of a scanned file
abbrev pub TakesTextOf : Scan → SyntaxAnswers → ℕ → ReadTexts → ReadTexts → List ℕ → Type 0
TakesTextOf scan answers place old new ns = (file : ScannedFile) × (slice_get scan.files.items place ≡ Some file) × TakesText place (takes_numbers answers file) old new ns
