-- Many files in one text.
use Rattle.std.specs.Prelude.{◌≡◌, ◌≢◌, ◌⊎◌, ℕ, ◌+◌, List, [], ◌∷◌, ◌++◌, map}
use Rattle.std.specs.List.{before_first, after_first, count_by}
use Rattle.just_paths.specs.Clean.{IsClean}
use Rattle.just_names.specs.Texts.{Text}
use Rattle.just_table.specs.Entries.{put}
use Rattle.just_loader.specs.declared.sources.SourceFile.{SourceFile}
use Rattle.just_loader.specs.Sources.{Files}
use Rattle.just_bench_bundle.specs.declared.bundle.BundleError.{BundleError}
use Rattle.just_bench_bundle.specs.declared.bundle.BundleError.TheVariants as error
use Rattle.just_bench_expressions.specs.Lines.{is_newline}

-- what stands before the path in a line that begins a file
abbrev pub mark : Text
mark = 45 ∷ 45 ∷ 45 ∷ 32 ∷ []

-- no line of the text begins with the mark, save the first
abbrev pub HasNoMark : Text → Type 0
HasNoMark text = (front back : Text) → text ≢ front ++ 10 ∷ (mark ++ back)

-- the text is these parts, each after a mark; where another follows, a part ends with a line end
pub data AreParts : Text → List Text → Type 0 where
  none : AreParts [] []
  last : (part : Text) → HasNoMark part → AreParts (mark ++ part) (part ∷ [])
  more : (part rest : Text) (parts : List Text) → HasNoMark (part ++ 10 ∷ []) → AreParts rest parts → AreParts (mark ++ (part ++ 10 ∷ rest)) ((part ++ 10 ∷ []) ∷ parts)

-- the first line of a part is the path, and what follows it is the text
abbrev pub file_of : Text → SourceFile
file_of part = record { path = before_first is_newline part; text = after_first is_newline part }

-- the files under their paths, where a later one of an equal path replaces the earlier
pub data BundleHolds : List SourceFile → Files → Type 0 where
  nothing : BundleHolds [] []
  also : {files : List SourceFile} {held : Files} (file : SourceFile) → BundleHolds files held → BundleHolds (files ++ file ∷ []) (put file.path file held)

-- the files that the text has
pub record HoldsBundle (text : Text) (held : Files) : Type 0 where
  pub parts : List Text
  pub whole : AreParts text parts
  pub files : BundleHolds (map file_of parts) held

-- a line begins after the text
abbrev pub IsBeforeLine : Text → Type 0
IsBeforeLine front = (front ≡ []) ⊎ ((before : Text) × (front ≡ before ++ 10 ∷ []))

-- how many lines end in a text
abbrev pub line_ends : Text → ℕ
line_ends text = count_by is_newline text

-- this line, counted from 1, begins with the mark and has this path, which is not clean
pub record HasBadPath (text : Text) (line : ℕ) (path : Text) : Type 0 where
  pub front : Text
  pub back : Text
  pub whole : text ≡ front ++ (mark ++ back)
  pub begins : IsBeforeLine front
  pub number : line ≡ line_ends front + 1
  pub told : path ≡ before_first is_newline back
  pub bad : IsClean path → ⊥

-- why a text is no bundle
abbrev pub IsNoBundle : Text → BundleError → Type 0
IsNoBundle text error.NoFile = (text ≢ []) × ((back : Text) → text ≢ mark ++ back)
IsNoBundle text (error.NotClean line path) = HasBadPath text line path
IsNoBundle text error.Memory = Unit {0}
