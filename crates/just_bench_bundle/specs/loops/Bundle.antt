-- What private functions say beside `Bundle.antt`.
use Rattle.std.specs.Prelude.{◌≡◌, ℕ}
use Rattle.std.specs.List.{before_first}
use Rattle.just_paths.specs.Clean.{IsClean}
use Rattle.just_bench_bundle.specs.declared.bundle.BundleError.{BundleError}
use Rattle.just_bench_bundle.specs.declared.bundle.BundleError.TheVariants as error
use Rattle.just_bench_expressions.specs.Lines.{is_newline}
use Rattle.just_names.specs.Texts.{Text}

-- why a part, which begins in this line, is no file
abbrev pub IsNoFile : ℕ → Text → BundleError → Type 0
IsNoFile line part (error.NotClean at path) = (at ≡ line) × (path ≡ before_first is_newline part) × (IsClean path → ⊥)
IsNoFile line part error.Memory = Unit {0}
IsNoFile line part error.NoFile = ⊥
