-- What the plain grammar answers.
use Rattle.std.specs.Prelude.{ℕ, true, if◌then◌else◌, List, codes, Option, Some, None, Result, Ok, Err}
use Rattle.std.specs.Option.{option_map}
use Rattle.std.specs.Result.{result_ok}
use Rattle.std.specs.Str.{bytes_eq}
use Rattle.just_names.specs.Token.{Place}
use Rattle.just_errors.specs.declared.phrases.ArgumentRange.{ArgumentRange}
use Rattle.just_parts.specs.Bare.{ast_of_items}
use Rattle.just_parts.specs.Items.{Ast}
use Rattle.just_parts.specs.Syntax.{SyntaxAnswers}
use Rattle.just_ast_expressions.specs.declared.keyword.Keyword.{Keyword}
use Rattle.just_bench_syntax.specs.declared.items.Items.{Items}
use Rattle.just_bench_syntax.specs.BareLines.{comment_bare, continuation_bare}
use Rattle.just_bench_syntax.specs.Items.{items_in_text}
use Rattle.just_bench_syntax.specs.Conflicts.{conflicts}
use Rattle.just_bench_syntax.specs.Numbering.{numbers_counted}
use Rattle.just_bench_syntax.specs.Shebangs.{shebang}
use Rattle.just_bench_syntax.specs.Sigils as sigil

-- items with where they need lists
abbrev pub ast_with_lists : Items → Ast
ast_with_lists found = record (ast_of_items found.items) { list_features = found.lists }

abbrev pub counted_in : Result Items Place → ℕ
counted_in (Ok found) = numbers_counted found.items
counted_in (Err at) = 0

-- how many numbers a text takes; none where it does not follow the grammar
unfoldable pub spends : List ℕ → List ℕ → ℕ
spends path text = counted_in (items_in_text path text)

-- how many arguments the built-in function takes: none
abbrev pub builtin : List ℕ → Option ArgumentRange
builtin name = if bytes_eq name (codes "is_dependency") then Some (record { min = 0; max = 0 }) else None

-- there are no constants, each item counts, there are no keywords, and settings may not stand together as these pairs say
abbrev pub answers : List (Keyword × Keyword) → SyntaxAnswers
answers pairs = record {
  parsed = λ relative text. option_map ast_with_lists (result_ok (items_in_text relative text));
  spends = spends;
  enabled = λ _. true;
  keyword = λ _. None;
  conflicts = conflicts pairs;
  sigils = λ line settings. sigil.sigils line;
  is_comment = sigil.is_comment;
  is_continuation = sigil.is_continuation;
  is_shebang = sigil.is_shebang;
  comments = comment_bare;
  continuations = continuation_bare;
  shebang = shebang;
  constant = λ _. None;
  builtin = builtin;
}
