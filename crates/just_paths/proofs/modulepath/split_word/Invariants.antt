use Rattle.std.proofs.Common.{◌≡◌, ◌++◌, List, length}
use denote.Text.{Utf8}
use denote.Shadow.{shadow}
use Rattle.just_names.specs.Texts.{Text}
use Rattle.just_paths.specs.Modulepath.{IsWordPath}
use Rattle.just_paths.proofs.modulepath.split_word.Given as goal

abbrev pub invariant-loop-name : goal.invariant-loop-name
invariant-loop-name l = record {
  utf8 : shadow (Utf8 l.rest);
  fits : (more : List Text) → IsWordPath l.rest more → IsWordPath l.word (l.components.items ++ more);
  only : (all : List Text) → IsWordPath l.word all → (more : List Text) × (all ≡ l.components.items ++ more) × IsWordPath l.rest more;
}

abbrev pub decreases-loop-name : goal.decreases-loop-name
decreases-loop-name l = length l.rest
