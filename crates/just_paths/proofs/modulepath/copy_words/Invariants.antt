use Rattle.std.proofs.Common.{◌≡◌, take, drop}
use Rattle.just_names.specs.Texts.{texts}
use Rattle.just_paths.specs.Modulepath.{AllIdentifiers}
use Rattle.just_paths.proofs.modulepath.copy_words.Given as goal

abbrev pub invariant-loop-word : goal.invariant-loop-word
invariant-loop-word l = record {
  copied : l.components.items ≡ texts (take l.word-index l.words);
  fits : AllIdentifiers (texts (drop l.word-index l.words)) → AllIdentifiers (texts l.words);
  only : AllIdentifiers (texts l.words) → AllIdentifiers (texts (drop l.word-index l.words));
}
