use Rattle.std.proofs.Common.{◌≡◌, drop, map}
use Rattle.just_names.specs.Texts.{Text}
use Rattle.just_table.specs.Entries.{put_all}
use Rattle.just_module_contents.proofs.notes.add_features.Given as goal

abbrev pub invariant-loop-feature : goal.invariant-loop-feature
invariant-loop-feature l = put_all {V = Text} (λ t. t) l.initial.names (map (λ f. f.name) l.features) ≡ put_all {V = Text} (λ t. t) l.names (map (λ f. f.name) (drop l.feature-index l.features))
