-- What private functions say beside `Misnaming.antt`.
use Rattle.std.specs.Prelude.{Bool}
use Rattle.just_errors.specs.Causes.{Cause}
use Rattle.just_names.specs.Texts.{Text}
use Rattle.just_names.specs.declared.name.Name.{Name}
use Rattle.just_ast_references.specs.declared.references.Reference.TheVariants as reference
use Rattle.just_parts.specs.Known.{Known}
use Rattle.just_parts.specs.Misnaming.{MisnamesAt}

abbrev pub MisnamesVariable : Known → (Text → Bool) → Name → Cause → Type 0
MisnamesVariable m hidden name = MisnamesAt m hidden (reference.Variable name)
