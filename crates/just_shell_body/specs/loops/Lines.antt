-- What private functions say beside `Lines.antt`.
use Rattle.std.specs.Prelude.{◌-◌, List, [], ◌∷◌, length}
use Rattle.just_ast_definitions.specs.declared.line.Line.{Line}
use Rattle.just_ast_expressions.specs.declared.settings.Settings.{Settings}
use Rattle.just_names.specs.Texts.{Text}
use Rattle.just_parts.specs.Syntax.{SyntaxAnswers}
use Rattle.just_run_layers.specs.LineTexts.{BeginsPlain}

-- a text begins with as many plain bytes as the first line has sigils, where there is a first line
abbrev pub TextBeginsGroup : SyntaxAnswers → Settings → List Line → Text → Type 0
TextBeginsGroup syntax settings [] text = Unit {0}
TextBeginsGroup syntax settings (line ∷ lines) text = BeginsPlain (length (syntax.sigils line settings)) text
