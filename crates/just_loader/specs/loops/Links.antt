-- What private functions say beside `Links.antt`.
use Rattle.std.specs.Prelude.{List, map}
use Rattle.just_parts.specs.Syntax.{SyntaxAnswers}
use Rattle.just_names.specs.Texts.{Text}
use Rattle.just_parts.specs.Items.{Item}
use Rattle.just_parts.specs.declared.layers.config.Config.{Config}
use Rattle.just_loader.specs.Sources.{Files}
use Rattle.just_loader.specs.Links.{Link, link_by}

abbrev pub links_by : Files → Config → SyntaxAnswers → Text → List Item → List Link
links_by files config answers folder = map (link_by files config answers folder)
