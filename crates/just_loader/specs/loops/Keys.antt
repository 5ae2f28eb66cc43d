-- What private functions say beside `Keys.antt`.
use Rattle.just_parts.specs.Asts.{AstKey}
use Rattle.just_loader.specs.Keys.{FileKey}

abbrev pub key_of_ast : AstKey → FileKey
key_of_ast k = record { path = k.0.components; node = k.1 }
