use Rattle.std.proofs.Common.{ap, get_or, sym}
use Rattle.std.specs.Str.{bytes_eq}
use Rattle.std.specs.HashMap.{get}
use Rattle.just_module_contents.proofs.Claims.{tells_kept}
use Rattle.just_module_contents.proofs.precedence.is_kept.Goals as goal

pub returns-in-Some : goal.returns-in-Some
returns-in-Some c =
    let claims = c.args.claims.now in
    tells_kept claims c.args.place c.in-Some.best.now (get_or claims c.args.place c.index-claims-place.result) (get bytes_eq c.args.index.now) c.requires.there
    (ap (get_or claims c.args.place) c.index-claims-place.is) c.requires.index (sym c.in-Some.ensures.value)
