use Rattle.std.proofs.Common.{map}
use Rattle.just_scopes.specs.Opening.{handed_of, opened_of, setup_of}
use Rattle.just_scopes.proofs.Homes.{are-home, same-scene}
use Rattle.just_scopes.proofs.scopes.scopes_of.Goals as goal

pub returns-clause-scene : goal.returns-clause-scene
returns-clause-scene g c = same-scene (setup_of (g.S.Syntax.answers c.args.syntax.now) c.args.config.now c.args.overrides.now) (map opened_of c.args.opened.items) c.in_ok-modules_of.field-0 c.in_ok-modules_of.ensures

pub returns-clause-home : goal.returns-clause-home
returns-clause-home g c = λ root recipes tops are.
    are-home (g.S.Syntax.answers c.args.syntax.now) root recipes tops (handed_of c.args.config.now c.args.overrides.now) (map opened_of c.args.opened.items) c.in_ok-modules_of.field-0 are c.in_ok-modules_of.ensures
