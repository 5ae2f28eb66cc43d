use Rattle.std.proofs.Common.{◌≡◌, length, arith, rules}
use Rattle.std.proofs.lemmas.Grind.{common_steps}
use Rattle.just_loader.specs.loops.Numbering.{IsFile}
use Rattle.just_loader.proofs.Numberings.{found_more}
use Rattle.just_loader.proofs.index.Found.place.Goals as goal

pub returns-clause-found : goal.returns-clause-found
returns-clause-found c =
    let long : c.len-place.result ≡ length c.args.self.now.files.items = grind (arith, common_steps) in
    let file : IsFile c.args.sources.now c.copied-2.result = search rules in
    found_more c.args.sources.now c.args.self.now (record { files = c.push.new.self; places = c.insert.new.self }) c.copied-2.result c.copied.result c.len-place.result c.requires.found
    (search rules) c.in_ok-insert.ensures.updates.1 long c.in_ok-insert.ensures.updates.2 c.in_ok-push.ensures.items (search rules) file
