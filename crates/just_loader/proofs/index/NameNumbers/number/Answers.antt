use Rattle.std.proofs.Common.{◌≡◌, ◌∙◌, length, sym, ap, arith}
use Rattle.std.proofs.lemmas.Grind.{common_steps}
use Rattle.std.specs.HashMap.{get}
use Rattle.std.specs.Str.{bytes_eq}
use Rattle.std.specs.Option.{option_copied}
use Rattle.just_loader.proofs.Numberings.{named_last, names_kept, names_more}
use Rattle.just_loader.proofs.index.NameNumbers.number.Goals as goal

pub returns-in-Some-clause-numbered : goal.returns-in-Some-clause-numbered
returns-in-Some-clause-numbered c =
    names_kept c.args.self.now.names.items c.push.new.self.items c.args.name.now c.copied.result c.new-text.result c.in_ok-push.ensures.items c.copied.ensures (c.new-text.ensures ∙ c.lexeme.ensures)
    (get bytes_eq c.args.self.now.numbers) c.in-Some.number.now c.requires (sym c.get.ensures.value ∙ ap option_copied c.in-Some.is)

pub returns-in-Some-clause-named : goal.returns-in-Some-clause-named
returns-in-Some-clause-named c =
    named_last c.args.self.now.names.items c.push.new.self.items c.args.name.now c.copied.result c.new-text.result c.in_ok-push.ensures.items c.copied.ensures (c.new-text.ensures ∙ c.lexeme.ensures)
    (get bytes_eq c.args.self.now.numbers) c.in-Some.number.now (returns-in-Some-clause-numbered c) (sym c.get.ensures.value ∙ ap option_copied c.in-Some.is)

pub returns-clause-numbered : goal.returns-clause-numbered
returns-clause-numbered c =
    let long : c.len-place.result ≡ length c.args.self.now.names.items = grind (arith, common_steps) in
    names_more c.args.self.now.names.items c.push.new.self.items c.args.name.now c.copied.result c.new-text.result c.in_ok-push.ensures.items c.copied.ensures (c.new-text.ensures ∙ c.lexeme.ensures)
    (get bytes_eq c.args.self.now.numbers) (get bytes_eq c.insert.new.self) c.len-place.result c.requires
    (sym c.get.ensures.value ∙ ap option_copied c.in_default.is) c.in_ok-insert.ensures.updates.1 long c.in_ok-insert.ensures.updates.2

pub returns-clause-named : goal.returns-clause-named
returns-clause-named c =
    named_last c.args.self.now.names.items c.push.new.self.items c.args.name.now c.copied.result c.new-text.result c.in_ok-push.ensures.items c.copied.ensures (c.new-text.ensures ∙ c.lexeme.ensures)
    (get bytes_eq c.insert.new.self) c.len-place.result (returns-clause-numbered c) c.in_ok-insert.ensures.updates.1
