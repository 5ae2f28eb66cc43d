use Rattle.std.proofs.Common.{◌≡◌, ◌∙◌}
use Rattle.just_patterns.specs.Pattern.{anchored}
use Rattle.just_patterns.proofs.Compiling.{readable, refused, searches}
use Rattle.just_patterns.proofs.pattern.compile.Goals as goal

pub returns-clause-searches : goal.returns-clause-searches
returns-clause-searches c =
    let is : c.as_str.result.now ≡ anchored c.args.pattern.now = c.as_str.ensures.value ∙ c.in_ok-whole.ensures.ok in
    searches c.args.pattern.now c.as_str.result.now is c.new.result c.new.ensures.source c.new.ensures.config c.new.ensures.read

pub returns-clause-read : goal.returns-clause-read
returns-clause-read c =
    let is : c.as_str.result.now ≡ anchored c.args.pattern.now = c.as_str.ensures.value ∙ c.in_ok-whole.ensures.ok in
    readable c.args.pattern.now c.as_str.result.now is c.new.result c.new.ensures.source c.new.ensures.config c.new.ensures.read

pub returns-clause-refused : goal.returns-clause-refused
returns-clause-refused c =
    let is : c.as_str.result.now ≡ anchored c.args.pattern.now = c.as_str.ensures.value ∙ c.in_ok-whole.ensures.ok in
    refused c.args.pattern.now c.as_str.result.now is c.new.result c.new.ensures.by_grammar c.new.ensures.kind c.new.ensures.no_internal
