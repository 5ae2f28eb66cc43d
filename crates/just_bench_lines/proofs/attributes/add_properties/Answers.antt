use Rattle.std.proofs.Common.{◌≡◌, ◌<◌, ◌≤◌, ◌∙◌, Some, None, false, ap, sym, subst, arith, length}
use Rattle.std.specs.Prelude.{IfSome}
use Rattle.std.proofs.lemmas.Grind.{common_steps}
use Rattle.just_bench_lines.specs.Attributes.{told, with_properties}
use Rattle.just_bench_lines.specs.Definitions.{after_part}
use Rattle.just_bench_lines.specs.Places.{is_paren_close, stands}
use Rattle.just_bench_lines.proofs.Props.{props_step, props_fail, props_stuck}
use Rattle.just_bench_lines.proofs.attributes.add_properties.Goals as goal

pub loop-lexemes-preserved : goal.loop-lexemes-preserved
loop-lexemes-preserved c =
    let all = c.args.spelling.now in
    let sharp : stands is_paren_close all c.loop-lexemes.at ≡ false = grind (arith, common_steps) in
    let is = ap (λ e. told e c.add_property.new.properties) (sym c.in-Some.is) ∙ c.in_ok-end.ensures.is in
    let goes : Some c.in-Some-after_part.next ≡ after_part all c.in-Some.end = c.in-Some-after_part.ensures.is ∙ ap (λ ls. after_part ls c.in-Some.end) c.as_slice-lexemes.ensures.is in
    let onward : c.loop-lexemes.at < c.in-Some.end = subst (λ o. IfSome o (λ e. c.loop-lexemes.at < e)) c.in-Some.is c.in_ok-end.ensures.further in
    let within : c.in-Some-after_part.next ≤ length all = subst (λ ls. c.in-Some-after_part.next ≤ length ls) c.as_slice-lexemes.ensures.is c.in-Some-after_part.ensures.within.1 in
    props_step all (with_properties all c.args.start c.args.properties.now) c.loop-lexemes.at c.loop-lexemes.properties c.add_property.new.properties c.in-Some.end c.in-Some-after_part.next
    c.loop-lexemes.invariant sharp is goes onward c.in-Some-after_part.ensures.within.0 within

pub returns-in_default-clause-is : goal.returns-in_default-clause-is
returns-in_default-clause-is c =
    let all = c.args.spelling.now in
    let sharp : stands is_paren_close all c.loop-lexemes.at ≡ false = grind (arith, common_steps) in
    let is = ap (λ e. told e c.add_property.new.properties) (sym c.in_default.is) ∙ c.in_ok-end.ensures.is in
    props_fail all (with_properties all c.args.start c.args.properties.now) c.loop-lexemes.at c.loop-lexemes.properties c.loop-lexemes.invariant sharp is

pub returns-in-None-clause-is : goal.returns-in-None-clause-is
returns-in-None-clause-is c =
    let all = c.args.spelling.now in
    let sharp : stands is_paren_close all c.loop-lexemes.at ≡ false = grind (arith, common_steps) in
    let is = ap (λ e. told e c.add_property.new.properties) (sym c.in-Some.is) ∙ c.in_ok-end.ensures.is in
    let goes : None ≡ after_part all c.in-Some.end = c.in-None.ensures.is ∙ ap (λ ls. after_part ls c.in-Some.end) c.as_slice-lexemes.ensures.is in
    props_stuck all (with_properties all c.args.start c.args.properties.now) c.loop-lexemes.at c.loop-lexemes.properties c.add_property.new.properties c.in-Some.end c.loop-lexemes.invariant sharp is goes
