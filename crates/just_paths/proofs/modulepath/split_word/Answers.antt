use Rattle.std.proofs.Common.{rules, ◌≡◌, List, [], ◌∷◌, ◌++◌, true, arith, Some, None, subst, sym, ◌∙◌, ap}
use Rattle.std.proofs.lemmas.Bool.{false≢true}
use Rattle.std.proofs.lemmas.Str.Pattern.{split_parts, strip_prefix_char}
use Rattle.just_names.specs.Identifier.{is_identifier}
use Rattle.just_names.specs.Texts.{Text}
use Rattle.just_paths.specs.Modulepath.{IsWordPath}
use Rattle.just_paths.proofs.ModulepathLemmas.{lacks_by_index, path_cons, only_one, only_cons, components_push}
use Rattle.just_paths.proofs.modulepath.split_word.Goals as goal

pub returns-then-not-is_identifier-clause-refusal : goal.returns-then-not-is_identifier-clause-refusal
returns-then-not-is_identifier-clause-refusal c = λ all p.
    let parts = split_parts 58 c.loop-name.rest.now (Some (c.in-Some.name, c.in-Some.after)) c.in-Some.ensures.cases (omega arith) in
    let r = c.loop-name.invariant.only all p in
    let o = only_cons c.in-Some.name.now c.in-Some.after.now r.0 (lacks_by_index _ parts.1) (subst (λ w. IsWordPath w r.0) parts.0 r.2) in
    false≢true (sym c.if-not-is_identifier.true ∙ c.is_identifier.ensures ∙ o.0)

pub loop-name-preserved : goal.loop-name-preserved
loop-name-preserved c =
    let parts = split_parts 58 c.loop-name.rest.now (Some (c.in-Some.name, c.in-Some.after)) c.in-Some.ensures.cases (omega arith) in
    let strips = strip_prefix_char 58 c.in-Some.after.now (Some c.in-Some-strip_prefix.more) c.in-Some-strip_prefix.ensures.cases (omega arith) in
    let name : is_identifier c.in-Some.name.now ≡ true = sym c.is_identifier.ensures ∙ c.if-not-is_identifier.false in
    let whole : c.loop-name.rest.now ≡ c.in-Some.name.now ++ 58 ∷ (58 ∷ c.in-Some-strip_prefix.more.now) =
    parts.0 ∙ ap (λ t. c.in-Some.name.now ++ 58 ∷ t) strips in
    let copied : c.in_ok-from_str-in-Some.field-0 ≡ c.in-Some.name.now = c.in_ok-from_str-in-Some.ensures in
    let pushed : c.push.new.self.items ≡ c.loop-name.components.items ++ c.in_ok-from_str-in-Some.field-0 ∷ [] = c.in_ok-push-in-Some.ensures.items in
    let same = λ (more : List Text). ap (λ xs. xs ++ more) pushed
    ∙ components_push c.loop-name.components.items c.in_ok-from_str-in-Some.field-0 c.in-Some.name.now more copied in
    record {
      utf8 = search rules;
      fits = λ more p. subst (λ all. IsWordPath c.args.word.now all) (sym (same more))
          (c.loop-name.invariant.fits (c.in-Some.name.now ∷ more)
          (subst (λ w. IsWordPath w (c.in-Some.name.now ∷ more)) (sym whole) (path_cons _ _ more name p)));
      only = λ all p.
          let r = c.loop-name.invariant.only all p in
          let o = only_cons c.in-Some.name.now c.in-Some.after.now r.0 (lacks_by_index _ parts.1) (subst (λ w. IsWordPath w r.0) parts.0 r.2) in
          let tails : c.in-Some-strip_prefix.more.now ≡ o.1 = (cc (strips, o.3)) in (
            o.2,
            r.1 ∙ ap (λ t. c.loop-name.components.items ++ t) o.4 ∙ sym (same o.2),
            subst (λ w. IsWordPath w o.2) (sym tails) o.5,
          );
    }

pub returns-in-None-strip_prefix-clause-refusal : goal.returns-in-None-strip_prefix-clause-refusal
returns-in-None-strip_prefix-clause-refusal c = λ all p.
    let parts = split_parts 58 c.loop-name.rest.now (Some (c.in-Some.name, c.in-Some.after)) c.in-Some.ensures.cases (omega arith) in
    let r = c.loop-name.invariant.only all p in
    let o = only_cons c.in-Some.name.now c.in-Some.after.now r.0 (lacks_by_index _ parts.1) (subst (λ w. IsWordPath w r.0) parts.0 r.2) in
    strip_prefix_char 58 c.in-Some.after.now None c.in-None-strip_prefix.ensures.cases (omega arith) o.1 o.3

pub returns-then-not-is_identifier-2-clause-refusal : goal.returns-then-not-is_identifier-2-clause-refusal
returns-then-not-is_identifier-2-clause-refusal c = λ all p.
    let parts = split_parts 58 c.loop-name.rest.now None c.in-None.ensures.cases (omega arith) in
    let r = c.loop-name.invariant.only all p in
    let o = only_one c.loop-name.rest.now r.0 (lacks_by_index _ parts) r.2 in
    false≢true (sym c.if-not-is_identifier-2.true ∙ c.is_identifier-in-None.ensures ∙ o.1)
