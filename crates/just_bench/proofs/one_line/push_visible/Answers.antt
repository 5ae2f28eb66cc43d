use Rattle.std.proofs.Common.{◌≡◌, ◌∙◌, ◌++◌, [], ◌∷◌, List, ℕ, Result, Ok, Err, OnOk, ap, arith, drop, string_bytes, subst, sym, take}
use Rattle.std.specs.Prelude.{if◌then◌else◌, is_ok}
use Rattle.std.specs.Char.Escape.{escape_default}
use Rattle.std.specs.Char.Iter.{escape_rest}
use Rattle.std.proofs.Math.Utf8.{encode, encodes}
use Rattle.std.proofs.lemmas.List.{append-nil, append_assoc}
use Rattle.just_bench.specs.Writing.{IsInLine}
use Rattle.just_bench.proofs.Visible.{encodes_more, escape_in_line, one_in_line}
use Rattle.just_bench.proofs.one_line.push_visible.Goals as goal

pushed : {A E : Type 0} (r : Result A E) (old new : List ℕ) (c : ℕ) → IsInLine (c ∷ []) → new ≡ (if is_ok r then old ++ encode c else old) →
    OnOk r ((more : List ℕ) × IsInLine more × (new ≡ old ++ encodes more))
pushed (Ok a) old new c one h = (c ∷ [], one, h ∙ ap (λ t. old ++ t) (sym (append-nil (encode c))))
pushed (Err e) old new c one h = tt

pub returns-then-not-is_control : goal.returns-then-not-is_control
returns-then-not-is_control c =
    pushed c.push.result (string_bytes c.args.line.now) (string_bytes c.push.new.self) c.args.c (one_in_line c.args.c (sym c.if-not-is_control.ensures)) c.push.ensures.bytes

pub loop-escaped-preserved : goal.loop-escaped-preserved
loop-escaped-preserved c =
    let before = c.loop-escaped.yielded in
    let item = c.in-Some.escaped in
    record {
      bound = grind (arith, c.in-Some.ensures.steps.0, c.loop-escaped.invariant.bound);
      spelled = c.in_ok-push.ensures.bytes ∙ ap (λ t. t ++ encode item) c.loop-escaped.invariant.spelled
          ∙ append_assoc (string_bytes c.args.line.now) (encodes before) (encode item) ∙ ap (λ t. string_bytes c.args.line.now ++ t) (sym (encodes_more before item));
      left = append_assoc before (item ∷ []) (escape_rest c.next.new.self) ∙ ap (λ t. before ++ t) (sym c.in-Some.ensures.steps.1.0) ∙ c.loop-escaped.invariant.left;
    }

pub returns : goal.returns
returns c =
    let before = c.loop-escaped.yielded in
    let none : escape_rest c.loop-escaped.escaped-iterator ≡ [] = ap (λ n. take n (drop c.loop-escaped.escaped-iterator.from c.loop-escaped.escaped-iterator.chars)) c.in-None.ensures.steps.1.0 in
    let all : before ≡ escape_default c.args.c = sym (append-nil before) ∙ ap (λ t. before ++ t) (sym none) ∙ c.loop-escaped.invariant.left in
    (before, subst IsInLine (sym all) (escape_in_line c.args.c), c.loop-escaped.invariant.spelled)
