use Rattle.std.proofs.Common.{rules, length, ◌≡◌, ◌≢◌, ◌<◌, ◌+◌, ◌-◌, ◌&&◌, [], ◌∷◌, Some, None, true, false, take, refl, sym, ap, ◌∙◌, arith}
use Rattle.just_names.specs.Texts.{texts}
use Rattle.just_tail.specs.Options.{place}
use Rattle.just_tail.specs.Pieces.{positional, dashes, option, option_word, value_of, is_dashed}
use Rattle.just_tail.specs.Steps.{positionals_among, is_open}
use Rattle.just_tail.proofs.TailLemmas.{take_front}
use Rattle.just_tail.proofs.GroupLemmas.{stands_take, stands_close}
use Rattle.just_tail.proofs.Places.{place_within}
use Rattle.just_tail.proofs.tail.read_piece.Goals as goal
use Rattle.just_tail.proofs.tail.read_piece.Goals.{else-progress-via-then-progress+else-is_dashed, else-progress-via-else-progress}

pub returns-then-eq-clause-piece : goal.returns-then-eq-clause-piece
returns-then-eq-clause-piece c = λ h before stands.
    let ps = c.args.plan.now.parameters.now in
    let whole : c.args.words.now ≡ c.in-Some.word.now ∷ c.in-Some.rest.now = search rules in
    let is : c.in-Some.word.now.now ≡ 45 ∷ (45 ∷ []) = search rules in
    let opened : is_open ps before ≡ true = sym stands.opened ∙ c.if-progress.true in (
      dashes,
      tt,
      (opened, tt),
      take_front 1 c.args.words.now c.in-Some.rest.now c.in-Some.word.now h whole ∙ ap (λ w. w ∷ []) is,
      stands_close ps before c.args.progress.now (record { opened = false; placed = c.args.progress.now.placed; groups = c.args.progress.now.groups }) stands refl refl refl,
    )

pub returns-in-Ok-clause-piece : goal.returns-in-Ok-clause-piece
returns-in-Ok-clause-piece c = λ h before stands.
    let ps = c.args.plan.now.parameters.now in
    let whole : c.args.words.now ≡ c.in-Some.word.now ∷ c.in-Some.rest.now = search rules in
    let opened : is_open ps before ≡ true = sym stands.opened ∙ c.if-progress.true in
    let u = c.in-Ok.ensures.ok before stands opened in
    let less : c.in-Ok.taken + 1 - 1 ≡ c.in-Ok.taken = omega arith in (
      option u.0 u.1,
      u.2,
      u.5,
      take_front (c.in-Ok.taken + 1) c.args.words.now c.in-Some.rest.now c.in-Some.word.now h whole ∙ ap (λ k. c.in-Some.word.now.now ∷ texts (take k c.in-Some.rest.now)) less
          ∙ ap (λ w. w ∷ texts (take c.in-Ok.taken c.in-Some.rest.now)) u.3 ∙ ap (λ ws. option_word u.0 (value_of u.1) ∷ ws) (sym u.4),
      u.6,
    )

pub returns-in_ok-push_at-in-Some-place-clause-piece : goal.returns-in_ok-push_at-in-Some-place-clause-piece
returns-in_ok-push_at-in-Some-place-clause-piece c = λ h before stands.
    let ps = c.args.plan.now.parameters.now in
    let w = c.in-Some.word.now.now in
    let whole : c.args.words.now ≡ c.in-Some.word.now ∷ c.in-Some.rest.now = search rules in
    let plain : (c.args.progress.now.opened && is_dashed w) ≡ false =
    elim c.else-progress.branch [ else-progress-via-then-progress+else-is_dashed s ↦ search rules | else-progress-via-else-progress s ↦ search rules ] in
    let at : place ps (positionals_among before) ≡ Some c.in-Some-place.place = ap (place ps) (sym stands.count) ∙ sym c.in-Some-place.ensures in
    let some : place ps (positionals_among before) ≢ None = λ e. let f = sym at ∙ e in (cc) in (
      positional w,
      tt,
      ((ap (λ b. b && is_dashed w) (sym stands.opened) ∙ plain, some), tt),
      take_front 1 c.args.words.now c.in-Some.rest.now c.in-Some.word.now h whole,
      stands_take ps before w c.args.progress.now
          (record { opened = c.args.progress.now.opened; placed = c.args.progress.now.placed + 1; groups = c.push_at.new.groups })
          c.in-Some-place.place at (place_within ps c.args.progress.now.placed (Some c.in-Some-place.place) c.in-Some-place.ensures) stands refl refl c.in_ok-push_at-in-Some-place.ensures,
    )

pub push_at-requires : goal.push_at-requires
push_at-requires c =
    let small : c.in-Some-place.place < length c.args.plan.now.parameters.now =
    place_within c.args.plan.now.parameters.now c.args.progress.now.placed (Some c.in-Some-place.place) c.in-Some-place.ensures in
    omega arith
