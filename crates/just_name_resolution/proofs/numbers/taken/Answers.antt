use Rattle.std.proofs.Common.{◌≡◌, ◌<◌, ◌∙◌, ℕ, [], ◌∷◌, ap, arith, length, reverse}
use Rattle.std.proofs.lemmas.List.{length_push, reverse-append}
use Rattle.just_name_resolution.proofs.numbers.taken.Goals as goal

none_left : (n m : ℕ) → 0 < n → m ≡ n → m ≡ 0 → ⊥
none_left n m some same none = omega arith

pub unreachable-requires : goal.unreachable-requires
unreachable-requires c =
    none_left (length c.args.built.now.items) _ c.requires c.args.built.now.ok.0 c.in-None.ensures.cases.0

pub returns-clause-items : goal.returns-clause-items
returns-clause-items c = ap reverse c.in-Some.ensures.items ∙ reverse-append c.pop.new.self.items (c.in-Some.part ∷ [])

pub returns-clause-left : goal.returns-clause-left
returns-clause-left c = ap length c.in-Some.ensures.items ∙ length_push c.pop.new.self.items c.in-Some.part
