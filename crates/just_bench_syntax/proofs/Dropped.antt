-- How many blanks and tabs are dropped from a line of a body.
use Rattle.std.proofs.Common.{◌≡◌, ℕ, ◌∙◌, ap, List, length, take, Bool, Some, None}
use Rattle.std.specs.Prelude.{if◌then◌else◌, nat_eq}
use Rattle.std.specs.List.{starts_with}
use Rattle.just_bench_expressions.specs.declared.lines.TextLine.{TextLine}
use Rattle.just_bench_syntax.specs.declared.items.Body.{Body}
use Rattle.just_bench_syntax.specs.declared.items.Body.TheVariants as body
use Rattle.just_bench_syntax.specs.Items.{dropped}

-- how many blanks and tabs are dropped after a first line
pub dropped_by : (first : List ℕ) (line : TextLine) (blanks : ℕ) (it : Body) (c : Bool) → it ≡ body.Goes first → starts_with nat_eq (take blanks line.text) first ≡ c
    → dropped it line blanks ≡ (if c then Some (length first) else None)
dropped_by first line blanks it c goes is = ap (λ i. dropped i line blanks) goes ∙ ap (λ d. if d then Some (length first) else None) is
