use Rattle.std.proofs.Common.{◌≡◌, ◌∙◌, ℕ, List, Option, None, Some, ap, refl}
use Rattle.std.specs.Borrow.{Bor}
use Rattle.std.specs.Option.{option_map, unwrap_or}
use Rattle.just_loader.specs.ModuleFile.{after}
use Rattle.just_loader.proofs.module_file.relative_path.Goals as goal

-- what is lent, of a value or a default
lent : (o : Option (Bor (List ℕ))) (d : Bor (List ℕ)) → (unwrap_or o d).now ≡ unwrap_or (option_map (λ (b : Bor (List ℕ)). b.now) o) d.now
lent None d = refl
lent (Some b) d = refl

pub returns : goal.returns
returns c =
    ap (λ (b : Bor (List ℕ)). b.now) c.unwrap_or.ensures ∙ lent c.after.result c.args.path
    ∙ ap (λ o. unwrap_or o c.args.path.now) (c.after.ensures ∙ ap (λ t. after t c.args.path.now) (c.as_str.ensures.value ∙ c.in_ok-prefix.ensures))
