use Rattle.std.proofs.Common.{rules, ◌≡◌, ◌∙◌, ap, Some, None}
use Rattle.std.specs.Prelude.{unwrap_or}
use Rattle.just_paths.proofs.Slashes.{last_parts, clean_has}
use Rattle.just_loader.proofs.Folders.{stripped}
use Rattle.just_loader.proofs.sources.folder_prefix.Goals as goal

pub returns-in-Some : goal.returns-in-Some
returns-in-Some c =
    let parts = last_parts c.args.path.now (Some (c.in-Some.field-0-0, c.in-Some.name)) c.in-Some.ensures.cases in
    let given : c.unwrap_or.result ≡ unwrap_or c.strip_suffix.result c.args.path = search rules in
    ap (λ w. w.now) given ∙ stripped c.args.path.now c.in-Some.field-0-0.now c.in-Some.name.now c.args.path c.strip_suffix.result parts.0 parts.1 c.strip_suffix.ensures.cases

pub returns-in-None : goal.returns-in-None
returns-in-None c = absurd (clean_has c.args.path.now c.requires (last_parts c.args.path.now None c.in-None.ensures.cases))
