use Rattle.std.proofs.Common.{rules, ◌≡◌, ◌≢◌, [], ◌∙◌, ap, sym, Some, None}
use Rattle.just_paths.specs.Clean.{or_root}
use Rattle.just_paths.proofs.Slashes.{last_parts, folder_is, some_folder, clean_has}
use Rattle.just_paths.proofs.clean.folder_of.Goals as goal

pub returns-then-is_empty : goal.returns-then-is_empty
returns-then-is_empty c =
    let parts = last_parts c.args.path.now (Some (c.in-Some.folder, c.in-Some.field-0-1)) c.in-Some.ensures.cases in
    let none : c.in-Some.folder.now ≡ [] = search rules in
    ap or_root (sym none) ∙ folder_is c.args.path.now c.in-Some.folder.now c.in-Some.field-0-1.now parts.0 parts.1

pub returns-else-is_empty : goal.returns-else-is_empty
returns-else-is_empty c =
    let parts = last_parts c.args.path.now (Some (c.in-Some.folder, c.in-Some.field-0-1)) c.in-Some.ensures.cases in
    let some : c.in-Some.folder.now ≢ [] = search rules in
    some_folder c.in-Some.folder.now some ∙ folder_is c.args.path.now c.in-Some.folder.now c.in-Some.field-0-1.now parts.0 parts.1

pub returns-in-None : goal.returns-in-None
returns-in-None c = absurd (clean_has c.args.path.now c.requires (last_parts c.args.path.now None c.in-None.ensures.cases))
