use Rattle.std.proofs.Common.{rules, ◌≡◌, sym, subst}
use Rattle.just_paths.specs.Clean.{IsClean}
use Rattle.just_table.specs.Entries.{put}
use Rattle.just_loader.specs.Sources.{folder_prefix, HoldsFolders}
use Rattle.just_loader.proofs.Folders.{held_on}
use Rattle.just_loader.proofs.Paths.{put_holds}
use Rattle.just_loader.proofs.sources.Sources.insert.Goals as goal

pub invariant_of-self : goal.invariant_of-self
invariant_of-self c =
    let folders : c.insert.new.self ≡ c.self.inside.folders = search rules in
    (c.self.invariant.0, c.insert.ensures.keyed c.self.invariant.1, subst (λ held. HoldsFolders held c.self.inside.files) (sym folders) c.self.invariant.2)

pub invariant_of-self-2 : goal.invariant_of-self-2
invariant_of-self-2 c =
    let prefix = folder_prefix c.new.result in
    let clean : IsClean c.args.path.now = search rules in
    let folders : c.insert.new.self ≡ put prefix prefix c.self.inside.folders = search rules in (
      record {
        keyed = c.insert-2.ensures.keyed c.self.invariant.0.keyed;
        clean = put_holds IsClean c.insert-2.result c.args.path.now (record { path = c.new.result; text = c.new-2.result }) c.self.inside.files c.insert-2.new.self clean c.self.invariant.0.clean (search rules) c.insert-2.ensures.err;
      },
      c.insert.ensures.keyed c.self.invariant.1,
      subst (λ held. HoldsFolders held c.insert-2.new.self) (sym folders)
          (held_on c.insert-2.result c.new.result _ c.self.inside.folders c.self.inside.files c.insert-2.new.self c.insert-2.ensures.new c.insert-2.ensures.err c.self.invariant.2),
    )
