use Rattle.std.proofs.Common.{◌≡◌, ◌∙◌, map, ap, sym, subst, refl, rules}
use Rattle.std.specs.List.{All, Contains}
use Rattle.just_paths.specs.Clean.{folder_of}
use Rattle.just_parts.specs.Syntax.{AttributesNameParameters, PriorsAreDependencies, numbers_of_items}
use Rattle.just_errors.specs.declared.error.Error.{Error}
use Rattle.just_loader.specs.Keys.{spends_at}
use Rattle.just_loader.specs.Loaded.{with_path}
use Rattle.just_loader.specs.loops.Placed.{scanned_path}
use Rattle.just_loader.specs.loops.Loading.{IsScanBy, StopsAt}
use Rattle.just_loader.specs.Reached.{World, link}
use Rattle.just_loader.specs.loops.Reading.{TakesText, takes_numbers}
use Rattle.just_loader.specs.loops.Scanned.{ArePlacesOf, paths_in}
use Rattle.just_loader.proofs.ParsedFiles.{attributes_kept, places, priors_kept, said, stopped_err, stops_at}
use Rattle.just_loader.proofs.Parsings.{read}
use Rattle.just_loader.proofs.WithPaths.{all_linked, with_paths_numbers}
use Rattle.just_loader.proofs.files.read_file.Goals as goal

pub read_text-requires-clause-read : goal.read_text-requires-clause-read
read_text-requires-clause-read g c =
    λ ast at. c.requires.read c.args.place c.index-file.result.now ast (read c.args.scan.now.files.items c.args.place c.index-file.result.now c.requires.place c.index-file.ensures) at

pub returns-in_err-items-clause-stopped : goal.returns-in_err-items-clause-stopped
returns-in_err-items-clause-stopped g c =
    let file = c.index-file.result.now in
    stopped_err c.from_residual.result (g.S.Syntax.answers c.args.syntax.now) file.relative file.text c.args.texts.now.numerator
    (λ (e : Error). (w : World) → IsScanBy w c.args.scan.now (g.S.Syntax.answers c.args.syntax.now) → StopsAt c.args.texts.now.numerator (spends_at w (scanned_path c.args.scan.now c.args.place)) e) (search rules)
    (λ e h w by. stops_at w c.args.scan.now (g.S.Syntax.answers c.args.syntax.now) by c.args.place file c.requires.place c.index-file.ensures file.relative file.text refl refl c.args.texts.now.numerator e h)

pub link_items-requires : goal.link_items-requires
link_items-requires g c = (
  c.requires.scan.0,
  folder_of (scanned_path c.args.scan.now c.args.place),
  subst (λ is. ArePlacesOf (paths_in c.args.scan.now.files.items) (map (link c.requires.scan.0 (folder_of (scanned_path c.args.scan.now c.args.place))) is) c.as_slice.result.now) (sym c.into_vec-items.ensures)
      (subst (ArePlacesOf (paths_in c.args.scan.now.files.items) (map (link c.requires.scan.0 (folder_of (scanned_path c.args.scan.now c.args.place))) c.in_ok-items.field-0.items)) (sym c.as_slice.ensures.value)
      (places c.requires.scan.0 c.args.scan.now (g.S.Syntax.answers c.args.syntax.now) c.requires.scan.1 c.args.place c.index-file.result.now c.requires.place c.index-file.ensures c.index-file.result.now.relative c.index-file.result.now.text refl refl c.in_ok-items.field-0 c.in_ok-items.ensures.read.said)),
)

pub returns-clause-said : goal.returns-clause-said
returns-clause-said g c =
    let file = c.index-file.result.now in
    λ w by. record {
      parsed = c.in_ok-items.field-0;
      from = c.in_ok-items.ensures.read.from;
      said = said w c.args.scan.now (g.S.Syntax.answers c.args.syntax.now) by c.args.place file c.requires.place c.index-file.ensures file.relative file.text refl refl c.in_ok-items.field-0 c.in_ok-items.ensures.read.said;
      items = all_linked w c.args.scan.now (folder_of (scanned_path c.args.scan.now c.args.place)) c.as_slice.result.now c.in_ok-items.field-0.items c.into_vec-items.result.items c.link_items.new.items.items c.from_vec.result c.into_vec-items.ensures c.in_ok-link_items.ensures c.from_vec.ensures
          (subst (ArePlacesOf (paths_in c.args.scan.now.files.items) (map (link w (folder_of (scanned_path c.args.scan.now c.args.place))) c.in_ok-items.field-0.items)) (sym c.as_slice.ensures.value)
          (places w c.args.scan.now (g.S.Syntax.answers c.args.syntax.now) by c.args.place file c.requires.place c.index-file.ensures file.relative file.text refl refl c.in_ok-items.field-0 c.in_ok-items.ensures.read.said));
      rest = refl;
    }

pub returns-clause-takes : goal.returns-clause-takes
returns-clause-takes g c =
    let w = c.requires.scan.0 in
    let file = c.index-file.result.now in
    let folder = folder_of (scanned_path c.args.scan.now c.args.place) in
    let made : c.from_vec.result ≡ map (with_path w folder) c.in_ok-items.field-0.items = all_linked w c.args.scan.now folder c.as_slice.result.now c.in_ok-items.field-0.items c.into_vec-items.result.items c.link_items.new.items.items c.from_vec.result c.into_vec-items.ensures c.in_ok-link_items.ensures c.from_vec.ensures
    (subst (ArePlacesOf (paths_in c.args.scan.now.files.items) (map (link w folder) c.in_ok-items.field-0.items)) (sym c.as_slice.ensures.value)
    (places w c.args.scan.now (g.S.Syntax.answers c.args.syntax.now) c.requires.scan.1 c.args.place file c.requires.place c.index-file.ensures file.relative file.text refl refl c.in_ok-items.field-0 c.in_ok-items.ensures.read.said)) in (
      file,
      read c.args.scan.now.files.items c.args.place file c.requires.place c.index-file.ensures,
      subst (TakesText c.args.place (takes_numbers (g.S.Syntax.answers c.args.syntax.now) file) c.args.texts.now c.read_text.new.texts) (sym (ap numbers_of_items made ∙ with_paths_numbers w folder c.in_ok-items.field-0.items)) c.in_ok-items.ensures.takes,
    )

pub returns-clause-laws : goal.returns-clause-laws
returns-clause-laws g c =
    let w = c.requires.scan.0 in
    let file = c.index-file.result.now in
    let folder = folder_of (scanned_path c.args.scan.now c.args.place) in
    let made : c.from_vec.result ≡ map (with_path w folder) c.in_ok-items.field-0.items = all_linked w c.args.scan.now folder c.as_slice.result.now c.in_ok-items.field-0.items c.into_vec-items.result.items c.link_items.new.items.items c.from_vec.result c.into_vec-items.ensures c.in_ok-link_items.ensures c.from_vec.ensures
    (subst (ArePlacesOf (paths_in c.args.scan.now.files.items) (map (link w folder) c.in_ok-items.field-0.items)) (sym c.as_slice.ensures.value)
    (places w c.args.scan.now (g.S.Syntax.answers c.args.syntax.now) c.requires.scan.1 c.args.place file c.requires.place c.index-file.ensures file.relative file.text refl refl c.in_ok-items.field-0 c.in_ok-items.ensures.read.said)) in
    let parsed = c.in_ok-items.field-0.items in
    let laws = c.in_ok-items.ensures.read.laws in
    record {
      priors = subst (All PriorsAreDependencies) (sym made) (priors_kept w folder parsed laws.priors);
      attributes = subst (All AttributesNameParameters) (sym made) (attributes_kept w folder parsed laws.attributes);
      constants = λ name number is here. laws.constants name number is (subst (λ ns. Contains ns number.0) (ap numbers_of_items made ∙ with_paths_numbers w folder parsed) here);
    }
