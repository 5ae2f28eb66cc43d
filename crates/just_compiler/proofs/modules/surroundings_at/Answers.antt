use Rattle.std.proofs.Common.{◌≡◌, ◌<◌, ◌∙◌, Bor, ℕ, List, Some, length, map, refl, sym, ap, subst, arith}
use Rattle.std.specs.List.{All, Contains, slice_get}
use Rattle.std.proofs.lemmas.Option.{slice_get_read}
use Rattle.just_graph.specs.Steps.{IsOnce}
use Rattle.just_graph.proofs.Index.{map_get}
use Rattle.just_parts.specs.Asts.{AstKey}
use Rattle.just_module_headers.specs.Files.{asts_in, keys_in}
use Rattle.just_module_headers.proofs.Joining.{row_lent}
use Rattle.just_compiled.specs.Labelled.{slot}
use Rattle.just_module_assembly.specs.Noted.{notes_from}
use Rattle.just_compiler.proofs.modules.surroundings_at.Goals as goal

pub take_inner-requires-clause-inside : goal.take_inner-requires-clause-inside
take_inner-requires-clause-inside g c =
    let inner_row = row_lent c.args.joined.now.modules.items c.args.place c.index-3.result.now c.as_slice-2.result.now (omega (arith, c.requires.fits.ready.there, c.requires.fits.modules_room)) c.index-3.ensures c.as_slice-2.ensures.value in
    subst (λ n. All (λ q. q < n) c.as_slice-2.result.now) (sym c.requires.fits.room) (subst (λ (xs : List ℕ). All (λ q. q < length c.args.files.now.asts.items) xs) (sym inner_row) c.requires.fits.ready.modules_there)

pub take_inner-requires-clause-once : goal.take_inner-requires-clause-once
take_inner-requires-clause-once g c =
    let inner_row = row_lent c.args.joined.now.modules.items c.args.place c.index-3.result.now c.as_slice-2.result.now (omega (arith, c.requires.fits.ready.there, c.requires.fits.modules_room)) c.index-3.ensures c.as_slice-2.ensures.value in
    subst IsOnce (sym inner_row) c.requires.fits.ready.apart

pub take_inner-requires-clause-there : goal.take_inner-requires-clause-there
take_inner-requires-clause-there g c =
    let inner_row = row_lent c.args.joined.now.modules.items c.args.place c.index-3.result.now c.as_slice-2.result.now (omega (arith, c.requires.fits.ready.there, c.requires.fits.modules_room)) c.index-3.ensures c.as_slice-2.ensures.value in
    (c.requires.fits.inner.0, c.requires.fits.inner.1 ∙ ap (map (slot c.args.slots.now.items)) (sym inner_row))

pub take_inner-requires-clause-labels : goal.take_inner-requires-clause-labels
take_inner-requires-clause-labels g c =
    let inner_row = row_lent c.args.joined.now.modules.items c.args.place c.index-3.result.now c.as_slice-2.result.now (omega (arith, c.requires.fits.ready.there, c.requires.fits.modules_room)) c.index-3.ensures c.as_slice-2.ensures.value in
    c.requires.labels ∙ ap length (sym inner_row)

pub notes_at-requires : goal.notes_at-requires
notes_at-requires g c =
    let row = row_lent c.args.joined.now.files.items c.args.place c.index-2.result.now c.as_slice.result.now (omega (arith, c.requires.fits.ready.there, c.requires.fits.files_room)) c.index-2.ensures c.as_slice.ensures.value in
    subst (λ (xs : List ℕ). All (λ q. q < length c.args.files.now.asts.items) xs) (sym row) c.requires.fits.ready.files_there

pub returns-clause-made : goal.returns-clause-made
returns-clause-made g c =
    let inner_row = row_lent c.args.joined.now.modules.items c.args.place c.index-3.result.now c.as_slice-2.result.now (omega (arith, c.requires.fits.ready.there, c.requires.fits.modules_room)) c.index-3.ensures c.as_slice-2.ensures.value in
    let row = row_lent c.args.joined.now.files.items c.args.place c.index-2.result.now c.as_slice.result.now (omega (arith, c.requires.fits.ready.there, c.requires.fits.files_room)) c.index-2.ensures c.as_slice.ensures.value in
    let key : slice_get (keys_in c.args.files.now) c.args.place ≡ Some c.index.result.now.now =
    map_get (λ (k : Bor AstKey). k.now) c.args.files.now.keys.items c.args.place c.index.result.now (slice_get_read c.args.files.now.keys.items (length c.args.files.now.keys.items) c.args.place c.index.result.now refl (omega (arith, c.requires.fits.ready.there, c.requires.fits.keys)) c.index.ensures) in
    record {
      loaded_are = c.in_ok-loaded.ensures.cases;
      key = c.index.result.now.now;
      key_is = key;
      source_is = c.in_ok-source.ensures ∙ c.as_str.ensures;
      notes_are = c.in_ok-notes.ensures ∙ ap (notes_from (g.S.Syntax.answers c.args.given.now.syntax.now).enabled (asts_in c.args.files.now)) row;
      modules_are = λ inner e. c.in_ok-modules.ensures.modules inner (e ∙ ap (map (slot c.args.slots.now.items)) (sym inner_row));
    }

pub returns-clause-others : goal.returns-clause-others
returns-clause-others g c =
    let inner_row = row_lent c.args.joined.now.modules.items c.args.place c.index-3.result.now c.as_slice-2.result.now (omega (arith, c.requires.fits.ready.there, c.requires.fits.modules_room)) c.index-3.ensures c.as_slice-2.ensures.value in
    λ q out. c.in_ok-modules.ensures.others q (λ x. out (subst (λ xs. Contains xs q) inner_row x))
