use Rattle.std.proofs.Common.{rules, ◌≡◌, ◌∙◌, ℕ, List, length, sym, ap, subst, arith}
use Rattle.std.specs.HashMap.{get}
use Rattle.std.specs.Map.{keys_of}
use Rattle.std.proofs.lemmas.Option.{get_or_from_slice_get, slice_get_within}
use Rattle.std.proofs.lemmas.Result.{IfErr-weaker}
use Rattle.just_graph.proofs.Index.{some_same}
use Rattle.just_justfile.specs.declared.justfile.Justfile.{Justfile}
use Rattle.just_parts.specs.Asts.{AstKey, same_ast_key}
use Rattle.just_parts.specs.Layers.{given_by}
use Rattle.just_errors.specs.Causes.{Reports}
use Rattle.just_errors.proofs.Lifts.{reports_by}
use Rattle.just_compiler.specs.Analyzed.{IsAnalyzed}
use Rattle.just_module_headers.specs.Joined.{AreArranged, AreGraphs}
use Rattle.just_compiled.specs.Labelled.{labelled_as}
use Rattle.just_module_tree.specs.Modules.{heading}
use Rattle.just_module_headers.specs.OfPlaces.{RepeatsNames}
use Rattle.just_compiler.specs.loops.Steps.{BreaksInOrder, CanCompileAll, HaveCompiled, made_in}
use Rattle.just_compiler.proofs.Analyzing.{all_can, broken_named, files_there, go_deeper, is_analyzed, repeats_named, root_held, rows_many}
use Rattle.just_module_headers.proofs.FilePlaces.{are_graphs, place_back}
use Rattle.just_module_headers.proofs.Holding.{holds_all, place_known}
use Rattle.just_compiler.proofs.analyzer.analyze_modules.Goals as goal

pub rows-requires : goal.rows-requires
rows-requires g c = holds_all (g.S.Syntax.answers c.args.given.now.syntax.now).enabled c.args.asts.now.entries c.in_ok-files.files c.in_ok-files.ensures c.requires.asts

pub place_of-requires : goal.place_of-requires
place_of-requires g c = place_known (g.S.Syntax.answers c.args.given.now.syntax.now).enabled c.args.asts.now.entries c.in_ok-files.files c.in_ok-files.ensures c.requires.asts (c.args.module_path.now, c.args.root.now) c.requires.held

pub arrange-requires-clause-graphs : goal.arrange-requires-clause-graphs
arrange-requires-clause-graphs g c =
    let key : AstKey = (c.args.module_path.now, c.args.root.now) in
    let given = given_by g.S.Syntax.answers g.E.ConstantEvaluation.answers c.args.given.now in
    let entries = c.args.asts.now.entries in
    subst (AreGraphs c.in_ok-rows.rows) (sym (rows_many given entries key c.in_ok-files.files c.in_ok-files.ensures c.in_ok-rows.rows c.in_ok-rows.ensures c.requires.asts))
    (are_graphs given.syntax.enabled entries key c.in_ok-files.files c.in_ok-files.ensures c.in_ok-rows.rows c.in_ok-rows.ensures c.requires.asts.paths)

pub arrange-requires-clause-root : goal.arrange-requires-clause-root
arrange-requires-clause-root g c =
    let key : AstKey = (c.args.module_path.now, c.args.root.now) in
    let given = given_by g.S.Syntax.answers g.E.ConstantEvaluation.answers c.args.given.now in
    let entries = c.args.asts.now.entries in
    let at = place_back (keys_of entries) key (get same_ast_key c.in_ok-files.files.places) c.in_ok-files.ensures.places key c.in_ok-place.place c.in_ok-place.ensures in
    omega (arith, slice_get_within (keys_of entries) c.in_ok-place.place key at, rows_many given entries key c.in_ok-files.files c.in_ok-files.ensures c.in_ok-rows.rows c.in_ok-rows.ensures c.requires.asts)

pub arrange-requires-clause-deeper : goal.arrange-requires-clause-deeper
arrange-requires-clause-deeper g c =
    go_deeper (given_by g.S.Syntax.answers g.E.ConstantEvaluation.answers c.args.given.now) c.args.asts.now.entries (c.args.module_path.now, c.args.root.now) c.in_ok-files.files c.in_ok-files.ensures c.in_ok-rows.rows c.in_ok-rows.ensures c.requires.asts

pub check_module_names-requires-clause-files : goal.check_module_names-requires-clause-files
check_module_names-requires-clause-files g c =
    let key : AstKey = (c.args.module_path.now, c.args.root.now) in
    let entries = c.args.asts.now.entries in
    let at = place_back (keys_of entries) key (get same_ast_key c.in_ok-files.files.places) c.in_ok-files.ensures.places key c.in_ok-place.place c.in_ok-place.ensures in
    files_there (given_by g.S.Syntax.answers g.E.ConstantEvaluation.answers c.args.given.now) entries key c.in_ok-files.files c.in_ok-files.ensures c.in_ok-rows.rows c.in_ok-rows.ensures c.requires.asts c.in_ok-place.place
    (slice_get_within (keys_of entries) c.in_ok-place.place key at) c.in_ok-joined.joined c.as_slice.result.now
    (subst (λ (o : List ℕ). AreArranged c.in_ok-rows.rows c.in_ok-place.place c.in_ok-joined.joined o) (sym c.as_slice.ensures.value) c.in_ok-joined.ensures)
    (heading key c.args.label) (sym (get_or_from_slice_get (keys_of entries) c.in_ok-place.place key key at))

pub returns-in_err-check_module_names-clause-named : goal.returns-in_err-check_module_names-clause-named
returns-in_err-check_module_names-clause-named g c =
    let key : AstKey = (c.args.module_path.now, c.args.root.now) in
    let given = given_by g.S.Syntax.answers g.E.ConstantEvaluation.answers c.args.given.now in
    let entries = c.args.asts.now.entries in
    let at = place_back (keys_of entries) key (get same_ast_key c.in_ok-files.files.places) c.in_ok-files.ensures.places key c.in_ok-place.place c.in_ok-place.ensures in
    let arranged = subst (λ (o : List ℕ). AreArranged c.in_ok-rows.rows c.in_ok-place.place c.in_ok-joined.joined o) (sym c.as_slice.ensures.value) c.in_ok-joined.ensures in
    IfErr-weaker c.from_residual-in_err-check_module_names.result (Reports (RepeatsNames given.syntax.enabled c.in_ok-files.files c.in_ok-joined.joined c.as_slice.result.now)) _
    (reports_by _ _ (repeats_named given entries key c.in_ok-files.files c.in_ok-files.ensures c.in_ok-rows.rows c.in_ok-rows.ensures c.requires.asts c.in_ok-place.place
    (slice_get_within (keys_of entries) c.in_ok-place.place key at) c.in_ok-joined.joined c.as_slice.result.now arranged (heading key c.args.label) (sym (get_or_from_slice_get (keys_of entries) c.in_ok-place.place key key at))))
    (search rules)

pub compile_in_order-requires : goal.compile_in_order-requires
compile_in_order-requires g c =
    let key : AstKey = (c.args.module_path.now, c.args.root.now) in
    let entries = c.args.asts.now.entries in
    let at = place_back (keys_of entries) key (get same_ast_key c.in_ok-files.files.places) c.in_ok-files.ensures.places key c.in_ok-place.place c.in_ok-place.ensures in
    let arranged = subst (λ (o : List ℕ). AreArranged c.in_ok-rows.rows c.in_ok-place.place c.in_ok-joined.joined o) (sym c.as_slice.ensures.value) c.in_ok-joined.ensures in
    subst (CanCompileAll (g.S.Syntax.answers c.args.given.now.syntax.now).enabled c.in_ok-files.files c.in_ok-joined.joined) (c.as_slice.ensures.value ∙ sym c.as_slice-2.ensures.value)
    (all_can (given_by g.S.Syntax.answers g.E.ConstantEvaluation.answers c.args.given.now) entries key c.in_ok-files.files c.in_ok-files.ensures c.in_ok-rows.rows c.in_ok-rows.ensures c.requires.asts c.in_ok-place.place
    (slice_get_within (keys_of entries) c.in_ok-place.place key at) c.in_ok-joined.joined c.as_slice.result.now arranged (heading key c.args.label) (sym (get_or_from_slice_get (keys_of entries) c.in_ok-place.place key key at))
    c.in_ok-check_module_names.ensures.kept)

pub returns-in_err-slots-clause-named : goal.returns-in_err-slots-clause-named
returns-in_err-slots-clause-named g c =
    let key : AstKey = (c.args.module_path.now, c.args.root.now) in
    let given = given_by g.S.Syntax.answers g.E.ConstantEvaluation.answers c.args.given.now in
    let entries = c.args.asts.now.entries in
    let at = place_back (keys_of entries) key (get same_ast_key c.in_ok-files.files.places) c.in_ok-files.ensures.places key c.in_ok-place.place c.in_ok-place.ensures in
    let arranged = subst (λ (o : List ℕ). AreArranged c.in_ok-rows.rows c.in_ok-place.place c.in_ok-joined.joined o) (sym c.as_slice.ensures.value) c.in_ok-joined.ensures in
    IfErr-weaker c.from_residual-in_err-slots.result (Reports (BreaksInOrder given c.in_ok-files.files c.in_ok-joined.joined c.args.loaded.now c.as_slice-2.result.now)) _
    (λ e h. reports_by _ _ (broken_named given entries key c.in_ok-files.files c.in_ok-files.ensures c.in_ok-rows.rows c.in_ok-rows.ensures c.requires.asts c.in_ok-place.place
    (slice_get_within (keys_of entries) c.in_ok-place.place key at) c.in_ok-joined.joined c.as_slice.result.now arranged (heading key c.args.label) (sym (get_or_from_slice_get (keys_of entries) c.in_ok-place.place key key at))
    c.in_ok-check_module_names.ensures.kept c.args.loaded.now) e (subst (λ (o : List ℕ). Reports (BreaksInOrder given c.in_ok-files.files c.in_ok-joined.joined c.args.loaded.now o) e) (c.as_slice-2.ensures.value ∙ sym c.as_slice.ensures.value) h))
    (search rules)

pub take_at-justfile-requires-clause-inside : goal.take_at-justfile-requires-clause-inside
take_at-justfile-requires-clause-inside g c =
    let key : AstKey = (c.args.module_path.now, c.args.root.now) in
    let given = given_by g.S.Syntax.answers g.E.ConstantEvaluation.answers c.args.given.now in
    let entries = c.args.asts.now.entries in
    let at = place_back (keys_of entries) key (get same_ast_key c.in_ok-files.files.places) c.in_ok-files.ensures.places key c.in_ok-place.place c.in_ok-place.ensures in
    omega (
      arith,
      slice_get_within (keys_of entries) c.in_ok-place.place key at,
      rows_many given entries key c.in_ok-files.files c.in_ok-files.ensures c.in_ok-rows.rows c.in_ok-rows.ensures c.requires.asts,
      c.in_ok-rows.ensures.imports.count,
      c.in_ok-slots.ensures.compiled.room,
    )

pub take_at-justfile-requires-clause-there : goal.take_at-justfile-requires-clause-there
take_at-justfile-requires-clause-there g c =
    let key : AstKey = (c.args.module_path.now, c.args.root.now) in
    let given = given_by g.S.Syntax.answers g.E.ConstantEvaluation.answers c.args.given.now in
    let entries = c.args.asts.now.entries in
    let at = place_back (keys_of entries) key (get same_ast_key c.in_ok-files.files.places) c.in_ok-files.ensures.places key c.in_ok-place.place c.in_ok-place.ensures in
    let arranged = subst (λ (o : List ℕ). AreArranged c.in_ok-rows.rows c.in_ok-place.place c.in_ok-joined.joined o) (sym c.as_slice.ensures.value) c.in_ok-joined.ensures in
    let so = subst (λ (o : List ℕ). HaveCompiled given c.in_ok-files.files c.in_ok-joined.joined c.args.loaded.now o (length o) c.in_ok-slots.slots.items (made_in c.in_ok-slots.gathered)) (c.as_slice-2.ensures.value ∙ sym c.as_slice.ensures.value) c.in_ok-slots.ensures.compiled in (
      so.justfile c.in_ok-place.place,
      root_held given entries key c.in_ok-files.files c.in_ok-files.ensures c.in_ok-rows.rows c.in_ok-rows.ensures c.requires.asts c.in_ok-place.place
          (slice_get_within (keys_of entries) c.in_ok-place.place key at) c.in_ok-joined.joined c.as_slice.result.now arranged (heading key c.args.label) (sym (get_or_from_slice_get (keys_of entries) c.in_ok-place.place key key at))
          c.in_ok-check_module_names.ensures.kept c.args.loaded.now c.in_ok-slots.slots.items (made_in c.in_ok-slots.gathered) so,
    )

pub returns-clause-analyzed : goal.returns-clause-analyzed
returns-clause-analyzed g c =
    let key : AstKey = (c.args.module_path.now, c.args.root.now) in
    let given = given_by g.S.Syntax.answers g.E.ConstantEvaluation.answers c.args.given.now in
    let entries = c.args.asts.now.entries in
    let at = place_back (keys_of entries) key (get same_ast_key c.in_ok-files.files.places) c.in_ok-files.ensures.places key c.in_ok-place.place c.in_ok-place.ensures in
    let arranged = subst (λ (o : List ℕ). AreArranged c.in_ok-rows.rows c.in_ok-place.place c.in_ok-joined.joined o) (sym c.as_slice.ensures.value) c.in_ok-joined.ensures in
    let so = subst (λ (o : List ℕ). HaveCompiled given c.in_ok-files.files c.in_ok-joined.joined c.args.loaded.now o (length o) c.in_ok-slots.slots.items (made_in c.in_ok-slots.gathered)) (c.as_slice-2.ensures.value ∙ sym c.as_slice.ensures.value) c.in_ok-slots.ensures.compiled in
    let held = root_held given entries key c.in_ok-files.files c.in_ok-files.ensures c.in_ok-rows.rows c.in_ok-rows.ensures c.requires.asts c.in_ok-place.place
    (slice_get_within (keys_of entries) c.in_ok-place.place key at) c.in_ok-joined.joined c.as_slice.result.now arranged (heading key c.args.label) (sym (get_or_from_slice_get (keys_of entries) c.in_ok-place.place key key at))
    c.in_ok-check_module_names.ensures.kept c.args.loaded.now c.in_ok-slots.slots.items (made_in c.in_ok-slots.gathered) so in
    let taken : c.take_at-justfile.result ≡ so.justfile c.in_ok-place.place = some_same (sym c.take_at-justfile.ensures.taken ∙ held) in
    subst (λ (j : Justfile). IsAnalyzed given (get same_ast_key c.args.asts.now) c.args.loaded.now (heading key c.args.label) j c.in_ok-slots.gathered.recipes c.in_ok-slots.gathered.overridden.items) (sym (c.labelled.ensures ∙ ap (labelled_as c.args.label) taken))
    (is_analyzed given entries key c.in_ok-files.files c.in_ok-files.ensures c.in_ok-rows.rows c.in_ok-rows.ensures c.requires.asts c.in_ok-place.place
    (slice_get_within (keys_of entries) c.in_ok-place.place key at) c.in_ok-joined.joined c.as_slice.result.now arranged (heading key c.args.label) (sym (get_or_from_slice_get (keys_of entries) c.in_ok-place.place key key at))
    c.in_ok-check_module_names.ensures.kept c.args.loaded.now c.in_ok-slots.slots.items (made_in c.in_ok-slots.gathered) so c.requires.label c.are_ordered.ensures)
