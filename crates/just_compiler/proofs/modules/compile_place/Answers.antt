use Rattle.std.proofs.Common.{rules, ◌≡◌, ◌<◌, ◌∙◌, ℕ, List, Some, None, Ok, Err, length, sym, ap, subst, arith}
use Rattle.std.specs.Prelude.{IfErr, IsErrAnd, Result}
use Rattle.std.specs.List.{All, Contains}
use Rattle.std.proofs.lemmas.List.{get_or-set_other, get_or-set_same, length-set}
use Rattle.std.proofs.lemmas.Result.{IfErr-weaker}
use Rattle.just_graph.specs.Steps.{IsOnce}
use Rattle.just_errors.specs.Causes.{Reports}
use Rattle.just_errors.proofs.Lifts.{reports_by}
use Rattle.just_module_headers.specs.Analyzable.{assignment_numbers}
use Rattle.just_module_contents.specs.Contents.{Contents, texts_of_named}
use Rattle.just_module_contents.specs.Definitions.{contents_in}
use Rattle.just_module_headers.specs.Files.{asts_in}
use Rattle.just_module_contents.specs.Groups.{BreaksContents}
use Rattle.just_module_checks.specs.Checked.{no_links}
use Rattle.just_module_assembly.specs.loops.Noted.{notes_of_place}
use Rattle.just_compiler.specs.loops.Parts.{TellsChecked, around_by}
use Rattle.just_compiler.specs.loops.Steps.{BreaksOver, BreaksPlace, made_in}
use Rattle.just_module_headers.specs.loops.OfPlaces.{contents_of_place}
use Rattle.just_compiler.proofs.Linking.{links_of, recipes_kept_over}
use Rattle.just_compiled.proofs.Settling.{around_settled, named_settled, ordered_by_name, settled_ordered}
use Rattle.just_graph.proofs.Members.{contained}
use Rattle.just_justfile.specs.Walks.{AreOrdered}
use Rattle.just_module_contents.specs.declared.notes.Notes.{Notes}
use Rattle.just_module_recipes.specs.Links.{Around, around_recipes}
use Rattle.just_module_recipes.specs.loops.Links.{links_by, told_by}
use Rattle.just_module_contents.specs.Named.{contents_from, naming_by, said_from, variable_by}
use Rattle.just_module_contents.specs.Resolved.{HasPriors, unresolved_numbers}
use Rattle.just_module_headers.proofs.Joining.{row_lent}
use Rattle.just_names.specs.Index.{AreDifferent}
use Rattle.just_compiled.specs.Labelled.{by_name, with_labels}
use Rattle.just_compiled.specs.Variables.{HasVariables}
use Rattle.just_compiled.proofs.Makings.{is_of_same}
use Rattle.just_compiled.proofs.NumbersApart.{has_tables}
use Rattle.just_compiler.proofs.Placed.{breaks_place, breaks_recipes, contents_are, evaluated_to, is_covered, keeps_place, labels_many, labels_named, numbers_told, own_numbers, variables_resolved}
use Rattle.just_compiler.proofs.modules.compile_place.Goals as goal
use Rattle.just_parts.specs.Layers.{given_by, layers_at}

pub check_files-requires-clause-places : goal.check_files-requires-clause-places
check_files-requires-clause-places g c =
    let row = row_lent c.args.joined.now.files.items c.args.place c.index.result.now c.as_slice-row.result.now (omega (arith, c.requires.fits.ready.there, c.requires.fits.files_room)) c.index.ensures c.as_slice-row.ensures.value in
    subst (λ (xs : List ℕ). All (λ q. q < length c.args.files.now.asts.items) xs) (sym row) c.requires.fits.ready.files_there

pub check_files-requires-clause-names : goal.check_files-requires-clause-names
check_files-requires-clause-names g c =
    let row = row_lent c.args.joined.now.files.items c.args.place c.index.result.now c.as_slice-row.result.now (omega (arith, c.requires.fits.ready.there, c.requires.fits.files_room)) c.index.ensures c.as_slice-row.ensures.value in
    subst (λ (xs : List ℕ). AreDifferent (texts_of_named (said_from naming_by (g.S.Syntax.answers c.args.given.now.syntax.now).enabled (asts_in c.args.files.now) xs))) (sym row) c.requires.fits.ready.different

pub check_files-requires-clause-numbers : goal.check_files-requires-clause-numbers
check_files-requires-clause-numbers g c =
    let row = row_lent c.args.joined.now.files.items c.args.place c.index.result.now c.as_slice-row.result.now (omega (arith, c.requires.fits.ready.there, c.requires.fits.files_room)) c.index.ensures c.as_slice-row.ensures.value in
    subst (λ (xs : List ℕ). IsOnce (assignment_numbers (said_from variable_by (g.S.Syntax.answers c.args.given.now.syntax.now).enabled (asts_in c.args.files.now) xs))) (sym row) c.requires.fits.ready.variables

pub returns-in_err-checked-clause-named : goal.returns-in_err-checked-clause-named
returns-in_err-checked-clause-named g c =
    let row = row_lent c.args.joined.now.files.items c.args.place c.index.result.now c.as_slice-row.result.now (omega (arith, c.requires.fits.ready.there, c.requires.fits.files_room)) c.index.ensures c.as_slice-row.ensures.value in
    let here = contents_from (g.S.Syntax.answers c.args.given.now.syntax.now).enabled (asts_in c.args.files.now) c.as_slice-row.result.now in
    let layers = layers_at (given_by g.S.Syntax.answers g.E.ConstantEvaluation.answers c.args.given.now) c.ast_at-ast.result.now.module_path in
    IfErr-weaker c.from_residual.result (Reports (BreaksContents layers no_links no_links here)) _
    (reports_by _ _ (breaks_place (given_by g.S.Syntax.answers g.E.ConstantEvaluation.answers c.args.given.now) c.args.files.now c.args.joined.now c.args.place c.as_slice-row.result.now row c.ast_at-ast.result.now c.ast_at-ast.ensures c.args.slots.now.items c.args.gathered.recipes)) (search rules)

pub surroundings_at-requires-clause-labels : goal.surroundings_at-requires-clause-labels
surroundings_at-requires-clause-labels g c =
    let row = row_lent c.args.joined.now.files.items c.args.place c.index.result.now c.as_slice-row.result.now (omega (arith, c.requires.fits.ready.there, c.requires.fits.files_room)) c.index.ensures c.as_slice-row.ensures.value in
    ap length c.as_slice.ensures.value ∙ labels_many (given_by g.S.Syntax.answers g.E.ConstantEvaluation.answers c.args.given.now) c.args.files.now c.args.joined.now c.args.place c.as_slice-row.result.now row c.ast_at-ast.result.now c.ast_at-ast.ensures c.in_ok-checked.checked c.in_ok-checked.ensures.checked c.in_ok-checked.ensures.kept ∙ c.requires.fits.ready.labels

pub analyze_checked-requires-clause-once : goal.analyze_checked-requires-clause-once
analyze_checked-requires-clause-once g c =
    let row = row_lent c.args.joined.now.files.items c.args.place c.index.result.now c.as_slice-row.result.now (omega (arith, c.requires.fits.ready.there, c.requires.fits.files_room)) c.index.ensures c.as_slice-row.ensures.value in
    subst (λ (m : Contents). IsOnce (unresolved_numbers m.recipes)) (sym (contents_are (given_by g.S.Syntax.answers g.E.ConstantEvaluation.answers c.args.given.now) c.args.files.now c.args.joined.now c.args.place c.as_slice-row.result.now row c.ast_at-ast.result.now c.ast_at-ast.ensures c.in_ok-checked.checked c.in_ok-checked.ensures.checked c.in_ok-checked.ensures.kept)) c.requires.fits.ready.numbers

pub analyze_checked-requires-clause-priors : goal.analyze_checked-requires-clause-priors
analyze_checked-requires-clause-priors g c =
    let row = row_lent c.args.joined.now.files.items c.args.place c.index.result.now c.as_slice-row.result.now (omega (arith, c.requires.fits.ready.there, c.requires.fits.files_room)) c.index.ensures c.as_slice-row.ensures.value in
    subst (λ (m : Contents). All HasPriors m.recipes) (sym (contents_are (given_by g.S.Syntax.answers g.E.ConstantEvaluation.answers c.args.given.now) c.args.files.now c.args.joined.now c.args.place c.as_slice-row.result.now row c.ast_at-ast.result.now c.ast_at-ast.ensures c.in_ok-checked.checked c.in_ok-checked.ensures.checked c.in_ok-checked.ensures.kept)) c.requires.fits.ready.priors

pub analyze_checked-requires-clause-apart : goal.analyze_checked-requires-clause-apart
analyze_checked-requires-clause-apart g c =
    let row = row_lent c.args.joined.now.files.items c.args.place c.index.result.now c.as_slice-row.result.now (omega (arith, c.requires.fits.ready.there, c.requires.fits.files_room)) c.index.ensures c.as_slice-row.ensures.value in
    λ n a b. c.requires.apart n a (subst (λ (m : Contents). Contains (unresolved_numbers m.recipes) n) (contents_are (given_by g.S.Syntax.answers g.E.ConstantEvaluation.answers c.args.given.now) c.args.files.now c.args.joined.now c.args.place c.as_slice-row.result.now row c.ast_at-ast.result.now c.ast_at-ast.ensures c.in_ok-checked.checked c.in_ok-checked.ensures.checked c.in_ok-checked.ensures.kept) b)

pub analyze_checked-requires-clause-variables : goal.analyze_checked-requires-clause-variables
analyze_checked-requires-clause-variables g c =
    let row = row_lent c.args.joined.now.files.items c.args.place c.index.result.now c.as_slice-row.result.now (omega (arith, c.requires.fits.ready.there, c.requires.fits.files_room)) c.index.ensures c.as_slice-row.ensures.value in
    variables_resolved (given_by g.S.Syntax.answers g.E.ConstantEvaluation.answers c.args.given.now) c.args.files.now c.args.joined.now c.args.place c.as_slice-row.result.now row c.ast_at-ast.result.now c.ast_at-ast.ensures c.in_ok-checked.checked c.in_ok-checked.ensures.checked c.in_ok-checked.ensures.kept

pub analyze_checked-requires-clause-covered : goal.analyze_checked-requires-clause-covered
analyze_checked-requires-clause-covered g c =
    let row = row_lent c.args.joined.now.files.items c.args.place c.index.result.now c.as_slice-row.result.now (omega (arith, c.requires.fits.ready.there, c.requires.fits.files_room)) c.index.ensures c.as_slice-row.ensures.value in
    is_covered (given_by g.S.Syntax.answers g.E.ConstantEvaluation.answers c.args.given.now) c.args.files.now c.args.joined.now c.args.place c.as_slice-row.result.now row c.ast_at-ast.result.now c.ast_at-ast.ensures c.in_ok-checked.checked c.in_ok-checked.ensures.checked c.in_ok-checked.ensures.kept

pub analyze_checked-requires-clause-numbers : goal.analyze_checked-requires-clause-numbers
analyze_checked-requires-clause-numbers g c =
    let row = row_lent c.args.joined.now.files.items c.args.place c.index.result.now c.as_slice-row.result.now (omega (arith, c.requires.fits.ready.there, c.requires.fits.files_room)) c.index.ensures c.as_slice-row.ensures.value in
    numbers_told (given_by g.S.Syntax.answers g.E.ConstantEvaluation.answers c.args.given.now) c.args.files.now c.args.joined.now c.args.place c.as_slice-row.result.now row c.ast_at-ast.result.now c.ast_at-ast.ensures c.in_ok-checked.checked c.in_ok-checked.ensures.checked c.in_ok-checked.ensures.kept

pub analyze_checked-requires-clause-own : goal.analyze_checked-requires-clause-own
analyze_checked-requires-clause-own g c = λ n a b.
    c.requires.apart n a (own_numbers (g.S.Syntax.answers c.args.given.now.syntax.now).enabled c.args.files.now c.args.joined.now c.args.place c.ast_at-ast.result.now c.ast_at-ast.ensures c.requires.fits.ready.own n b)

pub analyze_checked-requires-clause-ordered : goal.analyze_checked-requires-clause-ordered
analyze_checked-requires-clause-ordered g c =
    let inner = c.requires.fits.inner in
    subst AreOrdered (sym (c.in_ok-surroundings.ensures.made.modules_are inner.0 inner.1))
    (ordered_by_name inner.0 c.as_slice.result.now (λ j i. settled_ordered (c.requires.settled inner.0 inner.1 j (contained j inner.0 i))))

pub analyze_checked-requires-clause-settled : goal.analyze_checked-requires-clause-settled
analyze_checked-requires-clause-settled g c =
    let there = c.in_ok-surroundings.ensures.made in
    let inner = c.requires.fits.inner in
    around_settled c.args.gathered.recipes c.in_ok-surroundings.surroundings.notes.absent_modules c.in_ok-surroundings.surroundings.modules
    (λ x h. named_settled c.args.gathered.recipes inner.0 c.as_slice.result.now (λ j i. c.requires.settled inner.0 inner.1 j (contained j inner.0 i)) x (subst (λ ms. Contains ms x) (there.modules_are inner.0 inner.1) h))

-- what is told where an error is passed on is told of it
from_error : {A E : Type 0} (P : E → Type 0) (r : Result A E) (e : E) → IsErrAnd r (λ y. y ≡ e) → P e → IfErr r P
from_error P (Ok x) e h p = tt
from_error P (Err y) e h p = subst P (sym h) p

pub returns-in_err-justfile-clause-named : goal.returns-in_err-justfile-clause-named
returns-in_err-justfile-clause-named g c =
    let row = row_lent c.args.joined.now.files.items c.args.place c.index.result.now c.as_slice-row.result.now (omega (arith, c.requires.fits.ready.there, c.requires.fits.files_room)) c.index.ensures c.as_slice-row.ensures.value in
    let checked = c.in_ok-checked.checked in
    let around = c.in_ok-surroundings.surroundings in
    let there = c.in_ok-surroundings.ensures.made in
    let m = contents_are (given_by g.S.Syntax.answers g.E.ConstantEvaluation.answers c.args.given.now) c.args.files.now c.args.joined.now c.args.place c.as_slice-row.result.now row c.ast_at-ast.result.now c.ast_at-ast.ensures c.in_ok-checked.checked c.in_ok-checked.ensures.checked c.in_ok-checked.ensures.kept in
    let links = links_by (contents_in checked.definitions) (around_by around c.args.gathered.recipes) in
    let told = told_by (contents_in checked.definitions) (around_by around c.args.gathered.recipes) in
    let breaks = TellsChecked (layers_at (given_by g.S.Syntax.answers g.E.ConstantEvaluation.answers c.args.given.now) c.ast_at-ast.result.now.module_path) checked (around_by around c.args.gathered.recipes) in
    let over = BreaksOver (given_by g.S.Syntax.answers g.E.ConstantEvaluation.answers c.args.given.now) c.args.files.now c.args.joined.now c.args.place c.args.slots.now.items c.args.gathered.recipes in
    IfErr-weaker c.from_residual-in_err-justfile.result (Reports breaks) _
    (λ error h. reports_by breaks over (λ e b. record {
      labels = checked.labels.items;
      named = labels_named (given_by g.S.Syntax.answers g.E.ConstantEvaluation.answers c.args.given.now) c.args.files.now c.args.joined.now c.args.place c.as_slice-row.result.now row c.ast_at-ast.result.now c.ast_at-ast.ensures c.in_ok-checked.checked c.in_ok-checked.ensures.checked c.in_ok-checked.ensures.kept;
      broken = λ inner same.
          let about : around_by around c.args.gathered.recipes ≡ around_recipes (notes_of_place (g.S.Syntax.answers c.args.given.now.syntax.now).enabled c.args.files.now c.args.joined.now c.args.place).absent_modules (by_name (with_labels inner checked.labels.items)) c.args.gathered.recipes =
          λ i. around_recipes (ap (λ (n : Notes). n.absent_modules) there.notes_are i) ((there.modules_are inner same ∙ ap (λ labels. by_name (with_labels inner labels)) c.as_slice.ensures.value) i) c.args.gathered.recipes in
          subst (λ (x : Around). BreaksPlace (given_by g.S.Syntax.answers g.E.ConstantEvaluation.answers c.args.given.now) c.args.files.now c.args.joined.now c.args.place (links_by (contents_of_place (g.S.Syntax.answers c.args.given.now.syntax.now).enabled c.args.files.now c.args.joined.now c.args.place) x) (told_by (contents_of_place (g.S.Syntax.answers c.args.given.now.syntax.now).enabled c.args.files.now c.args.joined.now c.args.place) x) e) about
          (subst (λ (n : Contents). BreaksPlace (given_by g.S.Syntax.answers g.E.ConstantEvaluation.answers c.args.given.now) c.args.files.now c.args.joined.now c.args.place (links_by n (around_by around c.args.gathered.recipes)) (told_by n (around_by around c.args.gathered.recipes)) e) m
          (breaks_recipes (given_by g.S.Syntax.answers g.E.ConstantEvaluation.answers c.args.given.now) c.args.files.now c.args.joined.now c.args.place c.as_slice-row.result.now row c.ast_at-ast.result.now c.ast_at-ast.ensures c.in_ok-checked.checked c.in_ok-checked.ensures.checked c.in_ok-checked.ensures.kept links told e b));
    }) error h) (from_error (Reports breaks) c.from_residual-in_err-justfile.result c.in_err-justfile.field-0.0 (search rules) c.in_err-justfile.ensures.named)

pub returns-clause-compiled : goal.returns-clause-compiled
returns-clause-compiled g c =
    let row = row_lent c.args.joined.now.files.items c.args.place c.index.result.now c.as_slice-row.result.now (omega (arith, c.requires.fits.ready.there, c.requires.fits.files_room)) c.index.ensures c.as_slice-row.ensures.value in
    let answers = g.S.Syntax.answers c.args.given.now.syntax.now in
    let own = c.ast_at-ast.result.now in
    let checked = c.in_ok-checked.checked in
    let around = c.in_ok-surroundings.surroundings in
    let there = c.in_ok-surroundings.ensures.made in
    let justfile = c.in_ok-justfile.justfile in
    let analyzed = c.in_ok-justfile.ensures.analyzed in
    let room : c.args.place < length c.surroundings_at.new.slots.items = omega (arith, c.in_ok-surroundings.ensures.room, c.requires.fits.room, c.requires.fits.ready.there) in
    let m = contents_are (given_by g.S.Syntax.answers g.E.ConstantEvaluation.answers c.args.given.now) c.args.files.now c.args.joined.now c.args.place c.as_slice-row.result.now row c.ast_at-ast.result.now c.ast_at-ast.ensures c.in_ok-checked.checked c.in_ok-checked.ensures.checked c.in_ok-checked.ensures.kept in
    let has = subst (λ n. HasVariables (g.S.Syntax.answers c.args.given.now.syntax.now) n justfile) m analyzed.variables in
    record {
      made = record { recipes = analyzed.linked.linked.added; overridden = checked.constants.overridden.items };
      justfile = justfile;
      recipes = analyzed.linked.linked.appended;
      overridden = analyzed.overridden;
      compiled = λ inner e. record {
        own = own;
        own_said = c.ast_at-ast.ensures;
        key = there.key;
        key_is = there.key_is;
        kept = keeps_place (given_by g.S.Syntax.answers g.E.ConstantEvaluation.answers c.args.given.now) c.args.files.now c.args.joined.now c.args.place c.as_slice-row.result.now row c.ast_at-ast.result.now c.ast_at-ast.ensures c.in_ok-checked.checked c.in_ok-checked.ensures.checked c.in_ok-checked.ensures.kept _ (recipes_kept_over (layers_at (given_by g.S.Syntax.answers g.E.ConstantEvaluation.answers c.args.given.now) own.module_path) own checked around (made_in c.args.gathered) (made_in c.in_ok-justfile.gathered) justfile analyzed _ m);
        standing = analyzed.standing;
        links = links_of (layers_at (given_by g.S.Syntax.answers g.E.ConstantEvaluation.answers c.args.given.now) own.module_path) own checked around (made_in c.args.gathered) (made_in c.in_ok-justfile.gathered) justfile analyzed _ m;
        labels = checked.labels.items;
        evaluated = evaluated_to (given_by g.S.Syntax.answers g.E.ConstantEvaluation.answers c.args.given.now) c.args.files.now c.args.joined.now c.args.place c.as_slice-row.result.now row c.ast_at-ast.result.now c.ast_at-ast.ensures c.in_ok-checked.checked c.in_ok-checked.ensures.checked c.in_ok-checked.ensures.kept justfile analyzed.settings analyzed.own_overrides;
        variables = has;
        tables = has_tables (g.S.Syntax.answers c.args.given.now.syntax.now) _ justfile c.requires.fits.ready.variables has;
        default = analyzed.default;
        fields = is_of_same (contents_in checked.definitions) _ analyzed.standing own around.loaded c.args.loaded.now around.source there.key.1 justfile m there.loaded_are there.source_is analyzed.fields;
        notes = analyzed.notes ∙ there.notes_are;
        modules = analyzed.modules ∙ there.modules_are inner e ∙ ap (λ labels. by_name (with_labels inner labels)) c.as_slice.ensures.value;
      };
      here = get_or-set_same c.surroundings_at.new.slots.items c.args.place (Some justfile) None room;
      others = λ q ne out. get_or-set_other c.surroundings_at.new.slots.items c.args.place q (Some justfile) None ne ∙ c.in_ok-surroundings.ensures.others q out;
      room = length-set c.surroundings_at.new.slots.items c.args.place (Some justfile) ∙ c.in_ok-surroundings.ensures.room;
    }

pub returns-in_err-surroundings-clause-named : goal.returns-in_err-surroundings-clause-named
returns-in_err-surroundings-clause-named g c = search (rules, c.from_residual-in_err-surroundings.ensures.1, c.from_residual-in_err-surroundings.ensures.0)
