use Rattle.std.proofs.Common.{rules, ◌≡◌, ◌∙◌, ◌++◌, [], ◌∷◌, true, false, Some, None, is_some, sym, ap, subst}
use Rattle.std.specs.List.{filter}
use Rattle.std.proofs.lemmas.List.{map-append}
use Rattle.std.specs.Map.{keys_of}
use Rattle.just_table.specs.Entries.{shown, find, from_key, IsSorted}
use Rattle.just_names.specs.Texts.{texts}
use Rattle.just_loader.specs.ModuleFile.{slashed, after, is_module_name, is_module_file}
use Rattle.just_loader.proofs.Tables.{keyed_found}
use Rattle.just_loader.proofs.Folders.{none_in, some_with, stops, takes, skips, sorted_on, from_on}
use Rattle.just_loader.proofs.Passed.{AreFrom, are_from, sorted_from, selected_from}
use Rattle.just_loader.proofs.sources.Sources.module_files_in.Goals as goal

pub returns-in_default : goal.returns-in_default
returns-in_default c =
    let empty : texts c.new-paths.result.items ≡ [] = search rules in
    let none : is_some (find (slashed c.args.folder.now) c.self.inside.folders) ≡ false = search rules in
    rw (← c.self.view_is) (empty ∙ sym (none_in c.args.folder.now c.self.inside.folders c.self.inside.files c.self.invariant.2 none))

pub loop-path-init : goal.loop-path-init
loop-path-init c =
    let prefix = slashed c.args.folder.now in
    let held : find prefix c.self.inside.folders ≡ Some c.in-Some.start.now = search rules in
    let same : c.in-Some.start.now ≡ prefix = keyed_found (λ f. f) c.self.inside.folders prefix c.in-Some.start.now c.self.invariant.1 held in
    let listed : shown (λ k. k.now) c.into_iter-path-iterator.result ≡ from_key prefix c.self.inside.files = search rules in
    let empty : texts c.new-paths.result.items ≡ [] = search rules in
    record {
      can_next = tt;
      is_finite = tt;
      prefix = search rules;
      sorted = subst IsSorted (sym listed) (sorted_from prefix c.self.inside.files c.range_from-path-items.ensures.sorted);
      are_from = subst (AreFrom prefix) (sym listed) (are_from prefix c.self.inside.files);
      found =
          rw (← c.self.view_is)
          (ap (λ xs. xs ++ filter (is_module_file c.args.folder.now) (keys_of (shown (λ k. k.now) c.into_iter-path-iterator.result))) empty
          ∙ ap (λ es. filter (is_module_file c.args.folder.now) (keys_of es)) listed
          ∙ selected_from (is_module_file c.args.folder.now) prefix (some_with c.args.folder.now) c.self.inside.files);
    }

pub returns-in_default-after : goal.returns-in_default-after
returns-in_default-after c =
    let step : shown (λ k. k.now) c.loop-path.path-iterator ≡ (c.in-Some-2.path.now.now, c.in-Some-2.field-0-1.now) ∷ shown (λ k. k.now) c.next.new.self = search rules in
    let lacks : after (slashed c.args.folder.now) c.in-Some-2.path.now.now ≡ None = search rules in
    stops c.args.folder.now _ _ _ _ _ _ step c.loop-path.invariant.found c.loop-path.invariant.sorted c.loop-path.invariant.are_from lacks

pub loop-path-preserved-in-Continue-branch-2 : goal.loop-path-preserved-in-Continue-branch-2
loop-path-preserved-in-Continue-branch-2 c =
    let step : shown (λ k. k.now) c.loop-path.path-iterator ≡ (c.in-Some-2.path.now.now, c.in-Some-2.field-0-1.now) ∷ shown (λ k. k.now) c.next.new.self = search rules in
    let has : after (slashed c.args.folder.now) c.in-Some-2.path.now.now ≡ Some c.in-Some-after.name.now = search rules in
    let named : is_module_name c.in-Some-after.name.now ≡ true = search rules in
    let more : texts c.push.new.self.items ≡ texts c.loop-path.paths.items ++ c.in-Some-2.path.now.now ∷ [] =
    ap texts c.in_ok-push.ensures.items ∙ map-append (λ w. w.now) c.loop-path.paths.items (c.in-Some-2.path.now ∷ []) in
    record {
      can_next = tt;
      is_finite = tt;
      prefix = c.loop-path.invariant.prefix;
      sorted = sorted_on c.args.folder.now _ _ _ _ _ _ step c.loop-path.invariant.found c.loop-path.invariant.sorted;
      are_from = from_on c.args.folder.now _ _ _ _ _ _ step c.loop-path.invariant.found c.loop-path.invariant.are_from;
      found = ap (λ xs. xs ++ filter (is_module_file c.args.folder.now) (keys_of (shown (λ k. k.now) c.next.new.self))) more ∙ takes c.args.folder.now _ _ _ _ _ _ step c.loop-path.invariant.found c.in-Some-after.name.now has named;
    }

pub loop-path-preserved : goal.loop-path-preserved
loop-path-preserved c =
    let step : shown (λ k. k.now) c.loop-path.path-iterator ≡ (c.in-Some-2.path.now.now, c.in-Some-2.field-0-1.now) ∷ shown (λ k. k.now) c.next.new.self = search rules in
    let has : after (slashed c.args.folder.now) c.in-Some-2.path.now.now ≡ Some c.in-Some-after.name.now = search rules in
    let other : is_module_name c.in-Some-after.name.now ≡ false = search rules in
    record {
      can_next = tt;
      is_finite = tt;
      prefix = c.loop-path.invariant.prefix;
      sorted = sorted_on c.args.folder.now _ _ _ _ _ _ step c.loop-path.invariant.found c.loop-path.invariant.sorted;
      are_from = from_on c.args.folder.now _ _ _ _ _ _ step c.loop-path.invariant.found c.loop-path.invariant.are_from;
      found = skips c.args.folder.now _ _ _ _ _ _ step c.loop-path.invariant.found c.in-Some-after.name.now has other;
    }
