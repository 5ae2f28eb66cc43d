use Rattle.std.proofs.Common.{◌≡◌, ◌∙◌, List, ap, sym, rules}
use Rattle.just_justfile.specs.declared.aliases.Aliases.{Aliases}
use Rattle.just_justfile.specs.declared.disabled.Disabled.{Disabled}
use Rattle.just_justfile.specs.declared.justfile.Justfile.{Justfile, Justfile-F, out-Justfile, out-roll-Justfile}
use Rattle.just_justfile.specs.declared.justfile.RecipeKey.{RecipeKey}
use Rattle.just_justfile.specs.declared.justfile.Justfile.TheViews.{the_lemmas}
use Rattle.just_module_contents.specs.Contents.{Contents}
use Rattle.just_module_contents.specs.Definitions.{contents_in, recipes_in}
use Rattle.just_module_aliases.specs.Aliased.{aliases_of, alias_targets, targets_of}
use Rattle.just_names.specs.Texts.{Text}
use Rattle.just_compiled.proofs.Makings.{is_of}
use Rattle.just_module_assembly.proofs.justfiles.make_justfile.Goals as goal

-- the aliases are those of what the justfile has
own_aliases : (j : Justfile) (m : Contents) (own : Aliases) (absent : List (Text × Text)) (disabled : List (Text × Disabled)) (modules : List Justfile) (keys : List (Text × RecipeKey)) → (out-Justfile j).aliases ≡ own
    → own ≡ aliases_of (alias_targets absent disabled modules keys) m.aliases → (out-Justfile j).absent_modules ≡ absent → (out-Justfile j).disabled_recipes ≡ disabled → (out-Justfile j).modules ≡ modules → (out-Justfile j).recipes ≡ keys
    → (out-Justfile j).aliases ≡ aliases_of (targets_of j) m.aliases
own_aliases j m own absent disabled modules keys is all a d ms ks = is ∙ all ∙ (λ i. aliases_of (alias_targets (sym a i) (sym d i) (sym ms i) (sym ks i)) m.aliases)

pub returns-clause-fields : goal.returns-clause-fields
returns-clause-fields c =
    is_of (contents_in c.args.definitions.now) (recipes_in c.args.own.standing) c.args.ast.now c.args.surroundings.loaded c.args.surroundings.source _
    c.args.own.keys (ap (λ (j : Justfile-F Justfile). j.recipes) (out-roll-Justfile _)) c.requires.keys
    (own_aliases _ (contents_in c.args.definitions.now) c.args.own.aliases c.args.surroundings.notes.absent_modules c.args.own.disabled c.args.surroundings.modules c.args.own.keys (ap (λ (j : Justfile-F Justfile). j.aliases) (out-roll-Justfile _)) c.requires.aliases
    (ap (λ (j : Justfile-F Justfile). j.absent_modules) (out-roll-Justfile _)) (ap (λ (j : Justfile-F Justfile). j.disabled_recipes) (out-roll-Justfile _)) (ap (λ (j : Justfile-F Justfile). j.modules) (out-roll-Justfile _))
    (ap (λ (j : Justfile-F Justfile). j.recipes) (out-roll-Justfile _)))
    (search (rules, the_lemmas)) (search (rules, the_lemmas)) (search (rules, the_lemmas)) (search (rules, the_lemmas)) (search (rules, the_lemmas))

pub returns-clause-disabled : goal.returns-clause-disabled
returns-clause-disabled c = ap (λ (j : Justfile-F Justfile). j.disabled_recipes) (out-roll-Justfile _)

pub returns-clause-default : goal.returns-clause-default
returns-clause-default c = ap (λ (j : Justfile-F Justfile). j.default) (out-roll-Justfile _)

pub returns-clause-assignments : goal.returns-clause-assignments
returns-clause-assignments c = ap (λ (j : Justfile-F Justfile). j.assignments) (out-roll-Justfile _)

pub returns-clause-functions : goal.returns-clause-functions
returns-clause-functions c = ap (λ (j : Justfile-F Justfile). j.functions) (out-roll-Justfile _)

pub returns-clause-evaluation_order : goal.returns-clause-evaluation_order
returns-clause-evaluation_order c = ap (λ (j : Justfile-F Justfile). j.evaluation_order) (out-roll-Justfile _)

pub returns-clause-settings : goal.returns-clause-settings
returns-clause-settings c = ap (λ (j : Justfile-F Justfile). j.settings) (out-roll-Justfile _)

pub returns-clause-overridden : goal.returns-clause-overridden
returns-clause-overridden c = ap (λ (j : Justfile-F Justfile). j.overridden) (out-roll-Justfile _)

pub returns-clause-modules : goal.returns-clause-modules
returns-clause-modules c = ap (λ (j : Justfile-F Justfile). j.modules) (out-roll-Justfile _)
