use Rattle.std.proofs.Common.{◌≡◌, ◌∙◌, ◌++◌, ◌∷◌, [], sym, subst}
use Rattle.just_module_recipes.specs.loops.Rows.{SameMembers}
use Rattle.just_module_recipes.proofs.PathKeys.{path_found, path_put}
use Rattle.just_paths.specs.declared.modulepath.Modulepath.{Modulepath}
use Rattle.just_module_recipes.proofs.merge.add_path.Goals as goal

pub returns-then-contains : goal.returns-then-contains
returns-then-contains c = path_found c.args.all.now.keys c.args.path.now (sym c.contains.ensures ∙ c.if-contains.true)

pub returns : goal.returns
returns c =
    let copy : c.in_ok-clone.field-0 ≡ c.args.path.now = c.in_ok-clone.ensures.cases in
    subst (λ (p : Modulepath). SameMembers c.insert.new.self.keys (c.args.all.now.keys ++ p ∷ [])) copy (path_put c.args.all.now.keys c.insert.new.self.keys c.in_ok-clone.field-0 c.in_ok-insert.ensures.keys)
