use Rattle.std.proofs.Common.{rules, ◌≡◌, ◌++◌, ◌∷◌, [], map, sym, subst}
use Rattle.std.specs.Borrow.{Bor}
use Rattle.std.specs.Map.Iter.{deref}
use Rattle.std.proofs.lemmas.List.{map-append}
use Rattle.std.proofs.lemmas.Map.Iter.{iter_end}
use Rattle.just_module_recipes.specs.loops.Rows.{SameMembers}
use Rattle.just_module_recipes.proofs.SameSets.{one_more}
use Rattle.just_paths.specs.declared.modulepath.Modulepath.{Modulepath}
use Rattle.just_module_recipes.proofs.merge.add.Goals as goal

pub loop-path-preserved : goal.loop-path-preserved
loop-path-preserved c =
    subst (λ xs. SameMembers c.add_path.new.all.keys (c.args.all.now.keys ++ xs)) (sym (map-append (λ (p : Bor Modulepath). p.now) c.loop-path.yielded (c.in-Some.path ∷ [])))
    (one_more c.loop-path.all.keys c.args.all.now.keys (map (λ (p : Bor Modulepath). p.now) c.loop-path.yielded) c.add_path.new.all.keys (c.in-Some.path.now ∷ []) c.loop-path.invariant c.in_ok-add_path.ensures)

pub returns : goal.returns
returns c =
    let whole : map (deref {X = Modulepath}) c.loop-path.yielded ≡ c.args.more.now.keys = search (rules, iter_end) in
    subst (λ xs. SameMembers c.loop-path.all.keys (c.args.all.now.keys ++ xs)) whole c.loop-path.invariant
