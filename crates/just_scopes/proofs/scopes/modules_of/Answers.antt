use Rattle.std.proofs.Common.{◌≡◌, ◌∙◌, [], ◌∷◌, cond, map, Some, sym, ap, subst, rules}
use Rattle.std.specs.Option.{option_map}
use Rattle.std.proofs.lemmas.List.{map-append}
use Rattle.just_tasks.specs.Homes.{module_scope_at}
use Rattle.just_tasks.specs.Scene.{contents_found}
use Rattle.just_tasks.specs.declared.scopes.ModuleScope.{ModuleScope}
use Rattle.just_justfile.specs.declared.justfile.Justfile.{out-Justfile}
use Rattle.just_paths.specs.contracts.modulepath.ModulepathPartialEq.TheImpl as path_eq
use Rattle.just_scopes.specs.Opening.{opened_contents, handed_of, opened_at, opened_of}
use Rattle.just_scopes.proofs.Under.{put-found}
use Rattle.just_scopes.proofs.scopes.modules_of.Goals as goal

pub loop-module-preserved-in_ok-insert : goal.loop-module-preserved-in_ok-insert
loop-module-preserved-in_ok-insert c = λ path.
    let handed = handed_of c.args.config.now c.args.overrides.now in
    let put : ModuleScope = record { context = c.context_of-context.result; scope = c.in-Some.module.scope } in
    let same : c.in_ok-path.path ≡ (out-Justfile c.in-Some.module.justfile.now).module_path = search rules in
    subst (λ os. contents_found (module_scope_at c.insert.new.self (Some path)) ≡ option_map (opened_contents handed) (opened_at path os)) (sym (map-append opened_of c.loop-module.yielded (c.in-Some.module ∷ [])))
    (put-found handed put (opened_of c.in-Some.module) (map opened_of c.loop-module.yielded) path (module_scope_at c.loop-module.modules (Some path)) (module_scope_at c.insert.new.self (Some path))
    (λ i. record { context = c.context_of-context.ensures i; scope = c.in-Some.module.scope }) (c.loop-module.invariant path)
    (c.in_ok-insert.ensures.updates.0 path ∙ ap (λ p. cond (path_eq.ghosts.eq p path) (Some put) (module_scope_at c.loop-module.modules (Some path))) same))

pub loop-module-preserved : goal.loop-module-preserved
loop-module-preserved c = λ path.
    let handed = handed_of c.args.config.now c.args.overrides.now in
    let put : ModuleScope = record { context = c.context_of-context.result; scope = c.in-Some.module.scope } in
    let same : c.in_ok-path.path ≡ (out-Justfile c.in-Some.module.justfile.now).module_path = search rules in
    subst (λ os. contents_found (module_scope_at c.insert.new.self (Some path)) ≡ option_map (opened_contents handed) (opened_at path os)) (sym (map-append opened_of c.loop-module.yielded (c.in-Some.module ∷ [])))
    (put-found handed put (opened_of c.in-Some.module) (map opened_of c.loop-module.yielded) path (module_scope_at c.loop-module.modules (Some path)) (module_scope_at c.insert.new.self (Some path))
    (λ i. record { context = c.context_of-context.ensures i; scope = c.in-Some.module.scope }) (c.loop-module.invariant path)
    (c.in_ok-insert.ensures.updates.0 path ∙ ap (λ p. cond (path_eq.ghosts.eq p path) (Some put) (module_scope_at c.loop-module.modules (Some path))) same))
