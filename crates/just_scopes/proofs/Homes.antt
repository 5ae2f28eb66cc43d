-- Recipes have their module's scope in open modules.
use Rattle.std.proofs.Common.{◌≡◌, ◌∙◌, ◌&&◌, Bool, true, false, cond, List, [], ◌∷◌, Option, Some, None, IsSome, refl, sym, ap, subst, inl, inr}
use Rattle.std.specs.List.{All}
use Rattle.std.specs.Option.{option_map, option_or}
use Rattle.just_tasks.specs.Homes.{AllHaveModuleScope, IsRead, Modules, module_scope_at}
use Rattle.just_recipe.specs.Recipes.{arguments_of}
use Rattle.just_tasks.specs.Scene.{ModuleContents, contents_found, scope_contents_of, running}
use Rattle.just_tasks.specs.Scene as scenes
use Rattle.just_tasks.specs.declared.scopes.ModuleScope.{ModuleScope}
use Rattle.just_tasks.specs.declared.task.Task.{Task}
use Rattle.just_graph.proofs.Members.{In, contained, is_in}
use Rattle.just_justfile.specs.declared.justfile.Justfile.{Justfile, out-Justfile}
use Rattle.just_name_resolution.proofs.Placed.{the_value}
use Rattle.just_parts.proofs.AstKeys.{key_same}
use Rattle.just_parts.specs.Asts.{AstKey}
use Rattle.just_parts.specs.Known.{sources}
use Rattle.just_parts.specs.Scopes.{scopes_of}
use Rattle.just_parts.specs.Syntax.{SyntaxAnswers}
use Rattle.just_paths.specs.contracts.modulepath.ModulepathPartialEq.TheImpl as path_eq
use Rattle.just_paths.specs.declared.modulepath.Modulepath.{Modulepath}
use Rattle.just_recipe.specs.declared.dependency.Dependency.{Dependency}
use Rattle.just_recipe.specs.declared.recipe.Recipe.{Recipe}
use Rattle.just_scopes.proofs.Under.{has_path}
use Rattle.just_scopes.specs.Open.{AreOpenModules}
use Rattle.just_scopes.specs.Opening.{Handed, Opened, Setup, opened_contents, opened_at, opened_under, scene_of}
use Rattle.just_scopes.specs.loops.Scoped.{AreModulesOf}

-- paths that are the same are equal, and equal ones are the same
same-path : (p q : Modulepath) → path_eq.ghosts.eq p q ≡ true → p ≡ q
same-path p q e = ap (λ (k : AstKey). k.0) ((key_same (p, []) (q, [])).0 (rw e refl))

module _ (path : Modulepath) where
  at-by : (b : Bool) (o x : Opened) (rest : Option Opened) (os : List Opened) → has_path o path ≡ b → (rest ≡ Some x → In x os × ((out-Justfile x.justfile).module_path ≡ path)) →
      option_or rest (cond b (Some o) None) ≡ Some x → In x (o ∷ os) × ((out-Justfile x.justfile).module_path ≡ path)
  at-by b o x (Some y) os is more h = let r = more h in (inr r.0, r.1)
  at-by true o x None os is more h =
      let same : o ≡ x = cc in
      (inl (sym same), ap (λ (y : Opened). (out-Justfile y.justfile).module_path) (sym same) ∙ same-path (out-Justfile o.justfile).module_path path is)
  at-by false o x None os is more h = cc

  -- what is found at a path is an open module of that path
  pub at-path : (os : List Opened) (x : Opened) → opened_at path os ≡ Some x → In x os × ((out-Justfile x.justfile).module_path ≡ path)
  at-path [] x h = cc
  at-path (o ∷ os) x h = at-by (has_path o path) o x (opened_at path os) os refl (at-path os x) h

  some-or : (b : Bool) (o : Opened) (rest : Option Opened) → b ≡ true → IsSome (option_or rest (cond b (Some o) None))
  some-or b o (Some y) t = refl
  some-or true o None t = refl
  some-or false o None t = cc

  some-first : (rest other : Option Opened) → IsSome rest → IsSome (option_or rest other)
  some-first (Some y) other s = refl
  some-first None other s = cc

  -- where there is one, one is found
  pub some-at : (os : List Opened) (x : Opened) → In x os → has_path x path ≡ true → IsSome (opened_at path os)
  some-at [] x i t = absurd i
  some-at (o ∷ os) x (inl e) t = some-or (has_path o path) o (opened_at path os) (ap (λ (y : Opened). has_path y path) (sym e) ∙ t)
  some-at (o ∷ os) x (inr i) t = some-first (opened_at path os) (cond (has_path o path) (Some o) None) (some-at os x i t)

found-some : (x : Option ModuleScope) (c : ModuleContents) → contents_found x ≡ Some c → (m : ModuleScope) × (x ≡ Some m) × (scope_contents_of m ≡ c)
found-some None c h = cc
found-some (Some m) c h = let same : scope_contents_of m ≡ c = cc in (m, refl, same)

first-of : (a b : Bool) → (a && b) ≡ true → a ≡ true
first-of true b h = refl
first-of false b h = cc

pub own-path : (p : Modulepath) → path_eq.ghosts.eq p p ≡ true
own-path p = first-of (path_eq.ghosts.eq p p) _ ((key_same (p, []) (p, [])).1 refl)

module _ (answers : SyntaxAnswers) (root : Justfile) (recipes : List (Recipe Dependency)) (tops : List Task) (handed : Handed) (opened : List Opened) (modules : Modules)
    (are : AreOpenModules answers root recipes tops opened) (under : AreModulesOf handed opened modules) where
  pub are-home : AllHaveModuleScope answers modules recipes tops
  are-home place r led at =
      let first = are.placed place r led at in
      let path : Modulepath = (out-Justfile first.0.justfile).module_path in
      let o = the_value (opened_at path opened) (some-at path opened first.0 (is_in first.0 opened first.1) (own-path path)) in
      let there = at-path path opened o.0 o.1 in
      let m = found-some (module_scope_at modules (Some path)) (opened_contents handed o.0) (under path ∙ ap (option_map (opened_contents handed)) o.1) in
      let is : r.module_path ≡ Some (out-Justfile o.0.justfile).module_path = first.2 ∙ ap (λ p. Some p) (sym there.1) in
      record {
        home = m.0;
        there = ap (module_scope_at modules) first.2 ∙ m.1;
        own = record {
          path = is ∙ ap (λ (c : ModuleContents). Some c.context.module_path) (sym m.2);
          bound = subst (λ (c : ModuleContents). All (IsRead (sources c.context.assignments c.context.functions) c.scope) (scopes_of arguments_of answers c.context.settings r)) (sym m.2)
              (are.served place r led at o.0 (contained o.0 opened there.0) is);
        };
      }

-- and the scene that they are is that of open modules
module _ (setup : Setup) (opened : List Opened) (modules : Modules) (under : AreModulesOf setup.handed opened modules) where
  same-under : (path : Option Modulepath) → contents_found (module_scope_at modules path) ≡ option_map (opened_contents setup.handed) (opened_under path opened)
  same-under None = refl
  same-under (Some path) = under path

  pub same-scene : (recipes : List (Recipe Dependency)) → scenes.scene_with setup.syntax modules (running setup.handed.config.no_dependencies recipes) ≡ scene_of setup recipes opened
  same-scene recipes = λ i. record { syntax = setup.syntax; recipes = running setup.handed.config.no_dependencies recipes; modules = λ path. same-under path i }
