-- The open module of a path, as modules are put in one after another.
use Rattle.std.proofs.Common.{◌≡◌, ◌∙◌, Bool, true, false, cond, List, [], ◌∷◌, ◌++◌, Option, Some, None, refl, sym, ap}
use Rattle.std.specs.Option.{option_map, option_or}
use Rattle.just_tasks.specs.Scene.{contents_found, scope_contents_of}
use Rattle.just_tasks.specs.declared.scopes.ModuleScope.{ModuleScope}
use Rattle.just_justfile.specs.declared.justfile.Justfile.{out-Justfile}
use Rattle.just_paths.specs.contracts.modulepath.ModulepathPartialEq.TheImpl as path_eq
use Rattle.just_paths.specs.declared.modulepath.Modulepath.{Modulepath}
use Rattle.just_scopes.specs.Opening.{Handed, Opened, opened_contents, opened_at}

abbrev pub has_path : Opened → Modulepath → Bool
has_path o path = path_eq.ghosts.eq (out-Justfile o.justfile).module_path path

or-last : {A : Type 0} (b : Bool) (x : A) (o c : Option A) → option_or (cond b (Some x) o) c ≡ cond b (Some x) (option_or o c)
or-last true x o c = refl
or-last false x o c = refl

pub opened-push : (path : Modulepath) (os : List Opened) (o : Opened) → opened_at path (os ++ o ∷ []) ≡ cond (has_path o path) (Some o) (opened_at path os)
opened-push path [] o = refl
opened-push path (x ∷ xs) o =
    ap (λ r. option_or r (cond (has_path x path) (Some x) None)) (opened-push path xs o)
    ∙ or-last (has_path o path) o (opened_at path xs) (cond (has_path x path) (Some x) None)

-- so where it is put in or left out
pub opened-taken : (path : Modulepath) (os : List Opened) (o : Opened) (b : Bool) (found : Option Opened) → has_path o path ≡ b → found ≡ cond b (Some o) (opened_at path os) → found ≡ opened_at path (os ++ o ∷ [])
opened-taken path os o b found is taken = taken ∙ ap (λ c. cond c (Some o) (opened_at path os)) (sym is) ∙ sym (opened-push path os o)

found-by : (b : Bool) (handed : Handed) (m : ModuleScope) (o : Opened) (before : Option ModuleScope) (opened : Option Opened) → scope_contents_of m ≡ opened_contents handed o → contents_found before ≡ option_map (opened_contents handed) opened →
    contents_found (cond b (Some m) before) ≡ option_map (opened_contents handed) (cond b (Some o) opened)
found-by true handed m o before opened own rest = ap (λ c. Some c) own
found-by false handed m o before opened own rest = rest

pub put-found : (handed : Handed) (m : ModuleScope) (o : Opened) (os : List Opened) (path : Modulepath) (before after : Option ModuleScope) → scope_contents_of m ≡ opened_contents handed o → contents_found before ≡ option_map (opened_contents handed) (opened_at path os) →
    after ≡ cond (has_path o path) (Some m) before → contents_found after ≡ option_map (opened_contents handed) (opened_at path (os ++ o ∷ []))
put-found handed m o os path before after own rest put =
    ap contents_found put ∙ found-by (has_path o path) handed m o before (opened_at path os) own rest ∙ ap (option_map (opened_contents handed)) (sym (opened-push path os o))
