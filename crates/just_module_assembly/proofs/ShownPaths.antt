-- A table of the paths that are shown.
use Rattle.std.proofs.Common.{◌≡◌, Bool, true, false, cond, List, [], ◌∷◌, ◌++◌, Option, Some, IsSome, refl, sym, ap, subst, ◌∙◌}
use Rattle.std.specs.List.{AllByRecursion}
use Rattle.std.specs.Map.{keys_of, lookup}
use Rattle.std.specs.Str.{bytes_eq}
use Rattle.std.proofs.lemmas.List.{append_assoc}
use Rattle.std.proofs.lemmas.Map.Entries.{place_from_lookup}
use Rattle.std.proofs.lemmas.Slice.Eq.{bytes_eq-Decides}
use Rattle.just_graph.proofs.Index.{map_get}
use Rattle.just_names.specs.Texts.{Text}
use Rattle.just_parts.specs.Asts.{AstKey, same_ast_key}
use Rattle.just_parts.specs.Items.{Ast}
use Rattle.just_parts.proofs.AstKeys.{key_same}
use Rattle.just_loader.specs.ModuleFile.{relative}
use Rattle.just_module_headers.proofs.FilePlaces.{holds_at}
use Rattle.just_module_headers.proofs.Holding.{some_value}

module _ (folder : Text) where
  -- the file of a key has its path
  abbrev pub HasPath : (Text → Option Text) → AstKey → Type 0
  HasPath paths k = paths k.1 ≡ Some (relative folder k.1)

  after_put : (file text : Text) (o : Option Text) (b : Bool) → bytes_eq file text ≡ b → o ≡ Some (relative folder text) → cond b (Some (relative folder file)) o ≡ Some (relative folder text)
  after_put file text o true same e = ap (λ t. Some (relative folder t)) ((bytes_eq-Decides file text).0 same)
  after_put file text o false same e = e

  put_at : (file text : Text) (o : Option Text) → text ≡ file → cond (bytes_eq file text) (Some (relative folder file)) o ≡ Some (relative folder text)
  put_at file text o same = subst (λ b. cond b (Some (relative folder file)) o ≡ Some (relative folder text)) (sym ((bytes_eq-Decides file text).1 (sym same))) (ap (λ t. Some (relative folder t)) (sym same))

  -- of all keys, those that are not left have theirs
  abbrev pub HaveSoFar : (Text → Option Text) → List AstKey → List AstKey → Type 0
  HaveSoFar paths left all = (done : List AstKey) × (done ++ left ≡ all) × AllByRecursion (HasPath paths) done

  -- one more file keeps the paths of the others
  module _ (file shown : Text) (told : shown ≡ relative folder file) (old new : Text → Option Text) (put : (q : Text) → new q ≡ cond (bytes_eq file q) (Some shown) (old q)) where
    is_put : (q : Text) → new q ≡ cond (bytes_eq file q) (Some (relative folder file)) (old q)
    is_put q = put q ∙ ap (λ s. cond (bytes_eq file q) (Some s) (old q)) told

    has_still : (k : AstKey) → HasPath old k → HasPath new k
    has_still k e = is_put k.1 ∙ after_put file k.1 (old k.1) (bytes_eq file k.1) refl e

    has_more : (done : List AstKey) (k : AstKey) → k.1 ≡ file → AllByRecursion (HasPath old) done → AllByRecursion (HasPath new) (done ++ k ∷ [])
    has_more [] k same all = (is_put k.1 ∙ put_at file k.1 (old k.1) same, tt)
    has_more (d ∷ done) k same all = (has_still d all.0, has_more done k same all.1)

    pub one_less : (k : AstKey) (left next all : List AstKey) → k.1 ≡ file → left ≡ k ∷ next → HaveSoFar old left all → HaveSoFar new next all
    one_less k left next all same is (done, whole, have) = (done ++ k ∷ [], append_assoc done (k ∷ []) next ∙ ap (λ ks. done ++ ks) (sym is) ∙ whole, has_more done k same have)

  -- each key that is held is one of the entries
  pub held_path : (paths : Text → Option Text) (entries : List (AstKey × Ast)) → AllByRecursion (HasPath paths) (keys_of entries) → (k : AstKey) → IsSome (lookup (same_ast_key k) entries) → HasPath paths k
  held_path paths entries all k held =
      let a = some_value (lookup (same_ast_key k) entries) held in
      let e = place_from_lookup (same_ast_key k) entries a.0 a.1 in
      subst (HasPath paths) (sym ((key_same k e.1).0 e.3)) (holds_at (HasPath paths) (keys_of entries) e.0 e.1 all (map_get (λ (x : AstKey × Ast). x.0) entries e.0 (e.1, a.0) e.2))
