-- What one more file says of a module.
use Rattle.std.proofs.Common.{◌≡◌, ◌∙◌, ◌++◌, ℕ, ◌+◌, ◌<◌, Bool, List, [], ◌∷◌, get_or, length, Option, Some, ap, refl, sym, take}
use Rattle.std.specs.Prelude.{flat_map, slice_get}
use Rattle.std.proofs.lemmas.Grind.{flat_map-append}
use Rattle.std.proofs.lemmas.List.{append-nil, take_more}
use Rattle.just_parts.specs.Items.{Ast, Item}
use Rattle.just_ast_expressions.specs.declared.list_use.ListUse.{ListUse}
use Rattle.just_names.specs.Texts.{Text}
use Rattle.just_table.specs.Entries.{put, put_all}
use Rattle.just_module_contents.specs.Labels.{doc_by, label_by}
use Rattle.just_module_contents.specs.Notes.{absent_by, features_by, noted, warnings_by}
use Rattle.just_module_contents.specs.Contents.{Contents, with_lists}
use Rattle.just_module_contents.specs.Named.{alias_by, contents_from, function_by, lists_by, name_by, naming_by, recipes_by, said_from, set_by, unexported_by, variable_by}
use Rattle.just_module_assembly.specs.Noted.{notes_from}
use Rattle.just_module_contents.specs.Said.{said, said_in}
use Rattle.just_module_contents.specs.Recipes.{recipes_of}

put_append : {A : Type 0} (key : A → Text) (held : List (Text × A)) (xs ys : List A) → put_all key held (xs ++ ys) ≡ put_all key (put_all key held xs) ys
put_append key held [] ys = refl
put_append key held (x ∷ xs) ys = put_append key (put (key x) x held) xs ys

module _ (enabled : Item → Bool) (asts : List Ast) (places : List ℕ) (n place : ℕ) (ast : Ast) where
  -- a file at the next place
  module _ (here : n < length places) (is : place ≡ get_or places n 0) (at : slice_get asts place ≡ Some ast) where
    next : {A : Type 0} (read : Option Ast → List A) → flat_map (λ p. read (slice_get asts p)) (take (n + 1) places) ≡ flat_map (λ p. read (slice_get asts p)) (take n places) ++ read (Some ast)
    next read =
        let each = λ (p : ℕ). read (slice_get asts p) in
        ap (flat_map each) (take_more places n 0 here ∙ ap (λ p. take n places ++ p ∷ []) (sym is)) ∙ flat_map-append each (take n places) (place ∷ [])
        ∙ ap (λ xs. flat_map each (take n places) ++ xs) (append-nil (each place) ∙ ap read at)

    pub labels_more : said_from label_by enabled asts (take n places) ++ said label_by enabled ast.items ≡ said_from label_by enabled asts (take (n + 1) places)
    labels_more = sym (next (said_in label_by enabled))

    pub notes_more : noted enabled (notes_from enabled asts (take n places)) ast ≡ notes_from enabled asts (take (n + 1) places)
    notes_more =
        let absent = sym (put_append (λ t. t) [] (said_from absent_by enabled asts (take n places)) (said absent_by enabled ast.items)) ∙ ap (put_all (λ t. t) []) (sym (next (said_in absent_by enabled))) in
        let used = flat_map (λ p. features_by (slice_get asts p)) (take n places) in
        let features = sym (put_append (λ t. t) [] used (features_by (Some ast))) ∙ ap (put_all (λ t. t) []) (sym (next features_by)) in
        λ i. record { absent_modules = absent i; unstable_features = features i; warnings = sym (next warnings_by) i }

    module _ (before added : Contents) (items : List Item) (uses : List ListUse) (same : before ≡ contents_from enabled asts (take n places)) (are : items ≡ ast.items) (need : uses ≡ ast.list_features) where
      -- what is added of items to what stands before is what the file says
      more : {A : Type 0} (field : Contents → List A) (say : List Item → List A) (read : Option Ast → List A) → field (contents_from enabled asts (take n places)) ≡ flat_map (λ p. read (slice_get asts p)) (take n places)
          → say ast.items ≡ read (Some ast) → field added ≡ field before ++ say items → field added ≡ flat_map (λ p. read (slice_get asts p)) (take (n + 1) places)
      more field say read known says is = is ∙ (λ i. field (same i) ++ say (are i)) ∙ (λ i. known i ++ says i) ∙ sym (next read)

      pub contents_more : added.recipes ≡ before.recipes ++ recipes_of enabled items → added.functions ≡ before.functions ++ said function_by enabled items
          → added.variables ≡ before.variables ++ said variable_by enabled items → added.aliases ≡ before.aliases ++ said alias_by enabled items → added.modules ≡ before.modules ++ said name_by enabled items
          → added.named ≡ before.named ++ said naming_by enabled items → added.docs ≡ before.docs ++ said doc_by enabled items
          → added.unexports ≡ before.unexports ++ said unexported_by enabled items → added.sets ≡ before.sets ++ said set_by enabled items → added.lists ≡ before.lists
          → with_lists added uses ≡ contents_from enabled asts (take (n + 1) places)
      contents_more recipes functions variables aliases modules named docs unexports sets lists =
          let lists_are = (λ i. lists i ++ need i) ∙ (λ i. (same i).lists ++ ast.list_features) ∙ sym (next lists_by) in λ i. record {
            recipes = more (λ m. m.recipes) (recipes_of enabled) (recipes_by enabled) refl refl recipes i;
            functions = more (λ m. m.functions) (said function_by enabled) (said_in function_by enabled) refl refl functions i;
            variables = more (λ m. m.variables) (said variable_by enabled) (said_in variable_by enabled) refl refl variables i;
            aliases = more (λ m. m.aliases) (said alias_by enabled) (said_in alias_by enabled) refl refl aliases i;
            modules = more (λ m. m.modules) (said name_by enabled) (said_in name_by enabled) refl refl modules i;
            named = more (λ m. m.named) (said naming_by enabled) (said_in naming_by enabled) refl refl named i;
            docs = more (λ m. m.docs) (said doc_by enabled) (said_in doc_by enabled) refl refl docs i;
            unexports = more (λ m. m.unexports) (said unexported_by enabled) (said_in unexported_by enabled) refl refl unexports i;
            sets = more (λ m. m.sets) (said set_by enabled) (said_in set_by enabled) refl refl sets i;
            lists = lists_are i;
          }
