-- What attributes say last of a parameter, attribute after attribute, and what is made of each element of a list.
use Rattle.std.proofs.Common.{◌≡◌, ◌∙◌, ℕ, ◌+◌, ◌<◌, List, [], ◌∷◌, ◌++◌, Option, None, Some, ap, append_assoc, append-nil, get_or, length, map, refl, sym, take}
use Rattle.std.specs.Option.{option_or}
use Rattle.std.proofs.lemmas.List.{take_more}
use Rattle.just_names.specs.Texts.{Text}
use Rattle.just_ast_definitions.specs.declared.attribute.Attribute.{Attribute}
use Rattle.just_ast_definitions.specs.declared.attribute.NamedAttribute.{NamedAttribute}
use Rattle.just_ast_definitions.specs.declared.parameter.Parameter.{Parameter}
use Rattle.just_ast_expressions.specs.declared.expression.Expression.{Expression}
use Rattle.just_recipe_values.specs.loops.Judged.{informed_by}
use Rattle.just_recipe_values.specs.Valued.{doc_after, informed, last_doc, last_help, last_pattern, valued_attribute, valued_named}

or_none : {A : Type 0} (o : Option A) → option_or o None ≡ o
or_none None = refl
or_none (Some x) = refl

or_assoc : {A : Type 0} (a b c : Option A) → option_or (option_or a b) c ≡ option_or a (option_or b c)
or_assoc None b c = refl
or_assoc (Some x) b c = refl

-- the last of what elements say under a name, each by itself
module _ {A : Type 0} (by : A → Text → Option Text) (last : List A → Text → Option Text)
    (none : (name : Text) → last [] name ≡ None) (more : (x : A) (xs : List A) (name : Text) → last (x ∷ xs) name ≡ option_or (last xs name) (by x name)) where
  last_push : (xs : List A) (x : A) (name : Text) → last (xs ++ x ∷ []) name ≡ option_or (by x name) (last xs name)
  last_push [] x name =
      more x [] name ∙ ap (λ o. option_or o (by x name)) (none name)
      ∙ sym (or_none (by x name)) ∙ ap (option_or (by x name)) (sym (none name))
  last_push (y ∷ xs) x name =
      more y (xs ++ x ∷ []) name ∙ ap (λ o. option_or o (by y name)) (last_push xs x name)
      ∙ or_assoc (by x name) (last xs name) (by y name) ∙ ap (option_or (by x name)) (sym (more y xs name))

  pub last_more : (xs : List A) (i : ℕ) (x : A) → i < length xs → x ≡ get_or xs i x → (old new : Text → Option Text) → ((name : Text) → old name ≡ last (take i xs) name)
      → ((name : Text) → new name ≡ option_or (by x name) (old name)) → (name : Text) → new name ≡ last (take (i + 1) xs) name
  last_more xs i x inside is old new before after name =
      let taken : take (i + 1) xs ≡ take i xs ++ x ∷ [] = take_more xs i x inside ∙ ap (λ y. take i xs ++ y ∷ []) (sym is) in
      after name ∙ ap (option_or (by x name)) (before name) ∙ sym (last_push (take i xs) x name) ∙ ap (λ ys. last ys name) (sym taken)

-- one more of what is made of each element
module _ {A B : Type 0} (f : A → B) (all : List B) (old : List B) (rest : List A) (so : old ++ map f rest ≡ all) where
  pub one_made : (x : A) (more : List A) (y : B) (new : List B) → rest ≡ x ∷ more → y ≡ f x → new ≡ old ++ y ∷ [] → new ++ map f more ≡ all
  one_made x more y new next made is =
      ap (λ ys. ys ++ map f more) is ∙ append_assoc old (y ∷ []) (map f more) ∙ ap (λ z. old ++ z ∷ map f more) made ∙ ap (λ xs. old ++ map f xs) (sym next) ∙ so

  pub all_made : rest ≡ [] → old ≡ all
  all_made none = sym (append-nil old) ∙ ap (λ xs. old ++ map f xs) (sym none) ∙ so

-- an attribute under a name that it had
abbrev pub under : NamedAttribute Expression → Attribute Expression → NamedAttribute Expression
under named a = record { name = named.name; attribute = a }

pub valued_under : (value : Expression → Option (List Text)) (named : NamedAttribute Expression) (a : Attribute Expression) → a ≡ valued_attribute value named.attribute → under named a ≡ valued_named value named
valued_under value named a is = ap (under named) is

-- the doc after one more attribute, and after all
module _ (value : Expression → Option (List Text)) (rest : List (NamedAttribute Expression)) (doc whole : Option Text) (so : last_doc value rest doc ≡ whole) where
  pub doc_next : (named : NamedAttribute Expression) (more : List (NamedAttribute Expression)) (next : Option Text) → rest ≡ named ∷ more → next ≡ doc_after value named.attribute doc
      → last_doc value more next ≡ whole
  doc_next named more next is made = ap (last_doc value more) made ∙ ap (λ xs. last_doc value xs doc) (sym is) ∙ so

  pub doc_all : rest ≡ [] → doc ≡ whole
  doc_all none = ap (λ xs. last_doc value xs doc) (sym none) ∙ so

-- parameters with what tables have under their names
pub informed_said : (attributes : List (NamedAttribute Expression)) (helps patterns : Text → Option Text) → ((name : Text) → helps name ≡ last_help attributes name)
    → ((name : Text) → patterns name ≡ last_pattern attributes name) → (ps : List Parameter) → map (informed_by helps patterns) ps ≡ map (informed attributes) ps
informed_said attributes helps patterns help pattern ps = λ i. map (informed_by (λ name. help name i) (λ name. pattern name i)) ps
