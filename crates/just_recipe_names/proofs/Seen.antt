-- The numbers of names under parameters.
use Rattle.std.proofs.Common.{◌≡◌, ◌∙◌, ap, sym, refl, ℕ, suc, ◌+◌, ◌<◌, Bool, true, false, List, [], ◌∷◌, ◌++◌, map, Option, None, Some, add-one, drop, drop-cons, get_or, length, take, if◌then◌else◌}
use Rattle.std.specs.Option.{option_or}
use Rattle.std.specs.Str.{bytes_eq}
use Rattle.std.proofs.lemmas.List.{append_assoc, take_more}
use Rattle.just_names.specs.Name.{text_of_name}
use Rattle.just_names.specs.Texts.{Text}
use Rattle.just_names.specs.declared.number.Number.{Number}
use Rattle.just_ast_definitions.specs.declared.parameter.Parameter.{Parameter}
use Rattle.just_ast_references.specs.Numbers.{with_numbers}
use Rattle.just_recipe_names.specs.Numbered.{number_under, numbered_parameters, parameter_by, parameter_number, under_parameters}

or_chosen : (b : Bool) (n : Number) (o p : Option Number) → option_or (if b then Some n else o) p ≡ (if b then Some n else option_or o p)
or_chosen true n o p = refl
or_chosen false n o p = refl

-- one more parameter
number_more : (ps : List Parameter) (p : Parameter) (name : Text)
    → parameter_number (ps ++ p ∷ []) name ≡ (if bytes_eq (text_of_name p.name) name then Some p.number else parameter_number ps name)
number_more [] p name = refl
number_more (q ∷ ps) p name =
    let other : Option Number = if bytes_eq (text_of_name q.name) name then Some q.number else None in
    ap (λ o. option_or o other) (number_more ps p name) ∙ or_chosen (bytes_eq (text_of_name p.name) name) p.number (parameter_number ps name) other

-- the parameter at a place
module _ (ps : List Parameter) (i : ℕ) (p : Parameter) (inside : i < length ps) (is : p ≡ get_or ps i p) where
  pub taken_more : take (i + 1) ps ≡ take i ps ++ p ∷ []
  taken_more = take_more ps i p inside ∙ ap (λ q. take i ps ++ q ∷ []) (sym is)

  pub seen_more : (old new : Text → Option Number) → ((name : Text) → old name ≡ parameter_number (take i ps) name)
      → ((name : Text) → new name ≡ (if bytes_eq (text_of_name p.name) name then Some p.number else old name)) → (name : Text) → new name ≡ parameter_number (take (i + 1) ps) name
  seen_more old new before after name =
      after name
      ∙ ap (λ o. if bytes_eq (text_of_name p.name) name then Some p.number else o) (before name)
      ∙ sym (number_more (take i ps) p name)
      ∙ ap (λ qs. parameter_number qs name) (sym taken_more)

  pub numbered_more : (number : List Parameter → Text → Option Number) (all old new : List Parameter) (q : Parameter)
      → all ≡ old ++ numbered_parameters number (take i ps) (drop i ps) → q ≡ parameter_by (under_parameters number (take i ps)) p → new ≡ old ++ q ∷ []
      → all ≡ new ++ numbered_parameters number (take (i + 1) ps) (drop (i + 1) ps)
  numbered_more number all old new q so made more =
      so
      ∙ ap (λ qs. old ++ numbered_parameters number (take i ps) qs) (drop-cons ps i p inside ∙ (λ k. sym is k ∷ drop (sym (add-one i) k) ps))
      ∙ (λ k. old ++ (sym made k ∷ numbered_parameters number (sym taken_more k) (drop (i + 1) ps)))
      ∙ sym (append_assoc old (q ∷ []) (numbered_parameters number (take (i + 1) ps) (drop (i + 1) ps)))
      ∙ ap (λ l. l ++ numbered_parameters number (take (i + 1) ps) (drop (i + 1) ps)) (sym more)

-- one more of what is made of each element of a list
pub one_made : {A B : Type 0} (f : A → B) (all : List B) (xs : List A) (i : ℕ) (x : A) (y : B) (old new : List B)
    → all ≡ old ++ map f (drop i xs) → i < length xs → x ≡ get_or xs i x → y ≡ f x → new ≡ old ++ y ∷ [] → all ≡ new ++ map f (drop (i + 1) xs)
one_made f all xs i x y old new so inside is made more =
    so
    ∙ ap (λ ys. old ++ map f ys) (drop-cons xs i x inside ∙ (λ k. sym is k ∷ drop (sym (add-one i) k) xs))
    ∙ (λ k. old ++ (sym made k ∷ map f (drop (i + 1) xs)))
    ∙ sym (append_assoc old (y ∷ []) (map f (drop (i + 1) xs)))
    ∙ ap (λ l. l ++ map f (drop (i + 1) xs)) (sym more)
