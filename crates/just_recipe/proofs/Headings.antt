-- Texts of dependencies, and of recipes over them.
use Rattle.std.proofs.Common.{◌≡◌, refl, sym, ap, ◌∙◌, ℕ, zero, suc, true, false, not, ◌||◌, ◌&&◌, ◌==◌, List, [], ◌∷◌, ◌++◌, map, length, take, drop, append_assoc, append-nil, arith, Option, None, Some, IsOk, Result, codes}
use Rattle.std.specs.List.{list_all, list_any}
use Rattle.std.specs.Option.{option_map}
use Rattle.std.specs.Fmt.{DisplaysOnOk, HasWritten, IsPlainFormatter}
use Rattle.std.specs.declared.fmt.Error.{Error}
use Rattle.std.specs.declared.fmt.Formatter.{Formatter}
use Rattle.std.proofs.lemmas.Bool.Decides.{nat_tests}
use Rattle.std.proofs.lemmas.Grind.{flat_map-append, put_three, put_five}
use Rattle.std.proofs.lemmas.List.{length-map, map-append, drop-map, take-map}
use Rattle.std.proofs.lemmas.List.Folds.{list_any-append}
use Rattle.just_names.specs.Token.{lexeme}
use Rattle.just_ast_definitions.specs.DefinitionTexts.{text_if, body_line_text}
use Rattle.just_ast_definitions.specs.declared.parameter.Parameter.{Parameter}
use Rattle.just_recipe.specs.Grouping.{concatenated}
use Rattle.just_recipe.specs.RecipeTexts.{all_texts, blanked, dependencies_text, dependency_argument_text, dependency_text, each_after, recipe_text, subsequents_text}
use Rattle.just_recipe.specs.Starred.{has_star}
use Rattle.just_recipe.specs.declared.dependency.DependencyArgument.{DependencyArgument}
use Rattle.just_recipe.specs.declared.recipe.Recipe.{Recipe}
use Rattle.just_recipe.proofs.Writing.{Put, put_along, put_ok, all_known_texts}

some_count : (n : ℕ) → (suc n == 0) ≡ false
some_count n = grind (arith, nat_tests)

-- groups, one after another
pub joined_more : {A : Type 0} (groups : List (List A)) (group : List A) → concatenated (groups ++ group ∷ []) ≡ concatenated groups ++ group
joined_more [] group = append-nil group
joined_more (g ∷ gs) group = ap (λ t. g ++ t) (joined_more gs group) ∙ sym (append_assoc g (concatenated gs) group)

pub none_joined : {A : Type 0} (groups : List (List A)) → list_all (λ g. length g == 0) groups ≡ true → concatenated groups ≡ []
none_joined [] h = refl
none_joined ([] ∷ gs) h = none_joined gs h
none_joined ((a ∷ others) ∷ gs) h =
    let not_true : false ≡ true = sym (ap (λ b. b && list_all (λ g. length g == 0) gs) (some_count (length others))) ∙ h in
    absurd (cc)

-- a path and arguments, of which there are some
abbrev pub in_parentheses : List ℕ → List DependencyArgument → List ℕ
in_parentheses path arguments = text_if (has_star arguments) (codes "*") ++ (codes "(" ++ (path ++ (blanked (map dependency_argument_text arguments) ++ codes ")")))

pub some_joined : (path : List ℕ) (groups : List (List DependencyArgument)) → list_all (λ g. length g == 0) groups ≡ false → dependency_text path (concatenated groups) ≡ in_parentheses path (concatenated groups)
some_joined path [] h = absurd (cc)
some_joined path ([] ∷ gs) h = some_joined path gs h
some_joined path ((a ∷ others) ∷ gs) h = refl

pub no_arguments : (path : List ℕ) (arguments : List DependencyArgument) → (length arguments == 0) ≡ true → dependency_text path arguments ≡ path
no_arguments path [] h = refl
no_arguments path (a ∷ others) h = let not_true : false ≡ true = sym (some_count (length others)) ∙ h in absurd (cc)

pub some_arguments : (path : List ℕ) (arguments : List DependencyArgument) → (length arguments == 0) ≡ false → dependency_text path arguments ≡ in_parentheses path arguments
some_arguments path [] h = absurd (cc)
some_arguments path (a ∷ others) h = refl

pub star_joined : (groups : List (List DependencyArgument)) → list_any has_star groups ≡ has_star (concatenated groups)
star_joined [] = refl
star_joined (g ∷ gs) = ap (λ b. has_star g || b) (star_joined gs) ∙ sym (list_any-append (λ (a : DependencyArgument). a.starred) g (concatenated gs))

pub blanked_more : (groups : List (List DependencyArgument)) (group : List DependencyArgument)
    → blanked (map dependency_argument_text (concatenated groups)) ++ blanked (map dependency_argument_text group) ≡ blanked (map dependency_argument_text (concatenated (groups ++ group ∷ [])))
blanked_more groups group =
    sym (ap (λ xs. blanked (map dependency_argument_text xs)) (joined_more groups group)
    ∙ ap blanked (map-append dependency_argument_text (concatenated groups) group)
    ∙ flat_map-append (λ text. codes " " ++ text) (map dependency_argument_text (concatenated groups)) (map dependency_argument_text group))

module _ {W : Type 0} (took : W → List ℕ → W → Type 0) where
  -- items whose texts are known
  pub known_written : {A : Type 0} (f g : Formatter W) (r : Result (Unit {0}) Error) (before : List ℕ) (text : A → List ℕ) (xs : List A) → IsOk r
      → DisplaysOnOk took f r (option_map (each_after before) (all_texts (map (λ x. Some (text x)) xs))) g → IsPlainFormatter f → HasWritten took f (each_after before (map text xs)) g
  known_written f g r before text xs ok h = put_along took f g _ (Some (each_after before (map text xs))) (ap (option_map (each_after before)) (all_known_texts text xs)) (put_ok took f g r _ ok h)

  -- the opening of a dependency, its arguments and its end
  pub parentheses_written : (f g h i : Formatter W) (star path arguments all : List ℕ) → HasWritten took f (star ++ (codes "(" ++ path)) g → HasWritten took g arguments h → HasWritten took h (codes ")") i
      → star ++ (codes "(" ++ (path ++ (arguments ++ codes ")"))) ≡ all → HasWritten took f all i
  parentheses_written f g h i star path arguments all p q r is =
      put_three took _ _ _ _ _ _ _ all p q r (append_assoc star (codes "(" ++ path) (arguments ++ codes ")") ∙ ap (λ t. star ++ t) (append_assoc (codes "(") path (arguments ++ codes ")")) ∙ is)

-- texts that are all known

has_first : (t : List ℕ) (others : Option (List (List ℕ))) (ts : List (List ℕ)) → option_map (λ rest. t ∷ rest) others ≡ Some ts → (rest : List (List ℕ)) × (others ≡ Some rest) × (ts ≡ t ∷ rest)
has_first t None ts e = absurd (cc)
has_first t (Some rest) ts e = (rest, refl, cc)

pub known_take : (n : ℕ) (texts : List (Option (List ℕ))) (ts : List (List ℕ)) → all_texts texts ≡ Some ts → all_texts (take n texts) ≡ Some (take n ts)
known_take zero texts ts e = refl
known_take (suc n) [] ts e = ap (option_map (take (suc n))) e
known_take (suc n) (None ∷ texts) ts e = absurd (cc)
known_take (suc n) (Some t ∷ texts) ts e =
    let first = has_first t (all_texts texts) ts e in
    ap (option_map (λ rest. t ∷ rest)) (known_take n texts first.0 first.1) ∙ ap (λ us. Some (take (suc n) us)) (sym first.2)

pub known_drop : (n : ℕ) (texts : List (Option (List ℕ))) (ts : List (List ℕ)) → all_texts texts ≡ Some ts → all_texts (drop n texts) ≡ Some (drop n ts)
known_drop zero texts ts e = e
known_drop (suc n) [] ts e = ap (option_map (drop (suc n))) e
known_drop (suc n) (None ∷ texts) ts e = absurd (cc)
known_drop (suc n) (Some t ∷ texts) ts e =
    let first = has_first t (all_texts texts) ts e in
    known_drop n texts first.0 first.1 ∙ ap (λ us. Some (drop (suc n) us)) (sym first.2)

known_count : (texts : List (Option (List ℕ))) (ts : List (List ℕ)) → all_texts texts ≡ Some ts → length ts ≡ length texts
known_count [] ts e = let is : ts ≡ [] = cc in ap length is
known_count (None ∷ texts) ts e = absurd (cc)
known_count (Some t ∷ texts) ts e =
    let first = has_first t (all_texts texts) ts e in
    ap length first.2 ∙ ap suc (known_count texts first.0 first.1)

-- the mark stands where some run after the recipe
marked : (ts : List (List ℕ)) → text_if (not (length ts == 0)) (codes " &&") ++ blanked ts ≡ subsequents_text ts
marked [] = refl
marked (t ∷ ts) = ap (λ b. text_if (not b) (codes " &&") ++ blanked (t ∷ ts)) (some_count (length ts))

module _ {W : Type 0} (took : W → List ℕ → W → Type 0) {D : Type 0} (output : D → Option (List ℕ)) where
  -- those before a recipe, the mark, and those after it
  pub dependencies_put : (f g h i : Formatter W) (n : ℕ) (ds front back : List D) (known : Option (List (List ℕ))) → all_texts (map output ds) ≡ known → front ≡ take n ds → back ≡ drop n ds
      → Put took f (option_map (each_after (codes " ")) (all_texts (map output front))) g
      → (IsPlainFormatter g → HasWritten took g (text_if (not (length back == 0)) (codes " &&")) h)
      → Put took h (option_map (each_after (codes " ")) (all_texts (map output back))) i
      → Put took f (option_map (dependencies_text n) known) i
  dependencies_put f g h i n ds front back None is first last p q r = tt
  dependencies_put f g h i n ds front back (Some ts) is first last p q r = λ plain.
      let fronts : all_texts (map output front) ≡ Some (take n ts) = ap (λ xs. all_texts (map output xs)) first ∙ ap all_texts (sym (take-map output n ds)) ∙ known_take n (map output ds) ts is in
      let backs : all_texts (map output back) ≡ Some (drop n ts) = ap (λ xs. all_texts (map output xs)) last ∙ ap all_texts (sym (drop-map output n ds)) ∙ known_drop n (map output ds) ts is in
      let count : length back ≡ length (drop n ts) = sym (known_count (map output back) (drop n ts) backs ∙ length-map back output) in
      let one = put_along took f g _ (Some (blanked (take n ts))) (ap (option_map (each_after (codes " "))) fronts) p plain in
      let two = q one.plain in
      let three = put_along took h i _ (Some (blanked (drop n ts))) (ap (option_map (each_after (codes " "))) backs) r two.plain in
      put_three took f g h i _ _ _ _ one two three
      (ap (λ k. blanked (take n ts) ++ (text_if (not (k == 0)) (codes " &&") ++ blanked (drop n ts))) count ∙ ap (λ t. blanked (take n ts) ++ t) (marked (drop n ts)))

  -- the heading of a recipe, and its body
  pub recipe_put : (f g h i j k : Formatter W) (r : Recipe D) (known : Option (List (List ℕ)))
      → (IsPlainFormatter f → HasWritten took f (text_if r.quiet (codes "@") ++ lexeme r.name.token) g)
      → (IsPlainFormatter g → HasWritten took g (blanked (map (λ (p : Parameter). p.text) r.parameters)) h)
      → (IsPlainFormatter h → HasWritten took h (codes ":") i)
      → Put took i (option_map (dependencies_text r.priors) known) j
      → (IsPlainFormatter j → HasWritten took j (each_after (10 ∷ []) (map body_line_text r.body)) k)
      → Put took f (option_map (recipe_text r) known) k
  recipe_put f g h i j k r None a b c d e = tt
  recipe_put f g h i j k r (Some ts) a b c d e = λ plain.
      let one = a plain in
      let two = b one.plain in
      let three = c two.plain in
      let four = d three.plain in
      put_five took f g h i j k _ _ _ _ _ _ one two three four (e four.plain)
      (append_assoc (text_if r.quiet (codes "@")) (lexeme r.name.token) _)
