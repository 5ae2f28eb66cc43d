-- The forms of expressions that are made again of what lies on a stack.
use Rattle.std.proofs.Common.{◌≡◌, sym, subst, ◌∙◌, ap, ℕ, ◌+◌, ◌<◌, ◌≤◌, arith, List, [], ◌∷◌, ◌++◌, append_assoc, length, take, drop, map, Option, None, Some}
use Rattle.std.specs.Option.{option_map, option_to_list}
use Rattle.std.proofs.lemmas.List.{length-append, length-map}
use Rattle.just_names.specs.Name.{text_of_name}
use Rattle.just_names.specs.declared.name.Name.{Name}
use Rattle.just_names.specs.declared.number.Number.{Number}
use Rattle.just_ast_expressions.specs.declared.expression.Expression.{Expression}
use Rattle.just_ast_expressions.specs.declared.expression.Shape.{Shape}
use Rattle.just_ast_expressions.specs.declared.expression.Shape.TheVariants as shape
use Rattle.just_name_resolution.specs.loops.Nodes.{LieOn}
use Rattle.just_name_resolution.proofs.Taken.{front}
use Rattle.just_ast_references.specs.Numbers.{with_numbers}
use Rattle.just_ast_references.specs.loops.Numbers.{shape_with_numbers}
use Rattle.just_ast_expressions.specs.Parts.{shape_parts}
use Rattle.just_ast_references.proofs.NumbersOf as numbers
use Rattle.just_ast_expressions.proofs.PartsOf as parts

-- as many wait as a form has parts
all_wait : {form known : Shape} {ps : List Expression} {n : ℕ} → form ≡ known → shape_parts known ≡ ps → length (shape_parts form) ≤ n → length ps ≤ n
all_wait {n = n} is has count = subst (λ p. length p ≤ n) (ap shape_parts is ∙ has) count

-- a number of parts is not more than those that wait
pub all_waits : {form known : Shape} {ps : List Expression} {n k : ℕ} →
    form ≡ known → shape_parts known ≡ ps → length (shape_parts form) ≤ n → k ≡ length ps → k ≤ n
all_waits {n = n} is has count same = subst (λ k. k ≤ n) (sym same) (all_wait is has count)

-- the first part waits
pub first_waits : {form known : Shape} {p : Expression} {ps : List Expression} {n : ℕ} →
    form ≡ known → shape_parts known ≡ p ∷ ps → length (shape_parts form) ≤ n → 0 < n
first_waits {p = p} {ps = ps} {n = n} is has count = let all : length (p ∷ ps) ≤ n = all_wait is has count in omega arith

-- and where it is taken, the others do
pub others_wait : {form known : Shape} {p : Expression} {ps : List Expression} {n m : ℕ} →
    form ≡ known → shape_parts known ≡ p ∷ ps → length (shape_parts form) ≤ n → n ≡ m + 1 → length ps ≤ m
others_wait {p = p} {ps = ps} {n = n} is has count one = let all : length (p ∷ ps) ≤ n = all_wait is has count in omega arith

-- so the second does
pub second_waits : {form known : Shape} {p q : Expression} {ps : List Expression} {n m : ℕ} →
    form ≡ known → shape_parts known ≡ p ∷ q ∷ ps → length (shape_parts form) ≤ n → n ≡ m + 1 → 0 < m
second_waits {q = q} {ps = ps} {m = m} is has count one = let all : length (q ∷ ps) ≤ m = others_wait is has count one in omega arith

-- and where that is taken too, those after it
pub third_waits : {form known : Shape} {p q : Expression} {ps : List Expression} {n m k : ℕ} →
    form ≡ known → shape_parts known ≡ p ∷ q ∷ ps → length (shape_parts form) ≤ n → n ≡ m + 1 → m ≡ k + 1 → length ps ≤ k
third_waits {q = q} {ps = ps} {m = m} is has count one two = let all : length (q ∷ ps) ≤ m = others_wait is has count one in omega arith

-- a part that may be missing waits before another
pub optional_waits : (o : Option Expression) (p : Expression) {form known : Shape} {n : ℕ} →
    form ≡ known → shape_parts known ≡ option_to_list o ++ p ∷ [] → length (shape_parts form) ≤ n → length (option_to_list o) ≤ n
optional_waits o p {n = n} is has count =
    let all : length (option_to_list o ++ p ∷ []) ≤ n = all_wait is has count in
    omega (arith, length-append (option_to_list o) (p ∷ []))

-- and where it is taken, the other does
pub last_waits : (o : Option Expression) (p : Expression) {form known : Shape} {n m : ℕ} →
    form ≡ known → shape_parts known ≡ option_to_list o ++ p ∷ [] → length (shape_parts form) ≤ n → n ≡ m + length (option_to_list o) → 0 < m
last_waits o p {n = n} is has count taken =
    let all : length (option_to_list o ++ p ∷ []) ≤ n = all_wait is has count in
    omega (arith, length-append (option_to_list o) (p ∷ []))

-- equally many of two parts that may be missing, on top of equal stacks, are the same
same_option : (o p : Option Expression) (rest below : List Expression) → option_to_list o ++ rest ≡ option_to_list p ++ below →
    length (option_to_list o) ≡ length (option_to_list p) → o ≡ p
same_option None None rest below same count = cc
same_option None (Some p) rest below same count = absurd (omega arith)
same_option (Some o) None rest below same count = absurd (omega arith)
same_option (Some o) (Some p) rest below same count = cc

-- and so is what lies below them
rest_option : (o p : Option Expression) (rest below : List Expression) → option_to_list o ++ rest ≡ option_to_list p ++ below →
    length (option_to_list o) ≡ length (option_to_list p) → rest ≡ below
rest_option None None rest below same count = same
rest_option None (Some p) rest below same count = absurd (omega arith)
rest_option (Some o) None rest below same count = absurd (omega arith)
rest_option (Some o) (Some p) rest below same count = cc

-- a part that may be missing stays there or missing
mapped_count : (f : Expression → Expression) (o : Option Expression) → length (option_to_list (option_map f o)) ≡ length (option_to_list o)
mapped_count f None = cc
mapped_count f (Some e) = cc

module _ (number_of : List ℕ → Option Number) (form : Shape) (stack : List Expression)
    (lie : LieOn (shape_parts (shape_with_numbers number_of form)) stack) where
  abbrev given : Expression → Expression
  given = with_numbers number_of

  abbrev again : Shape
  again = shape_with_numbers number_of form

  abbrev below : List Expression
  below = drop (length (shape_parts again)) stack

  -- a form is as it is to be, and its parts were taken off the stack
  abbrev Remade : Shape → List Expression → Type 0
  Remade fresh rest = record { made : fresh ≡ again; left : stack ≡ shape_parts fresh ++ rest }

  -- the parts that a form is to have lie on top
  on_top : {known made : Shape} {ps : List Expression} → form ≡ known → shape_with_numbers number_of known ≡ made → shape_parts made ≡ ps →
      stack ≡ ps ++ below
  on_top is numbers has = lie ∙ ap (λ ps. ps ++ below) (ap shape_parts (ap (shape_with_numbers number_of) is ∙ numbers) ∙ has)

  -- of no parts
  pub none_made : {X : Type 0} (make : X → Shape) (x : X) {y : X} → shape_parts (make y) ≡ [] →
      ((names : List ℕ → Option Number) (z : X) → shape_with_numbers names (make z) ≡ make z) →
      form ≡ make x → y ≡ x → Remade (make y) stack
  none_made make x has numbers is same = record {
    made = ap make same ∙ sym (numbers number_of x) ∙ ap (shape_with_numbers number_of) (sym is);
    left = ap (λ ps. ps ++ stack) (sym has);
  }

  -- a variable, with what its name is given
  pub variable_made : (name : Name) (number : Option Number) {copied : Name} {found : Option Number} →
      form ≡ shape.Variable name number → copied ≡ name → found ≡ number_of (text_of_name name) → Remade (shape.Variable copied found) stack
  variable_made name number {copied = copied} {found = found} is same look = record {
    made = (λ i. shape.Variable (same i) (look i)) ∙ sym (numbers.numbers_of-Variable number_of name number) ∙ ap (shape_with_numbers number_of) (sym is);
    left = ap (λ ps. ps ++ stack) (sym (parts.parts_of-Variable copied found));
  }

  -- of one part
  pub one_made : (make : Expression → Shape) (e : Expression) {x : Expression} {rest : List Expression} →
      ((p : Expression) → shape_parts (make p) ≡ p ∷ []) →
      ((names : List ℕ → Option Number) (p : Expression) → shape_with_numbers names (make p) ≡ make (with_numbers names p)) →
      form ≡ make e → stack ≡ x ∷ rest → Remade (make x) rest
  one_made make e {x = x} {rest = rest} has numbers is took =
      let top : stack ≡ given e ∷ below = on_top is (numbers number_of e) (has (given e)) in
      let same : x ≡ given e = cc in
      record {
        made = ap make same ∙ sym (numbers number_of e) ∙ ap (shape_with_numbers number_of) (sym is);
        left = took ∙ ap (λ ps. ps ++ rest) (sym (has x));
      }

  -- of two
  pub two_made : (make : Expression → Expression → Shape) (l r : Expression) {x y : Expression} {middle rest : List Expression} →
      ((p q : Expression) → shape_parts (make p q) ≡ p ∷ q ∷ []) →
      ((names : List ℕ → Option Number) (p q : Expression) → shape_with_numbers names (make p q) ≡ make (with_numbers names p) (with_numbers names q)) →
      form ≡ make l r → stack ≡ x ∷ middle → middle ≡ y ∷ rest → Remade (make x y) rest
  two_made make l r {x = x} {y = y} {rest = rest} has numbers is took next =
      let top : stack ≡ given l ∷ given r ∷ below = on_top is (numbers number_of l r) (has (given l) (given r)) in
      let first : x ≡ given l = cc in
      let second : y ≡ given r = cc in
      record {
        made = (λ i. make (first i) (second i)) ∙ sym (numbers number_of l r) ∙ ap (shape_with_numbers number_of) (sym is);
        left = took ∙ ap (λ ps. x ∷ ps) next ∙ ap (λ ps. ps ++ rest) (sym (has x y));
      }

  -- of any number
  pub many_made : (make : List Expression → Shape) (es xs rest : List Expression) {n : ℕ} →
      ((ps : List Expression) → shape_parts (make ps) ≡ ps) →
      ((names : List ℕ → Option Number) (ps : List Expression) → shape_with_numbers names (make ps) ≡ make (map (with_numbers names) ps)) →
      form ≡ make es → n ≡ length es → xs ≡ take n stack → stack ≡ xs ++ rest → Remade (make xs) rest
  many_made make es xs rest {n = n} has numbers is count first took =
      let top : stack ≡ map given es ++ below = on_top is (numbers number_of es) (has (map given es)) in
      let same : xs ≡ map given es = first ∙ sym (front n (map given es) below stack top (length-map es given ∙ sym count)) in
      record {
        made = ap make same ∙ sym (numbers number_of es) ∙ ap (shape_with_numbers number_of) (sym is);
        left = took ∙ ap (λ ps. ps ++ rest) (sym (has xs));
      }

  -- of one, and one that may be missing
  pub assert_made : (e : Expression) (o m : Option Expression) (rest : List Expression) {x : Expression} {middle : List Expression} →
      form ≡ shape.Assert e o → stack ≡ x ∷ middle → middle ≡ option_to_list m ++ rest →
      length (option_to_list m) ≡ length (option_to_list o) → Remade (shape.Assert x m) rest
  assert_made e o m rest {x = x} is took next count =
      let numbers = numbers.numbers_of-Assert number_of e o in
      let top : stack ≡ given e ∷ (option_to_list (option_map given o) ++ below) = on_top is numbers (parts.parts_of-Assert (given e) (option_map given o)) in
      let first : x ≡ given e = cc in
      let others : option_to_list m ++ rest ≡ option_to_list (option_map given o) ++ below = cc in
      let last : m ≡ option_map given o = same_option m (option_map given o) rest below others (count ∙ sym (mapped_count given o)) in
      record {
        made = (λ i. shape.Assert (first i) (last i)) ∙ sym numbers ∙ ap (shape_with_numbers number_of) (sym is);
        left = took ∙ ap (λ ps. x ∷ ps) next ∙ ap (λ ps. ps ++ rest) (sym (parts.parts_of-Assert x m));
      }

  -- of two, and one that may be missing
  pub conditional_made : (e t : Expression) (o m : Option Expression) (rest : List Expression) {x y : Expression} {middle after : List Expression} →
      form ≡ shape.Conditional e t o → stack ≡ x ∷ middle → middle ≡ y ∷ after → after ≡ option_to_list m ++ rest →
      length (option_to_list m) ≡ length (option_to_list o) → Remade (shape.Conditional x y m) rest
  conditional_made e t o m rest {x = x} {y = y} is took next then count =
      let numbers = numbers.numbers_of-Conditional number_of e t o in
      let top : stack ≡ given e ∷ given t ∷ (option_to_list (option_map given o) ++ below) =
      on_top is numbers (parts.parts_of-Conditional (given e) (given t) (option_map given o)) in
      let first : x ≡ given e = cc in
      let second : y ≡ given t = cc in
      let others : option_to_list m ++ rest ≡ option_to_list (option_map given o) ++ below = cc in
      let last : m ≡ option_map given o = same_option m (option_map given o) rest below others (count ∙ sym (mapped_count given o)) in
      record {
        made = (λ i. shape.Conditional (first i) (second i) (last i)) ∙ sym numbers ∙ ap (shape_with_numbers number_of) (sym is);
        left = took ∙ (λ i. x ∷ next i) ∙ (λ i. x ∷ y ∷ then i) ∙ ap (λ ps. ps ++ rest) (sym (parts.parts_of-Conditional x y m));
      }

  -- of one that may be missing, and one
  pub join_made : (o m : Option Expression) (e : Expression) (middle : List Expression) {x : Expression} {rest : List Expression} →
      form ≡ shape.Join o e → stack ≡ option_to_list m ++ middle → length (option_to_list m) ≡ length (option_to_list o) →
      middle ≡ x ∷ rest → Remade (shape.Join m x) rest
  join_made o m e middle {x = x} {rest = rest} is took count next =
      let numbers = numbers.numbers_of-Join number_of o e in
      let top : stack ≡ option_to_list (option_map given o) ++ (given e ∷ below) =
      on_top is numbers (parts.parts_of-Join (option_map given o) (given e)) ∙ append_assoc (option_to_list (option_map given o)) (given e ∷ []) below in
      let whole : option_to_list m ++ middle ≡ option_to_list (option_map given o) ++ (given e ∷ below) = sym took ∙ top in
      let counts : length (option_to_list m) ≡ length (option_to_list (option_map given o)) = count ∙ sym (mapped_count given o) in
      let first : m ≡ option_map given o = same_option m (option_map given o) middle (given e ∷ below) whole counts in
      let others : middle ≡ given e ∷ below = rest_option m (option_map given o) middle (given e ∷ below) whole counts in
      let last : x ≡ given e = cc in
      record {
        made = (λ i. shape.Join (first i) (last i)) ∙ sym numbers ∙ ap (shape_with_numbers number_of) (sym is);
        left = took ∙ ap (λ ps. option_to_list m ++ ps) next ∙ sym (append_assoc (option_to_list m) (x ∷ []) rest)
            ∙ ap (λ ps. ps ++ rest) (sym (parts.parts_of-Join m x));
      }
