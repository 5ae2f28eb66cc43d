-- What attributes say of parameters, found by the names of the parameters.
use Rattle.std.proofs.Common.{zero, suc, ◌≡◌, ◌≢◌, ℕ, ◌+◌, ◌<◌, sym, ◌∙◌, ap, refl, subst, List, [], ◌∷◌, ◌++◌, length, take, drop, get_or, add-one, Bool, true, false, cond, ◌||◌, arith, Option, Some, None, is_some}
use Rattle.std.specs.Prelude.{if◌then◌else◌, not}
use Rattle.std.specs.List.{slice_get}
use Rattle.std.specs.Option.{option_and_then}
use Rattle.std.specs.Str.{bytes_eq}
use Rattle.std.proofs.Math.Seq.{drop-cons}
use Rattle.std.proofs.lemmas.List.{drop_all, length-map, take_more}
use Rattle.std.proofs.lemmas.Slice.Eq.{bytes_eq-Decides}
use Rattle.just_names.specs.Index.{AreDifferent, IsIndex, IsLast, name_at}
use Rattle.just_names.specs.Texts.{Text}
use Rattle.just_names.specs.Token.{lexeme}
use Rattle.just_names.proofs.Indexing.{texts_apart}
use Rattle.just_ast_definitions.specs.declared.parameter.Parameter.{Parameter}
use Rattle.just_bench_syntax.specs.declared.recipe.Spoken.{Spoken}
use Rattle.just_bench_syntax.specs.Recipe.{AreFoundNames, fits, names_parameter, misfit, misfit_from, parameter_names_of, options_of}
use Rattle.just_bench_syntax.specs.loops.Recipe.{spoken_of}

-- nothing is said of a name that no attribute has among the first
pub none_said : (ss : List Spoken) (name : Text) (n : ℕ) → ((k : ℕ) → k < n → name_at (spoken_of ss) k ≢ name) → options_of (take n ss) name ≡ None
none_said [] name zero none = refl
none_said [] name (suc n) none = refl
none_said (s ∷ ss) name zero none = refl
none_said (s ∷ ss) name (suc n) none =
    ap (λ b. cond b (Some s) (options_of (take n ss) name)) (texts_apart s.options.parameter name (none 0 (omega arith)))
    ∙ none_said ss name n (λ k h. none (suc k) (omega (arith, h)))

found_or : (b : Bool) (s : Spoken) (more : Option Spoken) → is_some more ≡ true → is_some (cond b (Some s) more) ≡ true
found_or true s more h = refl
found_or false s more h = h

some_said : (ss : List Spoken) (name : Text) (n k : ℕ) → k < n → k < length ss → name_at (spoken_of ss) k ≡ name → is_some (options_of (take n ss) name) ≡ true
some_said [] name n k l h is = absurd (omega (arith, h))
some_said (s ∷ ss) name zero k l h is = absurd (omega (arith, l))
some_said (s ∷ ss) name (suc n) zero l h is = ap (λ b. is_some (cond b (Some s) (options_of (take n ss) name))) ((bytes_eq-Decides s.options.parameter name).1 is)
some_said (s ∷ ss) name (suc n) (suc k) l h is =
    found_or (bytes_eq s.options.parameter name) s (options_of (take n ss) name) (some_said ss name n k (omega (arith, l)) (omega (arith, h)) is)

-- whether one of the first speaks of a name, by the place where it stands last among them
pub said_before : (ss : List Spoken) (name : Text) (n : ℕ) (o : Option ℕ) → n < length ss → IsLast (spoken_of ss) n name o → is_some (options_of (take n ss) name) ≡ is_some o
said_before ss name n None within last = ap is_some (none_said ss name n last)
said_before ss name n (Some k) within last = some_said ss name n k last.0 (omega (arith, last.0, within)) last.1

-- what is said of a name that stands at one place alone
said_at : (ss : List Spoken) (name : Text) (k : ℕ) → AreDifferent (spoken_of ss) → k < length (spoken_of ss) → name_at (spoken_of ss) k ≡ name → options_of ss name ≡ slice_get ss k
said_at [] name k apart h is = absurd (omega (arith, h))
said_at (s ∷ ss) name zero apart h is = ap (λ b. cond b (Some s) (options_of ss name)) ((bytes_eq-Decides s.options.parameter name).1 is)
said_at (s ∷ ss) name (suc k) apart h is =
    ap (λ b. cond b (Some s) (options_of ss name)) (texts_apart s.options.parameter name (λ same. apart 0 (suc k) (omega arith) h (same ∙ sym is)))
    ∙ said_at ss name k (λ i j l m. apart (suc i) (suc j) (omega (arith, l)) (omega (arith, m))) (omega (arith, h)) is

none_at_all : (ss : List Spoken) (name : Text) → ((k : ℕ) → k < length (spoken_of ss) → name_at (spoken_of ss) k ≢ name) → options_of ss name ≡ None
none_at_all [] name none = refl
none_at_all (s ∷ ss) name none =
    ap (λ b. cond b (Some s) (options_of ss name)) (texts_apart s.options.parameter name (none 0 (omega arith)))
    ∙ none_at_all ss name (λ k h. none (suc k) (omega (arith, h)))

-- what is said of a name, by the place that an index has for it
said_by : (ss : List Spoken) (name : Text) (o : Option ℕ) → AreDifferent (spoken_of ss) → IsLast (spoken_of ss) (length (spoken_of ss)) name o → options_of ss name ≡ option_and_then (slice_get ss) o
said_by ss name None apart last = none_at_all ss name last
said_by ss name (Some k) apart last = said_at ss name k apart last.0 last.1

-- whether a parameter has a name, by the place that an index has for it
no_parameter : (ps : List Parameter) (name : Text) → ((k : ℕ) → k < length (parameter_names_of ps) → name_at (parameter_names_of ps) k ≢ name) → names_parameter ps name ≡ false
no_parameter [] name none = refl
no_parameter (p ∷ ps) name none =
    ap (λ b. b || names_parameter ps name) (texts_apart (lexeme p.name.token) name (none 0 (omega arith)))
    ∙ no_parameter ps name (λ k h. none (suc k) (omega (arith, h)))

either : (b more : Bool) → more ≡ true → (b || more) ≡ true
either true more h = refl
either false more h = h

a_parameter : (ps : List Parameter) (name : Text) (k : ℕ) → k < length (parameter_names_of ps) → name_at (parameter_names_of ps) k ≡ name → names_parameter ps name ≡ true
a_parameter [] name k h is = absurd (omega (arith, h))
a_parameter (p ∷ ps) name zero h is = ap (λ b. b || names_parameter ps name) ((bytes_eq-Decides (lexeme p.name.token) name).1 is)
a_parameter (p ∷ ps) name (suc k) h is = either (bytes_eq (lexeme p.name.token) name) (names_parameter ps name) (a_parameter ps name k (omega (arith, h)) is)

named_by : (ps : List Parameter) (name : Text) (o : Option ℕ) → IsLast (parameter_names_of ps) (length (parameter_names_of ps)) name o → is_some o ≡ names_parameter ps name
named_by ps name None last = sym (no_parameter ps name last)
named_by ps name (Some k) last = sym (a_parameter ps name k last.0 last.1)

-- whether a look-up has a name that is looked up
pub named_index : (ps : List Parameter) (names : List Text) (found : Text → Option ℕ) (key name : Text) (has b : Bool) → names ≡ parameter_names_of ps → IsIndex names found → key ≡ name → has ≡ is_some (found key) → has ≡ b
    → names_parameter ps name ≡ b
named_index ps names found key name has b all index is known it =
    sym (named_by ps name (found name) (subst (λ ns. IsIndex ns found) all index name)) ∙ sym (known ∙ ap (λ n. is_some (found n)) is) ∙ it

-- how far attributes were looked at: all fit so far, and each name stands at its place
pub record Looked (ps : List Parameter) (ss : List Spoken) (found : Text → Option ℕ) (n : ℕ) : Type 0 where
  pub so_far : misfit ps ss ≡ misfit_from ps (take n ss) (drop n ss)
  pub index : (name : Text) → IsLast (spoken_of ss) n name (found name)
  pub different : (i j : ℕ) → i < j → j < n → name_at (spoken_of ss) i ≢ name_at (spoken_of ss) j

-- an attribute that is looked at
pub looked_at : (ps : List Parameter) (ss : List Spoken) (n : ℕ) (s : Spoken) (b : Bool) → misfit ps ss ≡ misfit_from ps (take n ss) (drop n ss) → n < length ss → s ≡ get_or ss n s → fits ps (take n ss) s.options.parameter ≡ b
    → misfit ps ss ≡ (if b then misfit_from ps (take n ss ++ s ∷ []) (drop (n + 1) ss) else Some s.at)
looked_at ps ss n s b so_far within is fit =
    so_far
    ∙ ap (misfit_from ps (take n ss)) (drop-cons ss n s within ∙ ap (λ m. get_or ss n s ∷ drop m ss) (sym (add-one n)) ∙ ap (λ x. x ∷ drop (n + 1) ss) (sym is))
    ∙ ap (λ c. if c then misfit_from ps (take n ss ++ s ∷ []) (drop (n + 1) ss) else Some s.at) fit

-- one that speaks of no parameter, one of which another spoke, and one that fits
pub unknown_told : (ps : List Parameter) (ss : List Spoken) (n : ℕ) (s : Spoken) → misfit ps ss ≡ misfit_from ps (take n ss) (drop n ss) → n < length ss → s ≡ get_or ss n s → names_parameter ps s.options.parameter ≡ false
    → misfit ps ss ≡ Some s.at
unknown_told ps ss n s so_far within is unknown =
    looked_at ps ss n s false so_far within is (ap (λ b. if b then not (is_some (options_of (take n ss) s.options.parameter)) else false) unknown)

fit_by : (ps : List Parameter) (before : List Spoken) (name : Text) (again : Bool) → names_parameter ps name ≡ true → is_some (options_of before name) ≡ again → fits ps before name ≡ not again
fit_by ps before name again known is = ap (λ b. if b then not (is_some (options_of before name)) else false) known ∙ ap not is

pub again_told : (ps : List Parameter) (ss : List Spoken) (found : Text → Option ℕ) (n : ℕ) (s : Spoken) → Looked ps ss found n → n < length ss → s ≡ get_or ss n s → names_parameter ps s.options.parameter ≡ true
    → is_some (found s.options.parameter) ≡ true → misfit ps ss ≡ Some s.at
again_told ps ss found n s looked within is known again =
    let name = s.options.parameter in
    looked_at ps ss n s false looked.so_far within is (fit_by ps (take n ss) name true known (said_before ss name n (found name) within (looked.index name) ∙ again))

pub fits_on : (ps : List Parameter) (ss : List Spoken) (found : Text → Option ℕ) (n : ℕ) (s : Spoken) → Looked ps ss found n → n < length ss → s ≡ get_or ss n s → names_parameter ps s.options.parameter ≡ true
    → is_some (found s.options.parameter) ≡ false → misfit ps ss ≡ misfit_from ps (take (n + 1) ss) (drop (n + 1) ss)
fits_on ps ss found n s looked within is known new =
    let name = s.options.parameter in
    let more : take (n + 1) ss ≡ take n ss ++ s ∷ [] = take_more ss n s within ∙ ap (λ x. take n ss ++ x ∷ []) (sym is) in
    looked_at ps ss n s true looked.so_far within is (fit_by ps (take n ss) name false known (said_before ss name n (found name) within (looked.index name) ∙ new))
    ∙ ap (λ xs. misfit_from ps xs (drop (n + 1) ss)) (sym more)

-- a name that is spoken of, at its place
pub name_spoken : (ss : List Spoken) (n : ℕ) (s : Spoken) → n < length ss → s ≡ get_or ss n s → s.options.parameter ≡ name_at (spoken_of ss) n
name_spoken [] n s within is = absurd (omega (arith, within))
name_spoken (x ∷ ss) zero s within is = ap (λ (y : Spoken). y.options.parameter) is
name_spoken (x ∷ ss) (suc n) s within is = name_spoken ss n s (omega (arith, within)) is

-- all were looked at
pub all_fit : (ps : List Parameter) (ss : List Spoken) (found : Text → Option ℕ) (n : ℕ) → Looked ps ss found n → length ss ≡ n → misfit ps ss ≡ None
all_fit ps ss found n looked count = looked.so_far ∙ ap (misfit_from ps (take n ss)) (drop_all n ss (omega (arith, count)))

pub all_found : (ps : List Parameter) (ss : List Spoken) (found : Text → Option ℕ) (n : ℕ) → Looked ps ss found n → length ss ≡ n → AreFoundNames ss found
all_found ps ss found n looked count name =
    let size : n ≡ length (spoken_of ss) = sym (length-map ss (λ (s : Spoken). s.options.parameter) ∙ count) in
    said_by ss name (found name) (λ i j l m. looked.different i j l (omega (arith, m, size))) (subst (λ k. IsLast (spoken_of ss) k name (found name)) size (looked.index name))
