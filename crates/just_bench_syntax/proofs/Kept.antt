-- What numbers do not change of items.
use Rattle.std.proofs.Common.{zero, suc, ◌≡◌, ℕ, ◌+◌, sym, ap, refl, subst, List, [], ◌∷◌, map, get_or, arith, Result, Ok, Err}
use Rattle.std.specs.Prelude.{IfErr}
use Rattle.std.specs.Option.{option_map}
use Rattle.std.specs.Result.{result_ok}
use Rattle.std.specs.List.{All, Contains}
use Rattle.just_names.specs.Token.{Place, lexeme}
use Rattle.just_parts.specs.Bare.{bare_item, bare_parameter}
use Rattle.just_parts.specs.Items.{Item}
use Rattle.just_parts.specs.Syntax.{AttributesNameParameters, IsPlain, NamesParameter, PriorsAreDependencies, Refuses}
use Rattle.just_ast_items.specs.declared.item.Item.TheVariants as item
use Rattle.just_ast_definitions.specs.declared.attribute.Attribute.{Attribute}
use Rattle.just_ast_definitions.specs.declared.attribute.Attribute.TheVariants as attribute
use Rattle.just_ast_expressions.specs.declared.expression.Expression.{Expression}
use Rattle.just_ast_expressions.specs.declared.keyword.Keyword.{Keyword}
use Rattle.just_ast_definitions.specs.declared.parameter.Parameter.{Parameter}
use Rattle.just_errors.specs.declared.error.Error.{Error}
use Rattle.just_errors.specs.declared.error.Error.TheVariants as error
use Rattle.just_bench_syntax.specs.declared.items.Items.{Items}
use Rattle.just_bench_syntax.specs.Items.{items_in_text}
use Rattle.just_bench_syntax.specs.Proper.{IsProper}
use Rattle.just_bench_syntax.specs.Answers.{answers, ast_with_lists, counted_in, spends}
use Rattle.just_bench_syntax.specs.Numbering.{numbers_counted}
use Rattle.just_bench_syntax.specs.loops.Numbering.{Spent}
use Rattle.just_bench_syntax.specs.Refusal.{RefusesLine}

pub all_bare : (items : List Item) → All IsProper items → All (λ i. bare_item i ≡ i) items
all_bare items proper k d within = (proper k d within).bare

-- of each element, where it holds of what is made of it
each_kept : {A : Type 0} (P Q : A → Type 0) (f : A → A) (xs : List A) → ((x : A) → P (f x) → Q x) → All P (map f xs) → All Q xs
each_kept P Q f [] keeps all k d within = absurd (omega (arith, within))
each_kept P Q f (x ∷ xs) keeps all zero d within = keeps x (all 0 d (omega arith))
each_kept P Q f (x ∷ xs) keeps all (suc k) d within = each_kept P Q f xs keeps (λ n e h. all (suc n) e (omega (arith, h))) k d (omega (arith, within))

prior_kept : (i : Item) → PriorsAreDependencies (bare_item i) → PriorsAreDependencies i
prior_kept (item.Recipe r) h = h
prior_kept _ h = tt

names_kept : (ps : List Parameter) → map (λ (p : Parameter). lexeme p.name.token) (map bare_parameter ps) ≡ map (λ (p : Parameter). lexeme p.name.token) ps
names_kept [] = refl
names_kept (p ∷ ps) = ap (λ names. lexeme p.name.token ∷ names) (names_kept ps)

attribute_kept : (ps : List Parameter) (a : Attribute Expression) → NamesParameter (map bare_parameter ps) a → NamesParameter ps a
attribute_kept ps (attribute.Arg a) h = (subst (λ names. Contains names a.name.cooked) (names_kept ps) h.0, h.1, h.2)
attribute_kept ps _ h = tt

attributes_kept : (i : Item) → AttributesNameParameters (bare_item i) → AttributesNameParameters i
attributes_kept (item.Recipe r) h = record {
  parameters = each_kept IsPlain IsPlain bare_parameter r.parameters (λ p plain. plain) h.parameters;
  attributes = λ k d within. attribute_kept r.parameters (get_or r.attributes k d).attribute (h.attributes k d within);
}
attributes_kept _ h = tt

pub priors_kept : (items old : List Item) → map bare_item items ≡ old → All IsProper old → All PriorsAreDependencies items
priors_kept items old same proper = each_kept PriorsAreDependencies PriorsAreDependencies bare_item items prior_kept (rw same (λ k d within. (proper k d within).priors))

pub names_fit : (items old : List Item) → map bare_item items ≡ old → All IsProper old → All AttributesNameParameters items
names_fit items old same proper = each_kept AttributesNameParameters AttributesNameParameters bare_item items attributes_kept (rw same (λ k d within. (proper k d within).attributes))

-- how many numbers a text takes
pub spends_is : (path text : List ℕ) (found : Items) → Ok found ≡ items_in_text path text → spends path text ≡ numbers_counted found.items
unfolding spends
spends_is path text found is = ap counted_in (sym is)

why_spent : (path text : List ℕ) (wanted : ℕ) (e : Error) → Spent wanted e → RefusesLine path text e wanted
why_spent path text wanted error.Exhausted h = h
why_spent path text wanted error.Memory h = tt
why_spent path text wanted (error.Compile e) h = absurd h
why_spent path text wanted (error.Load e) h = absurd h
why_spent path text wanted (error.Invocation e) h = absurd h
why_spent path text wanted (error.Run e) h = absurd h

pub spent_on_text : (path text : List ℕ) (found : Items) (low : ℕ) (e : Error) → Ok found ≡ items_in_text path text → Spent (low + numbers_counted found.items) e → RefusesLine path text e (low + spends path text)
spent_on_text path text found low e is h = rw (spends_is path text found is) (why_spent path text (low + numbers_counted found.items) e h)

-- the line that is told
-- in the words of the layer
pub line_refuses : (pairs : List (Keyword × Keyword)) (path text : List ℕ) (given : ℕ) (e : Error) → RefusesLine path text e (given + spends path text) → Refuses (answers pairs) path text given e
line_refuses pairs path text given error.Exhausted h = h
line_refuses pairs path text given error.Memory h = tt
line_refuses pairs path text given (error.Compile e) h = record {
  says_nothing = ap (λ r. option_map ast_with_lists (result_ok r)) h.told;
  kind = h.kind;
  path = ap (λ (t : Place). t.path) h.place.is;
  src = ap (λ (t : Place). t.src) h.place.is;
}
line_refuses pairs path text given (error.Load e) h = absurd h
line_refuses pairs path text given (error.Invocation e) h = absurd h
line_refuses pairs path text given (error.Run e) h = absurd h

pub refuses_text : {A : Type 0} (pairs : List (Keyword × Keyword)) (path text : List ℕ) (given : ℕ) (r : Result A Error) → IfErr r (λ e. RefusesLine path text e (given + spends path text))
    → IfErr r (Refuses (answers pairs) path text given)
refuses_text pairs path text given (Ok x) h = tt
refuses_text pairs path text given (Err e) h = line_refuses pairs path text given e h
