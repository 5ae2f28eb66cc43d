-- What reads as a setting is read to its end as one.
use Rattle.std.proofs.Common.{◌≡◌, ℕ, sym, ◌∙◌, ap, refl, List, length, Bool, true, false, Option, Some, None, Result, Ok, Err}
use Rattle.std.specs.Prelude.{if◌then◌else◌, ◌==◌, ◌||◌, codes, is_some, is_ok}
use Rattle.std.specs.Option.{option_map}
use Rattle.std.specs.Str.{bytes_eq}
use Rattle.just_names.specs.Token.{lexeme}
use Rattle.just_names.specs.declared.name.Name.{Name}
use Rattle.just_ast_definitions.specs.declared.setting.Setting.{Setting}
use Rattle.just_ast_definitions.specs.declared.setting.Setting.TheVariants as settings
use Rattle.just_bench_expressions.specs.declared.lexer.Lexeme.{Lexeme}
use Rattle.just_bench_expressions.specs.Expressions.{expression_end}
use Rattle.just_bench_lines.specs.Definitions.{listed_by, named_set, program, set, set_in_line, set_to, setting, setting_by, switched, truth_at, whole_expression}
use Rattle.just_bench_lines.specs.Places.{read_name_at, stands, word_at, is_assign, is_bracket_close, is_bracket_open}
use Rattle.just_bench_stops.specs.Definitions.{named_setting_end, program_end, set_end, switch_end, truth_end}
use Rattle.just_bench_stops.specs.Marks.{goes_on_from, line_end, mark_end}
use Rattle.just_bench_stops.proofs.Ends.{chosen, turned}
use Rattle.just_bench_stops.proofs.Lists.{lists_agree}

-- a setting that names a program
programs : (all : List Lexeme) → is_some (program all) ≡ is_ok (program_end all)
programs all =
    chosen (stands is_assign all 2) (listed_by (whole_expression all 3)) 2 3
    (λ at. goes_on_from (mark_end is_bracket_open all at) (λ inner. if stands is_bracket_close all inner then Err inner else goes_on_from (expression_end false all at) (line_end all))) (lists_agree all 3)

mapped : {A B : Type 0} (f : A → B) (o : Option A) → is_some (option_map f o) ≡ is_some o
mapped f None = refl
mapped f (Some x) = refl

-- a setting that is on or off: whether there is one does not hang on which
either : {A : Type 0} (b : Bool) (o p q r : Option A) → is_some o ≡ is_some p → is_some q ≡ is_some r → is_some (if b then o else q) ≡ is_some (if b then p else r)
either true o p q r same other = same
either false o p q r same other = other

any_value : (name : List ℕ) (value : Bool) → is_some (setting name value) ≡ is_some (setting name true)
any_value name true = refl
any_value name false =
    either (bytes_eq name (codes "allow-duplicate-recipes")) (Some (settings.AllowDuplicateRecipes false)) (Some (settings.AllowDuplicateRecipes true)) _ _ refl
    (either (bytes_eq name (codes "allow-duplicate-variables")) (Some (settings.AllowDuplicateVariables false)) (Some (settings.AllowDuplicateVariables true)) _ _ refl
    (either (bytes_eq name (codes "export")) (Some (settings.Export false)) (Some (settings.Export true)) _ _ refl
    (either (bytes_eq name (codes "ignore-comments")) (Some (settings.IgnoreComments false)) (Some (settings.IgnoreComments true)) _ _ refl
    (either (bytes_eq name (codes "lazy")) (Some (settings.Lazy false)) (Some (settings.Lazy true)) _ _ refl
    (either (bytes_eq name (codes "lists")) (Some (settings.Lists false)) (Some (settings.Lists true)) _ _ refl
    (either (bytes_eq name (codes "positional-arguments")) (Some (settings.PositionalArguments false)) (Some (settings.PositionalArguments true)) _ _ refl
    (either (bytes_eq name (codes "quiet")) (Some (settings.Quiet false)) (Some (settings.Quiet true)) None None refl refl)))))))

value_by : (name : List ℕ) (value : Option Bool) (b : Bool) → is_some (setting name true) ≡ b → is_some (switched name value) ≡ (if b then is_some value else false)
value_by name None true is = refl
value_by name None false is = refl
value_by name (Some value) true is = any_value name value ∙ is
value_by name (Some value) false is = any_value name value ∙ is

-- `:=` and `true` or `false`, or nothing
swapped : (b c : Bool) (value : Option Bool) → is_some (if b then (if c then value else None) else None) ≡ is_some (if c then (if b then value else None) else None)
swapped true c value = refl
swapped false true value = refl
swapped false false value = refl

truth_by : (b t f : Bool) → is_some (if b then (if t then Some true else (if f then Some false else None)) else None)
    ≡ is_ok {E = ℕ} (goes_on_from (if t then Ok 4 else (if f then Ok 4 else Err 3)) (λ at. if b then Ok at else Err at))
truth_by true true f = refl
truth_by true false true = refl
truth_by true false false = refl
truth_by false true f = refl
truth_by false false true = refl
truth_by false false false = refl

truth_is : (r : Result ℕ ℕ) (all : List Lexeme) (b : Bool) → ((at : ℕ) → Ok at ≡ r → at ≡ 4) → (4 == length all) ≡ b → is_ok {E = ℕ} (goes_on_from r (λ at. if b then Ok at else Err at)) ≡ is_ok (goes_on_from r (line_end all))
truth_is (Ok at) all b four is = ap (λ c. is_ok {E = ℕ} (if c then Ok at else Err at)) (sym is ∙ ap (λ n. n == length all) (sym (four at refl)))
truth_is (Err at) all b four is = refl

four_by : (t f : Bool) (at : ℕ) → ◌≡◌ {A = Result ℕ ℕ} (Ok at) (if t then Ok 4 else (if f then Ok 4 else Err 3)) → at ≡ 4
four_by true f at h = cc
four_by false true at h = cc
four_by false false at h = cc

truths : (all : List Lexeme) → is_some (if length all == 4 then truth_at all 3 else None) ≡ is_ok (goes_on_from (truth_end all 3) (line_end all))
truths all =
    truth_by (length all == 4) (word_at (codes "true") all 3) (word_at (codes "false") all 3)
    ∙ truth_is (truth_end all 3) all (length all == 4) (four_by (word_at (codes "true") all 3) (word_at (codes "false") all 3)) (sym (turned (length all) 4))

set_to_by : (all : List Lexeme) (b : Bool) → is_some (if b then Some true else (if length all == 4 then (if stands is_assign all 2 then truth_at all 3 else None) else None))
    ≡ is_ok (if b then Ok 2 else goes_on_from (mark_end is_assign all 2) (λ at. goes_on_from (truth_end all at) (line_end all)))
set_to_by all true = refl
set_to_by all false =
    swapped (length all == 4) (stands is_assign all 2) (truth_at all 3)
    ∙ chosen (stands is_assign all 2) (if length all == 4 then truth_at all 3 else None) 2 3 (λ at. goes_on_from (truth_end all at) (line_end all)) (truths all)

if_setting : (b : Bool) (r : Result ℕ ℕ) → (if b then is_ok r else false) ≡ is_ok (if b then r else Err 1)
if_setting true r = refl
if_setting false r = refl

switches : (all : List Lexeme) (name : List ℕ) → is_some (switched name (set_to all)) ≡ is_ok (if is_some (setting name true) then switch_end all else Err 1)
switches all name =
    value_by name (set_to all) (is_some (setting name true)) refl
    ∙ ap (λ c. if is_some (setting name true) then c else false) (set_to_by all (length all == 2))
    ∙ if_setting (is_some (setting name true)) (switch_end all)

-- a setting by its name
setting_is : (all : List Lexeme) (name : List ℕ) (b c : Bool)
    → is_some (if b then option_map settings.Shell (program all) else (if c then option_map settings.ScriptInterpreter (program all) else switched name (set_to all)))
    ≡ is_ok (if b || c then program_end all else (if is_some (setting name true) then switch_end all else Err 1))
setting_is all name true c = mapped settings.Shell (program all) ∙ programs all
setting_is all name false true = mapped settings.ScriptInterpreter (program all) ∙ programs all
setting_is all name false false = switches all name

named_value : (name : Name) (value : Option Setting) → is_some (named_set name value) ≡ is_some value
named_value name None = refl
named_value name (Some value) = refl

named_is : (all : List Lexeme) (name : Option Name) → is_some (set_in_line all name) ≡ is_ok (named_setting_end all name)
named_is all None = refl
named_is all (Some name) =
    let text = lexeme name.token in
    named_value name (setting_by all text) ∙ setting_is all text (bytes_eq text (codes "shell")) (bytes_eq text (codes "script-interpreter"))

pub settings_agree : (all : List Lexeme) → is_some (set all) ≡ is_ok (set_end all)
settings_agree all = chosen (word_at (codes "set") all 0) (set_in_line all (read_name_at all 1)) 0 1 (λ _. named_setting_end all (read_name_at all 1)) (named_is all (read_name_at all 1))
