-- What the word of an option says, once its switches are read.
use Rattle.std.proofs.Common.{◌≡◌, inr, ℕ, List, [], ◌∷◌, ◌++◌, Option, take, Result, IfOk, IfErr, IfSome, sym, ap, ◌∙◌}
use Rattle.std.specs.Borrow.{Bor}
use Rattle.just_names.specs.Texts.{Text, texts}
use Rattle.just_ast_definitions.specs.declared.parameter.Parameter.{Parameter}
use Rattle.just_errors.specs.declared.switch.Switch.TheVariants.{Long}
use Rattle.just_tail.specs.declared.error.TailError.{TailError}
use Rattle.just_tail.specs.declared.progress.Progress.{Progress}
use Rattle.just_tail.specs.Words.{Words}
use Rattle.just_tail.specs.Pieces.{OptionName, long, cluster, Supplied, option_word, value_of, next_of, switches_of, IsOptionName}
use Rattle.just_tail.specs.Steps.{use_switch, give, need, FitsNeed, StepsFollow}
use Rattle.just_tail.specs.Cause.{tail_cause_of}
use Rattle.just_tail.specs.Tail.{RefusesSwitch, SwitchIsRefused, BadOption}
use Rattle.just_tail.specs.loops.Reader.{HasRead, HoldsAfter, HoldsOpen}
use Rattle.just_tail.proofs.Outcomes.{IfOk_then, IfCause_then}
use Rattle.just_tail.proofs.OptionLemmas.{single_refused}

-- on success the word is an option, of which as many words were taken
abbrev ReadsOption : List Parameter → Progress → Progress → Text → List (Bor Text) → Result ℕ TailError → Type 0
ReadsOption ps old new word rest r =
    IfOk r (λ n. HoldsOpen ps old (λ before. (name : OptionName) × (g : Supplied)
    × IsOptionName name × (word ≡ option_word name (value_of g)) × (next_of g ≡ texts (take n rest))
    × StepsFollow ps before (give (switches_of name) g) × HasRead ps (before ++ give (switches_of name) g) new))

-- an error says that it is none
abbrev TellsOption : List Parameter → Progress → Text → Words → Result ℕ TailError → Type 0
TellsOption ps old word rest r = IfErr r (λ e. IfSome (tail_cause_of e) (λ cause. HoldsOpen ps old (λ before. BadOption ps before (word ∷ rest) cause)))

-- a long name whose switch is given what fits
pub long_read : (ps : List Parameter) (old new : Progress) (word name : Text) (value : Option Text) (rest : List (Bor Text)) (r : Result ℕ TailError) →
    word ≡ option_word (long name) value → IsOptionName (long name) →
    IfOk r (λ n. HoldsAfter ps old (λ before. (g : Supplied) × (value_of g ≡ value) × (next_of g ≡ texts (take n rest)) × FitsNeed (need ps before (Long name)) g
    × HasRead ps (before ++ use_switch (Long name) g ∷ []) new)) →
    ReadsOption ps old new word rest r
long_read ps old new word name value rest r is named given =
    IfOk_then r given
    (λ n p before stands opened.
    let u = p before stands in
    (long name, u.0, named, is ∙ ap (option_word (long name)) (sym u.1), u.2, ((opened, u.3), tt), u.4))

-- or refused
pub long_told : (ps : List Parameter) (old : Progress) (word name : Text) (value : Option Text) (rest : Words) (r : Result ℕ TailError) →
    word ≡ option_word (long name) value → IsOptionName (long name) →
    IfErr r (λ e. IfSome (tail_cause_of e) (λ cause. HoldsAfter ps old (λ before. RefusesSwitch (need ps before (Long name)) (Long name) [] value rest cause))) →
    TellsOption ps old word rest r
long_told ps old word name value rest r is named refuses =
    IfCause_then r refuses
    (λ cause p before stands opened. (
      opened,
      inr (record {
        name = long name;
        value = value;
        rest = rest;
        whole = ap (λ w. w ∷ rest) is;
        named = named;
        refused = single_refused ps before (Long name) value rest cause (p before stands);
      }),
    ))

-- a cluster whose switches are given what fits
pub cluster_word : (ps : List Parameter) (old new : Progress) (word name : Text) (value : Option Text) (rest : List (Bor Text)) (r : Result ℕ TailError) →
    word ≡ option_word (cluster name) value → IsOptionName (cluster name) →
    IfOk r (λ n. HoldsOpen ps old (λ before. (g : Supplied) × (value_of g ≡ value) × (next_of g ≡ texts (take n rest))
    × StepsFollow ps before (give (switches_of (cluster name)) g) × HasRead ps (before ++ give (switches_of (cluster name)) g) new)) →
    ReadsOption ps old new word rest r
cluster_word ps old new word name value rest r is named given =
    IfOk_then r given
    (λ n p before stands opened.
    let u = p before stands opened in
    (cluster name, u.0, named, is ∙ ap (option_word (cluster name)) (sym u.1), u.2, u.3, u.4))

-- or of which one is refused
pub cluster_told : (ps : List Parameter) (old : Progress) (word name : Text) (value : Option Text) (rest : Words) (r : Result ℕ TailError) →
    word ≡ option_word (cluster name) value → IsOptionName (cluster name) →
    IfErr r (λ e. IfSome (tail_cause_of e) (λ cause. HoldsOpen ps old (λ before. SwitchIsRefused ps before (switches_of (cluster name)) value rest cause))) →
    TellsOption ps old word rest r
cluster_told ps old word name value rest r is named refuses =
    IfCause_then r refuses
    (λ cause p before stands opened. (
      opened,
      inr (record {
        name = cluster name;
        value = value;
        rest = rest;
        whole = ap (λ w. w ∷ rest) is;
        named = named;
        refused = p before stands opened;
      }),
    ))
