-- Where the headers of a module are kept, each of its aliases has a name of its own.
use Rattle.std.proofs.Common.{◌≡◌, ◌∙◌, ◌+◌, ◌<◌, ◌≤◌, ℕ, zero, suc, List, [], ◌∷◌, length, map, None, Some, inl, inr, refl, sym, ap, arith}
use Rattle.std.specs.Prelude.{flat_map}
use Rattle.std.proofs.lemmas.Bool.{cases_lt}
use Rattle.std.proofs.lemmas.List.{length-map}
use Rattle.just_ast_definitions.specs.declared.alias.Alias.{Alias}
use Rattle.just_ast_items.specs.declared.item.Item.TheVariants as item
use Rattle.just_errors.specs.Causes.{Broken, Keeps}
use Rattle.just_errors.specs.declared.compile_error.CompileErrorKind.TheVariants as kind
use Rattle.just_graph.proofs.Index.{some_at}
use Rattle.just_graph.proofs.Members.{In}
use Rattle.just_module_contents.specs.Contents.{Defined, defined_naming, texts_of_named}
use Rattle.just_module_contents.specs.Named.{alias_by, naming_by}
use Rattle.just_module_contents.specs.Rules.{IsRedefinition, BreaksNamings, named_redefinition}
use Rattle.just_module_contents.specs.declared.definitions.Naming.{Naming}
use Rattle.just_names.specs.Index.{AreDifferent, Repeats, name_at}
use Rattle.just_names.specs.Name.{text_of_name}
use Rattle.just_names.specs.Texts.{Text}
use Rattle.just_names.specs.Token.{Place}
use Rattle.just_names.specs.declared.name.Namepath.{Namepath}
use Rattle.just_parts.specs.Items.{Item}
use Rattle.just_compiled.proofs.Placing.{head_differs, tail_differs}
use Rattle.just_errors.specs.declared.compile_error.CompileErrorKind.{CompileErrorKind}

-- of aliases with one name there is one
abbrev pub OnceNamed : List (Alias Namepath) → Type 0
OnceNamed aliases = (a b : Alias Namepath) → In a aliases → In b aliases → text_of_name a.name ≡ text_of_name b.name → a ≡ b

-- where no place repeats the one before it under its name, no two places have one name
apart_by : (names : List Text) → ((i j : ℕ) → Repeats names i j → ⊥) → (d i j : ℕ) → j ≤ i + d → i < j → j < length names → name_at names i ≡ name_at names j → ⊥
apart_by names none zero i j near apart there same = absurd (omega (arith, near, apart))
apart_by names none (suc d) i j near apart there same = none i j (record {
  apart = apart;
  within = there;
  same = same;
  next = λ k above below e. apart_by names none d k j (omega (arith, near, above)) below there e;
})

pub all_different : (names : List Text) → ((i j : ℕ) → Repeats names i j → ⊥) → AreDifferent names
all_different names none i j apart there = apart_by names none j i j (omega arith) apart there

-- two definitions of one name are told
told_of : (first second : Defined) → (place : Place) × (told : CompileErrorKind) × IsRedefinition first second place told
told_of first second = elim (cases_lt second.name.token.line first.name.token.line) [
  | inl below ↦ (
    first.name.token,
    kind.Redefinition second.sort first.sort (text_of_name first.name) second.name.token.line,
    record {
      greater = λ l. (refl, refl);
      not_greater = λ l. absurd (omega (arith, l, below));
    },
  )
  | inr above ↦ (
    second.name.token,
    kind.Redefinition first.sort second.sort (text_of_name second.name) first.name.token.line,
    record {
      greater = λ l. absurd (omega (arith, l, above));
      not_greater = λ l. (refl, refl);
    },
  )
]

pub none_repeat : (named : List Naming) → Keeps (BreaksNamings named) → (i j : ℕ) → Repeats (texts_of_named named) i j → ⊥
none_repeat named kept i j repeats =
    let many = length-map (map defined_naming named) (λ (d : Defined). text_of_name d.name) in
    let first = some_at (map defined_naming named) i (omega (arith, many, repeats.apart, repeats.within)) in
    let second = some_at (map defined_naming named) j (omega (arith, many, repeats.within)) in
    let told = told_of first.0 second.0 in
    kept (Broken told.0 told.1) (named_redefinition (record { i = i; j = j; first = first.0; second = second.0; repeats = repeats; first_is = first.1; second_is = second.1; told_is = told.2 }))

-- the name of an alias is one of those of modules and aliases
alias_named : (items : List Item) (a : Alias Namepath) → In a (flat_map alias_by items) → In (text_of_name a.name) (texts_of_named (flat_map naming_by items))
alias_named [] a i = absurd i
alias_named (item.Alias x ∷ items) a (inl e) = inl (ap (λ (y : Alias Namepath). text_of_name y.name) e)
alias_named (item.Alias x ∷ items) a (inr i) = inr (alias_named items a i)
alias_named (item.Module name relative None attributes doc optional ∷ items) a i = alias_named items a i
alias_named (item.Module name relative (Some file) attributes doc optional ∷ items) a i = inr (alias_named items a i)
alias_named (_ ∷ items) a i = alias_named items a i

pub once_named : (items : List Item) → AreDifferent (texts_of_named (flat_map naming_by items)) → OnceNamed (flat_map alias_by items)
once_named [] different a b i j same = absurd i
once_named (item.Alias x ∷ items) different a b (inl e) (inl f) same = e ∙ sym f
once_named (item.Alias x ∷ items) different a b (inl e) (inr j) same =
    absurd (head_differs (text_of_name x.name) (texts_of_named (flat_map naming_by items)) different (text_of_name b.name) (alias_named items b j) (ap (λ (y : Alias Namepath). text_of_name y.name) (sym e) ∙ same))
once_named (item.Alias x ∷ items) different a b (inr i) (inl f) same =
    absurd (head_differs (text_of_name x.name) (texts_of_named (flat_map naming_by items)) different (text_of_name a.name) (alias_named items a i) (ap (λ (y : Alias Namepath). text_of_name y.name) (sym f) ∙ sym same))
once_named (item.Alias x ∷ items) different a b (inr i) (inr j) same = once_named items (tail_differs (text_of_name x.name) (texts_of_named (flat_map naming_by items)) different) a b i j same
once_named (item.Module name relative None attributes doc optional ∷ items) different a b i j same = once_named items different a b i j same
once_named (item.Module name relative (Some file) attributes doc optional ∷ items) different a b i j same =
    once_named items (tail_differs (text_of_name name) (texts_of_named (flat_map naming_by items)) different) a b i j same
once_named (_ ∷ items) different a b i j same = once_named items different a b i j same
