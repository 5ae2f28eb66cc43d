-- Aliases, one after another.
use Rattle.std.proofs.Common.{◌≡◌, ◌≢◌, ℕ, ◌+◌, ◌<◌, List, [], ◌∷◌, ◌++◌, length, drop, get_or, Option, None, Some, inl, inr, refl, sym, ap, subst, ◌∙◌, arith}
use Rattle.std.specs.Borrow.{Bor}
use Rattle.std.specs.List.{Contains}
use Rattle.std.proofs.lemmas.List.{drop_more, get_or-map}
use Rattle.just_ast_definitions.specs.declared.alias.Alias.{Alias}
use Rattle.just_errors.specs.Causes.{Broken, Cause, Keeps}
use Rattle.just_errors.specs.declared.compile_error.CompileErrorKind.TheVariants as kind
use Rattle.just_graph.proofs.Members.{contained, is_in}
use Rattle.just_justfile.specs.declared.aliases.Aliases.{Aliases}
use Rattle.just_module_contents.specs.Recipes.{lent}
use Rattle.just_module_contents.specs.Rules.{unknown_target}
use Rattle.just_module_contents.proofs.RecipePlaces.{length-lent}
use Rattle.just_module_aliases.specs.Aliased.{Targets, UnknownTargets, aliases_of, aliases_onto, as_disabled, as_module_alias, as_recipe_alias, disabled_among, alias_meant, modules_among, name_of_alias, name_of_disabled_alias, no_aliases, recipes_among}
use Rattle.just_module_aliases.specs.loops.Aliased.{IsAdded, UnknownTarget, no_meaning}
use Rattle.just_module_aliases.specs.declared.aliases.AliasMeaning.{AliasMeaning}
use Rattle.just_names.specs.Name.{text_of_name}
use Rattle.just_names.specs.Texts.{Text}
use Rattle.just_names.specs.Token.{Place}
use Rattle.just_names.specs.declared.name.Namepath.{Namepath}
use Rattle.just_table.specs.Entries.{put, put_all}

module _ {V : Type 0} (key : V → Text) where
  put_append : (es : List (Text × V)) (vs ws : List V) → put_all key es (vs ++ ws) ≡ put_all key (put_all key es vs) ws
  put_append es [] ws = refl
  put_append es (v ∷ vs) ws = put_append (put (key v) v es) vs ws

-- what is not there is none
pub means_none : (o : Option AliasMeaning) → (o ≢ None → ⊥) → o ≡ None
means_none None means = refl
means_none (Some it) means = absurd (means (λ e. cc))

module _ (t : Targets) where
  -- one alias, and then the others
  pub one_added : (before after : Aliases) (alias : Alias Namepath) (aliases : List (Alias Namepath)) → IsAdded t alias before after → aliases_onto t before (alias ∷ aliases) ≡ aliases_onto t after aliases
  one_added before after alias aliases added =
      (λ i. record {
        disabled = (put_append name_of_disabled_alias before.disabled (as_disabled alias (alias_meant t alias.target)) (disabled_among t aliases)
            ∙ ap (λ o. put_all name_of_disabled_alias (put_all name_of_disabled_alias before.disabled (as_disabled alias o)) (disabled_among t aliases)) added.means) i;
        modules = (put_append name_of_alias before.modules (as_module_alias alias (alias_meant t alias.target)) (modules_among t aliases)
            ∙ ap (λ o. put_all name_of_alias (put_all name_of_alias before.modules (as_module_alias alias o)) (modules_among t aliases)) added.means) i;
        recipes = (put_append name_of_alias before.recipes (as_recipe_alias alias (alias_meant t alias.target)) (recipes_among t aliases)
            ∙ ap (λ o. put_all name_of_alias (put_all name_of_alias before.recipes (as_recipe_alias alias o)) (recipes_among t aliases)) added.means) i;
      })
      ∙ ap (λ (made : Aliases). aliases_onto t made aliases) (sym added.is)

  -- The first n aliases are added, and each of which the target is unknown is among the others.
  pub record AreAdded (aliases : List (Bor (Alias Namepath))) (n : ℕ) (made : Aliases) : Type 0 where
    pub rest : aliases_of t (lent aliases) ≡ aliases_onto t made (lent (drop n aliases))
    pub left : (alias : Alias Namepath) → Contains (lent aliases) alias → alias_meant t alias.target ≡ None → Contains (lent (drop n aliases)) alias

  pub none_added : (aliases : List (Bor (Alias Namepath))) (made : Aliases) → made ≡ no_aliases → AreAdded aliases 0 made
  none_added aliases made is = record { rest = ap (λ (m : Aliases). aliases_onto t m (lent aliases)) (sym is); left = λ alias there unknown. there }

  module _ (aliases : List (Bor (Alias Namepath))) (n : ℕ) (alias : Bor (Alias Namepath)) (within : n < length aliases) (is : alias ≡ get_or aliases n alias) where
    split : drop n aliases ≡ alias ∷ drop (n + 1) aliases
    split = drop_more aliases n alias within ∙ ap (λ a. a ∷ drop (n + 1) aliases) (sym is)

    pub there : Contains (lent aliases) alias.now
    there = (n, omega (arith, within, length-lent aliases), get_or-map (λ (a : Bor (Alias Namepath)). a.now) aliases n alias alias.now within ∙ ap (λ (a : Bor (Alias Namepath)). a.now) (sym is))

    -- one more
    pub one_more : (before after : Aliases) → AreAdded aliases n before → IsAdded t alias.now before after → AreAdded aliases (n + 1) after
    one_more before after so added = record {
      rest = so.rest ∙ ap (λ bs. aliases_onto t before (lent bs)) split ∙ one_added before after alias.now (lent (drop (n + 1) aliases)) added;
      left = λ other there unknown. elim (is_in other (alias.now ∷ lent (drop (n + 1) aliases)) (subst (λ bs. Contains (lent bs) other) split (so.left other there unknown))) [
        | inl same ↦ (let no : None ≡ Some added.it = sym unknown ∙ ap (λ (a : Alias Namepath). alias_meant t a.target) same ∙ added.means in cc)
        | inr more ↦ contained other (lent (drop (n + 1) aliases)) more
      ];
    }

  -- one of which the target is unknown
  pub refused : (alias : Alias Namepath) (place : Place) (name : Text) (target : Namepath) → alias_meant t alias.target ≡ None → place ≡ alias.name.token → name ≡ text_of_name alias.name → target ≡ alias.target
      → UnknownTarget t alias (Broken place (kind.UnknownAliasTarget name target))
  refused alias place name target unknown at named aims = subst (UnknownTarget t alias) (λ i. Broken (sym at i) (kind.UnknownAliasTarget (sym named i) (sym aims i))) (no_meaning unknown)

  -- it is one of all
  pub told : (aliases : List (Alias Namepath)) (alias : Alias Namepath) (c : Cause) → Contains aliases alias → UnknownTarget t alias c → UnknownTargets t aliases c
  told aliases alias _ there (no_meaning unknown) = unknown_target there (λ means. means unknown)

  -- all of them
  pub all_kept : (aliases : List (Bor (Alias Namepath))) (n : ℕ) (made : Aliases) → drop n aliases ≡ [] → AreAdded aliases n made → Keeps (UnknownTargets t (lent aliases))
  all_kept aliases n made end so _ (unknown_target {alias} there means) =
      is_in alias [] (subst (λ bs. Contains (lent bs) alias) end (so.left alias there (means_none (alias_meant t alias.target) means)))

  pub all_added : (aliases : List (Bor (Alias Namepath))) (n : ℕ) (made : Aliases) → drop n aliases ≡ [] → AreAdded aliases n made → made ≡ aliases_of t (lent aliases)
  all_added aliases n made end so = sym (so.rest ∙ ap (λ bs. aliases_onto t made (lent bs)) end)
