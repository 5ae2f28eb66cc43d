-- The groups of lines, and what is bound for each.
use Rattle.std.proofs.Common.{◌≡◌, Bool, true, false, List, [], ◌∷◌, ◌++◌, refl, subst, All, cond}
use Rattle.std.specs.Prelude.{flat_map, if◌then◌else◌}
use Rattle.std.proofs.lemmas.List.Elements.{All-append, All-cons, All-head, All-nil, All-tail}
use Rattle.just_ast_definitions.specs.declared.line.Line.{Line}
use Rattle.just_ast_expressions.specs.declared.scope.Scope.{Scope}
use Rattle.just_ast_expressions.specs.declared.settings.Settings.{Settings}
use Rattle.just_parts.specs.Groups.{ends_group}
use Rattle.just_parts.specs.Known.{Known}
use Rattle.just_parts.specs.Scopes.{attribute_expressions, line_expressions, lines_read, in_attributes, read_lines}
use Rattle.just_parts.specs.Syntax.{SyntaxAnswers}
use Rattle.just_run_layers.specs.Covering.{IsCovered}
use Rattle.just_recipe.specs.Script.{is_script}
use Rattle.just_recipe.specs.declared.recipe.Recipe.{Recipe}
use Rattle.just_recipe_body.proofs.AllLemmas.{all-left, all-right}
use Rattle.just_recipe_body.proofs.CoveringLemmas.{lines-covered}
use Rattle.just_recipe_body.specs.Covering.{IsBodyCovered, IsLineCovered}
use Rattle.just_shell_body.specs.Lines.{AreGroupsCovered, IsGroupCovered, groups_after, is_none, is_skipped}

module _ {A : Type 0} (P : A → Type 0) where
  all-cond : (b : Bool) (xs ys : List A) → (b ≡ true → All P xs) → (b ≡ false → All P ys) → All P (cond b xs ys)
  all-cond true xs ys h k = h refl
  all-cond false xs ys h k = k refl

module _ (syntax : SyntaxAnswers) (settings : Settings) (known : Known) (scope : Scope) where
  -- lines that are read, cut into groups
  groups-covered : (before ls : List Line) → IsGroupCovered syntax settings known scope before → All (IsLineCovered known scope) (read_lines syntax settings (is_none before) ls) →
      All (IsGroupCovered syntax settings known scope) (groups_after syntax settings before ls)
  groups-covered [] [] r h = All-nil (IsGroupCovered syntax settings known scope)
  groups-covered (f ∷ m) [] r h = All-cons (IsGroupCovered syntax settings known scope) (f ∷ m) [] r (All-nil (IsGroupCovered syntax settings known scope))
  groups-covered [] (l ∷ ls) r h =
      let L : Line → Type 0 = IsLineCovered known scope in
      let G : List Line → Type 0 = IsGroupCovered syntax settings known scope in
      let skipped : Bool = is_skipped syntax settings l in
      let ends : Bool = ends_group syntax settings l true in
      let rest : All L (read_lines syntax settings ends ls) = all-right L (if skipped then [] else l ∷ []) (read_lines syntax settings ends ls) h in
      let ready : skipped ≡ false → All L (l ∷ []) = λ s. subst (λ k. All L (if k then [] else l ∷ [])) s (all-left L (if skipped then [] else l ∷ []) (read_lines syntax settings ends ls) h) in
      all-cond G ends ((l ∷ []) ∷ groups_after syntax settings [] ls) (groups_after syntax settings (l ∷ []) ls)
      (λ e. All-cons G (l ∷ []) (groups_after syntax settings [] ls) ready (groups-covered [] ls tt (subst (λ k. All L (read_lines syntax settings k ls)) e rest)))
      (λ e. groups-covered (l ∷ []) ls ready (subst (λ k. All L (read_lines syntax settings k ls)) e rest))
  groups-covered (f ∷ m) (l ∷ ls) r h =
      let L : Line → Type 0 = IsLineCovered known scope in
      let G : List Line → Type 0 = IsGroupCovered syntax settings known scope in
      let ends : Bool = ends_group syntax settings l false in
      let rest : All L (read_lines syntax settings ends ls) = All-tail L l (read_lines syntax settings ends ls) h in
      let ready : is_skipped syntax settings f ≡ false → All L (f ∷ (m ++ l ∷ [])) = λ s.
      All-append L (f ∷ m) (l ∷ []) (r s) (All-cons L l [] (All-head L l (read_lines syntax settings ends ls) h) (All-nil L)) in
      all-cond G ends ((f ∷ (m ++ l ∷ [])) ∷ groups_after syntax settings [] ls) (groups_after syntax settings (f ∷ (m ++ l ∷ [])) ls)
      (λ e. All-cons G (f ∷ (m ++ l ∷ [])) (groups_after syntax settings [] ls) ready (groups-covered [] ls tt (subst (λ k. All L (read_lines syntax settings k ls)) e rest)))
      (λ e. groups-covered (f ∷ (m ++ l ∷ [])) ls ready (subst (λ k. All L (read_lines syntax settings k ls)) e rest))

  pub all-groups-covered : (ls : List Line) → All (IsLineCovered known scope) (read_lines syntax settings true ls) → AreGroupsCovered syntax settings known scope ls
  all-groups-covered ls h = groups-covered [] ls tt h

-- the groups of a shell body
pub body-groups : {D : Type 0} (syntax : SyntaxAnswers) (settings : Settings) (known : Known) (scope : Scope) (r : Recipe D) → is_script r settings ≡ false → IsBodyCovered syntax settings known scope r → AreGroupsCovered syntax settings known scope r.body
body-groups syntax settings known scope r s h =
    all-groups-covered syntax settings known scope r.body
    (lines-covered known scope (read_lines syntax settings true r.body)
    (subst (λ k. All (IsCovered known scope) (flat_map line_expressions (if k then r.body else read_lines syntax settings true r.body))) s
    (all-right (IsCovered known scope) (in_attributes attribute_expressions r) (flat_map line_expressions (lines_read syntax settings r)) h)))
