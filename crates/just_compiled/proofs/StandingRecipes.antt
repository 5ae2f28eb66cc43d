-- Which recipes stand, and which are disabled.
use Rattle.std.proofs.Common.{◌≡◌, ◌≢◌, ◌↔◌, ◌⊎◌, List, [], ◌∷◌, inl, inr, refl, sym, ap, subst, ◌∙◌}
use Rattle.std.specs.List.{Contains}
use Rattle.just_graph.proofs.Members.{In}
use Rattle.just_justfile.specs.declared.disabled.Disabled.{Disabled}
use Rattle.just_module_contents.specs.Recipes.{name_of_recipe}
use Rattle.just_module_contents.specs.Standing.{AreStanding}
use Rattle.just_module_contents.specs.Standing as standing
use Rattle.just_module_headers.proofs.Alike.{AreAlike, Outline, outline_of, outlines_of}
use Rattle.just_module_recipes.specs.Linked.{AreDisabled, HasDisabled, disabled_table, name_of_disabled}
use Rattle.just_module_recipes.specs.Linked as linked
use Rattle.just_names.specs.Name.{text_of_name}
use Rattle.just_names.specs.Texts.{Text}
use Rattle.just_names.specs.Token.{lexeme}
use Rattle.just_paths.specs.declared.modulepath.Modulepath.{Modulepath}
use Rattle.just_recipe.specs.declared.dependency.UnresolvedDependency.{UnresolvedDependency}
use Rattle.just_recipe.specs.declared.recipe.Recipe.{Recipe}

module _ (S : Text → Type 0) where
  -- a recipe of those that stand is one of all, and stands
  pub from_standing : {rs ss : List (Recipe UnresolvedDependency)} → AreStanding S rs ss → (r : Recipe UnresolvedDependency) → In r ss → In r rs × S (name_of_recipe r)
  from_standing standing.none r i = absurd i
  from_standing (standing.stands s rest) r (inl e) = (inl e, subst (λ (q : Recipe UnresolvedDependency). S (name_of_recipe q)) (sym e) s)
  from_standing (standing.stands s rest) r (inr i) = let k = from_standing rest r i in (inr k.0, k.1)
  from_standing (standing.falls f rest) r i = let k = from_standing rest r i in (inr k.0, k.1)

  -- and each that stands is one of them
  pub into_standing : {rs ss : List (Recipe UnresolvedDependency)} → AreStanding S rs ss → (r : Recipe UnresolvedDependency) → In r rs → S (name_of_recipe r) → In r ss
  into_standing standing.none r i s = absurd i
  into_standing (standing.stands k rest) r (inl e) s = inl e
  into_standing (standing.stands k rest) r (inr i) s = inr (into_standing rest r i s)
  into_standing (standing.falls f rest) r (inl e) s = absurd (f (subst (λ (q : Recipe UnresolvedDependency). S (name_of_recipe q)) e s))
  into_standing (standing.falls f rest) r (inr i) s = into_standing rest r i s

module _ (S T : Text → Type 0) (on : (name : Text) → S name → T name) (back : (name : Text) → T name → S name) where
  -- where the same recipes stand, the lists of those that do are the same
  pub standing_same : {rs ss : List (Recipe UnresolvedDependency)} → AreStanding S rs ss → AreStanding T rs ss
  standing_same standing.none = standing.none
  standing_same (standing.stands {r} s rest) = standing.stands (on (name_of_recipe r) s) (standing_same rest)
  standing_same (standing.falls {r} f rest) = standing.falls (λ t. f (back (name_of_recipe r) t)) (standing_same rest)

  -- of recipes that are alike those that stand are alike
  pub standing_alike : {rs ss : List (Recipe UnresolvedDependency)} → AreStanding S rs ss → (qs : List (Recipe UnresolvedDependency)) → AreAlike rs qs → (ts : List (Recipe UnresolvedDependency)) × AreStanding T qs ts × AreAlike ss ts
  standing_alike standing.none [] e = ([], standing.none, refl)
  standing_alike standing.none (q ∷ qs) e = cc
  standing_alike (standing.stands s rest) [] e = cc
  standing_alike (standing.stands {r} {rs} s rest) (q ∷ qs) e =
      let head : outline_of r ≡ outline_of q = cc in
      let more : outlines_of rs ≡ outlines_of qs = cc in
      let k = standing_alike rest qs more in
      (q ∷ k.0, standing.stands (subst T (ap (λ (o : Outline). lexeme o.token) head) (on (name_of_recipe r) s)) k.1, λ i. head i ∷ k.2 i)
  standing_alike (standing.falls f rest) [] e = cc
  standing_alike (standing.falls {r} {rs} f rest) (q ∷ qs) e =
      let head : outline_of r ≡ outline_of q = cc in
      let more : outlines_of rs ≡ outlines_of qs = cc in
      let k = standing_alike rest qs more in
      (k.0, standing.falls (λ t. f (back (name_of_recipe r) (subst T (ap (λ (o : Outline). lexeme o.token) (sym head)) t))) k.1, k.2)

module _ (D E : Text → Modulepath → Type 0) (on : (name : Text) (path : Modulepath) → D name path → E name path) (back : (name : Text) (path : Modulepath) → E name path → D name path) where
  -- where the same recipes are disabled by the same, the lists of those that are are the same
  pub disabled_same : {rs : List (Recipe UnresolvedDependency)} {ds : List Disabled} → AreDisabled D rs ds → AreDisabled E rs ds
  disabled_same linked.none = linked.none
  disabled_same (linked.stands {r} f rest) = linked.stands (λ path e. f path (back (name_of_recipe r) path e)) (disabled_same rest)
  disabled_same (linked.falls {r} {rs} {d} name some each rest) =
      linked.falls name some (λ path. ((λ (c : Contains d.modules.keys path). on (name_of_recipe r) path ((each path).0 c)), (λ (e : E (name_of_recipe r) path). (each path).1 (back (name_of_recipe r) path e)))) (disabled_same rest)

  -- so are the tables
  pub has_disabled_same : (rs : List (Recipe UnresolvedDependency)) (table : List (Text × Disabled)) → HasDisabled D rs table → HasDisabled E rs table
  has_disabled_same rs table h = (h.0, disabled_same h.1, h.2)

module _ (D : Text → Modulepath → Type 0) where
  -- Something disables the recipe, exactly what is told of it.
  pub record Falls (r : Recipe UnresolvedDependency) (d : Disabled) : Type 0 where
    pub name : name_of_disabled d ≡ name_of_recipe r
    pub some : d.modules.keys ≢ []
    pub each : (path : Modulepath) → Contains d.modules.keys path ↔ D (name_of_recipe r) path

  -- what is in the table of what is disabled is one of the recipes
  pub from_disabled : {rs : List (Recipe UnresolvedDependency)} {ds : List Disabled} → AreDisabled D rs ds → (d : Disabled) → In d ds → (r : Recipe UnresolvedDependency) × In r rs × Falls r d
  from_disabled linked.none d i = absurd i
  from_disabled (linked.stands f rest) d i = let k = from_disabled rest d i in (k.0, inr k.1, k.2)
  from_disabled (linked.falls {r} name some each rest) d (inl e) = (r, inl refl, subst (Falls r) (sym e) (record { name = ap text_of_name name; some = some; each = each }))
  from_disabled (linked.falls name some each rest) d (inr i) = let k = from_disabled rest d i in (k.0, inr k.1, k.2)

  -- nothing disables a recipe, or it is in the table
  pub disabled_or : {rs : List (Recipe UnresolvedDependency)} {ds : List Disabled} → AreDisabled D rs ds → (r : Recipe UnresolvedDependency) → In r rs → ((path : Modulepath) → D (name_of_recipe r) path → ⊥) ⊎ ((d : Disabled) × In d ds × (name_of_disabled d ≡ name_of_recipe r))
  disabled_or linked.none r i = absurd i
  disabled_or (linked.stands f rest) r (inl e) = inl (subst (λ (q : Recipe UnresolvedDependency). (path : Modulepath) → D (name_of_recipe q) path → ⊥) (sym e) f)
  disabled_or (linked.stands f rest) r (inr i) = disabled_or rest r i
  disabled_or (linked.falls {r = x} {d = d} name some each rest) r (inl e) = inr (d, inl refl, ap text_of_name name ∙ ap (λ (q : Recipe UnresolvedDependency). name_of_recipe q) (sym e))
  disabled_or (linked.falls name some each rest) r (inr i) = elim (disabled_or rest r i) [ inl f ↦ inl f | inr k ↦ inr (k.0, inr k.1, k.2) ]
