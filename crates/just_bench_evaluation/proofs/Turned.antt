-- Changes of an environment that are turned round twice.
use Rattle.std.proofs.Common.{◌≡◌, refl, sym, ◌∙◌, ap, Bool, true, false, List, [], ◌∷◌, ◌++◌, map, reverse}
use Rattle.std.specs.Prelude.{if◌then◌else◌}
use Rattle.std.specs.List.{flat_map}
use Rattle.std.proofs.lemmas.Grind.{flat_map-append, reverse_onto}
use Rattle.std.proofs.lemmas.List.{append-nil, map-append, reverse-append}
use Rattle.std.proofs.lemmas.List.Concat.{flat_map-cons}
use Rattle.just_ast_expressions.specs.declared.scope.Binding.{Binding}
use Rattle.just_run_layers.specs.declared.environment.EnvironmentChange.{EnvironmentChange}
use Rattle.just_run_layers.specs.declared.environment.EnvironmentPair.{EnvironmentPair}
use Rattle.just_bench_evaluation.specs.Environments.{binding_changes, exported, pair_change}

turned_by : (x : EnvironmentChange) (e : Bool) → reverse (if e then x ∷ [] else []) ≡ (if e then x ∷ [] else [])
turned_by x true = refl
turned_by x false = refl

-- there is at most one for each binding
turned_one : (all : Bool) (b : Binding) → reverse (binding_changes all b) ≡ binding_changes all b
turned_one true b = refl
turned_one false b = turned_by (exported b) b.export

module _ (all : Bool) where
  abbrev changes : List Binding → List EnvironmentChange
  changes = flat_map (binding_changes all)

  turned_single : (b : Binding) → reverse (changes (b ∷ [])) ≡ binding_changes all b
  turned_single b = ap reverse (flat_map-cons (binding_changes all) b [] ∙ append-nil (binding_changes all b)) ∙ turned_one all b

  pub turned : (bs : List Binding) → reverse (changes (reverse bs)) ≡ changes bs
  turned [] = refl
  turned (b ∷ bs) =
      ap (λ xs. reverse (changes xs)) (reverse_onto bs b [])
      ∙ ap reverse (flat_map-append (binding_changes all) (reverse bs) (b ∷ []))
      ∙ reverse-append (changes (reverse bs)) (changes (b ∷ []))
      ∙ (λ i. turned_single b i ++ turned bs i)
      ∙ sym (flat_map-cons (binding_changes all) b bs)

-- what pairs stand for
pub turned_pairs : (pairs : List EnvironmentPair) → reverse (map pair_change (reverse pairs)) ≡ map pair_change pairs
turned_pairs [] = refl
turned_pairs (pair ∷ pairs) =
    ap (λ xs. reverse (map pair_change xs)) (reverse_onto pairs pair [])
    ∙ ap reverse (map-append pair_change (reverse pairs) (pair ∷ []))
    ∙ reverse-append (map pair_change (reverse pairs)) (pair_change pair ∷ [])
    ∙ ap (λ xs. pair_change pair ∷ xs) (turned_pairs pairs)
