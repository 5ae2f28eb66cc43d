-- What private functions say beside `Unfolding.antt`.
use Rattle.std.specs.Prelude.{◌≡◌, ℕ, List, map}
use Rattle.std.specs.List.{Contains}
use Rattle.just_graph.specs.declared.unfolding.Step.{Step}
use Rattle.just_graph.specs.Unfolding.{Key, Node, child, key, key_child_of}

abbrev pub key_child : Key → Step → Key
key_child = key_child_of (λ (s : Step). s.target) (λ (s : Step). s.enters)

abbrev pub kids : (ℕ → List Step) → Node → List Node
kids S n = map (child n) (S n.node)

abbrev pub HasKey : List Node → Key → Type 0
HasKey ns k = (n : Node) × Contains ns n × (key n ≡ k)
