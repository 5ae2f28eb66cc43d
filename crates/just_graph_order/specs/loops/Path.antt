-- The path of a search, as two lists: its nodes, and how many edges of each are passed.
use Rattle.std.specs.Prelude.{ℕ, List, map}
use Rattle.just_graph_order.specs.declared.finish_order.Frame.{Frame}

abbrev pub nodes : List Frame → List ℕ
nodes frames = map (λ f. f.node) frames

abbrev pub frame_counts : List Frame → List ℕ
frame_counts frames = map (λ f. f.passed) frames
