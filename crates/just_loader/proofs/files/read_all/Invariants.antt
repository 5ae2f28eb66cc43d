use Rattle.std.proofs.Common.{◌≡◌, ◌≤◌, ◌+◌, ◌^◌, ◌++◌, List, Some, length, map, take}
use Rattle.std.specs.List.{All}
use Rattle.just_graph.specs.Unfolding.{Node}
use Rattle.just_loader.specs.loops.Loading.{AreNodes, AreParsedSoFar, IsScanBy, KeepsLaws, spent_by}
use Rattle.just_loader.specs.Reached.{World}
use Rattle.just_loader.specs.loops.Reading.{AreApartBelow, AreReadOf, spent_on}
use Rattle.just_loader.proofs.files.read_all.Given as goal

abbrev pub invariant-loop-place : goal.invariant-loop-place
invariant-loop-place g l = record {
  count : length l.asts.items ≡ l.place;
  parsed : (w : World) (ns : List Node) → IsScanBy w l.scan (g.S.Syntax.answers l.syntax) → AreNodes l.scan l.nodes ns → AreParsedSoFar w l.scan ns l.asts.items;
  each : AreReadOf (g.S.Syntax.answers l.syntax) l.scan.files.items l.texts.asts.items;
  numbers : AreApartBelow (l.texts.asts.items ++ map Some l.asts.items) l.texts.numerator;
  spent : (w : World) → IsScanBy w l.scan (g.S.Syntax.answers l.syntax) → l.texts.numerator ≡ spent_on (g.S.Syntax.answers l.syntax) l.scan.files.items l.texts.asts.items + spent_by w l.scan (take l.place l.nodes);
  less : spent_on (g.S.Syntax.answers l.syntax) l.scan.files.items l.texts.asts.items ≤ l.initial.texts.numerator;
  laws : All (KeepsLaws (g.S.Syntax.answers l.syntax)) l.asts.items;
  few : l.texts.numerator ≤ 2 ^ 64;
}
