-- What private functions say beside `FileCircles.antt`.
use Rattle.std.specs.Prelude.{◌≡◌, ◌<◌, length}
use Rattle.just_graph.specs.Unfolding.{LeadInside}
use Rattle.just_names.specs.Texts.{Text}
use Rattle.just_loader.specs.Reached.{World, FileLeadsTo}
use Rattle.just_loader.specs.declared.scan_result.Scan.{Scan}

-- a row for each file, the root among them, and steps that lead to rows
pub record HasRows (scan : Scan) : Type 0 where
  pub count : length scan.rows.items ≡ length scan.files.items
  pub some : 0 < length scan.rows.items
  pub within : LeadInside scan.rows.items

-- one or more edges lead from f to h
pub data FileLeadsOn (w : World) : Text → Text → Type 0 where
  by_edge : {f g : Text} → FileLeadsTo w f g → FileLeadsOn w f g
  by_edges : {f g h : Text} → FileLeadsTo w f g → FileLeadsOn w g h → FileLeadsOn w f h
