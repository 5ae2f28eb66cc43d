-- What is read of a text has no numbers, and nothing of where its file came from.
use Rattle.std.specs.Prelude.{◌≡◌}
use Rattle.just_parts.specs.Bare.{bare_item}
use Rattle.just_parts.specs.Items.{Item}
use Rattle.just_parts.specs.Syntax.{AttributesNameParameters, PriorsAreDependencies}

-- an item without numbers, whose priors are among its dependencies and whose attributes name its parameters
pub record IsProper (it : Item) : Type 0 where
  pub bare : bare_item it ≡ it
  pub priors : PriorsAreDependencies it
  pub attributes : AttributesNameParameters it
