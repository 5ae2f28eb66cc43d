use Rattle.just_justfile.proofs.Returning.{found_by_path}
use Rattle.just_justfile.proofs.laws.is_found_by_its_path.Goals as goal

pub returns : goal.returns
returns c = found_by_path
