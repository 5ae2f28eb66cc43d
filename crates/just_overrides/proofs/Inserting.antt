-- Values that are put in one after another.
use Rattle.std.proofs.Common.{◌≡◌, Bool, true, false, None, Option, Some, refl}
use Rattle.std.specs.Prelude.{if◌then◌else◌}
use Rattle.std.specs.Option.{option_or}
use Rattle.just_names.specs.Texts.{Text}

-- what is found after one more is put in
pub put_found : (b : Bool) (value : Text) (old : Option Text) → (if b then Some value else old) ≡ option_or (if b then Some value else None) old
put_found true value old = refl
put_found false value old = refl

-- of the next and those after it
pub next_first : (after next old new : Option Text) → new ≡ option_or next old → option_or after new ≡ option_or (option_or after next) old
next_first None next old new e = e
next_first (Some text) next old new e = refl
