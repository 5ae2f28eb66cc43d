-- What the reader of a tail holds.
use Rattle.std.specs.Prelude.{◌≡◌, ℕ, ◌<◌, true, List, [], length, nat_eq, slice_index_or}
use Rattle.std.specs.Str.{bytes_eq}
use Rattle.std.specs.HashMap.{get}
use Rattle.just_names.specs.Texts.{Text}
use Rattle.just_ast_definitions.specs.declared.parameter.Parameter.{Parameter}
use Rattle.just_tail.specs.Words.{as_texts}
use Rattle.just_tail.specs.Options.{positions_from, first_variadic}
use Rattle.just_tail.specs.loops.Options.{place_from}
use Rattle.just_tail.specs.Steps.{Step, is_open, positionals_among, group_of}
use Rattle.just_errors.specs.declared.switch.Switch.{Switch}
use Rattle.just_errors.specs.declared.switch.Switch.TheVariants.{Long, Short}
use Rattle.just_tail.specs.declared.switch.BorrowedSwitch.{BorrowedSwitch}
use Rattle.just_tail.specs.declared.switch.BorrowedSwitch.TheVariants as borrowed
use Rattle.just_tail.specs.declared.plan.Plan.{Plan}
use Rattle.just_tail.specs.declared.progress.Progress.{Progress}

-- a switch that borrows its name
abbrev pub switch_of : BorrowedSwitch → Switch
switch_of (borrowed.Long name) = Long name.now
switch_of (borrowed.Short c) = Short c

-- the places that are looked up are those of the parameters
pub record IsTailPlan (plan : Plan) : Type 0 where
  pub long : (name : Text) → get bytes_eq plan.long name ≡ place_from 0 plan.parameters.now (Long name)
  pub short : (c : ℕ) → get nat_eq plan.short c ≡ place_from 0 plan.parameters.now (Short c)
  pub positions : plan.positions.items ≡ positions_from 0 plan.parameters.now
  pub variadic : plan.variadic ≡ first_variadic plan.parameters.now

-- the reader has read these steps
pub record HasRead (ps : List Parameter) (before : List Step) (p : Progress) : Type 0 where
  pub opened : p.opened ≡ is_open ps before
  pub count : p.placed ≡ positionals_among before
  pub groups : length (as_texts p.groups.items) ≡ length ps
  pub each : (j : ℕ) → j < length ps → slice_index_or (as_texts p.groups.items) j [] ≡ group_of ps before j

-- it holds after whatever steps the reader has read
abbrev pub HoldsAfter : List Parameter → Progress → (List Step → Type 0) → Type 0
HoldsAfter ps p Fact = (before : List Step) → HasRead ps before p → Fact before

-- the same where options may come
abbrev pub HoldsOpen : List Parameter → Progress → (List Step → Type 0) → Type 0
HoldsOpen ps p Fact = (before : List Step) → HasRead ps before p → is_open ps before ≡ true → Fact before
