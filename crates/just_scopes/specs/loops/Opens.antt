-- For the private functions: how modules are opened.
use Rattle.std.proofs.Common.{BuildHasherDefault, FoldHasher}
use Rattle.std.specs.Prelude.{◌≡◌, Bool, true, false, List, Option, Some, None, Result}
use Rattle.std.specs.HashMap.{HashMap}
use Rattle.std.specs.HashSet.{HashSet, contains}
use Rattle.std.specs.List.{Contains}
use Rattle.std.specs.Option.{option_map}
use Rattle.just_errors.specs.declared.halt.Halt.{Halt}
use Rattle.just_justfile.specs.Running.{known_by_tables}
use Rattle.just_justfile.specs.declared.justfile.Justfile.{Justfile, out-Justfile}
use Rattle.just_names.specs.Index.{texts_of_names}
use Rattle.just_names.specs.Texts.{Text}
use Rattle.just_names.specs.declared.number.Number.{Number}
use Rattle.just_parts.specs.Evaluator.{Binds, Wanted, wanted_by}
use Rattle.just_parts.specs.Needs.{HaveNumbersApart, has_number, same_number}
use Rattle.just_parts.specs.Reading.{IsEvaluationOrder}
use Rattle.just_run_layers.specs.Evaluation.{Inquiry, NumberSet, ScopeRequest, in_set}
use Rattle.just_run_layers.specs.Host.{Answer}
use Rattle.just_run_layers.specs.Interactions.{Log, Interaction, HasTrace, both, log_of}
use Rattle.just_run_layers.specs.declared.host.Entry.{Entry}
use Rattle.just_scopes.specs.Need.{IsFound, NumberSets}
use Rattle.just_scopes.specs.Opening.{Inherited, Handed, Opened, all_opened, open_steps}
use Rattle.just_scopes.specs.Preorder.{Placed}
use Rattle.just_scopes.specs.declared.open_module.Surrounding.{Surrounding}

-- what is to be bound of a module where it is asked for a set, or for all
abbrev pub wanted_from : Handed → Justfile → NumberSet → Wanted
wanted_from handed j set = wanted_by (out-Justfile j).assignments (out-Justfile j).functions handed.overrides (in_set set) (out-Justfile j).settings.lists

abbrev pub NumberOverrides : Type 0
NumberOverrides = HashMap Number Text (BuildHasherDefault FoldHasher)

-- what the one around hands over, as data
abbrev pub around_as : Surrounding → Inherited
around_as a = record { dotenv = a.dotenv; scope = a.scope }

-- questions of which the evaluator is asked none, whatever it has kept
abbrev pub AsksHostAlone : {A : Type 0} → (Entry → Option Answer) → Interaction A → List Entry → List Entry → Result A Halt → Type 0
AsksHostAlone host steps before later result =
    (evaluator : Inquiry → Option Answer) (requests : List ScopeRequest) → HasTrace (both evaluator host) steps (log_of before requests) (log_of later requests) result

-- A module may be opened: its variables have an order and numbers of their own, and what the analysis saw as overridden is so in the run.
pub record CanOpen (overridden : Number → Bool) (j : Justfile) : Type 0 where
  pub ordered : IsEvaluationOrder (known_by_tables j) (texts_of_names (out-Justfile j).evaluation_order)
  pub apart : HaveNumbersApart (known_by_tables j)
  pub held : (n : Number) → has_number (out-Justfile j).overridden n ≡ true → overridden n ≡ true

-- the numbers of a set that may be there
abbrev pub set_in : Option (HashSet Number (BuildHasherDefault FoldHasher)) → NumberSet
set_in set = option_map (λ (numbers : HashSet Number (BuildHasherDefault FoldHasher)). contains same_number numbers) set

-- what a module is asked for, by what recipes use: a lazy one for a set that is found, and another for all
pub data IsSetFor (used : Number → Bool) (j : Justfile) : Bool → NumberSet → Type 0 where
  some : {set : Number → Bool} → IsFound used j set → IsSetFor used j true (Some set)
  all : IsSetFor used j false None

-- the sets of some modules are found by what recipes use
abbrev pub AreFoundSets : (Number → Bool) → List Placed → NumberSets → Type 0
AreFoundSets used ps sets = (p : Placed) → Contains ps p → IsFound used p.justfile (sets p.justfile)

-- one module is opened, and all of them are
abbrev pub OpensOne : (Inquiry → Option Answer) → (Entry → Option Answer) → (Number → Bool) → Handed → Placed → Inherited → Log → Log → Result Opened Halt → Type 0
OpensOne evaluator host used handed p a old new result =
    (sets : NumberSets) → IsFound used p.justfile (sets p.justfile) → HasTrace (both evaluator host) (open_steps sets handed p a) old new result

abbrev pub OpensAll : (Inquiry → Option Answer) → (Entry → Option Answer) → (Number → Bool) → Handed → List Placed → Log → Log → Result (List Opened) Halt → Type 0
OpensAll evaluator host used handed ps old new result = (sets : NumberSets) → AreFoundSets used ps sets → HasTrace (both evaluator host) (all_opened sets handed ps) old new result

-- a scope binds what its module was asked for
pub record IsOpenedBy (used : Number → Bool) (handed : Handed) (o : Opened) : Type 0 where
  pub set : NumberSet
  pub is_set : IsSetFor used o.justfile o.lazy set
  pub binds : Binds (out-Justfile o.justfile).assignments (wanted_from handed o.justfile set) o.scope
