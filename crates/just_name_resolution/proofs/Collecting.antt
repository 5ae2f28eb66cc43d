-- What was there and what a search found, in one set.
use Rattle.std.proofs.Common.{◌≡◌, Bool, ◌||◌, List, [], map, ◌∙◌, ap}
use Rattle.std.specs.HashSet.{contains}
use Rattle.just_names.specs.Texts.{Text}
use Rattle.just_names.specs.declared.number.Number.{Number}
use Rattle.just_parts.specs.Needs.{Gains, GainsAll, GainsThose, IsSame, same_number}
use Rattle.just_name_resolution.specs.Called.{AreBodiesRead}
use Rattle.just_name_resolution.specs.loops.Search.{IsReadFrom, IsSearchFrom, found_in, scoped_of}
use Rattle.just_name_resolution.specs.declared.needs.Search.{Search}
use Rattle.just_name_resolution.proofs.Searching.{search_gains, search_gains_all}
use Rattle.just_parts.specs.Known.{Known}
use Rattle.just_parts.specs.Scopes.{Scoped}

-- a set that has its keys in another order gains others
pub gained : {K : Type 0} (more old between new : K → Bool) → IsSame old between → GainsThose more between new → (k : K) → new k ≡ (old k || more k)
gained more old between new same gains k = gains k ∙ ap (λ b. b || more k) (same k)

module _ (m : Known) (overridden : Number → Bool) (firsts : List Scoped) (old : Number → Bool) (visited : Text → Bool) (s : Search) (search : IsSearchFrom m overridden firsts old visited (found_in old visited s))
    (over : s.stack.items ≡ []) (between new : Number → Bool) (same : IsSame old between) (gains : GainsThose (contains same_number s.numbers) between new) where
  pub collected : Gains m overridden (IsReadFrom m firsts) old new
  collected = search_gains m overridden firsts old visited (found_in old visited s) search (ap (map scoped_of) over) new (gained (contains same_number s.numbers) old between new same gains)

  pub collected_all : AreBodiesRead m old visited → GainsAll m overridden (IsReadFrom m firsts) old new
  collected_all read =
      search_gains_all m overridden firsts old visited (found_in old visited s) search (ap (map scoped_of) over) read new (gained (contains same_number s.numbers) old between new same gains)
