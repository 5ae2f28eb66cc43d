use Rattle.just_table.proofs.Shown.{sorted_shown, values_shown, text_now}
use Rattle.just_table.proofs.table.TableOf+ref+str+V.values_mut.Goals as goal

pub returns-clause-rest : goal.returns-clause-rest
returns-clause-rest g c = rw (← c.self.view_is, c.values_mut.ensures.rest) (values_shown text_now c.self.inside.map.entries)

pub returns-clause-sorted : goal.returns-clause-sorted
returns-clause-sorted g c = rw (← c.self.view_is) (sorted_shown text_now _ c.values_mut.ensures.ordered)
