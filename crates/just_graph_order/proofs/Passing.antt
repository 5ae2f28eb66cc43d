-- What a number reads, it leads to.
use Rattle.std.proofs.Common.{ℕ, Bool, List}
use Rattle.just_graph.specs.Steps.{Leads, by_step, by_steps}
use Rattle.just_graph_order.specs.Through.{Passes, at_once, passing, ReadsThrough}

leads_on : {R : ℕ → ℕ → Type 0} {a b c : ℕ} → Leads R a b → Leads R b c → Leads R a c
leads_on (by_step r) l = by_steps r l
leads_on (by_steps r rs) l = by_steps r (leads_on rs l)

module _ (R : ℕ → ℕ → Type 0) (solid : List Bool) where
  pub passes_leads : {a b : ℕ} → Passes R solid a b → Leads R a b
  passes_leads (at_once r) = by_step r
  passes_leads (passing r p w) = by_steps r (passes_leads w)

  pub reads_leads : {a b : ℕ} → Leads (ReadsThrough R solid) a b → Leads R a b
  reads_leads (by_step r) = passes_leads r.way
  reads_leads (by_steps r rs) = leads_on (passes_leads r.way) (reads_leads rs)
