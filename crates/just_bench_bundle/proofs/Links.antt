-- What an item leads to, where a search is told a path.
use Rattle.std.proofs.Common.{◌≡◌, ℕ, List, sym, ap}
use Rattle.just_bench_bundle.specs.loops.Places.{lead_of}
use Rattle.just_bench_bundle.specs.declared.leads.Lead.TheVariants as lead
use Rattle.just_errors.specs.Causes.{NoFile, NoHome, NoImport, NoModule, SeveralFiles, LeadsBack, NoVariables, Broken, NoNumber}
use Rattle.just_loader.specs.Links.{Link, Unlinked, To, AtFault}

pub led_to : (to : Link) (path : List ℕ) → lead.To path ≡ lead_of to → to ≡ To path
led_to Unlinked path is = cc
led_to (To other) path is = let same : path ≡ other = cc in ap To (sym same)
led_to (AtFault NoHome) path is = cc
led_to (AtFault (NoFile file)) path is = cc
led_to (AtFault (NoImport place)) path is = cc
led_to (AtFault (NoModule name)) path is = cc
led_to (AtFault (SeveralFiles name found)) path is = cc
led_to (AtFault (LeadsBack current next)) path is = cc
led_to (AtFault (NoVariables overrides)) path is = cc
led_to (AtFault (Broken place kind)) path is = cc
led_to (AtFault NoNumber) path is = cc
