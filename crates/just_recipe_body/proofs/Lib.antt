pub mod AllLemmas
pub mod AttributeLemmas
pub mod CoveringLemmas
pub mod StepEnds
