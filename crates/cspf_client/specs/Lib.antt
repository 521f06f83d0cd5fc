pub mod ErrorNames
pub mod SessionStates
pub mod ClientRows
pub mod ServingStates
pub mod ClientRuns
pub mod Sessions
