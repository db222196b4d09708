pub mod MutedWorlds
pub mod MutedCalls
pub mod MutedActs
pub mod MutedRuns
