pub mod Calls
pub mod UnitSpent
pub mod Variables
pub mod WordsTold
pub mod RulesTold
