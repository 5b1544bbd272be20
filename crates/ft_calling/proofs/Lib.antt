pub mod Leaving
pub mod Telling
pub mod WordsCalled
pub mod RulesCalled
pub mod VariablesCalled
pub mod Fitting
