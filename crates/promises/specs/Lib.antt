-- What the claim says, and the settled examples.
pub mod Demand
pub mod Examples
pub mod OpenRows
pub mod Misreadings
pub mod Weeks
pub mod ExcludedEnds
pub mod OneList
pub mod HowFarOff
pub mod Hairlines
pub mod HouseRules
pub mod RulesExamples
pub mod WrongAnswers
