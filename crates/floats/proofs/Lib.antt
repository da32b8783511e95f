-- Laws of one rounding: values, its error, order and growth; of a number's halves, of casts, and of signs.
pub mod Values
pub mod Signs
pub mod Error
pub mod Halves
pub mod Losses
pub mod Casts
pub mod Order
pub mod Quotients
pub mod Rounds
pub mod FourRoundings
pub mod NearCuts
pub mod Cuts
