-- To be believed: `Refusals` and `Numbers`. `Leads` and `Largest` serve inside.
pub mod Refusals
pub mod Numbers
pub mod Leads
pub mod Largest
