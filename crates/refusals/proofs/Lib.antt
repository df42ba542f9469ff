-- `Tests`: any list of tests. `Answers`: the ways to answer, and that one answer fits. `Acceptance`: what number 0 means.
-- `Lengths`: what it says of what was lent. `Largest`: the largest byte, which tells whether all are bits.
-- `Numbers`: a number tells its refusal.
pub mod Tests
pub mod Answers
pub mod Acceptance
pub mod Lengths
pub mod Largest
pub mod Numbers
