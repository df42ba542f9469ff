-- `OddForm`: the odd form is the same f. `Rule`: which triples permute. `PrimeTest`: the same by primes, in the words of the scope.
pub mod OddForm
pub mod Rule
pub mod PrimeTest
