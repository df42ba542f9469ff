pub mod PermutationTest
