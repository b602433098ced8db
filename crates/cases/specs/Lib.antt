pub mod CallTests
