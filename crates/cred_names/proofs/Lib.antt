pub mod OwnedNumbers
