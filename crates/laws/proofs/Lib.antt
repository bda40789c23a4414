-- Laws of the definitions that the crates above cite, a file for each concern.
pub mod Lists
pub mod Tests
pub mod Stores
pub mod ClassTable
pub mod Reach
pub mod Decoding
pub mod Decimal
pub mod Quoting
pub mod Utf8Laws
pub mod Ranges
pub mod Loop
pub mod Goes
pub mod Forest
pub mod Canon
pub mod Once
