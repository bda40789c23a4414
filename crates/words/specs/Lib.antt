-- What a person is shown of a refusal.
pub mod Words
