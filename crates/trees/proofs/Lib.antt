-- Trees of values, which the theorems over definitions speak of.
-- Schemas: Accepted, Extends (every schema extends itself, extending is transitive, what the older finds under a newer name).
-- What print writes of a value is read as that value: Scanning, Values, Styles.
-- Values that fit their fields, and scopes of two schemas that go together: Trees. A valid table's live values: Canon, Valid.
-- A tree laid down as a table is that tree again, and is valid: Tables, TableGood.
pub mod Accepted
pub mod Extends
pub mod Scanning
pub mod Values
pub mod Trees
pub mod Styles
pub mod Canon
pub mod Tables
pub mod Valid
pub mod TableGood
