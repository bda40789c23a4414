-- Why what is read is valid: a reading lays a tree down (Laid), every value that it reads is right for its kind (Leaves), bodies have
-- the fields of their scope and entries a key and a value (Bodies); so the table that it leaves is valid (ReadValid.read-valid).
-- And where a refusal points: every place of a fault is a token's (Points); all other refusals have none (Told.read_told).
-- And that what refuses has a name: whatever number any call is refused with comes back from its name (Named.read-named).
pub mod Laid
pub mod Leaves
pub mod Bodies
pub mod ReadValid
pub mod Points
pub mod Told
pub mod Named
