-- Why demand 3 holds (Demand.demand), and what follows of it for one schema (RoundTrip.round_trip).
-- Reading what print wrote: Fields, Bodies (one induction on the tree). A valid table's live values: Fitting; the same under the older
-- schema's ranks: Relabelled; where live names stand: Places; room enough: Rooms.
-- Cases, Examples: both cases of the demand computed, and what goes wrong without each thing presumed.
pub mod Fields
pub mod Bodies
pub mod Fitting
pub mod Relabelled
pub mod Places
pub mod Rooms
pub mod Demand
pub mod RoundTrip
pub mod Cases
pub mod Examples
