-- What carrying answers and leaves in each lent room, and demand 3 said of those rooms.
pub mod Carry
