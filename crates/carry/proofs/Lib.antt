-- Laws that carrying's proofs cite: what a print leaves (Printing), and what follows of the two calls (Carrying).
pub mod Printing
pub mod Carrying
pub mod Once
