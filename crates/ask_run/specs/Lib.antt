-- What the contracts of `ask_run` cite: the answers to lines of input, and what is kept of it for the next turn.
pub mod Answered
pub mod Kept
