-- What the code holds of a job among its nets and blocks, and the outcome of a line.
pub mod Rules
