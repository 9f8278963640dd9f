-- The laws of gathering the candidates, net after net.
pub mod Gathering
