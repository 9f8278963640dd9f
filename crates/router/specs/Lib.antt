-- What is promised of route's answer beyond what holds of every operation that writes a text.
pub mod LayoutLength
