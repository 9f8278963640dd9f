-- What route writes is sound and unbeaten.
pub mod RouteSound
pub mod RouteUnbeaten
pub mod WorkedLayout
pub mod WorthlessTexts
pub mod OnlyText
