pub mod Lists
pub mod Seam
pub mod Names
pub mod Right
pub mod BothKinds
pub mod Rows
pub mod Choice
pub mod KindsRight
pub mod KindLists
pub mod Columns
mod Apart
mod Hashed
mod Limited
pub mod Complete
pub mod Marks
pub mod Sound
pub mod Steps
pub mod ActsOfRows
pub mod Turns
pub mod StatementsComplete
pub mod StatementsSound
pub mod Pieces
pub mod Whole
pub mod Lexes
