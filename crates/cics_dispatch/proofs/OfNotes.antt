pub mod ShownNotes
pub mod FiledNotes
pub mod LesserKeys
