pub mod Question
pub mod QuestionReading
pub mod Reply
pub mod ReplyReading
pub mod Rows
pub mod RowView
pub mod inside
