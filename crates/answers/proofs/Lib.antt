pub mod RecordLaws
pub mod AnswerLaws
