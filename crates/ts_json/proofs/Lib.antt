mod Floats
mod AnswerFloats
mod MemberFloats
