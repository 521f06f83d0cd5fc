-- The definitions of questions: how their rows are read, also in a stream of rows that ask, the lines
-- that answer and refuse them, and the runs that answer them. `AskedReading` and `QuestionStates` are
-- private.
pub mod ExclusionText
pub mod QuestionRows
pub mod QuestionWords
pub mod PairLines
pub mod QuestionLines
pub mod AskedRows
pub mod AskedReading
pub mod QuestionScript
pub mod QuestionStates
