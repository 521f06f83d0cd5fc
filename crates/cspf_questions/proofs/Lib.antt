-- The lemmas on questions, on streams of rows that ask, and on runs that also answer questions.
pub mod ExclusionParts
pub mod AskedLemmas
pub mod QuestionRuns
