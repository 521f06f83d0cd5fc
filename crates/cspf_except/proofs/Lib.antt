-- The lemmas on the best answer to a request with exclusions.
pub mod EndsOfRoutes
pub mod BestAnswers
pub mod BestOnce
