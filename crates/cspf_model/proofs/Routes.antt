-- Lemmas on walks, on routes and on the fields of requests.
pub mod WalkOrder
pub mod WorkedExamples
pub mod RoutesWithoutHops
pub mod FieldRecords
pub mod ExampleRoutes
pub mod Twice
pub mod SortedRouters
