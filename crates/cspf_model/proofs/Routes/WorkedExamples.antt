-- Proofs of the worked examples of `specs/Laws`: the order of walks, changes with the same key, and
-- the admission of links.
use Rattle.std.proofs.Common.{cond, Some, None, [], ◌∷◌, ap, arith, rules}
use Rattle.cspf_model.specs.declared.batch.Change.TheVariants.{Put, Remove}
use Rattle.cspf_model.specs.Database.{key_of}
use Rattle.cspf_model.specs.Changes.{link_key, last_on, link_after}
use Rattle.cspf_model.specs.Laws.{AddressesCompareAsNumbers, FewerLinksComeFirst, CheaperLinksComeFirst, LastPutStands, LastRemovalStands, ExactBandwidthIsEnough, LessBandwidthIsNot}
use Rattle.cspf_model.proofs.Databases.Keys.{key_itself}

-- Two walks have one link each, and the same cost. The walk with the local address 10.0.0.9
-- precedes the walk with 10.0.0.10.
pub as_numbers : AddressesCompareAsNumbers
as_numbers = search rules

-- A walk of one link precedes a walk of two links with the same cost.
pub fewer_first : FewerLinksComeFirst
fewer_first = search rules

-- A walk of two links of metric 1 precedes a walk of one link of metric 3.
pub cheaper_first : CheaperLinksComeFirst
cheaper_first = search rules

-- If the last change with a key puts a link, the database has this link.
pub put_stands : LastPutStands
put_stands = search rules

-- If the last change with a key is a removal, the database has no link at this key.
pub removal_stands : LastRemovalStands
removal_stands l m same =
    ap (λ b. link_after (cond b (Some (Remove l.from l.local)) (last_on (link_key (key_of l)) (Put l ∷ Put m ∷ []))) None) (key_itself (key_of l))

-- A request for 1,000 bytes per second admits a link with 1,000 bytes per second unreserved.
pub enough : ExactBandwidthIsEnough
enough = search rules

-- A request for 1,001 bytes per second doesn't admit a link with 1,000 bytes per second unreserved.
pub too_little : LessBandwidthIsNot
too_little q l free request_fields is = absurd (omega (arith, free, request_fields, is.room))
