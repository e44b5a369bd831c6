-- For callers: what keeps a signature good. With no generators it is good over every store; it is so over a store that grew,
-- and without its last generators.
use Rattle.typecheck.proofs.GoodSignatures.{good_none, good-kept, good-take}

pub ruleset signatures = (good_none, good-kept, good-take)
