use Rattle.driver_replies.proofs.ListingLemmas.{untold, unwanted}
use Rattle.driver_replies.proofs.listing.tell.Goals as goal

pub returns-in_default : goal.returns-in_default
returns-in_default c = untold c.args.wanted.now _ c.args.told.now c.in_default.ensures

pub returns-then-not-is_wanted : goal.returns-then-not-is_wanted
returns-then-not-is_wanted c = unwanted c.args.wanted.now _ c.in-Some.name.now c.args.told.now c.in-Some.ensures c.if-not-is_wanted.ensures
