use Rattle.bson.specs.View.{items_of}
use Rattle.driver_replies.proofs.ListingLemmas.{told_shallow}
use Rattle.driver_replies.proofs.listing.retold.Goals as goal

pub collections_reply-requires : goal.collections_reply-requires
collections_reply-requires c = told_shallow _ c.args.wanted.now (items_of c.in-Some.entries.now) c.in_ok-told.ensures
