use Rattle.std.proofs.Common.{◌≡◌, drop}
use Rattle.bson.specs.Tree.{append_items}
use Rattle.bson.specs.View.{items_of}
use Rattle.driver_replies.specs.Listing.{told_all}
use Rattle.driver_replies.proofs.listing.told_all.Given as goal

abbrev pub invariant-entries : goal.invariant-entries
invariant-entries l = append_items l.told (told_all l.wanted (items_of (drop l.entry-index l.entries))) ≡ told_all l.wanted (items_of l.entries)
