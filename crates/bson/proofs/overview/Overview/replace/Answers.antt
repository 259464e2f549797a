use Rattle.std.proofs.Common.{refl}
use Rattle.bson.proofs.OverviewLaws.{tells-with_value}
use Rattle.bson.proofs.overview.Overview.replace.Goals as goal

pub returns : goal.returns
returns c =
    tells-with_value c.args.self.now (record { places = c.args.self.now.places; depths = c.replace.new.self }) c.args.old c.args.new refl c.replace.ensures
