use Rattle.std.proofs.Common.{string_bytes}
use Rattle.std.proofs.lemmas.Map.Text.{btree_map_updates_text}
use Rattle.bson.proofs.OverviewLaws.{tells-append}
use Rattle.bson.proofs.overview.Overview.add.Goals as goal

pub returns : goal.returns
returns c =
    tells-append c.args.self.now (record { places = c.insert.new.self; depths = c.add.new.self }) (string_bytes c.in_ok-name.name) c.args.name.now c.args.at
    c.args.levels c.in_ok-name.ensures.ok
    (btree_map_updates_text (string_bytes c.in_ok-name.name) c.args.self.now.places c.insert.new.self _ c.in_ok-insert.ensures.updates) c.add.ensures
