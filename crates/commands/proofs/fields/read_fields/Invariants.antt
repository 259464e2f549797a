use Rattle.std.proofs.Common.{◌≡◌, drop}
use Rattle.bson.specs.View.{pairs_of}
use Rattle.command_model.specs.Fields.{read_fields}
use Rattle.commands.proofs.fields.read_fields.Given as goal

abbrev pub invariant-pairs : goal.invariant-pairs
invariant-pairs g l =
    read_fields g.F.Fields.field l.initial.fields (pairs_of l.pairs) ≡ read_fields g.F.Fields.field l.fields (pairs_of (drop l.pair-index l.pairs))
