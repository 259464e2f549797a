use Rattle.std.proofs.Common.{◌≡◌, length, drop}
use Rattle.planner.specs.KeyScan.{behind_fields, id_text}
use Rattle.planner.proofs.key_scan.id_text.Given as goal

abbrev pub invariant-fields : goal.invariant-fields
invariant-fields l = behind_fields (drop l.field-index l.fn.index.fields) (length l.text) l.rest ≡ id_text l.fn.index.fields l.text
