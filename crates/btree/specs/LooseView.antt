-- What the program's cells and children out of pages stand for.
use Rattle.page.specs.Content.{inline, spilled}
use Rattle.btree.specs.Loose.{Load, value, child, Slot}
use Rattle.btree.specs.declared.node.Payload.{Payload}
use Rattle.btree.specs.declared.node.Payload.TheVariants as holds
use Rattle.btree.specs.declared.node.LooseSlot.{LooseSlot}

abbrev pub payload_in : Payload → Load
payload_in (holds.Inline bytes) = value (inline bytes.items)
payload_in (holds.Chained len first) = value (spilled len first)
payload_in (holds.Page page) = child page

abbrev pub slot_in : LooseSlot → Slot
slot_in loose_slot = record { key = loose_slot.key.items; load = payload_in loose_slot.payload }
