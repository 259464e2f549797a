use Rattle.std.proofs.Common.{sym, subst}
use Rattle.update_model.specs.Fronts.{MayStand}
use Rattle.update_model.specs.Stored.{id_name}
use Rattle.update_model.proofs.IdLemmas.{may_stand}
use Rattle.update.proofs.replacements.replace.Goals as goal

pub copy_with_id-requires : goal.copy_with_id-requires
copy_with_id-requires c = subst (MayStand id_name) (sym c.get-given.ensures) (may_stand c.args.new.now id_name c.levels-new_levels.ensures.lawful)

pub copy_with_id-requires-2 : goal.copy_with_id-requires-2
copy_with_id-requires-2 c = subst (MayStand id_name) (sym c.in-Some.ensures) (may_stand c.args.old.now id_name c.levels-old_levels.ensures.lawful)
