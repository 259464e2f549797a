use Rattle.std.proofs.Common.{◌∙◌, sym}
use Rattle.bson_bytes.proofs.TableLaws.{not_found}
use Rattle.bson_bytes.proofs.distinct.is_in_table.Goals as goal

pub returns : goal.returns
returns c = λ e. not_found c.args.table.now c.args.name.now c.binary_search.result c.requires c.binary_search.ensures.position (sym c.is_ok.ensures.value ∙ e)
