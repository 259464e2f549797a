use Rattle.std.proofs.Common.{refl, [], ◌++◌}
use Rattle.std.specs.Str.{is_utf8, chars}
use Rattle.std.specs.Fmt.{digits}
use lib.Utf8.{encode}
use Rattle.bson.specs.Spelling.{tree_bytes, pairs_bytes, items_bytes}
use Rattle.bson_bytes.specs.Decoding.{fixed_at, count_at, ended_at, text_at, content_at, string_at, int32_at, int64_at, scalar_at, kind_of, name_at, element_by}
use Rattle.bson_bytes.specs.Decoding.{item_by, pairs_by, items_by, value_at, length_at, document_at}
use Rattle.op_msg.specs.Frame.{part_at, each_by, section_at, frame_of, front}
use Rattle.op_msg.specs.Request.{reply_bytes}
use Rattle.database_model.specs.Documents.{checked, insert_one}
use Rattle.command_model.specs.Command.{command_of}
use Rattle.database_model.specs.Insert.{run_insert}
use Rattle.database_model.specs.Find.{run_find}
use Rattle.message_laws.specs.Rows.{insert_frame, find_frame}
use Rattle.message_laws.proofs.laws.first_rows.Goals as goal

pub returns : goal.returns
unfolding is_utf8 chars digits encode tree_bytes pairs_bytes items_bytes fixed_at count_at ended_at text_at content_at string_at int32_at int64_at scalar_at
    kind_of name_at element_by item_by pairs_by items_by value_at length_at document_at part_at each_by section_at frame_of front reply_bytes checked
    insert_one command_of run_insert run_find
returns c = (
  refl,
  refl,
  refl,
  refl,
  refl,
  record { begins = (insert_frame ++ find_frame, refl, (find_frame, refl, ([], refl, refl))); ends = refl },
  refl,
)
