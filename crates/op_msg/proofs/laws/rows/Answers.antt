use Rattle.std.proofs.Common.{refl}
use Rattle.std.specs.Str.{is_utf8, chars}
use lib.Utf8.{encode}
use Rattle.bson_bytes.specs.Decoding.{fixed_at, count_at, ended_at, content_at, scalar_at, kind_of, name_at as bson_name_at, element_by, pairs_by, value_at}
use Rattle.bson_bytes.specs.Decoding.{length_at}
use Rattle.bson_bytes.specs.Decoding.{document_at}
use Rattle.op_msg.specs.Frame.{part_at, each_by, section_at, frame_of, front}
use Rattle.op_msg.proofs.laws.rows.Goals as goal

pub returns-clause-flags : goal.returns-clause-flags
unfolding part_at each_by section_at frame_of front
returns-clause-flags c = record {
  none = refl;
  more_to_come = refl;
  high = refl;
  checksum = refl;
  both = refl;
  unknown = refl;
  one_unknown = refl;
}

pub returns-clause-sections : goal.returns-clause-sections
unfolding is_utf8 chars encode bson_name_at part_at each_by section_at frame_of front
returns-clause-sections c = record {
  behind = refl;
  before = refl;
  unknown_kind = refl;
  small_size = refl;
  size_past_the_end = refl;
  endless_name = refl;
  no_text = refl;
  name_twice = refl;
  small_document = refl;
  document_past_its_end = refl;
  byte_left = refl;
  two_bodies = refl;
  section_first = refl;
  no_body = refl;
}

pub returns-clause-bodies : goal.returns-clause-bodies
unfolding is_utf8 chars encode fixed_at count_at ended_at content_at scalar_at kind_of bson_name_at element_by pairs_by value_at length_at document_at
returns-clause-bodies c = record {
  joined = refl;
  none = refl;
  repeated = refl;
  body_first = refl;
  name_first = refl;
  wrong_document = refl;
}
