use Rattle.std.proofs.Common.{refl}
use Rattle.std.specs.Str.{is_utf8, chars}
use lib.Utf8.{encode}
use Rattle.bson_bytes.specs.Raw.{len_at}
use Rattle.bson_bytes.specs.Decoding.{fixed_at, count_at, ended_at, content_at, text_at, string_at, int32_at, int64_at, scalar_at, kind_of, name_at}
use Rattle.bson_bytes.specs.Decoding.{element_by, pairs_by, value_at, length_at, document_at}
use Rattle.op_msg.specs.Frame.{part_at, each_by, section_at, frame_of, front}
use Rattle.driver_messages.specs.ForeignTypes.{foreign_of}
use Rattle.driver_messages.specs.Incoming.{whole_at, read_whole}
use Rattle.driver_messages.specs.OwnNumbers.{is_own_number}
use Rattle.driver_messages.specs.Seeking.{step, seek, in_sections}
use Rattle.driver_messages.specs.WholeDouble.{normal_size, integer_of}
use Rattle.driver_messages.specs.WithIntegers.{passed, elements_with, documents_with, sections_with}
use Rattle.driver_messages.proofs.laws.rows.Goals as goal

pub returns-clause-queries : goal.returns-clause-queries
unfolding is_utf8 chars encode fixed_at count_at ended_at content_at int32_at scalar_at kind_of name_at element_by pairs_by value_at length_at document_at
    whole_at read_whole
returns-clause-queries c = record {
  handshake = refl;
  other = refl;
  not_whole = refl;
  length = refl;
  tls = refl;
}

pub returns-clause-foreign : goal.returns-clause-foreign
unfolding is_utf8 chars encode kind_of name_at len_at foreign_of step seek
returns-clause-foreign c = record {
  within = refl;
  in_array = refl;
  none = refl;
}

pub returns-clause-doubles : goal.returns-clause-doubles
unfolding normal_size integer_of
returns-clause-doubles c = record {
  zero = refl;
  minus_zero = refl;
  one = refl;
  minus_one = refl;
  five = refl;
  thousand = refl;
  last_odd = refl;
  next = refl;
  greatest = refl;
  half = refl;
  one_and_half = refl;
  tenth = refl;
  least = refl;
  too_great = refl;
  too_small = refl;
  infinity = refl;
  minus_infinity = refl;
  not_a_number = refl;
}

pub returns-clause-integers : goal.returns-clause-integers
unfolding is_utf8 chars encode len_at fixed_at count_at ended_at content_at text_at string_at int64_at scalar_at kind_of name_at element_by pairs_by value_at
    length_at document_at part_at each_by section_at frame_of front foreign_of whole_at read_whole is_own_number step seek in_sections normal_size integer_of
    passed elements_with documents_with sections_with
returns-clause-integers c = record {
  whole = refl;
  fraction = refl;
  in_filter = refl;
  in_section = refl;
  counted = refl;
  not_counted = refl;
  pinged = refl;
  not_pinged = refl;
  of_cursor = refl;
  explained = refl;
  concern = refl;
  inserted = refl;
  handshake = refl;
  no_handshake = refl;
}
