-- What is known of the server for a message, by the milliseconds since 1970 and by where object ids
-- begin that no message before it has.
use Rattle.std.specs.Prelude.{ℕ, ◌+◌, ◌/◌, ◌%◌, ◌^◌, pos, nat_lt, if◌then◌else◌}
use Rattle.driver_replies.specs.declared.fresh_ids.FreshIds.{FreshIds}
use Rattle.drivers.specs.declared.server_info.ServerInfo.{ServerInfo}

abbrev pub below_or_zero : ℕ → ℕ → ℕ
below_or_zero limit n = if nat_lt n limit then n else 0

abbrev pub ids_of : ℕ → ℕ → FreshIds
ids_of time next_id =
    record { seconds = below_or_zero (2 ^ 32) (time / 1000); number = next_id }

abbrev pub info_of : ℕ → ℕ → ℕ → ServerInfo
info_of number time next_id = record {
  most_document_bytes = pos 65535;
  most_message_bytes = pos 1048576;
  connection = pos (below_or_zero (2 ^ 31) number);
  time = pos time;
  ids = ids_of time next_id;
}

-- Where those of the next message begin: a message has more of them than it has room for
-- statements.
abbrev pub after_ids : ℕ → ℕ
after_ids next_id = (next_id + 262144) % 2 ^ 64
