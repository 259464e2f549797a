-- Bytes as texts of digits.
use Rattle.std.specs.Prelude.{ℕ, ◌==◌, not, Option, Some, None, List, [], ◌∷◌, length, slice_index}
use Rattle.std.specs.Prelude.{Result, Ok, Err}
use Rattle.hex.specs.Hex.{decode_sized}
use Rattle.base64.specs.GeneralPurpose.{decode_of}
use Rattle.base64.specs.Engines.{standard}
use Rattle.uuid.specs.Text.{parsed}
use Rattle.outcome.specs.Outcome.{◌>>=◌, unless, or_refused}
use Rattle.ext_json.specs.declared.fault.ExtJsonFault.{ExtJsonFault}
use Rattle.ext_json.specs.declared.fault.ExtJsonFault.TheVariants as faults

-- what a decoder gives, or that the text isn't of a wrapper's form
abbrev pub or_wrapper : {A E : Type 0} → Result A E → Result A ExtJsonFault
or_wrapper (Ok x) = Ok x
or_wrapper (Err e) = Err faults.Wrapper

-- twelve bytes as 24 hex digits
unfoldable pub object_id_in : List ℕ → Result (List ℕ) ExtJsonFault
object_id_in s = or_wrapper (decode_sized s 12)

-- sixteen bytes as 36 characters, hex digits with hyphens (RFC 9562)
unfoldable pub uuid_in : List ℕ → Result (List ℕ) ExtJsonFault
uuid_in s = unless (not (length s == 36)) faults.Wrapper (or_refused (parsed s) faults.Wrapper)

-- a subtype and bytes
abbrev pub uuid_binary : List ℕ → Result (ℕ × List ℕ) ExtJsonFault
uuid_binary s = uuid_in s >>= λ bytes. Ok (4, bytes)

-- two hex digits, of which the first may be left out where it is 0
abbrev pub two_digits : List ℕ → Option (List ℕ)
two_digits [] = None
two_digits (low ∷ []) = Some (48 ∷ low ∷ [])
two_digits (high ∷ low ∷ []) = Some (high ∷ low ∷ [])
two_digits (a ∷ b ∷ c ∷ s) = None

unfoldable pub byte_in : List ℕ → Result ℕ ExtJsonFault
byte_in s =
    or_refused (two_digits s) faults.Wrapper >>= λ digits.
    or_wrapper (decode_sized digits 1) >>= λ bytes. Ok (slice_index bytes 0)

-- any byte but 2
unfoldable pub subtype_in : List ℕ → Result ℕ ExtJsonFault
subtype_in s = byte_in s >>= λ byte. unless (byte == 2) faults.Unsupported (Ok byte)

unfoldable pub base64_in : List ℕ → Result (List ℕ) ExtJsonFault
base64_in s = or_wrapper (decode_of standard s)

abbrev pub binary_in : List ℕ → List ℕ → Result (ℕ × List ℕ) ExtJsonFault
binary_in bytes subtype = subtype_in subtype >>= λ byte. base64_in bytes >>= λ b. Ok (byte, b)
