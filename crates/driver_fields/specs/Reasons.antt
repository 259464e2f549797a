-- Why a message is refused before anything is asked of the database: of each reason its number and
-- its name (MongoDB manual, error codes) and what the reply says, which may name what it is about.
use Rattle.std.specs.Prelude.{ℕ, ℤ, pos, List, ◌++◌, codes, Option, Some, None}
use Rattle.bson.specs.Tree.{scalar, int64, Pairs, no_pairs, pair}
use Rattle.driver_replies.specs.Fields.{int, words}
use Rattle.driver_messages.specs.ForeignTypes.{text_before}
use Rattle.driver_messages.specs.declared.foreign.ForeignType.{ForeignType}
use Rattle.driver_fields.specs.declared.reason.Reason.{Reason}
use Rattle.driver_fields.specs.declared.reason.Reason.TheVariants as reasons

-- the number, the name, and the text: what stands before a name, and what stands behind it, if one
-- is named
pub record Row : Type 0 where
  pub code : ℕ
  pub name : List ℕ
  pub before : List ℕ
  pub behind : Option (List ℕ)

-- a text that names nothing
abbrev pub says : ℕ → List ℕ → List ℕ → Row
says number word sentence = record { code = number; name = word; before = sentence; behind = None }

-- a text around a name
abbrev pub names : ℕ → List ℕ → List ℕ → List ℕ → Row
names number word front back =
    record { code = number; name = word; before = front; behind = Some back }

abbrev pub row_of : Reason → Row
row_of reasons.TooManyServers =
    says 2 (codes "BadValue") (codes "docpage is one server: w is 0 or 1")
row_of reasons.NoPath = names 2 (codes "BadValue") (codes "field '") (codes "': no path")
row_of reasons.FieldType = names 14 (codes "TypeMismatch") (codes "field '") (codes "': wrong type")
row_of reasons.NoChoice =
    says 9 (codes "FailedToParse")
    (codes "a 'findAndModify' has 'update', or 'remove' without 'new' and 'upsert'")
row_of reasons.NoAuthentication =
    says 18 (codes "AuthenticationFailed") (codes "docpage has no authentication")
row_of reasons.NoTransactions = says 20 (codes "IllegalOperation")
    (codes "docpage has no transactions over several commands and no retryable writes")
row_of reasons.UnsupportedField =
    names 72 (codes "InvalidOptions") (codes "field '") (codes "': not supported by docpage")
row_of reasons.UnknownWriteConcern =
    says 79 (codes "UnknownReplWriteConcern") (codes "docpage has no write concern of that name")
row_of reasons.UnknownCommand =
    names 59 (codes "CommandNotFound") (codes "docpage has no command '") (codes "'")
row_of (reasons.ForeignType kind) = names 22 (codes "InvalidBSON") (text_before kind) (codes "')")
row_of reasons.InvalidBson = says 22 (codes "InvalidBSON") (codes "invalid BSON")
row_of reasons.UnsupportedQuery = says 352 (codes "UnsupportedOpQueryCommand")
    (codes "docpage takes OP_QUERY for a handshake alone")

-- the text, where it is about this
abbrev pub text_with : List ℕ → Option (List ℕ) → List ℕ → List ℕ
text_with front None about = front
text_with front (Some back) about = (front ++ about) ++ back

abbrev pub text_of : Row → List ℕ → List ℕ
text_of row about = text_with row.before row.behind about

-- The reply to a message that is refused.
abbrev pub refusal_document : ℤ → List ℕ → List ℕ → Pairs
refusal_document number word sentence =
    pair (codes "ok") (scalar (int64 (pos 0)))
    (pair (codes "errmsg") (words sentence)
    (pair (codes "code") (int number)
    (pair (codes "codeName") (words word) no_pairs)))

abbrev pub refusal_reply : Reason → List ℕ → Pairs
refusal_reply reason about =
    refusal_document (pos (row_of reason).code) (row_of reason).name (text_of (row_of reason) about)
