-- The refusals of commands: of each its number, its name and its text, which a reply says.
use Rattle.std.specs.Prelude.{ℕ, List, codes}
use Rattle.path.specs.declared.refusal.Refusal.{Refusal}
use Rattle.path.specs.declared.refusal.Refusal.TheVariants as refusals

-- what a reply says of a refusal
pub record Row : Type 0 where
  pub code : ℕ
  pub name : List ℕ
  pub text : List ℕ

abbrev pub row : ℕ → List ℕ → List ℕ → Row
row number word sentence = record { code = number; name = word; text = sentence }

abbrev pub row_of : Refusal → Row
row_of refusals.BadValue = row 2 (codes "BadValue") (codes "bad value")
row_of refusals.FailedToParse = row 9 (codes "FailedToParse") (codes "command not understood")
row_of refusals.TypeMismatch = row 14 (codes "TypeMismatch") (codes "wrong type")
row_of refusals.InvalidBSON = row 22 (codes "InvalidBSON") (codes "invalid BSON")
row_of refusals.NamespaceNotFound = row 26 (codes "NamespaceNotFound") (codes "no such collection")
row_of refusals.IndexNotFound = row 27 (codes "IndexNotFound") (codes "no such index")
row_of refusals.PathNotViable = row 28 (codes "PathNotViable") (codes "path not viable")
row_of refusals.ConflictingUpdateOperators =
    row 40 (codes "ConflictingUpdateOperators") (codes "conflicting paths")
row_of refusals.CursorNotFound = row 43 (codes "CursorNotFound") (codes "no such cursor")
row_of refusals.NamespaceExists = row 48 (codes "NamespaceExists") (codes "collection exists")
row_of refusals.DollarPrefixedFieldName =
    row 52 (codes "DollarPrefixedFieldName") (codes "name begins with $")
row_of refusals.EmptyFieldName = row 56 (codes "EmptyFieldName") (codes "empty name")
row_of refusals.DottedFieldName = row 57 (codes "DottedFieldName") (codes "name contains .")
row_of refusals.CommandNotFound = row 59 (codes "CommandNotFound") (codes "no such command")
row_of refusals.ImmutableField = row 66 (codes "ImmutableField") (codes "_id can not change")
row_of refusals.InvalidNamespace = row 73 (codes "InvalidNamespace") (codes "bad collection name")
row_of refusals.IndexOptionsConflict = row 85 (codes "IndexOptionsConflict") (codes "index differs")
row_of refusals.CannotIndexParallelArrays =
    row 171 (codes "CannotIndexParallelArrays") (codes "two arrays in one index")
row_of refusals.KeyTooLong = row 9001 (codes "KeyTooLong") (codes "key too long")
row_of refusals.TooMany = row 9002 (codes "TooMany") (codes "too many")
row_of refusals.Full = row 9003 (codes "Full") (codes "file is full")
row_of refusals.OutOfMemory = row 9004 (codes "OutOfMemory") (codes "out of memory")
row_of refusals.StorageFailed = row 9005 (codes "StorageFailed") (codes "storage failed")
row_of refusals.BSONObjectTooLarge =
    row 10334 (codes "BSONObjectTooLarge") (codes "document too large")
row_of refusals.DuplicateKey = row 11000 (codes "DuplicateKey") (codes "duplicate key")
