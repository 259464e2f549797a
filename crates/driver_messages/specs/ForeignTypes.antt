-- The types of BSON 1.1 (bsonspec.org) that the database doesn't have, by their bytes, and by their
-- names (MongoDB manual, BSON types).
use Rattle.std.specs.Prelude.{ℕ, ◌==◌, if◌then◌else◌, List, ◌++◌, codes, Option, Some, None}
use Rattle.driver_messages.specs.declared.foreign.ForeignType.{ForeignType}
use Rattle.driver_messages.specs.declared.foreign.ForeignType.TheVariants as types

abbrev pub type_name : ForeignType → List ℕ
type_name types.Double = codes "double"
type_name types.Undefined = codes "undefined"
type_name types.RegularExpression = codes "regex"
type_name types.DbPointer = codes "dbPointer"
type_name types.JavaScript = codes "javascript"
type_name types.Symbol = codes "symbol"
type_name types.JavaScriptWithScope = codes "javascriptWithScope"
type_name types.Decimal = codes "decimal"

-- what stands before the place of a value of a type that the database doesn't have
abbrev pub text_before : ForeignType → List ℕ
text_before kind = codes "docpage has no BSON type " ++ type_name kind ++ codes " (at '"

-- the type of a byte, where it is one of these
unfoldable pub foreign_of : ℕ → Option ForeignType
foreign_of b =
    if b == 0x01 then Some types.Double else
    if b == 0x06 then Some types.Undefined else
    if b == 0x0b then Some types.RegularExpression else
    if b == 0x0c then Some types.DbPointer else
    if b == 0x0d then Some types.JavaScript else
    if b == 0x0e then Some types.Symbol else
    if b == 0x0f then Some types.JavaScriptWithScope else
    if b == 0x13 then Some types.Decimal else
    None
