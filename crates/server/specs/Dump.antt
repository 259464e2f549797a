-- What a dump is: the documents of a collection, each as a line of hexadecimal.
use Rattle.std.specs.Prelude.{String, ◌≡◌, ℕ, List, map, string_bytes, Option, Some, None, Result}
use Rattle.std.specs.Prelude.{MatchResult}
use Rattle.std.specs.Global.{Vec, Global}
use Rattle.std.specs.Option.{option_map}
use Rattle.hex.specs.Hex.{encode_lower}
use Rattle.bson.specs.Spelling.{frame_of, pairs_bytes}
use Rattle.bson.specs.Tree.{Pairs}
use Rattle.page.specs.History.{History, KeepsWord}
use Rattle.entry_model.specs.State.{Collection, find_collection}
use Rattle.collections.specs.Walk.{IsWalk}
use Rattle.collections.specs.declared.walk.Walk.{Walk}
use Rattle.engine.specs.Dump.{HasFaultCause}
use Rattle.engine.specs.Durable.{disk_history}
use Rattle.engine.specs.Looking.{OnlyReads}
use Rattle.engine.specs.View.{world}
use Rattle.engine.specs.declared.check_fault.CheckFault.{CheckFault}
use Rattle.engine.specs.declared.engine.Engine.{Engine}

-- the line of a document: its bytes in lower case hexadecimal
abbrev pub dump_line : Pairs → List ℕ
dump_line d = encode_lower (frame_of (pairs_bytes d))

-- the lines of the collection of that name, in ascending order of `_id`, if there is one
abbrev pub dump_of : List Collection → List ℕ → Option (List (List ℕ))
dump_of now name = option_map (λ c. map dump_line c.documents) (find_collection now name)

abbrev pub lines_in : Vec (String Global) → List (List ℕ)
lines_in lines = map string_bytes lines.items

-- The collection of that name was dumped. The fault `NamespaceNotFound` says that there is none.
pub record Dumps {D : Type 0} (history : D → History) (name : List ℕ)
    (result : Result (Vec (String Global)) CheckFault) (old new : Engine D) : Type 0 where
  pub reads : OnlyReads history old new
  pub answers : KeepsWord (disk_history history new)
      → MatchResult result (λ lines. dump_of (world old).collections name ≡ Some (lines_in lines))
      (HasFaultCause history (dump_of (world old).collections name ≡ None) old new)

-- The documents that are still to come were listed, each as a line.
pub record ListsRest {D : Type 0} (history : D → History) (walk : Walk)
    (result : Result (Vec (String Global)) CheckFault) (old new : Engine D) : Type 0 where
  pub reads : OnlyReads history old new
  pub answers : KeepsWord (disk_history history new) → (rest : List Pairs)
      → IsWalk (world old).collections walk rest
      → MatchResult result (λ lines. lines_in lines ≡ map dump_line rest)
      (HasFaultCause history ⊥ old new)
