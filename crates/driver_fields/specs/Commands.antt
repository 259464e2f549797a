-- The commands that drivers send (MongoDB manual, database commands), and what is done with each.
use Rattle.std.specs.Prelude.{ℕ, List, [], ◌∷◌, ◌++◌, codes, Option}
use Rattle.driver_replies.specs.Tables.{each, beside}
use Rattle.driver_fields.specs.declared.command.Asked.TheVariants as askeds
use Rattle.driver_fields.specs.declared.command.Command.{Command}
use Rattle.driver_fields.specs.declared.command.Command.TheVariants as commands
use Rattle.driver_fields.specs.declared.command.Own.TheVariants as owns

abbrev pub commands_by_name : List (List ℕ × Command)
commands_by_name =
    each (commands.Own owns.Hello) (codes "hello" ∷ [])
    ++ each (commands.Own owns.IsMaster) (codes "isMaster" ∷ codes "ismaster" ∷ [])
    ++ each (commands.Own owns.BuildInfo) (codes "buildInfo" ∷ codes "buildinfo" ∷ [])
    ++ each (commands.Own owns.Session)
    (codes "endSessions" ∷ codes "killSessions" ∷ codes "refreshSessions" ∷ [])
    ++ each (commands.Own owns.Login)
    (codes "saslStart" ∷ codes "saslContinue" ∷ codes "authenticate" ∷ [])
    ++ each (commands.Forwarded askeds.Plain)
    (codes "ping" ∷ codes "count" ∷ codes "aggregate" ∷ codes "create" ∷ codes "drop" ∷ [])
    ++ each (commands.Forwarded askeds.CreateIndexes) (codes "createIndexes" ∷ [])
    ++ each (commands.Forwarded askeds.Plain) (codes "dropIndexes" ∷ [])
    ++ each (commands.Forwarded askeds.Write)
    (codes "insert" ∷ codes "update" ∷ codes "delete" ∷ [])
    ++ each (commands.Forwarded askeds.Find) (codes "find" ∷ [])
    ++ each (commands.Forwarded askeds.GetMore) (codes "getMore" ∷ [])
    ++ each (commands.Forwarded askeds.KillCursors) (codes "killCursors" ∷ [])
    ++ each (commands.Forwarded askeds.ListCollections) (codes "listCollections" ∷ [])
    ++ each (commands.Forwarded askeds.ListIndexes) (codes "listIndexes" ∷ [])
    ++ each (commands.Forwarded askeds.DropDatabase) (codes "dropDatabase" ∷ [])
    ++ each (commands.Forwarded askeds.Explain) (codes "explain" ∷ [])
    ++ each (commands.Forwarded askeds.Modify) (codes "findAndModify" ∷ codes "findandmodify" ∷ [])
    ++ each (commands.Forwarded askeds.Distinct) (codes "distinct" ∷ [])

-- what is done with a command of this name; nothing where it is unknown
unfoldable pub command_of : List ℕ → Option Command
command_of name = beside commands_by_name name
