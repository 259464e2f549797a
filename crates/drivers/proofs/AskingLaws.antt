-- What is asked of the database, and what makes no difference to it.
use Rattle.std.proofs.Common.{◌≡◌, ℕ, Bool, true, false, List, codes, Option, Some, None, refl, ap, subst, ◌∙◌}
use Rattle.std.specs.Prelude.{if◌then◌else◌}
use Rattle.std.specs.Option.{option_or, option_map}
use Rattle.std.specs.Str.{bytes_eq}
use Rattle.std.proofs.lemmas.Slice.Eq.{bytes_eq-Decides}
use Rattle.bson.specs.Lookup.{lookup}
use Rattle.bson.specs.Tree.{Tree, document, Pairs, no_pairs, pair, append}
use Rattle.driver_fields.specs.Cleaning.{is_kept, field_fault, fields_fault, own_fields, array_fault, inner_fault, first_refused, kept_inner, kept}
use Rattle.drivers.specs.Starting.{ask, ask_unless, do_command, name_of}
use Rattle.driver_fields.specs.Commands.{command_of}
use Rattle.drivers.specs.Laws.{asked_by, Asks, AsksOwnFields, IgnoredMakesNoDifference, IgnoredInEntries}
use Rattle.driver_fields.specs.Rules.{rule_of}
use Rattle.driver_fields.specs.declared.cleaning.Whose.{Whose}
use Rattle.driver_fields.specs.declared.cleaning.Whose.TheVariants as whoses
use Rattle.driver_fields.specs.declared.command.Asked.TheVariants as askeds
use Rattle.driver_replies.specs.declared.fresh_ids.FreshIds.{FreshIds}
use Rattle.drivers.specs.declared.server_info.ServerInfo.{ServerInfo}
use Rattle.driver_fields.specs.declared.reason.Reason.{Reason}
use Rattle.driver_fields.specs.declared.command.Asked.{Asked}
use Rattle.driver_fields.specs.declared.command.Command.{Command}
use Rattle.driver_fields.specs.declared.command.Command.TheVariants as commands

own-without : (whose : Whose) (before : Pairs) (name : List ℕ) (t : Tree) (behind : Pairs) → is_kept whose name ≡ false
    → own_fields whose (append before (pair name t behind)) ≡ own_fields whose (append before behind)
own-without whose no_pairs name t behind e = rw e refl
own-without whose (pair other u before) name t behind e =
    ap (λ (ps : Pairs). if is_kept whose other then pair other u ps else ps) (own-without whose before name t behind e)

fields-without : (whose : Whose) (before : Pairs) (name : List ℕ) (t : Tree) (behind : Pairs) → field_fault whose name t ≡ None
    → fields_fault whose (append before (pair name t behind)) ≡ fields_fault whose (append before behind)
fields-without whose no_pairs name t behind e = rw e refl
fields-without whose (pair other u before) name t behind e =
    ap (λ (x : Option (List ℕ × Reason)). option_or (option_map (λ (reason : Reason). (other, reason)) (field_fault whose other u)) x)
    (fields-without whose before name t behind e)

pub ignored_in_entries : IgnoredInEntries
ignored_in_entries whose before name t behind dropped taken =
    (fields-without whose before name t behind taken, ap document (own-without whose before name t behind dropped))

pub kept-without : (asked : Asked) (before : Pairs) (name : List ℕ) (t : Tree) (behind : Pairs) → is_kept (whoses.Command asked) name ≡ false
    → kept asked (append before (pair name t behind)) ≡ kept asked (append before behind)
kept-without asked before name t behind e = ap (kept_inner asked) (own-without (whoses.Command asked) before name t behind e)

-- ---- what stands under other names

pub found-without : (before : Pairs) (name : List ℕ) (t : Tree) (behind : Pairs) (other : List ℕ) → bytes_eq other name ≡ false
    → lookup (append before (pair name t behind)) other ≡ lookup (append before behind) other
found-without no_pairs name t behind other e = rw e refl
found-without (pair first u before) name t behind other e =
    ap (λ (x : Option Tree). if bytes_eq other first then Some u else x) (found-without before name t behind other e)

-- names of which one is kept and the other isn't are two
apart : (whose : Whose) (name other : List ℕ) → is_kept whose name ≡ false → is_kept whose other ≡ true → bytes_eq other name ≡ false
apart whose name other dropped stays = at (bytes_eq other name) refl
  where
    at : (b : Bool) → bytes_eq other name ≡ b → bytes_eq other name ≡ false
    at true e =
        let same : other ≡ name = (bytes_eq-Decides other name).0 e in
        let no : is_kept whose name ≡ true = subst (λ (n : List ℕ). is_kept whose n ≡ true) same stays in
        absurd cc
    at false e = e

indexes_kept : is_kept (whoses.Command askeds.CreateIndexes) (codes "indexes") ≡ true
unfolding rule_of
indexes_kept = refl

updates_kept : is_kept (whoses.Command askeds.Write) (codes "updates") ≡ true
unfolding rule_of
updates_kept = refl

deletes_kept : is_kept (whoses.Command askeds.Write) (codes "deletes") ≡ true
unfolding rule_of
deletes_kept = refl

inner-without : (asked : Asked) (before : Pairs) (name : List ℕ) (t : Tree) (behind : Pairs) → is_kept (whoses.Command asked) name ≡ false
    → inner_fault asked (append before (pair name t behind)) ≡ inner_fault asked (append before behind)
inner-without askeds.CreateIndexes before name t behind e =
    ap (array_fault whoses.Index)
    (found-without before name t behind (codes "indexes") (apart (whoses.Command askeds.CreateIndexes) name (codes "indexes") e indexes_kept))
inner-without askeds.Write before name t behind e =
    ap (λ (x : Option Tree). either x (lookup (append before (pair name t behind)) (codes "deletes")))
    (found-without before name t behind (codes "updates") (apart (whoses.Command askeds.Write) name (codes "updates") e updates_kept))
    ∙ ap (either (lookup (append before behind) (codes "updates")))
    (found-without before name t behind (codes "deletes") (apart (whoses.Command askeds.Write) name (codes "deletes") e deletes_kept))
  where
    either : Option Tree → Option Tree → Option (List ℕ × Reason)
    either updates deletes = option_or (array_fault whoses.Statement updates) (array_fault whoses.Statement deletes)
inner-without askeds.Plain before name t behind e = refl
inner-without askeds.Find before name t behind e = refl
inner-without askeds.GetMore before name t behind e = refl
inner-without askeds.KillCursors before name t behind e = refl
inner-without askeds.ListCollections before name t behind e = refl
inner-without askeds.ListIndexes before name t behind e = refl
inner-without askeds.DropDatabase before name t behind e = refl
inner-without askeds.Explain before name t behind e = refl
inner-without askeds.Modify before name t behind e = refl
inner-without askeds.Distinct before name t behind e = refl

refused-without : (asked : Asked) (before : Pairs) (name : List ℕ) (t : Tree) (behind : Pairs) → is_kept (whoses.Command asked) name ≡ false
    → field_fault (whoses.Command asked) name t ≡ None
    → first_refused asked (append before (pair name t behind)) ≡ first_refused asked (append before behind)
refused-without asked before name t behind dropped taken =
    ap (λ (x : Option (List ℕ × Reason)). option_or x (inner_fault asked (append before (pair name t behind))))
    (fields-without (whoses.Command asked) before name t behind taken)
    ∙ ap (option_or (fields_fault (whoses.Command asked) (append before behind))) (inner-without asked before name t behind dropped)

-- what is asked, where a command is one for the database
asked_is : (ids : FreshIds) (asked : Asked) (refused : Option (List ℕ × Reason)) (body question : Pairs)
    → asked_by (ask_unless ids asked refused body) ≡ Some question → (refused ≡ None) × (asked_by (ask ids asked (kept asked body)) ≡ Some question)
asked_is ids asked None body question e = (refl, e)
asked_is ids asked (Some x) body question e = absurd cc

asks : (command : Option Command) (name : List ℕ) (info : ServerInfo) (body question : Pairs) → command_of (name_of body) ≡ command
    → asked_by (do_command command name info body) ≡ Some question → Asks info.ids body question
asks None name info body question is e = absurd cc
asks (Some (commands.Own own)) name info body question is e = absurd cc
asks (Some (commands.Forwarded asked)) name info body question is e =
    let found = asked_is info.ids asked (first_refused asked body) body question e in
    record { asked = asked; command = is; taken = found.0; own_fields = found.1 }

pub asks_own_fields : AsksOwnFields
asks_own_fields info body question e = asks (command_of (name_of body)) (name_of body) info body question refl e

same_done : (command : Option Command) (name : List ℕ) (info : ServerInfo) (ps qs : Pairs)
    → ((asked : Asked) → (first_refused asked ps ≡ first_refused asked qs) × (kept asked ps ≡ kept asked qs))
    → do_command command name info ps ≡ do_command command name info qs
same_done None name info ps qs same = refl
same_done (Some (commands.Own own)) name info ps qs same = refl
same_done (Some (commands.Forwarded asked)) name info ps qs same =
    ap (λ (x : Option (List ℕ × Reason)). ask_unless info.ids asked x ps) (same asked).0 ∙ at (first_refused asked qs)
  where
    at : (x : Option (List ℕ × Reason)) → ask_unless info.ids asked x ps ≡ ask_unless info.ids asked x qs
    at None = ap (ask info.ids asked) (same asked).1
    at (Some x) = refl

pub ignored_makes_no_difference : IgnoredMakesNoDifference
ignored_makes_no_difference info command value before name t behind ignored =
    let whole = pair command value before in
    same_done (command_of command) command info _ _
    (λ asked. (refused-without asked whole name t behind (ignored asked).0 (ignored asked).1, kept-without asked whole name t behind (ignored asked).0))
