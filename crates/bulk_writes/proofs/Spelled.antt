-- The statements of an update that a document spells make documents of documents.
use Rattle.std.proofs.Common.{◌≡◌, ℕ, Bool, true, false, List, [], ◌∷◌, Option, Some, None, Result, Ok, Err, refl, subst, arith, All}
use Rattle.std.specs.Prelude.{◌&&◌, ◌==◌, codes, if◌then◌else◌, nat_lt}
use Rattle.std.specs.Str.{bytes_eq}
use Rattle.std.proofs.lemmas.List.Elements.{All-cons}
use Rattle.bson.specs.Edits.{items_len}
use Rattle.bson.specs.Lawful.{IsDocument, IsItems, IsPairs, IsTree}
use Rattle.bson.specs.Tree.{Tree, scalar, document, array, Pairs, no_pairs, pair, Items, no_items, item}
use Rattle.filter.specs.Parsing.{read_filter}
use Rattle.outcome.specs.Outcome.{◌>>=◌, or_refused, unless}
use Rattle.path.specs.declared.refusal.Refusal.{Refusal}
use Rattle.path.specs.declared.refusal.Refusal.TheVariants as refusals
use Rattle.update_model.specs.Applying.{apply}
use Rattle.update_model.specs.Parsing.{read_update}
use Rattle.update_model.specs.Update.{is_replacement, Update as Change}
use Rattle.update_model.specs.Upserts.{base_of}
use Rattle.command_model.specs.Command.{aggregate, as_command, Command, command_of, count}
use Rattle.command_model.specs.Command.{create, create_indexes, delete, drop as drop_of, drop_indexes, explain}
use Rattle.command_model.specs.Command.{find, get_more, hello, insert, kill_cursors, list_collections, list_indexes, ping, update}
use Rattle.command_model.specs.Fields.{CommonFields, common_field, read_fields}
use Rattle.command_model.specs.Names.{namespace_of}
use Rattle.command_model.specs.OutcomeLaws.{step_of}
use Rattle.command_model.specs.Statements.{each_of, statements_in}
use Rattle.command_model.specs.Update.{IsRead, no_statement_fields, no_update_fields, read_statement, read_update_command, statement_field, Update}
use Rattle.command_model.specs.Update.{update_field, update_statements_in, UpdateFields, UpdateStatement, UpdateStatementFields}
use Rattle.command_model.specs.Values.{bool_in, items_of, spelled_in, text_in}
use Rattle.database_model.specs.Documents.{key_checked, key_of}
use Rattle.statements.proofs.Applied.{applied}
use Rattle.bulk_writes.proofs.Changing.{applied_given, IsChange}
use Rattle.bulk_writes.proofs.Documents.{MakesDocuments}
use Rattle.bulk_writes.proofs.Reading.{AreTop, base_given, filter_given, update_given}
use Rattle.bulk_writes.proofs.Values.{IfGiven}

-- ---- what isn't refused

pub then_given : {A B : Type 0} (P : A → Type 0) (Q : B → Type 0) (r : Result A Refusal) (f : A → Result B Refusal) → IfGiven P r
    → ((x : A) → P x → IfGiven Q (f x)) → IfGiven Q (r >>= f)
then_given P Q (Ok x) f h go = go x h
then_given P Q (Err e) f h go = tt

abbrev pub Any : {X : Type 0} → X → Type 0
Any x = Unit {0}

pub any_given : {X : Type 0} (r : Result X Refusal) → IfGiven (λ (x : X). Any x) r
any_given (Ok x) = tt
any_given (Err e) = tt

abbrev pub IfSomeOf : {X : Type 0} → (X → Type 0) → Option X → Type 0
IfSomeOf P None = Unit {0}
IfSomeOf P (Some x) = P x

pub some_given : {X : Type 0} (P : X → Type 0) (o : Option X) (e : Refusal) → IfSomeOf P o → IfGiven P (or_refused o e)
some_given P None e h = tt
some_given P (Some x) e h = h

pub unless_given : {X : Type 0} (P : X → Type 0) (b : Bool) (e : Refusal) (r : Result X Refusal) → IfGiven P r → IfGiven P (unless b e r)
unless_given P true e r h = tt
unless_given P false e r h = h

pub it_is : {X : Type 0} (P : X → Type 0) (r : Result X Refusal) (x : X) → IfGiven P r → r ≡ Ok x → P x
it_is P r x h e = subst (IfGiven P) e h

-- ---- a statement

-- What is known of a statement that was read.
record IsGood (s : UpdateStatement) : Type 0 where
  read : IsRead s.change
  change : IsChange s.change
  top : AreTop s.filter

of_applied : (u : Change) (old new : Pairs) → IsChange u → IsPairs old → apply u 65535 old ≡ Ok new → IsDocument new
of_applied u old new h k e = record {
  lawful = it_is IsPairs (apply u 65535 old) new (applied_given u 65535 old h k) e;
  depth = omega (arith, (applied u old new e).depth);
}

makes_documents : (s : UpdateStatement) → IsGood s → MakesDocuments s
makes_documents s h = record {
  changed = λ old new k e. of_applied s.change old new h.change k.lawful e;
  upserted = λ new e.
      let b = step_of (base_of s.filter) _ new e in
      let n = step_of (apply s.change 65535 b.0) _ new b.2 in
      let k = step_of (key_checked (key_of n.0)) (λ key. let r : Result Pairs Refusal = Ok n.0 in r) new n.2 in
      let same : n.0 ≡ new = cc in
      subst IsDocument same (of_applied s.change b.0 n.0 h.change (it_is IsPairs (base_of s.filter) b.0 (base_given s.filter h.top) b.1) n.1);
}

pub document_given : {X : Type 0} (P : X → Type 0) (read : Pairs → Result X Refusal) → ((ps : Pairs) → IsPairs ps → IfGiven P (read ps)) → (t : Tree) → IsTree t
    → IfGiven P (spelled_in read t)
document_given P read reads (document ps) h = reads ps h
document_given P read reads (array ts) h = tt
document_given P read reads (scalar s) h = tt

-- What is known of the update that was read.
record IsReadChange (u : Change) : Type 0 where
  read : IsRead u
  change : IsChange u

change_given : (ps : Pairs) → IsPairs ps → IfGiven IsReadChange (read_update ps)
change_given ps h = at (read_update ps) refl (update_given ps h)
  where
    at : (r : Result Change Refusal) → read_update ps ≡ r → IfGiven IsChange r → IfGiven IsReadChange r
    at (Err e) is k = tt
    at (Ok u) is k = record { read = record { source = ps; reads = is }; change = k }

record AreFields (f : UpdateStatementFields) : Type 0 where
  top : IfSomeOf AreTop f.filter
  change : IfSomeOf IsReadChange f.change

field_given : (f : UpdateStatementFields) (name : List ℕ) (t : Tree) → AreFields f → IsTree t → IfGiven AreFields (statement_field f name t)
field_given f name t h k = by (bytes_eq name (codes "q")) (bytes_eq name (codes "u")) (bytes_eq name (codes "upsert")) (bytes_eq name (codes "multi"))
  where
    by : (a b c d : Bool) → IfGiven AreFields (if a then (spelled_in read_filter t >>= (λ rules. Ok (record f { filter = Some rules }))) else
        if b then (spelled_in read_update t >>= (λ change. Ok (record f { change = Some change }))) else
        if c then (bool_in t >>= (λ upsert. Ok (record f { upsert = upsert }))) else
        if d then (bool_in t >>= (λ multi. Ok (record f { multi = multi }))) else
        Err refusals.FailedToParse)
    by true b c d =
        then_given AreTop AreFields (spelled_in read_filter t) _ (document_given AreTop read_filter filter_given t k)
        (λ rules are. record { top = are; change = h.change })
    by false true c d =
        then_given IsReadChange AreFields (spelled_in read_update t) _ (document_given IsReadChange read_update change_given t k)
        (λ change is. record { top = h.top; change = is })
    by false false true d = then_given (λ (b : Bool). Any b) AreFields (bool_in t) _ (any_given (bool_in t)) (λ b u. record { top = h.top; change = h.change })
    by false false false true = then_given (λ (b : Bool). Any b) AreFields (bool_in t) _ (any_given (bool_in t))
        (λ b u. record { top = h.top; change = h.change })
    by false false false false = tt

fields_given : (ps : Pairs) (f : UpdateStatementFields) → AreFields f → IsPairs ps → IfGiven AreFields (read_fields statement_field f ps)
fields_given no_pairs f h k = h
fields_given (pair name t ps) f h k =
    then_given AreFields AreFields (statement_field f name t) (λ next. read_fields statement_field next ps) (field_given f name t h k.1)
    (λ next l. fields_given ps next l k.3)

statement_given : (ps : Pairs) → IsPairs ps → IfGiven IsGood (read_statement ps)
statement_given ps h =
    then_given AreFields IsGood (read_fields statement_field no_statement_fields ps) _
    (fields_given ps no_statement_fields (record { top = tt; change = tt }) h)
    (λ found k. then_given AreTop IsGood (or_refused found.filter refusals.FailedToParse) _ (some_given AreTop found.filter refusals.FailedToParse k.top)
    (λ rules are. then_given IsReadChange IsGood (or_refused found.change refusals.FailedToParse) _
    (some_given IsReadChange found.change refusals.FailedToParse k.change)
    (λ change is. unless_given IsGood (is_replacement change && found.multi) refusals.FailedToParse
    (Ok (record { filter = rules; change = change; upsert = found.upsert; multi = found.multi }))
    (record { read = is.read; change = is.change; top = are }))))

-- ---- a command

abbrev AreGood : List UpdateStatement → Type 0
AreGood [] = Unit {0}
AreGood (s ∷ ss) = IsGood s × AreGood ss

each_given : (ts : Items) → IsItems ts → IfGiven AreGood (each_of (spelled_in read_statement) ts)
each_given no_items h = tt
each_given (item t ts) h =
    then_given IsGood AreGood (spelled_in read_statement t) _ (document_given IsGood read_statement statement_given t h.0)
    (λ s is. then_given AreGood AreGood (each_of (spelled_in read_statement) ts) _ (each_given ts h.1) (λ ss are. (is, are)))

items_given : (t : Tree) → IsTree t → IfGiven IsItems (statements_in t)
items_given t h = then_given IsItems IsItems (or_refused (items_of t) refusals.TypeMismatch) _
    (some_given IsItems (items_of t) refusals.TypeMismatch (there t h))
    (λ ts k. unless_given IsItems (nat_lt 1000 (items_len ts)) refusals.TooMany (unless (items_len ts == 0) refusals.BadValue (Ok ts))
    (unless_given IsItems (items_len ts == 0) refusals.BadValue (Ok ts) k))
  where
    there : (u : Tree) → IsTree u → IfSomeOf IsItems (items_of u)
    there (array ts) k = k
    there (document ps) k = tt
    there (scalar s) k = tt

statements_given : (t : Tree) → IsTree t → IfGiven AreGood (update_statements_in t)
statements_given t h = then_given IsItems AreGood (statements_in t) (λ ts. each_of (spelled_in read_statement) ts) (items_given t h) (λ ts k. each_given ts k)

abbrev HasGood : UpdateFields → Type 0
HasGood f = IfSomeOf AreGood f.statements

update_field_given : (f : UpdateFields) (name : List ℕ) (t : Tree) → HasGood f → IsTree t → IfGiven HasGood (update_field f name t)
update_field_given f name t h k = by (bytes_eq name (codes "updates"))
  where
    by : (b : Bool) → IfGiven HasGood (if b then (update_statements_in t >>= (λ statements. Ok (record f { statements = Some statements })))
        else (common_field f.common name t >>= (λ common. Ok (record f { common = common }))))
    by true = then_given AreGood HasGood (update_statements_in t) _ (statements_given t k) (λ ss are. are)
    by false = then_given (λ (c : CommonFields). Any c) HasGood (common_field f.common name t) _ (any_given (common_field f.common name t)) (λ c u. h)

update_fields_given : (ps : Pairs) (f : UpdateFields) → HasGood f → IsPairs ps → IfGiven HasGood (read_fields update_field f ps)
update_fields_given no_pairs f h k = h
update_fields_given (pair name t ps) f h k =
    then_given HasGood HasGood (update_field f name t) (λ next. read_fields update_field next ps) (update_field_given f name t h k.1)
    (λ next l. update_fields_given ps next l k.3)

abbrev IsGoodUpdate : Update → Type 0
IsGoodUpdate c = AreGood c.statements

command_given : (t : Tree) (ps : Pairs) → IsPairs ps → IfGiven IsGoodUpdate (read_update_command t ps)
command_given t ps h =
    then_given (λ (s : List ℕ). Any s) IsGoodUpdate (text_in t) _ (any_given (text_in t))
    (λ name u. then_given HasGood IsGoodUpdate (read_fields update_field no_update_fields ps) _ (update_fields_given ps no_update_fields tt h)
    (λ found k. then_given (λ (s : List ℕ). Any s) IsGoodUpdate (or_refused found.common.database refusals.FailedToParse) _
    (any_given (or_refused found.common.database refusals.FailedToParse))
    (λ database v. then_given AreGood IsGoodUpdate (or_refused found.statements refusals.FailedToParse) _
    (some_given AreGood found.statements refusals.FailedToParse k)
    (λ ss are. then_given (λ (s : List ℕ). Any s) IsGoodUpdate (namespace_of database name) _ (any_given (namespace_of database name)) (λ namespace w. are)))))

abbrev IsGoodCommand : Command → Type 0
IsGoodCommand (update c) = IsGoodUpdate c
IsGoodCommand other = Unit {0}

other_given : {X : Type 0} (make : X → Command) (read : Result X Refusal) → ((x : X) → IsGoodCommand (make x)) → IfGiven IsGoodCommand (as_command make read)
other_given {X} make read good = then_given (λ (x : X). Any x) IsGoodCommand read (λ x. Ok (make x)) (any_given read) (λ x u. good x)

chosen : (b : Bool) (one later : Result Command Refusal) → IfGiven IsGoodCommand one → IfGiven IsGoodCommand later
    → IfGiven IsGoodCommand (if b then one else later)
chosen true one later first second = first
chosen false one later first second = second

body_given : (body : Pairs) → IsPairs body → IfGiven IsGoodCommand (command_of body)
unfolding command_of
body_given no_pairs h = tt
body_given (pair name t ps) h =
    chosen (bytes_eq name (codes "ping")) _ _ (other_given (λ _. ping) _ (λ x. tt))
    (chosen (bytes_eq name (codes "hello")) _ _ (other_given (λ _. hello) _ (λ x. tt))
    (chosen (bytes_eq name (codes "insert")) _ _ (other_given insert _ (λ x. tt))
    (chosen (bytes_eq name (codes "find")) _ _ (other_given find _ (λ x. tt))
    (chosen (bytes_eq name (codes "getMore")) _ _ (other_given get_more _ (λ x. tt))
    (chosen (bytes_eq name (codes "killCursors")) _ _ (other_given kill_cursors _ (λ x. tt))
    (chosen (bytes_eq name (codes "count")) _ _ (other_given count _ (λ x. tt))
    (chosen (bytes_eq name (codes "delete")) _ _ (other_given delete _ (λ x. tt))
    (chosen (bytes_eq name (codes "update")) _ _
    (then_given IsGoodUpdate IsGoodCommand (read_update_command t ps) (λ x. Ok (update x)) (command_given t ps h.3) (λ x k. k))
    (chosen (bytes_eq name (codes "aggregate")) _ _ (other_given aggregate _ (λ x. tt))
    (chosen (bytes_eq name (codes "create")) _ _ (other_given create _ (λ x. tt))
    (chosen (bytes_eq name (codes "drop")) _ _ (other_given drop_of _ (λ x. tt))
    (chosen (bytes_eq name (codes "listCollections")) _ _ (other_given list_collections _ (λ x. tt))
    (chosen (bytes_eq name (codes "createIndexes")) _ _ (other_given create_indexes _ (λ x. tt))
    (chosen (bytes_eq name (codes "dropIndexes")) _ _ (other_given drop_indexes _ (λ x. tt))
    (chosen (bytes_eq name (codes "listIndexes")) _ _ (other_given list_indexes _ (λ x. tt))
    (chosen (bytes_eq name (codes "explain")) _ _ (other_given explain _ (λ x. tt))
    tt))))))))))))))))

all_make : (ss : List UpdateStatement) → AreGood ss → All MakesDocuments ss
all_make [] h = λ k d below. absurd (omega (arith, below))
all_make (s ∷ ss) h = All-cons MakesDocuments s ss (makes_documents s h.0) (all_make ss h.1)

all_read : (ss : List UpdateStatement) → AreGood ss → All (λ (s : UpdateStatement). IsRead s.change) ss
all_read [] h = λ k d below. absurd (omega (arith, below))
all_read (s ∷ ss) h = All-cons (λ (x : UpdateStatement). IsRead x.change) s ss h.0.read (all_read ss h.1)

-- What is known of the statements of an update that was read.
pub record AreSpelled (ss : List UpdateStatement) : Type 0 where
  pub read : All (λ (s : UpdateStatement). IsRead s.change) ss
  pub make : All MakesDocuments ss

pub are_spelled : (body : Pairs) (c : Update) → IsDocument body → command_of body ≡ Ok (update c) → AreSpelled c.statements
are_spelled body c h e =
    let good : IsGoodUpdate c = it_is IsGoodCommand (command_of body) (update c) (body_given body h.lawful) e in
    record { read = all_read c.statements good; make = all_make c.statements good }
