-- How many bytes of a message spell the statements of an update.
use Rattle.std.proofs.Common.{◌≡◌, ℕ, ◌+◌, ◌≤◌, Bool, true, false, List, [], ◌∷◌, length, Option, Some, None, Result, Ok, Err, refl, ap, ◌∙◌, arith}
use Rattle.std.specs.Prelude.{if◌then◌else◌, ◌&&◌, ◌==◌, nat_lt, codes}
use Rattle.std.specs.Str.{bytes_eq}
use Rattle.std.proofs.lemmas.List.{length-append}
use Rattle.std.proofs.lemmas.Slice.Eq.{bytes_eq-Decides}
use Rattle.bson.specs.Tree.{Tree, scalar, text, boolean, document, array, Pairs, no_pairs, pair, Items, no_items, item}
use Rattle.bson.specs.Edits.{items_len}
use Rattle.bson.specs.SizingLaws.{frame_of-length, pairs_size-pair}
use Rattle.bson.specs.Spelling.{tree_bytes, pairs_bytes}
use Rattle.outcome.specs.Outcome.{◌>>=◌, unless, or_refused}
use Rattle.path.specs.declared.refusal.Refusal.{Refusal}
use Rattle.path.specs.declared.refusal.Refusal.TheVariants as refusals
use Rattle.filter.specs.Condition.{Conditions}
use Rattle.filter.specs.Parsing.{read_filter}
use Rattle.update_model.specs.Parsing.{read_update}
use Rattle.update_model.specs.Update.{Update as Change, is_replacement}
use Rattle.command_model.specs.Fields.{CommonFields, read_fields, common_field}
use Rattle.command_model.specs.FieldsLaws.{there}
use Rattle.command_model.specs.Names.{namespace_of}
use Rattle.command_model.specs.OutcomeLaws.{step_of, passed}
use Rattle.command_model.specs.Statements.{statements_in, each_of}
use Rattle.command_model.specs.Update.{UpdateStatement, Update, UpdateStatementFields, no_statement_fields, statement_field, read_statement, UpdateFields}
use Rattle.command_model.specs.Update.{no_update_fields}
use Rattle.command_model.specs.Update.{update_statements_in, update_field, read_update_command}
use Rattle.command_model.specs.Values.{bool_in, document_in, spelled_in, text_in}
use Rattle.statements.specs.Room.{values_size, field_size, fields_size}
use Rattle.statements.proofs.IdSizes.{filter_size, filter_spelled, change_size, change_spelled}

-- ---- values

document_size : (t : Tree) (ps : Pairs) → document_in t ≡ Ok ps → length (tree_bytes t) ≡ length (pairs_bytes ps) + 5
unfolding tree_bytes
document_size (document qs) ps e = let same : qs ≡ ps = cc in frame_of-length (pairs_bytes qs) ∙ ap (λ (x : Pairs). length (pairs_bytes x) + 5) same
document_size (scalar s) ps e = absurd cc
document_size (array ts) ps e = absurd cc

flag_spelled : (t : Tree) (b : Bool) → bool_in t ≡ Ok b → length (tree_bytes t) ≡ 1
unfolding tree_bytes
flag_spelled (scalar (boolean b)) c e = refl
flag_spelled t c e = absurd cc

text_size : (t : Tree) (s : List ℕ) → text_in t ≡ Ok s → 5 ≤ length (tree_bytes t)
unfolding tree_bytes
text_size (scalar (text s)) u e = omega (arith, length-append s (0 ∷ []))
text_size t u e = absurd cc

-- a text is no array
text_field : (name : List ℕ) (t : Tree) (s : List ℕ) → text_in t ≡ Ok s → field_size name t ≡ length name + length (tree_bytes t) + 2
text_field name (scalar (text s)) u e = refl
text_field name t u e = absurd cc

named : (name : List ℕ) (other : List ℕ) → bytes_eq name other ≡ true → length name ≡ length other
named name other is = ap length ((bytes_eq-Decides name other).0 is)

-- ---- fields one after the other

-- what each field adds at most, all add together
all_add : {F : Type 0} (cost : F → ℕ) (size : List ℕ → Tree → ℕ) (total : Pairs → ℕ) (read : F → List ℕ → Tree → Result F Refusal)
    → ((name : List ℕ) (t : Tree) (ps : Pairs) → total (pair name t ps) ≡ size name t + total ps)
    → ((found next : F) (name : List ℕ) (t : Tree) → read found name t ≡ Ok next → cost next ≤ cost found + size name t)
    → (ps : Pairs) (found last : F) → read_fields read found ps ≡ Ok last → cost last ≤ cost found + total ps
all_add cost size total read sums one no_pairs found last e = let same : found ≡ last = cc in omega (arith, ap cost same)
all_add cost size total read sums one (pair name t ps) found last e =
    let s = step_of (read found name t) (λ mid. read_fields read mid ps) last e in
    omega (arith, one found s.0 name t s.1, all_add cost size total read sums one ps s.0 last s.2, sums name t ps)

-- ---- a statement

abbrev pub flag_size : Bool → ℕ
flag_size true = 9
flag_size false = 0

-- what the filter, the change and the wish to make a document take with their names
abbrev pub statement_size : UpdateStatement → ℕ
statement_size s = filter_size s.filter + change_size s.change + flag_size s.upsert + 16

abbrev filter_part : Option Conditions → ℕ
filter_part None = 0
filter_part (Some rules) = filter_size rules + 8

abbrev change_part : Option Change → ℕ
change_part None = 0
change_part (Some change) = change_size change + 8

abbrev so_far : UpdateStatementFields → ℕ
so_far found = filter_part found.filter + change_part found.change + flag_size found.upsert

abbrev one_size : List ℕ → Tree → ℕ
one_size name t = length name + length (tree_bytes t) + 2

module _ (found next : UpdateStatementFields) (name : List ℕ) (t : Tree) where
  abbrev Adds : Type 0
  Adds = so_far next ≤ so_far found + one_size name t

  filter_adds : (rules : Conditions) → bytes_eq name (codes "q") ≡ true → spelled_in read_filter t ≡ Ok rules
      → record found { filter = Some rules } ≡ next → Adds
  filter_adds rules is e same =
      let d = step_of (document_in t) read_filter rules e in
      omega (arith, named name (codes "q") is, document_size t d.0 d.1, filter_spelled d.0 rules d.2, ap so_far same)

  change_adds : (change : Change) → bytes_eq name (codes "u") ≡ true → spelled_in read_update t ≡ Ok change
      → record found { change = Some change } ≡ next → Adds
  change_adds change is e same =
      let d = step_of (document_in t) read_update change e in
      omega (arith, named name (codes "u") is, document_size t d.0 d.1, change_spelled d.0 change d.2, ap so_far same)

  flag_adds : (b : Bool) → bytes_eq name (codes "upsert") ≡ true → bool_in t ≡ Ok b → record found { upsert = b } ≡ next → Adds
  flag_adds true is e same = omega (arith, named name (codes "upsert") is, flag_spelled t true e, ap so_far same)
  flag_adds false is e same = omega (arith, ap so_far same)

  abbrev with_filter : Conditions → Result UpdateStatementFields Refusal
  with_filter rules = Ok (record found { filter = Some rules })

  abbrev with_change : Change → Result UpdateStatementFields Refusal
  with_change change = Ok (record found { change = Some change })

  abbrev with_upsert : Bool → Result UpdateStatementFields Refusal
  with_upsert upsert = Ok (record found { upsert = upsert })

  abbrev with_multi : Bool → Result UpdateStatementFields Refusal
  with_multi multi = Ok (record found { multi = multi })

  field_adds : (is_q is_u is_upsert is_multi : Bool) → bytes_eq name (codes "q") ≡ is_q → bytes_eq name (codes "u") ≡ is_u
      → bytes_eq name (codes "upsert") ≡ is_upsert
      → (if is_q then (spelled_in read_filter t >>= with_filter)
      else (if is_u then (spelled_in read_update t >>= with_change)
      else (if is_upsert then (bool_in t >>= with_upsert)
      else (if is_multi then (bool_in t >>= with_multi) else Err refusals.FailedToParse)))) ≡ Ok next
      → Adds
  field_adds true is_u is_upsert is_multi q u f e =
      let s = step_of (spelled_in read_filter t) with_filter next e in
      filter_adds s.0 q s.1 (let same : record found { filter = Some s.0 } ≡ next = cc in same)
  field_adds false true is_upsert is_multi q u f e =
      let s = step_of (spelled_in read_update t) with_change next e in
      change_adds s.0 u s.1 (let same : record found { change = Some s.0 } ≡ next = cc in same)
  field_adds false false true is_multi q u f e =
      let s = step_of (bool_in t) with_upsert next e in
      flag_adds s.0 f s.1 (let same : record found { upsert = s.0 } ≡ next = cc in same)
  field_adds false false false true q u f e =
      let s = step_of (bool_in t) with_multi next e in
      let same : record found { multi = s.0 } ≡ next = cc in
      omega (arith, ap so_far same)
  field_adds false false false false q u f e = absurd cc

statement_spelled : (ps : Pairs) (s : UpdateStatement) → read_statement ps ≡ Ok s → statement_size s ≤ length (pairs_bytes ps)
statement_spelled ps s e =
    let f = step_of (read_fields statement_field no_statement_fields ps) _ s e in
    let q = step_of (or_refused f.0.filter refusals.FailedToParse) _ s f.2 in
    let u = step_of (or_refused f.0.change refusals.FailedToParse) _ s q.2 in
    let made : UpdateStatement = record { filter = q.0; change = u.0; upsert = f.0.upsert; multi = f.0.multi } in
    let p = passed (is_replacement u.0 && f.0.multi) refusals.FailedToParse (Ok made) s u.2 in
    let same : made ≡ s = cc in
    let all = all_add so_far one_size (λ (x : Pairs). length (pairs_bytes x)) statement_field (λ name t ps. pairs_size-pair name t ps)
    (λ found next name t e. field_adds found next name t (bytes_eq name (codes "q")) (bytes_eq name (codes "u")) (bytes_eq name (codes "upsert"))
    (bytes_eq name (codes "multi")) refl refl refl e) ps no_statement_fields f.0 f.1 in
    omega (
      arith,
      all,
      ap filter_part (there f.0.filter q.0 q.1),
      ap change_part (there f.0.change u.0 u.1),
      ap statement_size same,
    )

-- ---- the statements of a command

abbrev pub statements_size : List UpdateStatement → ℕ
statements_size [] = 0
statements_size (s ∷ ss) = statement_size s + 5 + statements_size ss

each_spelled : (ts : Items) (ss : List UpdateStatement) → each_of (spelled_in read_statement) ts ≡ Ok ss → statements_size ss ≤ values_size ts
each_spelled no_items ss e = let none : [] ≡ ss = cc in omega (arith, ap statements_size none)
each_spelled (item t ts) ss e =
    let s = step_of (spelled_in read_statement t)
    (λ x. each_of (spelled_in read_statement) ts >>= (λ others. let r : Result (List UpdateStatement) Refusal = Ok (x ∷ others) in r)) ss e in
    let more : List UpdateStatement → Result (List UpdateStatement) Refusal = λ others. Ok (s.0 ∷ others) in
    let o = step_of (each_of (spelled_in read_statement) ts) more ss s.2 in
    let same : s.0 ∷ o.0 ≡ ss = cc in
    let d = step_of (document_in t) read_statement s.0 s.1 in
    omega (arith, document_size t d.0 d.1, statement_spelled d.0 s.0 d.2, each_spelled ts o.0 o.1, ap statements_size same)

items_size : (t : Tree) (ts : Items) (name : List ℕ) → statements_in t ≡ Ok ts → field_size name t ≡ length name + values_size ts + 6
items_size (array us) ts name e =
    let p = passed (nat_lt 1000 (items_len us)) refusals.TooMany (unless (items_len us == 0) refusals.BadValue (Ok us)) ts e in
    let q = passed (items_len us == 0) refusals.BadValue (Ok us) ts p.1 in
    let same : us ≡ ts = cc in
    ap (λ (x : Items). length name + values_size x + 6) same
items_size (scalar s) ts name e = absurd cc
items_size (document ps) ts name e = absurd cc

abbrev statements_part : Option (List UpdateStatement) → ℕ
statements_part None = 0
statements_part (Some ss) = statements_size ss + 13

abbrev database_part : Option (List ℕ) → ℕ
database_part None = 0
database_part (Some name) = 10

abbrev command_part : UpdateFields → ℕ
command_part found = database_part found.common.database + statements_part found.statements

common_adds : (found next : CommonFields) (name : List ℕ) (t : Tree) → common_field found name t ≡ Ok next
    → database_part next.database ≤ database_part found.database + field_size name t
common_adds found next name t e = by (bytes_eq name (codes "$db")) (bytes_eq name (codes "comment")) refl e
  where
    by : (is_db is_comment : Bool) → bytes_eq name (codes "$db") ≡ is_db
        → (if is_db then (text_in t >>= (λ s. let r : Result CommonFields Refusal = Ok (record { database = Some s }) in r))
        else (if is_comment then Ok found else Err refusals.FailedToParse)) ≡ Ok next
        → database_part next.database ≤ database_part found.database + field_size name t
    by true is_comment is f =
        let s = step_of (text_in t) (λ s. let r : Result CommonFields Refusal = Ok (record { database = Some s }) in r) next f in
        let made : CommonFields = record { database = Some s.0 } in
        let same : made ≡ next = cc in
        omega (
          arith,
          ap (λ (x : CommonFields). database_part x.database) same,
          text_size t s.0 s.1,
          text_field name t s.0 s.1,
          named name (codes "$db") is,
        )
    by false true is f = let same : found ≡ next = cc in omega (arith, ap (λ (x : CommonFields). database_part x.database) same)
    by false false is f = absurd cc

module _ (found next : UpdateFields) (name : List ℕ) (t : Tree) where
  abbrev with_statements : List UpdateStatement → Result UpdateFields Refusal
  with_statements statements = Ok (record found { statements = Some statements })

  abbrev with_common : CommonFields → Result UpdateFields Refusal
  with_common common = Ok (record found { common = common })

  command_adds : (b : Bool) → bytes_eq name (codes "updates") ≡ b
      → (if b then (update_statements_in t >>= with_statements) else (common_field found.common name t >>= with_common)) ≡ Ok next
      → command_part next ≤ command_part found + field_size name t
  command_adds true is e =
      let s = step_of (update_statements_in t) with_statements next e in
      let same : record found { statements = Some s.0 } ≡ next = cc in
      let ts = step_of (statements_in t) (each_of (spelled_in read_statement)) s.0 s.1 in
      omega (
        arith,
        ap command_part same,
        items_size t ts.0 name ts.1,
        each_spelled ts.0 s.0 ts.2,
        named name (codes "updates") is,
      )
  command_adds false is e =
      let s = step_of (common_field found.common name t) with_common next e in
      let same : record found { common = s.0 } ≡ next = cc in
      omega (arith, ap command_part same, common_adds found.common s.0 name t s.1)

pub command_spelled : (t : Tree) (ps : Pairs) (c : Update) → read_update_command t ps ≡ Ok c
    → statements_size c.statements + 36 ≤ field_size (codes "update") t + fields_size ps
command_spelled t ps c e =
    let n = step_of (text_in t) _ c e in
    let s = step_of (read_fields update_field no_update_fields ps) _ c n.2 in
    let b = step_of (or_refused s.0.common.database refusals.FailedToParse) _ c s.2 in
    let d = step_of (or_refused s.0.statements refusals.FailedToParse) _ c b.2 in
    let m = step_of (namespace_of b.0 n.0) _ c d.2 in
    let made : Update = record { namespace = m.0; statements = d.0 } in
    let same : made ≡ c = cc in
    let all = all_add command_part field_size fields_size update_field (λ name t ps. refl)
    (λ found next name t e. command_adds found next name t (bytes_eq name (codes "updates")) refl e) ps no_update_fields s.0 s.1 in
    omega (
      arith,
      all,
      ap statements_part (there s.0.statements d.0 d.1),
      ap database_part (there s.0.common.database b.0 b.1),
      ap (λ (x : Update). statements_size x.statements) same,
      text_size t n.0 n.1,
      text_field (codes "update") t n.0 n.1,
    )
