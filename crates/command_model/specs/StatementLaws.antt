-- A statement that was read has a namespace and documents within their limits.
use Rattle.std.proofs.Common.{◌≡◌, ℕ, ◌+◌, ◌≤◌, Bool, true, false, List, [], ◌∷◌, ◌++◌, length}
use Rattle.std.proofs.Common.{Option, Some, None, Result, Ok, Err, refl, ap, subst, arith}
use Rattle.std.proofs.Common.{length-append}
use Rattle.std.specs.Prelude.{◌||◌, ◌&&◌, All, ◌==◌, nat_lt, if◌then◌else◌, codes}
use Rattle.std.specs.Str.{bytes_eq}
use Rattle.std.proofs.lemmas.Bool.{ltb-false, eqb-false}
use Rattle.filter.specs.Condition.{Conditions}
use Rattle.filter.specs.Parsing.{read_filter}
use Rattle.update_model.specs.Update.{is_replacement}
use Rattle.update_model.specs.Parsing.{read_update}
use Rattle.bson.specs.Tree.{Tree, Pairs, no_pairs, pair, Items, no_items, item}
use Rattle.bson.specs.Edits.{items_len}
use Rattle.outcome.specs.Outcome.{◌>>=◌, unless, or_refused}
use Rattle.path.specs.declared.refusal.Refusal.{Refusal}
use Rattle.path.specs.declared.refusal.Refusal.TheVariants as refusals
use Rattle.command_model.specs.OutcomeLaws.{step_of, passed}
use Rattle.command_model.specs.FieldsLaws.{each_has, fields_keep, later_false, there}
use Rattle.command_model.specs.Values.{bool_in, items_of, document_in, spelled_in}
use Rattle.command_model.specs.Fields.{CommonFields, read_fields, common_field}
use Rattle.command_model.specs.Statements.{statements_in, each_of}
use Rattle.command_model.specs.Names.{is_bad_database, is_bad_collection, is_too_long}
use Rattle.command_model.specs.Names.{namespace_of}
use Rattle.command_model.specs.Insert.{InsertFields, documents_in}
use Rattle.command_model.specs.Insert.{insert_field}
use Rattle.command_model.specs.Update.{UpdateStatement, UpdateStatementFields, no_statement_fields}
use Rattle.command_model.specs.Update.{statement_field, read_statement, UpdateFields}
use Rattle.command_model.specs.Update.{update_statements_in}
use Rattle.command_model.specs.Update.{IsRead}
use Rattle.command_model.specs.Command.{update}
use Rattle.update_model.specs.Update.{Update as Change}

pub short : (database name namespace : List ℕ) → namespace_of database name ≡ Ok namespace
    → length namespace ≤ 255
short database name namespace e =
    let p = passed
    (is_bad_database database || is_bad_collection name
    || is_too_long database name) refusals.InvalidNamespace
    (Ok (database ++ 46 ∷ name)) namespace e in
    let few = ltb-false 255 (length database + 1 + length name)
    (later_false (is_bad_database database || is_bad_collection name)
    (is_too_long database name) p.0) in
    let same : database ++ 46 ∷ name ≡ namespace = cc in
    omega (arith, few, length-append database (46 ∷ name), ap length same)

-- ---- documents

pub as_many : {X : Type 0} (read : Tree → Result X Refusal) (ts : Items) (xs : List X)
    → each_of read ts ≡ Ok xs → length xs ≡ items_len ts
as_many read no_items xs e = let none : xs ≡ [] = cc in ap length none
as_many {X} read (item t ts) xs e =
    let s = step_of (read t)
    (λ x. each_of read ts >>= (λ others. let r : Result (List X) Refusal = Ok (x ∷ others) in r))
    xs e in
    let more : List X → Result (List X) Refusal = λ others. Ok (s.0 ∷ others) in
    let o = step_of (each_of read ts) more xs s.2 in
    let same : s.0 ∷ o.0 ≡ xs = cc in
    omega (arith, as_many read ts o.0 o.1, ap length same)

pub few_items : (t : Tree) (ts : Items) → statements_in t ≡ Ok ts
    → (items_len ts ≤ 1000) × (1 ≤ items_len ts)
few_items t ts e =
    let s = step_of (or_refused (items_of t) refusals.TypeMismatch)
    (λ us. unless (nat_lt 1000 (items_len us)) refusals.TooMany
    (unless (items_len us == 0) refusals.BadValue (Ok us))) ts e in
    let p = passed (nat_lt 1000 (items_len s.0)) refusals.TooMany
    (unless (items_len s.0 == 0) refusals.BadValue (Ok s.0)) ts s.2 in
    let q = passed (items_len s.0 == 0) refusals.BadValue (Ok s.0) ts p.1 in
    let same : s.0 ≡ ts = cc in (
      omega (arith, ap items_len same, ltb-false 1000 (items_len s.0) p.0),
      omega (arith, ap items_len same, eqb-false (items_len s.0) 0 q.0),
    )

-- some documents, and not too many
abbrev pub AreFew : List Pairs → Type 0
AreFew ds = (length ds ≤ 1000) × (1 ≤ length ds)

pub few : (t : Tree) (ds : List Pairs) → documents_in t ≡ Ok ds → AreFew ds
few t ds e =
    let s = step_of (statements_in t) (each_of document_in) ds e in
    let items = few_items t s.0 s.1 in (
      omega (arith, as_many document_in s.0 ds s.2, items.0),
      omega (arith, as_many document_in s.0 ds s.2, items.1),
    )

abbrev pub FewAt : Option (List Pairs) → Type 0
FewAt None = Unit {0}
FewAt (Some ds) = AreFew ds

few_field : (found next : InsertFields) (name : List ℕ) (t : Tree) → FewAt found.documents
    → insert_field found name t ≡ Ok next → FewAt next.documents
few_field found next name t h e = at (bytes_eq name (codes "documents")) e
  where
    put : (r : Result (List Pairs) Refusal) → documents_in t ≡ r
        → (r >>= (λ ds. let x : Result InsertFields Refusal =
        Ok (record found { documents = Some ds }) in x)) ≡ Ok next → FewAt next.documents
    put (Err f) is e = absurd cc
    put (Ok ds) is e = let same : record found { documents = Some ds } ≡ next = cc in
        subst (λ (f : InsertFields). FewAt f.documents) same (few t ds is)

    keep : (r : Result CommonFields Refusal)
        → (r >>= (λ c. let x : Result InsertFields Refusal = Ok (record found { common = c }) in
        x)) ≡ Ok next → FewAt next.documents
    keep (Err f) e = absurd cc
    keep (Ok c) e = let same : record found { common = c } ≡ next = cc in
        subst (λ (f : InsertFields). FewAt f.documents) same h

    at : (b : Bool)
        → (if b then
        (documents_in t >>= (λ ds. let x : Result InsertFields Refusal =
        Ok (record found { documents = Some ds }) in x))
        else (common_field found.common name t >>=
        (λ c. let x : Result InsertFields Refusal = Ok (record found { common = c }) in x)))
        ≡ Ok next → FewAt next.documents
    at true e = put (documents_in t) refl e
    at false e = keep (common_field found.common name t) e

pub few_fields : (ps : Pairs) (found next : InsertFields) → FewAt found.documents
    → read_fields insert_field found ps ≡ Ok next → FewAt next.documents
few_fields no_pairs found next h e = let same : found ≡ next = cc in
    subst (λ (f : InsertFields). FewAt f.documents) same h
few_fields (pair name t ps) found next h e =
    let s = step_of (insert_field found name t) (λ mid. read_fields insert_field mid ps) next e in
    few_fields ps s.0 next (few_field found s.0 name t h s.1) s.2

pub few_there : (o : Option (List Pairs)) (ds : List Pairs) → FewAt o
    → or_refused o refusals.FailedToParse ≡ Ok ds → AreFew ds
few_there None ds h e = absurd cc
few_there (Some es) ds h e = let same : es ≡ ds = cc in subst AreFew same h

-- ---- updates

abbrev pub ReadAt : Option Change → Type 0
ReadAt None = Unit {0}
ReadAt (Some u) = IsRead u

module _ (found next : UpdateStatementFields) (t : Tree) (h : ReadAt found.change) where
  abbrev with_filter : Conditions → Result UpdateStatementFields Refusal
  with_filter rules = Ok (record found { filter = Some rules })

  abbrev with_change : Change → Result UpdateStatementFields Refusal
  with_change change = Ok (record found { change = Some change })

  abbrev with_upsert : Bool → Result UpdateStatementFields Refusal
  with_upsert upsert = Ok (record found { upsert = upsert })

  abbrev with_multi : Bool → Result UpdateStatementFields Refusal
  with_multi multi = Ok (record found { multi = multi })

  read_by_field : (is_q is_u is_upsert is_multi : Bool)
      → (if is_q then (spelled_in read_filter t >>= with_filter)
      else (if is_u then (spelled_in read_update t >>= with_change)
      else (if is_upsert then (bool_in t >>= with_upsert)
      else (if is_multi then (bool_in t >>= with_multi) else Err refusals.FailedToParse))))
      ≡ Ok next
      → ReadAt next.change
  read_by_field true is_u is_upsert is_multi e =
      let s = step_of (spelled_in read_filter t) with_filter next e in
      let same : record found { filter = Some s.0 } ≡ next = cc in
      subst (λ (f : UpdateStatementFields). ReadAt f.change) same h
  read_by_field false true is_upsert is_multi e =
      let s = step_of (spelled_in read_update t) with_change next e in
      let d = step_of (document_in t) read_update s.0 s.1 in
      let same : record found { change = Some s.0 } ≡ next = cc in
      subst (λ (f : UpdateStatementFields). ReadAt f.change) same
      (record { source = d.0; reads = d.2 })
  read_by_field false false true is_multi e =
      let s = step_of (bool_in t) with_upsert next e in
      let same : record found { upsert = s.0 } ≡ next = cc in
      subst (λ (f : UpdateStatementFields). ReadAt f.change) same h
  read_by_field false false false true e =
      let s = step_of (bool_in t) with_multi next e in
      let same : record found { multi = s.0 } ≡ next = cc in
      subst (λ (f : UpdateStatementFields). ReadAt f.change) same h
  read_by_field false false false false e = absurd cc

statement_read : (ps : Pairs) (s : UpdateStatement) → read_statement ps ≡ Ok s → IsRead s.change
statement_read ps s e =
    let f = step_of (read_fields statement_field no_statement_fields ps) _ s e in
    let q = step_of (or_refused f.0.filter refusals.FailedToParse) _ s f.2 in
    let u = step_of (or_refused f.0.change refusals.FailedToParse) _ s q.2 in
    let made : UpdateStatement = record
    { filter = q.0; change = u.0; upsert = f.0.upsert; multi = f.0.multi } in
    let p = passed (is_replacement u.0 && f.0.multi) refusals.FailedToParse (Ok made) s u.2 in
    let same : made ≡ s = cc in
    let read = fields_keep (λ f. ReadAt f.change) statement_field
    (λ found next name t h e. read_by_field found next t h (bytes_eq name (codes "q"))
    (bytes_eq name (codes "u")) (bytes_eq name (codes "upsert")) (bytes_eq name (codes "multi")) e)
    ps no_statement_fields f.0 tt f.1 in
    subst (λ (x : UpdateStatement). IsRead x.change) same
    (subst ReadAt (there f.0.change u.0 u.1) read)

-- some statements, not too many, each with an update that was read
pub record AreRead (ss : List UpdateStatement) : Type 0 where
  pub few : length ss ≤ 1000
  pub each : All (λ (s : UpdateStatement). IsRead s.change) ss

are_read : (t : Tree) (ss : List UpdateStatement) → update_statements_in t ≡ Ok ss → AreRead ss
are_read t ss e =
    let s = step_of (statements_in t) (each_of (spelled_in read_statement)) ss e in
    let items = few_items t s.0 s.1 in
    record {
      few = omega (arith, as_many (spelled_in read_statement) s.0 ss s.2, items.0);
      each = each_has (λ (s : UpdateStatement). IsRead s.change) (spelled_in read_statement)
          (λ t s e. let d = step_of (document_in t) read_statement s e in
          statement_read d.0 s d.2) s.0 ss s.2;
    }

abbrev pub ReadsAt : Option (List UpdateStatement) → Type 0
ReadsAt None = Unit {0}
ReadsAt (Some ss) = AreRead ss

module _ (found next : UpdateFields) (name : List ℕ) (t : Tree) (h : ReadsAt found.statements) where
  abbrev with_statements : List UpdateStatement → Result UpdateFields Refusal
  with_statements statements = Ok (record found { statements = Some statements })

  abbrev with_common : CommonFields → Result UpdateFields Refusal
  with_common common = Ok (record found { common = common })

  pub reads_by_field : (b : Bool)
      → (if b then (update_statements_in t >>= with_statements)
      else (common_field found.common name t >>= with_common)) ≡ Ok next → ReadsAt next.statements
  reads_by_field true e =
      let s = step_of (update_statements_in t) with_statements next e in
      let same : record found { statements = Some s.0 } ≡ next = cc in
      subst (λ (f : UpdateFields). ReadsAt f.statements) same (are_read t s.0 s.1)
  reads_by_field false e =
      let s = step_of (common_field found.common name t) with_common next e in
      let same : record found { common = s.0 } ≡ next = cc in
      subst (λ (f : UpdateFields). ReadsAt f.statements) same h
