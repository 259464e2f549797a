-- An upsert that waits for an object id makes no document by itself. So where it is done it found one, and does what the update does that it is
-- asked as first.
use Rattle.std.proofs.Common.{◌≡◌, ◌≢◌, ℕ, max, Bool, true, false, List, [], ◌∷◌, Option, Some, None, Result, Ok, Err}
use Rattle.std.proofs.Common.{refl, sym, ap, subst, ◌∙◌, arith}
use Rattle.std.specs.Prelude.{◌&&◌, codes, if◌then◌else◌, is_none}
use Rattle.std.specs.List.{join_with_byte}
use Rattle.std.specs.Str.{bytes_eq}
use Rattle.std.proofs.lemmas.List.Splits.{join_with_byte-slice_split}
use Rattle.std.proofs.lemmas.Slice.Eq.{bytes_eq-Decides}
use Rattle.bson.specs.Edits.{cut}
use Rattle.bson.specs.EditsLaws.{lookup-absent}
use Rattle.bson.specs.Lawful.{IsPairs, Lacks}
use Rattle.bson.specs.Lookup.{lookup}
use Rattle.bson.specs.Tree.{Tree, scalar, boolean, document, array, Pairs, no_pairs, pair}
use Rattle.filter.specs.Condition.{all, any, at, Condition, condition, Conditions, no_conditions, not_any}
use Rattle.filter.specs.IdPaths.{is_id}
use Rattle.filter.specs.Parsing.{has_operators, named_condition, or_refusal, path_in, read_filter, read_members, read_operand}
use Rattle.outcome.specs.Outcome.{◌>>=◌, fault_or, or_refused, unless}
use Rattle.path.specs.declared.fault.PathFault.{PathFault}
use Rattle.path.specs.declared.refusal.Refusal.{Refusal}
use Rattle.path.specs.declared.refusal.Refusal.TheVariants as refusals
use Rattle.path.specs.Edits.{if_ok}
use Rattle.path.specs.Parts.{parts_of, path_fault}
use Rattle.update_model.specs.Applying.{apply}
use Rattle.update_model.specs.Parsing.{read_operators as read_edits_of, read_update}
use Rattle.update_model.specs.Stored.{id_name}
use Rattle.update_model.specs.Update.{Edit, edits, is_replacement, replacement, Update as Change}
use Rattle.update_model.specs.Upserts.{base_of}
use Rattle.command_model.specs.Fields.{read_fields}
use Rattle.command_model.specs.OutcomeLaws.{passed, step_of}
use Rattle.command_model.specs.Update.{IsRead, no_statement_fields, read_statement, statement_field, UpdateStatement, UpdateStatementFields}
use Rattle.command_model.specs.Values.{bool_in, spelled_in}
use Rattle.database_model.specs.Update.{upsert_document}
use Rattle.driver_replies.specs.Writes.{has_no_id, is_open, is_true, is_upsert}
use Rattle.statements.proofs.IdSizes.{base_size, change_size, filter_size, id_size, made_size}
use Rattle.bulk_writes.proofs.OwnField.{other_names}
use Rattle.bulk_writes.proofs.Spelled.{Any, any_given, IfSomeOf, it_is, some_given, then_given, unless_given}
use Rattle.bulk_writes.proofs.Values.{given, IfGiven}

abbrev pub without_upsert : UpdateStatement → UpdateStatement
without_upsert s = record s { upsert = false }

-- ---- the statement without its field `upsert`

abbrev marked : Bool → UpdateStatementFields → UpdateStatementFields
marked u f = record f { upsert = u }

abbrev as_filter : UpdateStatementFields → Tree → Result UpdateStatementFields Refusal
as_filter f t = spelled_in read_filter t >>= (λ rules. Ok (record f { filter = Some rules }))

abbrev as_change : UpdateStatementFields → Tree → Result UpdateStatementFields Refusal
as_change f t = spelled_in read_update t >>= (λ change. Ok (record f { change = Some change }))

abbrev as_upsert : UpdateStatementFields → Tree → Result UpdateStatementFields Refusal
as_upsert f t = bool_in t >>= (λ upsert. Ok (record f { upsert = upsert }))

abbrev as_multi : UpdateStatementFields → Tree → Result UpdateStatementFields Refusal
as_multi f t = bool_in t >>= (λ multi. Ok (record f { multi = multi }))

abbrev as_field : Bool → Bool → Bool → Bool → UpdateStatementFields → Tree → Result UpdateStatementFields Refusal
as_field a b c d f t =
    if a then as_filter f t else if b then as_change f t else if c then as_upsert f t else if d then as_multi f t else Err refusals.FailedToParse

-- another field
field_marked : (u : Bool) (name : List ℕ) (t : Tree) (f h : UpdateStatementFields) → bytes_eq name (codes "upsert") ≡ false → statement_field f name t ≡ Ok h
    → statement_field (marked u f) name t ≡ Ok (marked u h)
field_marked u name t f h other e =
    ap (λ (c : Bool). as_field (bytes_eq name (codes "q")) (bytes_eq name (codes "u")) c (bytes_eq name (codes "multi")) (marked u f) t) other
    ∙ by (bytes_eq name (codes "q")) (bytes_eq name (codes "u")) (bytes_eq name (codes "multi"))
    (sym (ap (λ (c : Bool). as_field (bytes_eq name (codes "q")) (bytes_eq name (codes "u")) c (bytes_eq name (codes "multi")) f t) other) ∙ e)
  where
    by : (a b d : Bool) → as_field a b false d f t ≡ Ok h → as_field a b false d (marked u f) t ≡ Ok (marked u h)
    by true b d is =
        let s = step_of (spelled_in read_filter t) (λ rules. Ok (record f { filter = Some rules })) h is in
        let same : record f { filter = Some s.0 } ≡ h = cc in
        ap (λ (r : Result Conditions Refusal). r >>= (λ rules. Ok (record (marked u f) { filter = Some rules }))) s.1
        ∙ ap (λ (g : UpdateStatementFields). Ok (marked u g)) same
    by false true d is =
        let s = step_of (spelled_in read_update t) (λ change. Ok (record f { change = Some change })) h is in
        let same : record f { change = Some s.0 } ≡ h = cc in
        ap (λ (r : Result Change Refusal). r >>= (λ change. Ok (record (marked u f) { change = Some change }))) s.1
        ∙ ap (λ (g : UpdateStatementFields). Ok (marked u g)) same
    by false false true is =
        let s = step_of (bool_in t) (λ multi. Ok (record f { multi = multi })) h is in
        let same : record f { multi = s.0 } ≡ h = cc in
        ap (λ (r : Result Bool Refusal). r >>= (λ multi. Ok (record (marked u f) { multi = multi }))) s.1
        ∙ ap (λ (g : UpdateStatementFields). Ok (marked u g)) same
    by false false false is = absurd cc

abbrev reads : UpdateStatementFields → Pairs → Result UpdateStatementFields Refusal
reads f ps = read_fields statement_field f ps

lacking : (u : Bool) (ps : Pairs) (f found : UpdateStatementFields) → Lacks ps (codes "upsert") → reads f ps ≡ Ok found
    → reads (marked u f) ps ≡ Ok (marked u found)
lacking u no_pairs f found lacks e = let same : f ≡ found = cc in ap (λ (g : UpdateStatementFields). Ok (marked u g)) same
lacking u (pair name t ps) f found lacks e =
    let s = step_of (statement_field f name t) (λ g. reads g ps) found e in
    ap (λ (r : Result UpdateStatementFields Refusal). r >>= (λ g. reads g ps))
    (field_marked u name t f s.0 (other_names (codes "upsert") name lacks.0).1 s.1)
    ∙ lacking u ps s.0 found lacks.1 s.2

-- the field itself
upsert_given : (name : List ℕ) (t : Tree) (f : UpdateStatementFields) → bytes_eq name (codes "upsert") ≡ true → statement_field f name t ≡ as_upsert f t
upsert_given name t f same =
    ap (λ (n : List ℕ). statement_field f n t) ((bytes_eq-Decides name (codes "upsert")).0 same)

cutting : (u : Bool) (ps : Pairs) (f found : UpdateStatementFields) → IsPairs ps → reads f ps ≡ Ok found
    → reads (marked u f) (cut ps (codes "upsert")) ≡ Ok (marked u found)
cutting u no_pairs f found h e = let same : f ≡ found = cc in ap (λ (g : UpdateStatementFields). Ok (marked u g)) same
cutting u (pair name t ps) f found h e = at (bytes_eq name (codes "upsert")) refl (λ g k. cutting u ps g found h.3 k)
  where
    at : (b : Bool) → bytes_eq name (codes "upsert") ≡ b
        → ((g : UpdateStatementFields) → reads g ps ≡ Ok found → reads (marked u g) (cut ps (codes "upsert")) ≡ Ok (marked u found))
        → reads (marked u f) (cut (pair name t ps) (codes "upsert")) ≡ Ok (marked u found)
    at true same go =
        let named : name ≡ codes "upsert" = (bytes_eq-Decides name (codes "upsert")).0 same in
        let s = step_of (as_upsert f t) (λ g. reads g ps) found
        (sym (ap (λ (r : Result UpdateStatementFields Refusal). r >>= (λ g. reads g ps)) (upsert_given name t f same)) ∙ e) in
        let b = step_of (bool_in t) (λ upsert. Ok (record f { upsert = upsert })) s.0 s.1 in
        let it : marked b.0 f ≡ s.0 = cc in
        let gone : cut (pair name t ps) (codes "upsert") ≡ ps =
        ap (λ (c : Bool). if c then ps else pair name t (cut ps (codes "upsert"))) ((bytes_eq-Decides (codes "upsert") name).1 (sym named)) in
        ap (reads (marked u f)) gone ∙ ap (λ (g : UpdateStatementFields). reads (marked u g) ps) it
        ∙ lacking u ps s.0 found (subst (Lacks ps) named h.2) s.2
    at false other go =
        let s = step_of (statement_field f name t) (λ g. reads g ps) found e in
        let stays : cut (pair name t ps) (codes "upsert") ≡ pair name t (cut ps (codes "upsert")) =
        ap (λ (c : Bool). if c then ps else pair name t (cut ps (codes "upsert"))) (flip (bytes_eq (codes "upsert") name) refl) in
        ap (reads (marked u f)) stays
        ∙ ap (λ (r : Result UpdateStatementFields Refusal). r >>= (λ g. reads g (cut ps (codes "upsert")))) (field_marked u name t f s.0 other s.1)
        ∙ go s.0 s.2
      where
        flip : (c : Bool) → bytes_eq (codes "upsert") name ≡ c → c ≡ false
        flip true is =
            let never : true ≡ false = sym ((bytes_eq-Decides name (codes "upsert")).1 (sym ((bytes_eq-Decides (codes "upsert") name).0 is))) ∙ other in
            absurd cc
        flip false is = refl

-- what the fields make
abbrev statement_of : UpdateStatementFields → Result UpdateStatement Refusal
statement_of found =
    or_refused found.filter refusals.FailedToParse
    >>= (λ rules. or_refused found.change refusals.FailedToParse
    >>= (λ change. unless (is_replacement change && found.multi) refusals.FailedToParse
    (Ok (record { filter = rules; change = change; upsert = found.upsert; multi = found.multi }))))

abbrev made_of_fields : Bool → Bool → Conditions → Change → Result UpdateStatement Refusal
made_of_fields u m rules change =
    unless (is_replacement change && m) refusals.FailedToParse (Ok (record { filter = rules; change = change; upsert = u; multi = m }))

pub cut_reads : (ps : Pairs) (s : UpdateStatement) → IsPairs ps → read_statement ps ≡ Ok s → read_statement (cut ps (codes "upsert")) ≡ Ok (without_upsert s)
cut_reads ps s h e =
    let f = step_of (reads no_statement_fields ps) statement_of s e in
    let r = step_of (or_refused f.0.filter refusals.FailedToParse)
    (λ rules. or_refused f.0.change refusals.FailedToParse >>= made_of_fields f.0.upsert f.0.multi rules) s f.2 in
    let c = step_of (or_refused f.0.change refusals.FailedToParse) (made_of_fields f.0.upsert f.0.multi r.0) s r.2 in
    ap (λ (x : Result UpdateStatementFields Refusal). x >>= statement_of) (cutting false ps no_statement_fields f.0 h f.1)
    ∙ ap (λ (x : Result Conditions Refusal). x >>= (λ rules. or_refused f.0.change refusals.FailedToParse >>= made_of_fields false f.0.multi rules)) r.1
    ∙ ap (λ (x : Result Change Refusal). x >>= made_of_fields false f.0.multi r.0) c.1
    ∙ by r.0 c.0 f.0.upsert f.0.multi (is_replacement c.0 && f.0.multi) c.2
  where
    by : (rules : Conditions) (change : Change) (u m b : Bool)
        → unless b refusals.FailedToParse (Ok (record { filter = rules; change = change; upsert = u; multi = m })) ≡ Ok s
        → unless b refusals.FailedToParse (Ok (record { filter = rules; change = change; upsert = false; multi = m })) ≡ Ok (without_upsert s)
    by rules change u m true is = absurd cc
    by rules change u m false is =
        let same : ◌≡◌ {A = UpdateStatement} (record { filter = rules; change = change; upsert = u; multi = m }) s = cc in
        ap (λ (z : UpdateStatement). Ok (without_upsert z)) same

-- ---- it is an upsert

true_in : (t : Tree) → is_true (Some t) ≡ true → bool_in t ≡ Ok true
true_in (scalar (boolean true)) e = refl
true_in (scalar (boolean false)) e = absurd cc
true_in other e = absurd cc

upsert_read : (ps : Pairs) (f found : UpdateStatementFields) → IsPairs ps → is_true (lookup ps (codes "upsert")) ≡ true → reads f ps ≡ Ok found
    → found.upsert ≡ true
upsert_read no_pairs f found h asked e = absurd cc
upsert_read (pair name t ps) f found h asked e = at (bytes_eq (codes "upsert") name) refl asked (λ g l k. upsert_read ps g found h.3 l k)
  where
    at : (b : Bool) → bytes_eq (codes "upsert") name ≡ b → is_true (if b then Some t else lookup ps (codes "upsert")) ≡ true
        → ((g : UpdateStatementFields) → is_true (lookup ps (codes "upsert")) ≡ true → reads g ps ≡ Ok found → found.upsert ≡ true)
        → found.upsert ≡ true
    at true same is go =
        let named : name ≡ codes "upsert" = sym ((bytes_eq-Decides (codes "upsert") name).0 same) in
        let first : statement_field f name t ≡ Ok (marked true f) =
        upsert_given name t f ((bytes_eq-Decides name (codes "upsert")).1 named)
        ∙ ap (λ (r : Result Bool Refusal). r >>= (λ upsert. Ok (record f { upsert = upsert }))) (true_in t is) in
        let later : reads (marked true f) ps ≡ Ok found = sym (ap (λ (r : Result UpdateStatementFields Refusal). r >>= (λ g. reads g ps)) first) ∙ e in
        let again : reads (marked true f) ps ≡ Ok (marked true found) = lacking true ps (marked true f) found (subst (Lacks ps) named h.2) later in
        let both : ◌≡◌ {A = Result UpdateStatementFields Refusal} (Ok found) (Ok (marked true found)) = sym later ∙ again in
        let same_fields : found ≡ marked true found = cc in
        ap (λ (g : UpdateStatementFields). g.upsert) same_fields
    at false other is go =
        let s = step_of (statement_field f name t) (λ g. reads g ps) found e in
        go s.0 is s.2

-- ---- it makes no `_id`

-- a path that is `_id` is spelled so
id_spelled : (name : List ℕ) (path : List (List ℕ)) → path_in name ≡ Ok path → is_id path ≡ true → name ≡ id_name
id_spelled name path e p = by (path_fault name (parts_of name)) e
  where
    parted : (parts : List (List ℕ)) → join_with_byte 46 parts ≡ name → is_id parts ≡ true → name ≡ id_name
    parted [] joined q = absurd cc
    parted (one ∷ next ∷ rest) joined q = absurd cc
    parted (one ∷ []) joined q = sym joined ∙ (bytes_eq-Decides one id_name).0 q

    by : (o : Option PathFault) → or_refusal (fault_or o (parts_of name)) ≡ Ok path → name ≡ id_name
    by (Some f) g = absurd cc
    by None g =
        let same : parts_of name ≡ path = cc in
        parted path (subst (λ (parts : List (List ℕ)). join_with_byte 46 parts ≡ name) same (join_with_byte-slice_split 46 name)) p

-- no condition is an equality at `_id`
abbrev NoId : Condition → Type 0
NoId c = filter_size (condition c no_conditions) ≡ 0

abbrev NoIds : Conditions → Type 0
NoIds cs = filter_size cs ≡ 0

nothing_then : (n : ℕ) (b : Bool) → b ≡ false → max (if b then n else 0) 0 ≡ 0
nothing_then n true e = absurd cc
nothing_then n false e = refl

at_none : (path : List (List ℕ)) (cs : Conditions) → is_id path ≡ false → NoId (at path cs)
at_none path cs other = nothing_then _ (is_id path) other

named_none : (name : List ℕ) (t : Tree) → name ≢ id_name → IfGiven NoId (named_condition name (read_members t) (read_operand t))
named_none name t differ = by (bytes_eq name (codes "$and")) (bytes_eq name (codes "$or")) (bytes_eq name (codes "$nor"))
  where
    members : (make : Conditions → Condition) → ((cs : Conditions) → NoId (make cs)) → (r : Result Conditions Refusal)
        → IfGiven NoId (if_ok r (λ cs. Ok (make cs)))
    members make none (Ok cs) = none cs
    members make none (Err e) = tt

    path_none : (path : List (List ℕ)) → path_in name ≡ Ok path → (b : Bool) → is_id path ≡ b → b ≡ false
    path_none path is true same = absurd (differ (id_spelled name path is same))
    path_none path is false same = refl

    operand : (r : Result (List (List ℕ)) Refusal) → path_in name ≡ r → (o : Result Conditions Refusal)
        → IfGiven NoId (if_ok r (λ path. if_ok o (λ rs. Ok (at path rs))))
    operand (Err e) is o = tt
    operand (Ok path) is (Err e) = tt
    operand (Ok path) is (Ok rs) = at_none path rs (path_none path is (is_id path) refl)

    by : (a b d : Bool)
        → IfGiven NoId (if a then if_ok (read_members t) (λ rs. Ok (all rs)) else (if b then if_ok (read_members t) (λ rs. Ok (any rs))
        else (if d then if_ok (read_members t) (λ rs. Ok (not_any rs))
        else if_ok (path_in name) (λ path. if_ok (read_operand t) (λ rs. Ok (at path rs))))))
    by true b d = members all (λ cs. refl) (read_members t)
    by false true d = members any (λ cs. refl) (read_members t)
    by false false true = members not_any (λ cs. refl) (read_members t)
    by false false false = operand (path_in name) refl (read_operand t)

both_none : (c : Condition) (cs : Conditions) → NoId c → NoIds cs → NoIds (condition c cs)
both_none c cs h k = omega (arith, h, k)

filter_none : (ps : Pairs) → lookup ps id_name ≡ None → IfGiven NoIds (read_filter ps)
filter_none no_pairs none = refl
filter_none (pair name t ps) none = at (bytes_eq id_name name) refl none (λ l. filter_none ps l)
  where
    at : (b : Bool) → bytes_eq id_name name ≡ b → (if b then Some t else lookup ps id_name) ≡ None
        → (lookup ps id_name ≡ None → IfGiven NoIds (read_filter ps)) → IfGiven NoIds (read_filter (pair name t ps))
    at true same is go = absurd cc
    at false other is go =
        let differ : name ≢ id_name = λ same. let never : true ≡ false = sym ((bytes_eq-Decides id_name name).1 (sym same)) ∙ other in absurd cc in
        given NoId NoIds (named_condition name (read_members t) (read_operand t)) _ (named_none name t differ)
        (λ r h. given NoIds NoIds (read_filter ps) _ (go is) (λ rs k. both_none r rs h k))

abbrev NoNew : Change → Type 0
NoNew u = change_size u ≡ 0

change_none : (ps : Pairs) → lookup ps id_name ≡ None → IfGiven NoNew (read_update ps)
change_none ps none = by (has_operators ps)
  where
    edits_none : (r : Result (List Edit) Refusal) → IfGiven NoNew (if_ok r (λ es. Ok (edits es)))
    edits_none (Ok es) = refl
    edits_none (Err e) = tt

    by : (b : Bool) → IfGiven NoNew (if b then if_ok (read_edits_of ps []) (λ es. Ok (edits es)) else Ok (replacement ps))
    by true = edits_none (read_edits_of ps [])
    by false = ap id_size none

-- ---- the filter and the change of an upsert that waits

none_there : (o : Option Tree) (b : Bool) → (is_none o && b) ≡ true → o ≡ None
none_there None b e = refl
none_there (Some t) b e = absurd cc

open_filter : (t : Tree) → is_open (Some t) ≡ true → IfGiven NoIds (spelled_in read_filter t)
open_filter (document qs) e = filter_none qs (none_there (lookup qs (codes "_id")) _ (first_of e))
  where
    first_of : is_open (Some (document qs)) ≡ true
        → (is_none (lookup qs (codes "_id")) && (is_none (lookup qs (codes "$and")) && is_none (lookup qs (codes "$or")))) ≡ true
    first_of f = by (is_none (lookup qs (codes "_id"))) (is_none (lookup qs (codes "$and"))) (is_none (lookup qs (codes "$or"))) f
      where
        by : (a b c : Bool) → (a && b && c) ≡ true → (a && (b && c)) ≡ true
        by true true true g = refl
        by true true false g = g
        by true false c g = g
        by false b c g = g
open_filter (array ts) e = absurd cc
open_filter (scalar s) e = absurd cc

open_change : (t : Tree) → has_no_id (Some t) ≡ true → IfGiven NoNew (spelled_in read_update t)
open_change (document us) e = change_none us (none_there (lookup us (codes "_id")) true (at (is_none (lookup us (codes "_id"))) e))
  where
    at : (b : Bool) → b ≡ true → (b && true) ≡ true
    at true f = refl
    at false f = f
open_change (array ts) e = absurd cc
open_change (scalar s) e = absurd cc

-- each field of the name is such
abbrev AreOpen : Pairs → Type 0
AreOpen no_pairs = Unit {0}
AreOpen (pair name t ps) =
    (bytes_eq name (codes "q") ≡ true → is_open (Some t) ≡ true) × (bytes_eq name (codes "u") ≡ true → has_no_id (Some t) ≡ true) × AreOpen ps

-- what is known of the one that is found is known of the others, of which there is none
module _ (field : List ℕ) (P : Tree → Type 0) where
  first_there : (name : List ℕ) (t : Tree) (ps : Pairs) → ((u : Tree) → lookup (pair name t ps) field ≡ Some u → P u) → bytes_eq name field ≡ true → P t
  first_there name t ps known same =
      known t (ap (λ (b : Bool). if b then Some t else lookup ps field) ((bytes_eq-Decides field name).1 (sym ((bytes_eq-Decides name field).0 same))))

  rest_there : (name : List ℕ) (t : Tree) (ps : Pairs) → Lacks ps name → ((u : Tree) → lookup (pair name t ps) field ≡ Some u → P u) → (u : Tree)
      → lookup ps field ≡ Some u → P u
  rest_there name t ps lacks known u is = at (bytes_eq field name) refl
    where
      at : (b : Bool) → bytes_eq field name ≡ b → P u
      at true same =
          let lacking_it : Lacks ps field = subst (Lacks ps) (sym ((bytes_eq-Decides field name).0 same)) lacks in
          let never : None ≡ Some u = sym (lookup-absent ps field lacking_it) ∙ is in
          absurd cc
      at false other = known u (ap (λ (b : Bool). if b then Some t else lookup ps field) other ∙ is)

are_open : (ps : Pairs) → IsPairs ps → ((t : Tree) → lookup ps (codes "q") ≡ Some t → is_open (Some t) ≡ true)
    → ((t : Tree) → lookup ps (codes "u") ≡ Some t → has_no_id (Some t) ≡ true) → AreOpen ps
are_open no_pairs h q u = tt
are_open (pair name t ps) h q u = (
  first_there (codes "q") (λ v. is_open (Some v) ≡ true) name t ps q,
  first_there (codes "u") (λ v. has_no_id (Some v) ≡ true) name t ps u,
  are_open ps h.3 (rest_there (codes "q") (λ v. is_open (Some v) ≡ true) name t ps h.2 q)
      (rest_there (codes "u") (λ v. has_no_id (Some v) ≡ true) name t ps h.2 u),
)

record HasOpen (f : UpdateStatementFields) : Type 0 where
  filter : IfSomeOf NoIds f.filter
  change : IfSomeOf NoNew f.change

field_open : (f : UpdateStatementFields) (name : List ℕ) (t : Tree) → HasOpen f → (bytes_eq name (codes "q") ≡ true → is_open (Some t) ≡ true)
    → (bytes_eq name (codes "u") ≡ true → has_no_id (Some t) ≡ true) → IfGiven HasOpen (statement_field f name t)
field_open f name t h q u = by (bytes_eq name (codes "q")) (bytes_eq name (codes "u")) (bytes_eq name (codes "upsert")) (bytes_eq name (codes "multi")) q u
  where
    by : (a b c d : Bool) → (a ≡ true → is_open (Some t) ≡ true) → (b ≡ true → has_no_id (Some t) ≡ true) → IfGiven HasOpen (as_field a b c d f t)
    by true b c d k l =
        then_given NoIds HasOpen (spelled_in read_filter t) _ (open_filter t (k refl)) (λ rules none. record { filter = none; change = h.change })
    by false true c d k l =
        then_given NoNew HasOpen (spelled_in read_update t) _ (open_change t (l refl)) (λ change none. record { filter = h.filter; change = none })
    by false false true d k l =
        then_given (λ (b : Bool). Any b) HasOpen (bool_in t) _ (any_given (bool_in t)) (λ b any. record { filter = h.filter; change = h.change })
    by false false false true k l =
        then_given (λ (b : Bool). Any b) HasOpen (bool_in t) _ (any_given (bool_in t)) (λ b any. record { filter = h.filter; change = h.change })
    by false false false false k l = tt

fields_open : (ps : Pairs) (f : UpdateStatementFields) → HasOpen f → AreOpen ps → IfGiven HasOpen (reads f ps)
fields_open no_pairs f h k = h
fields_open (pair name t ps) f h k =
    then_given HasOpen HasOpen (statement_field f name t) (λ g. reads g ps) (field_open f name t h k.0 k.1) (λ g l. fields_open ps g l k.2)

record IsOpen (s : UpdateStatement) : Type 0 where
  filter : NoIds s.filter
  change : NoNew s.change

statement_open : (ps : Pairs) → AreOpen ps → IfGiven IsOpen (read_statement ps)
statement_open ps h =
    then_given HasOpen IsOpen (reads no_statement_fields ps) statement_of (fields_open ps no_statement_fields (record { filter = tt; change = tt }) h)
    (λ found k. then_given NoIds IsOpen (or_refused found.filter refusals.FailedToParse) _ (some_given NoIds found.filter refusals.FailedToParse k.filter)
    (λ rules none. then_given NoNew IsOpen (or_refused found.change refusals.FailedToParse) _
    (some_given NoNew found.change refusals.FailedToParse k.change)
    (λ change nothing. unless_given IsOpen (is_replacement change && found.multi) refusals.FailedToParse
    (Ok (record { filter = rules; change = change; upsert = found.upsert; multi = found.multi })) (record { filter = none; change = nothing }))))

-- What is known of an upsert that waits for an object id.
pub record IsWaiting (s : UpdateStatement) : Type 0 where
  pub asks : s.upsert ≡ true
  pub makes_none : (new : Pairs) → upsert_document s ≡ Ok new → ⊥

all_three : (a b c : Bool) → (a && b && c) ≡ true → (a ≡ true) × (b ≡ true) × (c ≡ true)
all_three true true true e = (refl, refl, refl)
all_three true true false e = absurd cc
all_three true false c e = absurd cc
all_three false b c e = absurd cc

pub is_waiting : (ps : Pairs) (s : UpdateStatement) → IsPairs ps → IsRead s.change → is_upsert ps ≡ true → read_statement ps ≡ Ok s → IsWaiting s
is_waiting ps s h read waits e =
    let f = step_of (reads no_statement_fields ps) statement_of s e in
    let r = step_of (or_refused f.0.filter refusals.FailedToParse)
    (λ rules. or_refused f.0.change refusals.FailedToParse >>= made_of_fields f.0.upsert f.0.multi rules) s f.2 in
    let c = step_of (or_refused f.0.change refusals.FailedToParse) (made_of_fields f.0.upsert f.0.multi r.0) s r.2 in
    let last = passed (is_replacement c.0 && f.0.multi) refusals.FailedToParse
    (Ok (record { filter = r.0; change = c.0; upsert = f.0.upsert; multi = f.0.multi })) s c.2 in
    let same : ◌≡◌ {A = UpdateStatement} (record { filter = r.0; change = c.0; upsert = f.0.upsert; multi = f.0.multi }) s = cc in
    let three = all_three (is_true (lookup ps (codes "upsert"))) (is_open (lookup ps (codes "q"))) (has_no_id (lookup ps (codes "u"))) waits in
    let each = are_open ps h (λ t is. ap is_open (sym is) ∙ three.1) (λ t is. ap has_no_id (sym is) ∙ three.2) in
    let opens = it_is IsOpen (read_statement ps) s (statement_open ps each) e in
    record {
      asks = sym (ap (λ (z : UpdateStatement). z.upsert) same) ∙ upsert_read ps no_statement_fields f.0 h three.0 f.1;
      makes_none = λ new makes.
          let b = step_of (base_of s.filter) _ new makes in
          let n = step_of (apply s.change 65535 b.0) _ new b.2 in
          absurd (omega (arith, base_size s.filter b.0 b.1, made_size s.change b.0 n.0 read n.1, opens.filter, opens.change));
    }
