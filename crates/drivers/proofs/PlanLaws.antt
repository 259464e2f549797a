-- What makes no difference to what is kept for the database's reply.
use Rattle.std.proofs.Common.{◌≡◌, ℕ, Bool, true, false, List, codes, Option, Some, None, refl, ap, subst, ◌∙◌}
use Rattle.std.specs.Prelude.{if◌then◌else◌, is_none}
use Rattle.std.specs.Option.{option_or, option_map}
use Rattle.std.specs.Str.{bytes_eq}
use Rattle.std.proofs.lemmas.Slice.Eq.{bytes_eq-Decides}
use Rattle.bson.specs.Tree.{Tree, Pairs, pair, Items, append}
use Rattle.bson.specs.Lookup.{lookup}
use Rattle.path.specs.Parts.{path_of}
use Rattle.drivers.specs.Answering.{wait_of, kill_wait, distinct_kept, distinct_wait, collections_wait, write_wait, other_wait}
use Rattle.drivers.specs.Answering.{is_modification, is_single, asked_wait, whole_write}
use Rattle.driver_fields.specs.Cleaning.{own_rule, is_kept, kept}
use Rattle.driver_replies.specs.Cursors.{ids_of, ids_in, no_kills}
use Rattle.drivers.specs.Laws.{IgnoredLeavesThePlan}
use Rattle.driver_replies.specs.Distinct.{path_or_none, no_values}
use Rattle.driver_replies.specs.Listing.{name_in}
use Rattle.driver_replies.specs.Modifying.{part_in, or_empty, modification_of}
use Rattle.driver_replies.specs.NewIds.{with_new_ids}
use Rattle.driver_replies.specs.declared.modifying.Modification.{Modification}
use Rattle.driver_fields.specs.Rules.{rule_of}
use Rattle.driver_replies.specs.Texts.{text_or_none}
use Rattle.driver_replies.specs.Writes.{is_true, write_of, field_of, is_alone, is_ordered_in}
use Rattle.driver_replies.specs.declared.fresh_ids.FreshIds.{FreshIds}
use Rattle.driver_replies.specs.declared.writes.Write.{Write}
use Rattle.driver_replies.specs.declared.writes.Write.TheVariants as writes
use Rattle.driver_fields.specs.declared.cleaning.Whose.TheVariants as whoses
use Rattle.driver_fields.specs.declared.command.Asked.{Asked}
use Rattle.driver_fields.specs.declared.command.Asked.TheVariants as askeds
use Rattle.driver_fields.specs.declared.rules.Rule.{Rule}
use Rattle.drivers.specs.declared.plan.Plan.{Plan}
use Rattle.drivers.specs.declared.plan.Wait.{Wait}
use Rattle.drivers.specs.declared.plan.Wait.TheVariants as waits
use Rattle.drivers.proofs.AskingLaws.{found-without, kept-without}

-- names of which one has a rule and the other hasn't are two
differs : (name other : List ℕ) → is_none (rule_of name) ≡ false → is_none (rule_of other) ≡ true → bytes_eq other name ≡ false
differs name other has hasnt = at (bytes_eq other name) refl
  where
    at : (b : Bool) → bytes_eq other name ≡ b → bytes_eq other name ≡ false
    at true e =
        let same : other ≡ name = (bytes_eq-Decides other name).0 e in
        let no : is_none (rule_of name) ≡ true = subst (λ (n : List ℕ). is_none (rule_of n) ≡ true) same hasnt in
        absurd cc
    at false e = e

-- the database, the cursors and the statements stand under names without a rule
no_rule_database : is_none (rule_of (codes "$db")) ≡ true
unfolding rule_of
no_rule_database = refl

no_rule_cursors : is_none (rule_of (codes "cursors")) ≡ true
unfolding rule_of
no_rule_cursors = refl

no_rule_single : is_none (rule_of (codes "singleBatch")) ≡ true
unfolding rule_of
no_rule_single = refl

no_rule_documents : is_none (rule_of (codes "documents")) ≡ true
unfolding rule_of
no_rule_documents = refl

no_rule_updates : is_none (rule_of (codes "updates")) ≡ true
unfolding rule_of
no_rule_updates = refl

no_rule_deletes : is_none (rule_of (codes "deletes")) ≡ true
unfolding rule_of
no_rule_deletes = refl

no_rule_ordered : is_none (rule_of (codes "ordered")) ≡ true
unfolding rule_of
no_rule_ordered = refl

no_rule_statements : (write : Write) → is_none (rule_of (field_of write)) ≡ true
no_rule_statements writes.Insert = no_rule_documents
no_rule_statements writes.Update = no_rule_updates
no_rule_statements writes.Delete = no_rule_deletes

no_rule_filter : is_none (rule_of (codes "filter")) ≡ true
unfolding rule_of
no_rule_filter = refl

no_rule_query : is_none (rule_of (codes "query")) ≡ true
unfolding rule_of
no_rule_query = refl

no_rule_update : is_none (rule_of (codes "update")) ≡ true
unfolding rule_of
no_rule_update = refl

no_rule_remove : is_none (rule_of (codes "remove")) ≡ true
unfolding rule_of
no_rule_remove = refl

no_rule_new : is_none (rule_of (codes "new")) ≡ true
unfolding rule_of
no_rule_new = refl

no_rule_key : is_none (rule_of (codes "key")) ≡ true
unfolding rule_of
no_rule_key = refl

no_rule_upsert : is_none (rule_of (codes "upsert")) ≡ true
unfolding rule_of
no_rule_upsert = refl

-- two commands in which what stands under a name without a rule is the same, and so are the fields that are kept
record AreAlike (ps qs : Pairs) : Type 0 where
  found : (other : List ℕ) → is_none (rule_of other) ≡ true → lookup ps other ≡ lookup qs other
  left : (asked : Asked) → kept asked ps ≡ kept asked qs

ids-alike : (ps qs : Pairs) → AreAlike ps qs → ids_of ps ≡ ids_of qs
ids-alike ps qs h = ap ids_in (h.found (codes "cursors") no_rule_cursors)

kill-alike : (ps qs : Pairs) → AreAlike ps qs → kill_wait ps (ids_of ps) ≡ kill_wait qs (ids_of qs)
kill-alike ps qs h = ap (kill_wait ps) (ids-alike ps qs h) ∙ at (ids_of qs)
  where
    at : (ids : Option Items) → kill_wait ps ids ≡ kill_wait qs ids
    at None = refl
    at (Some ids) = ap (λ (left : Pairs). waits.Kill (no_kills left ids)) (h.left askeds.KillCursors)

-- what has a rule whatever the command is, isn't kept
dropped : (asked : Asked) (name : List ℕ) → is_none (rule_of name) ≡ false → is_kept (whoses.Command asked) name ≡ false
dropped asked name has = at (own_rule asked name)
  where
    at : (own : Option Rule) → is_none (option_or own (rule_of name)) ≡ false
    at None = has
    at (Some rule) = refl

write-alike : (ids : FreshIds) (ps qs : Pairs) (write : Write) → AreAlike ps qs → write_wait ids ps write ≡ write_wait ids qs write
write-alike ids ps qs write h =
    ap (λ (x : Option Tree). wait x (lookup ps (codes "ordered"))) (h.found (field_of write) (no_rule_statements write))
    ∙ ap (wait (lookup qs (field_of write))) (h.found (codes "ordered") no_rule_ordered)
  where
    wait : Option Tree → Option Tree → Wait
    wait statements ordered = if is_alone write statements then waits.Write else waits.Whole write (is_ordered_in ordered) ids

other-alike : (ids : FreshIds) (ps qs : Pairs) (write : Option Write) → AreAlike ps qs → other_wait ids ps write ≡ other_wait ids qs write
other-alike ids ps qs None h = refl
other-alike ids ps qs (Some write) h = write-alike ids ps qs write h

modification-alike : (ids : FreshIds) (ps qs : Pairs) → AreAlike ps qs → modification_of ids ps ≡ modification_of ids qs
modification-alike ids ps qs h =
    ap (λ (x : Option Tree). made x (lookup ps (codes "update")) (lookup ps (codes "remove")) (lookup ps (codes "new")) (lookup ps (codes "upsert")))
    (h.found (codes "query") no_rule_query)
    ∙ ap (λ (x : Option Tree). made (lookup qs (codes "query")) x (lookup ps (codes "remove")) (lookup ps (codes "new")) (lookup ps (codes "upsert")))
    (h.found (codes "update") no_rule_update)
    ∙ ap (λ (x : Option Tree). made (lookup qs (codes "query")) (lookup qs (codes "update")) x (lookup ps (codes "new")) (lookup ps (codes "upsert")))
    (h.found (codes "remove") no_rule_remove)
    ∙ ap (λ (x : Option Tree). made (lookup qs (codes "query")) (lookup qs (codes "update")) (lookup qs (codes "remove")) x (lookup ps (codes "upsert")))
    (h.found (codes "new") no_rule_new)
    ∙ ap (made (lookup qs (codes "query")) (lookup qs (codes "update")) (lookup qs (codes "remove")) (lookup qs (codes "new")))
    (h.found (codes "upsert") no_rule_upsert)
  where
    made : Option Tree → Option Tree → Option Tree → Option Tree → Option Tree → Modification
    made query update remove new upsert = record {
      filter = or_empty (part_in query);
      update = or_empty (part_in update);
      is_removal = is_true remove;
      wants_new = is_true new;
      may_insert = is_true upsert;
      ids = ids;
    }

distinct-alike : (ps qs : Pairs) → AreAlike ps qs → distinct_wait ps ≡ distinct_wait qs
distinct-alike ps qs h =
    ap (λ (x : Option Tree). distinct_kept (option_map no_values (path_or_none (path_of (text_or_none x))))) (h.found (codes "key") no_rule_key)

single-alike : (command : List ℕ) (t : Tree) (ps qs : Pairs) → AreAlike (pair command t ps) (pair command t qs)
    → is_single (pair command t ps) ≡ is_single (pair command t qs)
single-alike command t ps qs h =
    ap (λ (x : Option Tree). if bytes_eq command (codes "find") then is_true x else false) (h.found (codes "singleBatch") no_rule_single)

wait-alike : (ids : FreshIds) (command : List ℕ) (t : Tree) (ps qs : Pairs) → AreAlike (pair command t ps) (pair command t qs)
    → wait_of ids (pair command t ps) ≡ wait_of ids (pair command t qs)
wait-alike ids command t ps qs h =
    ap (λ (w : Wait). choose w (collections_wait whole) (modification_of ids whole) (distinct_wait whole) (is_single whole)
    (other_wait ids whole (write_of command))) (kill-alike whole other h)
    ∙ ap (λ (x : Option Tree). choose (kill_wait other (ids_of other)) (waits.Collections (name_in x)) (modification_of ids whole) (distinct_wait whole)
    (is_single whole) (other_wait ids whole (write_of command))) (h.found (codes "filter") no_rule_filter)
    ∙ ap (λ (m : Modification). choose (kill_wait other (ids_of other)) (collections_wait other) m (distinct_wait whole) (is_single whole)
    (other_wait ids whole (write_of command))) (modification-alike ids whole other h)
    ∙ ap (λ (w : Wait). choose (kill_wait other (ids_of other)) (collections_wait other) (modification_of ids other) w (is_single whole)
    (other_wait ids whole (write_of command))) (distinct-alike whole other h)
    ∙ ap (λ (b : Bool). choose (kill_wait other (ids_of other)) (collections_wait other) (modification_of ids other) (distinct_wait other) b
    (other_wait ids whole (write_of command))) (single-alike command t ps qs h)
    ∙ ap (choose (kill_wait other (ids_of other)) (collections_wait other) (modification_of ids other) (distinct_wait other) (is_single other))
    (other-alike ids whole other (write_of command) h)
  where
    whole : Pairs
    whole = pair command t ps

    other : Pairs
    other = pair command t qs

    choose : Wait → Wait → Modification → Wait → Bool → Wait → Wait
    choose kill listed m distinct single rest =
        if bytes_eq command (codes "killCursors") then kill
        else if bytes_eq command (codes "listCollections") then listed
        else if bytes_eq command (codes "listIndexes") then waits.Indexes
        else if bytes_eq command (codes "dropDatabase") then waits.Listed
        else if bytes_eq command (codes "explain") then waits.Explained
        else if is_modification command then waits.Found m else if bytes_eq command (codes "distinct") then distinct else if single
        then waits.Single else rest

pub ignored_leaves_the_plan : IgnoredLeavesThePlan
ignored_leaves_the_plan ids more command value before name t behind has =
    let whole = pair command value before in
    let alike : AreAlike (append whole (pair name t behind)) (append whole behind) = record {
      found = λ other hasnt. found-without whole name t behind other (differs name other has hasnt);
      left = λ asked. kept-without asked whole name t behind (dropped asked name has);
    } in
    let with_it = append whole (pair name t behind) in
    let without_it = append whole behind in
    ap (λ (database : Option Tree). plan-of (text_or_none database) (asked_wait (wait_of ids with_it) (whole_write ids with_it)))
    (alike.found (codes "$db") no_rule_database)
    ∙ ap (λ (w : Wait). plan-of (text_or_none (lookup without_it (codes "$db"))) (asked_wait w (whole_write ids with_it)))
    (wait-alike ids command value (append before (pair name t behind)) (append before behind) alike)
    ∙ ap (λ (left : Pairs). plan-of (text_or_none (lookup without_it (codes "$db")))
    (asked_wait (wait_of ids without_it) (with_new_ids ids (write_of command) left))) (alike.left askeds.Write)
  where
    plan-of : List ℕ → Wait → Plan
    plan-of database wait = record {
      more_to_come = more;
      database = database;
      collection = text_or_none (Some value);
      is_update = bytes_eq command (codes "update");
      wait = wait;
    }
