-- Bodies of `explain`, worked by hand: what they are read as, or their first refusal.
use Rattle.std.proofs.Common.{◌≡◌, List, [], Ok, Err, refl, false}
use Rattle.std.specs.Prelude.{ℕ, pos, negsuc, codes}
use Rattle.bson.specs.Tree.{Tree, scalar, text, int32, document, Pairs, no_pairs, pair}
use Rattle.filter.specs.Condition.{no_conditions}
use Rattle.path.specs.declared.refusal.Refusal.TheVariants as refusals
use Rattle.command_model.specs.Command.{explain, command_of}

abbrev string : List ℕ → Tree
string s = scalar (text s)

abbrev number : ℕ → Tree
number n = scalar (int32 (pos n))

abbrev minus_one : Tree
minus_one = scalar (int32 (negsuc 0))

abbrev in_t : Pairs
in_t = pair (codes "$db") (string (codes "t")) no_pairs

-- {explain: <value>, .., $db: 't'}
abbrev explains : Tree → (Pairs → Pairs) → Pairs
explains t field = pair (codes "explain") t (field in_t)

-- {explain: {find: <value>, ..}, $db: 't'}
abbrev find_is : Tree → Pairs → Pairs
find_is t fields = explains (document (pair (codes "find") t fields)) (λ ps. ps)

-- {find: 'c', skip: 1, limit: 2, batchSize: 3, comment: 4}, with a comment beside it
reads : command_of (explains
    (document (pair (codes "find") (string (codes "c"))
    (pair (codes "skip") (number 1) (pair (codes "limit") (number 2) (pair (codes "batchSize") (number 3) (pair (codes "comment") (number 4) no_pairs))))))
    (pair (codes "comment") (number 5)))
    ≡ Ok (explain (record {
      namespace = codes "t.c";
      query = record { filter = no_conditions; sort = []; skip = 1; limit = 2; projection = (false, []) };
    }))
unfolding command_of
reads = refl

-- ---- refusals

-- explain: 1
no_document : command_of (explains (number 1) (λ ps. ps)) ≡ Err refusals.TypeMismatch
unfolding command_of
no_document = refl

-- explain: {}
empty_document : command_of (explains (document no_pairs) (λ ps. ps)) ≡ Err refusals.FailedToParse
unfolding command_of
empty_document = refl

-- {count: 'c'}
other_command : command_of (explains (document (pair (codes "count") (string (codes "c")) no_pairs)) (λ ps. ps)) ≡ Err refusals.FailedToParse
unfolding command_of
other_command = refl

-- {filter: {}, find: 'c'}: another name stands first
find_second : command_of (explains (document (pair (codes "filter") (document no_pairs) (pair (codes "find") (string (codes "c")) no_pairs))) (λ ps. ps))
    ≡ Err refusals.FailedToParse
unfolding command_of
find_second = refl

-- {find: 1}
no_collection : command_of (find_is (number 1) no_pairs) ≡ Err refusals.TypeMismatch
unfolding command_of
no_collection = refl

-- {find: 'c', $db: 't'}
database_inside : command_of (find_is (string (codes "c")) in_t) ≡ Err refusals.FailedToParse
unfolding command_of
database_inside = refl

-- {find: 'c', limit: -1}, and an unknown field beside it: what is inside stands first
inside_first : command_of
    (explains (document (pair (codes "find") (string (codes "c")) (pair (codes "limit") minus_one no_pairs))) (pair (codes "verbosity") (number 1)))
    ≡ Err refusals.BadValue
unfolding command_of
inside_first = refl

-- the unknown field alone
unknown_beside : command_of (explains (document (pair (codes "find") (string (codes "c")) no_pairs)) (pair (codes "verbosity") (number 1)))
    ≡ Err refusals.FailedToParse
unfolding command_of
unknown_beside = refl

-- {find: '$'}, and no database: it is missing before the name is judged
no_database : command_of (pair (codes "explain") (document (pair (codes "find") (string (codes "$")) no_pairs)) no_pairs) ≡ Err refusals.FailedToParse
unfolding command_of
no_database = refl

-- {find: '$'}
bad_collection : command_of (find_is (string (codes "$")) no_pairs) ≡ Err refusals.InvalidNamespace
unfolding command_of
bad_collection = refl
