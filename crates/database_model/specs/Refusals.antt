-- The documents that replies are.
use Rattle.std.specs.Prelude.{ℕ, ◌^◌, ◌-◌, min, pos, List, codes}
use Rattle.bson.specs.Tree.{Tree, scalar, text, int32, int64, Pairs, no_pairs, pair, append}
use Rattle.path.specs.declared.refusal.Refusal.{Refusal}
use Rattle.path.specs.Refusals.{row_of}

abbrev pub int : ℕ → Tree
int n = scalar (int32 (pos n))

abbrev pub long : ℕ → Tree
long n = scalar (int64 (pos n))

-- a number of documents, or the greatest int32 where it is more
abbrev pub total : ℕ → Tree
total n = int (min n (2 ^ 31 - 1))

abbrev pub words : List ℕ → Tree
words bytes = scalar (text bytes)

abbrev pub refusal_reply : Refusal → Pairs
refusal_reply r =
    pair (codes "ok") (int 0)
    (pair (codes "errmsg") (words (row_of r).text)
    (pair (codes "code") (int (row_of r).code)
    (pair (codes "codeName") (words (row_of r).name) no_pairs)))

abbrev pub ok_reply : Pairs → Pairs
ok_reply ps = append ps (pair (codes "ok") (int 1) no_pairs)
