use Rattle.std.proofs.Common.{◌≡◌, ◌++◌, map, take}
use Rattle.json.specs.Reads.{token_of}
use Rattle.ext_json.proofs.scalars.put_all.Given as goal

abbrev pub invariant-tokens : goal.invariant-tokens
invariant-tokens l =
    (l.out.tokens ≡ l.fn.out.tokens ++ map token_of (take l.token-index l.tokens)) × (l.out.before ≡ l.fn.out.before)
