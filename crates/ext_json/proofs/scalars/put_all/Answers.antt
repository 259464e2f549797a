use Rattle.json.specs.Reads.{token_of}
use Rattle.ext_json.proofs.WritingLemmas.{printable_at}
use Rattle.ext_json.proofs.scalars.put_all.Goals as goal

pub token-requires : goal.token-requires
token-requires c = printable_at token_of c.args.tokens.now c.tokens.token-index _ c.requires c.tokens-test.true
