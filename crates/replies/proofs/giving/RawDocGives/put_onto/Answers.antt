use Rattle.std.proofs.Common.{◌≡◌, ◌++◌, ℕ, List, ap, subst, sym, ◌∙◌}
use Rattle.bson.specs.Tree.{Pairs}
use Rattle.bson.specs.Lawful.{IsDocument}
use Rattle.bson.specs.Spelling.{frame_of, pairs_bytes}
use Rattle.projection.specs.Projection.{project}
use Rattle.projection.specs.ProjectionLaws.{whole_stays}
use Rattle.replies.proofs.giving.RawDocGives.put_onto.Goals as goal

pub returns-then-keeps_all-clause-bytes : goal.returns-then-keeps_all-clause-bytes
returns-then-keeps_all-clause-bytes c =
    let old : List ℕ = c.args.out.now.items in
    let same : project c.args.projection.now c.args.self.now ≡ c.args.self.now =
    whole_stays c.args.projection.now c.args.self.now (sym c.keeps_all.ensures ∙ c.if-keeps_all.true) in
    c.in_ok-extend_from_slice.ensures.items ∙ ap (λ (bytes : List ℕ). old ++ bytes) c.bytes.ensures.spelled
    ∙ ap (λ (ps : Pairs). old ++ frame_of (pairs_bytes ps)) (sym same)

pub returns-then-keeps_all-clause-readable : goal.returns-then-keeps_all-clause-readable
returns-then-keeps_all-clause-readable c =
    let same : project c.args.projection.now c.args.self.now ≡ c.args.self.now =
    whole_stays c.args.projection.now c.args.self.now (sym c.keeps_all.ensures ∙ c.if-keeps_all.true) in
    subst IsDocument (sym same) c.bytes.ensures.lawful
