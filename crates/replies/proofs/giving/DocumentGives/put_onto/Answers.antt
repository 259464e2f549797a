use Rattle.std.proofs.Common.{◌≡◌, ◌++◌, ◌∙◌, subst, sym}
use Rattle.std.specs.Prelude.{OnOk}
use Rattle.bson.specs.Tree.{Pairs}
use Rattle.bson.specs.Lawful.{IsDocument}
use Rattle.bson.specs.Spelling.{frame_of, pairs_bytes}
use Rattle.projection.specs.Projection.{project}
use Rattle.projection.specs.ProjectionLaws.{whole_stays}
use Rattle.database_model.specs.Lawful.{IsWithin}
use Rattle.replies.proofs.giving.DocumentGives.put_onto.Goals as goal

pub put_within-requires : goal.put_within-requires
put_within-requires c =
    let same : project c.args.projection.now c.args.self.now ≡ c.args.self.now =
    whole_stays c.args.projection.now c.args.self.now (sym c.keeps_all.ensures ∙ c.if-keeps_all.true) in
    subst IsWithin same c.requires

pub returns-then-keeps_all-clause-bytes : goal.returns-then-keeps_all-clause-bytes
returns-then-keeps_all-clause-bytes c =
    let same : project c.args.projection.now c.args.self.now ≡ c.args.self.now =
    whole_stays c.args.projection.now c.args.self.now (sym c.keeps_all.ensures ∙ c.if-keeps_all.true) in
    subst (λ (ps : Pairs). OnOk c.put_within.result (c.put_within.new.out.items ≡ c.args.out.now.items ++ frame_of (pairs_bytes ps)))
    (sym same) c.put_within.ensures.bytes

pub returns-then-keeps_all-clause-readable : goal.returns-then-keeps_all-clause-readable
returns-then-keeps_all-clause-readable c =
    let same : project c.args.projection.now c.args.self.now ≡ c.args.self.now =
    whole_stays c.args.projection.now c.args.self.now (sym c.keeps_all.ensures ∙ c.if-keeps_all.true) in
    subst (λ (ps : Pairs). OnOk c.put_within.result (IsDocument ps)) (sym same) c.put_within.ensures.readable
