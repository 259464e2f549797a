use Rattle.std.proofs.Common.{◌≡◌, [], ◌∷◌, Vec, Global, true, false, refl, sym, subst, ◌∙◌}
use Rattle.bson.specs.Tree.{Pairs}
use Rattle.aggregate_model.specs.Taking.{IsEnough, SufficesTaken, takes}
use Rattle.pipelines.specs.View.{pipeline_of}
use Rattle.database_model.specs.Lawful.{IsWithin}
use Rattle.queries.proofs.NeededLemmas.{done_needed, one_needed, passed_enough, passed_within, taken_enough, taken_within}
use Rattle.queries.proofs.needed.NeedingDocumentFold.take.Goals as goal

pub returns-then-self-clause-takes : goal.returns-then-self-clause-takes
returns-then-self-clause-takes c = λ start all h. done_needed start c.args.self.now all h c.if-self.true (c.args.document.now ∷ [])

pub returns-then-not-branch-clause-takes : goal.returns-then-not-branch-clause-takes
returns-then-not-branch-clause-takes c = λ start all h.
    let now = c.args.self.now in
    let stages = pipeline_of now.pipeline.now in
    let d : Pairs = c.args.document.now in
    let is : takes stages d ≡ false = sym c.in_ok-takes_raw.ensures ∙ c.if-not-branch.true in
    one_needed start now all h c.if-self.false d now refl (record {
      enough = passed_enough stages d is now.needed.items;
      within = passed_within stages d is;
      most = λ yes. let both : true ≡ false = sym yes ∙ c.if-self.false in absurd cc;
    })

pub returns-clause-takes : goal.returns-clause-takes
returns-clause-takes c = λ start all h.
    let now = c.args.self.now in
    let stages = pipeline_of now.pipeline.now in
    let d : Pairs = c.args.document.now in
    let built : Pairs = c.in_ok-built.built in
    let next = c.in_ok-self.field-0 in
    let is : takes stages d ≡ true = sym c.in_ok-takes_raw.ensures ∙ c.if-not-branch.false in
    one_needed start now all h c.if-self.false d _ refl (record {
      enough = taken_enough stages d is now.needed.items next.items built c.in_ok-built.ensures.built.0
          (λ seen e takes_it. c.in_ok-self.ensures seen
          (subst (λ (v : Vec Pairs Global). IsEnough stages v.items seen) (sym c.replace-needed.ensures.value) e) takes_it);
      within = taken_within stages d is (subst IsWithin c.in_ok-built.ensures.built.0 c.in_ok-built.ensures.built.1);
      most = λ yes. subst (SufficesTaken stages) (c.len.ensures ∙ next.ok.0) (c.are_enough-self.ensures yes);
    })
