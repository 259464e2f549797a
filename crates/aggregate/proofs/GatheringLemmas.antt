-- Documents that are gathered into groups one after the other.
use Rattle.std.proofs.Common.{◌≡◌, ℕ, Bool, true, false, Option, Some, None, List, [], ◌∷◌, ◌++◌, Result, Ok, Err, map, refl, sym, ap, subst, ◌∙◌}
use Rattle.std.proofs.Common.{append_assoc}
use Rattle.std.specs.Prelude.{is_some, IfOk}
use Rattle.std.specs.Global.{Vec}
use Rattle.std.specs.List.{filter}
use Rattle.std.proofs.lemmas.List.{append-nil}
use Rattle.bson.specs.Tree.{Tree, Pairs}
use Rattle.outcome.specs.Outcome.{◌>>=◌, Gives}
use Rattle.path.specs.declared.refusal.Refusal.{Refusal}
use Rattle.path.specs.declared.refusal.Refusal.TheVariants as refusals
use Rattle.aggregate.specs.Gathering.{HasGathered, after_groups, unless_refused, with_more}
use Rattle.aggregate_model.specs.Group.{Grouping, grouped, id_value}
use Rattle.pipelines.specs.GroupView.{grouping_of}
use Rattle.aggregate.specs.Groups.{entries_of, IsIndexed}
use Rattle.aggregate_model.specs.Limits.{first_fault, if_faultless, within_limits}
use Rattle.aggregate_model.specs.Pipeline.{run}
use Rattle.aggregate_model.specs.Stage.{Stage, group_stage}
use Rattle.aggregate.specs.Table.{Entry, entry_documents, grouped_from, put_document}
use Rattle.aggregate_model.specs.Taking.{behind_match, takes}
use Rattle.aggregate_model.specs.TakingLaws.{stays_within}
use Rattle.pipelines.specs.View.{stage_of, pipeline_of}
use Rattle.aggregate.specs.declared.gathering.Gathering.{Gathering}
use Rattle.aggregate.proofs.GroupLemmas.{grouped_is}
use Rattle.aggregate.proofs.TakingLemmas.{groups_taken}

refused_anyway : (o : Option Refusal) → is_some o ≡ true → (a b : Result (List Pairs) Refusal) → unless_refused o a ≡ unless_refused o b
refused_anyway None is a b = absurd cc
refused_anyway (Some e) is a b = refl

module _ (stages : List Stage) (g : Gathering) where
  abbrev by : Grouping
  by = grouping_of g.grouping.now

  abbrev those : List Pairs → List Pairs
  those = filter (takes stages)

  pub begun : pipeline_of g.pipeline.now ≡ stages → behind_match stages ≡ group_stage by ∷ map stage_of g.behind.now → IsIndexed g.groups
      → entries_of g.groups ≡ [] → g.refused ≡ None → HasGathered stages [] g
  begun same first indexed none fine = record {
    pipeline = same;
    first = first;
    indexed = indexed;
    gathered = λ more. ap (λ (o : Option Refusal). unless_refused o (grouped_from by (those more) (entries_of g.groups))) fine
        ∙ ap (grouped_from by (those more)) none ∙ grouped_is by (those more);
  }

  module _ (all : List Pairs) (h : HasGathered stages all g) where
    pub stays_refused : is_some g.refused ≡ true → (more : List Pairs) → HasGathered stages (all ++ more) g
    stays_refused is more = record {
      pipeline = h.pipeline;
      first = h.first;
      indexed = h.indexed;
      gathered = λ behind. refused_anyway g.refused is (grouped_from by (those behind) (entries_of g.groups))
          (grouped_from by (those (more ++ behind)) (entries_of g.groups)) ∙ h.gathered (more ++ behind)
          ∙ ap (λ (xs : List Pairs). grouped by (those xs)) (sym (append_assoc all more behind));
    }

    module _ (d : Pairs) where
      further : (more : List Pairs) → with_more g (those (d ∷ more)) ≡ grouped by (those ((all ++ d ∷ []) ++ more))
      further more = h.gathered (d ∷ more) ∙ ap (λ (xs : List Pairs). grouped by (those xs)) (sym (append_assoc all (d ∷ []) more))

      left_out : takes stages d ≡ false → (more : List Pairs) → those more ≡ those (d ∷ more)
      left_out is more = rw is refl

      let_in : takes stages d ≡ true → (more : List Pairs) → d ∷ those more ≡ those (d ∷ more)
      let_in is more = rw is refl

      pub passed : takes stages d ≡ false → HasGathered stages (all ++ d ∷ []) g
      passed is = record {
        pipeline = h.pipeline;
        first = h.first;
        indexed = h.indexed;
        gathered = λ more. ap (with_more g) (left_out is more) ∙ further more;
      }

      -- with the document in its group, or refused for it
      module _ (next : Gathering) (pipeline : next.pipeline ≡ g.pipeline) (grouping : next.grouping ≡ g.grouping) (behind : next.behind ≡ g.behind)
          (is : takes stages d ≡ true) (fine : g.refused ≡ None) where
        given : (more : List Pairs)
            → (id_value by.id d >>= (λ id. grouped_from by (those more) (put_document by.fields (id, d) (entries_of g.groups))))
            ≡ grouped by (those ((all ++ d ∷ []) ++ more))
        given more =
            ap (λ (o : Option Refusal). unless_refused o (grouped_from by (d ∷ those more) (entries_of g.groups))) (sym fine)
            ∙ ap (with_more g) (let_in is more) ∙ further more

        on : IsIndexed next.groups
            → ((more : List Pairs) → with_more next (those more) ≡ grouped by (those ((all ++ d ∷ []) ++ more))) → HasGathered stages (all ++ d ∷ []) next
        on indexed gathered = record {
          pipeline = ap (λ p. pipeline_of p.now) pipeline ∙ h.pipeline;
          first = h.first ∙ (λ i. group_stage (grouping_of (sym grouping i).now) ∷ map stage_of (sym behind i).now);
          indexed = indexed;
          gathered = λ more. gathered more ∙ ap (λ b. grouped (grouping_of b.now) (those ((all ++ d ∷ []) ++ more))) (sym grouping);
        }

        pub put_in : (id : Tree) → id_value by.id d ≡ Ok id → next.refused ≡ None → IsIndexed next.groups
            → entries_of next.groups ≡ put_document by.fields (id, d) (entries_of g.groups) → HasGathered stages (all ++ d ∷ []) next
        put_in id identified still indexed put = on indexed
            (λ more.
            ap (λ (o : Option Refusal). unless_refused o (grouped_from (grouping_of next.grouping.now) (those more) (entries_of next.groups))) still
            ∙ ap (λ b. grouped_from (grouping_of b.now) (those more) (entries_of next.groups)) grouping
            ∙ ap (grouped_from by (those more)) put
            ∙ ap (λ (r : Result Tree Refusal). r >>= (λ t. grouped_from by (those more) (put_document by.fields (t, d) (entries_of g.groups)))) (sym identified)
            ∙ given more)

        pub refused_for : (e : Refusal) → id_value by.id d ≡ Err e → next.refused ≡ Some e → IsIndexed next.groups
            → HasGathered stages (all ++ d ∷ []) next
        refused_for e identified refused indexed = on indexed
            (λ more.
            ap (λ (o : Option Refusal). unless_refused o (grouped_from (grouping_of next.grouping.now) (those more) (entries_of next.groups))) refused
            ∙ ap (λ (r : Result Tree Refusal). r >>= (λ t. grouped_from by (those more) (put_document by.fields (t, d) (entries_of g.groups)))) (sym identified)
            ∙ given more)

    -- ---- in the end

    module _ (limit : ℕ) (none : first_fault limit all ≡ None) where
      abbrev finished : Result (List Pairs) Refusal → Result (List Pairs) Refusal
      finished groups = (groups >>= within_limits limit) >>= run (map stage_of g.behind.now) limit

      finished_is : finished (unless_refused g.refused (entry_documents by.fields (entries_of g.groups))) ≡ run stages limit all
      finished_is =
          ap finished (h.gathered [] ∙ ap (λ (xs : List Pairs). grouped by (those xs)) (append-nil all))
          ∙ groups_taken stages (map stage_of g.behind.now) by h.first limit all none

      as_refused : (o : Option Refusal) → g.refused ≡ o
          → finished (unless_refused o (entry_documents by.fields (entries_of g.groups))) ≡ run stages limit all
      as_refused o is = ap (λ (p : Option Refusal). finished (unless_refused p (entry_documents by.fields (entries_of g.groups)))) (sym is) ∙ finished_is

      pub finished_refused : (e : Refusal) → g.refused ≡ Some e → run stages limit all ≡ Err e
      finished_refused e is = sym (as_refused (Some e) is)

      pub finished_fine : g.refused ≡ None → after_groups by (entries_of g.groups) (map stage_of g.behind.now) limit ≡ run stages limit all
      finished_fine is = as_refused None is

-- what is left of groups is within the limits
module _ (by : Grouping) (entries : List Entry) (stages : List Stage) (limit : ℕ) where
  finished_within : (es : List Pairs) (groups : Result (List Pairs) Refusal) → ((groups >>= within_limits limit) >>= run stages limit) ≡ Ok es
      → first_fault limit es ≡ None
  finished_within es (Err e) is = absurd cc
  finished_within es (Ok ds) is = judged (first_fault limit ds) refl is
    where
      judged : (o : Option Refusal) → first_fault limit ds ≡ o → (if_faultless o ds >>= run stages limit) ≡ Ok es → first_fault limit es ≡ None
      judged None none f = stays_within stages limit ds es none f
      judged (Some e) none f = absurd cc

  pub gives_within : (r : Result (Vec Pairs) Refusal) → Gives refusals.OutOfMemory (λ v. v.items) r (after_groups by entries stages limit)
      → IfOk r (λ v. first_fault limit v.items ≡ None)
  gives_within (Ok v) gives = finished_within v.items (entry_documents by.fields entries) gives
  gives_within (Err e) gives = tt
