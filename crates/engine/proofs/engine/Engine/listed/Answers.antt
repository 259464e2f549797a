use Rattle.std.proofs.Common.{◌≡◌, List, Vec, Global, true, false, map, refl, sym, ap, subst, ◌∙◌}
use Rattle.std.specs.Prelude.{All}
use Rattle.std.proofs.lemmas.Result.{err_from_is_err_and}
use Rattle.bson.specs.Tree.{Pairs}
use Rattle.collections.specs.Lookups.{name_of}
use Rattle.collections.specs.declared.lookups.Name.{Name}
use Rattle.database_model.specs.Lawful.{IsWithin}
use Rattle.database_model.specs.ListCollections.{listed, names_behind, names_in}
use Rattle.engine.specs.View.{world}
use Rattle.engine.proofs.Listing.{go_into_one, listed_same}
use Rattle.engine.proofs.LookingLemmas.{looks_memory, reads_so}
use Rattle.walks.proofs.WithinLemmas.{all_within, within_all}
use Rattle.engine.proofs.engine.Engine.listed.Goals as goal

pub returns-in_err-names-clause-looks : goal.returns-in_err-names-clause-looks
returns-in_err-names-clause-looks g c =
    let old = c.args.self.now in
    let e = err_from_is_err_and c.from_residual.result c.from_residual.ensures.1 in
    rw (e.1, e.2) (record {
      reads = reads_so g.D.Disk.history old (record old { file = c.names.new.self }) c.requires refl refl refl c.names.ensures.extends c.names.ensures.unchanged
          c.names.ensures.same;
      answers = λ k. c.in_err-names.ensures.answers k old.told.value.start (world old).collections c.requires.file;
    })

pub returns-in_err-listed-clause-looks : goal.returns-in_err-listed-clause-looks
returns-in_err-listed-clause-looks g c =
    let old = c.args.self.now in
    let new = record old { file = c.names.new.self } in
    let e = err_from_is_err_and c.from_residual-in_err-listed.result c.from_residual-in_err-listed.ensures.1 in
    rw e.1 (looks_memory g.D.Disk.history (λ now (found : Vec Pairs Global). found.items ≡ map listed (names_in c.args.front.now now)) old new e.0 e.2
    (reads_so g.D.Disk.history old new c.requires refl refl refl c.names.ensures.extends c.names.ensures.unchanged c.names.ensures.same))

pub returns-then-not-are_within-clause-looks : goal.returns-then-not-are_within-clause-looks
returns-then-not-are_within-clause-looks g c =
    let old = c.args.self.now in
    let front = c.args.front.now in
    let cs = (world old).collections in
    record {
      reads = reads_so g.D.Disk.history old (record old { file = c.names.new.self }) c.requires refl refl refl c.names.ensures.extends c.names.ensures.unchanged
          c.names.ensures.same;
      answers = λ k.
          let read = c.in_ok-names.ensures.answers k old.told.value.start cs c.requires.file in
          let is : c.deref-2.result.now ≡ map listed (names_in front cs) =
          c.deref-2.ensures.value ∙ listed_same front c.in_ok-names.names.items cs c.in_ok-listed.listed.items read
          (c.in_ok-listed.ensures ∙ ap (λ (ns : List Name). map listed (names_behind front (map name_of ns))) c.deref.ensures.value) in
          let fit = (go_into_one front cs c.requires.lawful.kept c.requires.lawful.few).within in
          let both : true ≡ false =
          sym (within_all c.deref-2.result.now (subst (All IsWithin) (sym is) fit)) ∙ sym c.are_within.ensures ∙ c.if-not-are_within.true in
          absurd cc;
    }

pub returns-clause-looks : goal.returns-clause-looks
returns-clause-looks g c =
    let old = c.args.self.now in
    let front = c.args.front.now in
    record {
      reads = reads_so g.D.Disk.history old (record old { file = c.names.new.self }) c.requires refl refl refl c.names.ensures.extends c.names.ensures.unchanged
          c.names.ensures.same;
      answers = λ k.
          let read = c.in_ok-names.ensures.answers k old.told.value.start (world old).collections c.requires.file in
          listed_same front c.in_ok-names.names.items (world old).collections c.in_ok-listed.listed.items read
          (c.in_ok-listed.ensures ∙ ap (λ (ns : List Name). map listed (names_behind front (map name_of ns))) c.deref.ensures.value);
    }

pub returns-clause-within : goal.returns-clause-within
returns-clause-within g c =
    subst (λ (ds : List Pairs). All IsWithin ds) c.deref-2.ensures.value
    (all_within c.deref-2.result.now (sym c.are_within.ensures ∙ c.if-not-are_within.false))
