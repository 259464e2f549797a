use Rattle.std.proofs.Common.{List, arith, refl}
use Rattle.std.specs.Option.{option_map}
use Rattle.index.specs.View.{texts_of}
use Rattle.entry_model.specs.State.{Collection}
use Rattle.collections.specs.IndexTexts.{AreNextTexts, AreReadNext, Indexed, IsNumberedIndex}
use Rattle.collections.specs.declared.index_texts.NextTexts.{NextTexts}
use Rattle.collections.proofs.BelowLemmas.{asks_version}
use Rattle.collections.proofs.WalkLemmas.{no_more_documents}
use Rattle.collections.proofs.collections.Collections.next_texts_in.Goals as goal

pub returns : goal.returns
returns g c =
    let next : List Collection → Indexed → NextTexts → Type 0 =
    λ now at found. AreNextTexts c.args.first.now c.args.last.now c.args.most at (option_map (λ v. v.items) found.next) (texts_of found.texts.items) in
    let read : List Collection → Indexed → NextTexts → Type 0 =
    λ now at found. AreReadNext c.args.first.now c.args.last.now c.args.most at (option_map (λ v. v.items) found.next) (texts_of found.texts.items) in
    asks_version g.D.Disk.history (IsNumberedIndex c.args.number c.args.index) next c.args.self.now c.texts_from.new.self c.texts_from.result
    c.args.version.root c.texts_from.ensures read c.args.version refl
    (λ now h at place found told. record {
      told = told;
      few = omega (
        arith,
        no_more_documents h.entries now at.collection c.args.number (record { lawful = h.state; spells = h.spells }) place.numbered,
        h.few,
      );
    })
