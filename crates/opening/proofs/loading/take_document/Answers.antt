use Rattle.std.proofs.Common.{◌≡◌, ◌+◌, Some, map, sym, ap, subst}
use Rattle.btree.specs.Scan.{entry_in}
use Rattle.opening.specs.TurnStates.{TurnStates}
use Rattle.opening.specs.Judging.{IsLoadingAs, numbered}
use Rattle.opening.specs.Loading.{named_as}
use Rattle.opening.proofs.LoadingLemmas.{document_failed, document_loading, document_taken}
use Rattle.opening.proofs.loading.take_document.Goals as goal

pub returns-in-Ok-clause-loading : goal.returns-in-Ok-clause-loading
returns-in-Ok-clause-loading g c =
    let number = c.args.number in
    let names = map named_as c.args.loading.now.names.items in
    let of = c.in-Some.of.now in
    let told : numbered number names ≡ Some (named_as of) =
    subst (λ ns. numbered number (map named_as ns) ≡ Some (named_as of)) c.deref.ensures.value c.in-Some.ensures.some in
    subst (IsLoadingAs names) (sym (ap (λ (k : TurnStates). k.now) c.change.ensures))
    (document_loading names c.args.told.now.value.now number (named_as of) (entry_in c.args.entry.now) c.requires told c.in-Ok.document c.in-Ok.ensures.stored)

pub returns-in-Ok-clause-judges : goal.returns-in-Ok-clause-judges
returns-in-Ok-clause-judges g c =
    let number = c.args.number in
    let loading = c.args.loading.now in
    let names = map named_as loading.names.items in
    let of = c.in-Some.of.now in
    let told : numbered number names ≡ Some (named_as of) =
    subst (λ ns. numbered number (map named_as ns) ≡ Some (named_as of)) c.deref.ensures.value c.in-Some.ensures.some in
    let more : c.in-Some-checked_add.documents ≡ loading.documents + 1 = c.in-Some-checked_add.ensures.1 in
    rw more (document_taken names c.args.told.now.value.now number (named_as of)
    (entry_in c.args.entry.now) c.requires told g.D.Disk.history loading.documents loading.keys loading.seen c.args.file.now c.judge_document.new.file
    c.in-Ok.document c.in-Ok.keys c.change.new.self.value.now
    (ap (λ (k : TurnStates). k.now) c.change.ensures) c.in-Ok.ensures.stored c.in-Ok.ensures.judges)

pub returns-in-Err-clause-judges : goal.returns-in-Err-clause-judges
returns-in-Err-clause-judges g c =
    let number = c.args.number in
    let loading = c.args.loading.now in
    let names = map named_as loading.names.items in
    let of = c.in-Some.of.now in
    let told : numbered number names ≡ Some (named_as of) =
    subst (λ ns. numbered number (map named_as ns) ≡ Some (named_as of)) c.deref.ensures.value c.in-Some.ensures.some in
    document_failed names c.args.told.now.value.now number (named_as of)
    (entry_in c.args.entry.now) c.requires told g.D.Disk.history loading.documents loading.keys loading.seen c.args.file.now c.judge_document.new.file
    c.in-Err.fault _ c.in-Err.ensures.judges
