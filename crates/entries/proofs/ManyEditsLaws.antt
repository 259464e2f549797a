-- Many edits noted one after the other.
use Rattle.std.proofs.Common.{◌≡◌, List, [], ◌∷◌, ◌++◌, refl, sym, ap, subst, ◌∙◌, append_assoc, append-nil}
use Rattle.tree_model.specs.Keys.{edit_keys}
use Rattle.tree_model.specs.Keys.{Entry, Edit, Rises, change}
use Rattle.entries.specs.EditList.{with_edit}
use Rattle.entries.specs.Indexed.{with_edits, NotesUpTo, NotesSome, GoesOnBy}
use Rattle.entry_model.specs.State.{Collection}
use Rattle.entry_model.specs.StateEntries.{Spells, Leads}
use Rattle.entries.proofs.EditListLaws.{with_change, with_rises}
use Rattle.entries.proofs.EditOrderLaws.{change_append}

pub with_edits-append : (es fs old : List Edit) → with_edits (es ++ fs) old ≡ with_edits fs (with_edits es old)
with_edits-append [] fs old = refl
with_edits-append (e ∷ es) fs old = with_edits-append es fs (with_edit e old)

-- ---- the steps of a loop

pub begins : (old all : List Edit) → NotesUpTo old all all old
begins old all = record { noted = []; split = refl; same = refl }

pub goes_further : (old all left es later mid new : List Edit) → NotesUpTo old all left mid → left ≡ es ++ later → new ≡ with_edits es mid
    → NotesUpTo old all later new
goes_further old all left es later mid new h cut is = record {
  noted = h.noted ++ es;
  split = h.split ∙ ap (λ (xs : List Edit). h.noted ++ xs) cut ∙ sym (append_assoc h.noted es later);
  same = is ∙ ap (with_edits es) h.same ∙ sym (with_edits-append h.noted es old);
}

pub stops : (old all left es later mid new : List Edit) → NotesUpTo old all left mid → left ≡ es ++ later → NotesSome mid es new → NotesSome old all new
stops old all left es later mid new h cut some = (
  some.0 ++ later,
  record {
    noted = h.noted ++ some.1.noted;
    split = h.split ∙ ap (λ (xs : List Edit). h.noted ++ xs) (cut ∙ ap (λ (xs : List Edit). xs ++ later) some.1.split ∙ append_assoc some.1.noted some.0 later)
        ∙ sym (append_assoc h.noted some.1.noted (some.0 ++ later));
    same = some.1.same ∙ ap (with_edits some.1.noted) h.same ∙ sym (with_edits-append h.noted some.1.noted old);
  },
)

pub stays : (old all left new mid : List Edit) → NotesUpTo old all left mid → new ≡ mid → NotesSome old all new
stays old all left new mid h is = (left, record { noted = h.noted; split = h.split; same = is ∙ h.same })

pub ends : (old all left new : List Edit) → NotesUpTo old all left new → left ≡ [] → new ≡ with_edits all old
ends old all left new h none =
    h.same ∙ ap (λ (es : List Edit). with_edits es old) (sym (h.split ∙ ap (λ (xs : List Edit). h.noted ++ xs) none ∙ append-nil h.noted))

-- ---- what they make of a map

pub with_edits_change : (es fs : List Edit) → Rises (edit_keys fs) → GoesOnBy fs es (with_edits es fs)
with_edits_change [] fs up xs h = refl
with_edits_change (e ∷ es) fs up xs h =
    with_edits_change es (with_edit e fs) (with_rises e fs up) xs h ∙ ap (change es) (with_change e fs xs up h)

pub goes_on : (old es mid fs new : List Edit) → GoesOnBy old es mid → GoesOnBy mid fs new → GoesOnBy old (es ++ fs) new
goes_on old es mid fs new first second xs h =
    second xs h ∙ ap (change fs) (first xs h) ∙ sym (change_append es fs (change old xs))

pub goes_there : (old es new : List Edit) (a b c : List Collection) → GoesOnBy old es new → Leads old a b → Leads es b c → Leads new a c
goes_there old es new a b c continues first second xs h =
    subst (λ (ys : List Entry). Spells ys c) (sym (continues xs h.rises)) (second (change old xs) (first xs h))

pub noted_goes : (es old new : List Edit) → Rises (edit_keys old) → new ≡ with_edits es old → GoesOnBy old es new
noted_goes es old new up is = subst (GoesOnBy old es) (sym is) (with_edits_change es old up)

pub noted_leads : (es old new : List Edit) (a b c : List Collection) → Rises (edit_keys old) → new ≡ with_edits es old → Leads old a b → Leads es b c
    → Leads new a c
noted_leads es old new a b c up is = goes_there old es new a b c (noted_goes es old new up is)
