-- How the arrays of a message's sections grow.
use Rattle.std.proofs.Common.{◌≡◌, ◌≢◌, ℕ, ◌≤◌, List, [], ◌∷◌, ◌++◌, map, refl, sym, ap, subst, ◌∙◌, arith}
use Rattle.std.specs.Prelude.{Result, Ok, Err, Option, Some, None, option_map, is_some, MatchOption, Bool, true, false, not, ◌||◌, if◌then◌else◌}
use Rattle.std.specs.Str.{bytes_eq}
use Rattle.bson.proofs.PushLaws.{ne-bytes_eq}
use Rattle.bson.specs.EditPlaces.{append-none, append_items-none, append_items-one}
use Rattle.bson.specs.EditsLaws.{pairs_of-push, IsDocument-append}
use Rattle.bson.specs.Lawful.{Lacks, levels, IsName, IsTree, IsArray, IsDocument}
use Rattle.bson.specs.Lookup.{lookup}
use Rattle.bson.specs.Lookup.{stands_in}
use Rattle.bson_bytes.specs.Decoding.{Read, value_at}
use Rattle.bson.specs.View.{tree, pairs_of, names_of}
use Rattle.bson.specs.declared.value.Pair.{Pair}
use Rattle.bson.specs.Tree.{Tree, array, Pairs, no_pairs, pair, append, Items, no_items, item, append_items}
use Rattle.bson_bytes.specs.declared.fault.BsonFault.{BsonFault}
use Rattle.bson.specs.declared.kind.Kind.TheVariants as kinds
use Rattle.bson_bytes.specs.declared.fault.BsonFault.TheVariants as bson_faults
use Rattle.outcome.specs.Outcome.{◌>>=◌, unless, Fails}
use Rattle.op_msg.specs.Frame.{Section, Sequence, body, sequence, sequences_of, part_at, each_in, section_at, sections_in}
use Rattle.op_msg.specs.declared.fault.FrameFault.{FrameFault}
use Rattle.op_msg.proofs.SectionWalks.{one_more, no_more, part_shrinks, section_shrinks}
use Rattle.op_msg.specs.Request.{array_of, with_sequence, with_sequences}
use Rattle.op_msg.specs.Frame as frames
use Rattle.op_msg.specs.View.{with_document, joined, IsJoining}

-- these items, and behind them those of the documents
abbrev pub array_after : Items → List (List ℕ) → Result Items BsonFault
array_after ts documents = array_of documents >>= λ us. Ok (append_items ts us)

pub array_first : (documents : List (List ℕ)) → array_after no_items documents ≡ array_of documents
array_first documents = by (array_of documents)
  where
    by : (r : Result Items BsonFault) → (r >>= λ us. Ok (append_items no_items us)) ≡ r
    by (Ok ts) = refl
    by (Err e) = refl

pub array_last : (ts : Items) → array_after ts [] ≡ Ok ts
array_last ts = ap (λ (us : Items). Ok us) (append_items-none ts)

pub array_next : (ts : Items) (bytes : List ℕ) (documents : List (List ℕ))
    → array_after ts (bytes ∷ documents) ≡ (with_document ts bytes >>= λ us. array_after us documents)
array_next ts bytes documents = by (value_at 98 kinds.Document bytes)
  where
    behind : (t : Tree) (r : Result Items BsonFault)
        → ((r >>= λ us. Ok (item t us)) >>= λ us. Ok (append_items ts us)) ≡ (r >>= λ us. Ok (append_items (append_items ts (item t no_items)) us))
    behind t (Ok us) = ap (λ (vs : Items). Ok vs) (sym (append_items-one ts t us))
    behind t (Err e) = refl

    by : (r : Read Tree)
        → ((r >>= λ first. array_of documents >>= λ others. Ok (item first.0 others)) >>= λ us. Ok (append_items ts us))
        ≡ ((r >>= λ t. Ok (append_items ts (item t.0 no_items))) >>= λ us. array_after us documents)
    by (Ok t) = behind t.0 (array_of documents)
    by (Err e) = refl

-- a section more
pub sections_next : (ps : Pairs) (section : Section) (sections : List Section)
    → with_sequences ps (sequences_of (section ∷ sections))
    ≡ (with_sequences ps (sequences_of (section ∷ [])) >>= λ qs. with_sequences qs (sequences_of sections))
sections_next ps (body bytes) sections = refl
sections_next ps (sequence found) sections = by (with_sequence ps found)
  where
    by : (r : Result Pairs BsonFault)
        → (r >>= λ qs. with_sequences qs (sequences_of sections)) ≡ ((r >>= λ qs. with_sequences qs []) >>= λ qs. with_sequences qs (sequences_of sections))
    by (Ok qs) = refl
    by (Err e) = refl

pub not_there : (ps : Pairs) (name : List ℕ) → is_some (lookup ps name) ≡ false → Lacks ps name
not_there no_pairs name e = tt
not_there (pair other t ps) name e = by (bytes_eq name other) refl e (not_there ps name)
  where
    by : (b : Bool) → bytes_eq name other ≡ b → is_some (if b then Some t else lookup ps name) ≡ false → (is_some (lookup ps name) ≡ false → Lacks ps name)
        → (name ≢ other) × Lacks ps name
    by true is e ih = absurd cc
    by false is e ih = (ne-bytes_eq name other is, ih e)

pub found_none : {X Y : Type 0} (view : X → Y) (found : Option X) (there : Option Y) → option_map view found ≡ there → is_some found ≡ false
    → is_some there ≡ false
found_none view None there e none = ap is_some (sym e)
found_none view (Some x) there e none = absurd cc

-- ---- what stands at the front, as the loops take it

module _ (ts : Items) (rest : List ℕ) (x : List ℕ × List ℕ) (total : Result Items BsonFault) (so_far : array_after ts (each_in part_at rest).0 ≡ total)
    (e : part_at rest ≡ Ok x) where
  document_here : total ≡ (with_document ts x.0 >>= λ us. array_after us (each_in part_at x.1).0)
  document_here =
      sym so_far ∙ ap (λ (o : List (List ℕ) × List ℕ). array_after ts o.0) (one_more part_at part_shrinks rest x e) ∙ array_next ts x.0 (each_in part_at x.1).0

  pub document_more : (us : Items) → with_document ts x.0 ≡ Ok us → array_after us (each_in part_at x.1).0 ≡ total
  document_more us is = sym (document_here ∙ ap (λ (r : Result Items BsonFault). r >>= λ vs. array_after vs (each_in part_at x.1).0) is)

  pub document_fails : (fault : BsonFault) → Fails bson_faults.Memory fault (with_document ts x.0) → Fails bson_faults.Memory fault total
  document_fails fault f not_memory = document_here ∙ ap (λ (r : Result Items BsonFault). r >>= λ vs. array_after vs (each_in part_at x.1).0) (f not_memory)

pub documents_over : (ts : Items) (rest : List ℕ) (total : Result Items BsonFault) (fault : FrameFault) → array_after ts (each_in part_at rest).0 ≡ total
    → part_at rest ≡ Err fault → total ≡ Ok ts
documents_over ts rest total fault so_far e =
    sym so_far ∙ ap (λ (o : List (List ℕ) × List ℕ). array_after ts o.0) (no_more part_at rest fault e) ∙ array_last ts

abbrev joined_with : Pairs → List ℕ → Result Pairs BsonFault
joined_with ps rest = with_sequences ps (sequences_of (sections_in rest).0)

module _ (ps : Pairs) (rest : List ℕ) (x : Section × List ℕ) (total : Result Pairs BsonFault) (so_far : joined_with ps rest ≡ total)
    (e : section_at rest ≡ Ok x) where
  section_here : total ≡ (with_sequences ps (sequences_of (x.0 ∷ [])) >>= λ qs. joined_with qs x.1)
  section_here =
      sym so_far ∙ ap (λ (o : List Section × List ℕ). with_sequences ps (sequences_of o.0)) (one_more section_at section_shrinks rest x e)
      ∙ sections_next ps x.0 (sections_in x.1).0

  pub section_more : (qs : Pairs) → with_sequences ps (sequences_of (x.0 ∷ [])) ≡ Ok qs → joined_with qs x.1 ≡ total
  section_more qs is = sym (section_here ∙ ap (λ (r : Result Pairs BsonFault). r >>= λ us. joined_with us x.1) is)

  pub section_fails : (fault : BsonFault) → Fails bson_faults.Memory fault (with_sequences ps (sequences_of (x.0 ∷ []))) → Fails bson_faults.Memory fault total
  section_fails fault f not_memory = section_here ∙ ap (λ (r : Result Pairs BsonFault). r >>= λ us. joined_with us x.1) (f not_memory)

pub sections_over : (ps : Pairs) (rest : List ℕ) (total : Result Pairs BsonFault) (fault : FrameFault) → joined_with ps rest ≡ total
    → section_at rest ≡ Err fault → total ≡ Ok ps
sections_over ps rest total fault so_far e =
    sym so_far ∙ ap (λ (o : List Section × List ℕ). with_sequences ps (sequences_of o.0)) (no_more section_at rest fault e)

-- ---- fields that sections added

pub append_again : (ps qs us : Pairs) → append (append ps qs) us ≡ append ps (append qs us)
append_again no_pairs qs us = refl
append_again (pair name t ps) qs us = ap (pair name t) (append_again ps qs us)

pub pairs_joined : (ps qs : List Pair) → pairs_of (ps ++ qs) ≡ append (pairs_of ps) (pairs_of qs)
pairs_joined [] qs = refl
pairs_joined (p ∷ ps) qs = ap (pair p.name (tree p.value)) (pairs_joined ps qs)

-- one field more
pub joined_more : (ps : Pairs) (added : List Pair) (p : Pair) → joined ps (added ++ p ∷ []) ≡ append (joined ps added) (pair p.name (tree p.value) no_pairs)
joined_more ps added p = ap (append ps) (pairs_of-push added p) ∙ sym (append_again ps (pairs_of added) (pair p.name (tree p.value) no_pairs))

if_some : (b : Bool) (t : Tree) (o : Option Tree) → is_some (if b then Some t else o) ≡ (b || is_some o)
if_some true t o = refl
if_some false t o = refl

or_across : (a b c : Bool) → (a || (b || c)) ≡ (b || (a || c))
or_across true true c = refl
or_across true false c = refl
or_across false true c = refl
or_across false false c = refl

pub lookup_named : (ps : List Pair) (name : List ℕ) → stands_in (names_of ps) name ≡ is_some (lookup (pairs_of ps) name)
lookup_named [] name = refl
lookup_named (p ∷ ps) name =
    ap (λ (b : Bool). bytes_eq name p.name || b) (lookup_named ps name) ∙ sym (if_some (bytes_eq name p.name) (tree p.value) (lookup (pairs_of ps) name))

lookup_more : (ps : Pairs) (name other : List ℕ) (t : Tree)
    → is_some (lookup (append ps (pair name t no_pairs)) other) ≡ (bytes_eq other name || is_some (lookup ps other))
lookup_more no_pairs name other t = if_some (bytes_eq other name) t None
lookup_more (pair first u ps) name other t =
    if_some (bytes_eq other first) u (lookup (append ps (pair name t no_pairs)) other)
    ∙ ap (λ (b : Bool). bytes_eq other first || b) (lookup_more ps name other t)
    ∙ or_across (bytes_eq other first) (bytes_eq other name) (is_some (lookup ps other))
    ∙ ap (λ (b : Bool). bytes_eq other name || b) (sym (if_some (bytes_eq other first) u (lookup ps other)))

-- nothing was added yet
pub joining_start : (fields : List Pair) (names : List (List ℕ)) (added : List Pair) → IsDocument (pairs_of fields)
    → ((other : List ℕ) → stands_in names other ≡ stands_in (names_of fields) other) → added ≡ [] → IsJoining (pairs_of fields) names added
joining_start fields names added lawful same is =
    let none : joined (pairs_of fields) added ≡ pairs_of fields = ap (joined (pairs_of fields)) is ∙ append-none (pairs_of fields) in
    record {
      lawful = subst IsDocument (sym none) lawful;
      named = λ name. same name ∙ lookup_named fields name ∙ ap (λ (ps : Pairs). is_some (lookup ps name)) (sym none);
    }

-- a name that is new, or is not
module _ (ps : Pairs) (names : List (List ℕ)) (added : List Pair) (found : Sequence) (fresh : Bool) (joining : IsJoining ps names added)
    (is : fresh ≡ not (stands_in names found.name)) where
  pub name_repeated : fresh ≡ false → with_sequence (joined ps added) found ≡ Err bson_faults.Repeated
  name_repeated old =
      ap (λ (b : Bool). unless b bson_faults.Repeated (array_of found.documents >>= λ ts. Ok (append (joined ps added) (pair found.name (array ts) no_pairs))))
      (sym (joining.named found.name) ∙ turned (stands_in names found.name) (sym is ∙ old))
    where
      turned : (b : Bool) → not b ≡ false → b ≡ true
      turned true e = refl
      turned false e = absurd cc

  pub absent : fresh ≡ true → is_some (lookup (joined ps added) found.name) ≡ false
  absent new = sym (joining.named found.name) ∙ turned (stands_in names found.name) (sym is ∙ new)
    where
      turned : (b : Bool) → not b ≡ true → b ≡ false
      turned true e = absurd cc
      turned false e = refl

  pub name_new : fresh ≡ true
      → with_sequence (joined ps added) found ≡ (array_of found.documents >>= λ ts. Ok (append (joined ps added) (pair found.name (array ts) no_pairs)))
  name_new new =
      ap (λ (b : Bool). unless b bson_faults.Repeated (array_of found.documents >>= λ ts. Ok (append (joined ps added) (pair found.name (array ts) no_pairs))))
      (absent new)

  pub array_fails : fresh ≡ true → (fault : BsonFault) → Fails bson_faults.Memory fault (array_of found.documents)
      → Fails bson_faults.Memory fault (with_sequence (joined ps added) found)
  array_fails new fault f not_memory =
      name_new new ∙ ap (λ (r : Result Items BsonFault). r >>= λ ts. Ok (append (joined ps added) (pair found.name (array ts) no_pairs))) (f not_memory)

  pub array_joined : fresh ≡ true → (ts : Items) (p : Pair) → array_of found.documents ≡ Ok ts → p.name ≡ found.name → tree p.value ≡ array ts
      → with_sequence (joined ps added) found ≡ Ok (joined ps (added ++ p ∷ []))
  array_joined new ts p e named valued =
      name_new new ∙ ap (λ (r : Result Items BsonFault). r >>= λ us. Ok (append (joined ps added) (pair found.name (array us) no_pairs))) e
      ∙ (λ i. Ok (append (joined ps added) (pair (sym named i) (sym valued i) no_pairs))) ∙ ap (λ (qs : Pairs). Ok qs) (sym (joined_more ps added p))

  pub joining_more : fresh ≡ true → (p : Pair) (ts : Items) (later : List (List ℕ)) → p.name ≡ found.name → tree p.value ≡ array ts → IsName p.name → IsArray ts
      → ((other : List ℕ) → stands_in later other ≡ (bytes_eq other found.name || stands_in names other)) → IsJoining ps later (added ++ p ∷ [])
  joining_more new p ts later named valued lawful_name lawful_array inserted =
      let more = joined_more ps added p in
      let lacks = subst (Lacks (joined ps added)) (sym named) (not_there (joined ps added) found.name (absent new)) in
      let lawful_tree = subst IsTree (sym valued) lawful_array.lawful in
      let deep : levels (tree p.value) ≤ 99 = omega (arith, ap levels valued, lawful_array.depth) in
      record {
        lawful = subst IsDocument (sym more) (IsDocument-append (joined ps added) p.name (tree p.value) joining.lawful lawful_name lawful_tree deep lacks);
        named = λ other.
            inserted other ∙ (λ i. bytes_eq other (sym named i) || joining.named other i) ∙ sym (lookup_more (joined ps added) p.name other (tree p.value))
            ∙ ap (λ (qs : Pairs). is_some (lookup qs other)) (sym more);
      }

-- what finds no name
pub none_split : {X : Type 0} (found : Option X) (a : Type 0) (b : X → Type 0) → is_some found ≡ false → MatchOption found a b → a
none_split None a b e m = m
none_split (Some x) a b e m = absurd cc

-- no section has a name
pub nothing_joined : (ps : Pairs) (sections : List Section) → frames.names_of sections ≡ [] → with_sequences ps (sequences_of sections) ≡ Ok ps
nothing_joined ps sections e = by (sequences_of sections) e
  where
    by : (found : List Sequence) → map (λ s. s.name) found ≡ [] → with_sequences ps found ≡ Ok ps
    by [] e = refl
    by (s ∷ found) e = absurd cc
