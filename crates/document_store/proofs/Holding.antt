-- What a slot holds: one document, which stands on a volume of its layout, and goes on being held.
use Rattle.std.proofs.Common.{◌≡◌, ℕ, List, ◌++◌, length, take, drop, sym, ap, ◌∙◌, subst, slice_index}
use Rattle.std.proofs.Math.Seq.{take-append_seam, drop-append_seam}
use Rattle.std.specs.Prelude.{IsTrue}
use Rattle.cell_types.specs.Image.{Image, Extends}
use Rattle.cell_types.specs.Layout.{Layout, reserve_at, outcome_at}
use Rattle.volume_meaning.specs.Documents.{Spells, Stands, document_at, stored_bytes}
use Rattle.volume_meaning.specs.Slots.{IsDone, IsDoneSlot}
use Rattle.volume_meaning.specs.Volumes.{IsVolume}
use Rattle.volume_meaning.proofs.Extending.{done_on, spells_on}
use Rattle.volume_meaning.proofs.Holding.{one_record_holds}
use Rattle.volume_meaning.proofs.OneDocument.{commits, reserves}
use Rattle.tamper_rules.specs.Rules.{HasDocument}
use Rattle.tamper_rules.proofs.GivenUp.{one_layout}
use Rattle.worm_device.specs.Views.{ViewState, Viewed}
use Rattle.append_file.proofs.Spelled.{spelled_once}
use Rattle.document_store.specs.Heads.{IsWholePart, SpellsNone}
use Rattle.document_store.specs.Looks.{IsPartOf}
use Rattle.document_store.specs.Standing.{HoldsDocument}
use Rattle.document_store.specs.declared.part.Part.{Part}
use Rattle.document_store.proofs.Parsing.{stored_fits}

-- a part goes on being one
pub part_on : {g : Layout} {old new : Image} {n : ℕ} {part : Part} → Extends old new → IsPartOf g old n part
    → IsPartOf g new n part
part_on e is = record {
  first = is.first;
  reserved = is.reserved;
  done = done_on e is.done;
  start_is = is.start_is;
}

-- a slot with a part is done
pub part_is_done : {g : Layout} {image : Image} {n : ℕ} {part : Part} → IsPartOf g image n part → IsDoneSlot g image n
part_is_done {g} {image} {n} {part} is = record {
  start = is.first;
  length = is.reserved;
  bytes = part.bytes;
  journal = part.journal;
  done = is.done;
}

-- a slot that holds a document is done
pub held_is_done : {g : Layout} {image : Image} {n : ℕ} {id body : List ℕ} → HoldsDocument g image n id body
    → IsDoneSlot g image n
held_is_done {g} {image} {n} {id} {body} h = record {
  start = h.start;
  length = h.reserved;
  bytes = length (stored_bytes id body);
  journal = h.journal;
  done = h.done;
}

-- a document goes on being held
pub held_on : {g : Layout} {old new : Image} {n : ℕ} {id body : List ℕ} → Extends old new
    → HoldsDocument g old n id body → HoldsDocument g new n id body
held_on e h = record {
  start = h.start;
  reserved = h.reserved;
  journal = h.journal;
  done = done_on e h.done;
  spells = spells_on _ _ e h.spells;
  is_identifier = h.is_identifier;
  is_body = h.is_body;
}

-- a document that a part holds goes on being there
pub has_document_on : {old new : Image} {start bytes : ℕ} → Extends old new → HasDocument old start bytes
    → HasDocument new start bytes
has_document_on e d = record {
  id = d.id;
  body = d.body;
  count = d.count;
  spells = spells_on _ _ e d.spells;
  is_identifier = d.is_identifier;
  is_body = d.is_body;
}

-- what was read whole goes on being so
pub whole_on : {old new : ViewState} {start bytes : ℕ} {id body : List ℕ} → Viewed old new
    → IsWholePart old start bytes id body → IsWholePart new start bytes id body
whole_on {old} {new} viewed w = record {
  count = w.count;
  identifier = w.identifier;
  most = w.most;
  told = λ tells.
      let told = w.told (subst IsTrue viewed.called.tells tells) in
      (told.0, spells_on _ _ viewed.image told.1);
}

-- a slot that is done has one part
pub one_part : (g : Layout) (image : Image) (n : ℕ) (part : Part) (start reserved bytes journal : ℕ)
    → IsPartOf g image n part → IsDone g image n start reserved bytes journal
    → (bytes ≡ part.bytes) × (part.start ≡ document_at start reserved bytes journal)
one_part g image n part start reserved bytes journal is done =
    let place = reserves _ _ _ _ (one_record_holds image (reserve_at n) _ _ done.commits.reserves.reserve
    is.done.commits.reserves.reserve) in
    let sizes = commits _ _ _ _ (one_record_holds image (outcome_at n) _ _ done.commits.outcome
    is.done.commits.outcome) in
    let at : document_at is.first is.reserved part.bytes part.journal ≡ document_at start reserved bytes journal = cc in
    (sizes.0, is.start_is ∙ at)

-- a document that was read whole is one of the part
abbrev pub whole_document : (v : ViewState) (start bytes : ℕ) (id body : List ℕ) → IsTrue v.base.tells
    → IsWholePart v start bytes id body → HasDocument v.image start bytes
whole_document v start bytes id body tells w = record {
  id = id;
  body = body;
  count = w.count;
  spells = (w.told tells).1;
  is_identifier = w.identifier;
  is_body = (w.told tells).0;
}

-- and the slot holds it
pub whole_is_held : (g : Layout) (v : ViewState) (n : ℕ) (part : Part) (id body : List ℕ) → IsTrue v.base.tells
    → IsPartOf g v.image n part → IsWholePart v part.start part.bytes id body → HoldsDocument g v.image n id body
whole_is_held g v n part id body tells is w = record {
  start = is.first;
  reserved = is.reserved;
  journal = part.journal;
  done = subst (λ (b : ℕ). IsDone g v.image n is.first is.reserved b part.journal) w.count is.done;
  spells = subst (λ (a : ℕ). Spells v.image a (stored_bytes id body))
      (subst (λ (b : ℕ). part.start ≡ document_at is.first is.reserved b part.journal) w.count is.start_is)
      (w.told tells).1;
  is_identifier = w.identifier;
  is_body = (w.told tells).0;
}

-- the part of a slot that holds a document has it
pub held_in_part : (g : Layout) (image : Image) (n : ℕ) (part : Part) (id body : List ℕ) → IsPartOf g image n part
    → HoldsDocument g image n id body → HasDocument image part.start part.bytes
held_in_part g image n part id body is h =
    let one = one_part g image n part h.start h.reserved (length (stored_bytes id body)) h.journal is h.done in
    record {
      id = id;
      body = body;
      count = sym one.0;
      spells = subst (λ (a : ℕ). Spells image a (stored_bytes id body)) (sym one.1) h.spells;
      is_identifier = h.is_identifier;
      is_body = h.is_body;
    }

-- where the part holds none, the slot does not
pub none_is_held : (g : Layout) (image : Image) (n : ℕ) (part : Part) → IsPartOf g image n part
    → SpellsNone image part.start part.bytes → (id body : List ℕ) → HoldsDocument g image n id body → ⊥
none_is_held g image n part is none id body h = none (held_in_part g image n part id body is h)

-- stored bytes are those of one document
pub one_stored : (a b c d : List ℕ) → stored_bytes a b ≡ stored_bytes c d → (a ≡ c) × (b ≡ d)
one_stored a b c d e =
    let count : length a ≡ length c = ap (λ (l : List ℕ). slice_index l 0) e in
    let rest : a ++ b ≡ c ++ d = ap (drop 1) e in (
      sym (take-append_seam a b) ∙ ap (take (length a)) rest ∙ ap (λ (n : ℕ). take n (c ++ d)) count
          ∙ take-append_seam c d,
      sym (drop-append_seam a b) ∙ ap (drop (length a)) rest ∙ ap (λ (n : ℕ). drop n (c ++ d)) count
          ∙ drop-append_seam c d,
    )

-- a part holds one document
pub one_in_part : (image : Image) (start bytes : ℕ) (p q : HasDocument image start bytes)
    → (p.id ≡ q.id) × (p.body ≡ q.body)
one_in_part image start bytes p q =
    one_stored p.id p.body q.id q.body
    (spelled_once image start (stored_bytes p.id p.body) (stored_bytes q.id q.body) (sym p.count ∙ q.count)
    (stored_fits p.id p.body p.is_identifier p.is_body) (stored_fits q.id q.body q.is_identifier q.is_body)
    p.spells q.spells)

-- a slot holds one document
pub held_is_one : (g : Layout) (image : Image) (n : ℕ) (a b c d : List ℕ) → HoldsDocument g image n a b
    → HoldsDocument g image n c d → (a ≡ c) × (b ≡ d)
held_is_one g image n a b c d p q =
    let place = reserves _ _ _ _ (one_record_holds image (reserve_at n) _ _ p.done.commits.reserves.reserve
    q.done.commits.reserves.reserve) in
    let sizes = commits _ _ _ _ (one_record_holds image (outcome_at n) _ _ p.done.commits.outcome
    q.done.commits.outcome) in
    let at : document_at q.start q.reserved (length (stored_bytes c d)) q.journal
    ≡ document_at p.start p.reserved (length (stored_bytes a b)) p.journal = cc in
    one_stored a b c d
    (spelled_once image (document_at p.start p.reserved (length (stored_bytes a b)) p.journal) (stored_bytes a b)
    (stored_bytes c d) sizes.0 (stored_fits a b p.is_identifier p.is_body) (stored_fits c d q.is_identifier q.is_body)
    p.spells (subst (λ (s : ℕ). Spells image s (stored_bytes c d)) at q.spells))

-- a document that is held stands, on a volume of this layout
pub held_stands : (g : Layout) (cells : ℕ) (image : Image) (n : ℕ) (id body : List ℕ) → IsVolume cells image g
    → HoldsDocument g image n id body → Stands cells image n id body
held_stands g cells image n id body volume h = record {
  layout = g;
  start = h.start;
  reserved = h.reserved;
  journal = h.journal;
  volume = volume;
  slot = h.done.commits.reserves.slot;
  done = h.done;
  spells = h.spells;
  is_identifier = h.is_identifier;
  is_body = h.is_body;
}

-- and one that stands is held
pub stands_held : (g : Layout) (cells : ℕ) (image : Image) (n : ℕ) (id body : List ℕ) → IsVolume cells image g
    → Stands cells image n id body → HoldsDocument g image n id body
stands_held g cells image n id body volume s = record {
  start = s.start;
  reserved = s.reserved;
  journal = s.journal;
  done = subst (λ (l : Layout). IsDone l image n s.start s.reserved (length (stored_bytes id body)) s.journal)
      (one_layout s.layout g s.volume volume) s.done;
  spells = s.spells;
  is_identifier = s.is_identifier;
  is_body = s.is_body;
}
