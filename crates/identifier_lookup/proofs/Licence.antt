-- The licence of what a walk names: where nobody else wrote, its rule is broken there.
use Rattle.std.proofs.Common.{◌≡◌, ◌≤◌, ◌<◌, ◌+◌, ◌/◌, ◌∙◌, ◌⊎◌, ⊎_elim, inl, inr, ℕ, List, Option, Some, None, ap, sym, subst, arith}
use Rattle.sha2.specs.Sha256.{sha256}
use Rattle.cell_types.specs.Image.{Image, Extends, IsUnchanged}
use Rattle.cell_types.specs.Layout.{Layout, LiesIn, Root, outcome_at, reserve_at}
use Rattle.cell_types.specs.declared.record_cell.RecordCell.TheVariants.{Bucket}
use Rattle.cell_types.specs.declared.refusal.Evidence.{Evidence}
use Rattle.volume_meaning.specs.Documents.{document_at, stored_bytes, Spells}
use Rattle.volume_meaning.specs.Slots.{IsDone, IsDoneSlot, IsHorizon, IsLive, Stores}
use Rattle.volume_meaning.specs.Volumes.{Holds, IsVolume}
use Rattle.volume_meaning.proofs.Extending.{done_slot_on}
use Rattle.volume_meaning.proofs.Holding.{one_record_holds}
use Rattle.volume_meaning.specs.HashPaths.{nibble}
use Rattle.volume_meaning.proofs.Digests.{digest_is_bytes}
use Rattle.tamper_rules.specs.Rules.{Buckets, Documents, HasDocument, IsBroken, IsOfPool}
use Rattle.tamper_rules.specs.declared.numbers.TheConstants.{BROKEN_DOCUMENT, DONE_CELL, FAKE_BUCKET, OUTCOME_CELL, RESERVE_CELL}
use Rattle.worm_device.specs.Views.{ViewState, Viewed}
use Rattle.worm_device.proofs.Counting.{still_second}
use Rattle.worm_device.proofs.Resting.{rests_of}
use Rattle.commit_record.specs.States.{IsNoState, done_abandoned, done_unended, done_unreserved, done_wrongly, ends_unreserved, ends_unstamped, ends_wrongly, reserves_none}
use Rattle.document_store.specs.Looks.{NamesDocument, of_document, of_state}
use Rattle.document_store.specs.Standing.{HoldsDocument}
use Rattle.document_store.proofs.Holding.{held_on}
use Rattle.hash_tree.specs.Levels.{AreBounds, IsLevelReached, IsNodeWithin, bucket_at, node_in, node_of}
use Rattle.hash_tree.specs.declared.level.ChildCell.{ChildCell}
use Rattle.hash_tree.specs.declared.level.Level.{Level}
use Rattle.identifier_lookup.specs.Candidates.{IsFake}
use Rattle.identifier_lookup.specs.Walks.{IsOfSlot, IsPathLicensed, IsWalkRule}
use Rattle.identifier_lookup.specs.declared.candidates.Named.{Named}

-- what is no state of a slot is one of its cells, by the rule of that cell
state_cell : {g : Layout} {before after : Image} {n : ℕ} (e : Evidence) → IsNoState g before after n e.rule e.cell
    → IsOfSlot n e
state_cell e (reserves_none rule cell none) = inl (rule, cell)
state_cell e (ends_unreserved rule cell blank) = inr (inl (rule, cell))
state_cell e (ends_wrongly start length rule cell reserves not_given_up not_stated) = inr (inl (rule, cell))
state_cell e (ends_unstamped start length bytes journal rule cell reserves stated fits stamped lacks) =
    inr (inl (rule, cell))
state_cell e (done_unreserved rule cell blank unended) = inr (inr (inl (rule, cell)))
state_cell e (done_unended start length rule cell reserves blank) = inr (inr (inl (rule, cell)))
state_cell e (done_abandoned start length rule cell given_up) = inr (inr (inl (rule, cell)))
state_cell e (done_wrongly start length bytes journal rule cell states other) = inr (inr (inl (rule, cell)))

-- and so is what names its document
pub slot_cell : {g : Layout} {n : ℕ} {old new : ViewState} {e : Evidence} → NamesDocument g n old new e → IsOfSlot n e
slot_cell {e = e} (of_state out) = state_cell e out.seen
slot_cell (of_document broken) = inr (inr (inr (broken.rule, broken.cell)))

-- a half byte of a digest
pub half_byte : (id : List ℕ) (v : ℕ) → nibble (sha256 id) v < 16
half_byte id v = let b = (digest_is_bytes id).each (v / 2) in grind (arith, b)

-- what is unchanged is extended both ways
same_back : {old new : Image} → IsUnchanged old new → Extends new old
same_back same = record { keeps = λ cell value stands. sym (same cell) ∙ stands }

done_back : {g : Layout} {old new : Image} {n : ℕ} → Extends new old → IsDoneSlot g new n → IsDoneSlot g old n
done_back e d = done_slot_on e e d

-- a document that the cells of a done slot spell is held
holds_spelled : {g : Layout} {image : Image} {n start reserved bytes journal : ℕ}
    → IsDone g image n start reserved bytes journal
    → (h : HasDocument image (document_at start reserved bytes journal) bytes) → HoldsDocument g image n h.id h.body
holds_spelled {g} {image} {n} {start} {reserved} {bytes} {journal} d h = record {
  start = start;
  reserved = reserved;
  journal = journal;
  done = subst (λ (k : ℕ). IsDone g image n start reserved k journal) h.count d;
  spells = subst (λ (k : ℕ). Spells image (document_at start reserved k journal) (stored_bytes h.id h.body)) h.count
      h.spells;
  is_identifier = h.is_identifier;
  is_body = h.is_body;
}

-- a done slot that holds no document breaks the rule of documents at its commit cell
document_broken : {cells : ℕ} {g : Layout} {image : Image} {n rule cell : ℕ} → IsVolume cells image g
    → rule ≡ BROKEN_DOCUMENT → cell ≡ outcome_at n → (d : IsDoneSlot g image n)
    → ((id body : List ℕ) → HoldsDocument g image n id body → ⊥) → IsBroken cells image rule cell
document_broken {cells} {g} {image} {n} {rule} {cell} volume named at d none =
    let stores : Stores g image n d.start d.length d.bytes d.journal =
    record { commits = d.done.commits; done = inr d.done.done } in
    record {
      layout = g;
      volume = volume;
      rule = Documents;
      named = named;
      place = (n, d.done.commits.reserves.slot, at);
      written = record {
        found = d.done.commits.outcome.cell;
        stands = ap image at ∙ d.done.commits.outcome.stands;
      };
      not_met = λ met.
          let h = met n d.done.commits.reserves.slot at _ _ _ _ stores in
          none h.id h.body (holds_spelled d.done h);
    }

-- cells that are no state name one of the first three rules
pub state_rule : {g : Layout} {before after : Image} {n rule cell : ℕ} → IsNoState g before after n rule cell
    → (rule ≡ RESERVE_CELL) ⊎ (rule ≡ OUTCOME_CELL) ⊎ (rule ≡ DONE_CELL)
state_rule (reserves_none r c never) = inl r
state_rule (ends_unreserved r c blank) = inr (inl r)
state_rule (ends_wrongly s l r c is never none) = inr (inl r)
state_rule (ends_unstamped s l b j r c is commit fits stamped lacks) = inr (inl r)
state_rule (done_unreserved r c blank none) = inr (inr r)
state_rule (done_unended s l r c is blank) = inr (inr r)
state_rule (done_abandoned s l r c is) = inr (inr r)
state_rule (done_wrongly s l b j r c is never) = inr (inr r)

walk_rule : (rule : ℕ) → (rule ≡ RESERVE_CELL) ⊎ (rule ≡ OUTCOME_CELL) ⊎ (rule ≡ DONE_CELL) → IsWalkRule rule
walk_rule rule h = ⊎_elim inl (λ rest. inr (⊎_elim inl (λ d. inr (inl d)) rest)) h

-- evidence of a look at a slot
pub names_licensed : (g : Layout) (horizon edge n : ℕ) (old new : ViewState) (e : Evidence) → Viewed old new
    → NamesDocument g n old new e → IsPathLicensed g horizon edge old new e
names_licensed g horizon edge n old new e viewed (of_state out) = record {
  rule = walk_rule e.rule (state_rule out.seen);
  stands = out.shown.stands;
  broken = λ still volume until ends. out.shown.broken still volume;
}
names_licensed g horizon edge n old new e viewed (of_document b) = record {
  rule = inr (inr (inr (inl b.rule)));
  stands = b.found;
  broken = λ still volume until ends.
      document_broken volume b.rule b.cell b.done
      (λ id body h. b.none id body (held_on (same_back ((rests_of viewed).shown still)) h));
}

-- a slot at or past a horizon is not live
not_live : (g : Layout) (image : Image) (u n : ℕ) → IsHorizon g image image u → u ≤ n → IsLive g image n → ⊥
not_live g image u n until late live = ⊎_elim (λ below. taken below) (λ same. own same) (less_or_same u n late)
  where
    less_or_same : (a b : ℕ) → a ≤ b → (a < b) ⊎ (b ≡ a)
    less_or_same a b le = grind (arith, le)

    none_some : (x : List ℕ) → None ≡ Some x → ⊥
    none_some x e = cc

    taken : u < n → ⊥
    taken below =
        let w = live.taken u below in
        none_some w.found (sym (until.free (omega (arith, below, live.slot))) ∙ w.stands)

    own : n ≡ u → ⊥
    own same =
        let r = live.done.done.commits.reserves.reserve in
        none_some r.cell (sym (until.free (omega (arith, same, live.slot)))
        ∙ ap (λ (m : ℕ). image (reserve_at m)) (sym same) ∙ r.stands)

buckets : (a b : ℕ) (f h : List ℕ) → Bucket a f ≡ Bucket b h → a ≡ b
buckets a b f h e = cc

-- a bucket of a node that is the root or lies within the bounds is one of the root or of the pool
node_bucket : (g : Layout) (edge half cell : ℕ) (led : Option ChildCell) → AreBounds g edge → IsNodeWithin g edge led
    → half < 16 → cell ≡ node_in g led + half → LiesIn g Root cell ⊎ IsOfPool g cell
node_bucket g edge half cell None bounds within less is =
    inl (record { exists = _; from = omega (arith, is); below = omega (arith, is, less) })
node_bucket g edge half cell (Some child) bounds within less is =
    inr (omega (arith, is, within.0), omega (arith, is, less, within.1, bounds.to))

-- a bucket on the path that names a slot at or past the horizon, or one that is not done
pub fake_licensed : (g : Layout) (horizon edge : ℕ) (id : List ℕ) (old mid new : ViewState) (named : Named)
    (level : Level) (e : Evidence) → AreBounds g edge → IsNodeWithin g edge level.led_by → level.digest ≡ sha256 id
    → Viewed old mid → Viewed mid new → IsLevelReached g new.image level → named.bucket ≡ bucket_at g level
    → e.rule ≡ FAKE_BUCKET → e.cell ≡ named.bucket → IsFake g horizon named mid.image new.image e
    → IsPathLicensed g horizon edge old new e
fake_licensed g horizon edge id old mid new named level e bounds within digest before after reached at rule cell f =
    let half : nibble level.digest level.number < 16 =
    subst (λ (d : List ℕ). nibble d level.number < 16) (sym digest) (half_byte id level.number) in
    record {
      rule = inr (inr (inr (inr (inl rule))));
      stands = ap new.image cell ∙ f.found;
      broken = λ still volume until ends. record {
        layout = g;
        volume = volume;
        rule = Buckets;
        named = rule;
        place = node_bucket g edge _ e.cell level.led_by bounds within half (cell ∙ at);
        written = record { found = e.found; stands = ap new.image cell ∙ f.found };
        not_met = λ met.
            let t = met level.number (node_of g level) (nibble level.digest level.number) reached half (cell ∙ at) in
            let here : Holds new.image named.bucket (Bucket t.slot t.fingerprint) =
            subst (λ (c : ℕ). Holds new.image c (Bucket t.slot t.fingerprint)) (sym at) t.bucket in
            let same = buckets _ _ _ _ (one_record_holds new.image named.bucket _ _ here f.holds) in
            let live : IsLive g new.image named.slot = subst (λ (n : ℕ). IsLive g new.image n) same t.live in
            ⊎_elim
            (λ late. not_live g new.image horizon named.slot until late live)
            (λ undone. undone (done_back (same_back ((rests_of after).shown
            (still_second before.called.foreign_writes after.called.foreign_writes still))) live.done))
            f.why;
      };
    }
