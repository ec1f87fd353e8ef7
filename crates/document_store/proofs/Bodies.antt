-- The body of a part's document, put into a sink.
use Rattle.std.proofs.Common.{◌≡◌, ℕ, Bool, true, false, length, Result, Ok, Err, refl, sym, ◌∙◌, inl, inr, subst, arith}
use Rattle.std.proofs.lemmas.Bool.{cases_Bool}
use Rattle.std.proofs.lemmas.List.{take_all}
use Rattle.std.specs.Prelude.{IsTrue}
use Rattle.cell_types.specs.Layout.{Layout}
use Rattle.cell_types.specs.declared.refusal.Fault.{Fault}
use Rattle.cell_types.specs.declared.refusal.Fault.TheVariants.{Tampered, Failed}
use Rattle.host_ports.specs.Sinks.{Gets, SinkState}
use Rattle.worm_device.specs.Views.{ViewState, Viewed}
use Rattle.tamper_rules.specs.Rules.{HasDocument}
use Rattle.document_store.specs.Heads.{IsWholePart, id_of}
use Rattle.document_store.specs.Looks.{BodyEnds, GotPart, HasPart, HoldsSome, LookFails, TakeEnds, commit_breach}
use Rattle.document_store.specs.Putting.{GotFront, GotRest, PutFails, body_fault_of}
use Rattle.document_store.specs.declared.body.BodyFault.{BodyFault}
use Rattle.document_store.specs.declared.body.BodyFault.TheVariants as bodies
use Rattle.document_store.specs.declared.head.Head.{Head}
use Rattle.document_store.specs.declared.part.Part.{Part}
use Rattle.document_store.specs.declared.putting.PutFault.TheVariants as puts
use Rattle.document_store.proofs.Checking.{has_part_on, read_holds}
use Rattle.document_store.proofs.Holding.{held_in_part, held_on, whole_is_held}
use Rattle.document_store.proofs.Naming.{fails_from, names_commit, told}

-- why no byte was put
pub nothing_put : (g : Layout) (n : ℕ) (old new : ViewState) (sink : SinkState) (fault : Fault)
    → LookFails g n old new fault → BodyEnds g n old new sink sink (Err (body_fault_of fault))
nothing_put g n old new sink (Tampered e) fails = (fails, refl, inl refl, λ tells. refl)
nothing_put g n old new sink Failed fails = (fails, refl, inl refl)

-- how putting a body ended, from an earlier state on
pub body_from : (g : Layout) (n : ℕ) (old mid new : ViewState) (from to : SinkState) → Viewed old mid → Viewed mid new
    → mid.base.faults ≡ old.base.faults → (result : Result ℕ BodyFault) → BodyEnds g n mid new from to result
    → BodyEnds g n old new from to result
body_from g n old mid new from to before after same (Ok bytes) ends = (ends.0 ∙ same, ends.1, ends.2)
body_from g n old mid new from to before after same (Err (bodies.Tampered e)) ends = (
  fails_from g before after n same (Tampered e) ends.0,
  ends.1,
  ends.2,
  λ tells. ends.3 (told before tells),
)
body_from g n old mid new from to before after same (Err bodies.ReadFault) ends =
    (omega (arith, same, ends.0), ends.1, ends.2)
body_from g n old mid new from to before after same (Err bodies.SinkFault) ends = (ends.0 ∙ same, ends.1, ends.2)

-- not true
not_true : (b : Bool) → b ≡ false → IsTrue b → ⊥
not_true true e t = absurd (let clash : true ≡ false = e in cc)
not_true false e t = absurd (let clash : false ≡ true = t in cc)

module _ (g : Layout) (part : Part) (old new : ViewState) (from to : SinkState) (viewed : Viewed old new)
    (has : HasPart g old part) where
  -- the document was taken
  pub taken : (h : Head) → new.base.faults ≡ old.base.faults → to.faults ≡ from.faults
      → GotRest new part.start part.bytes h from to → TakeEnds g part old new from to (Ok h)
  taken h same kept got =
      (same, kept, record { got = got; holds = read_holds g old new part viewed has h got.has })

  -- it was found broken: its commit cell is named
  pub take_breaks : PutFails part.start part.bytes old new from to puts.Broken
      → TakeEnds g part old new from to (Err (body_fault_of (commit_breach part)))
  take_breaks fails =
      (names_commit g old new part viewed has.slot fails.0 has.is fails.3, fails.1, fails.2, fails.3)

  module _ (some : IsTrue old.base.tells → HoldsSome g old.image part.slot) where
    untold : IsTrue new.base.tells → IsTrue old.base.tells
    untold tells = subst IsTrue viewed.called.tells tells

    -- the part holds the document that the slot held
    held : (tells : IsTrue new.base.tells) → HasDocument new.image part.start part.bytes
    held tells =
        let one = some (untold tells) in
        held_in_part g new.image part.slot part one.id one.body ((has_part_on g old new part viewed has).is tells)
        (held_on viewed.image one.holds)

    whole : (tells : IsTrue new.base.tells) → IsWholePart new part.start part.bytes (held tells).id (held tells).body
    whole tells = let d = held tells in record {
      count = d.count;
      identifier = d.is_identifier;
      most = d.is_body.most;
      told = λ _. (d.is_body, d.spells);
    }

    -- what went out is the front of its body
    got_part : GotFront new part.start part.bytes from to → GotPart g part.slot new from to
    got_part front = elim (cases_Bool new.base.tells) [
      | inl telling ↦
          let d = held telling in
          let w = front.front d.id d.body telling (whole telling) in
          record {
            body = d.body;
            count = length front.got;
            most = w.1;
            gets = subst (Gets from.held to.held) w.0 front.gets;
            holds = λ tells. record {
              id = d.id;
              holds = whole_is_held g new part.slot part d.id d.body tells
                  ((has_part_on g old new part viewed has).is tells) (whole telling);
            };
          }
      | inr silent ↦ record {
        body = front.got;
        count = length front.got;
        most = omega arith;
        gets = subst (Gets from.held to.held) (sym (take_all (length front.got) front.got (omega arith))) front.gets;
        holds = λ tells. absurd (not_true new.base.tells silent tells);
      }
    ]

    -- the whole body went out
    pub put_whole : (h : Head) → TakeEnds g part old new from to (Ok h)
        → BodyEnds g part.slot old new from to (Ok h.body_length)
    put_whole h ends = (
      ends.0,
      ends.1,
      record {
        body = ends.2.got.has.body;
        length_is = sym ends.2.got.has.is_length;
        gets = ends.2.got.gets;
        holds = λ tells. record { id = id_of h; holds = ends.2.holds tells };
      },
    )

    -- or not: over a view that does not tell, what was read whole before may be found broken
    pub put_in_part : (fault : BodyFault) → TakeEnds g part old new from to (Err fault)
        → BodyEnds g part.slot old new from to (Err fault)
    put_in_part (bodies.Tampered e) ends =
        (ends.0, ends.1, inr (got_part ends.2), λ tells. absurd (ends.3 tells (held (told viewed tells))))
    put_in_part bodies.ReadFault ends = (ends.0, ends.1, inr (got_part ends.2))
    put_in_part bodies.SinkFault ends = (ends.0, ends.1, got_part ends.2)
