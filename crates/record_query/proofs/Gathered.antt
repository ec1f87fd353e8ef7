-- The slots that were gathered do not speak of the loans by which they were.
use Rattle.std.proofs.Common.{◌≡◌, ℕ, List, Result, Ok, Err, subst}
use Rattle.std.specs.Global.{Vec}
use Rattle.cell_types.specs.declared.refusal.Evidence.{Evidence}
use Rattle.cell_types.specs.declared.refusal.Refusal.{Refusal}
use Rattle.cell_types.specs.declared.refusal.Refusal.TheVariants as refusals
use Rattle.worm_device.specs.Views.{ViewState}
use Rattle.zigzag_join.specs.Joins.{AllOwe}
use Rattle.cell_types.specs.Layout.{Layout}
use Rattle.document_store.specs.Looks.{HasPart}
use Rattle.document_store.specs.declared.part.Part.{Part}
use Rattle.posting_list.specs.Joins.{TermsGather, TermsGatherReads}
use Rattle.posting_list.specs.Naming.{IsShownEvidence}
use Rattle.posting_list.specs.Owing.{Owes}
use Rattle.posting_list.specs.States.{lists_over}
use Rattle.posting_list.specs.declared.reach.Reach.{Reach}
use Rattle.posting_list.specs.declared.sought_term.SoughtTerm.{SoughtTerm}
use Rattle.record_query.proofs.Loans.{lent}

module _ (r : Reach) (terms : List SoughtTerm) (old new : ViewState) (a b c d : List ℕ) where
  owes : (which slot : ℕ) → Owes r terms (lent c old) which slot → Owes r terms (lent a old) which slot
  owes which slot o = record {
    term = o.term;
    there = o.there;
    owed = record {
      tells = o.owed.tells;
      volume = o.owed.volume;
      list = o.owed.list;
      body = o.owed.body;
      postings = o.owed.postings;
      tagged = o.owed.tagged;
      trails = o.owed.trails;
    };
  }

  all_owe : (slot : ℕ) → AllOwe (lists_over r terms 0 (lent c old)) slot → AllOwe (lists_over r terms 0 (lent a old)) slot
  all_owe slot owe which less = owes which slot (owe which less)

  shown : (e : Evidence) → IsShownEvidence r (lent b new) e → IsShownEvidence r (lent d new) e
  shown e s = record { stands = s.stands; broken = s.broken }

  have : (g : Layout) (part : Part) → HasPart g (lent b new) part → HasPart g (lent d new) part
  have g part has = record { slot = has.slot; inside = has.inside; stated = has.stated; is = has.is }

  pub gathers_lent : (result : Result (Vec Part) Refusal) → TermsGather r terms (lent a old) (lent b new) result
      → TermsGather r terms (lent c old) (lent d new) result
  gathers_lent (Ok parts) g = record {
    ends = (
      record {
        all = λ slot owe small. g.ends.0.all slot (all_owe slot owe) small;
        vouched = g.ends.0.vouched;
        live = g.ends.0.live;
        rise = g.ends.0.rise;
      },
      λ part among. have r.volume.geometry part (g.ends.1 part among),
    );
  }
  gathers_lent (Err refusals.DeviceFault) g = record { ends = g.ends }
  gathers_lent (Err (refusals.Tampered e)) g = record {
    ends = (g.ends.0, λ still tells. shown e (g.ends.1 still tells));
  }
  gathers_lent (Err refusals.NoMemory) g = record { ends = tt }
  gathers_lent (Err refusal) g = absurd g.ends

  pub reads_lent : TermsGatherReads r terms (lent a old) (lent b new)
      → TermsGatherReads r terms (lent c old) (lent d new)
  reads_lent g = record { reads = g.reads }

-- the same where the views at entry and at exit are said in another way
pub gathers_then : {r : Reach} {terms : List SoughtTerm} {old was new now : ViewState} {result : Result (Vec Part) Refusal}
    → TermsGather r terms was now result → was ≡ old → now ≡ new → TermsGather r terms old new result
gathers_then {r} {terms} {old} {was} {new} {now} {result} gathers entry exit =
    subst (λ (v : ViewState). TermsGather r terms v new result) entry
    (subst (λ (v : ViewState). TermsGather r terms was v result) exit gathers)

pub reads_then : {r : Reach} {terms : List SoughtTerm} {old was new now : ViewState} → TermsGatherReads r terms was now
    → was ≡ old → now ≡ new → TermsGatherReads r terms old new
reads_then {r} {terms} {old} {was} {new} {now} reads entry exit =
    subst (λ (v : ViewState). TermsGatherReads r terms v new) entry
    (subst (λ (v : ViewState). TermsGatherReads r terms was v) exit reads)
