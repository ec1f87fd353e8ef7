-- The search for the tail of a list.
use Rattle.std.proofs.Common.{◌<◌, ◌≤◌, ◌+◌, ◌*◌, ◌^◌, ⊎_elim, ℕ, Option, Some, None, Result, Ok, Err, refl, sym, subst, arith}
use Rattle.std.specs.Prelude.{IsTrue}
use Rattle.std.proofs.lemmas.Bool.{cases_lt}
use Rattle.std.proofs.Math.Nat.{pow-le-pow_right, mul-le-mul_right}
use Rattle.cell_types.specs.declared.refusal.Fault.{Fault}
use Rattle.volume_meaning.specs.Blocks.{Leads, arrived, onwards}
use Rattle.volume_meaning.proofs.Extending.{holds_on}
use Rattle.worm_device.specs.Views.{ViewState, Viewed}
use Rattle.worm_device.proofs.Resting.{viewed_then}
use Rattle.jump_block.specs.Spans.{IsSpan}
use Rattle.jump_block.specs.declared.spans.Span.{Span}
use Rattle.jump_block.specs.Pointing.{HasPointer}
use Rattle.jump_insertion.specs.Hopping.{FindsTail, TailLeads}
use Rattle.jump_insertion.specs.declared.entries.Spot.{Spot}
use Rattle.jump_insertion.proofs.Naming.{fault_then}

-- a search after reads
pub tail_then : (head floor next key home : ℕ) (a b c : ViewState) → Viewed a b → (result : Result (Option Spot) Fault)
    → FindsTail head floor next key home b c result → FindsTail head floor next key home a c result
tail_then head floor next key home a b c viewed (Ok None) found =
    record { viewed = viewed_then viewed found.viewed; ends = tt }
tail_then head floor next key home a b c viewed (Ok (Some spot)) found = record {
  viewed = viewed_then viewed found.viewed;
  ends = (
    found.ends.0,
    found.ends.1,
    found.ends.2,
    λ tells. found.ends.3 (subst IsTrue (sym viewed.called.tells) tells),
  );
}
tail_then head floor next key home a b c viewed (Err fault) found = record {
  viewed = viewed_then viewed found.viewed;
  ends = fault_then head floor key a b c viewed fault found.ends;
}

-- the level of a span falls below that of the keys behind the block
pub tail_level_falls : (l bound level : ℕ) (s : Span) → IsSpan l s → s.low < bound → bound ≤ l + 16 ^ level
    → s.level < level
tail_level_falls l bound level s is below narrow = ⊎_elim
    (λ less. less)
    (λ le.
    let up : 16 ^ level ≤ 16 ^ s.level = pow-le-pow_right (omega arith) le in
    let first : 1 * 16 ^ s.level ≤ s.digit * 16 ^ s.level = mul-le-mul_right (16 ^ s.level) is.some in
    absurd (omega (arith, up, first, is.low)))
    (cases_lt s.level level)

-- the target lies behind the block
pub leads_to : {floor next block target l : ℕ} {s : Span} (t : ViewState) → IsSpan l s → floor ≤ target
    → target + 256 ≤ next
    → HasPointer t.image block s.level s.digit target → Leads t.image floor next target block
leads_to {floor} {next} {block} {target} {l} {s} t is from to led =
    onwards block s.level s.digit target is.levels is.some is.digits led from to (arrived target refl)

-- and so does what lies behind the target
pub tail_leads : (head floor next key home block target l : ℕ) (s : Span) (old mid new : ViewState) → IsSpan l s
    → floor ≤ target → target + 256 ≤ next → Viewed old mid
    → (IsTrue old.base.tells → HasPointer mid.image block s.level s.digit target)
    → (result : Result (Option Spot) Fault)
    → FindsTail head floor next key home mid new result → TailLeads floor next target mid new result
    → TailLeads floor next block old new result
tail_leads head floor next key home block target l s old mid new is from to viewed led (Ok (Some spot)) found leads =
    λ tells.
    onwards block s.level s.digit target is.levels is.some is.digits (holds_on found.viewed.image (led tells)) from to
    (leads (subst IsTrue (sym viewed.called.tells) tells))
tail_leads head floor next key home block target l s old mid new is from to viewed led (Ok None) found leads = tt
tail_leads head floor next key home block target l s old mid new is from to viewed led (Err fault) found leads = tt
