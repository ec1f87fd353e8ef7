-- It stands where it was guessed, it is not there, or it is found.
use Rattle.std.proofs.Common.{◌≡◌, ℕ, List, sym, subst, ap}
use Rattle.std.specs.Prelude.{Contains}
use Rattle.list_audit.specs.Tables.{AreOrderedRows, number_of}
use Rattle.list_audit.proofs.Tabling.{at_place, found_row, no_row}
use Rattle.list_audit.proofs.table.PostingTable.place_of.Goals as goal

pub returns-then-is_row_at : goal.returns-then-is_row_at
returns-then-is_row_at c =
    let p = c.args.posting.now in
    let pair : (c.number_of.result, p.tag) ≡ (number_of c.args.list p.key p.last, p.tag) =
    ap (λ (n : ℕ). (n, p.tag)) c.number_of.ensures in
    record {
      some = subst (Contains c.args.self.now.rows.items) pair
          (subst (λ (l : List (ℕ × List ℕ)). Contains l (c.number_of.result, p.tag)) c.deref.ensures.value
          (at_place c.deref.result.now c.args.guess (c.number_of.result, p.tag) (c.is_row_at.ensures c.if-is_row_at.true)));
      none = tt;
    }

pub returns-in_default : goal.returns-in_default
returns-in_default c =
    let p = c.args.posting.now in
    let rows = c.args.self.now.rows.items in
    let pair : (c.number_of.result, p.tag) ≡ (number_of c.args.list p.key p.last, p.tag) =
    ap (λ (n : ℕ). (n, p.tag)) c.number_of.ensures in
    record {
      some = tt;
      none = λ has. no_row c.deref-2.result.now (c.number_of.result, p.tag) c.in_default.field-0 c.in_default.ensures.position
          (subst AreOrderedRows (sym c.deref-2.ensures.value) c.requires)
          (subst (λ (l : List (ℕ × List ℕ)). Contains l (c.number_of.result, p.tag)) (sym c.deref-2.ensures.value)
          (subst (Contains rows) (sym pair) has));
    }

pub returns : goal.returns
returns c =
    let p = c.args.posting.now in
    let pair : (c.number_of.result, p.tag) ≡ (number_of c.args.list p.key p.last, p.tag) =
    ap (λ (n : ℕ). (n, p.tag)) c.number_of.ensures in
    record {
      some = subst (Contains c.args.self.now.rows.items) pair
          (subst (λ (l : List (ℕ × List ℕ)). Contains l (c.number_of.result, p.tag)) c.deref-2.ensures.value
          (found_row c.deref-2.result.now (c.number_of.result, p.tag) c.in-Ok.place c.in-Ok.ensures.bound c.in-Ok.ensures.ok));
      none = tt;
    }
