-- With no places; at its place.
use Rattle.std.proofs.Common.{inl, inr, refl, ⊎_elim}
use Rattle.read_cache.proofs.Recently.{places_one}
use Rattle.read_cache.proofs.cell_cache.CellCache.keep.Goals as goal

pub returns-then-self-eq0 : goal.returns-then-self-eq0
returns-then-self-eq0 c = λ cell found has. ⊎_elim (λ recent. inl (inl recent))
    (λ entry. ⊎_elim (λ was. inl (inr was)) (λ put. inr put) (c.keep.ensures cell found entry)) has

pub returns : goal.returns
returns c = places_one c.args.self.now.places c.args.self.now c.place_of-place.result c.args.at c.args.cell _ refl refl
