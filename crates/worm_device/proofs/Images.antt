-- How images that grow one after another compare.
use Rattle.std.proofs.Common.{◌∙◌}
use Rattle.cell_types.specs.Image.{Image, Extends, Between, IsUnchanged}

-- an image extends itself
pub extends_self : (a : Image) → Extends a a
extends_self a = record { keeps = λ cell value h. h }

-- what extends an extending image extends the first
pub extends_then : {a b c : Image} → Extends a b → Extends b c → Extends a c
extends_then p q = record { keeps = λ cell value h. q.keeps cell value (p.keeps cell value h) }

-- what is between two images is between any that lie further apart
pub between_wider : {low low' high high' image : Image} → Extends low low' → Extends high' high
    → Between low' high' image → Between low high image
between_wider p q b = record { above = extends_then p b.above; below = extends_then b.below q }

-- what has not changed twice has not changed
pub unchanged_then : {a b c : Image} → IsUnchanged a b → IsUnchanged b c → IsUnchanged a c
unchanged_then p q = λ cell. q cell ∙ p cell
