-- The need of a document lies between what it takes at least and at most.
use Rattle.std.proofs.Common.{◌≤◌, ◌*◌, ℕ, List, length, arith}
use Rattle.cell_types.specs.Image.{Image}
use Rattle.cell_types.specs.Layout.{Layout}
use Rattle.volume_meaning.specs.Blocks.{PostingFields}
use Rattle.volume_meaning.specs.Postings.{ListedPosting}
use Rattle.ingest_laws.specs.Needs.{PostingCosts, in_block, in_tail, in_new_block, PostingsCost, none, one, BucketCosts, in_bucket, in_new_node, NeedIsBounded}

posting_costs : {from head : ℕ} {p : PostingFields} {old new : Image} {next to cost : ℕ}
    → PostingCosts from head p old new next to cost → (1 ≤ cost) × (cost ≤ 258)
posting_costs (in_block block place walk room adds holds to is) = (omega arith, omega arith)
posting_costs (in_tail block pointer tail place walk ends is_tail room adds to is) = (omega arith, omega arith)
posting_costs (in_new_block block pointer tail walk ends is_tail full adds to is) = (omega arith, omega arith)

postings_cost : {g : Layout} {new : Image} {to : ℕ} {rows : List ListedPosting} {old : Image} {next cost : ℕ}
    → PostingsCost g new to rows old next cost
    → (length rows ≤ cost) × (cost ≤ 258 * length rows)
postings_cost (none old next cost same to is) = (omega arith, omega arith)
postings_cost (one a rows old mid next then cost first rest c costs is) =
    let f = posting_costs c in
    let r = postings_cost costs in
    (omega (arith, f.0, r.0), omega (arith, f.1, r.1))

bucket_costs : {g : Layout} {image : Image} {id : List ℕ} {cost : ℕ} → BucketCosts g image id cost
    → (1 ≤ cost) × (cost ≤ 34)
bucket_costs (in_bucket level node path blank is) = (omega arith, omega arith)
bucket_costs (in_new_node level node less path passed blank is) = (omega arith, omega arith)

pub need_bounded : NeedIsBounded
need_bounded g image n id body stamp need is =
    let p = postings_cost is.costs in
    let b = bucket_costs is.bucket_costs in
    (omega (arith, p.0, b.0, is.sum), omega (arith, p.1, b.1, is.sum))
