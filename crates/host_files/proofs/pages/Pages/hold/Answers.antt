use Rattle.std.proofs.Common.{refl, arith}
use Rattle.std.proofs.lemmas.Option.{slice_get_within}
use Rattle.host_files.proofs.pages.Pages.hold.Goals as goal

pub fill-requires-clause-new : goal.fill-requires-clause-new
fill-requires-clause-new g c = c.in_default.ensures.none refl

pub touch-requires-2 : goal.touch-requires-2
touch-requires-2 g c =
    let on = c.in_ok-frame.ensures.on in
    let inside = slice_get_within c.fill.new.self.pages.items c.in_ok-frame.frame on.0 on.1 in
    omega (arith, inside, c.fill.new.self.sixteen)

pub returns-in-Some-clause-holds : goal.returns-in-Some-clause-holds
returns-in-Some-clause-holds g c told is old = c.touch.ensures.holds c.args.cells told.now.bytes old

pub returns-clause-holds : goal.returns-clause-holds
returns-clause-holds g c told is old =
    c.touch-2.ensures.holds c.args.cells told.now.bytes (c.fill.ensures.holds told is old)
