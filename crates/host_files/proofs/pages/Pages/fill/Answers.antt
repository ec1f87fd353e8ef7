use Rattle.host_files.proofs.PageSets.{holds_set, apart_set, alone_loaded, none_holds}
use Rattle.host_files.proofs.pages.Pages.fill.Goals as goal

pub invariant_of-self-clause-apart : goal.invariant_of-self-clause-apart
invariant_of-self-clause-apart g c =
    let pages = c.args.self.now.pages.items in
    apart_set pages c.oldest-frame.result c.load.new.self c.args.self.now.apart
    (alone_loaded pages c.oldest-frame.result c.args.number c.load.new.self c.load.result c.load.ensures.number
    c.load.ensures.nothing
    c.requires.new)

pub returns-in_err-load-clause-holds : goal.returns-in_err-load-clause-holds
returns-in_err-load-clause-holds g c told is old =
    holds_set c.args.cells told.now.bytes _ _ c.load.new.self old
    (none_holds c.args.cells told.now.bytes c.load.new.self c.in_err-load.ensures.nothing)

pub returns-clause-holds : goal.returns-clause-holds
returns-clause-holds g c told is old =
    holds_set c.args.cells told.now.bytes _ _ c.load.new.self old (c.in_ok-load.ensures.holds told is)
