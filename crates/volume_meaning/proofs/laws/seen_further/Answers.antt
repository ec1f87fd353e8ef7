-- Each part, by its own lemma.
use Rattle.volume_meaning.proofs.Extending.{unused_further, reserved_further, abandoned_further, committed_further, done_on, ended_further, horizon_further, edge_further, live_on}
use Rattle.volume_meaning.proofs.laws.seen_further.Goals as goal

pub returns : goal.returns
returns c = record {
  unused = λ g before before' n e u. unused_further e e u;
  reserved = λ g before before' after after' n start length e f r. reserved_further e f r;
  abandoned = λ g before before' after after' n start length e f r. abandoned_further e f r;
  committed = λ g before before' after after' n start length bytes journal e f r. committed_further e f r;
  done = λ g after after' n start length bytes journal f r. done_on f r;
  ended = λ g before before' after after' n e f h. ended_further e f h;
  horizon = λ g before before' after after' u e f h. horizon_further e f h;
  edge = λ g before before' after after' at e f h. edge_further e f h;
  live = λ g after after' n f l. live_on f f l;
}
