-- By which of the two calls of the host it ended.
use Rattle.std.proofs.Common.{refl}
use Rattle.std.proofs.lemmas.Option.{none-some, same_Some}
use Rattle.host_files.proofs.Beginning.{not_held, other_size, took_hold}
use Rattle.host_files.proofs.os_file.OsFile.take_hold.Goals as goal

pub returns-in-Err-clause-begins : goal.returns-in-Err-clause-begins
returns-in-Err-clause-begins g c = not_held _ _ c.requires c.in-Err.ensures refl

pub returns-in-Ok-clause-begins : goal.returns-in-Ok-clause-begins
returns-in-Ok-clause-begins g c =
    took_hold _ _ _ _ c.requires c.in_default.ensures c.in-Ok.ensures c.if-found-self.true refl

pub returns-in-Ok-2-clause-begins : goal.returns-in-Ok-2-clause-begins
returns-in-Ok-2-clause-begins g c =
    other_size _ _ _ _ c.requires c.in_default.ensures c.in-Ok.ensures
    (λ same. c.if-found-self.false (same_Some _ _ same)) refl

pub returns-in-Err-count_bytes-clause-begins : goal.returns-in-Err-count_bytes-clause-begins
returns-in-Err-count_bytes-clause-begins g c =
    other_size _ _ _ _ c.requires c.in_default.ensures c.in-Err-count_bytes.ensures (none-some _) refl
