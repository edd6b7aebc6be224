use Rattle.std.proofs.Common.{append_assoc}
use Rattle.cics_run.proofs.messages.findings.push_finding.Goals as goal

pub returns-in_ok-push_head-in-DirtyRead : goal.returns-in_ok-push_head-in-DirtyRead
returns-in_ok-push_head-in-DirtyRead c = rw c.in-DirtyRead.is (simp (append_assoc) (simp (append_assoc) at (rw (c.in_ok-push_head-in-DirtyRead.ensures, c.fate_words.ensures) at c.push_str.ensures)))

pub returns-in_ok-push_head-in-LostUpdate : goal.returns-in_ok-push_head-in-LostUpdate
returns-in_ok-push_head-in-LostUpdate c = rw c.in-LostUpdate.is (simp (append_assoc) (simp (append_assoc) at (rw c.in_ok-push_head-in-LostUpdate.ensures at c.push_rest.ensures)))

pub returns-in_ok-push_head-in-WriteSkew : goal.returns-in_ok-push_head-in-WriteSkew
returns-in_ok-push_head-in-WriteSkew c = rw c.in-WriteSkew.is (simp (append_assoc) (simp (append_assoc) at (rw c.in_ok-push_head-in-WriteSkew.ensures at c.push_rest-in-WriteSkew.ensures)))
