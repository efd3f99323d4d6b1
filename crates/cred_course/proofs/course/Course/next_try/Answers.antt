use Rattle.std.proofs.Common.{rules}
use Rattle.cred_course.proofs.course.Course.next_try.Goals as goal

pub returns-then-self-lt-TRIES : goal.returns-then-self-lt-TRIES
returns-then-self-lt-TRIES c = search rules
