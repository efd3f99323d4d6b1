-- What an error leaves: the state as it was.
use Rattle.std.proofs.Common.{Result, Ok, Err, OnErr}

pub on_err : {A E P : Type 0} (given : Result A E) → P → OnErr given P
on_err (Ok x) holds = tt
on_err (Err e) holds = holds
