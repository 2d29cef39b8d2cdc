-- What holds of a result that is there.
use Rattle.std.proofs.Common.{IfOk, Result, Ok, Err}

-- what holds of it follows from what held
pub IfOk-mapped : {X E : Type 0} {P Q : X → Type 0} (r : Result X E) → ((x : X) → P x → Q x) → IfOk r P → IfOk r Q
IfOk-mapped (Ok x) f p = f x p
IfOk-mapped (Err e) f p = p
