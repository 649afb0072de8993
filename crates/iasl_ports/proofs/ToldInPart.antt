-- A text that was told whole or in part.
use Rattle.std.specs.Prelude.{ℕ, List, length, take, Ok, Err, OnOk, OnErr}
use Rattle.std.specs.declared.option.Option.{Option}
use Rattle.std.specs.declared.result.Result.{Result}
use Rattle.std.proofs.Math.Seq.{take-length}
use Rattle.iasl_ports.specs.Gained.{Gains}

pub told_in_part : {T E : Type 0} {a b : Option (List ℕ)} (text : List ℕ) (result : Result T E) → OnOk result (Gains a b text) → OnErr result ((n : ℕ) × Gains a b (take n text)) → (n : ℕ) × Gains a b (take n text)
told_in_part text (Ok x) all some = (length text, rw take-length all)
told_in_part text (Err e) all some = some
